use Rattle.std.proofs.Common.{refl, [], ◌∷◌}
use Rattle.ix_lex.proofs.tests.doubled_quotes_are_halved.Goals as goal

pub unquote-requires : goal.unquote-requires
unquote-requires g c = record { string = (refl, (39 ∷ 34 ∷ 39 ∷ 97 ∷ 34 ∷ [], refl)) }
