use Rattle.std.proofs.Common.{◌≡◌, true, false, [], ◌∷◌, refl, sym, subst}
use Rattle.ix_model.specs.Grammars.Breach.{IsCodePoint}
use Rattle.ix_errors.proofs.Searching.{alone}
use Rattle.ix_errors.proofs.codes.wrong_digits.Goals as goal

pub returns-in-None : goal.returns-in-None
returns-in-None c =
    alone IsCodePoint (c.args.digits.now ∷ []) c.args.digits.now refl (λ known.
    let e : false ≡ true = c.in-None.ensures.known.1 (subst IsCodePoint (sym c.as_slice.ensures) known) in
    cc e)
