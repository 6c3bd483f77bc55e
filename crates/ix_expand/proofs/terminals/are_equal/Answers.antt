use Rattle.std.proofs.Common.{rules, ◌≡◌, arith}
use Rattle.std.proofs.lemmas.Slice.Eq.{slice_eq-Decides}
use Rattle.ix_expand.proofs.terminals.are_equal.Goals as goal

pub returns : goal.returns
returns c = (slice_eq-Decides (λ a b. (λ h. grind arith, λ h. grind arith)) _ _ c.eq.result c.eq.ensures).0
