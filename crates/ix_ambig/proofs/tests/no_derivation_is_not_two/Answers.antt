use Rattle.std.proofs.Common.{sym, subst, []}
use Rattle.ix_model.specs.Expansion.Parts.{Parts}
use Rattle.ix_closure_laws.specs.PartLists.{AreParts}
use Rattle.ix_subtrees.proofs.SmallSets.{parts_b}
use Rattle.ix_ambig.proofs.tests.no_derivation_is_not_two.Goals as goal

pub useful-requires : goal.useful-requires
useful-requires g c = subst (λ (plan : Parts). AreParts plan ([])) (sym c.in_ok-plan.ensures) parts_b
