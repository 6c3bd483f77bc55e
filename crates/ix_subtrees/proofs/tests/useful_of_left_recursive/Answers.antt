use Rattle.std.proofs.Common.{◌∙◌, sym, subst, List, arith}
use Rattle.ix_model.specs.declared.sub.Sub.{Sub}
use Rattle.ix_model.specs.Expansion.Parts.{Parts}
use Rattle.ix_closure_laws.specs.PartLists.{AreParts}
use Rattle.ix_examples.specs.TestPlans.{left_recursive}
use Rattle.ix_subtrees.proofs.LeftRecursion.{parts_left}
use Rattle.ix_subtrees.proofs.tests.useful_of_left_recursive.Goals as goal

pub useful-requires : goal.useful-requires
useful-requires c =
    subst (λ (plan : Parts). AreParts plan c.deref.result.now) (sym c.in_ok-plan.ensures)
    (subst (λ (subs : List Sub). AreParts (left_recursive c.args.count) subs) (sym (c.deref.ensures.value ∙ c.in_ok-subs.ensures)) (parts_left c.args.count (omega arith)))
