use Rattle.std.proofs.Common.{sym, subst, List}
use Rattle.ix_model.specs.declared.sub.Sub.{Sub}
use Rattle.ix_subtrees.specs.UsefulSubs.{AreUseful}
use Rattle.ix_subtrees.proofs.set.useful.Goals as goal

pub ways_kept-requires : goal.ways_kept-requires
ways_kept-requires c = subst (λ (z : List Sub). AreUseful c.args.plan.now z) (sym c.deref.ensures.value) c.in_ok-kept.ensures.useful

pub alts_kept-requires-clause-useful : goal.alts_kept-requires-clause-useful
alts_kept-requires-clause-useful c = subst (λ (z : List Sub). AreUseful c.args.plan.now z) (sym c.deref-2.ensures.value) c.in_ok-kept.ensures.useful
