use Rattle.std.proofs.Common.{rules, ap, subst, ℕ, Some}
use Rattle.ix_subtrees.specs.Gathered.{IsWay, Gathered}
use Rattle.ix_subtrees.proofs.Gathering.{gathered_next}
use Rattle.ix_subtrees.proofs.gather.ways_of.Goals as goal

pub loop-at-preserved : goal.loop-at-preserved
loop-at-preserved c = gathered_next IsWay c.args.subs.now c.loop-at.at c.loop-at.out.items c.push_some.new.out.items (Some c.way_of.result) c.way_of.ensures.way (λ e h. ap Some (c.way_of.ensures.only e h)) c.loop-at.invariant (search rules)

pub returns : goal.returns
returns c = subst (λ (z : ℕ). Gathered IsWay c.args.subs.now z c.loop-at.out.items) (search rules) c.loop-at.invariant
