use Rattle.std.proofs.Common.{◌≤◌, ◌∙◌, not, ap, arith}
use Rattle.ix_cluster.specs.Facts.{has, put}
use Rattle.ix_cluster.specs.Seen.{Log}
use Rattle.ix_cluster.proofs.Marks.{added-log, log_of-put, IsLog-put_other, IsLog-bounded}
use Rattle.ix_cluster.proofs.log.Log.add.Goals as goal

pub invariant_of-self : goal.invariant_of-self
invariant_of-self c =
    let two : 2 ≤ c.self.inside.free = omega (arith, ap (λ (v : Log). v.free) c.self.view_is, c.requires.room) in
    IsLog-put_other c.self.inside.facts.keys c.self.inside.marks.items c.self.inside.places.items _ _ _ c.self.inside.unclaimed c.self.inside.free c.self.invariant c.args.fact c.requires.no_claim c.put_in-added.result c.put_in-added.new.facts.keys c.put_in-added.new.marks.items c.put_in-added.new.places.items c.put_in-added.ensures.added c.put_in-added.ensures.facts c.put_in-added.ensures.marks c.put_in-added.ensures.places _ _ _ c.put_in-added.ensures.fact_room c.put_in-added.ensures.mark_room c.put_in-added.ensures.place_room two c.requires.other

pub returns-clause-added : goal.returns-clause-added
returns-clause-added c = added-log c.self.inside.facts.keys c.self.inside.marks.items c.self.inside.places.items _ _ _ c.self.inside.unclaimed c.self.inside.free c.self.invariant c.args.fact c.requires.no_claim c.put_in-added.result c.put_in-added.new.facts.keys c.put_in-added.new.marks.items c.put_in-added.new.places.items c.put_in-added.ensures.added c.put_in-added.ensures.facts c.put_in-added.ensures.marks c.put_in-added.ensures.places ∙ ap (λ (v : Log). not (has v.facts c.args.fact)) c.self.view_is

pub returns-clause-facts : goal.returns-clause-facts
returns-clause-facts c = log_of-put c.self.inside.facts.keys c.self.inside.marks.items c.self.inside.places.items _ _ _ c.self.inside.unclaimed c.self.inside.free c.self.invariant c.args.fact c.requires.no_claim c.put_in-added.result c.put_in-added.new.facts.keys c.put_in-added.new.marks.items c.put_in-added.new.places.items c.put_in-added.ensures.added c.put_in-added.ensures.facts c.put_in-added.ensures.marks c.put_in-added.ensures.places ∙ ap (λ (v : Log). put v.facts c.args.fact) c.self.view_is

pub returns-clause-bounded : goal.returns-clause-bounded
returns-clause-bounded c =
    let two : 2 ≤ c.self.inside.free = omega (arith, ap (λ (v : Log). v.free) c.self.view_is, c.requires.room) in
    IsLog-bounded _ _ _ _ _ _ _ _ (IsLog-put_other c.self.inside.facts.keys c.self.inside.marks.items c.self.inside.places.items _ _ _ c.self.inside.unclaimed c.self.inside.free c.self.invariant c.args.fact c.requires.no_claim c.put_in-added.result c.put_in-added.new.facts.keys c.put_in-added.new.marks.items c.put_in-added.new.places.items c.put_in-added.ensures.added c.put_in-added.ensures.facts c.put_in-added.ensures.marks c.put_in-added.ensures.places _ _ _ c.put_in-added.ensures.fact_room c.put_in-added.ensures.mark_room c.put_in-added.ensures.place_room two c.requires.other)
