use Rattle.std.proofs.Common.{◌≡◌, ◌≤◌, ◌+◌, ◌∙◌, ℕ, Bool, true, false, cond, not, refl, ap, arith}
use mir.Val.{bool_byte}
use Rattle.ix_cluster.specs.declared.fact.Fact.TheVariants.{Desc}
use Rattle.ix_cluster.specs.Facts.{has, put}
use Rattle.ix_cluster.specs.LogPlaces.{log_of}
use Rattle.ix_cluster.specs.Room.{unclaimed_in}
use Rattle.ix_cluster.specs.Seen.{Log}
use Rattle.ix_cluster.proofs.Counts.{unclaimed-put_new}
use Rattle.ix_cluster.proofs.Marks.{added-log, log_of-put, IsLog-put, IsLog-bounded}
use Rattle.ix_cluster.proofs.log.Log.add_descriptor.Goals as goal

byte_is : (b : Bool) → bool_byte b ≡ cond b 1 0
byte_is true = refl
byte_is false = refl

byte_at_most : (b : Bool) → bool_byte b ≤ 1
byte_at_most true = omega arith
byte_at_most false = omega arith

pub invariant_of-self : goal.invariant_of-self
invariant_of-self c =
    let two : 2 ≤ c.self.inside.free = omega (arith, ap (λ (v : Log). v.free) c.self.view_is, c.requires) in
    let desc = Desc c.args.slot c.args.left c.args.pos in
    let log = log_of c.self.inside.facts.keys c.self.inside.places.items in
    let said = added-log c.self.inside.facts.keys c.self.inside.marks.items c.self.inside.places.items _ _ _ c.self.inside.unclaimed c.self.inside.free c.self.invariant (Desc c.args.slot c.args.left c.args.pos) refl c.put_in-added.result c.put_in-added.new.facts.keys c.put_in-added.new.marks.items c.put_in-added.new.places.items c.put_in-added.ensures.added c.put_in-added.ensures.facts c.put_in-added.ensures.marks c.put_in-added.ensures.places in
    let counted : unclaimed_in (put log desc) ≤ unclaimed_in log + bool_byte c.put_in-added.result =
    omega (arith, unclaimed-put_new log desc, byte_is c.put_in-added.result, ap {B = ℕ} (λ b. cond b 1 0) said) in
    IsLog-put c.self.inside.facts.keys c.self.inside.marks.items c.self.inside.places.items _ _ _ c.self.inside.unclaimed c.self.inside.free c.self.invariant (Desc c.args.slot c.args.left c.args.pos) refl c.put_in-added.result c.put_in-added.new.facts.keys c.put_in-added.new.marks.items c.put_in-added.new.places.items c.put_in-added.ensures.added c.put_in-added.ensures.facts c.put_in-added.ensures.marks c.put_in-added.ensures.places _ _ _ (bool_byte c.put_in-added.result) c.put_in-added.ensures.fact_room c.put_in-added.ensures.mark_room c.put_in-added.ensures.place_room two (byte_at_most c.put_in-added.result) counted

pub returns-clause-added : goal.returns-clause-added
returns-clause-added c = added-log c.self.inside.facts.keys c.self.inside.marks.items c.self.inside.places.items _ _ _ c.self.inside.unclaimed c.self.inside.free c.self.invariant (Desc c.args.slot c.args.left c.args.pos) refl c.put_in-added.result c.put_in-added.new.facts.keys c.put_in-added.new.marks.items c.put_in-added.new.places.items c.put_in-added.ensures.added c.put_in-added.ensures.facts c.put_in-added.ensures.marks c.put_in-added.ensures.places ∙ ap (λ (v : Log). not (has v.facts (Desc c.args.slot c.args.left c.args.pos))) c.self.view_is

pub returns-clause-facts : goal.returns-clause-facts
returns-clause-facts c = log_of-put c.self.inside.facts.keys c.self.inside.marks.items c.self.inside.places.items _ _ _ c.self.inside.unclaimed c.self.inside.free c.self.invariant (Desc c.args.slot c.args.left c.args.pos) refl c.put_in-added.result c.put_in-added.new.facts.keys c.put_in-added.new.marks.items c.put_in-added.new.places.items c.put_in-added.ensures.added c.put_in-added.ensures.facts c.put_in-added.ensures.marks c.put_in-added.ensures.places ∙ ap (λ (v : Log). put v.facts (Desc c.args.slot c.args.left c.args.pos)) c.self.view_is

pub returns-clause-bounded : goal.returns-clause-bounded
returns-clause-bounded c = IsLog-bounded _ _ _ _ _ _ _ _ (invariant_of-self c)
