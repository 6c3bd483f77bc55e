use Rattle.std.proofs.Common.{ap, arith, ◌++◌, ◌+◌, ◌-◌, ◌∷◌, []}
use Rattle.ix_model.specs.Expansion.Numbering.{slot}
use Rattle.ix_slots.proofs.Dots.{dots_are, next_dot}
use Rattle.ix_slots.proofs.Counting.{added}
use Rattle.ix_slots.proofs.numbering.add_dots.Goals as goal

pub loop-dot-init : goal.loop-dot-init
loop-dot-init c = ap (λ z. c.args.slots.now.items ++ z) (dots_are c.args.head c.args.alt 0 _ c.args.symbols (omega arith))

pub loop-dot-preserved : goal.loop-dot-preserved
loop-dot-preserved c =
    added c.loop-dot.slots.items _ _ (slot c.args.head c.args.alt c.loop-dot.dot ∷ []) _ _ c.in_ok-push.ensures.items
    (next_dot c.args.head c.args.alt c.loop-dot.dot _ (c.args.symbols + 1 - (c.loop-dot.dot + 1)) (omega (arith, c.loop-dot-test.true))) c.loop-dot.invariant
