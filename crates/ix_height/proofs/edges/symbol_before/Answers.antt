use Rattle.std.proofs.Common.{rules, ◌≡◌, ◌∙◌, sym, ap, ◌+◌, ◌-◌, ◌≤◌, ℕ, arith}
use Rattle.ix_model.specs.declared.rules.Sym.{Sym}
use Rattle.ix_model.specs.Expansion.Slots.{sym_after}
use Rattle.ix_model.specs.Expansion.SlotPlaces.{HasNext}
use Rattle.ix_model.proofs.SlotReaders.{next_reads, reads_next}
use Rattle.ix_height.proofs.Gathering.{if_some_by}
use Rattle.ix_height.proofs.edges.symbol_before.Goals as goal

pub returns-then-slot-eq0-clause-only : goal.returns-then-slot-eq0-clause-only
returns-then-slot-eq0-clause-only c = λ v x h.
    let zero : c.args.slot ≡ 0 = search rules in
    absurd (omega (arith, zero, (next_reads c.args.plan.now c.requires.planned v c.args.slot x h).2))

pub returns-else-slot-eq0-clause-some : goal.returns-else-slot-eq0-clause-some
returns-else-slot-eq0-clause-some c =
    let some : 1 ≤ c.args.slot = search rules in
    if_some_by c.sym.result (λ (x : Sym). (v : ℕ) × (v + 1 ≡ c.args.slot) × HasNext c.args.plan.now v c.args.slot x) (λ x e. (
      c.args.slot - 1,
      omega (arith, some),
      reads_next c.args.plan.now c.requires.planned (c.args.slot - 1) c.args.slot x (omega (arith, some, c.requires.slot), sym c.sym.ensures.symbol ∙ e, omega (arith, some)),
    ))

pub returns-else-slot-eq0-clause-only : goal.returns-else-slot-eq0-clause-only
returns-else-slot-eq0-clause-only c = λ v x h.
    let r = next_reads c.args.plan.now c.requires.planned v c.args.slot x h in
    let back : c.args.slot - 1 ≡ v = omega (arith, r.2) in
    (c.sym.ensures.symbol ∙ ap (sym_after c.args.plan.now) back ∙ r.1, omega (arith, r.2))
