use Rattle.std.proofs.Common.{◌≡◌, ◌-◌, ◌∙◌, ap, sym, subst, None, Some}
use mathlib.Core.Logic.{inl, inr}
use Rattle.ix_model.specs.Expansion.Parts.{Parts}
use Rattle.ix_model.specs.Expansion.Planned.{IsPlanned}
use Rattle.ix_model.specs.Expansion.Slots.{sym_after}
use Rattle.ix_choice.proofs.SlotFacts.{none_before, one_before}
use Rattle.ix_choice.proofs.forest.Forest.before.Goals as goal

pub returns-then-slot-eq0-clause-none : goal.returns-then-slot-eq0-clause-none
returns-then-slot-eq0-clause-none c = λ _. none_before c.args.self.now (subst IsPlanned c.self.view_is c.self.invariant.0) c.args.slot c.requires (inl c.if-slot-eq0.true)

pub returns-in-None-clause-none : goal.returns-in-None-clause-none
returns-in-None-clause-none c = λ _.
    let none : sym_after c.args.self.now (c.args.slot - 1) ≡ None = ap (λ (z : Parts). sym_after z (c.args.slot - 1)) (sym c.self.view_is) ∙ sym c.sym.ensures.symbol ∙ c.in-None.is in
    none_before c.args.self.now (subst IsPlanned c.self.view_is c.self.invariant.0) c.args.slot c.requires (inr none)

pub returns-in-Some-clause-some : goal.returns-in-Some-clause-some
returns-in-Some-clause-some c =
    let some : sym_after c.args.self.now (c.args.slot - 1) ≡ Some c.in-Some.sym = ap (λ (z : Parts). sym_after z (c.args.slot - 1)) (sym c.self.view_is) ∙ sym c.sym.ensures.symbol ∙ c.in-Some.is in
    one_before c.args.self.now (subst IsPlanned c.self.view_is c.self.invariant.0) c.args.slot c.in-Some.sym c.requires c.if-slot-eq0.false some
