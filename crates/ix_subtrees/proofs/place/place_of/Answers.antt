use Rattle.std.proofs.Common.{rules, ◌≡◌, ◌∙◌, ◌-◌, ap, sym, subst, ℕ, Some, arith}
use Rattle.ix_model.specs.declared.rules.Sym.{Sym}
use Rattle.ix_model.specs.declared.rules.Sym.TheVariants as symbol
use Rattle.ix_model.specs.Expansion.SlotPlaces.{HasNext}
use Rattle.ix_subtrees.specs.declared.node.Owner.TheVariants.{Slot}
use Rattle.ix_subtrees.proofs.place.place_of.Goals as goal

pub returns-in-None : goal.returns-in-None
returns-in-None c = record {
  last = c.owner_of-owner.ensures.last;
  inner = c.owner_of-owner.ensures.inner;
  before = λ v x h. absurd (cc ((c.in-None.ensures.only v x h).0));
  only_before = λ o e. absurd (cc e);
  child = λ v q m h. absurd (cc ((c.in-None.ensures.only v (symbol.Rule q m) h).0));
  only_child = λ o e. absurd (cc e);
}

pub returns-in-Some : goal.returns-in-Some
returns-in-Some c =
    let h = c.in-Some.ensures.some c.in-Some.sym (search rules) in
    let before : c.args.slot - 1 ≡ h.0 = omega (arith, h.1) in
    record {
      last = c.owner_of-owner.ensures.last;
      inner = c.owner_of-owner.ensures.inner;
      before = λ v x k. ap (λ (n : ℕ). Some (Slot n)) (omega (arith, (c.in-Some.ensures.only v x k).1));
      only_before = λ o e. (h.0, c.in-Some.sym, h.2, sym (cc e) ∙ ap Slot before);
      child = λ v q m k. c.child_of.ensures.rule q m (cc ((c.in-Some.ensures.only v (symbol.Rule q m) k).0));
      only_child = λ o e. let k = c.child_of.ensures.only o e in (h.0, k.0, k.1, subst (λ (z : Sym). HasNext c.args.plan.now h.0 c.args.slot z) k.2 h.2, k.3);
    }
