-- The descriptors of the rule that a repetition's items became: where its item is entered, and behind an item.
use Rattle.std.proofs.Common.{◌≡◌, refl, ap, subst, ◌+◌, ℕ, List, [], ◌∷◌, Option, Some, None, slice_get}
use Rattle.ix_model.specs.declared.grammar.Grammar.{Grammar}
use Rattle.ix_model.specs.declared.grammar.Factor.{Factor}
use Rattle.ix_model.specs.declared.rules.Kind.TheVariants as kind
use Rattle.ix_model.specs.declared.rules.Sym.{Sym}
use Rattle.ix_model.specs.declared.rules.Sym.TheVariants as sy
use Rattle.ix_model.specs.Expansion.Parts.{Parts}
use Rattle.ix_model.specs.Expansion.Planned.{IsPlanned}
use Rattle.ix_model.specs.Expansion.Slots.{IsSlot}
use Rattle.ix_model.specs.Expansion.FlatTrees.{FlatTree}
use Rattle.ix_model.specs.Expansion.FlatDerives.{FlatDerives, IsLine}
use Rattle.ix_model.specs.Expansion.Expanded.{Next, next_syms, HasFlat, RepeatBecomes, SeparatorBecomes, FactorBecomes}
use Rattle.ix_model.specs.Expansion.SlotPlaces.{HasNext, IsLastSlot}
use Rattle.ix_model.specs.Closure.Closed.{Called, Desc, arrived, waiting, ended, joined}
use Rattle.ix_expansion_laws.proofs.Lowering.{of_repeat, of_none}
use Rattle.ix_offset_laws.proofs.Descriptors.{Before, line_at, called_before, first_desc, after_slot, passed}

-- the first symbol of the list's second alternative is the list
list_first : (p : ℕ) (y : Sym) (sp : Option Sym) → slice_get (next_syms p y sp) 0 ≡ Some (sy.Rule p None)
list_first p y None = refl
list_first p y (Some z) = refl

module _ (g : Grammar) (plan : Parts) where
  -- the rule that the items of a repetition became
  pub record ListOf (f : Factor) (sep : Option Factor) : Type 0 where
    pub from : Next
    pub middle : Next
    pub to : Next
    pub item : Sym
    pub separator : Option Sym
    pub flat : HasFlat plan.rules from.rule kind.List ((item ∷ []) ∷ next_syms from.rule item separator ∷ [])
    pub item_becomes : FactorBecomes g plan.rules (record from { rule = from.rule + 1 }) f item middle
    pub separator_becomes : SeparatorBecomes g plan.rules middle sep separator to

  -- the list is called, and a descriptor of it stands at p with its dot before the item that ends its alternative
  pub record ItemAt (f : Factor) (sep : Option Factor) (p : ℕ) : Type 0 where
    pub list : ListOf f sep
    pub left : ℕ
    pub called : Called plan list.from.rule left
    pub slot : ℕ
    pub after : ℕ
    pub desc : Desc plan slot left p
    pub next : HasNext plan slot after list.item
    pub last : IsLastSlot plan after list.from.rule

  -- the list is called, and the descriptor of its second alternative stands at p with its dot behind the list
  pub record BehindAt (f : Factor) (sep : Option Factor) (p : ℕ) : Type 0 where
    pub list : ListOf f sep
    pub left : ℕ
    pub called : Called plan list.from.rule left
    pub slot : ℕ
    pub at : IsSlot plan slot list.from.rule 1 1
    pub desc : Desc plan slot left p

  module _ (planned : IsPlanned plan) where
    -- a list that a descriptor stands before is called, and its first item is entered
    pub list_begins : (a b : Next) (f : Factor) (sep : Option Factor) (y : Sym) (p : ℕ) → RepeatBecomes g plan.rules a f sep y b → Before plan y p → ItemAt f sep p
    list_begins a b f sep y p k before =
        let c = of_repeat g plan.rules a b f sep y k in
        let called = called_before plan a.rule None p (subst (λ z. Before plan z p) c.3 before) in
        let here : IsLine plan a.rule 0 (c.0 ∷ []) = line_at plan a.rule 0 kind.List ((c.0 ∷ []) ∷ next_syms a.rule c.0 c.1 ∷ []) (c.0 ∷ []) c.4 refl in
        let v = first_desc plan planned a.rule 0 p (c.0 ∷ []) here called in
        let n = after_slot plan planned v.0 a.rule 0 0 (c.0 ∷ []) c.0 here v.1 refl in
        record {
          list = record { from = a; middle = c.2; to = b; item = c.0; separator = c.1; flat = c.4; item_becomes = c.5; separator_becomes = c.6 };
          left = p;
          called = called;
          slot = v.0;
          after = n.0;
          desc = v.2;
          next = n.2;
          last = (0, c.0 ∷ [], n.1, here);
        }

    -- the second alternative of the list
    pub next_line : (f : Factor) (sep : Option Factor) (l : ListOf f sep) (syms : List Sym) → next_syms l.from.rule l.item l.separator ≡ syms → IsLine plan l.from.rule 1 syms
    next_line f sep l syms e = line_at plan l.from.rule 1 kind.List ((l.item ∷ []) ∷ next_syms l.from.rule l.item l.separator ∷ []) syms l.flat (ap (λ z. Some z) e)

    -- the list ends behind an item, and so the list with one item more goes on there
    pub list_ends : (f : Factor) (sep : Option Factor) (p e : ℕ) (d : FlatTree) → (m : ItemAt f sep p) → FlatDerives plan d m.list.item p e → BehindAt f sep e
    list_ends f sep p e d m t =
        let r = m.list.from.rule in
        let end = ended m.after m.left e r (passed plan planned m.slot m.left m.after p e m.list.item d m.desc m.next t) m.last in
        let syms = next_syms r m.list.item m.list.separator in
        let here = next_line f sep m.list syms refl in
        let v = first_desc plan planned r 1 m.left syms here m.called in
        let n = after_slot plan planned v.0 r 1 0 syms (sy.Rule r None) here v.1 (list_first r m.list.item m.list.separator) in
        let edge = waiting v.0 m.left m.left n.0 r None v.2 n.2 in
        record { list = m.list; left = m.left; called = m.called; slot = n.0; at = n.1; desc = arrived n.0 m.left m.left e (joined r m.left v.0 m.left e n.0 None edge end n.2) }

    -- without a separator the next item stands there
    pub item_again : (f : Factor) (e : ℕ) → BehindAt f None e → ItemAt f None e
    item_again f e m =
        let r = m.list.from.rule in
        let y = m.list.item in
        let o = of_none g plan.rules m.list.middle m.list.to None m.list.separator m.list.separator_becomes refl in
        let syms = sy.Rule r None ∷ y ∷ [] in
        let here = next_line f None m.list syms (ap (next_syms r y) o) in
        let n = after_slot plan planned m.slot r 1 1 syms y here m.at refl in
        record { list = m.list; left = m.left; called = m.called; slot = m.slot; after = n.0; desc = m.desc; next = n.2; last = (1, syms, n.1, here) }
