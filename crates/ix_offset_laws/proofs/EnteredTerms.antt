-- Where a term of the written grammar is entered, a descriptor stands with its dot before a symbol that the term became.
use Rattle.std.proofs.Common.{◌≡◌, refl, ap, subst, ◌+◌, ℕ, suc, List, [], ◌∷◌, Option, Some, None, arith, slice_get}
use mathlib.Core.Logic.{inl, inr}
use Rattle.std.specs.List.{AllByRecursion}
use Rattle.std.specs.Char.{IsScalar}
use Rattle.ix_model.specs.declared.grammar.Grammar.{Grammar}
use Rattle.ix_model.specs.declared.grammar.Term.{Term, One, Opt}
use Rattle.ix_model.specs.declared.grammar.Factor.{Factor, Call, Group}
use Rattle.ix_model.specs.declared.rules.Kind.TheVariants as kind
use Rattle.ix_model.specs.declared.rules.Sym.{Sym}
use Rattle.ix_model.specs.declared.rules.Sym.TheVariants as sy
use Rattle.ix_model.specs.Expansion.Parts.{Parts}
use Rattle.ix_model.specs.Expansion.Planned.{IsPlanned}
use Rattle.ix_model.specs.Grammars.Names.{HasUniqueNames}
use Rattle.ix_model.specs.Expansion.Slots.{IsSlot}
use Rattle.ix_model.specs.Grammars.Written.{IsOfRule}
use Rattle.ix_model.specs.Derivations.Trees.{text}
use Rattle.ix_model.specs.Derivations.Derives.{Calls, IsGroup}
use Rattle.ix_model.specs.Derivations.Entered.{IsRepetition, IsDerived, AlternativeEntered, of_first_rule, of_call, of_group, PlaceEntered, first_term, next_term, Entered, at_place, of_option, as_item, as_separator, ItemEntered, first_item, next_item, item_behind, SeparatorEntered, separator_behind}
use Rattle.ix_model.specs.Derivations.Offset.{IsReached}
use Rattle.ix_model.specs.Expansion.FlatTrees.{FlatTree}
use Rattle.ix_model.specs.Expansion.FlatDerives.{FlatDerives, IsLine}
use Rattle.ix_model.specs.Expansion.Expanded as X
use Rattle.ix_model.specs.Expansion.Expanded.{Next, line, next_syms, HasFlat, TermBecomes, RepeatBecomes, SeparatorBecomes, FactorBecomes, TermsBecome, Expanded}
use Rattle.ix_model.specs.Expansion.Lower.{lower}
use Rattle.ix_model.specs.Closure.Closed.{Called, start, Desc}
use Rattle.ix_model.proofs.Forms.{same_item}
use Rattle.ix_expansion_laws.proofs.Lifting.{rules_at}
use Rattle.ix_expansion_laws.proofs.Lowering as L
use Rattle.ix_expansion_laws.proofs.Lowering.{map_get, to_alt, to_term, of_one, of_repeat, of_none, of_some, lowers}
use Rattle.ix_offset_laws.proofs.Descriptors.{Before, line_at, called_before, first_desc, after_slot, before_at, before_first, passed}
use Rattle.ix_offset_laws.proofs.ListDescriptors.{ItemAt, BehindAt, list_begins, next_line, list_ends, item_again}

module _ (g : Grammar) (plan : Parts) where
  -- a descriptor stands at p with its dot before a symbol that the term became
  pub record TermAt (t : Term) (p : ℕ) : Type 0 where
    pub from : Next
    pub to : Next
    pub symbol : Sym
    pub becomes : TermBecomes g plan.rules from t symbol to
    pub before : Before plan symbol p

  -- an alternative of a numbered rule that these terms became
  pub record LineOf (terms : List Term) : Type 0 where
    pub rule : ℕ
    pub alt : ℕ
    pub syms : List Sym
    pub from : Next
    pub to : Next
    pub line : IsLine plan rule alt syms
    pub becomes : TermsBecome g plan.rules from terms syms to

  -- these terms became an alternative of a rule that is called at p
  pub record AlternativeAt (terms : List Term) (p : ℕ) : Type 0 where
    pub place : LineOf terms
    pub called : Called plan place.rule p

  -- these terms became an alternative that has a descriptor at p with its dot before symbol n
  pub record PlaceAt (terms : List Term) (n p : ℕ) : Type 0 where
    pub place : LineOf terms
    pub slot : ℕ
    pub left : ℕ
    pub at : IsSlot plan slot place.rule place.alt n
    pub desc : Desc plan slot left p

  module _ (planned : IsPlanned plan) where
    -- the separator that stands there
    separator_there : (f p : Factor) (e : ℕ) → BehindAt g plan f (Some p) e → TermAt (One p) e
    separator_there f p e m =
        let r = m.list.from.rule in
        let y = m.list.item in
        let o = of_some g plan.rules m.list.middle m.list.to (Some p) m.list.separator m.list.separator_becomes p refl in
        let syms = sy.Rule r None ∷ o.0 ∷ y ∷ [] in
        let here = next_line g plan planned f (Some p) m.list syms (ap (next_syms r y) o.1) in
        record { from = m.list.middle; to = m.list.to; symbol = o.0; becomes = X.alone m.list.middle m.list.to p o.0 o.2; before = before_at plan planned m.slot m.left e r 1 1 syms o.0 here m.at refl m.desc }

    -- the item that stands before the end of an alternative of its list
    item_there : (f : Factor) (sep : Option Factor) (p : ℕ) → ItemAt g plan f sep p → TermAt (One f) p
    item_there f sep p m = record {
      from = record m.list.from { rule = m.list.from.rule + 1 };
      to = m.list.middle;
      symbol = m.list.item;
      becomes = X.alone _ m.list.middle f m.list.item m.list.item_becomes;
      before = record { slot = m.slot; left = m.left; after = m.after; desc = m.desc; next = m.next };
    }

    module _ (chars : AllByRecursion IsScalar plan.text) (x : Expanded g plan.rules) (unique : HasUniqueNames g) where
      -- a tree of the term is lowered to a tree of its symbol
      flat_of : (a b : Next) (t : Term) (y : Sym) (p e : ℕ) → TermBecomes g plan.rules a t y b → IsDerived g plan.text t p e → (d : FlatTree) × FlatDerives plan d y p e
      flat_of a b t y p e h d = (lower plan.rules d.0 y, lowers g plan.rules plan.slots plan.text chars x unique d.0 a b t y p e h d.1)

      -- each alternative of a written rule that is called
      named_alternative : (r a : ℕ) (terms : List Term) (p : ℕ) → IsOfRule g r a terms → Called plan r p → AlternativeAt terms p
      named_alternative r a terms p (rule, e, (alt, i, same)) c =
          let w = rules_at g plan.rules 0 _ _ g.rules x.walk r rule e in
          let f : HasFlat plan.rules r kind.Named w.0 = subst (λ (z : ℕ). HasFlat plan.rules z kind.Named w.0) (omega arith) w.3 in
          let m = to_alt g plan.rules w.1 w.2 rule.alts w.0 w.4 a alt i in
          record {
            place = record { rule = r; alt = a; syms = m.0; from = m.1; to = m.2; line = line_at plan r a kind.Named w.0 m.0 f m.3; becomes = subst (λ ts. TermsBecome g plan.rules m.1 ts m.0 m.2) same m.4 };
            called = c;
          }

      -- each alternative of a rule whose call is entered
      called_alternative : (t : Term) (p r a : ℕ) (terms : List Term) → TermAt t p → Calls g t r → IsOfRule g r a terms → AlternativeAt terms p
      called_alternative t p r a terms h (mark, name, e, named) o =
          let c = L.of_call g plan.rules h.from h.to (Call mark name) h.symbol (of_one g plan.rules h.from h.to t h.symbol h.becomes (Call mark name) e) mark name refl in
          let q : c.0 ≡ r = unique c.0 r name c.2 named in
          named_alternative r a terms p o (subst (λ (z : ℕ). Called plan z p) q (called_before plan c.0 mark p (subst (λ z. Before plan z p) c.1 h.before)))

      -- each alternative of a group that is entered
      grouped_alternative : (t : Term) (p a : ℕ) (terms : List Term) → TermAt t p → IsGroup t a terms → AlternativeAt terms p
      grouped_alternative t p a terms h (alts, e, (alt, i, same)) =
          let c = L.of_group g plan.rules h.from h.to (Group alts) h.symbol (of_one g plan.rules h.from h.to t h.symbol h.becomes (Group alts) e) alts refl in
          let m = to_alt g plan.rules _ h.to alts c.0 c.3 a alt i in
          record {
            place = record { rule = h.from.rule; alt = a; syms = m.0; from = m.1; to = m.2; line = line_at plan h.from.rule a kind.Group c.0 m.0 c.2 m.3; becomes = subst (λ ts. TermsBecome g plan.rules m.1 ts m.0 m.2) same m.4 };
            called = called_before plan h.from.rule None p (subst (λ z. Before plan z p) c.1 h.before);
          }

      -- the first term of an alternative
      place_first : (terms : List Term) (p : ℕ) → AlternativeAt terms p → PlaceAt terms 0 p
      place_first terms p h =
          let v = first_desc plan planned h.place.rule h.place.alt p h.place.syms h.place.line h.called in
          record { place = h.place; slot = v.0; left = p; at = v.1; desc = v.2 }

      -- the next term, where one ends
      place_next : (terms : List Term) (n p e : ℕ) (t : Term) → PlaceAt terms n p → slice_get terms n ≡ Some t → IsDerived g plan.text t p e → PlaceAt terms (suc n) e
      place_next terms n p e t h i d =
          let m = to_term g plan.rules h.place.from h.place.to terms h.place.syms h.place.becomes n t i in
          let v = after_slot plan planned h.slot h.place.rule h.place.alt n h.place.syms m.0 h.place.line h.at m.3 in
          let w = flat_of m.1 m.2 t m.0 p e m.4 d in
          let o : n + 1 ≡ suc n = omega arith in
          record {
            place = h.place;
            slot = v.0;
            left = h.left;
            at = subst (λ (z : ℕ). IsSlot plan v.0 h.place.rule h.place.alt z) o v.1;
            desc = passed plan planned h.slot h.left v.0 p e m.0 w.0 h.desc v.2 w.1;
          }

      -- the term at a place, where there is one
      place_term : (terms : List Term) (n p : ℕ) (t : Term) → PlaceAt terms n p → slice_get terms n ≡ Some t → TermAt t p
      place_term terms n p t h i =
          let m = to_term g plan.rules h.place.from h.place.to terms h.place.syms h.place.becomes n t i in
          record { from = m.1; to = m.2; symbol = m.0; becomes = m.4; before = before_at plan planned h.slot h.left p h.place.rule h.place.alt n h.place.syms m.0 h.place.line h.at m.3 h.desc }

      -- what an option holds
      option_term : (t : Term) (f : Factor) (p : ℕ) → TermAt t p → t ≡ Opt f → TermAt (One f) p
      option_term t f p h e =
          let c = L.of_option g plan.rules h.from h.to t h.symbol h.becomes f e in
          let called = called_before plan h.from.rule None p (subst (λ z. Before plan z p) c.1 h.before) in
          let here = line_at plan h.from.rule 0 kind.Opt ((c.0 ∷ []) ∷ [] ∷ []) (c.0 ∷ []) c.2 refl in
          record { from = record h.from { rule = h.from.rule + 1 }; to = h.to; symbol = c.0; becomes = X.alone _ h.to f c.0 c.3; before = before_first plan planned h.from.rule 0 p (c.0 ∷ []) c.0 here called refl }

      -- the first item of a repetition
      repetition_begins : (t : Term) (f : Factor) (sep : Option Factor) (p : ℕ) → TermAt t p → IsRepetition t f sep → ItemAt g plan f sep p
      repetition_begins t f sep p h (inl e) = list_begins g plan planned h.from h.to f sep h.symbol p (L.of_plus g plan.rules h.from h.to t h.symbol h.becomes f sep e) h.before
      repetition_begins t f sep p h (inr e) =
          let c = L.of_star g plan.rules h.from h.to t h.symbol h.becomes f sep e in
          let called = called_before plan h.from.rule None p (subst (λ z. Before plan z p) c.1 h.before) in
          let here = line_at plan h.from.rule 1 kind.Star ([] ∷ (c.0 ∷ []) ∷ []) (c.0 ∷ []) c.2 refl in
          list_begins g plan planned _ h.to f sep c.0 p c.3 (before_first plan planned h.from.rule 1 p (c.0 ∷ []) c.0 here called refl)

      -- where an item ends, its list ends
      item_passed : (f : Factor) (sep : Option Factor) (p e : ℕ) → ItemAt g plan f sep p → IsDerived g plan.text (One f) p e → BehindAt g plan f sep e
      item_passed f sep p e m d =
          let w = flat_of _ m.list.middle (One f) m.list.item p e (X.alone _ m.list.middle f m.list.item m.list.item_becomes) d in
          list_ends g plan planned f sep p e w.0 m w.1

      -- behind a separator the next item stands
      separator_passed : (f p : Factor) (k e : ℕ) → BehindAt g plan f (Some p) k → IsDerived g plan.text (One p) k e → ItemAt g plan f (Some p) e
      separator_passed f p k e m d =
          let r = m.list.from.rule in
          let y = m.list.item in
          let o = of_some g plan.rules m.list.middle m.list.to (Some p) m.list.separator m.list.separator_becomes p refl in
          let syms = sy.Rule r None ∷ o.0 ∷ y ∷ [] in
          let here = next_line g plan planned f (Some p) m.list syms (ap (next_syms r y) o.1) in
          let n = after_slot plan planned m.slot r 1 1 syms o.0 here m.at refl in
          let w = flat_of m.list.middle m.list.to (One p) o.0 k e (X.alone m.list.middle m.list.to p o.0 o.2) d in
          let v = after_slot plan planned n.0 r 1 2 syms y here n.1 refl in
          record { list = m.list; left = m.left; called = m.called; slot = n.0; after = v.0; desc = passed plan planned m.slot m.left n.0 k e o.0 w.0 m.desc n.2 w.1; next = v.2; last = (1, syms, v.1, here) }

      -- a repetition has one item and one separator
      same_item_at : (t : Term) (f h : Factor) (p q : Option Factor) (e : ℕ) → IsRepetition t f p → IsRepetition t h q → ItemAt g plan f p e → ItemAt g plan h q e
      same_item_at t f h p q e a b m =
          let s = same_item t f h p q a b in
          subst (λ z. ItemAt g plan z q e) s.0 (subst (λ z. ItemAt g plan f z e) s.1 m)

      same_behind_at : (t : Term) (f h : Factor) (p q : Option Factor) (e : ℕ) → IsRepetition t f p → IsRepetition t h q → BehindAt g plan f p e → BehindAt g plan h q e
      same_behind_at t f h p q e a b m =
          let s = same_item t f h p q a b in
          subst (λ z. BehindAt g plan z q e) s.0 (subst (λ z. BehindAt g plan f z e) s.1 m)

      -- ---- all of it

      mutual
        alternative_at : (terms : List Term) (i : ℕ) → AlternativeEntered g plan.text terms i → AlternativeAt terms i
        alternative_at _ _ (of_first_rule a ts o) = named_alternative 0 a ts 0 o start
        alternative_at _ _ (of_call t i r a ts h c o) = called_alternative t i r a ts (entered_at t i h) c o
        alternative_at _ _ (of_group t i a ts h o) = grouped_alternative t i a ts (entered_at t i h) o

        place_at : (terms : List Term) (n i : ℕ) → PlaceEntered g plan.text terms n i → PlaceAt terms n i
        place_at _ _ _ (first_term ts i h) = place_first ts i (alternative_at ts i h)
        place_at _ _ _ (next_term ts n k e t h y d) = place_next ts n k e t (place_at ts n k h) y d

        pub entered_at : (t : Term) (i : ℕ) → Entered g plan.text t i → TermAt t i
        entered_at _ _ (at_place ts n i t h y) = place_term ts n i t (place_at ts n i h) y
        entered_at _ _ (of_option t f i h e) = option_term t f i (entered_at t i h) e
        entered_at _ _ (as_item t f sep i h r) = item_there f sep i (item_at t i h f sep r)
        entered_at _ _ (as_separator t f p i h r) = separator_there f p i (separator_at t i h f p r)

        item_at : (t : Term) (i : ℕ) → ItemEntered g plan.text t i → (f : Factor) (sep : Option Factor) → IsRepetition t f sep → ItemAt g plan f sep i
        item_at _ _ (first_item t f sep i h r) f' sep' r' = repetition_begins t f' sep' i (entered_at t i h) r'
        item_at _ _ (next_item t f k e h r d) f' sep' r' = same_item_at t f f' None sep' e r r' (item_again g plan planned f e (item_passed f None k e (item_at t k h f None r) d))
        item_at _ _ (item_behind t f p k e h r d) f' sep' r' = same_item_at t f f' (Some p) sep' e r r' (separator_passed f p k e (separator_at t k h f p r) d)

        separator_at : (t : Term) (i : ℕ) → SeparatorEntered g plan.text t i → (f p : Factor) → IsRepetition t f (Some p) → BehindAt g plan f (Some p) i
        separator_at _ _ (separator_behind t f p k e h r d) f' p' r' = same_behind_at t f f' (Some p) (Some p') e r r' (item_passed f (Some p) k e (item_at t k h f (Some p) r) d)

      -- where a literal or set that is entered ends, a descriptor stands
      pub reached_desc : (j : ℕ) → IsReached g plan.text j → (n : ℕ) × (l : ℕ) × Desc plan n l j
      reached_desc j (t, i, h, m) =
          let a = entered_at t i h in
          let w = flat_of a.from a.to t a.symbol i j a.becomes (text i j, (refl, refl, m)) in
          (a.before.after, a.before.left, passed plan planned a.before.slot a.before.left a.before.after i j a.symbol w.0 a.before.desc a.before.next w.1)
