-- The edges of the first ways.
use Rattle.std.proofs.Common.{◌≡◌, refl, sym, subst, ◌∙◌, ◌+◌, ◌<◌, ℕ, List, [], ◌∷◌, ◌++◌, length, Option, Some, None, IfSome, arith, get_or}
use mathlib.Core.Logic.{inl, inr}
use Rattle.std.specs.List.{Contains}
use Rattle.std.specs.Option.{option_to_list}
use Rattle.std.proofs.lemmas.List.{get_or_default}
use Rattle.std.proofs.lemmas.List.Elements.{Contains-append_left, Contains-append_right, Contains-append_cases, Contains-push, Contains-push_cases}
use Rattle.ix_model.specs.declared.sub.Sub.{Sub}
use Rattle.ix_model.specs.Expansion.Parts.{Parts}
use Rattle.ix_model.specs.Expansion.Planned.{IsPlanned}
use Rattle.ix_model.specs.Expansion.SlotPlaces.{IsLastSlot}
use Rattle.ix_model.specs.Closure.Useful.{sub_at, Useful}
use Rattle.ix_subtrees.specs.declared.entry.Entry.{Entry}
use Rattle.ix_subtrees.specs.Sets.{AreWays}
use Rattle.std.proofs.lemmas.Bool.{cases_lt}
use Rattle.ix_height.specs.declared.edge.Edge.{Edge}
use Rattle.ix_height.specs.declared.span.Span.{Span}
use Rattle.ix_height.specs.Low.{no_edge}
use Rattle.ix_height.specs.Spans.{of_slot, of_rule, slot_span}
use Rattle.ix_height.specs.Ways.{Way, empty, step, whole}
use Rattle.ix_height.specs.Graph.{IsEdgeOf}
use Rattle.ix_height.specs.SpanLists.{way_at}
use Rattle.ix_height.specs.Edges.{IsStep, IsStepEdge, IsWholeEdge, EdgesSoFar}
use Rattle.ix_height.proofs.Gathering.{useful_at, way_of, option_holds, held_option}
use Rattle.ix_height.proofs.Linking.{useful_step, step_way, whole_way}

module _ (plan : Parts) (planned : IsPlanned plan) (spans : List Span) where
  -- the edge is one of the ways
  abbrev IsWayEdge : Edge → Type 0
  IsWayEdge e = (t : Span) × (one two : Option Span) × Way plan t one two × IsEdgeOf spans e t one two

  pub edges_none : (ways : List Entry) → EdgesSoFar plan spans ways 0 []
  edges_none ways = record { from = λ x h. absurd (omega (arith, h.1)); steps = λ i one two h. absurd (omega (arith, h)); wholes = λ i q h. absurd (omega (arith, h)) }

  abbrev WholeEdge : Sub → Edge → Type 0
  WholeEdge sub e = (q : ℕ) × IsLastSlot plan sub.slot q × IsWholeEdge plan spans sub q e

  edges_next : (ways : List Entry) (at : ℕ) (out : List Edge) (e : Edge) (all : Option Edge) → AreWays plan ways → at < length ways → IsStepEdge plan spans (way_at ways at) e → IfSome all (WholeEdge (way_at ways at)) →
      ((q : ℕ) → IsLastSlot plan (way_at ways at).slot q → IfSome all (λ x. IsWholeEdge plan spans (way_at ways at) q x)) → ((q : ℕ) → IsLastSlot plan (way_at ways at).slot q → all ≡ None → ⊥) → EdgesSoFar plan spans ways at out →
      EdgesSoFar plan spans ways (at + 1) ((out ++ e ∷ []) ++ option_to_list all)
  edges_next ways at out e all w b mine some only there r = record { from = from'; steps = steps'; wholes = wholes' }
    where
      u : Useful plan (way_at ways at)
      u = useful_at plan planned ways at w b

      step_is : IsWayEdge e
      step_is = let s = useful_step plan planned (way_at ways at) u in (slot_span (way_at ways at), s.0, s.1, step_way plan planned (way_at ways at) s.0 s.1 u s.2, mine s.0 s.1 s.2)

      whole_is : (x : Edge) → all ≡ Some x → IsWayEdge x
      whole_is x f =
          let h = subst (λ (z : Option Edge). IfSome z (WholeEdge (way_at ways at))) f some in
          (of_rule h.0 (way_at ways at).left (way_at ways at).right, Some (slot_span (way_at ways at)), None, whole_way plan planned (way_at ways at) h.0 u h.1, h.2)

      from' : (x : Edge) → Contains ((out ++ e ∷ []) ++ option_to_list all) x → IsWayEdge x
      from' x h = elim (Contains-append_cases (out ++ e ∷ []) (option_to_list all) x h) [
        | inl k ↦ elim (Contains-push_cases out e x k) [ inl m ↦ r.from x m | inr m ↦ subst IsWayEdge m step_is ]
        | inr k ↦ whole_is x (option_holds all x k)
      ]

      old : (x : Edge) → Contains out x → Contains ((out ++ e ∷ []) ++ option_to_list all) x
      old x h = Contains-append_left (out ++ e ∷ []) (option_to_list all) x (Contains-append_left out (e ∷ []) x h)

      steps' : (i : ℕ) (one two : Option Span) → i < at + 1 → IsStep plan (way_at ways i) one two → (x : Edge) × Contains ((out ++ e ∷ []) ++ option_to_list all) x × IsEdgeOf spans x (slot_span (way_at ways i)) one two
      steps' i one two h st = elim (cases_lt i at) [
        | inl k ↦ let o = r.steps i one two k st in (o.0, old o.0 o.1, o.2)
        | inr k ↦
            let q : at ≡ i = omega (arith, k, h) in
            (e, Contains-append_left (out ++ e ∷ []) (option_to_list all) e (Contains-push out e), subst (λ (z : ℕ). IsStep plan (way_at ways z) one two → IsEdgeOf spans e (slot_span (way_at ways z)) one two) q (mine one two) st)
      ]

      new : (q : ℕ) → IsLastSlot plan (way_at ways at).slot q → (o : Option Edge) → all ≡ o → (x : Edge) × Contains ((out ++ e ∷ []) ++ option_to_list all) x × IsWholeEdge plan spans (way_at ways at) q x
      new q last None f = absurd (there q last f)
      new q last (Some x) f = (x, Contains-append_right (out ++ e ∷ []) (option_to_list all) x (held_option all x f), subst (λ (z : Option Edge). IfSome z (λ x. IsWholeEdge plan spans (way_at ways at) q x)) f (only q last))

      wholes' : (i q : ℕ) → i < at + 1 → IsLastSlot plan (way_at ways i).slot q → (x : Edge) × Contains ((out ++ e ∷ []) ++ option_to_list all) x × IsWholeEdge plan spans (way_at ways i) q x
      wholes' i q h last = elim (cases_lt i at) [
        | inl k ↦ let o = r.wholes i q k last in (o.0, old o.0 o.1, o.2)
        | inr k ↦
            let same : at ≡ i = omega (arith, k, h) in
            subst (λ (z : ℕ). IsLastSlot plan (way_at ways z).slot q → (x : Edge) × Contains ((out ++ e ∷ []) ++ option_to_list all) x × IsWholeEdge plan spans (way_at ways z) q x) same (λ l. new q l all refl) last
      ]

  pub edges_step : (ways : List Entry) (at : ℕ) (out more : List Edge) (e : Edge) (all : Option Edge) (sub : Sub) → sub ≡ way_at ways at → AreWays plan ways → at < length ways → IsStepEdge plan spans sub e → IfSome all (WholeEdge sub) →
      ((q : ℕ) → IsLastSlot plan sub.slot q → IfSome all (λ x. IsWholeEdge plan spans sub q x)) → ((q : ℕ) → IsLastSlot plan sub.slot q → all ≡ None → ⊥) → more ≡ (out ++ e ∷ []) ++ option_to_list all → EdgesSoFar plan spans ways at out → EdgesSoFar plan spans ways (at + 1) more
  edges_step ways at out more e all sub same w b mine some only there is r = subst (λ (z : List Edge). EdgesSoFar plan spans ways (at + 1) z) (sym is) (go mine some only there)
    where
      go : IsStepEdge plan spans sub e → IfSome all (WholeEdge sub) → ((q : ℕ) → IsLastSlot plan sub.slot q → IfSome all (λ x. IsWholeEdge plan spans sub q x)) → ((q : ℕ) → IsLastSlot plan sub.slot q → all ≡ None → ⊥) → EdgesSoFar plan spans ways (at + 1) ((out ++ e ∷ []) ++ option_to_list all)
      go = subst (λ (z : Sub). IsStepEdge plan spans z e → IfSome all (WholeEdge z) → ((q : ℕ) → IsLastSlot plan z.slot q → IfSome all (λ x. IsWholeEdge plan spans z q x)) → ((q : ℕ) → IsLastSlot plan z.slot q → all ≡ None → ⊥) → EdgesSoFar plan spans ways (at + 1) ((out ++ e ∷ []) ++ option_to_list all)) (sym same)
          (λ f g h k. edges_next ways at out e all w b f g h k r)

  -- ---- all edges

  pub edges_sound : (ways : List Entry) (out : List Edge) → EdgesSoFar plan spans ways (length ways) out → (n : ℕ) → n < length out → IsWayEdge (get_or out n no_edge)
  edges_sound ways out r n h = r.from (get_or out n no_edge) (n, h, get_or_default out n (get_or out n no_edge) no_edge h)

  -- the place of an edge of the list
  placed : (out : List Edge) (t : Span) (one two : Option Span) (x : Edge) → Contains out x → IsEdgeOf spans x t one two → (n : ℕ) × (n < length out) × IsEdgeOf spans (get_or out n no_edge) t one two
  placed out t one two x h is = (h.0, h.1, subst (λ (z : Edge). IsEdgeOf spans z t one two) (sym (get_or_default out h.0 no_edge x h.1 ∙ h.2)) is)

  step_of : (ways : List Entry) (out : List Edge) (s l k p : ℕ) (one two : Option Span) → AreWays plan ways → EdgesSoFar plan spans ways (length ways) out → Useful plan (sub_at s l k p) → IsStep plan (sub_at s l k p) one two → (n : ℕ) × (n < length out) × IsEdgeOf spans (get_or out n no_edge) (of_slot s l p) one two
  step_of ways out s l k p one two w r u st =
      let i = way_of plan planned ways s l k p w u in
      let x = r.steps i.0 one two i.1 (subst (λ (z : Sub). IsStep plan z one two) (sym i.2) st) in
      placed out (of_slot s l p) one two x.0 x.1 (subst (λ (z : Sub). IsEdgeOf spans x.0 (slot_span z) one two) i.2 x.2)

  pub edges_complete : (ways : List Entry) (out : List Edge) → AreWays plan ways → EdgesSoFar plan spans ways (length ways) out → (t : Span) (one two : Option Span) → Way plan t one two → (n : ℕ) × (n < length out) × IsEdgeOf spans (get_or out n no_edge) t one two
  edges_complete ways out w r t one two (empty q s l u f last) = step_of ways out s l l l None None w r u (inl (q, f, last, refl, refl, refl, refl))
  edges_complete ways out w r t one two (step v s l k p x a b u n before child) = step_of ways out s l k p a b w r u (inr (v, x, n, before, child))
  edges_complete ways out w r t one two (whole q s l k p u last) =
      let i = way_of plan planned ways s l k p w u in
      let x = r.wholes i.0 q i.1 (subst (λ (z : Sub). IsLastSlot plan z.slot q) (sym i.2) last) in
      placed out (of_rule q l p) (Some (of_slot s l p)) None x.0 x.1 (subst (λ (z : Sub). IsWholeEdge plan spans z q x.0) i.2 x.2)
