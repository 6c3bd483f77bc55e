-- A node's key is linked to the root's exactly where its subtree is reached.
use Rattle.std.proofs.Common.{◌≡◌, refl, ap, sym, subst, ◌∙◌, ◌⊎◌, ◌+◌, ◌<◌, ℕ, zero, suc, Bool, true, false, List, [], ◌∷◌, length, map, Option, Some, None, arith, get_or, true≢false}
use mathlib.Core.Logic.{inl, inr}
use Rattle.std.specs.List.{Contains}
use Rattle.std.proofs.lemmas.List.Sorted.{Contains-permutation, All-permutation}
use Rattle.std.proofs.lemmas.List.Elements.{All-get_or, All-from_get_or, Contains-append_left, Contains-append_right, Contains-append_cases}
use Rattle.std.proofs.Math.ListN.{get_or-map}
use Rattle.std.proofs.lemmas.List.{get_or_default, length-map}
use Rattle.ix_model.specs.declared.rules.Sym.{Sym}
use Rattle.ix_model.specs.declared.sub.Sub.{Sub}
use Rattle.ix_model.specs.Expansion.Parts.{Parts}
use Rattle.ix_model.specs.Expansion.Planned.{IsPlanned}
use Rattle.ix_model.specs.Expansion.Slots.{info_at, sym_after}
use Rattle.ix_model.specs.Expansion.SlotPlaces.{HasNext, IsLastSlot}
use Rattle.ix_model.specs.Closure.Closed.{Part}
use Rattle.ix_model.specs.Closure.Useful.{Useful}
use Rattle.ix_closure_laws.specs.Reached.{RuleReached, root, as_child, SubReached, as_last, as_prefix}
use Rattle.ix_model.proofs.SlotReaders.{next_reads, reads_last, reads_next}
use Rattle.ix_closure_laws.proofs.ClosedWithin.{part_within}
use Rattle.ix_closure_laws.proofs.Reaching.{reached_part, useful_reached}
use Rattle.ix_closure_laws.proofs.Frames.{useful_of}
use Rattle.ix_subtrees.specs.declared.place.Place.{Place}
use Rattle.ix_subtrees.specs.declared.node.Owner.{Owner}
use Rattle.ix_subtrees.specs.declared.node.Owner.TheVariants.{Slot, Rule}
use Rattle.ix_subtrees.specs.declared.node.Key.{Key}
use Rattle.ix_subtrees.specs.declared.node.Node.{Node}
use Rattle.ix_subtrees.specs.Nodes.{key_at, no_node, IsMarked}
use Rattle.ix_subtrees.specs.Places.{IsPlace, ArePlaces}
use Rattle.ix_subtrees.specs.Walks.{no_place, key_for, keys_of, next_keys, next_at, Linked, here, further, AreLinked}
use Rattle.ix_subtrees.specs.Subs.{no_sub, node_for, sub_of, AreNodes, kept}
use Rattle.ix_subtrees.specs.UsefulSubs.{AreUseful}
use Rattle.ix_closure_laws.specs.PartLists.{AreParts}
use Rattle.ix_subtrees.proofs.Lists.{each_of, nothing_in}

from_keys : (o : Option Owner) (l r : ℕ) (key : Key) → Contains (keys_of o l r) key → (o ≡ Some key.owner) × (l ≡ key.left) × (r ≡ key.right)
from_keys None l r key h = absurd (nothing_in key h)
from_keys (Some w) l r key h = each_of (λ (k : Key). (Some w ≡ Some k.owner) × (l ≡ k.left) × (r ≡ k.right)) (key_for w l r ∷ []) key ((refl, refl, refl), tt) h

to_keys : (o : Option Owner) (w : Owner) (l r : ℕ) → o ≡ Some w → Contains (keys_of o l r) (key_for w l r)
to_keys o w l r e = subst (λ (z : Option Owner). Contains (keys_of z l r) (key_for w l r)) (sym e) (0, omega arith, refl)

pub same_key_for : (key : Key) (o : Owner) (l r : ℕ) → key.owner ≡ o → key.left ≡ l → key.right ≡ r → key ≡ key_for o l r
same_key_for key o l r e f g = λ i. key_for (e i) (f i) (g i)

-- no slot is a rule
slot_not_rule : (s q : ℕ) → Slot s ≡ Rule q → ⊥
slot_not_rule s q e = cc e

same_rule : (p q : ℕ) → Rule p ≡ Rule q → p ≡ q
same_rule p q e = cc e

same_slot : (s t : ℕ) → Slot s ≡ Slot t → s ≡ t
same_slot s t e = cc e

-- what a node stands for
pub record IsOf (plan : Parts) (places : List Place) (n : Node) : Type 0 where
  pub part : Part plan n.slot n.key.left n.pivot n.key.right
  pub owner : n.key.owner ≡ (get_or places n.slot no_place).owner

module _ (plan : Parts) (p : IsPlanned plan) (places : List Place) (subs : List Sub) (nodes : List Node) (at : ArePlaces plan places) (parts : AreParts plan subs) (made : AreNodes places subs nodes) where
  next_below : (s v : ℕ) (x : Sym) → HasNext plan s v x → s < length plan.slots
  next_below s v x h = (next_reads plan p s v x h).0

  Kind : ℕ → Type 0
  Kind s = (s < length plan.slots) × (((q : ℕ) × IsLastSlot plan s q) ⊎ ((v : ℕ) × (x : Sym) × HasNext plan s v x))

  unfoldable slot_kind : (s : ℕ) → s < length plan.slots → Kind s
  unfolding Kind
  slot_kind s h = (h, go (sym_after plan s) refl)
    where
      go : (x : Option Sym) → sym_after plan s ≡ x → ((q : ℕ) × IsLastSlot plan s q) ⊎ ((v : ℕ) × (x : Sym) × HasNext plan s v x)
      go None e = inl ((info_at plan s).head, reads_last plan p s (info_at plan s).head (h, refl, e))
      go (Some x) e = inr (s + 1, x, reads_next plan p s (s + 1) x (h, e, refl))

  part_kind : (s l k r : ℕ) → Part plan s l k r → Kind s
  part_kind s l k r h = slot_kind s (part_within plan p s l k r h).0

  place_at : (s : ℕ) → s < length plan.slots → IsPlace plan s (get_or places s no_place)
  place_at s h = at.each s (omega (arith, h, at.all))

  node_is : (i : ℕ) → i < length nodes → IsOf plan places (get_or nodes i no_node)
  node_is i h = All-get_or (IsOf plan places) nodes i no_node h (All-permutation (IsOf plan places) (map (node_for places) subs) nodes made.same (All-from_get_or (IsOf plan places) (map (node_for places) subs) (node_for places no_sub) each))
    where
      each : (j : ℕ) → j < length (map (node_for places) subs) → IsOf plan places (get_or (map (node_for places) subs) j (node_for places no_sub))
      each j b =
          let o : j < length subs = omega (arith, b, length-map subs (node_for places)) in
          let x = get_or subs j no_sub in
          let part = (parts x).0 (j, o, get_or_default subs j x no_sub o) in
          subst (λ (z : Node). IsOf plan places z) (sym (get_or-map (node_for places) subs j no_sub)) (record { part = part; owner = refl })

  to_node : (s l k r : ℕ) → Part plan s l k r → (i : ℕ) × (i < length nodes) × (get_or nodes i no_node ≡ node_for places (record { slot = s; left = l; pivot = k; right = r }))
  to_node s l k r h =
      let sub : Sub = record { slot = s; left = l; pivot = k; right = r } in
      let c = (parts sub).1 h in
      let e : get_or (map (node_for places) subs) c.0 (node_for places sub) ≡ node_for places sub = get_or-map (node_for places) subs c.0 sub ∙ ap (node_for places) c.2 in
      let n = Contains-permutation (map (node_for places) subs) nodes (node_for places sub) made.same (c.0, omega (arith, c.1, length-map subs (node_for places)), e) in
      (n.0, n.1, get_or_default nodes n.0 no_node (node_for places sub) n.1 ∙ n.2)

  Root : Key
  Root = key_for (Rule 0) 0 (length plan.text)

  -- ---- what is linked is reached

  -- a node of a key that is wanted by a rule, or leads on from a slot
  rule_node : (n : Node) (q l r : ℕ) → IsOf plan places n → RuleReached plan q l r → n.key ≡ key_for (Rule q) l r → SubReached plan n.slot n.key.left n.pivot n.key.right
  unfolding Kind
  rule_node n q l r o w e =
      let k = part_kind n.slot n.key.left n.pivot n.key.right o.part in
      let h = place_at n.slot k.0 in
      let owner : (get_or places n.slot no_place).owner ≡ Rule q = sym o.owner ∙ ap (λ (z : Key). z.owner) e in
      elim k.1 [
        | inl x ↦
            let s : x.0 ≡ q = same_rule x.0 q (sym (h.last x.0 x.1) ∙ owner) in
            let reached : RuleReached plan q n.key.left n.key.right = subst (λ (z : Key). RuleReached plan q z.left z.right) (sym e) w in
            as_last q n.slot n.key.left n.pivot n.key.right reached (subst (λ (z : ℕ). IsLastSlot plan n.slot z) s x.1) o.part
        | inr x ↦ absurd (slot_not_rule n.slot q (sym (h.inner x.0 x.1 x.2) ∙ owner))
      ]

  slot_node : (n : Node) (s after l k r : ℕ) (x : Sym) → IsOf plan places n → SubReached plan after l k r → HasNext plan s after x → n.key ≡ key_for (Slot s) l k → SubReached plan n.slot n.key.left n.pivot n.key.right
  unfolding Kind
  slot_node n s after l k r x o w next e =
      let j = part_kind n.slot n.key.left n.pivot n.key.right o.part in
      let h = place_at n.slot j.0 in
      let owner : (get_or places n.slot no_place).owner ≡ Slot s = sym o.owner ∙ ap (λ (z : Key). z.owner) e in
      elim j.1 [
        | inl y ↦ absurd (slot_not_rule s y.0 (sym owner ∙ h.last y.0 y.1))
        | inr y ↦
            let t : s ≡ n.slot = same_slot s n.slot (sym owner ∙ h.inner y.0 y.1 y.2) in
            let a : Part plan n.slot l n.pivot k = subst (λ (z : Key). Part plan n.slot z.left n.pivot z.right) e o.part in
            subst (λ (z : Key). SubReached plan n.slot z.left n.pivot z.right) (sym e) (as_prefix n.slot after l n.pivot k r x w (subst (λ (z : ℕ). HasNext plan z after x) t next) a)
      ]

  step_reached : (i j : ℕ) (key : Key) → i < length nodes → j < length nodes → key_at nodes i ≡ key → Contains (next_at places nodes j) key → SubReached plan (get_or nodes j no_node).slot (key_at nodes j).left (get_or nodes j no_node).pivot (key_at nodes j).right →
      SubReached plan (get_or nodes i no_node).slot (key_at nodes i).left (get_or nodes i no_node).pivot (key_at nodes i).right
  unfolding Kind
  step_reached i j key b k e a w =
      let N : Node = get_or nodes i no_node in
      let M : Node = get_or nodes j no_node in
      let place : Place = get_or places M.slot no_place in
      let is_place : IsPlace plan M.slot place = place_at M.slot (part_kind M.slot M.key.left M.pivot M.key.right (node_is j k).part).0 in
      elim (Contains-append_cases (keys_of place.before M.key.left M.pivot) (keys_of place.child M.pivot M.key.right) key a) [
        | inl h ↦
            let o = from_keys place.before M.key.left M.pivot key h in
            let y = is_place.only_before key.owner o.0 in
            slot_node N y.0 M.slot M.key.left M.pivot M.key.right y.1 (node_is i b) w y.2 (e ∙ same_key_for key (Slot y.0) M.key.left M.pivot y.3 (sym o.1) (sym o.2))
        | inr h ↦
            let o = from_keys place.child M.pivot M.key.right key h in
            let y = is_place.only_child key.owner o.0 in
            rule_node N y.1 M.pivot M.key.right (node_is i b) (as_child y.0 M.slot M.key.left M.pivot M.key.right y.1 y.2 w y.3) (e ∙ same_key_for key (Rule y.1) M.pivot M.key.right y.4 (sym o.1) (sym o.2))
      ]

  is_reached : (key : Key) → Linked places nodes Root key → (i : ℕ) → i < length nodes → key_at nodes i ≡ key → SubReached plan (get_or nodes i no_node).slot (key_at nodes i).left (get_or nodes i no_node).pivot (key_at nodes i).right
  unfolding Root
  is_reached key here i b e = rule_node (get_or nodes i no_node) 0 0 (length plan.text) (node_is i b) root e
  is_reached key (further j d k l a) i b e = step_reached i j key b k e a (is_reached (key_at nodes j) l j k refl)

  -- ---- what is reached is linked

  abbrev key_of : ℕ → ℕ → ℕ → Key
  key_of s l r = key_for (get_or places s no_place).owner l r

  -- a reached subtree leads on to a key
  leads : (s l k r : ℕ) (key : Key) → Part plan s l k r → Linked places nodes Root (key_of s l r) →
      Contains (next_keys (get_or places s no_place) (node_for places (record { slot = s; left = l; pivot = k; right = r }))) key → Linked places nodes Root key
  leads s l k r key part h a =
      let n = to_node s l k r part in
      further n.0 key n.1 (subst (λ (z : Node). Linked places nodes Root z.key) (sym n.2) h) (subst (λ (z : Node). Contains (next_keys (get_or places z.slot no_place) z) key) (sym n.2) a)

  place_of : (s l k r : ℕ) → Part plan s l k r → IsPlace plan s (get_or places s no_place)
  unfolding Kind
  place_of s l k r h = place_at s (part_kind s l k r h).0

  mutual
    unfolding Root

    rule_linked : (q l r : ℕ) → RuleReached plan q l r → Linked places nodes Root (key_for (Rule q) l r)
    rule_linked q l r root = here
    rule_linked q l r (as_child slot after left pivot right rule mark h n) =
        let part = reached_part plan p after left pivot right h in
        let place : Place = get_or places after no_place in
        leads after left pivot right (key_for (Rule rule) pivot right) part (reached_linked after left pivot right h)
        (Contains-append_right (keys_of place.before left pivot) (keys_of place.child pivot right) (key_for (Rule rule) pivot right) (to_keys place.child (Rule rule) pivot right ((place_of after left pivot right part).child slot rule mark n)))

    reached_linked : (s l k r : ℕ) → SubReached plan s l k r → Linked places nodes Root (key_of s l r)
    reached_linked s l k r (as_last rule slot left pivot right w last part) =
        subst (λ (z : Owner). Linked places nodes Root (key_for z left right)) (sym ((place_of slot left pivot right part).last rule last)) (rule_linked rule left right w)
    reached_linked s l k r (as_prefix slot after left first pivot right x h n part) =
        let big = reached_part plan p after left pivot right h in
        let place : Place = get_or places after no_place in
        subst (λ (z : Owner). Linked places nodes Root (key_for z left pivot)) (sym ((place_of slot left first pivot part).inner after x n))
        (leads after left pivot right (key_for (Slot slot) left pivot) big (reached_linked after left pivot right h)
        (Contains-append_left (keys_of place.before left pivot) (keys_of place.child pivot right) (key_for (Slot slot) left pivot) (to_keys place.before (Slot slot) left pivot ((place_of after left pivot right big).before slot x n))))

  -- ---- what is kept

  kept_from : (ns : List Node) (bs : List Bool) (sub : Sub) → Contains (kept ns bs) sub → (i : ℕ) × (i < length ns) × IsMarked bs i × (sub_of (get_or ns i no_node) ≡ sub)
  kept_from [] bs sub h = absurd (nothing_in sub h)
  kept_from (n ∷ ns) [] sub h = absurd (nothing_in sub h)
  kept_from (n ∷ ns) (true ∷ bs) sub (zero, l, e) = (0, omega arith, refl, e)
  kept_from (n ∷ ns) (true ∷ bs) sub (suc k, l, e) = let t = kept_from ns bs sub (k, omega (arith, l), e) in (suc t.0, omega (arith, t.1), t.2, t.3)
  kept_from (n ∷ ns) (false ∷ bs) sub h = let t = kept_from ns bs sub h in (suc t.0, omega (arith, t.1), t.2, t.3)

  kept_there : (ns : List Node) (bs : List Bool) (i : ℕ) → i < length ns → IsMarked bs i → Contains (kept ns bs) (sub_of (get_or ns i no_node))
  kept_there [] bs i h m = absurd (omega (arith, h))
  kept_there (n ∷ ns) [] i h m = absurd (true≢false (sym m))
  kept_there (n ∷ ns) (true ∷ bs) zero h m = (0, omega arith, refl)
  kept_there (n ∷ ns) (false ∷ bs) zero h m = absurd (true≢false (sym m))
  kept_there (n ∷ ns) (true ∷ bs) (suc i) h m = let t = kept_there ns bs i (omega (arith, h)) m in (suc t.0, omega (arith, t.1), t.2)
  kept_there (n ∷ ns) (false ∷ bs) (suc i) h m = kept_there ns bs i (omega (arith, h)) m

  pub kept_useful : (marks : List Bool) → AreLinked places nodes (key_for (Rule 0) 0 (length plan.text)) marks → AreUseful plan (kept nodes marks)
  unfolding Root
  kept_useful marks w = λ sub. (there sub, back sub)
    where
      there : (sub : Sub) → Contains (kept nodes marks) sub → Useful plan sub
      there sub h =
          let t = kept_from nodes marks sub h in
          let r = is_reached (key_at nodes t.0) (w.sound t.0 t.2) t.0 t.1 refl in
          subst (λ (z : Sub). Useful plan z) t.3 (useful_of plan p (get_or nodes t.0 no_node).slot (key_at nodes t.0).left (get_or nodes t.0 no_node).pivot (key_at nodes t.0).right r)

      back : (sub : Sub) → Useful plan sub → Contains (kept nodes marks) sub
      back sub h =
          let r = useful_reached plan p sub h in
          let n = to_node sub.slot sub.left sub.pivot sub.right (reached_part plan p sub.slot sub.left sub.pivot sub.right r) in
          let l = reached_linked sub.slot sub.left sub.pivot sub.right r in
          let m = w.complete n.0 n.1 (subst (λ (z : Node). Linked places nodes Root z.key) (sym n.2) l) in
          subst (λ (z : Sub). Contains (kept nodes marks) z) (ap sub_of n.2) (kept_there nodes marks n.0 n.1 m)

  pub nodes_below : (i : ℕ) → i < length nodes → (get_or nodes i no_node).slot < length plan.slots
  unfolding Kind
  nodes_below i h = (part_kind (get_or nodes i no_node).slot (key_at nodes i).left (get_or nodes i no_node).pivot (key_at nodes i).right (node_is i h).part).0

pub subs_below : (plan : Parts) → IsPlanned plan → (subs : List Sub) → AreParts plan subs → (i : ℕ) → i < length subs → (get_or subs i no_sub).slot < length plan.slots
subs_below plan p subs parts i h =
    let x = get_or subs i no_sub in
    (part_within plan p x.slot x.left x.pivot x.right ((parts x).0 (i, h, get_or_default subs i x no_sub h))).0

pub useful_below : (plan : Parts) → IsPlanned plan → (subs : List Sub) → AreUseful plan subs → (i : ℕ) → i < length subs → (get_or subs i no_sub).slot < length plan.slots
useful_below plan p subs useful i h =
    let x = get_or subs i no_sub in
    let part = reached_part plan p x.slot x.left x.pivot x.right (useful_reached plan p x ((useful x).0 (i, h, get_or_default subs i x no_sub h))) in
    (part_within plan p x.slot x.left x.pivot x.right part).0
