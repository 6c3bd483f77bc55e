-- lists by cluster, through a write of one list
use Rattle.std.proofs.Common.{◌≡◌, ◌<◌, ◌+◌, ℕ, suc, true, false, not, cond, List, [], ◌∷◌, ◌++◌, slice_get, unwrap_or, Option, Some, None, refl, sym, ap, ap₂, ◌∙◌, rules, arith, ◌⊎◌, inl, inr, vec_len, vec_capacity}
use Rattle.std.proofs.lemmas.Bool.{cases_Bool}
use Rattle.std.specs.Cmp.{IsEquivalence}
use Rattle.std.specs.List.{position_or_len}
use Rattle.std.specs.declared.vec.Vec.{Vec}
use Rattle.std.specs.Map.{keys_of, lookup}
use Rattle.std.specs.Option.{option_map_or}
use Rattle.std.proofs.lemmas.Map.Entries.{lookup_from_place}
use Rattle.indexmap.specs.IndexMap.{IndexMap, get, insert_index, IsUnique, insert_entry, with_value_at}
use Rattle.indexmap.proofs.CallerLemmas.{updates-with_value_at}
use Rattle.ix_cluster.specs.declared.cluster.Cluster.{Cluster}
use Rattle.ix_cluster.specs.Lists.{same_cluster, list_at, PushesAt, KeepsLists, IsPlaceFor}
use Rattle.ix_cluster.proofs.Equivalences.{equivalence}

pub same_cluster-true : (a b : Cluster) → same_cluster a b ≡ true → a ≡ b
same_cluster-true a b h = search rules

pub same_cluster-refl : (a : Cluster) → same_cluster a a ≡ true
same_cluster-refl a = search rules

pub same_cluster-equivalence : IsEquivalence same_cluster
same_cluster-equivalence = equivalence same_cluster same_cluster-true same_cluster-refl

module _ {T A S : Type 0} (m n : IndexMap Cluster (Vec T A) S) (c : Cluster) (w : Vec T A)
    (writes : (q : Cluster) → get same_cluster n q ≡ cond (same_cluster c q) (Some w) (get same_cluster m q)) where
  other : (d : Cluster) → same_cluster c d ≡ false → list_at n d ≡ list_at m d
  other d e = ap (λ o. option_map_or (λ (v : Vec T A). v.items) o []) (writes d ∙ ap (λ b. cond b (Some w) (get same_cluster m d)) e)

  own : (d : Cluster) → same_cluster c d ≡ true → list_at n d ≡ w.items
  own d e = ap (λ o. option_map_or (λ (v : Vec T A). v.items) o []) (writes d ∙ ap (λ b. cond b (Some w) (get same_cluster m d)) e)

  -- a write of the same elements keeps the lists
  pub KeepsLists-from_write : w.items ≡ list_at m c → KeepsLists m n
  KeepsLists-from_write same d = by (cases_Bool (same_cluster c d))
    where
      by : (same_cluster c d ≡ true) ⊎ (same_cluster c d ≡ false) → list_at n d ≡ list_at m d
      by (inl e) = own d e ∙ same ∙ ap (list_at m) (same_cluster-true c d e)
      by (inr e) = other d e

  -- a write of one more element pushes it
  pub PushesAt-from_write : (x : T) → w.items ≡ list_at m c ++ x ∷ [] → PushesAt m c x n
  PushesAt-from_write x same d = by (cases_Bool (same_cluster c d))
    where
      by : (same_cluster c d ≡ true) ⊎ (same_cluster c d ≡ false) → list_at n d ≡ cond (same_cluster c d) (list_at m d ++ x ∷ []) (list_at m d)
      by (inl e) = own d e ∙ same ∙ ap (λ z. list_at m z ++ x ∷ []) (same_cluster-true c d e) ∙ sym (ap (λ b. cond b (list_at m d ++ x ∷ []) (list_at m d)) e)
      by (inr e) = other d e ∙ sym (ap (λ b. cond b (list_at m d ++ x ∷ []) (list_at m d)) e)

-- ---- places

module _ {T A S : Type 0} (m : IndexMap Cluster (Vec T A) S) (unique : IsUnique same_cluster m) (place : ℕ) (c : Cluster) (v : Vec T A) (at : slice_get m.entries place ≡ Some (c, v)) where
  pub list-here : v.items ≡ list_at m c
  list-here = sym (ap (λ o. option_map_or (λ (z : Vec T A). z.items) o []) (lookup_from_place same_cluster-equivalence m.entries place c v unique at))

  writes : (w : Vec T A) (q : Cluster) → get same_cluster (with_value_at m place w) q ≡ cond (same_cluster c q) (Some w) (get same_cluster m q)
  writes w = (updates-with_value_at m place w same_cluster-equivalence unique c v at).0

  -- the list at the place is written with one more element
  pub PushesAt-at : (w : Vec T A) (x : T) → w.items ≡ v.items ++ x ∷ [] → PushesAt m c x (with_value_at m place w)
  PushesAt-at w x same = PushesAt-from_write m (with_value_at m place w) c w (writes w) x (same ∙ ap (λ l. l ++ x ∷ []) list-here)

-- the key that is inserted stands where it says
place-inserted : {V : Type 0} (es : List (Cluster × V)) (c : Cluster) (w : V) → slice_get (insert_entry same_cluster es c w) (position_or_len (same_cluster c) (keys_of es)) ≡ Some (c, w)
place-inserted [] c w = refl
place-inserted (e ∷ es) c w = by (cases_Bool (same_cluster c e.0)) (place-inserted es c w)
  where
    by : (same_cluster c e.0 ≡ true) ⊎ (same_cluster c e.0 ≡ false) → slice_get (insert_entry same_cluster es c w) (position_or_len (same_cluster c) (keys_of es)) ≡ Some (c, w) → slice_get (insert_entry same_cluster (e ∷ es) c w) (position_or_len (same_cluster c) (keys_of (e ∷ es))) ≡ Some (c, w)
    by (inl h) rest = ap (λ b. slice_get (cond b ((e.0, w) ∷ es) (e ∷ insert_entry same_cluster es c w)) (cond (not b) (1 + position_or_len (same_cluster c) (keys_of es)) 0)) h ∙ ap (λ z. Some (z, w)) (sym (same_cluster-true c e.0 h))
    by (inr h) rest =
        let one : 1 + position_or_len (same_cluster c) (keys_of es) ≡ suc (position_or_len (same_cluster c) (keys_of es)) = omega arith in
        ap (λ b. slice_get (cond b ((e.0, w) ∷ es) (e ∷ insert_entry same_cluster es c w)) (cond (not b) (1 + position_or_len (same_cluster c) (keys_of es)) 0)) h ∙ ap (slice_get (e ∷ insert_entry same_cluster es c w)) one ∙ rest

module _ {T A S : Type 0} (m n : IndexMap Cluster (Vec T A) S) (c : Cluster) (w : Vec T A) where
  -- the list of the cluster's entry, where it has one, and else the empty one that is put in
  pub entry-list : (default : Vec T A) (now : Vec T A) → default.items ≡ [] → now ≡ unwrap_or (get same_cluster m c) default → w.items ≡ now.items → w.items ≡ list_at m c
  entry-list default now empty is same = same ∙ ap (λ (z : Vec T A). z.items) is ∙ by (get same_cluster m c)
    where
      by : (o : Option (Vec T A)) → (unwrap_or o default).items ≡ option_map_or (λ z. z.items) o []
      by None = empty
      by (Some v) = refl

  pub IsPlaceFor-entry : (place : ℕ) → n.entries ≡ insert_entry same_cluster m.entries c w → place ≡ insert_index same_cluster m c → vec_len w < vec_capacity w → IsPlaceFor n c place
  IsPlaceFor-entry place entries at room = record { list = w; at = ap₂ slice_get entries at ∙ place-inserted m.entries c w; room = room }

-- the same of the entries that are left where a list was lent
pub KeepsLists-entries : {T A S : Type 0} (m n : IndexMap Cluster (Vec T A) S) (left : List (Cluster × Vec T A)) → left ≡ n.entries → KeepsLists m n → (d : Cluster) → option_map_or (λ v. v.items) (lookup (same_cluster d) left) [] ≡ list_at m d
KeepsLists-entries m n left e keeps d = ap (λ es. option_map_or (λ v. v.items) (lookup (same_cluster d) es) []) e ∙ keeps d

-- a push after a step that keeps the lists is a push
pub PushesAt-after_keeps : {T A S : Type 0} (m n p : IndexMap Cluster (Vec T A) S) (c : Cluster) (x : T) → KeepsLists m n → PushesAt n c x p → PushesAt m c x p
PushesAt-after_keeps m n p c x keeps pushes d = pushes d ∙ ap (λ l. cond (same_cluster c d) (l ++ x ∷ []) l) (keeps d)
