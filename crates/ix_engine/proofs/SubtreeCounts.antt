-- The useful subtrees that a set lists, each once, and how many they are.
use Rattle.std.proofs.Common.{◌≡◌, ◌⊎◌, ℕ, ◌<◌, ◌≤◌, List, length, map, Some, slice_get, sym, ap, ◌∙◌, subst, inl, inr, arith}
use Rattle.std.proofs.lemmas.Bool.{cases_lt}
use Rattle.std.proofs.lemmas.List.{length-map, get_or-map}
use Rattle.std.proofs.lemmas.Option.{slice_get_within, get_or_from_slice_get}
use Rattle.ix_model.specs.declared.sub.Sub.{Sub}
use Rattle.ix_model.specs.Closure.Useful.{Useful}
use Rattle.ix_model.specs.Expansion.Parts.{Parts}
use Rattle.ix_cluster.proofs.Members.{nth_has}
use Rattle.ix_closure.proofs.Lists.ListMembers.{place_in, map_has, map_from}
use Rattle.ix_subtrees.specs.declared.entry.Span.{Span}
use Rattle.ix_subtrees.specs.declared.entry.Entry.{Entry}
use Rattle.ix_subtrees.specs.Entries.{entry_for, entry_at, IsSpanBefore, IsBefore}
use Rattle.ix_subtrees.specs.Sets.{SetLists, IsSetOf, sub_of_entry}
use Rattle.ix_model.specs.Closure.Counting.{Lists, HasCount}

span_not_before : (a : Span) → IsSpanBefore a a → ⊥
span_not_before a (inl h) = omega (arith, h)
span_not_before a (inr (e, inl h)) = omega (arith, h)
span_not_before a (inr (e, inr h)) = omega (arith, h.1)

-- no entry comes before itself
not_before : (e : Entry) → IsBefore e e → ⊥
not_before e (inl h) = span_not_before e.span h
not_before e (inr h) = omega (arith, h.1)

-- entries of one subtree are one
same_entry : (d e : Entry) → sub_of_entry d ≡ sub_of_entry e → d ≡ e
same_entry d e h = ap (λ (z : Sub). entry_for z.slot z.left z.right z.pivot) h

module _ (plan : Parts) (set : SetLists) (of : IsSetOf plan set) where
  subs : List Sub
  subs = map sub_of_entry set.ways

  -- the subtree at a place is that of its entry
  sub_there : (n : ℕ) (sub : Sub) → slice_get subs n ≡ Some sub → (n < length set.ways) × (sub_of_entry (entry_at set.ways n) ≡ sub)
  unfolding subs
  sub_there n sub e =
      let within : n < length set.ways = omega (arith, slice_get_within subs n sub e, length-map set.ways sub_of_entry) in
      (within, sym (get_or-map sub_of_entry set.ways n (entry_for 0 0 0 0) sub within) ∙ get_or_from_slice_get subs n sub sub e)

  places_once : (m n : ℕ) (sub : Sub) → slice_get subs m ≡ Some sub → slice_get subs n ≡ Some sub → m ≡ n
  places_once m n sub d e = go (cases_lt m n) (cases_lt n m)
    where
      a : (m < length set.ways) × (sub_of_entry (entry_at set.ways m) ≡ sub)
      a = sub_there m sub d

      b : (n < length set.ways) × (sub_of_entry (entry_at set.ways n) ≡ sub)
      b = sub_there n sub e

      same : entry_at set.ways m ≡ entry_at set.ways n
      same = same_entry (entry_at set.ways m) (entry_at set.ways n) (a.1 ∙ sym b.1)

      go : (m < n) ⊎ (n ≤ m) → (n < m) ⊎ (m ≤ n) → m ≡ n
      go (inl h) o = absurd (not_before (entry_at set.ways m) (subst (IsBefore (entry_at set.ways m)) (sym same) (of.order m n h b.0)))
      go h (inl o) = absurd (not_before (entry_at set.ways n) (subst (IsBefore (entry_at set.ways n)) same (of.order n m o a.0)))
      go (inr h) (inr o) = omega (arith, h, o)

  subs_listed : Lists (Useful plan) subs
  unfolding subs
  subs_listed = record {
    sound = λ n sub e.
        let p = map_from sub_of_entry set.ways sub (nth_has subs n sub e) in
        subst (Useful plan) p.2 ((of.ways p.0).0 p.1);
    whole = λ sub h. place_in subs sub (map_has sub_of_entry set.ways (entry_for sub.slot sub.left sub.right sub.pivot) ((of.ways (entry_for sub.slot sub.left sub.right sub.pivot)).1 h));
    once = places_once;
  }

  -- the useful subtrees are as many as the set lists
  pub subtrees_counted : (n : ℕ) → n ≡ length set.ways → HasCount (Useful plan) n
  unfolding subs
  subtrees_counted n e = (subs, subs_listed, e ∙ sym (length-map set.ways sub_of_entry))
