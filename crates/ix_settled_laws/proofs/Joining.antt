-- Passes that were joined to one.
use Rattle.std.proofs.Common.{◌≡◌, ◌⊎◌, ℕ, List, [], ◌∷◌, ◌++◌, Contains, sym, ap, ◌∙◌, subst, inl, inr}
use Rattle.std.proofs.lemmas.List.Elements.{Contains-append_left, Contains-append_right, Contains-append_cases, Contains-push, Contains-push_cases}
use Rattle.ix_model.specs.Expansion.Parts.{Parts}
use Rattle.ix_cluster.specs.declared.fact.Fact.{Fact}
use Rattle.ix_cluster.specs.Seen.{Bank}
use Rattle.ix_cluster.proofs.Members.{none_has}
use Rattle.ix_rows.specs.Beginnings.{Begins}
use Rattle.ix_rows.specs.Logs.{log_at}
use Rattle.ix_rows.specs.Passes.{Pass}
use Rattle.ix_rows.specs.Views.{both_of, merged}
use Rattle.ix_rows.proofs.Logs.{begins_further}
use Rattle.ix_table.specs.Sights.{Sight, sight_of}
use Rattle.ix_settled_laws.specs.Joined.{Share, Joins, none, one_more}

-- the last knows what each of them knew
pub joins_know : (first : Sight) (shares : List Share) (last : Sight) → Joins first shares last → (share : Share) → Contains shares share → (m : ℕ) → Begins (log_at last.known m) (log_at share.sight.known m)
joins_know first shares last none share h m = absurd (none_has share h)
joins_know first shares last (one_more before old one _ joins own known) share h m = elim (Contains-push_cases before one share h) [
  | inl o ↦ begins_further (log_at last.known m) (log_at old.known m) (log_at share.sight.known m) (known m).0 (joins_know first before old joins share o m)
  | inr e ↦ subst (λ (s : Share). Begins (log_at last.known m) (log_at s.sight.known m)) e (known m).1
]

-- the first has the entry, or one of the shares has
abbrev pub OneHas : Sight → List Share → ℕ → ℕ → Type 0
OneHas first shares m k = Contains first.own (m, k) ⊎ ((share : Share) × Contains shares share × Contains share.sight.own (m, k))

-- what the last has one of them had
pub joins_from : (first : Sight) (shares : List Share) (last : Sight) → Joins first shares last → (m k : ℕ) → Contains last.own (m, k) → OneHas first shares m k
joins_from first shares last none m k h = inl h
joins_from first shares last (one_more before old one _ joins own known) m k h = elim (Contains-append_cases old.own one.sight.own (m, k) (subst (λ (l : List (ℕ × ℕ)). Contains l (m, k)) own h)) [
  | inl o ↦ elim (joins_from first before old joins m k o) [ inl f ↦ inl f | inr s ↦ inr (s.0, Contains-append_left before (one ∷ []) s.0 s.1, s.2) ]
  | inr n ↦ inr (one, Contains-push before one, n)
]

-- and what one of them had the last has
pub joins_have : (first : Sight) (shares : List Share) (last : Sight) → Joins first shares last → (m k : ℕ) → OneHas first shares m k → Contains last.own (m, k)
joins_have first shares last none m k (inl h) = h
joins_have first shares last none m k (inr s) = absurd (none_has s.0 s.1)
joins_have first shares last (one_more before old one _ joins own known) m k had =
    subst (λ (l : List (ℕ × ℕ)). Contains l (m, k)) (sym own) (elim had [
      | inl h ↦ Contains-append_left old.own one.sight.own (m, k) (joins_have first before old joins m k (inl h))
      | inr s ↦ elim (Contains-push_cases before one s.0 s.1) [
        | inl o ↦ Contains-append_left old.own one.sight.own (m, k) (joins_have first before old joins m k (inr (s.0, o, s.2)))
        | inr e ↦ Contains-append_right old.own one.sight.own (m, k) (subst (λ (x : Share). Contains x.sight.own (m, k)) (sym e) s.2)
      ]
    ])

-- a pass of a table that comes back is one more
pub one_pass_more : (first : Sight) (shares : List Share) (root other after : Pass Bank Parts Fact) (share : Share) → Joins first shares (sight_of root) → share.sight ≡ sight_of other → after.me.0 ≡ merged (both_of root.me.0 other.me.0)
    → ((m : ℕ) → Begins (log_at (sight_of after).known m) (log_at (sight_of root).known m) × Begins (log_at (sight_of after).known m) (log_at (sight_of other).known m))
    → Joins first (shares ++ share ∷ []) (sight_of after) × (after.me.0.begun ≡ root.me.0.begun)
one_pass_more first shares root other after share joins is made known = (
  one_more shares (sight_of root) share (sight_of after) joins
      (ap (λ v. v.own) made ∙ ap (λ (s : Sight). root.me.0.own ++ s.own) (sym is))
      (λ m. ((known m).0, subst (λ (s : Sight). Begins (log_at after.me.0.known m) (log_at s.known m)) (sym is) (known m).1)),
  ap (λ v. v.begun) made,
)
