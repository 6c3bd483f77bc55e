-- The later of positions is the greatest.
use Rattle.std.proofs.Common.{◌≡◌, ◌≢◌, ℕ, List, [], ◌∷◌, max, fold, Contains, refl, arith, ◌⊎◌, inl, inr, subst, sym, ◌∙◌}
use Rattle.std.proofs.lemmas.Bool.{cases_lt}
use Rattle.ix_cluster.specs.declared.fact.Fact.{Fact}
use Rattle.ix_cluster.specs.declared.fact.Fact.TheVariants.{Called, Edge, End, Desc, Part, Claim}
use Rattle.ix_cluster.specs.Banks.{later_of}
use Rattle.ix_cluster.specs.Laws.{IsLaterOf, LaterIsGreatest}
use Rattle.ix_cluster.proofs.Members.{first_has, rest_has, either_has, none_has}

-- a fact that is no descriptor may be left out
module _ (f : Fact) (other : (s l p : ℕ) → f ≢ Desc s l p) where
  behind : (start : ℕ) (facts : List Fact) (pos : ℕ) → IsLaterOf start facts pos → IsLaterOf start (f ∷ facts) pos
  behind start facts pos is = record {
    from = is.from;
    upper = λ s l p h. elim (either_has f facts (Desc s l p) h) [ inl e ↦ absurd (other s l p e) | inr n ↦ is.upper s l p n ];
    reached = elim is.reached [ inl e ↦ inl e | inr h ↦ inr (h.0, h.1, rest_has f facts (Desc h.0 h.1 pos) h.2) ];
  }

one_of : (a b : ℕ) → (max a b ≡ a) ⊎ (max a b ≡ b)
one_of a b = elim (cases_lt a b) [ inl less ↦ inr (omega (arith, less)) | inr more ↦ inl (omega (arith, more)) ]

-- a descriptor counts with its position
behind_descriptor : (s l p start : ℕ) (facts : List Fact) (pos : ℕ) → IsLaterOf (max start p) facts pos → IsLaterOf start (Desc s l p ∷ facts) pos
behind_descriptor s l p start facts pos is = record {
  from = omega (arith, is.from);
  upper = λ s' l' p' h. elim (either_has (Desc s l p) facts (Desc s' l' p') h) [ inl e ↦ (let q : p ≡ p' = (cc) in omega (arith, q, is.from)) | inr n ↦ is.upper s' l' p' n ];
  reached = elim is.reached [ inl e ↦ by (one_of start p) e | inr h ↦ inr (h.0, h.1, rest_has (Desc s l p) facts (Desc h.0 h.1 pos) h.2) ];
}
  where
    by : (max start p ≡ start) ⊎ (max start p ≡ p) → pos ≡ max start p → (pos ≡ start) ⊎ ((s' : ℕ) × (l' : ℕ) × Contains (Desc s l p ∷ facts) (Desc s' l' pos))
    by (inl m) e = inl (e ∙ m)
    by (inr m) e = inr (s, l, subst (λ q. Contains (Desc s l p ∷ facts) (Desc s l q)) (sym (e ∙ m)) (first_has (Desc s l p) facts))

pub later_is_greatest : LaterIsGreatest
later_is_greatest [] start = record { from = omega arith; upper = λ s l p h. absurd (none_has (Desc s l p) h); reached = inl refl }
later_is_greatest (Called r k ∷ facts) start = behind (Called r k) (λ _ _ _ e. cc e) start facts _ (later_is_greatest facts start)
later_is_greatest (Edge r k s l ∷ facts) start = behind (Edge r k s l) (λ _ _ _ e. cc e) start facts _ (later_is_greatest facts start)
later_is_greatest (End r k e ∷ facts) start = behind (End r k e) (λ _ _ _ e. cc e) start facts _ (later_is_greatest facts start)
later_is_greatest (Desc s l p ∷ facts) start = behind_descriptor s l p start facts _ (later_is_greatest facts (max start p))
later_is_greatest (Part sub ∷ facts) start = behind (Part sub) (λ _ _ _ e. cc e) start facts _ (later_is_greatest facts start)
later_is_greatest (Claim s l p ∷ facts) start = behind (Claim s l p) (λ _ _ _ e. cc e) start facts _ (later_is_greatest facts start)

pub is_furthest : (facts : List Fact) (pos : ℕ) → pos ≡ fold later_of 0 facts → IsLaterOf 0 facts pos
is_furthest facts pos e = rw e (later_is_greatest facts 0)
