-- What several banks have recorded together is recorded once.
use Rattle.std.proofs.Common.{◌≡◌, ℕ, suc, ◌+◌, false, List, [], ◌∷◌, ◌++◌, length, Contains, Some, slice_get, refl, sym, subst, inl, inr, arith}
use Rattle.std.specs.List.{IsDistinct}
use Rattle.std.proofs.lemmas.Bool.{false_from_ne_true}
use Rattle.std.proofs.lemmas.List.Elements.{recursion_from_All, Contains-append_cases}
use Rattle.std.proofs.lemmas.Map.Keys.{IsDistinct-tail, IsDistinct-cons}
use Rattle.ix_model.specs.Expansion.Parts.{Parts}
use Rattle.ix_cluster.specs.declared.fact.Fact.{Fact}
use Rattle.ix_cluster.specs.Banks.{facts_of}
use Rattle.ix_cluster.specs.Facts.{same_fact}
use Rattle.ix_cluster.specs.Homes.{home_of}
use Rattle.ix_cluster.specs.Seen.{Bank}
use Rattle.ix_cluster.specs.Sound.{AreSound}
use Rattle.ix_cluster.proofs.FactLemmas.{same_fact-true}
use Rattle.ix_cluster.proofs.Members.{first_has, rest_has}
use Rattle.ix_closure.proofs.Lists.ListMembers.{all_have}
use Rattle.ix_closure.proofs.Lists.OnceEach.{distinct_apart}
use Rattle.ix_closure.proofs.Balancing.RecordedFacts.{recorded_in}

-- two lists that share no fact
distinct_append : (xs ys : List Fact) → IsDistinct same_fact xs → IsDistinct same_fact ys → ((f : Fact) → Contains xs f → Contains ys f → ⊥) → IsDistinct same_fact (xs ++ ys)
distinct_append [] ys d e apart = e
distinct_append (x ∷ xs) ys d e apart =
    IsDistinct-cons same_fact x (xs ++ ys) (recursion_from_All (λ y. same_fact x y ≡ false) (xs ++ ys) (all_have (λ y. same_fact x y ≡ false) (xs ++ ys) differs))
    (distinct_append xs ys (IsDistinct-tail same_fact x xs d) e (λ f h. apart f (rest_has x xs f h)))
  where
    differs : (y : Fact) → Contains (xs ++ ys) y → same_fact x y ≡ false
    differs y h = elim (Contains-append_cases xs ys y h) [
      | inl l ↦ distinct_apart same_fact x xs d y l
      | inr r ↦ false_from_ne_true (same_fact x y) (λ t. apart x (first_has x xs) (subst (Contains ys) (sym (same_fact-true x y t)) r))
    ]

-- banks whose facts have the banks' places, from the first one's on, as homes
facts_once_from : (place : Fact → ℕ) (first : ℕ) (banks : List Bank) → ((m : ℕ) (bank : Bank) → slice_get banks m ≡ Some bank → IsDistinct same_fact bank.log × ((f : Fact) → Contains bank.log f → place f ≡ first + m)) → IsDistinct same_fact (facts_of banks)
unfolding IsDistinct
facts_once_from place first [] each = tt
facts_once_from place first (bank ∷ banks) each =
    distinct_append bank.log (facts_of banks) (each 0 bank refl).0
    (facts_once_from place (first + 1) banks (λ m b e. ((each (suc m) b e).0, λ f h. omega (arith, (each (suc m) b e).1 f h))))
    (λ f h k. let p = recorded_in banks f k in omega (arith, (each 0 bank refl).1 f h, (each (suc p.0) p.1 p.2).1 f p.3))

-- the facts of sound banks are each once over all banks
pub facts_once : (plan : Parts) (banks : List Bank) → AreSound plan banks → IsDistinct same_fact (facts_of banks)
facts_once plan banks sound =
    facts_once_from (home_of plan (length banks)) 0 banks (λ m bank e. let s = sound.each m bank e in (s.once, λ f h. omega (arith, s.at_home f h)))
