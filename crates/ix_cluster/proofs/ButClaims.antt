-- A log without its claims.
use Rattle.std.proofs.Common.{◌≡◌, ℕ, Bool, true, false, cond, ◌||◌, List, [], ◌∷◌, max, filter, refl, sym, ap, ◌∙◌, arith, true≢false, ◌⊎◌, inl, inr}
use Rattle.std.proofs.lemmas.Bool.{cases_Bool}
use Rattle.std.specs.List.{AllByRecursion, IsDistinct, fold, filter_map, count_by}
use Rattle.std.proofs.lemmas.List.Elements.{All-filter, All-from_recursion, recursion_from_All}
use Rattle.std.proofs.lemmas.Map.Keys.{IsDistinct-head, IsDistinct-tail, IsDistinct-cons}
use Rattle.ix_cluster.specs.declared.fact.Fact.{Fact}
use Rattle.ix_cluster.specs.declared.fact.Fact.TheVariants.{Called, Edge, End, Desc, Part, Claim}
use Rattle.ix_cluster.specs.Banks.{later_of, is_descriptor, recorded_sub}
use Rattle.ix_cluster.specs.Facts.{has, same_fact}
use Rattle.ix_cluster.specs.LogPlaces.{is_no_claim}
use Rattle.ix_cluster.proofs.CountBy.{count_cons}

-- a fact that is not of the shape of a claim is none
pub not_claim : (f : Fact) → ((s l p : ℕ) → f ≡ Claim s l p → ⊥) → is_no_claim f ≡ true
not_claim (Claim s l p) h = absurd (h s l p refl)
not_claim f h = refl

no_claim-apart : (f g : Fact) → is_no_claim f ≡ true → is_no_claim g ≡ false → same_fact f g ≡ false
no_claim-apart (Called r k) (Claim s l p) hf hg = refl
no_claim-apart (Edge r k s' l') (Claim s l p) hf hg = refl
no_claim-apart (End r k e) (Claim s l p) hf hg = refl
no_claim-apart (Desc s' l' p') (Claim s l p) hf hg = refl
no_claim-apart (Part sub) (Claim s l p) hf hg = refl
no_claim-apart (Claim s' l' p') g hf hg = absurd (true≢false (sym hf))
no_claim-apart f g hf hg = absurd (true≢false hg)

pub has-but_claims : (log : List Fact) (f : Fact) → is_no_claim f ≡ true → has (filter is_no_claim log) f ≡ has log f
has-but_claims [] f h = refl
has-but_claims (g ∷ log) f h = by (cases_Bool (is_no_claim g)) (has-but_claims log f h)
  where
    by : (is_no_claim g ≡ true) ⊎ (is_no_claim g ≡ false) → has (filter is_no_claim log) f ≡ has log f → has (filter is_no_claim (g ∷ log)) f ≡ has (g ∷ log) f
    by (inl e) rest = ap (λ b. has (cond b (g ∷ filter is_no_claim log) (filter is_no_claim log)) f) e ∙ ap (λ b. same_fact f g || b) rest
    by (inr e) rest = ap (λ b. has (cond b (g ∷ filter is_no_claim log) (filter is_no_claim log)) f) e ∙ rest ∙ sym (ap (λ b. b || has log f) (no_claim-apart f g h e))

-- a part of a list that has each fact once has each once
pub once-filter : (p : Fact → Bool) (xs : List Fact) → IsDistinct same_fact xs → IsDistinct same_fact (filter p xs)
once-filter p [] once = once
once-filter p (x ∷ xs) once = by (p x) (once-filter p xs (IsDistinct-tail same_fact x xs once))
  where
    others : AllByRecursion (λ y. same_fact x y ≡ false) (filter p xs)
    others =
        recursion_from_All (λ y. same_fact x y ≡ false) (filter p xs)
        (All-filter p (λ y. same_fact x y ≡ false) xs (All-from_recursion (λ y. same_fact x y ≡ false) xs (IsDistinct-head same_fact x xs once)))

    by : (b : Bool) → IsDistinct same_fact (filter p xs) → IsDistinct same_fact (cond b (x ∷ filter p xs) (filter p xs))
    by true rest = IsDistinct-cons same_fact x (filter p xs) others rest
    by false rest = rest

-- ---- what is told of a log does not rest on its claims

pub later_but_claims : (log : List Fact) (pos : ℕ) → fold later_of pos (filter is_no_claim log) ≡ fold later_of pos log
later_but_claims [] pos = refl
later_but_claims (Called r k ∷ log) pos = later_but_claims log pos
later_but_claims (Edge r k s l ∷ log) pos = later_but_claims log pos
later_but_claims (End r k e ∷ log) pos = later_but_claims log pos
later_but_claims (Desc s l p ∷ log) pos = later_but_claims log (max pos p)
later_but_claims (Part sub ∷ log) pos = later_but_claims log pos
later_but_claims (Claim s l p ∷ log) pos = later_but_claims log pos

pub descriptors_but_claims : (log : List Fact) → count_by is_descriptor (filter is_no_claim log) ≡ count_by is_descriptor log
descriptors_but_claims [] = refl
descriptors_but_claims (Called r k ∷ log) = omega (arith, descriptors_but_claims log, count_cons is_descriptor (Called r k) log, count_cons is_descriptor (Called r k) (filter is_no_claim log))
descriptors_but_claims (Edge r k s l ∷ log) = omega (arith, descriptors_but_claims log, count_cons is_descriptor (Edge r k s l) log, count_cons is_descriptor (Edge r k s l) (filter is_no_claim log))
descriptors_but_claims (End r k e ∷ log) = omega (arith, descriptors_but_claims log, count_cons is_descriptor (End r k e) log, count_cons is_descriptor (End r k e) (filter is_no_claim log))
descriptors_but_claims (Desc s l p ∷ log) = omega (arith, descriptors_but_claims log, count_cons is_descriptor (Desc s l p) log, count_cons is_descriptor (Desc s l p) (filter is_no_claim log))
descriptors_but_claims (Part sub ∷ log) = omega (arith, descriptors_but_claims log, count_cons is_descriptor (Part sub) log, count_cons is_descriptor (Part sub) (filter is_no_claim log))
descriptors_but_claims (Claim s l p ∷ log) = omega (arith, descriptors_but_claims log, count_cons is_descriptor (Claim s l p) log)

pub subs_but_claims : (log : List Fact) → filter_map recorded_sub (filter is_no_claim log) ≡ filter_map recorded_sub log
subs_but_claims [] = refl
subs_but_claims (Called r k ∷ log) = subs_but_claims log
subs_but_claims (Edge r k s l ∷ log) = subs_but_claims log
subs_but_claims (End r k e ∷ log) = subs_but_claims log
subs_but_claims (Desc s l p ∷ log) = subs_but_claims log
subs_but_claims (Part sub ∷ log) = ap (λ l. sub ∷ l) (subs_but_claims log)
subs_but_claims (Claim s l p ∷ log) = subs_but_claims log
