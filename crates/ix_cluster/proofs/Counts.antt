-- how many descriptors wait for a claim, as facts are recorded
use Rattle.std.proofs.Common.{◌≡◌, ℕ, ◌+◌, ◌-◌, ◌≤◌, Bool, true, false, not, cond, ◌||◌, List, [], ◌∷◌, ◌++◌, length, length-append, count_by, refl, sym, ap, ◌∙◌, arith, subst, true≢false, ◌⊎◌, inl, inr}
use Rattle.std.proofs.lemmas.Bool.{cases_Bool, or_left}
use Rattle.std.proofs.lemmas.List.Folds.{list_any-append}
use Rattle.std.proofs.lemmas.List.Sums.{count_by-le-length}
use Rattle.ix_cluster.specs.declared.fact.Fact.{Fact}
use Rattle.ix_cluster.specs.declared.fact.Fact.TheVariants.{Called, Edge, End, Desc, Part, Claim}
use Rattle.ix_cluster.specs.Facts.{same_fact, has, put}
use Rattle.ix_cluster.specs.Room.{is_unclaimed, unclaimed_in, HasRoom}
use Rattle.ix_cluster.proofs.CountBy.{count_cons, count_append, count_push, count_le}
use Rattle.ix_cluster.proofs.FactLemmas.{same_fact-true, same_fact-refl}
use Rattle.ix_cluster.proofs.Recording.{put_both}

pub has-push_old : (xs : List Fact) (g f : Fact) → has xs f ≡ true → has (xs ++ g ∷ []) f ≡ true
has-push_old xs g f h = list_any-append (same_fact f) xs (g ∷ []) ∙ or_left (has xs f) (has (g ∷ []) f) h

pub has-push_new : (xs : List Fact) (f : Fact) → has (xs ++ f ∷ []) f ≡ true
has-push_new xs f = grind (arith, list_any-append (same_fact f) xs (f ∷ []), same_fact-refl f)

-- a test that passes no more than another counts fewer where the other passes a member that it does not
pub count-lt : (p q : Fact → Bool) → ((x : Fact) → q x ≡ true → p x ≡ true) → (y : Fact) → p y ≡ true → q y ≡ false → (xs : List Fact) → has xs y ≡ true → count_by q xs + 1 ≤ count_by p xs
count-lt p q h y py qy [] m = absurd (true≢false (sym m))
count-lt p q h y py qy (x ∷ xs) m = by (cases_Bool (same_fact y x)) (count-lt p q h y py qy xs)
  where
    by : (same_fact y x ≡ true) ⊎ (same_fact y x ≡ false) → (has xs y ≡ true → count_by q xs + 1 ≤ count_by p xs) → count_by q (x ∷ xs) + 1 ≤ count_by p (x ∷ xs)
    by (inl e) rest =
        let px : p x ≡ true = subst (λ z. p z ≡ true) (same_fact-true y x e) py in
        let qx : q x ≡ false = subst (λ z. q z ≡ false) (same_fact-true y x e) qy in
        grind (arith, count_cons p x xs, count_cons q x xs, count_le p q h xs)
    by (inr e) rest = let there : has xs y ≡ true = sym (ap (λ b. b || has xs y) e) ∙ m in let more = rest there in grind (arith, count_cons p x xs, count_cons q x xs, h x)

-- what is_unclaimed in a longer log is_unclaimed in the shorter one
pub is_unclaimed-push : (log : List Fact) (g f : Fact) → is_unclaimed (log ++ g ∷ []) f ≡ true → is_unclaimed log f ≡ true
is_unclaimed-push log g (Desc s l p) h = grind (arith, has-push_old log g (Claim s l p))
is_unclaimed-push log g (Called r k) h = h
is_unclaimed-push log g (Edge r k s l) h = h
is_unclaimed-push log g (End r k e) h = h
is_unclaimed-push log g (Part sub) h = h
is_unclaimed-push log g (Claim s l p) h = h

-- one more fact leaves at most one more to wait
pub unclaimed-push : (log : List Fact) (f : Fact) → unclaimed_in (log ++ f ∷ []) ≤ unclaimed_in log + 1
unclaimed-push log f =
    let now = is_unclaimed (log ++ f ∷ []) in
    omega (arith, count_append now log (f ∷ []), count_by-le-length now (f ∷ []), count_le (is_unclaimed log) now (is_unclaimed-push log f) log)

-- and none where it is no descriptor
pub unclaimed-push_other : (log : List Fact) (f : Fact) → ((l : List Fact) → is_unclaimed l f ≡ false) → unclaimed_in (log ++ f ∷ []) ≤ unclaimed_in log
unclaimed-push_other log f h =
    let now = is_unclaimed (log ++ f ∷ []) in
    omega (arith, count_push now log f, ap {B = ℕ} (λ b. cond b 1 0) (h (log ++ f ∷ [])), count_le (is_unclaimed log) now (is_unclaimed-push log f) log)

-- a claim leaves one fewer
pub unclaimed-claim : (log : List Fact) (s l p : ℕ) → has log (Desc s l p) ≡ true → has log (Claim s l p) ≡ false → unclaimed_in (log ++ Claim s l p ∷ []) + 1 ≤ unclaimed_in log
unclaimed-claim log s l p d c =
    omega (
      arith,
      count_push (is_unclaimed (log ++ Claim s l p ∷ [])) log (Claim s l p),
      count-lt (is_unclaimed log) (is_unclaimed (log ++ Claim s l p ∷ [])) (is_unclaimed-push log (Claim s l p)) (Desc s l p) (ap not c) (ap not (has-push_new log (Claim s l p))) log d,
    )

-- a descriptor that is_unclaimed is counted
pub unclaimed-some : (log : List Fact) (s l p : ℕ) → has log (Desc s l p) ≡ true → has log (Claim s l p) ≡ false → 1 ≤ unclaimed_in log
unclaimed-some log s l p d c = omega (arith, unclaimed-claim log s l p d c)

pub put-old : (log : List Fact) (f : Fact) → has log f ≡ true → put log f ≡ log
put-old log f h = ap (λ b. cond b log (log ++ f ∷ [])) h

pub put-new : (log : List Fact) (f : Fact) → has log f ≡ false → put log f ≡ log ++ f ∷ []
put-new log f h = ap (λ b. cond b log (log ++ f ∷ [])) h

-- whether a log said that the fact was new tells whether it had it
module _ (log now : List Fact) (f : Fact) (added : Bool) (same : now ≡ log) (said : added ≡ not (has now f)) where
  pub was-there : added ≡ false → has log f ≡ true
  was-there e = by (has log f) (sym e ∙ said ∙ ap (λ l. not (has l f)) same)
    where
      by : (b : Bool) → false ≡ not b → b ≡ true
      by true h = refl
      by false h = absurd (true≢false (sym h))

  pub was-new : added ≡ true → has log f ≡ false
  was-new e = by (has log f) (sym e ∙ said ∙ ap (λ l. not (has l f)) same)
    where
      by : (b : Bool) → true ≡ not b → b ≡ false
      by true h = absurd (true≢false h)
      by false h = refl

pub length-put : (log : List Fact) (f : Fact) → length (put log f) ≤ length log + 1
length-put log f = put_both (λ new. length new ≤ length log + 1) log f (λ _. omega arith) (λ _. omega (arith, length-append log (f ∷ [])))

-- a fact that is no descriptor leaves no more to wait where it is put into the log
pub unclaimed-put_other : (log : List Fact) (f : Fact) → ((l : List Fact) → is_unclaimed l f ≡ false) → unclaimed_in (put log f) ≤ unclaimed_in log
unclaimed-put_other log f h = put_both (λ new. unclaimed_in new ≤ unclaimed_in log) log f (λ _. omega arith) (λ _. unclaimed-push_other log f h)

-- one more where it is new
pub unclaimed-put_new : (log : List Fact) (f : Fact) → unclaimed_in (put log f) ≤ unclaimed_in log + cond (not (has log f)) 1 0
unclaimed-put_new log f =
    put_both (λ new. unclaimed_in new ≤ unclaimed_in log + cond (not (has log f)) 1 0) log f (λ _. omega arith)
    (λ e. let one : cond (not (has log f)) 1 0 ≡ 1 = ap {B = ℕ} (λ b. cond (not b) 1 0) e in omega (arith, unclaimed-push log f, one))

-- a log keeps its room where a fact is put into it, with one more claim to come at most
pub HasRoom-put : (facts new : List Fact) (f : Fact) (spare spare' unclaimed free more : ℕ) → HasRoom facts spare unclaimed free → new ≡ put facts f → 2 ≤ free → spare ≤ spare' + 1 → more ≤ 1 → unclaimed_in (put facts f) ≤ unclaimed_in facts + more → HasRoom new spare' (unclaimed + more) (free - 2)
HasRoom-put facts new f spare spare' unclaimed free more r e two s few counted = record {
  counted = rw e (omega (arith, counted, r.counted));
  room = omega arith;
  small = rw e (omega (arith, length-put facts f));
}
