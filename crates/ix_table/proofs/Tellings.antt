-- What the answer of a table's step tells.
use Rattle.std.proofs.Common.{◌≡◌, ◌-◌, ◌+◌, ℕ, zero, suc, List, [], ◌∷◌, ◌++◌, length, Contains, Some, slice_get, append-nil, refl, sym, ap, ◌∙◌, subst, arith}
use Rattle.std.proofs.lemmas.List.Elements.{Contains-append_left, Contains-append_right, Contains-push}
use Rattle.ix_model.specs.Expansion.Parts.{Parts}
use Rattle.ix_cluster.specs.declared.fact.Fact.{Fact}
use Rattle.ix_cluster.specs.declared.fact.Fact.TheVariants.{Edge, End, Part, Desc, Claim}
use Rattle.ix_cluster.specs.BankSteps.{Call, MakeClaim, Answer, BankStep, edge_calls, edge_joins, edge_again, end_comes, end_again, sub_fresh, sub_known, claim_mine, claim_taken, claim_unknown}
use Rattle.ix_cluster.specs.ClosedFacts.{IsInClosed}
use Rattle.ix_cluster.specs.Facts.{put}
use Rattle.ix_cluster.proofs.Members.{has-Contains, Contains-has, first_has, none_has, put-there}
use Rattle.ix_cluster.proofs.StepCases.{step_appends}
use Rattle.ix_rows.specs.Beginnings.{Begins}
use Rattle.ix_rows.specs.Logs.{log_at}
use Rattle.ix_rows.specs.Numbers.{run}
use Rattle.ix_rows.proofs.Logs.{put_here}
use Rattle.ix_table.specs.Answers.{Tells}
use Rattle.ix_table.specs.Calls.{place_for}
use Rattle.ix_table.specs.Sights.{Sight}
use Rattle.ix_table.specs.TableSteps.{IsStep}
use Rattle.ix_table.proofs.Listed.{edge_listed, end_listed}

-- nothing was appended, so nothing more is own
pub same_own : (own : List (ℕ × ℕ)) (m n : ℕ) → own ++ run m n (n - n) ≡ own
same_own own m n = let none : n - n ≡ 0 = omega arith in ap (λ (z : ℕ). own ++ run m n z) none ∙ append-nil own

-- one entry was appended, and its number is own
one_own : (own : List (ℕ × ℕ)) (m n l : ℕ) → l ≡ n + 1 → Contains (own ++ run m n (l - n)) (m, n)
one_own own m n l e =
    let one : l - n ≡ suc zero = omega (arith, e) in
    subst (λ (z : ℕ). Contains (own ++ run m n z) (m, n)) (sym one) (Contains-append_right own ((m, n) ∷ []) (m, n) (first_has (m, n) []))

pub pushed_length : {A : Type 0} → (xs : List A) (x : A) → length (xs ++ x ∷ []) ≡ length xs + 1
pushed_length [] x = refl
pushed_length (y ∷ ys) x = let e = pushed_length ys x in omega (arith, e)

pushed_at : {A : Type 0} → (xs : List A) (x : A) → slice_get (xs ++ x ∷ []) (length xs) ≡ Some x
pushed_at [] x = refl
pushed_at (y ∷ ys) x = pushed_at ys x

module _ (plan : Parts) (old new : Sight) (log : List Fact) where
  -- by the log after the step, which is known then, is true, and is as the pass's own entries say
  by_log : (call : Call) (answer : Answer) (after : List Fact) → BankStep plan log call answer after → Begins log (log_at old.known (place_for plan call)) → ((f : Fact) → Contains after f → IsInClosed plan f)
      → after ≡ log_at new.known (place_for plan call) → new.own ≡ old.own ++ run (place_for plan call) (length log) (length after - length log) → Tells plan old call answer new
  by_log call answer after (edge_calls r k s l e w) begins true_facts known own = (
    subst (λ (z : List Fact). Contains z (Edge r k s l)) known (Contains-push _ (Edge r k s l)),
    λ x h. let more = step_appends plan log _ _ _ (edge_calls r k s l e w) in true_facts (End r k x) (subst (λ (z : List Fact). Contains z (End r k x)) (sym more.1) (Contains-append_left log more.0 (End r k x) (end_listed log r k x h))),
  )
  by_log call answer after (edge_joins r k s l e w) begins true_facts known own =
      (subst (λ (z : List Fact). Contains z (Edge r k s l)) known (Contains-push log (Edge r k s l)), λ x h. true_facts (End r k x) (Contains-append_left log (Edge r k s l ∷ []) (End r k x) (end_listed log r k x h)))
  by_log call answer after (edge_again r k s l e) begins true_facts known own = (subst (λ (z : List Fact). Contains z (Edge r k s l)) known (Contains-has log (Edge r k s l) e), λ x h. absurd (none_has x h))
  by_log call answer after (end_comes r k e h) begins true_facts known own =
      (subst (λ (z : List Fact). Contains z (End r k e)) known (Contains-push log (End r k e)), λ a i. true_facts (Edge r k a.slot a.left) (Contains-append_left log (End r k e ∷ []) (Edge r k a.slot a.left) (edge_listed log r k a i)))
  by_log call answer after (end_again r k e h) begins true_facts known own = (subst (λ (z : List Fact). Contains z (End r k e)) known (Contains-has log (End r k e) h), λ a i. absurd (none_has a i))
  by_log call answer after (sub_fresh sub h) begins true_facts known own =
      subst (λ (z : List Fact). Contains z (Part sub)) known (Contains-append_left (put log (Part sub)) (Desc sub.slot sub.left sub.right ∷ []) (Part sub) (put-there log (Part sub)))
  by_log call answer after (sub_known sub h) begins true_facts known own = subst (λ (z : List Fact). Contains z (Part sub)) known (put-there log (Part sub))
  by_log call answer after (claim_mine s l p h w) begins true_facts known own =
      let m = place_for plan (MakeClaim s l p) in (
        true_facts (Claim s l p) (Contains-push log (Claim s l p)),
        (length log, subst (λ (z : List Fact). slice_get z (length log) ≡ Some (Claim s l p)) known (pushed_at log (Claim s l p)), subst (λ (z : List (ℕ × ℕ)). Contains z (m, length log)) (sym own) (one_own old.own m (length log) (length (log ++ Claim s l p ∷ [])) (pushed_length log (Claim s l p)))),
      )
  by_log call answer after (claim_taken s l p h w) begins true_facts known own =
      let there = Contains-has log (Claim s l p) w in
      (true_facts (Claim s l p) there, subst (λ (z : List Fact). Contains z (Claim s l p)) known there, own ∙ same_own old.own (place_for plan (MakeClaim s l p)) (length log))
  by_log call answer after (claim_unknown s l p h) begins true_facts known own =
      let none : ¬ (Contains log (Desc s l p)) = λ i. let yes = has-Contains log (Desc s l p) i in absurd (cc) in (
        λ i. none (subst (λ (z : List Fact). Contains z (Desc s l p)) (sym known) i),
        λ i. none (subst (λ (z : List Fact). Contains z (Desc s l p)) (sym begins.1) (Contains-append_left (log_at old.known (place_for plan (MakeClaim s l p))) begins.0 (Desc s l p) i)),
        own ∙ same_own old.own (place_for plan (MakeClaim s l p)) (length log),
      )

pub step_tells : (plan : Parts) (old : Sight) (call : Call) (answer : Answer) (new : Sight) → IsStep plan old call answer new → Tells plan old call answer new
step_tells plan old call answer new s =
    let m = place_for plan call in
    by_log plan old new s.met.log call answer s.left.log s.step s.begins s.sound_left.true_facts.closed
    (sym (put_here old.known m s.left.log) ∙ sym (ap (λ (z : Sight). log_at z.known m) s.now)) (ap (λ (z : Sight). z.own) s.now)
