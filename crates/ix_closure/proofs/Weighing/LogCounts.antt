-- How many facts pass a test, as facts are put into a log, a rule is called, a step is done, and one of several banks changes.
use Rattle.std.proofs.Common.{◌≡◌, ℕ, ◌+◌, ◌≤◌, Bool, true, false, cond, List, [], ◌∷◌, count_by, Some, slice_get, slice_set, refl, ap, arith}
use Rattle.std.specs.List.{sum_by}
use Rattle.std.proofs.lemmas.List.Sums.{sum_by-cons}
use Rattle.ix_model.specs.Expansion.Parts.{Parts}
use Rattle.ix_cluster.specs.declared.fact.Fact.{Fact}
use Rattle.ix_cluster.specs.declared.fact.Fact.TheVariants as fact
use Rattle.ix_cluster.specs.Banks.{facts_of}
use Rattle.ix_cluster.specs.Facts.{has, put}
use Rattle.ix_cluster.specs.Seen.{Bank}
use Rattle.ix_cluster.specs.Steps.{empty_sub, after_call}
use Rattle.ix_cluster.proofs.CountBy.{count_append}
use Rattle.ix_cluster.proofs.Counts.{put-new}
use Rattle.ix_cluster.proofs.Recording.{put_both, along_call, along_step}
use Rattle.ix_closure.specs.declared.owed.Owed.{Owed}
use Rattle.ix_closure.specs.Events.{call_of, log_after}
use Rattle.ix_closure.proofs.Lists.ListCounts.{sum_set}

module _ (p : Fact → Bool) where
  -- ---- in one log

  -- a log that a fact is put into counts no fewer
  pub count_put : (log : List Fact) (f : Fact) → count_by p log ≤ count_by p (put log f)
  count_put log f = put_both (λ new. count_by p log ≤ count_by p new) log f (λ _. omega arith) (λ _. omega (arith, count_append p log (f ∷ [])))

  -- and one more where the fact is new and passes
  pub count_put_new : (log : List Fact) (f : Fact) → has log f ≡ false → p f ≡ true → count_by p log + 1 ≤ count_by p (put log f)
  count_put_new log f none passes = rw (put-new log f none) (omega (arith, count_append p log (f ∷ []), ap {B = ℕ} (λ b. cond b 1 0) passes))

  -- a call forgets no fact that is counted
  pub count_call : (plan : Parts) (k : ℕ) (log : List Fact) (r : ℕ) → count_by p log ≤ count_by p (after_call plan log r k)
  count_call plan k log r =
      along_call (λ before after. count_by p before ≤ count_by p after) (λ _. omega arith) (λ _ _ _ e w. omega (arith, e, w)) plan k (λ l s. count_put l (fact.Desc s k k)) (λ l s. count_put l (fact.Part (empty_sub s k))) r
      (λ l. count_put l (fact.Called r k)) log

  -- and neither does a step
  pub count_after : (plan : Parts) (log : List Fact) (o : Owed) → count_by p log ≤ count_by p (log_after plan log o)
  count_after plan log o = along_step (λ before after. count_by p before ≤ count_by p after) (λ _. omega arith) (λ _ _ _ e w. omega (arith, e, w)) count_put plan log (call_of o)

  -- ---- in all banks

  -- all banks count what each of them counts
  count_facts : (banks : List Bank) → count_by p (facts_of banks) ≡ sum_by (λ (bank : Bank). count_by p bank.log) banks
  count_facts [] = refl
  count_facts (bank ∷ banks) = omega (arith, count_append p bank.log (facts_of banks), sum_by-cons (λ (bank : Bank). count_by p bank.log) bank banks, count_facts banks)

  -- where one bank changes the count changes as that bank's
  pub count_set : (banks : List Bank) (m : ℕ) (old new : Bank) → slice_get banks m ≡ Some old → count_by p (facts_of (slice_set banks m new)) + count_by p old.log ≡ count_by p (facts_of banks) + count_by p new.log
  count_set banks m old new there =
      omega (arith, count_facts banks, count_facts (slice_set banks m new), sum_set (λ (bank : Bank). count_by p bank.log) banks m old new there)
