-- The whole work of one worker over the 64 banks of a small plan.
use Rattle.std.proofs.Common.{◌≡◌, ◌-◌, ℕ, zero, suc, ◌<◌, [], ◌∷◌, length, Some, slice_get, slice_index_or, refl, sym, ap, ◌∙◌, subst, arith, rules, lit<, lit≤, ne_eqb, cond, Bool}
use Rattle.std.specs.List.{IsDistinct}
use Rattle.std.proofs.lemmas.List.FromFn.{get_or-map-range_with_len}
use Rattle.std.proofs.lemmas.Option.{get_or_from_slice_get, slice_get_within}
use Rattle.ix_examples.specs.SmallPlans.{nothing}
use Rattle.ix_cluster.specs.declared.answers.Claimed.TheVariants.{Mine}
use Rattle.ix_cluster.specs.declared.fact.Fact.TheVariants as fact
use Rattle.ix_cluster.specs.BankSteps.{Belongs, Meets, claim_mine, end_comes}
use Rattle.ix_cluster.specs.Banks.{opening, opening_bank}
use Rattle.ix_cluster.specs.Seen.{Bank}
use Rattle.ix_cluster.specs.Sound.{IsSoundBank, AreSound}
use Rattle.ix_cluster.specs.Steps.{after_call}
use Rattle.ix_cluster.proofs.Members.{none_has}
use Rattle.ix_closure.specs.declared.owed.Owed.TheVariants.{Claim, End}
use Rattle.ix_closure.specs.Examples.{nothing_called, nothing_closed}
use Rattle.ix_closure.proofs.Small.SmallSteps.{nothing_ends}
use Rattle.ix_rows.specs.Beginnings.{Begins}
use Rattle.ix_rows.specs.Logs.{log_at}
use Rattle.ix_rows.specs.Numbers.{run, times}
use Rattle.ix_rows.proofs.Counts.{some_is}
use Rattle.ix_rows.proofs.Logs.{begins_all, times_elsewhere}
use Rattle.ix_table.specs.Sights.{Sight, seen_after}
use Rattle.ix_table.specs.Tables.{lengths_of, IsClosed}
use Rattle.ix_settled_laws.specs.Done.{IsDone, Works, begins, goes_on}
use Rattle.ix_settled_laws.specs.Examples.{once_claimed, only_job, ended_sight, ended_banks}
use Rattle.ix_settled_laws.specs.Joined.{Share, none, one_more, first_sight, IsWork}
use Rattle.ix_settled_laws.proofs.Beginning.{log_is, lengths_are}
use Rattle.ix_settled_laws.proofs.Small.{called_bank, claimed_bank, ended_bank, called_sound, claimed_sound, ended_sound}
use Rattle.ix_settled_laws.proofs.Steps.{taken_last}

-- ---- the steps

abbrev claimed_sight : Sight
claimed_sight = seen_after (first_sight (nothing [])) 0 nothing_called once_claimed

first_done : IsDone (nothing []) (first_sight (nothing [])) (Claim 0 0 0) [] claimed_sight (End 0 0 0 ∷ [])
first_done = record {
  answer = Belongs Mine;
  made = record { met = called_bank; left = claimed_bank; begins = ([], refl); step = claim_mine 0 0 0 refl refl; sound_met = called_sound; sound_left = claimed_sound; now = refl };
  more = End 0 0 0 ∷ [];
  follows = nothing_ends;
  now = refl;
}

second_done : IsDone (nothing []) claimed_sight (End 0 0 0) [] ended_sight []
second_done = record {
  answer = Meets [];
  made = record { met = claimed_bank; left = ended_bank; begins = ([], refl); step = end_comes 0 0 0 refl; sound_met = claimed_sound; sound_left = ended_sound; now = refl };
  more = [];
  follows = refl;
  now = refl;
}

both_done : Works (nothing []) (first_sight (nothing [])) (Claim 0 0 0 ∷ []) ended_sight []
both_done = goes_on claimed_sight (End 0 0 0 ∷ []) (End 0 0 0) [] ended_sight []
    (goes_on (first_sight (nothing [])) (Claim 0 0 0 ∷ []) (Claim 0 0 0) [] claimed_sight (End 0 0 0 ∷ []) begins (taken_last (Claim 0 0 0 ∷ []) (Claim 0 0 0) [] refl) first_done)
    (taken_last (End 0 0 0 ∷ []) (End 0 0 0) [] refl) second_done

-- ---- the banks

-- but for the first they are empty
empty_bank : (m : ℕ) → opening_bank (nothing []) 64 (suc m) ≡ record { log = []; handed = 0 }
empty_bank m = ap (λ (b : Bool). record { log = cond b (after_call (nothing []) [] 0 0) []; handed = 0 }) (ne_eqb (suc m) 0 (λ e. absurd (omega (arith, e))))

further_bank : (m : ℕ) (bank : Bank) → slice_get ended_banks (suc m) ≡ Some bank → record { log = []; handed = 0 } ≡ bank
further_bank m bank e =
    let there : slice_get (opening (nothing []) 64) (suc m) ≡ Some bank = e in
    let low : suc m < 64 = slice_get_within (opening (nothing []) 64) (suc m) bank there in
    let no_bank : Bank = record { log = []; handed = 0 } in
    sym (empty_bank m) ∙ sym (get_or-map-range_with_len (opening_bank (nothing []) 64) 0 64 (suc m) (suc m) no_bank low (omega arith)) ∙ get_or_from_slice_get (opening (nothing []) 64) (suc m) bank no_bank there

empty_sound : (m : ℕ) → IsSoundBank (nothing []) 64 (suc m) (record { log = []; handed = 0 })
unfolding IsDistinct
empty_sound m = record {
  once = tt;
  at_home = λ f h. absurd (none_has f h);
  true_facts = record { closed = λ f h. absurd (none_has f h); later = λ n s l p e. absurd (cc e) };
  companions = record {
    parts = λ sub h. absurd (none_has (fact.Part sub) h);
    alternatives = λ r k s h first. absurd (none_has (fact.Called r k) h);
    empties = λ r k s h first last. absurd (none_has (fact.Called r k) h);
    edges = λ r k s l h. absurd (none_has (fact.Edge r k s l) h);
  };
  handed = refl;
  opened = λ e. absurd (omega (arith, e));
  bounded = search rules;
}

banks_sound : AreSound (nothing []) ended_banks
banks_sound = record { some = lit< tt; few = lit≤ tt; each = each }
  where
    each : (m : ℕ) (bank : Bank) → slice_get ended_banks m ≡ Some bank → IsSoundBank (nothing []) 64 m bank
    each zero bank e = subst (IsSoundBank (nothing []) 64 0) (some_is ended_bank bank e) ended_sound
    each (suc m) bank e = subst (IsSoundBank (nothing []) 64 (suc m)) (further_bank m bank e) (empty_sound m)

no_more : (m k n : ℕ) → 0 ≡ times m k (run m n (n - n))
no_more m k n = let e : 0 ≡ n - n = omega arith in ap (λ (z : ℕ). times m k (run m n z)) e

table_closed : IsClosed (nothing []) (lengths_of (opening (nothing []) 64)) ended_sight ended_banks
table_closed = record { many = refl; sound = banks_sound; begin = begin; counted = counted }
  where
    begin : (m : ℕ) (bank : Bank) → slice_get ended_banks m ≡ Some bank → Begins bank.log (log_at ended_sight.known m)
    begin zero bank e = subst (λ (b : Bank). Begins b.log nothing_closed) (some_is ended_bank bank e) (begins_all nothing_closed)
    begin (suc m) bank e = subst (Begins bank.log) (sym (log_is (opening (nothing []) 64) (suc m) bank e)) (begins_all bank.log)

    counted : (m k : ℕ) (bank : Bank) → slice_get ended_banks m ≡ Some bank
        → times m k ended_sight.own ≡ times m k (run m (slice_index_or (lengths_of (opening (nothing []) 64)) m 0) (length bank.log - slice_index_or (lengths_of (opening (nothing []) 64)) m 0))
    counted zero k bank e = subst (λ (b : Bank). times 0 k ended_sight.own ≡ times 0 k (run 0 3 (length b.log - 3))) (some_is ended_bank bank e) refl
    counted (suc m) k bank e =
        let as_long : slice_index_or (lengths_of (opening (nothing []) 64)) (suc m) 0 ≡ length bank.log = lengths_are (opening (nothing []) 64) (suc m) ∙ ap length (log_is (opening (nothing []) 64) (suc m) bank e) in
        times_elsewhere 0 (suc m) k 3 2 (λ e. absurd (omega (arith, e))) ∙ subst (λ (n : ℕ). 0 ≡ times (suc m) k (run (suc m) n (length bank.log - n))) (sym as_long) (no_more (suc m) k (length bank.log))

-- ---- the work

sight_known : (m : ℕ) → Begins (log_at ended_sight.known m) (log_at (first_sight (nothing [])).known m) × Begins (log_at ended_sight.known m) (log_at ended_sight.known m)
sight_known zero = ((fact.Claim 0 0 0 ∷ fact.End 0 0 0 ∷ [], refl), begins_all nothing_closed)
sight_known (suc m) = (begins_all (log_at (first_sight (nothing [])).known (suc m)), begins_all (log_at ended_sight.known (suc m)))

-- the one element of a list
only_of : {X : Type 0} → (x y : X) (k : ℕ) → slice_get (x ∷ []) k ≡ Some y → x ≡ y
only_of x y zero e = some_is x y e
only_of x y (suc k) e = absurd (cc e)

pub only_work : IsWork (nothing []) (only_job ∷ []) (record { sight = ended_sight; owed = [] } ∷ []) ended_sight ended_banks
only_work = record {
  some = lit< tt;
  sights = λ k job e. ap (λ (s : Share). s.sight) (sym (only_of only_job job k e));
  claims = λ job e. ap (λ (s : Share). s.owed) (sym (some_is only_job job e));
  nothing = λ k job e. absurd (cc e);
  as_many = refl;
  works = λ k job back e f. subst (λ (z : Share × Share). Works (nothing []) z.0.sight z.0.owed z.1.sight z.1.owed) (λ i. ((only_of only_job job k e) i, (only_of (record { sight = ended_sight; owed = [] }) back k f) i)) both_done;
  empty = λ k back f. ap (λ (s : Share). s.owed) (sym (only_of (record { sight = ended_sight; owed = [] }) back k f));
  joins = one_more [] (first_sight (nothing [])) (record { sight = ended_sight; owed = [] }) ended_sight none refl sight_known;
  closed = table_closed;
}
