use Rattle.std.proofs.Common.{◌≡◌, ◌≤◌, ◌<◌, ◌⊎◌, ℕ, zero, suc, ◌+◌, ◌-◌, List, [], ◌∷◌, length, Some, None, refl, sym, ap, ◌∙◌, inl, arith}
use mathlib.Core.Option.{some, some-ne-none, some-injective}
use lib.ListN.{get_elem?}
use Rattle.ix_rows.specs.declared.view.View.{View}
use Rattle.ix_rows.specs.Examples.{is_short, its_log, two_logs, small_root}
use Rattle.ix_rows.proofs.Counts.{some_is, some_none, only_one}
use Rattle.ix_rows.proofs.Keeps.{opens}
use Rattle.ix_rows.proofs.Logs.{begins_length, times_out}
use Rattle.ix_rows.proofs.laws.rows_begin_orderly.Goals as goal

-- the value that is at home is the one that is told
at_home : (a b : List ℕ) → some (some (Some a)) ≡ some (some (Some b)) → length a ≡ length b
at_home a b e = ap length (some_is a b (some-injective (Some a) (Some b) (some-injective (some (Some a)) (some (Some b)) e)))

pub returns-clause-made : goal.returns-clause-made
returns-clause-made c = opens is_short its_log 3 two_logs (1 ∷ 1 ∷ []) (Some (7 ∷ []) ∷ Some [] ∷ []) ((7 ∷ []) ∷ [] ∷ []) refl refl refl short
  where
    short : (place : ℕ) (value : List ℕ) → get_elem? ((7 ∷ []) ∷ [] ∷ []) place ≡ some value → length value ≤ 3
    short zero value e = let l = ap length (some-injective (7 ∷ []) value e) in omega arith
    short (suc zero) value e = let l = ap length (some-injective [] value e) in omega arith
    short (suc (suc place)) value e = absurd (some-ne-none value (sym e))

pub returns-clause-at_home : goal.returns-clause-at_home
returns-clause-at_home c = (7 ∷ [], refl, omega arith, refl)

pub returns-clause-not_its_log : goal.returns-clause-not_its_log
returns-clause-not_its_log c = λ h. let l = at_home (7 ∷ []) h.0 h.1 in let n = ap length h.3 in omega arith

pub returns-clause-no_value : goal.returns-clause-no_value
returns-clause-no_value c = λ r. let h = r.free 1 (omega arith) (λ e. omega arith) in some_none h.0 (some-injective None (Some h.0) (some-injective (some None) (some (Some h.0)) h.1))

pub returns-clause-no_fact : goal.returns-clause-no_fact
returns-clause-no_fact c = λ r. let h = r.free 0 (omega arith) (λ e. omega arith) in let l = at_home (7 ∷ []) h.0 h.1 in let few = h.2 in omega arith

pub returns-clause-taken_by_nobody : goal.returns-clause-taken_by_nobody
returns-clause-taken_by_nobody c = λ r. let h = r.taken 1 (omega arith) refl in some_none 1 (ap (λ (v : View ℕ ℕ). v.place) (only_one small_root h.1 h.0 h.2).1 ∙ h.3)

pub returns-clause-knows_more : goal.returns-clause-knows_more
returns-clause-knows_more c = λ r. let h = r.free 0 (omega arith) (λ e. omega arith) in let l = at_home [] h.0 h.1 in let n = ap length h.3 in
    let long = begins_length (r.logs 0) (7 ∷ []) ((r.fits 0 small_root refl).3 0).0 in omega arith

pub returns-clause-other_topic : goal.returns-clause-other_topic
returns-clause-other_topic c = λ r. let same = ((r.fits 0 small_root refl).1 3 refl).0 in omega arith

pub returns-clause-owns_what_was_there : goal.returns-clause-owns_what_was_there
returns-clause-owns_what_was_there c = λ r. let below : (0 < 1) ⊎ (1 + (length (r.logs 0) - 1) ≤ 0) = inl (omega arith) in
    let none' = times_out 0 0 1 (length (r.logs 0) - 1) below in let o = r.owned 0 0 in omega arith
