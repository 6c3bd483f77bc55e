-- What asking one deck after another leaves.
use Rattle.std.proofs.Common.{◌≡◌, ◌≢◌, ℕ, List, length, ap, sym, subst, ◌∙◌, ⊎_elim, arith}
use Rattle.std.specs.Prelude.{Option, Some, None}
use mathlib.Core.Logic.{dite}
use native.Mathlib.Decide.{ℕ_discrete}
use Rattle.ix_pool.specs.Counts.{one_more}
use Rattle.ix_pool.specs.Asking.{Missed, SameCount, Untouched, AsksInOrder, AsksOthers}

-- what is left alone twice is left alone
pub untouched_twice : {D : Type 0} (xs ys zs : List D) (w : ℕ) → length ys ≡ length xs → Untouched xs ys w → Untouched ys zs w → Untouched xs zs w
untouched_twice xs ys zs w long a b d near = b d (omega arith) ∙ a d near

module _ {D : Type 0} (count : D → ℕ) where
  -- a deck that missed and is then left alone has missed
  pub missed_then_untouched : (xs ys zs : List D) (w : ℕ) → length ys ≡ length xs → Missed count xs ys w → Untouched ys zs w → Missed count xs zs w
  missed_then_untouched xs ys zs w long a b d near = ap count (b d (omega arith)) ∙ a d near

  -- a deck that is left alone and then misses has missed
  pub untouched_then_missed : (xs ys zs : List D) (w : ℕ) → length ys ≡ length xs → Untouched xs ys w → Missed count ys zs w → Missed count xs zs w
  untouched_then_missed xs ys zs w long a b d near = b d (omega arith) ∙ ap (λ (x : D). one_more (count x)) (a d near)

  -- the same of a count that stays
  pub untouched_then_same : (xs ys zs : List D) (w : ℕ) → length ys ≡ length xs → Untouched xs ys w → SameCount count ys zs w → SameCount count xs zs w
  untouched_then_same xs ys zs w long a b d near = b d (omega arith) ∙ ap count (a d near)

  -- to ask its own deck in vain and then the others is to ask all in order
  pub own_then_others : {A : Type 0} (own : ℕ) (r : Option A) (xs ys zs : List D) → length ys ≡ length xs → ((w : ℕ) → w ≢ own → Untouched xs ys w) → Missed count xs ys own → Untouched ys zs own → AsksOthers count own r ys zs → AsksInOrder count own r xs zs
  own_then_others own None xs ys zs long left miss kept h = λ w. dite (ℕ_discrete w own)
      (λ is. missed_then_untouched xs ys zs w long (subst (Missed count xs ys) (sym is) miss) (subst (Untouched ys zs) (sym is) kept))
      (λ ne. untouched_then_missed xs ys zs w long (left w ne) (h w ne))
  own_then_others own (Some x) xs ys zs long left miss kept h = (
    h.0,
    record {
      within = (let near = h.2 in omega arith);
      missed = λ a f. dite (ℕ_discrete a own)
          (λ is. missed_then_untouched xs ys zs a long (subst (Missed count xs ys) (sym is) miss) (subst (Untouched ys zs) (sym is) kept))
          (λ ne. untouched_then_missed xs ys zs a long (left a ne) (h.3 a ne (⊎_elim (λ is. absurd (ne is)) (λ low. low) f.1)));
      same = untouched_then_same xs ys zs h.0 long (left h.0 h.1) h.4;
      untouched = λ b f. untouched_twice xs ys zs b long (left b f.0) (h.5 b (⊎_elim (λ is. absurd (h.1 is)) (λ low. low) f.1));
    },
  )
