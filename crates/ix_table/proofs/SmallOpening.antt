-- The banks of `S: S; "a".` over the empty text as a table begins with them.
use Rattle.std.proofs.Common.{◌≡◌, ◌≢◌, ◌<◌, ℕ, zero, suc, Bool, if◌then◌else◌, [], length, Some, slice_get, refl, sym, ◌∙◌, subst, rules, arith}
use Rattle.std.specs.List.{IsDistinct}
use Rattle.std.proofs.Math.Dec.{eqb-suc-zero}
use Rattle.std.proofs.lemmas.List.FromFn.{length-map-range_with_len, get_or-map-range_with_len}
use Rattle.std.proofs.lemmas.Option.{slice_get_within, get_or_from_slice_get}
use Rattle.ix_model.specs.Expansion.Parts.{Parts}
use Rattle.ix_examples.specs.SmallPlans.{cycle}
use Rattle.ix_cluster.specs.Banks.{opening, opening_bank}
use Rattle.ix_cluster.specs.Facts.{same_fact}
use Rattle.ix_cluster.specs.Homes.{home}
use Rattle.ix_cluster.specs.Seen.{Bank}
use Rattle.ix_cluster.specs.Sound.{IsSoundBank, AreSound}
use Rattle.ix_cluster.specs.Steps.{after_call}
use Rattle.ix_cluster.proofs.Members.{none_has}
use Rattle.ix_table.specs.Examples.{first_bank}
use Rattle.ix_table.proofs.Closings.{slice_at, all_sound}
use Rattle.ix_table.proofs.SmallSteps.{first_sound}

none_distinct : IsDistinct same_fact []
unfolding IsDistinct
none_distinct = tt

-- an empty bank is sound where the first rule is not at home
empty_sound : (plan : Parts) (m : ℕ) → home 0 0 64 ≢ m → IsSoundBank plan 64 m (record { log = []; handed = 0 })
empty_sound plan m away = record {
  once = none_distinct;
  at_home = λ f h. absurd (none_has f h);
  true_facts = record { closed = λ f h. absurd (none_has f h); later = λ n s l p e. absurd (cc e) };
  companions = record {
    parts = λ sub h. absurd (none_has _ h);
    alternatives = λ r k s h f. absurd (none_has _ h);
    empties = λ r k s h f g. absurd (none_has _ h);
    edges = λ r k s l h. absurd (none_has _ h);
  };
  handed = refl;
  opened = λ e. absurd (away e);
  bounded = search rules;
}

at_start : (m : ℕ) → IsSoundBank (cycle []) 64 m (opening_bank (cycle []) 64 m)
at_start zero = first_sound
at_start (suc m) =
    subst (λ (b : Bool). IsSoundBank (cycle []) 64 (suc m) (record { log = if b then after_call (cycle []) [] 0 0 else []; handed = 0 })) (sym (eqb-suc-zero m))
    (empty_sound (cycle []) (suc m) (λ e. absurd (cc e)))

many : length (opening (cycle []) 64) ≡ 64
many = length-map-range_with_len (opening_bank (cycle []) 64) 0 64

each : (m : ℕ) (bank : Bank) → slice_get (opening (cycle []) 64) m ≡ Some bank → IsSoundBank (cycle []) 64 m bank
each m bank e =
    let within : m < 64 = subst (λ (n : ℕ). m < n) many (slice_get_within (opening (cycle []) 64) m bank e) in
    let is = sym (get_or-map-range_with_len (opening_bank (cycle []) 64) 0 64 m m first_bank within (omega arith)) ∙ get_or_from_slice_get (opening (cycle []) 64) m bank first_bank e in
    subst (IsSoundBank (cycle []) 64 m) is (at_start m)

pub cycle_opens_sound : AreSound (cycle []) (opening (cycle []) 64)
cycle_opens_sound = all_sound (cycle []) (Some (cycle [])) (opening (cycle []) 64) many refl (cycle [], refl, λ m bank e. each m bank (slice_at (opening (cycle []) 64) m bank e))
