-- The first slots of a rule's alternatives have the dot at the beginning, and each stands there once.
use Rattle.std.proofs.Common.{◌≡◌, ℕ, ◌<◌, [], length, Contains, Option, Some, None, slice_get, option_map, unwrap_or, refl, sym, ap, subst, arith}
use Rattle.std.specs.List.{range_with_len}
use Rattle.std.proofs.lemmas.List.FromFn.{length-map-range_with_len}
use Rattle.std.proofs.lemmas.Option.{slice_get_within}
use Rattle.ix_model.specs.declared.rules.Flat.{Flat}
use Rattle.ix_model.specs.declared.rules.Rules.{Rules}
use Rattle.ix_model.specs.Expansion.FlatDerives.{IsLine}
use Rattle.ix_model.specs.Expansion.Numbered.{lines_at}
use Rattle.ix_model.specs.Expansion.Parts.{Parts}
use Rattle.ix_model.specs.Expansion.Planned.{IsPlanned}
use Rattle.ix_model.specs.Expansion.SlotPlaces.{IsFirstSlot}
use Rattle.ix_model.specs.Expansion.Slots.{IsSlot}
use Rattle.ix_model.proofs.Readers.{has_line}
use Rattle.ix_model.proofs.SlotPlaces.{slot_for, same_slot}
use Rattle.ix_cluster.specs.Firsts.{first_slot, firsts_of}
use Rattle.ix_cluster.proofs.Beginning.{first_is_slot, firsts_are}
use Rattle.ix_closure.specs.declared.owed.Owed.TheVariants.{Claim}
use Rattle.ix_closure.specs.Follows.{claims_at}
use Rattle.ix_closure.proofs.Lists.OnceEach.{IsOnceEach, once_map}
use Rattle.ix_closure.proofs.Lists.Ranges.{range_within, once_range}

-- a rule that has an alternative is there
rule_with_alternatives : (rules : Rules) (r : ℕ) → 0 < length (lines_at rules r) → r < length rules.flats
rule_with_alternatives rules r some = by (slice_get rules.flats r) refl
  where
    by : (flat : Option Flat) → slice_get rules.flats r ≡ flat → r < length rules.flats
    by (Some flat) e = slice_get_within rules.flats r flat e
    by None e = let none = ap (λ (o : Option Flat). length (unwrap_or (option_map (λ (flat : Flat). flat.lines) o) [])) e in absurd (omega (arith, some, none))

module _ (plan : Parts) (planned : IsPlanned plan) (r : ℕ) where
  -- what is among the first slots is one of the rule's
  pub first_of : (s : ℕ) → Contains (firsts_of plan r) s → IsFirstSlot plan s r
  first_of s h = firsts_are plan planned r s (rule_with_alternatives plan.rules r (omega (arith, h.1, length-map-range_with_len (first_slot plan r) 0 (length (lines_at plan.rules r))))) h

  -- the first slot of an alternative is the slot with its dot at the beginning
  first_stands : (a : ℕ) → a < length (lines_at plan.rules r) → IsSlot plan (first_slot plan r a) r a 0
  first_stands a h =
      let found = has_line plan.rules r a (rule_with_alternatives plan.rules r (omega (arith, h))) h in
      let line : IsLine plan r a found.line.syms = (found.flat, found.line, found.flat_at, found.line_at, refl) in
      let at = slot_for plan planned r a 0 found.line.syms line (omega arith) in
      subst (λ (n : ℕ). IsSlot plan n r a 0) (sym (first_is_slot plan planned r a at.0 at.1)) at.1

  -- so no two alternatives have one, and each is there once
  pub firsts_once : IsOnceEach (firsts_of plan r)
  firsts_once = once_map (first_slot plan r) (range_with_len 0 count) same (once_range 0 count)
    where
      count : ℕ
      count = length (lines_at plan.rules r)

      stands : (a : ℕ) → Contains (range_with_len 0 count) a → IsSlot plan (first_slot plan r a) r a 0
      stands a h = first_stands a (omega (arith, (range_within 0 count a h).1))

      same : (a b : ℕ) → Contains (range_with_len 0 count) a → Contains (range_with_len 0 count) b → first_slot plan r a ≡ first_slot plan r b → a ≡ b
      same a b h i e = (same_slot plan (first_slot plan r b) r a 0 r b 0 (subst (λ (n : ℕ). IsSlot plan n r a 0) e (stands a h)) (stands b i)).1

  -- and so are their claims at a position
  pub claims_once : (k : ℕ) → IsOnceEach (claims_at k (firsts_of plan r))
  claims_once k = once_map (λ s. Claim s k k) (firsts_of plan r) (λ a b h i e. cc) firsts_once
