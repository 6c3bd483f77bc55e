-- The characters that a set matches, from those that its members have.
use Rattle.std.proofs.Common.{◌≡◌, ◌↔◌, ℕ, ◌≤◌, Bool, true, false, not, ◌&&◌, List, [], ◌∷◌, sym, inl, inr, IsTrue, ap, arith, ◌∙◌, ⊎_elim}
use Rattle.std.specs.Char.{IsScalar}
use Rattle.std.proofs.lemmas.Bool.{both_ways, cases_lt, and_parts, and_from, not-true, not_from_false, false_from_ne_true}
use Rattle.std.proofs.lemmas.Bool.Decides.{nat_tests}
use Rattle.regex_class.specs.Ranges.{Range, in_range, in_ranges, HasExactly}
use Rattle.regex_class.specs.declared.Class.{Class}
use Rattle.regex_class.proofs.RangesLemmas.{in_ranges-nil, in_ranges-above_max}
use Rattle.ix_model.specs.declared.grammar.Member.{Member}
use Rattle.ix_model.specs.Matching.Sets.{IsOfSome, InSet}
use Rattle.ix_sets.specs.Gains.{Gains}

-- up to the greatest character, the ranges hold what P is true of
abbrev pub Holds : Class → (ℕ → Type 0) → Type 0
Holds class P = (c : ℕ) → c ≤ 0x10_FFFF → IsTrue (in_ranges class.ranges.items c) ↔ P c

scalar_ranges : (c : ℕ) → IsTrue (in_ranges ((0, 0xD7FF) ∷ (0xE000, 0x10_FFFF) ∷ []) c) ↔ IsScalar c
unfolding in_ranges in_range
scalar_ranges c = (λ h. grind (arith, nat_tests), λ h. grind (arith, nat_tests))

pub scalars_held : (class : Class) → HasExactly class.ranges.items (in_ranges ((0, 0xD7FF) ∷ (0xE000, 0x10_FFFF) ∷ [])) → Holds class IsScalar
scalars_held class same = λ c m.
    (λ h. (scalar_ranges c).0 (sym (same c m) ∙ h), λ h. same c m ∙ (scalar_ranges c).1 h)

pub members_held : (ms : List Member) (none : List Range) → none ≡ [] → (all : List Range) → Gains none all (λ c. IsOfSome c ms) → (class : Class) → HasExactly class.ranges.items (in_ranges all) → Holds class (λ c. IsOfSome c ms)
members_held ms none e all g class same = λ c m.
    let held = g.held c m in
    (λ h. ⊎_elim (λ h. absurd (both_ways _ (ap (λ rs. in_ranges rs c) e ∙ in_ranges-nil c) h)) (λ of. of) (held.0 (sym (same c m) ∙ h)), λ h. same c m ∙ held.1 (inr h))

scalar_within : (c : ℕ) → IsScalar c → c ≤ 0x10_FFFF
scalar_within c h = grind (arith, nat_tests)

-- what is so up to the greatest character is so of every number, where P is true of characters alone
everywhere : (class : Class) (P : ℕ → Type 0) → Holds class (λ c. IsScalar c × P c) → (c : ℕ) → IsTrue (in_ranges class.ranges.items c) ↔ (IsScalar c × P c)
everywhere class P holds c = elim (cases_lt 0x10_FFFF c) [
  | inl above ↦ (λ h. absurd (both_ways _ (in_ranges-above_max class.ranges.items c class.canonical above) h), λ h. absurd (let m = scalar_within c h.0 in omega arith))
  | inr within ↦ holds c within
]

pub others_held : (exclude : Bool) → exclude ≡ true → (ms : List Member) (characters members : Class) → Holds characters IsScalar → Holds members (λ c. IsOfSome c ms) → (class : Class) → HasExactly class.ranges.items (λ c. in_ranges characters.ranges.items c && not (in_ranges members.ranges.items c)) → (c : ℕ) → IsTrue (in_ranges class.ranges.items c) ↔ (IsScalar c × InSet exclude ms c)
others_held exclude e ms characters members cs msh class same = rw e (everywhere class (λ c. ¬ (IsOfSome c ms)) (λ c m. (
  λ h. let parts = and_parts _ _ (sym (same c m) ∙ h) in ((cs c m).0 parts.0, λ of. both_ways _ (not-true _ parts.1) ((msh c m).1 of)),
  λ h. same c m ∙ and_from _ _ ((cs c m).1 h.0) (not_from_false _ (false_from_ne_true _ (λ t. h.1 ((msh c m).0 t)))),
)))

pub own_held : (exclude : Bool) → exclude ≡ false → (ms : List Member) (characters members : Class) → Holds characters IsScalar → Holds members (λ c. IsOfSome c ms) → (class : Class) → HasExactly class.ranges.items (λ c. in_ranges characters.ranges.items c && in_ranges members.ranges.items c) → (c : ℕ) → IsTrue (in_ranges class.ranges.items c) ↔ (IsScalar c × InSet exclude ms c)
own_held exclude e ms characters members cs msh class same = rw e (everywhere class (λ c. IsOfSome c ms) (λ c m. (
  λ h. let parts = and_parts _ _ (sym (same c m) ∙ h) in ((cs c m).0 parts.0, (msh c m).0 parts.1),
  λ h. same c m ∙ and_from _ _ ((cs c m).1 h.0) ((msh c m).1 h.1),
)))
