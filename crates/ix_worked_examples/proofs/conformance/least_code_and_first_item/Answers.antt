use Rattle.std.proofs.Common.{◌≡◌, ap, refl, get_or, ℕ, List, [], ◌∷◌, codes, ◌≤◌, arith}
use Rattle.ix_model.specs.Grammars.Breach.{code_point, duplicate, IsCodePoint, IsRising}
use Rattle.ix_model.specs.Grammars.Factors.{codes_of, ranges_of}
use Rattle.ix_examples.specs.SmallSpellings.{last_rule_wrong, two_falling, no_characters, two_repeated}
use Rattle.ix_model.proofs.Firsts.{in_front, first_is_one}
use Rattle.ix_model.proofs.Folds.{the_folds}
use Rattle.ix_conformance_laws.proofs.Judging.{item_once, above_version, above_codes, above_calls}
use Rattle.ix_conformance_laws.proofs.ByTests.{no_version, none_repeated}
use Rattle.ix_worked_examples.proofs.conformance.least_code_and_first_item.Goals as goal

pub returns-clause-last_rule : goal.returns-clause-last_rule
returns-clause-last_rule c = (in_front (λ n y. ¬ (IsCodePoint y)) (codes_of last_rule_wrong) [] (codes "D800") (simp the_folds refl) (λ e. cc e), above_version last_rule_wrong (no_version last_rule_wrong refl))

pub returns-clause-not_first_rule : goal.returns-clause-not_first_rule
returns-clause-not_first_rule c = λ h. let p : 4 ≤ 3 = h.1 (code_point (codes "D800")) (in_front (λ n y. ¬ (IsCodePoint y)) (codes_of last_rule_wrong) [] (codes "D800") (simp the_folds refl) (λ e. cc e)) in omega (arith, p)

pub returns-clause-item_first : goal.returns-clause-item_first
returns-clause-item_first c = (in_front (λ n y. ¬ (IsRising y)) (ranges_of two_falling) ((100, 99) ∷ []) (98, 97) (simp the_folds refl) (λ l. omega (arith, l)), above_codes two_falling (no_version two_falling refl) (simp the_folds tt))

pub returns-clause-not_separator : goal.returns-clause-not_separator
returns-clause-not_separator c = λ h. let p : (98, 97) ≡ (100, 99) = first_is_one (λ n y. ¬ (IsRising y)) (ranges_of two_falling) (98, 97) (100, 99) (in_front (λ n y. ¬ (IsRising y)) (ranges_of two_falling) ((100, 99) ∷ []) (98, 97) (simp the_folds refl) (λ l. omega (arith, l))) h in omega (arith, ap (λ (x : ℕ × ℕ). x.0) p)

pub returns-clause-low_first : goal.returns-clause-low_first
returns-clause-low_first c = ((in_front (λ n y. ¬ (IsCodePoint y)) (codes_of no_characters) (codes "110000" ∷ []) (codes "D800") (simp the_folds refl) (λ e. cc e)), above_version no_characters (no_version no_characters refl))

pub returns-clause-not_high : goal.returns-clause-not_high
returns-clause-not_high c = λ h. let p : codes "D800" ≡ codes "110000" = first_is_one (λ n y. ¬ (IsCodePoint y)) (codes_of no_characters) (codes "D800") (codes "110000") (in_front (λ n y. ¬ (IsCodePoint y)) (codes_of no_characters) (codes "110000" ∷ []) (codes "D800") (simp the_folds refl) (λ e. cc e)) h in omega (arith, ap (λ (x : List ℕ). get_or x 0 0) p)

pub returns-clause-repeated_first : goal.returns-clause-repeated_first
returns-clause-repeated_first c = ((3, ((_, refl, refl), 1, omega arith, (_, refl, refl)), none_repeated two_repeated 3 refl), above_calls two_repeated (no_version two_repeated refl) (simp the_folds tt) (simp the_folds tt) (simp the_folds tt) (simp the_folds tt))

pub returns-clause-not_first_pair : goal.returns-clause-not_first_pair
returns-clause-not_first_pair c = λ h.
    let p : duplicate (codes "b") ≡ duplicate (codes "S") = item_once two_repeated (duplicate (codes "b")) (duplicate (codes "S")) (3, ((_, refl, refl), 1, omega arith, (_, refl, refl)), none_repeated two_repeated 3 refl) h refl in
    let q : codes "b" ≡ codes "S" = cc p in
    omega (arith, ap (λ (x : List ℕ). get_or x 0 0) q)
