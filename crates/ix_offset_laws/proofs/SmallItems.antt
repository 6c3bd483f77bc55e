-- Under `S: "a"+.` nothing of `ba` is read: no descriptor leaves the front.
use Rattle.std.proofs.Common.{rules, ◌≡◌, refl, ap, sym, subst, ◌∙◌, ◌≤◌, ℕ, zero, suc, [], ◌∷◌, None, arith, codes}
use mathlib.Core.Logic.{inr}
use Rattle.ix_model.specs.declared.rules.Sym.{Sym}
use Rattle.ix_model.specs.declared.rules.Terminal.TheVariants.{Lit}
use Rattle.ix_model.specs.Expansion.Parts.{Parts}
use Rattle.ix_model.specs.Expansion.Planned.{IsPlanned, IsPlanOf}
use Rattle.ix_model.specs.Expansion.Expanded as X
use Rattle.ix_model.specs.Expansion.Expanded.{Expanded}
use Rattle.ix_model.specs.Expansion.FlatDerives.{IsTerminal, TerminalMatches}
use Rattle.ix_model.specs.Matching.Terminals.{StandsAt}
use Rattle.ix_model.specs.Derivations.Offset.{Offset}
use Rattle.ix_examples.specs.SmallGrammars.{of_term}
use Rattle.ix_examples.specs.SmallRules.{shown, helper}
use Rattle.ix_examples.proofs.Inversions.{only_rule}
use Rattle.ix_examples.proofs.SmallTexts.{first}
use Rattle.ix_offset_laws.specs.Examples.{a_plus, plus_plan}
use Rattle.ix_offset_laws.specs.Furthest.{HasDotAt, Furthest}
use Rattle.ix_offset_laws.proofs.KeptPlaces.{AtFront, AreKept, desc_kept}
use Rattle.ix_offset_laws.proofs.FurthestOffset.{offset_of}

abbrev on_ba : Parts
on_ba = plus_plan (codes "ba")

expands_plus : Expanded (of_term a_plus) on_ba.rules
expands_plus = record {
  end = record { rule = 2; terminal = 1; insert = 0 };
  names = refl;
  marks = refl;
  walk = X.and_rule _ _ _ _ _ _ ((helper 1 ∷ []) ∷ []) refl
      (X.and_alt _ _ _ _ _ _ _ (X.and_term _ _ _ _ _ _ _ (X.plus _ _ _ _ (helper 1)
      (X.repeated _ _ _ _ _ (shown 0) None refl (X.literal _ _ _ refl) (X.no_separator _))) (X.no_term _)) (X.no_alt _))
      (X.no_rule _ _);
  rule_count = refl;
  terminal_count = refl;
  insert_count = refl;
}

plan_of_plus : IsPlanOf (of_term a_plus) on_ba
plan_of_plus = record { text = (refl, (refl, tt)); unique = λ r q name h k. only_rule _ r name h ∙ sym (only_rule _ q name k); first = omega arith; expanded = expands_plus }

planned_plus : IsPlanned on_ba
planned_plus = search rules

-- the only terminal does not stand at the front
no_match : (x : Sym) (p e : ℕ) → p ≡ 0 → IsTerminal on_ba x p e → ⊥
no_match x p e z (zero, shown, terminal, y, at, m) =
    let a : terminal ≡ Lit (codes "a") = sym (cc at) in
    let stands : StandsAt (codes "ba") (codes "a") 0 e = subst (λ (i : ℕ). StandsAt (codes "ba") (codes "a") i e) z (subst (λ t. TerminalMatches (codes "ba") t p e) a m) in
    omega (arith, ap first stands.2)
no_match x p e z (suc n, shown, terminal, y, at, m) = cc at

-- so all calls, dots and ends are at the front
kept_at_front : AreKept on_ba AtFront AtFront AtFront
kept_at_front = record {
  start = refl;
  begin = λ s r p l h d c. c;
  call = λ s r p m n d. d;
  end = λ s r p h n d. d;
  scan = λ s p e x n t d. absurd (no_match x p e d t);
  insert = λ s p n e d. d;
  join = λ s r p e m n d u. u;
}

at_most_0 : (p : ℕ) → HasDotAt on_ba p → p ≤ 0
at_most_0 p (s, l, d) = omega (arith, desc_kept on_ba AtFront AtFront AtFront planned_plus kept_at_front s l p d)

furthest_of_ba : Furthest on_ba 0
furthest_of_ba = (inr refl, at_most_0)

-- and so, by the law, the offset is 0
pub offset_of_ba : Offset (of_term a_plus) (codes "ba") 0
offset_of_ba = offset_of (of_term a_plus) on_ba plan_of_plus planned_plus 0 furthest_of_ba
