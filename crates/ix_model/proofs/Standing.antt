-- Whether a terminal stands in the text, and whether a rule has a name: both are answered.
use Rattle.std.proofs.Common.{◌≡◌, refl, sym, ap, subst, ◌∙◌, ◌⊎◌, ◌+◌, ◌≤◌, ℕ, zero, suc, List, [], ◌∷◌, length, take, drop, Bool, true, false, arith, slice_get, Some}
use Rattle.std.proofs.lemmas.Slice.Eq.{bytes_eq-Decides}
use Rattle.std.specs.Prelude.{IsTrue, Contains}
use Rattle.std.specs.Char.{char_set_contains}
use Rattle.std.specs.Str.{bytes_eq}
use mathlib.Core.Logic.{inl, inr}
use Rattle.ix_model.specs.declared.grammar.Grammar.{Grammar}
use Rattle.ix_model.specs.declared.grammar.Rule.{Rule}
use Rattle.ix_model.specs.declared.grammar.Member.{Member}
use Rattle.ix_model.specs.declared.grammar.Member.TheVariants as member
use Rattle.ix_model.specs.Matching.Classes.{in_class}
use Rattle.ix_model.specs.Matching.Codes.{bound_value}
use Rattle.ix_model.specs.Matching.Sets.{IsOfMember, IsOfSome, InSet}
use Rattle.ix_model.specs.Matching.Terminals.{StandsAt}
use Rattle.ix_model.specs.Grammars.Written.{IsNamed}
use Rattle.ix_model.proofs.Booleans.{char_set_contains-Decides}
use Rattle.ix_model.proofs.Decide.{Answered, both, all_three, either, by_test}

same_text : (xs ys : List ℕ) → Answered (xs ≡ ys)
same_text xs ys = by_test (xs ≡ ys) (bytes_eq xs ys) (bytes_eq-Decides xs ys)

is_true : (b : Bool) → Answered (IsTrue b)
is_true true = inl refl
is_true false = inr (λ h. cc h)

-- ---- terminals

contains : (xs : List ℕ) (c : ℕ) → Answered (Contains xs c)
contains xs c = by_test (Contains xs c) (char_set_contains xs c) (char_set_contains-Decides xs c)

of_member : (c : ℕ) (m : Member) → Answered (IsOfMember c m)
of_member c (member.Quoted text) = contains text c
of_member c (member.Code digits) = grind arith
of_member c (member.Range low high) = both (bound_value low ≤ c) (c ≤ bound_value high) (grind arith) (grind arith)
of_member c (member.Class name) = is_true (in_class name c)

of_some : (c : ℕ) (ms : List Member) → Answered (IsOfSome c ms)
of_some c [] = inr (λ h. h)
of_some c (m ∷ ms) = either (IsOfMember c m) (IsOfSome c ms) (of_member c m) (of_some c ms)

in_set : (exclude : Bool) (ms : List Member) (c : ℕ) → Answered (InSet exclude ms c)
in_set false ms c = of_some c ms
in_set true ms c = other (of_some c ms)
  where
    other : Answered (IsOfSome c ms) → Answered (InSet true ms c)
    other (inl h) = inr (λ k. k h)
    other (inr h) = inl h

pub stands : (s cs : List ℕ) (i j : ℕ) → Answered (StandsAt s cs i j)
stands s cs i j = all_three (i + length cs ≡ j) (j ≤ length s) (take (length cs) (drop i s) ≡ cs) (grind arith) (grind arith) (same_text (take (length cs) (drop i s)) cs)

-- a character that the set has stands in the text from i to j
abbrev pub SetStands : Bool → List Member → List ℕ → ℕ → ℕ → Type 0
SetStands exclude ms s i j = (c : ℕ) × InSet exclude ms c × StandsAt s (c ∷ []) i j

-- only the character at i can be the one
pub set_stands : (exclude : Bool) (ms : List Member) (s : List ℕ) (i j : ℕ) → Answered (SetStands exclude ms s i j)
set_stands exclude ms s i j = by_text (take 1 (drop i s)) refl
  where
    by_text : (xs : List ℕ) → take 1 (drop i s) ≡ xs → Answered (SetStands exclude ms s i j)
    by_text [] e = inr (λ h. absurd (cc (sym e ∙ h.2.2)))
    by_text (c ∷ xs) e = by_one (both (InSet exclude ms c) (StandsAt s (c ∷ []) i j) (in_set exclude ms c) (stands s (c ∷ []) i j))
      where
        by_one : Answered (InSet exclude ms c × StandsAt s (c ∷ []) i j) → Answered (SetStands exclude ms s i j)
        by_one (inl h) = inl (c, h.0, h.1)
        by_one (inr h) = inr (λ k. let q : k.0 ≡ c = cc (sym e ∙ k.2.2) in
            h (subst (λ x. InSet exclude ms x) q k.1, subst (λ x. StandsAt s (x ∷ []) i j) q k.2))

-- ---- names

abbrev IsIn : List Rule → List ℕ → ℕ → Type 0
IsIn rules name r = (rule : Rule) × (slice_get rules r ≡ Some rule) × (rule.name ≡ name)

abbrev Place : List Rule → List ℕ → Type 0
Place rules name = ((r : ℕ) × IsIn rules name r) ⊎ ((r : ℕ) → IsIn rules name r → ⊥)

place : (rules : List Rule) (name : List ℕ) → Place rules name
place [] name = inr (λ r h. absurd (cc h.1))
place (x ∷ xs) name = by_name (same_text x.name name) (place xs name)
  where
    by_name : Answered (x.name ≡ name) → Place xs name → Place (x ∷ xs) name
    by_name (inl p) more = inl (0, (x, refl, p))
    by_name (inr p) (inl q) = inl (suc q.0, (q.1.0, q.1.1, q.1.2))
    by_name (inr p) (inr q) = inr none
      where
        none : (r : ℕ) → IsIn (x ∷ xs) name r → ⊥
        none zero h = let e : x ≡ h.0 = cc h.1 in p (ap (λ (y : Rule). y.name) e ∙ h.2)
        none (suc r) h = q r h

-- some rule has the name, or none has
pub named : (g : Grammar) (name : List ℕ) → ((r : ℕ) × IsNamed g r name) ⊎ ((r : ℕ) → IsNamed g r name → ⊥)
named g name = place g.rules name
