-- Small grammars that conform, and how deep they nest.
use Rattle.std.proofs.Common.{◌≡◌, ◌≢◌, refl, ap, sym, ◌∙◌, slice_get, ℕ, ◌≤◌, List, [], ◌∷◌, None, Some, codes, arith}
use Rattle.ix_model.specs.declared.grammar.Grammar.{Grammar}
use Rattle.ix_model.specs.Firsts.{IsFirstOf}
use Rattle.ix_model.specs.Grammars.Written.{IsNamed}
use Rattle.ix_model.specs.Spelling.Depth.{depth}
use Rattle.ix_model.specs.Grammars.Factors.{codes_of, ranges_of, classes_of, calls_of}
use Rattle.ix_model.specs.Grammars.Breach.{Fault, version, code_point, range, class, undefined, duplicate, Breach, LeastBreach, code_number}
use Rattle.ix_examples.specs.SmallGrammars.{quoted, only_a, two_ways}
use Rattle.ix_examples.specs.SmallSpellings.{of_version}
use Rattle.ix_model.proofs.Folds.{the_folds}
use Rattle.ix_examples.proofs.Inversions.{only_rule}
use Rattle.ix_examples.proofs.SmallTexts.{first}

-- another version is the least fault
pub version_first : (g : Grammar) (number : List ℕ) → g.version ≡ Some number → number ≢ codes "1.0" → LeastBreach g (version number)
version_first g number e n = ((e, n), at_least)
  where
    at_least : (other : Fault) → Breach g other → 2 ≤ code_number other
    at_least (version t) h = omega arith
    at_least (code_point d) h = omega arith
    at_least (range a b) h = omega arith
    at_least (class c) h = omega arith
    at_least (undefined c) h = omega arith
    at_least (duplicate c) h = omega arith

nothing_first : {X : Type 0} (P : ℕ → X → Type 0) (xs : List X) (x : X) → xs ≡ [] → ¬ (IsFirstOf P xs x)
nothing_first {X} P xs x e (n, (f, p, before)) = cc (ap (λ ys. slice_get ys n) (sym e) ∙ f)

-- a grammar of one rule without numbers, ranges, classes and calls conforms
plain_conforms : (g : Grammar) → g.version ≡ None → codes_of g ≡ [] → ranges_of g ≡ [] → classes_of g ≡ [] → calls_of g ≡ [] → ((r : ℕ) (name : List ℕ) → IsNamed g r name → r ≡ 0) → (fault : Fault) → ¬ (Breach g fault)
plain_conforms g v a b c d one (version t) h = cc (v, h.0)
plain_conforms g v a b c d one (code_point x) h = nothing_first _ (codes_of g) x a h
plain_conforms g v a b c d one (range x y) h = nothing_first _ (ranges_of g) (x, y) b h
plain_conforms g v a b c d one (class x) h = nothing_first _ (classes_of g) x c h
plain_conforms g v a b c d one (undefined x) h = nothing_first _ (calls_of g) x d h
plain_conforms g v a b c d one (duplicate name) (r, (named, q, less, other), f) = omega (arith, less, one r name named)

pub only_a_conforms : (fault : Fault) → ¬ (Breach only_a fault)
only_a_conforms = plain_conforms only_a refl (simp the_folds refl) (simp the_folds refl) (simp the_folds refl) (simp the_folds refl) (only_rule _)

pub two_ways_conforms : (fault : Fault) → ¬ (Breach two_ways fault)
two_ways_conforms = plain_conforms two_ways refl (simp the_folds refl) (simp the_folds refl) (simp the_folds refl) (simp the_folds refl) (only_rule _)

flat_a : depth only_a ≡ 0
flat_a = simp the_folds refl

flat_both : depth two_ways ≡ 0
flat_both = simp the_folds refl

pub shallow_a : depth only_a ≤ 100
shallow_a = omega (arith, flat_a)

pub shallow_both : depth two_ways ≤ 100
shallow_both = omega (arith, flat_both)

flat_version : depth (of_version (codes "2.0") (quoted (codes "a"))) ≡ 0
flat_version = simp the_folds refl

pub shallow_version : depth (of_version (codes "2.0") (quoted (codes "a"))) ≤ 100
shallow_version = omega (arith, flat_version)

pub not_first_version : codes "2.0" ≢ codes "1.0"
not_first_version e = omega (arith, ap first e)
