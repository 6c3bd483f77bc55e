-- How deep so many pairs of parentheses are, and that a grammar of them conforms.
use Rattle.std.proofs.Common.{◌≡◌, refl, ℕ, zero, suc, [], ◌∷◌, codes, arith}
use Rattle.ix_model.specs.declared.grammar.Term.{Term}
use Rattle.ix_model.specs.declared.grammar.Factor.TheFolds.{fold-Term}
use Rattle.ix_model.specs.Spelling.Depth.{factor_step, term_step, alt_step, depth}
use Rattle.ix_model.specs.Grammars.Breach.{Fault, Breach}
use Rattle.ix_model.specs.Grammars.Factors.{factors_of_term}
use Rattle.ix_examples.specs.SmallGrammars.{literal, quoted}
use Rattle.ix_examples.specs.SmallSpellings.{in_pairs, pairs}
use Rattle.ix_model.proofs.Folds.{the_folds}
use Rattle.ix_conformance_laws.proofs.Judging.{unrefused}
use Rattle.ix_conformance_laws.proofs.ByTests.{no_version, unique}

abbrev term_depth : Term → ℕ
term_depth = fold-Term ℕ ℕ ℕ factor_step term_step alt_step

term_in_pairs : (n : ℕ) → term_depth (in_pairs n (quoted (codes "a"))) ≡ n
term_in_pairs zero = simp the_folds refl
term_in_pairs (suc n) = simp the_folds (omega (arith, term_in_pairs n))

pub pairs_deep : (n : ℕ) → depth (pairs n) ≡ n
pairs_deep n = simp the_folds (omega (arith, term_in_pairs n))

factors_in_pairs : (n : ℕ) → factors_of_term (in_pairs n (quoted (codes "a"))) ≡ literal (codes "a") ∷ []
factors_in_pairs zero = simp the_folds refl
factors_in_pairs (suc n) = simp (the_folds, factors_in_pairs n) refl

pub pairs_conform : (n : ℕ) (fault : Fault) → ¬ (Breach (pairs n) fault)
pairs_conform n = unrefused (pairs n) (record {
  version = no_version (pairs n) refl;
  code_points = simp (the_folds, factors_in_pairs n) tt;
  ranges = simp (the_folds, factors_in_pairs n) tt;
  classes = simp (the_folds, factors_in_pairs n) tt;
  calls = simp (the_folds, factors_in_pairs n) tt;
  names = unique (pairs n) refl;
})
