-- Texts under grammars of one rule of any mark and name: their derivations, and what these answer.
use Rattle.std.proofs.Common.{rules, ◌≡◌, ◌≢◌, refl, ap, sym, subst, ◌⊎◌, ℕ, ◌≤◌, List, [], ◌∷◌, Some, Option, None, codes, length, take, drop, arith}
use mathlib.Core.Logic.{inl, inr}
use Rattle.ix_model.specs.declared.grammar.Grammar.{Grammar}
use Rattle.ix_model.specs.declared.grammar.Rule.{Rule}
use Rattle.ix_model.specs.declared.grammar.Mark.{Mark}
use Rattle.ix_model.specs.declared.grammar.Mark.TheVariants.{Attribute}
use Rattle.ix_model.specs.declared.grammar.Chars.TheVariants.{Code}
use Rattle.ix_model.specs.declared.grammar.Term.{Term, One}
use Rattle.ix_model.specs.declared.grammar.Factor.{Lit}
use Rattle.ix_model.specs.Grammars.Written.{IsAlternative, IsOfRule}
use Rattle.ix_model.specs.Grammars.Breach.{Fault, Breach}
use Rattle.ix_model.specs.Spelling.Depth.{depth}
use Rattle.ix_model.specs.Matching.Terminals.{StandsAt}
use Rattle.ix_model.specs.Derivations.Trees.{Tree, text, Trees, no_tree, and}
use Rattle.ix_model.specs.Derivations.Derives.{DerivesAll, IsDerivation, Ambiguous}
use Rattle.ix_model.specs.Derivations.Order.{Before, First}
use Rattle.ix_model.specs.Documents.Gives.{Givens, attribute, element, nothing, followed, gives_root}
use Rattle.ix_model.specs.Documents.XmlNames.{is_xml_name_start, is_xml_name}
use Rattle.ix_model.specs.Documents.Dyn.{Refusal, attribute_at_top, bad_name, Dyn, refusal_number}
use Rattle.ix_model.specs.Answers.Outcome.{failed, refused}
use Rattle.ix_model.specs.Answers.Answer.{Parsed}
use Rattle.ix_examples.specs.SmallGrammars.{alternative, grammar, quoted}
use Rattle.ix_examples.specs.SmallGivens.{text_of}
use Rattle.ix_examples.specs.SmallTrees.{node_of}
use Rattle.ix_examples.specs.SmallReadings.{two_lines}
use Rattle.ix_examples.specs.SmallRoots.{a_alone, one_root, two_roots, ordinal}
use Rattle.ix_model.proofs.Folds.{the_folds}
use Rattle.ix_model.proofs.Forming.{factor_of_one}
use Rattle.ix_model.proofs.Forms.{out_lit}
use Rattle.ix_conformance_laws.proofs.Judging.{unrefused}
use Rattle.ix_conformance_laws.proofs.ByTests.{no_version, unique}
use Rattle.ix_examples.proofs.Inversions.{one_alternative, one_of_two, of_only_rule, quoted_is_text, one_derived, three_derived}
use Rattle.ix_examples.proofs.SmallTexts.{first}
use Rattle.ix_worked_examples.proofs.SmallDocuments.{first_failing, from_three}
use Rattle.ix_worked_examples.proofs.SmallReadings.{two_of_lines}

-- an alternative of the only rule, whatever its mark
of_root : (x : Rule) (a : ℕ) (terms : List Term) → IsOfRule (grammar (x ∷ [])) 0 a terms → IsAlternative x.alts a terms
of_root x a terms h =
    let e : h.0 ≡ x = cc h.1 in
    subst (λ (y : Rule). IsAlternative y.alts a terms) e h.2

abbrev by_first : Tree
by_first = node_of 0 0 (text 0 1)

abbrev by_second : Tree
by_second = node_of 0 1 (text 0 1)

-- one tree derives the text from "a"
alone : (g : Grammar) (s : List ℕ) (ds : Trees) (terms : List Term) → a_alone ≡ terms → DerivesAll g s ds terms 0 (length s) → ds ≡ and no_tree (text 0 (length s))
alone g s ds terms e all =
    let h = one_derived g s ds (quoted (codes "a")) 0 (length s) (subst (λ ts. DerivesAll g s ds ts 0 (length s)) (sym e) all) in
    let y = quoted_is_text g s h.0 (codes "a") 0 (length s) h.2 in
    cc (h.1, y.0)

module _ (mark : Option Mark) (name : List ℕ) where
  only_tree : (d : Tree) → IsDerivation (one_root mark name) (codes "a") d → d ≡ by_first
  only_tree d (a, terms, ds, p, o, all) =
      let x = one_alternative a_alone a terms (of_root _ a terms o) in
      cc (p, x.0, alone (one_root mark name) (codes "a") ds terms x.1 all)

  pub only_is_first : First (one_root mark name) (codes "a") by_first
  only_is_first = (
    (0, _, _, refl, (_, refl, (_, refl, refl)), (refl, (0, _, refl, refl, (refl, refl, inl (_, _, refl, (refl, omega arith, refl)))))),
    λ e h n. absurd (n (only_tree e h)),
  )

  either_tree : (d : Tree) → IsDerivation (two_roots mark name) (codes "a") d → (d ≡ by_first) ⊎ (d ≡ by_second)
  either_tree d (a, terms, ds, p, o, all) = by_number (one_of_two a_alone a_alone a terms (of_root _ a terms o))
    where
      by_number : ((a ≡ 0) × (a_alone ≡ terms)) ⊎ ((a ≡ 1) × (a_alone ≡ terms)) → (d ≡ by_first) ⊎ (d ≡ by_second)
      by_number (inl (n, e)) = inl (cc (p, n, alone (two_roots mark name) (codes "a") ds terms e all))
      by_number (inr (n, e)) = inr (cc (p, n, alone (two_roots mark name) (codes "a") ds terms e all))

  first_derives : IsDerivation (two_roots mark name) (codes "a") by_first
  first_derives = (0, _, _, refl, (_, refl, (_, refl, refl)), (refl, (0, _, refl, refl, (refl, refl, inl (_, _, refl, (refl, omega arith, refl))))))

  second_derives : IsDerivation (two_roots mark name) (codes "a") by_second
  second_derives = (1, _, _, refl, (_, refl, (_, refl, refl)), (refl, (0, _, refl, refl, (refl, refl, inl (_, _, refl, (refl, omega arith, refl))))))

  pub earlier_of_two : First (two_roots mark name) (codes "a") by_first
  earlier_of_two = (first_derives, λ e h n. by_tree e n (either_tree e h))
    where
      by_tree : (e : Tree) → e ≢ by_first → (e ≡ by_first) ⊎ (e ≡ by_second) → Before by_first e 1
      by_tree e n (inl p) = absurd (n p)
      by_tree e n (inr p) = subst (λ t. Before by_first t 1) (sym p) (inr (refl, inl (omega arith)))

  pub two_is_ambiguous : Ambiguous (two_roots mark name) (codes "a")
  two_is_ambiguous = (by_first, by_second, first_derives, second_derives, λ e. cc e)

  pub one_conforms : (fault : Fault) → ¬ (Breach (one_root mark name) fault)
  one_conforms = unrefused (one_root mark name) (record { version = no_version (one_root mark name) refl; code_points = simp the_folds tt; ranges = simp the_folds tt; classes = simp the_folds tt; calls = simp the_folds tt; names = unique (one_root mark name) refl })

  pub two_conforms : (fault : Fault) → ¬ (Breach (two_roots mark name) fault)
  two_conforms = unrefused (two_roots mark name) (record { version = no_version (two_roots mark name) refl; code_points = simp the_folds tt; ranges = simp the_folds tt; classes = simp the_folds tt; calls = simp the_folds tt; names = unique (two_roots mark name) refl })

  flat_one : depth (one_root mark name) ≡ 0
  flat_one = simp the_folds refl

  pub shallow_one : depth (one_root mark name) ≤ 100
  shallow_one = omega (arith, flat_one)

  flat_two : depth (two_roots mark name) ≡ 0
  flat_two = simp the_folds refl

  pub shallow_two : depth (two_roots mark name) ≤ 100
  shallow_two = omega (arith, flat_two)

-- ---- a name that is none of XML

abbrev of_ordinal : Givens
of_ordinal = followed (element ordinal (text_of (codes "a"))) nothing

given_ordinal : of_ordinal ≡ gives_root (codes "a") (one_root None ordinal) by_first
given_ordinal = simp (factor_of_one, out_lit) refl

no_name : Dyn of_ordinal (bad_name ordinal)
unfolding is_xml_name_start
no_name = (first_failing is_xml_name [] ordinal [] refl refl, from_three ordinal (text_of (codes "a")))

pub ordinal_refused : Parsed (one_root None ordinal) (codes "a") (refused (bad_name ordinal))
ordinal_refused = (by_first, only_is_first None ordinal, subst (λ gs. Dyn gs (bad_name ordinal)) given_ordinal no_name)

-- ---- an attribute at the top, by two derivations

abbrev of_attribute : Givens
of_attribute = followed (attribute (codes "S") (codes "a")) nothing

given_attribute : of_attribute ≡ gives_root (codes "a") (two_roots (Some Attribute) (codes "S")) by_first
given_attribute = simp (factor_of_one, out_lit) refl

at_top : Dyn of_attribute (attribute_at_top (codes "S"))
at_top = (refl, λ other h. least other)
  where
    least : (other : Refusal) → 1 ≤ refusal_number other
    least = search rules

pub attribute_refused : Parsed (two_roots (Some Attribute) (codes "S")) (codes "a") (refused (attribute_at_top (codes "S")))
attribute_refused = (by_first, earlier_of_two (Some Attribute) (codes "S"), subst (λ gs. Dyn gs (attribute_at_top (codes "S"))) given_attribute at_top)

-- ---- a text that fails on its second line

no_lines : (d : Tree) → ¬ (IsDerivation two_lines (codes "a\nc") d)
no_lines d (a, terms, ds, p, o, all) =
    let x = one_alternative lines a terms (of_only_rule (codes "S") (alternative lines ∷ []) a terms o) in
    let h = three_derived two_lines (codes "a\nc") ds (quoted (codes "a")) (One (Lit None (Code (codes "a")))) (quoted (codes "b")) 0 3 (subst (λ ts. DerivesAll two_lines (codes "a\nc") ds ts 0 3) (sym x.1) all) in
    b_is_not_there h.1 (quoted_is_text two_lines (codes "a\nc") h.4 (codes "b") h.1 3 h.8).1
  where
    lines : List Term
    lines = quoted (codes "a") ∷ One (Lit None (Code (codes "a"))) ∷ quoted (codes "b") ∷ []

    b_is_not_there : (i : ℕ) → StandsAt (codes "a\nc") (codes "b") i 3 → ⊥
    b_is_not_there i (a, b, e) =
        let two : i ≡ 2 = omega (arith, a) in
        omega (arith, ap first (subst (λ (k : ℕ). take 1 (drop k (codes "a\nc")) ≡ codes "b") two e))

pub lines_failed : Parsed two_lines (codes "a\nc") (failed 2 2 1)
lines_failed = (no_lines, two_of_lines, refl, refl)

pub lines_conform : (fault : Fault) → ¬ (Breach two_lines fault)
lines_conform = unrefused two_lines (record { version = no_version two_lines refl; code_points = simp the_folds (refl, tt); ranges = simp the_folds tt; classes = simp the_folds tt; calls = simp the_folds tt; names = unique two_lines refl })

flat_lines : depth two_lines ≡ 0
flat_lines = simp the_folds refl

pub shallow_lines : depth two_lines ≤ 100
shallow_lines = omega (arith, flat_lines)
