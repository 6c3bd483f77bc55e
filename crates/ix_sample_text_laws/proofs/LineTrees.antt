-- What the derivations under the sample's grammar are: lines, each with a number and a word.
use Rattle.std.proofs.Common.{◌≡◌, refl, ap, sym, subst, ◌∙◌, ◌⊎◌, ℕ, false, List, [], ◌∷◌, Option, Some, None, length, slice_get, codes}
use mathlib.Core.Logic.{inl, inr}
use Rattle.ix_model.specs.declared.grammar.Mark.{Mark}
use Rattle.ix_model.specs.declared.grammar.Mark.TheVariants.{Attribute}
use Rattle.ix_model.specs.declared.grammar.TMark.TheVariants.{Deleted}
use Rattle.ix_model.specs.declared.grammar.Chars.TheVariants.{Quoted, Code}
use Rattle.ix_model.specs.declared.grammar.Member.{Member}
use Rattle.ix_model.specs.declared.grammar.Rule.{Rule}
use Rattle.ix_model.specs.declared.grammar.Term.{Term, One, Star}
use Rattle.ix_model.specs.declared.grammar.Factor.{Lit, Set, Call}
use Rattle.ix_model.specs.Grammars.Written.{IsAlternative, IsOfRule}
use Rattle.ix_model.specs.Derivations.Trees.{Tree, text, node, no_item, list, Trees, no_tree, and, Repeated, one, again, again_after}
use Rattle.ix_model.specs.Derivations.Derives.{Derives, DerivesAll, Repeats, IsDerivation}
use Rattle.ix_model.proofs.Forms.{factor_form, out_lit, out_set, call_is_node}
use Rattle.ix_examples.specs.SmallGrammars.{alternative, rule, deleted, call, marked_call, digits}
use Rattle.ix_examples.proofs.Inversions.{one_alternative, one_derived, plus_derived, star_derived}
use Rattle.ix_sample_laws.specs.SampleRules.{letters, some_of, sample_rules}
use Rattle.ix_sample_laws.proofs.SampleConforms.{unique_names}
use Rattle.ix_sample_text_laws.proofs.DerivedForms.{four, terminal_is_text, four_derived}

-- a list of texts
abbrev pub AreTexts : Repeated → Type 0
AreTexts (one (text a b)) = Unit {0}
AreTexts (again ds (text a b)) = AreTexts ds
AreTexts _ = ⊥

-- a line with these digits and letters, and a text behind each of both
abbrev pub line_tree : (digits letters : Repeated) (a b c d : ℕ) → Tree
line_tree ns ws a b c d = node 1 0 (four (node 2 0 (and no_tree (list ns))) (text a b) (node 3 0 (and no_tree (list ws))) (text c d))

abbrev pub IsLine : Tree → Type 0
IsLine d = (ns ws : Repeated) × (a b c e : ℕ) × (d ≡ line_tree ns ws a b c e) × AreTexts ns × AreTexts ws

abbrev pub AreLines : Repeated → Type 0
AreLines (one d) = IsLine d
AreLines (again ds d) = AreLines ds × IsLine d
AreLines (again_after ds e d) = ⊥

-- ---- the alternatives of the rules

abbrev line_terms : List Term
line_terms = marked_call Attribute (codes "n") ∷ One (deleted (codes ":")) ∷ call (codes "w") ∷ One (Lit (Some Deleted) (Code (codes "a"))) ∷ []

-- the one alternative of a rule
of_rule : (r : ℕ) (name : List ℕ) (ts : List Term) → slice_get sample_rules.rules r ≡ Some (rule name (alternative ts ∷ [])) → (a : ℕ) (terms : List Term) → IsOfRule sample_rules r a terms → (a ≡ 0) × (ts ≡ terms)
of_rule r name ts p a terms h =
    let e : h.0 ≡ rule name (alternative ts ∷ []) = cc (h.1, p) in
    one_alternative ts a terms (subst (λ (x : Rule). IsAlternative x.alts a terms) e h.2)

module _ (s : List ℕ) where
  -- what a call of a rule with one alternative derives
  called : (r : ℕ) (mark : Option Mark) (name : List ℕ) (ts : List Term) → slice_get sample_rules.rules r ≡ Some (rule name (alternative ts ∷ [])) →
      (d : Tree) (i j : ℕ) → Derives sample_rules s d (One (Call mark name)) i j → (ds : Trees) × (d ≡ node r 0 ds) × DerivesAll sample_rules s ds ts i j
  called r mark name ts p d i j h =
      let x = call_is_node sample_rules s d mark name i j h in
      let q : x.0 ≡ r = unique_names x.0 r name x.5 (rule name (alternative ts ∷ []), p, refl) in
      let y = of_rule r name ts p x.1 x.3 (subst (λ (n : ℕ). IsOfRule sample_rules n x.1 x.3) q x.6) in
      (x.2, x.4 ∙ ap (λ (n : ℕ). node n x.1 x.2) q ∙ ap (λ (n : ℕ). node r n x.2) y.0, subst (λ ts. DerivesAll sample_rules s x.2 ts i j) (sym y.1) x.7)

  -- a repetition of a set is a list of texts
  texts : (ms : List Member) (ds : Repeated) (i j : ℕ) → Repeats sample_rules s ds (Set None false ms) None i j → AreTexts ds
  texts ms (one d) i j h =
      let x = terminal_is_text sample_rules s (Set None false ms) d i j (ap factor_form (out_set None false ms)) h in
      subst (λ e. AreTexts (one e)) (sym x.2) tt
  texts ms (again ds d) i j (e, k, hs, h) =
      let x = terminal_is_text sample_rules s (Set None false ms) d k j (ap factor_form (out_set None false ms)) h in
      subst (λ e. AreTexts (again ds e)) (sym x.2) (texts ms ds i k hs)
  texts ms (again_after ds p d) i j h = absurd (cc h.1)

  -- the trees of a rule that is a repetition of a set
  run_of : (m : Member) (ds : Trees) (i j : ℕ) → DerivesAll sample_rules s ds (some_of m ∷ []) i j → (es : Repeated) × (ds ≡ and no_tree (list es)) × AreTexts es
  run_of m ds i j h =
      let x = one_derived sample_rules s ds (some_of m) i j h in
      let y = plus_derived sample_rules s x.0 (Set None false (m ∷ [])) None i j x.2 in
      (y.0, x.1 ∙ ap (λ d. and no_tree d) y.1, texts (m ∷ []) y.0 i j y.2)

  line_derived : (d : Tree) (i j : ℕ) → Derives sample_rules s d (call (codes "line")) i j → IsLine d
  line_derived d i j h =
      let x = called 1 None (codes "line") line_terms refl d i j h in
      let y = four_derived sample_rules s x.0 (marked_call Attribute (codes "n")) (One (deleted (codes ":"))) (call (codes "w")) (One (Lit (Some Deleted) (Code (codes "a")))) i j x.2 in
      let n = called 2 (Some Attribute) (codes "n") (some_of digits ∷ []) refl y.3 i y.0 y.8 in
      let ns = run_of digits n.0 i y.0 n.2 in
      let colon = terminal_is_text sample_rules s (deleted (codes ":")) y.4 y.0 y.1 (ap factor_form (out_lit (Some Deleted) (Quoted (codes ":")))) y.9 in
      let w = called 3 None (codes "w") (some_of letters ∷ []) refl y.5 y.1 y.2 y.10 in
      let ws = run_of letters w.0 y.1 y.2 w.2 in
      let feed = terminal_is_text sample_rules s (Lit (Some Deleted) (Code (codes "a"))) y.6 y.2 j (ap factor_form (out_lit (Some Deleted) (Code (codes "a")))) y.11 in
      let pn : y.3 ≡ node 2 0 (and no_tree (list ns.0)) = n.1 ∙ ap (node 2 0) ns.1 in
      let pw : y.5 ≡ node 3 0 (and no_tree (list ws.0)) = w.1 ∙ ap (node 3 0) ws.1 in
      (ns.0, ws.0, colon.0, colon.1, feed.0, feed.1, cc (x.1, y.7, pn, colon.2, pw, feed.2), ns.2, ws.2)

  lines_derived : (ds : Repeated) (i j : ℕ) → Repeats sample_rules s ds (Call None (codes "line")) None i j → AreLines ds
  lines_derived (one d) i j h = line_derived d i j h
  lines_derived (again ds d) i j (e, k, hs, h) = (lines_derived ds i k hs, line_derived d k j h)
  lines_derived (again_after ds p d) i j h = absurd (cc h.1)

  -- a derivation has no line, or lines
  pub root_derived : (d : Tree) → IsDerivation sample_rules s d → (e : Tree) × (d ≡ node 0 0 (and no_tree e)) × ((e ≡ no_item) ⊎ ((ds : Repeated) × (e ≡ list ds) × AreLines ds))
  root_derived d (a, terms, ds, p, o, all) =
      let x = of_rule 0 (codes "log") (Star (Call None (codes "line")) None ∷ []) refl a terms o in
      let y = one_derived sample_rules s ds (Star (Call None (codes "line")) None) 0 (length s) (subst (λ ts. DerivesAll sample_rules s ds ts 0 (length s)) (sym x.1) all) in
      (y.0, cc (p, x.0, y.1), by_form y.0 (star_derived sample_rules s y.0 (Call None (codes "line")) None 0 (length s) y.2))
    where
      by_form : (e : Tree) → ((e ≡ no_item) × (0 ≡ length s)) ⊎ ((ds : Repeated) × (e ≡ list ds) × Repeats sample_rules s ds (Call None (codes "line")) None 0 (length s)) → (e ≡ no_item) ⊎ ((ds : Repeated) × (e ≡ list ds) × AreLines ds)
      by_form e (inl x) = inl x.0
      by_form e (inr x) = inr (x.0, x.1, lines_derived x.0 0 (length s) x.2)
