-- Words and files have one answer.
use Rattle.std.proofs.Common.{◌≡◌, ◌≢◌, refl, ap, sym, subst, ◌∙◌, ◌⊎◌, ℕ, ◌<◌, ◌≤◌, List, length, Option, Some, arith}
use mathlib.Core.Logic.{inl, inr}
use Rattle.std.specs.Prelude.{IsUtf8}
use Rattle.std.specs.Str.Lossy.{utf8_valid_len}
use Rattle.ix_model.specs.declared.grammar.Grammar.{Grammar}
use Rattle.ix_model.specs.declared.counts.Counts.{Counts}
use Rattle.ix_model.specs.declared.state.State.{State}
use Rattle.ix_model.specs.declared.state.State.TheVariants.{Single, Ambiguous as Several}
use Rattle.ix_model.specs.Derivations.Trees.{Tree}
use Rattle.ix_model.specs.Derivations.Derives.{IsDerivation, Ambiguous}
use Rattle.ix_model.specs.Derivations.Order.{First}
use Rattle.ix_model.specs.Documents.Gives.{Givens, gives_root}
use Rattle.ix_model.specs.Documents.Xml.{xml}
use Rattle.ix_model.specs.Closure.Figures.{IsCounted}
use Rattle.ix_model.specs.Expansion.Parts.{Parts}
use Rattle.ix_model.specs.Answers.Decoding.{decoded}
use Rattle.ix_model.specs.Spelling.Spells.{Spells}
use Rattle.ix_model.specs.Spelling.Depth.{depth}
use Rattle.ix_model.specs.Grammars.Factors.{codes_of, ranges_of, classes_of, calls_of}
use Rattle.ix_model.specs.Grammars.Breach.{Fault, version, code_point, range, class, undefined, duplicate, code_number, Breach, LeastBreach}
use Rattle.ix_model.specs.Documents.Dyn.{Refusal, Dyn, HasNoRefusal}
use Rattle.ix_model.specs.Derivations.Offset.{Offset}
use Rattle.ix_model.specs.Answers.Places.{line_of, column_of}
use Rattle.ix_model.specs.Answers.CommandLine.{Command, parse, check, sample}
use Rattle.ix_model.specs.Answers.Sample.{sample_grammar, sample_text}
use Rattle.ix_model.specs.Answers.Outcome.{Outcome, grammar_too_long, grammar_not_utf8, no_grammar, too_deep, not_conforming, conforms, text_too_long, text_not_utf8, failed, refused, document, summarised}
use Rattle.ix_model.specs.Answers.Answer.{IsText, HoldsGrammar, HoldsConforming, GrammarRefused, Parsed, TextAnswered, Measured, CommandAnswered, Answered}
use Rattle.ix_model.specs.Answers.Limits.{grammar_limit, text_limit, depth_limit}
use Rattle.ix_figure_laws.proofs.FiguresOnce.{figures_are_one}
use Rattle.ix_answer_laws.proofs.Commands.{command_is_one}
use Rattle.ix_spelling_laws.proofs.ReadingComplete.{spelled_once}
use Rattle.ix_model.proofs.Firsts.{first_is_one as first_of_one}
use Rattle.ix_answer_laws.proofs.Firsts.{in_order}
use Rattle.ix_tree_laws.proofs.Once.{first_is_one}
use Rattle.ix_answer_laws.proofs.Offsets.{offset_is_one}
use Rattle.ix_answer_laws.proofs.Refusals.{refusal_is_one}

-- ---- one fault

one_fault : (g : Grammar) (a b : Fault) → code_number a ≡ code_number b → Breach g a → Breach g b → a ≡ b
one_fault g (version t) (version u) e h k = ap version (let x : Some t ≡ Some u = sym h.0 ∙ k.0 in cc x)
one_fault g (code_point t) (code_point u) e h k = ap code_point (first_of_one _ (codes_of g) t u h k)
one_fault g (range a b) (range c d) e h k = let x = first_of_one _ (ranges_of g) (a, b) (c, d) h k in cc (ap (λ (p : ℕ × ℕ). p.0) x, ap (λ (p : ℕ × ℕ). p.1) x)
one_fault g (class t) (class u) e h k = ap class (first_of_one _ (classes_of g) t u h k)
one_fault g (undefined t) (undefined u) e h k = ap undefined (first_of_one _ (calls_of g) t u h k)
one_fault g (duplicate t) (duplicate u) e (r, p, n) (q, s, m) = by_place (in_order r q)
  where
    by_place : (r < q) ⊎ ((r ≡ q) ⊎ (q < r)) → duplicate t ≡ duplicate u
    by_place (inl l) = absurd (m r t l p)
    by_place (inr (inr l)) = absurd (n q u l s)
    by_place (inr (inl f)) = cc (f, p.0.1, p.0.2, s.0.1, s.0.2)
one_fault g a b e h k = absurd (omega (arith, e))

fault_is_one : (g : Grammar) (a b : Fault) → LeastBreach g a → LeastBreach g b → a ≡ b
fault_is_one g a b (h, least) (k, lowest) = one_fault g a b (omega (arith, least b k, lowest a h)) h k

-- ---- one reason to refuse a grammar

data Reason (bytes : List ℕ) : Outcome → Type 0 where
  is_long : grammar_limit < length bytes → Reason bytes grammar_too_long
  is_not_utf8 : (valid : ℕ) → length bytes ≤ grammar_limit → ¬ (IsUtf8 bytes) → valid ≡ utf8_valid_len bytes → Reason bytes (grammar_not_utf8 valid)
  is_none : IsText grammar_limit bytes → ((g : Grammar) → ¬ (Spells (decoded bytes) g)) → Reason bytes no_grammar
  is_deep : (g : Grammar) → IsText grammar_limit bytes → Spells (decoded bytes) g → depth_limit < depth g → Reason bytes too_deep
  has_fault : (fault : Fault) (g : Grammar) → HoldsGrammar bytes g → LeastBreach g fault → Reason bytes (not_conforming fault)

module _ (bytes : List ℕ) where
  reason : (o : Outcome) → GrammarRefused bytes o → Reason bytes o
  reason grammar_too_long h = is_long h
  reason (grammar_not_utf8 valid) h = is_not_utf8 valid h.0 h.1 h.2
  reason no_grammar h = is_none h.0 h.1
  reason too_deep h = is_deep h.1 h.0 h.2 h.3
  reason (not_conforming fault) h = has_fault fault h.0 h.1 h.2
  reason o h = absurd h

  same_grammar : (g h : Grammar) → Spells (decoded bytes) g → Spells (decoded bytes) h → g ≡ h
  same_grammar g h p q = spelled_once (decoded bytes) g h p q

  one_reason : (o p : Outcome) → Reason bytes o → Reason bytes p → o ≡ p
  one_reason _ _ (is_long l1) (is_long l2) = refl
  one_reason _ _ (is_long l1) (is_not_utf8 v2 l2 u2 e2) = absurd (omega (arith, l1, l2))
  one_reason _ _ (is_long l1) (is_none t2 n2) = absurd (omega (arith, l1, t2.0))
  one_reason _ _ (is_long l1) (is_deep g2 t2 s2 d2) = absurd (omega (arith, l1, t2.0))
  one_reason _ _ (is_long l1) (has_fault f2 g2 h2 b2) = absurd (omega (arith, l1, h2.0.0))
  one_reason _ _ (is_not_utf8 v1 l1 u1 e1) (is_long l2) = absurd (omega (arith, l1, l2))
  one_reason _ _ (is_not_utf8 v1 l1 u1 e1) (is_not_utf8 v2 l2 u2 e2) = ap grammar_not_utf8 (e1 ∙ sym e2)
  one_reason _ _ (is_not_utf8 v1 l1 u1 e1) (is_none t2 n2) = absurd (u1 t2.1)
  one_reason _ _ (is_not_utf8 v1 l1 u1 e1) (is_deep g2 t2 s2 d2) = absurd (u1 t2.1)
  one_reason _ _ (is_not_utf8 v1 l1 u1 e1) (has_fault f2 g2 h2 b2) = absurd (u1 h2.0.1)
  one_reason _ _ (is_none t1 n1) (is_long l2) = absurd (omega (arith, t1.0, l2))
  one_reason _ _ (is_none t1 n1) (is_not_utf8 v2 l2 u2 e2) = absurd (u2 t1.1)
  one_reason _ _ (is_none t1 n1) (is_none t2 n2) = refl
  one_reason _ _ (is_none t1 n1) (is_deep g2 t2 s2 d2) = absurd (n1 g2 s2)
  one_reason _ _ (is_none t1 n1) (has_fault f2 g2 h2 b2) = absurd (n1 g2 h2.1)
  one_reason _ _ (is_deep g1 t1 s1 d1) (is_long l2) = absurd (omega (arith, t1.0, l2))
  one_reason _ _ (is_deep g1 t1 s1 d1) (is_not_utf8 v2 l2 u2 e2) = absurd (u2 t1.1)
  one_reason _ _ (is_deep g1 t1 s1 d1) (is_none t2 n2) = absurd (n2 g1 s1)
  one_reason _ _ (is_deep g1 t1 s1 d1) (is_deep g2 t2 s2 d2) = refl
  one_reason _ _ (is_deep g1 t1 s1 d1) (has_fault f2 g2 h2 b2) = absurd (omega (arith, ap depth (same_grammar g1 g2 s1 h2.1), d1, h2.2))
  one_reason _ _ (has_fault f1 g1 h1 b1) (is_long l2) = absurd (omega (arith, h1.0.0, l2))
  one_reason _ _ (has_fault f1 g1 h1 b1) (is_not_utf8 v2 l2 u2 e2) = absurd (u2 h1.0.1)
  one_reason _ _ (has_fault f1 g1 h1 b1) (is_none t2 n2) = absurd (n2 g1 h1.1)
  one_reason _ _ (has_fault f1 g1 h1 b1) (is_deep g2 t2 s2 d2) = absurd (omega (arith, ap depth (same_grammar g1 g2 h1.1 s2), h1.2, d2))
  one_reason _ _ (has_fault f1 g1 h1 b1) (has_fault f2 g2 h2 b2) = ap not_conforming (fault_is_one g2 f1 f2 (subst (λ g. LeastBreach g f1) (same_grammar g1 g2 h1.1 h2.1) b1) b2)

  -- a conforming grammar is not refused
  not_refused : (o : Outcome) (g : Grammar) → Reason bytes o → HoldsConforming bytes g → ⊥
  not_refused _ g (is_long l) ((t, s, d), n) = omega (arith, l, t.0)
  not_refused _ g (is_not_utf8 v l u e) ((t, s, d), n) = u t.1
  not_refused _ g (is_none t' none) ((t, s, d), n) = none g s
  not_refused _ g (is_deep h t' s' d') ((t, s, d), n) = omega (arith, ap depth (same_grammar h g s' s), d', d)
  not_refused _ g (has_fault f h held b) ((t, s, d), n) = n f (subst (λ x. Breach x f) (same_grammar h g held.1 s) b.0)

-- bytes are refused as a grammar in one way
pub refused_once : (bytes : List ℕ) (o p : Outcome) → GrammarRefused bytes o → GrammarRefused bytes p → o ≡ p
refused_once bytes o p h k = one_reason bytes o p (reason bytes o h) (reason bytes p k)

-- and what holds a conforming grammar in none
pub refused_or_held : (bytes : List ℕ) (o : Outcome) (g : Grammar) → GrammarRefused bytes o → HoldsConforming bytes g → ⊥
refused_or_held bytes o g h k = not_refused bytes o g (reason bytes o h) k

-- ---- one outcome of a text

module _ (g : Grammar) where
  data Result (s : List ℕ) : Outcome → Type 0 where
    no_tree : (offset line column : ℕ) → ((d : Tree) → ¬ (IsDerivation g s d)) → Offset g s offset → line ≡ line_of s offset → column ≡ column_of s offset → Result s (failed offset line column)
    no_document : (code : Refusal) (d : Tree) → First g s d → Dyn (gives_root s g d) code → Result s (refused code)
    several : (gs : Givens) (d : Tree) → First g s d → gs ≡ gives_root s g d → HasNoRefusal gs → Ambiguous g s → Result s (document gs Several)
    single : (gs : Givens) (d : Tree) → First g s d → gs ≡ gives_root s g d → HasNoRefusal gs → ¬ (Ambiguous g s) → Result s (document gs Single)

  result : (s : List ℕ) (o : Outcome) → Parsed g s o → Result s o
  result s (failed offset line column) h = no_tree offset line column h.0 h.1 h.2 h.3
  result s (refused code) h = no_document code h.0 h.1 h.2
  result s (document gs Several) h = several gs h.0 h.1 h.2 h.3 h.4
  result s (document gs Single) h = single gs h.0 h.1 h.2 h.3 h.4
  result s o h = absurd h

  module _ (s : List ℕ) where
    -- two first derivations give the same
    same_given : (d e : Tree) → First g s d → First g s e → gives_root s g d ≡ gives_root s g e
    same_given d e h k = ap (gives_root s g) (first_is_one g s d e h k)

    no_code : (gs : Givens) (d e : Tree) (code : Refusal) → First g s d → First g s e → gs ≡ gives_root s g d → HasNoRefusal gs → Dyn (gives_root s g e) code → ⊥
    no_code gs d e code h k p none dyn = none code (subst (λ x. Dyn x code) (same_given e d k h ∙ sym p) dyn).0

    one_result : (o p : Outcome) → Result s o → Result s p → o ≡ p
    one_result _ _ (no_tree a b c n o l m) (no_tree d e f n' o' l' m') = cc (offset_is_one g s a d o o', l, l', m, m')
    one_result _ _ (no_tree a b c n o l m) (no_document code d h dyn) = absurd (n d h.0)
    one_result _ _ (no_tree a b c n o l m) (several gs d h p q r) = absurd (n d h.0)
    one_result _ _ (no_tree a b c n o l m) (single gs d h p q r) = absurd (n d h.0)
    one_result _ _ (no_document code d h dyn) (no_tree a b c n o l m) = absurd (n d h.0)
    one_result _ _ (no_document code d h dyn) (no_document other e k nyd) =
        ap refused (refusal_is_one (gives_root s g e) code other (subst (λ x. Dyn x code) (same_given d e h k) dyn) nyd)
    one_result _ _ (no_document code d h dyn) (several gs e k p q r) = absurd (no_code gs e d code k h p q dyn)
    one_result _ _ (no_document code d h dyn) (single gs e k p q r) = absurd (no_code gs e d code k h p q dyn)
    one_result _ _ (several gs e k p q r) (no_tree a b c n o l m) = absurd (n e k.0)
    one_result _ _ (several gs e k p q r) (no_document code d h dyn) = absurd (no_code gs e d code k h p q dyn)
    one_result _ _ (several gs d h p q r) (several hs e k p' q' r') = ap (λ x. document x Several) (p ∙ same_given d e h k ∙ sym p')
    one_result _ _ (several gs d h p q r) (single hs e k p' q' r') = absurd (r' r)
    one_result _ _ (single gs e k p q r) (no_tree a b c n o l m) = absurd (n e k.0)
    one_result _ _ (single gs e k p q r) (no_document code d h dyn) = absurd (no_code gs e d code k h p q dyn)
    one_result _ _ (single gs d h p q r) (several hs e k p' q' r') = absurd (r r')
    one_result _ _ (single gs d h p q r) (single hs e k p' q' r') = ap (λ x. document x Single) (p ∙ same_given d e h k ∙ sym p')

  data TextResult (bytes : List ℕ) : Outcome → Type 0 where
    too_many : text_limit < length bytes → TextResult bytes text_too_long
    not_text : (valid : ℕ) → length bytes ≤ text_limit → ¬ (IsUtf8 bytes) → valid ≡ utf8_valid_len bytes → TextResult bytes (text_not_utf8 valid)
    of_text : (o : Outcome) → IsText text_limit bytes → Result (decoded bytes) o → TextResult bytes o

  text_result : (bytes : List ℕ) (o : Outcome) → TextAnswered g bytes o → TextResult bytes o
  text_result bytes text_too_long h = too_many h
  text_result bytes (text_not_utf8 valid) h = not_text valid h.0 h.1 h.2
  text_result bytes o h = of_text o h.0 (result (decoded bytes) o h.1)

  one_text_result : (bytes : List ℕ) (o p : Outcome) → TextResult bytes o → TextResult bytes p → o ≡ p
  one_text_result bytes _ _ (too_many l) (too_many m) = refl
  one_text_result bytes _ _ (too_many l) (not_text v m u e) = absurd (omega (arith, l, m))
  one_text_result bytes _ _ (too_many l) (of_text o t r) = absurd (omega (arith, l, t.0))
  one_text_result bytes _ _ (not_text v m u e) (too_many l) = absurd (omega (arith, l, m))
  one_text_result bytes _ _ (not_text v m u e) (not_text v' m' u' e') = ap text_not_utf8 (e ∙ sym e')
  one_text_result bytes _ _ (not_text v m u e) (of_text o t r) = absurd (u t.1)
  one_text_result bytes _ _ (of_text o t r) (too_many l) = absurd (omega (arith, l, t.0))
  one_text_result bytes _ _ (of_text o t r) (not_text v m u e) = absurd (u t.1)
  one_text_result bytes _ _ (of_text o t r) (of_text p t' r') = one_result (decoded bytes) o p r r'

  text_answered_once : (bytes : List ℕ) (o p : Outcome) → TextAnswered g bytes o → TextAnswered g bytes p → o ≡ p
  text_answered_once bytes o p h k = one_text_result bytes o p (text_result bytes o h) (text_result bytes p k)

-- ---- one outcome of a text whose figures are asked for

module _ (g : Grammar) (bytes : List ℕ) where
  data Figured : Outcome → Type 0 where
    with_figures : (counts : Counts) (gs : Givens) (state : State) (plan : Parts) → TextAnswered g bytes (document gs state) → IsCounted g (decoded bytes) plan counts → Figured (summarised (length bytes) counts (length (xml gs state)))
    in_place_of_one : (o : Outcome) → ((gs : Givens) (state : State) → o ≢ document gs state) → TextAnswered g bytes o → Figured o

  figured : (o : Outcome) → Measured g bytes o → Figured o
  figured (document gs state) h = absurd h
  figured (summarised text counts output) (gs, state, h, plan, c, e, f) =
      subst (λ n. Figured (summarised n counts output)) (sym e) (subst (λ n. Figured (summarised (length bytes) counts n)) (sym f) (with_figures counts gs state plan h c))
  figured o h = in_place_of_one o (λ gs state e. cc e) h

  one_figured : (o p : Outcome) → Figured o → Figured p → o ≡ p
  one_figured _ _ (with_figures a gs state plan h c) (with_figures b hs other qlan k d) =
      let same : document gs state ≡ document hs other = text_answered_once g bytes _ _ h k in
      let counted : a ≡ b = figures_are_one g (decoded bytes) plan qlan a b c d in
      cc (same, counted)
  one_figured _ _ (with_figures a gs state plan h c) (in_place_of_one o n k) = absurd (n gs state (text_answered_once g bytes _ _ k h))
  one_figured _ _ (in_place_of_one o n h) (with_figures b hs other qlan k d) = absurd (n hs other (text_answered_once g bytes _ _ h k))
  one_figured _ _ (in_place_of_one o n h) (in_place_of_one p m k) = text_answered_once g bytes o p h k

  -- a text whose figures are asked for has one outcome
  pub measured_once : (o p : Outcome) → Measured g bytes o → Measured g bytes p → o ≡ p
  measured_once o p h k = one_figured o p (figured o h) (figured p k)

-- ---- one answer

-- bytes that hold a conforming grammar hold no other
pub held_grammar : (bytes : List ℕ) (g h : Grammar) → HoldsConforming bytes g → HoldsConforming bytes h → g ≡ h
held_grammar bytes g h p q = spelled_once (decoded bytes) g h p.0.1 q.0.1

module _ (map : List ℕ → Option (List ℕ)) where
  held_once : (name bytes other : List ℕ) → map name ≡ Some bytes → map name ≡ Some other → other ≡ bytes
  held_once name bytes other h k = let x : Some other ≡ Some bytes = sym k ∙ h in cc x

  one_checked : (bytes : List ℕ) (o p : Outcome) → GrammarRefused bytes o ⊎ ((g : Grammar) × HoldsConforming bytes g × (o ≡ conforms)) → GrammarRefused bytes p ⊎ ((g : Grammar) × HoldsConforming bytes g × (p ≡ conforms)) → o ≡ p
  one_checked bytes o p (inl h) (inl k) = refused_once bytes o p h k
  one_checked bytes o p (inl h) (inr (g, k, e)) = absurd (refused_or_held bytes o g h k)
  one_checked bytes o p (inr (g, h, e)) (inl k) = absurd (refused_or_held bytes p g k h)
  one_checked bytes o p (inr (g, h, e)) (inr (g', k, f)) = e ∙ sym f

  abbrev OfText : List ℕ → List ℕ → Outcome → Type 0
  OfText text bytes o = GrammarRefused bytes o ⊎ ((g : Grammar) × HoldsConforming bytes g × (s : List ℕ) × (map text ≡ Some s) × TextAnswered g s o)

  one_of_text : (text bytes : List ℕ) (o p : Outcome) → OfText text bytes o → OfText text bytes p → o ≡ p
  one_of_text text bytes o p (inl h) (inl k) = refused_once bytes o p h k
  one_of_text text bytes o p (inl h) (inr (g, k, s, e, t)) = absurd (refused_or_held bytes o g h k)
  one_of_text text bytes o p (inr (g, h, s, e, t)) (inl k) = absurd (refused_or_held bytes p g k h)
  one_of_text text bytes o p (inr (g, h, s, e, t)) (inr (g', k, s', e', t')) =
      let u : TextAnswered g s p = subst (λ x. TextAnswered x s p) (held_grammar bytes g' g k h) (subst (λ x. TextAnswered g' x p) (held_once text s s' e e') t') in
      text_answered_once g s o p t u

  -- a command has one answer
  pub command_answered_once : (command : Command) (o p : Outcome) → CommandAnswered map command o → CommandAnswered map command p → o ≡ p
  command_answered_once (check name) o p (bytes, m, r) (other, n, q) =
      one_checked bytes o p r (subst (λ z. GrammarRefused z p ⊎ ((g : Grammar) × HoldsConforming z g × (p ≡ conforms))) (held_once name bytes other m n) q)
  command_answered_once (parse grammar text workers) o p (bytes, m, r) (other, n, q) =
      one_of_text text bytes o p r (subst (λ z. OfText text z p) (held_once grammar bytes other m n) q)
  command_answered_once (sample lines workers) o p (g, h, r) (g', k, q) =
      measured_once g (sample_text lines) o p r (subst (λ z. Measured z (sample_text lines) p) (held_grammar sample_grammar g' g k h) q)

-- words and files have one answer
pub answered_once : (words : List (List ℕ)) (map : List ℕ → Option (List ℕ)) (o p : Outcome) → Answered words map o → Answered words map p → o ≡ p
answered_once words map o p (inl (n, e)) (inl (m, f)) = e ∙ sym f
answered_once words map o p (inl (n, e)) (inr (command, c, h)) = absurd (n command c)
answered_once words map o p (inr (command, c, h)) (inl (n, e)) = absurd (n command c)
answered_once words map o p (inr (command, c, h)) (inr (other, d, k)) =
    command_answered_once map command o p h (subst (λ x. CommandAnswered map x p) (command_is_one words other command d c) k)
