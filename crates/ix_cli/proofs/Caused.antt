-- Each status comes exactly where its cause holds.
use Rattle.std.proofs.Common.{◌≡◌, ◌⊎◌, refl, ap, sym, subst, ◌∙◌, ◌<◌, ℕ, List, length, Some, arith}
use mathlib.Core.Logic.{inl, inr}
use Rattle.ix_model.specs.declared.grammar.Grammar.{Grammar}
use Rattle.ix_model.specs.declared.state.State.TheVariants.{Single, Ambiguous}
use Rattle.ix_model.specs.Answers.Answer.{HoldsConforming, GrammarRefused, TextAnswered, Measured}
use Rattle.ix_model.specs.Answers.CommandLine.{Command, parse, check, sample, IsCommand, HasNoForm}
use Rattle.ix_model.specs.Answers.Decoding.{decoded}
use Rattle.ix_model.specs.Answers.Limits.{grammar_limit, text_limit}
use Rattle.ix_model.specs.Answers.Sample.{sample_grammar}
use Rattle.ix_model.specs.Answers.Outcome.{Outcome, grammar_too_long, grammar_not_utf8, no_grammar, too_deep, not_conforming, text_too_long, text_not_utf8, failed, refused, document, summarised, status_of}
use Rattle.ix_model.specs.Documents.Dyn.{Dyn, HasNoRefusal}
use Rattle.ix_model.specs.Documents.Gives.{gives_root}
use Rattle.ix_edge.specs.Told.{Told, held}
use Rattle.ix_answer_laws.proofs.Firsts.{in_order}
use Rattle.ix_answer_laws.proofs.OneAnswer.{refused_or_held}
use Rattle.ix_spelling_laws.proofs.ReadingComplete.{spelled_once}
use Rattle.ix_tree_laws.proofs.Once.{first_is_one}
use Rattle.ix_cli.specs.Causes.{IsNoGrammar, IsUndecodable, GivesDocument, GivesNothing, GivesNoDocument, Parses, OfGrammar, OfText, IsChecked, IsNotUtf8, IsCaused}
use Rattle.ix_cli.specs.Named.{HasCommand, ReadsGrammar}
use Rattle.ix_cli.specs.Table.{IsReply}
use Rattle.ix_answer_laws.proofs.Commands.{command_is_one}
use Rattle.ix_cli.proofs.Options.{some_is}

-- ---- of one grammar and one text at most one holds

is_one : (g : Grammar) (s : List ℕ) → GivesDocument g s → GivesNoDocument g s → ⊥
is_one g s (t, (d, f, none)) (u, (e, k, (code, dyn))) =
    none code (subst (λ x. Dyn (gives_root (decoded s) g x) code) (first_is_one g (decoded s) e d k f) dyn).0

is_derived : (g : Grammar) (s : List ℕ) → GivesDocument g s → GivesNothing g s → ⊥
is_derived g s (t, (d, f, none)) (u, n) = n d f.0

is_refused : (g : Grammar) (s : List ℕ) → GivesNothing g s → GivesNoDocument g s → ⊥
is_refused g s (t, n) (u, (d, f, code)) = n d f.0

-- bytes of a conforming grammar
no_grammar_held : (bytes : List ℕ) (g : Grammar) → IsNoGrammar bytes → HoldsConforming bytes g → ⊥
no_grammar_held bytes g (inl l) h = omega (arith, l, h.0.0.0)
no_grammar_held bytes g (inr n) h = n.1 g h

no_grammar_other : (bytes : List ℕ) → IsNoGrammar bytes → IsUndecodable grammar_limit bytes → ⊥
no_grammar_other bytes (inl l) h = omega (arith, l, h.0)
no_grammar_other bytes (inr n) h = h.1 n.0.1

-- ---- a command reads one file as its grammar, and parses one text

module _ (files : Told) where
  held_once : (name bytes more : List ℕ) → held files name ≡ Some bytes → held files name ≡ Some more → more ≡ bytes
  held_once name bytes more e f = some_is (sym f ∙ e)

  one_held : (command : Command) (name bytes other more : List ℕ) → ReadsGrammar command name → held files name ≡ Some bytes → ReadsGrammar command other → held files other ≡ Some more → more ≡ bytes
  one_held (parse grammar text workers) name bytes other more r e q f = held_once grammar bytes more (subst (λ n. held files n ≡ Some bytes) r e) (subst (λ n. held files n ≡ Some more) q f)
  one_held (check grammar) name bytes other more r e q f = held_once grammar bytes more (subst (λ n. held files n ≡ Some bytes) r e) (subst (λ n. held files n ≡ Some more) q f)
  one_held (sample lines workers) name bytes other more r e q f = absurd r

  -- what is parsed is parsed under the grammar that was read
  grammar_of : (command : Command) (name bytes : List ℕ) (g : Grammar) (s : List ℕ) → ReadsGrammar command name → held files name ≡ Some bytes → Parses files command g s → HoldsConforming bytes g
  grammar_of (parse grammar text workers) name bytes g s r e (more, f, c, t) =
      subst (λ b. HoldsConforming b g) (held_once grammar bytes more (subst (λ n. held files n ≡ Some bytes) r e) f) c
  grammar_of (check grammar) name bytes g s r e p = absurd p
  grammar_of (sample lines workers) name bytes g s r e p = absurd r

  spelled_once_by : (bytes : List ℕ) (g h : Grammar) → HoldsConforming bytes g → HoldsConforming bytes h → h ≡ g
  spelled_once_by bytes g h c d = spelled_once (decoded bytes) h g d.0.1 c.0.1

  one_parse : (command : Command) (g h : Grammar) (s t : List ℕ) → Parses files command g s → Parses files command h t → (h ≡ g) × (t ≡ s)
  one_parse (parse grammar text workers) g h s t (bytes, e, c, f) (more, e', d, f') =
      (spelled_once_by bytes g h c (subst (λ b. HoldsConforming b h) (held_once grammar bytes more e e') d), held_once text s t f f')
  one_parse (check grammar) g h s t p q = absurd p
  one_parse (sample lines workers) g h s t (c, e) (d, f) = (spelled_once_by sample_grammar g h c d, f ∙ sym e)

module _ (words : List (List ℕ)) (files : Told) where
  -- ---- of words and files at most one holds

  of_one : (c d : Command) → IsCommand words c → IsCommand words d → d ≡ c
  of_one c d is also = command_is_one words d c also is

  command_of_grammar : (P : List ℕ → Type 0) → OfGrammar words files P → HasCommand words
  command_of_grammar P h = (h.0, h.1)

  command_of_text : (P : Grammar → List ℕ → Type 0) → OfText words files P → HasCommand words
  command_of_text P h = (h.0, h.1)

  -- words with a command have a form
  formless : HasNoForm words → HasCommand words → ⊥
  formless none (command, is) = none command is

  two_grammars : (P Q : List ℕ → Type 0) → ((bytes : List ℕ) → P bytes → Q bytes → ⊥) → OfGrammar words files P → OfGrammar words files Q → ⊥
  two_grammars P Q never (c, is, name, bytes, r, e, p) (d, also, other, more, r', f, q) =
      let reads : ReadsGrammar c other = subst (λ x. ReadsGrammar x other) (of_one c d is also) r' in
      never bytes p (subst Q (one_held files c name bytes other more r e reads f) q)

  grammar_and_text : (P : List ℕ → Type 0) (Q : Grammar → List ℕ → Type 0) → ((bytes : List ℕ) (g : Grammar) → P bytes → HoldsConforming bytes g → ⊥) → OfGrammar words files P → OfText words files Q → ⊥
  grammar_and_text P Q never (c, is, name, bytes, r, e, p) (d, also, g, s, parses, q) =
      never bytes g p (grammar_of files c name bytes g s r e (subst (λ x. Parses files x g s) (of_one c d is also) parses))

  two_texts : (P Q : Grammar → List ℕ → Type 0) → ((g : Grammar) (s : List ℕ) → P g s → Q g s → ⊥) → OfText words files P → OfText words files Q → ⊥
  two_texts P Q never (c, is, g, s, parses, p) (d, also, h, t, parses', q) =
      let one = one_parse files c g h s t parses (subst (λ x. Parses files x h t) (of_one c d is also) parses') in
      never g s p (subst (λ x. Q x s) one.0 (subst (Q h) one.1 q))

  checked_and_grammar : (P : List ℕ → Type 0) → ((bytes : List ℕ) (g : Grammar) → P bytes → HoldsConforming bytes g → ⊥) → IsChecked words files → OfGrammar words files P → ⊥
  checked_and_grammar P never (name, bytes, g, is, e, c) h =
      two_grammars P (λ b. HoldsConforming b g) (λ b. never b g) h (check name, is, name, bytes, refl, e, c)

  checked_and_text : (P : Grammar → List ℕ → Type 0) → IsChecked words files → OfText words files P → ⊥
  checked_and_text P (name, bytes, g, is, e, c) (d, also, h, s, parses, p) = subst (λ x. Parses files x h s) (of_one (check name) d is also) parses

  -- ---- the cause of a reply

  data Why : Type 0 where
    by_document : OfText words files GivesDocument → Why
    by_check : IsChecked words files → Why
    by_no_derivation : OfText words files GivesNothing → Why
    by_no_form : HasNoForm words → Why
    by_no_grammar : OfGrammar words files IsNoGrammar → Why
    by_no_document : OfText words files GivesNoDocument → Why
    by_not_utf8 : IsNotUtf8 words files → Why
    by_too_long : OfText words files (λ g s. text_limit < length s) → Why

  abbrev status_why : Why → ℕ
  status_why (by_document h) = 0
  status_why (by_check h) = 0
  status_why (by_no_derivation h) = 1
  status_why (by_no_form h) = 2
  status_why (by_no_grammar h) = 3
  status_why (by_no_document h) = 4
  status_why (by_not_utf8 h) = 5
  status_why (by_too_long h) = 6

  module _ (c : Command) (is : IsCommand words c) where
    module _ (name bytes : List ℕ) (r : ReadsGrammar c name) (e : held files name ≡ Some bytes) where
      of_grammar : (P : List ℕ → Type 0) → P bytes → OfGrammar words files P
      of_grammar P p = (c, is, name, bytes, r, e, p)

      no_other : (o : Outcome) → GrammarRefused bytes o → (g : Grammar) → ¬ (HoldsConforming bytes g)
      no_other o h g held_one = refused_or_held bytes o g h held_one

      why_refused : (o : Outcome) → GrammarRefused bytes o → (w : Why) × (status_of o ≡ status_why w)
      why_refused grammar_too_long h = (by_no_grammar (of_grammar IsNoGrammar (inl h)), refl)
      why_refused (grammar_not_utf8 valid) h = (by_not_utf8 (inl (of_grammar (IsUndecodable grammar_limit) (h.0, h.1))), refl)
      why_refused no_grammar h = (by_no_grammar (of_grammar IsNoGrammar (inr (h.0, no_other no_grammar h))), refl)
      why_refused too_deep h = (by_no_grammar (of_grammar IsNoGrammar (inr (h.0, no_other too_deep h))), refl)
      why_refused (not_conforming fault) h = (by_no_grammar (of_grammar IsNoGrammar (inr (h.1.0, no_other (not_conforming fault) h))), refl)
      why_refused o h = absurd h

    module _ (g : Grammar) (s : List ℕ) (parses : Parses files c g s) where
      of_text : (P : Grammar → List ℕ → Type 0) → P g s → OfText words files P
      of_text P p = (c, is, g, s, parses, p)

      why_answered : (o : Outcome) → TextAnswered g s o → (w : Why) × (status_of o ≡ status_why w)
      why_answered text_too_long h = (by_too_long (of_text (λ g s. text_limit < length s) h), refl)
      why_answered (text_not_utf8 valid) h = (by_not_utf8 (inr (of_text (λ g s. IsUndecodable text_limit s) (h.0, h.1))), refl)
      why_answered (failed offset line column) (u, (n, o, l, m)) = (by_no_derivation (of_text GivesNothing (u, n)), refl)
      why_answered (refused code) (u, (d, f, dyn)) = (by_no_document (of_text GivesNoDocument (u, (d, f, (code, dyn)))), refl)
      why_answered (document gs Single) (u, (d, f, q, n, a)) = (by_document (of_text GivesDocument (u, (d, f, subst HasNoRefusal q n))), refl)
      why_answered (document gs Ambiguous) (u, (d, f, q, n, a)) = (by_document (of_text GivesDocument (u, (d, f, subst HasNoRefusal q n))), refl)
      why_answered o h = absurd h.1

      why_measured : (o : Outcome) → Measured g s o → (w : Why) × (status_of o ≡ status_why w)
      why_measured (document gs state) h = absurd h
      why_measured (summarised text counts output) (gs, state, h, plan, counted, e, f) = let w = why_answered (document gs state) h in (w.0, w.1)
      why_measured o h = why_answered o h

  why : (o : Outcome) → IsReply words files o → (w : Why) × (status_of o ≡ status_why w)
  why o (inl h) = (by_no_form h.0, ap status_of h.1)
  why o (inr (parse grammar text workers, is, (bytes, e, inl r))) = why_refused (parse grammar text workers) is grammar bytes refl e o r
  why o (inr (parse grammar text workers, is, (bytes, e, inr (g, c, s, t, a)))) = why_answered (parse grammar text workers) is g s (bytes, e, c, t) o a
  why o (inr (check grammar, is, (bytes, e, inl r))) = why_refused (check grammar) is grammar bytes refl e o r
  why o (inr (check grammar, is, (bytes, e, inr (g, c, q)))) = (by_check (grammar, bytes, g, is, e, c), ap status_of q)
  why o (inr (sample lines workers, is, (g, c, m))) = why_measured (sample lines workers) is g _ (c, refl) o m

  -- of two causes none has the lesser status
  none_less : (w v : Why) → status_why w < status_why v → ⊥
  none_less (by_document h) (by_no_derivation l) less = two_texts GivesDocument GivesNothing is_derived h l
  none_less (by_document h) (by_no_form l) less = formless l (command_of_text GivesDocument h)
  none_less (by_document h) (by_no_grammar l) less = grammar_and_text IsNoGrammar GivesDocument no_grammar_held l h
  none_less (by_document h) (by_no_document l) less = two_texts GivesDocument GivesNoDocument is_one h l
  none_less (by_document h) (by_not_utf8 (inl l)) less = grammar_and_text (IsUndecodable grammar_limit) GivesDocument (λ b g p c. p.1 c.0.0.1) l h
  none_less (by_document h) (by_not_utf8 (inr l)) less = two_texts GivesDocument (λ g s. IsUndecodable text_limit s) (λ g s p q. q.1 p.0.1) h l
  none_less (by_document h) (by_too_long l) less = two_texts GivesDocument (λ g s. text_limit < length s) (λ g s p q. omega (arith, p.0.0, q)) h l
  none_less (by_check h) (by_no_derivation l) less = checked_and_text GivesNothing h l
  none_less (by_check h) (by_no_form l) less = formless l (check h.0, h.3)
  none_less (by_check h) (by_no_grammar l) less = checked_and_grammar IsNoGrammar no_grammar_held h l
  none_less (by_check h) (by_no_document l) less = checked_and_text GivesNoDocument h l
  none_less (by_check h) (by_not_utf8 (inl l)) less = checked_and_grammar (IsUndecodable grammar_limit) (λ b g p c. p.1 c.0.0.1) h l
  none_less (by_check h) (by_not_utf8 (inr l)) less = checked_and_text (λ g s. IsUndecodable text_limit s) h l
  none_less (by_check h) (by_too_long l) less = checked_and_text (λ g s. text_limit < length s) h l
  none_less (by_no_derivation h) (by_no_form l) less = formless l (command_of_text GivesNothing h)
  none_less (by_no_derivation h) (by_no_grammar l) less = grammar_and_text IsNoGrammar GivesNothing no_grammar_held l h
  none_less (by_no_derivation h) (by_no_document l) less = two_texts GivesNothing GivesNoDocument is_refused h l
  none_less (by_no_derivation h) (by_not_utf8 (inl l)) less = grammar_and_text (IsUndecodable grammar_limit) GivesNothing (λ b g p c. p.1 c.0.0.1) l h
  none_less (by_no_derivation h) (by_not_utf8 (inr l)) less = two_texts GivesNothing (λ g s. IsUndecodable text_limit s) (λ g s p q. q.1 p.0.1) h l
  none_less (by_no_derivation h) (by_too_long l) less = two_texts GivesNothing (λ g s. text_limit < length s) (λ g s p q. omega (arith, p.0.0, q)) h l
  none_less (by_no_form h) (by_no_grammar l) less = formless h (command_of_grammar IsNoGrammar l)
  none_less (by_no_form h) (by_no_document l) less = formless h (command_of_text GivesNoDocument l)
  none_less (by_no_form h) (by_not_utf8 (inl l)) less = formless h (command_of_grammar (IsUndecodable grammar_limit) l)
  none_less (by_no_form h) (by_not_utf8 (inr l)) less = formless h (command_of_text (λ g s. IsUndecodable text_limit s) l)
  none_less (by_no_form h) (by_too_long l) less = formless h (command_of_text (λ g s. text_limit < length s) l)
  none_less (by_no_grammar h) (by_no_document l) less = grammar_and_text IsNoGrammar GivesNoDocument no_grammar_held h l
  none_less (by_no_grammar h) (by_not_utf8 (inl l)) less = two_grammars IsNoGrammar (IsUndecodable grammar_limit) no_grammar_other h l
  none_less (by_no_grammar h) (by_not_utf8 (inr l)) less = grammar_and_text IsNoGrammar (λ g s. IsUndecodable text_limit s) no_grammar_held h l
  none_less (by_no_grammar h) (by_too_long l) less = grammar_and_text IsNoGrammar (λ g s. text_limit < length s) no_grammar_held h l
  none_less (by_no_document h) (by_not_utf8 (inl l)) less = grammar_and_text (IsUndecodable grammar_limit) GivesNoDocument (λ b g p c. p.1 c.0.0.1) l h
  none_less (by_no_document h) (by_not_utf8 (inr l)) less = two_texts GivesNoDocument (λ g s. IsUndecodable text_limit s) (λ g s p q. q.1 p.0.1) h l
  none_less (by_no_document h) (by_too_long l) less = two_texts GivesNoDocument (λ g s. text_limit < length s) (λ g s p q. omega (arith, p.0.0, q)) h l
  none_less (by_not_utf8 (inl h)) (by_too_long l) less = grammar_and_text (IsUndecodable grammar_limit) (λ g s. text_limit < length s) (λ b g p c. p.1 c.0.0.1) h l
  none_less (by_not_utf8 (inr h)) (by_too_long l) less = two_texts (λ g s. IsUndecodable text_limit s) (λ g s. text_limit < length s) (λ g s p q. omega (arith, p.0, q)) h l
  none_less (by_too_long h) (by_document l) less = omega (arith, less)
  none_less w v less = omega (arith, less)

  one_status : (w v : Why) → status_why w ≡ status_why v
  one_status w v = by_order (in_order (status_why w) (status_why v))
    where
      by_order : (status_why w < status_why v) ⊎ ((status_why w ≡ status_why v) ⊎ (status_why v < status_why w)) → status_why w ≡ status_why v
      by_order (inl less) = absurd (none_less w v less)
      by_order (inr (inl same)) = same
      by_order (inr (inr more)) = absurd (none_less v w more)

  is_done : (w : Why) → status_why w ≡ 0 → OfText words files GivesDocument ⊎ IsChecked words files
  is_done (by_document h) e = inl h
  is_done (by_check h) e = inr h
  is_done w e = absurd (omega (arith, e))

  done_why : OfText words files GivesDocument ⊎ IsChecked words files → (w : Why) × (status_why w ≡ 0)
  done_why (inl h) = (by_document h, refl)
  done_why (inr h) = (by_check h, refl)

  is_no_derivation : (w : Why) → status_why w ≡ 1 → OfText words files GivesNothing
  is_no_derivation (by_no_derivation h) e = h
  is_no_derivation w e = absurd (omega (arith, e))

  is_no_form : (w : Why) → status_why w ≡ 2 → HasNoForm words
  is_no_form (by_no_form h) e = h
  is_no_form w e = absurd (omega (arith, e))

  is_no_grammar : (w : Why) → status_why w ≡ 3 → OfGrammar words files IsNoGrammar
  is_no_grammar (by_no_grammar h) e = h
  is_no_grammar w e = absurd (omega (arith, e))

  is_no_document : (w : Why) → status_why w ≡ 4 → OfText words files GivesNoDocument
  is_no_document (by_no_document h) e = h
  is_no_document w e = absurd (omega (arith, e))

  is_not_utf8 : (w : Why) → status_why w ≡ 5 → IsNotUtf8 words files
  is_not_utf8 (by_not_utf8 h) e = h
  is_not_utf8 w e = absurd (omega (arith, e))

  is_too_long : (w : Why) → status_why w ≡ 6 → OfText words files (λ g s. text_limit < length s)
  is_too_long (by_too_long h) e = h
  is_too_long w e = absurd (omega (arith, e))

  caused_by : (status : ℕ) (w : Why) → status ≡ status_why w → IsCaused words files status
  caused_by status w q = record {
    done = ((λ e. is_done w (sym q ∙ e)), λ h. let v = done_why h in q ∙ one_status w v.0 ∙ v.1);
    no_derivation = ((λ e. is_no_derivation w (sym q ∙ e)), λ h. q ∙ one_status w (by_no_derivation h));
    no_form = ((λ e. is_no_form w (sym q ∙ e)), λ h. q ∙ one_status w (by_no_form h));
    no_grammar = ((λ e. is_no_grammar w (sym q ∙ e)), λ h. q ∙ one_status w (by_no_grammar h));
    no_document = ((λ e. is_no_document w (sym q ∙ e)), λ h. q ∙ one_status w (by_no_document h));
    not_utf8 = ((λ e. is_not_utf8 w (sym q ∙ e)), λ h. q ∙ one_status w (by_not_utf8 h));
    too_long = ((λ e. is_too_long w (sym q ∙ e)), λ h. q ∙ one_status w (by_too_long h));
  }

  pub reply_caused : (o : Outcome) → IsReply words files o → IsCaused words files (status_of o)
  reply_caused o h = let w = why o h in caused_by (status_of o) w.0 w.1
