-- What is written of an outcome of a text.
use Rattle.std.proofs.Common.{◌≡◌, refl, ap, subst, ◌<◌, ◌++◌, ◌∷◌, [], ℕ, Bool, false, List, length, map, Vec, Global, Result, Ok, Err, IfOk, arith}
use Rattle.std.specs.List.{concat}
use Rattle.std.proofs.lemmas.List.{length-append}
use Rattle.std.proofs.lemmas.List.Folds.{concat-append}
use Rattle.ix_model.specs.declared.counts.Counts.{Counts}
use Rattle.ix_model.specs.declared.grammar.Grammar.{Grammar}
use Rattle.ix_model.specs.declared.state.State.{State}
use Rattle.ix_model.specs.declared.state.State.TheVariants.{Single, Ambiguous}
use Rattle.ix_model.specs.Answers.Answer.{TextAnswered}
use Rattle.ix_model.specs.Answers.Outcome.{failed, document, summarised}
use Rattle.ix_model.specs.Answers.Sample.{summary_of}
use Rattle.ix_model.specs.Expansion.Parts.{Parts}
use Rattle.ix_model.specs.Documents.Dyn.{HasNoRefusal}
use Rattle.ix_model.specs.Documents.FailedXml.{failed_xml}
use Rattle.ix_model.specs.Documents.Gives.{Givens}
use Rattle.ix_model.specs.Documents.Xml.{state_bytes, xml}
use Rattle.ix_marks.specs.InRange.{AreIn}
use Rattle.ix_marks.specs.MarkedLists.{MarkedLists}
use Rattle.ix_marks.specs.Meaning.{piece_of}
use Rattle.ix_marks.specs.Pieces.{Piece}
use Rattle.ix_marks.specs.Standing.{StandsFor}
use Rattle.ix_engine.specs.declared.outcome.Outcome.TheVariants as outcome
use Rattle.ix_engine.specs.declared.outcome.ParseFault.{ParseFault}
use Rattle.ix_engine.specs.Parsed.{IsOutcome}
use Rattle.ix_serial.specs.Units.{document_units, piece_units, words_behind, opens_tag}
use Rattle.ix_serial.proofs.Documents.{document_read}
use Rattle.ix_cli.specs.declared.output.Content.TheVariants.{Bytes}
use Rattle.ix_cli.specs.declared.output.Output.{Output}
use Rattle.ix_cli.specs.Contents.{HasBytes}
use Rattle.ix_cli.specs.Shown.{Shows, ShowsText, ShowsFigures}

-- the units of a document have a byte
some_more : (units more : List (List ℕ)) → 0 < length (concat more) → 0 < length (concat (units ++ more))
some_more units more l = omega (arith, ap length (concat-append units more), length-append (concat units) (concat more), l)

units_some : (words : List ℕ) (tag_open : Bool) (ps : List Piece) → 0 < length (concat (document_units words tag_open ps))
units_some words tag_open [] = omega arith
units_some words tag_open (p ∷ ps) = some_more (piece_units words tag_open p) (document_units (words_behind words p) (opens_tag p) ps) (units_some (words_behind words p) (opens_tag p) ps)

module _ (g : Grammar) (bytes : List ℕ) where
  -- what is answered as a document has no code
  pub has_no_code : (gs : Givens) (state : State) → TextAnswered g bytes (document gs state) → HasNoRefusal gs
  has_no_code gs Single (t, (d, f, q, n, a)) = n
  has_no_code gs Ambiguous (t, (d, f, q, n, a)) = n

  -- a document is not empty
  document_some : (names : List (List ℕ)) (m : MarkedLists) (gs : Givens) (state : State) → AreIn names m → StandsFor names m gs → HasNoRefusal gs → 0 < length (xml gs state)
  document_some names m gs state i s n =
      subst (λ (xs : List ℕ). 0 < length xs) (document_read names m state gs gs i s n s) (units_some (state_bytes state) false (map (piece_of names m.attrs m.chars) m.items))

  module _ (plan : Parts) (marked : MarkedLists) (state : State) (counts : Counts) (h : IsOutcome g bytes (outcome.Tree plan marked state counts)) where
    -- a marked tree stands for a document
    no_code : HasNoRefusal h.0
    no_code = has_no_code h.0 state h.1

    -- it is shown
    pub document_shown : (output : Output) → output.status ≡ 0 → ((gs : Givens) → StandsFor plan.rules.names marked gs → HasNoRefusal gs → HasBytes output.content (xml gs state)) → ShowsText g bytes output
    document_shown output e f = (
      document h.0 state,
      h.1,
      record {
        status = e;
        bytes = f h.0 h.2 no_code;
        some = document_some plan.rules.names marked h.0 state h.3 h.2 no_code;
        silent = refl;
      },
    )

    -- or its figures are
    figures_shown : (output : Output) → output.status ≡ 0 → ((gs : Givens) → StandsFor plan.rules.names marked gs → HasBytes output.content (summary_of (length bytes) counts (length (xml gs state)))) →
        ShowsFigures g bytes output
    figures_shown output e f = (
      summarised (length bytes) counts (length (xml h.0 state)),
      (h.0, state, h.1, plan, h.4, refl, refl),
      record {
        status = e;
        bytes = f h.0 h.2;
        some = omega arith;
        silent = refl;
      },
    )

    pub figures_answered : (text : List ℕ) → text ≡ bytes → (r : Result Output ParseFault) → IfOk r (λ output. output.status ≡ 0) →
        IfOk r (λ output. (gs : Givens) → StandsFor plan.rules.names marked gs → HasBytes output.content (summary_of (length text) counts (length (xml gs state)))) → IfOk r (ShowsFigures g bytes)
    figures_answered text e (Ok output) s f =
        figures_shown output s (subst (λ t. (gs : Givens) → StandsFor plan.rules.names marked gs → HasBytes output.content (summary_of (length t) counts (length (xml gs state)))) e f)
    figures_answered text e (Err fault) s f = tt

  pub failed_shown : (offset line column : ℕ) (output : Output) → TextAnswered g bytes (failed offset line column) → Shows (failed offset line column) output → ShowsText g bytes output
  failed_shown offset line column output h s = (failed offset line column, h, s)

  pub failed_figures : (offset line column : ℕ) (output : Output) → TextAnswered g bytes (failed offset line column) → Shows (failed offset line column) output → ShowsFigures g bytes output
  failed_figures offset line column output h s = (failed offset line column, h, s)

-- what is written of a text without a derivation
pub failed_written : (offset line column : ℕ) (v : Vec ℕ Global) → v.items ≡ failed_xml offset line column → Shows (failed offset line column) (record { status = 1; content = Bytes v })
unfolding failed_xml
failed_written offset line column v e = record {
  status = refl;
  bytes = e;
  some = omega arith;
  silent = refl;
}
