-- The worked examples of contents.
use Rattle.std.proofs.Common.{◌≡◌, refl, sym, ◌∙◌, ℕ, List, codes, Global, Vec, arith}
use Rattle.ix_model.specs.declared.state.State.TheVariants.{Single}
use Rattle.ix_model.specs.Documents.Dyn.{HasNoRefusal}
use Rattle.ix_model.specs.Documents.Gives.{Givens}
use Rattle.ix_examples.specs.SmallGivens.{text_of, document as element_with}
use Rattle.ix_examples.specs.SmallGrammars.{only_a}
use Rattle.ix_examples.specs.SmallPlans.{only_a as a_plan}
use Rattle.ix_marks.specs.InRange.{AreIn}
use Rattle.ix_marks.specs.Standing.{StandsFor}
use Rattle.ix_engine.specs.Examples.{a_marked}
use Rattle.ix_serial.proofs.Documents.{document_read}
use Rattle.ix_cli.specs.Contents.{HasBytes}
use Rattle.ix_cli.specs.Examples.{a_content}
use Rattle.ix_cli.proofs.Outputs.{has_no_code}
use Rattle.ix_cli.proofs.SmallReplies.{a_answered, one_document}

-- an element `S` with the character `a`
abbrev a_givens : Givens
a_givens = element_with (text_of (codes "a"))

abbrev names : List (List ℕ)
names = (a_plan (codes "a")).rules.names

pub a_there : AreIn names a_marked
a_there = record { items_in = ((omega arith, omega arith, omega arith), ((omega arith, omega arith), (omega arith, tt))); attrs_in = tt; top_in = tt; runs_fit = omega arith }

pub a_stands : StandsFor names a_marked a_givens
a_stands = record { items = refl; top = refl }

pub a_no_code : HasNoRefusal a_givens
a_no_code = has_no_code only_a (codes "a") a_givens Single a_answered

module _ (v : Vec ℕ Global) where
  pub a_has : HasBytes (a_content v) (codes "<S>a</S>\n")
  a_has = (a_givens, a_stands, a_no_code, sym one_document)

  -- and it has no other bytes
  pub a_has_only : (bytes : List ℕ) → HasBytes (a_content v) bytes → bytes ≡ codes "<S>a</S>\n"
  a_has_only bytes (gs, s, n, e) =
      e ∙ sym (document_read names a_marked Single a_givens gs a_there a_stands a_no_code s) ∙ document_read names a_marked Single a_givens a_givens a_there a_stands a_no_code a_stands ∙ one_document
