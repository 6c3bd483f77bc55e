use Rattle.std.proofs.Common.{◌≡◌, refl, sym, ap, ◌∙◌, ℕ, List, drop, length, codes, arith}
use Rattle.std.specs.Fmt.{digits}
use Rattle.ix_model.specs.Answers.Outcome.{failed}
use Rattle.ix_model.specs.Documents.FailedXml.{failed_xml}
use Rattle.ix_examples.proofs.SmallTexts.{first}
use Rattle.ix_cli.proofs.SmallFigures.{a_figures, a_measured, figures_of_a, measured_output, measured_status}
use Rattle.ix_cli.proofs.SmallReplies.{a_document, a_answered, ab_answered, one_document, the_output, under_one_way}
use Rattle.ix_cli.proofs.laws.outputs_of_a_text.Goals as goal

pub returns-clause-document : goal.returns-clause-document
returns-clause-document c v e = (a_document, a_answered, record { status = refl; bytes = e ∙ sym one_document; some = omega (arith, ap length one_document); silent = refl })

pub returns-clause-no_figures : goal.returns-clause-no_figures
returns-clause-no_figures c v e (o, h, shows) = let f : 41 ≡ 9 = ap length (sym e ∙ shows.bytes ∙ the_output o (under_one_way (codes "a") o h)) in omega (arith, f)

pub returns-clause-figures : goal.returns-clause-figures
returns-clause-figures c v e = (a_figures, a_measured, record { status = refl; bytes = e ∙ sym figures_of_a; some = omega (arith, ap length figures_of_a); silent = refl })

-- the number of descriptors
abbrev twentieth : List ℕ → ℕ
twentieth cs = first (drop 19 cs)

pub returns-clause-other_figures : goal.returns-clause-other_figures
returns-clause-other_figures c v e (o, h, shows) = let f : 49 ≡ 50 = ap twentieth (sym e ∙ shows.bytes ∙ measured_output o h) in omega (arith, f)

pub returns-clause-no_document : goal.returns-clause-no_document
returns-clause-no_document c v e (o, h, shows) = let f : 9 ≡ 41 = ap length (sym e ∙ shows.bytes ∙ measured_output o h) in omega (arith, f)

pub returns-clause-failed : goal.returns-clause-failed
unfolding failed_xml digits
returns-clause-failed c v e = (failed 1 1 2, ab_answered, record { status = refl; bytes = e; some = omega arith; silent = refl })

pub returns-clause-not_failed : goal.returns-clause-not_failed
returns-clause-not_failed c v (o, h, shows) = omega (arith, shows.status, measured_status o h)
