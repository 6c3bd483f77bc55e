-- The worked examples of figures and of outputs.
use Rattle.std.proofs.Common.{◌≡◌, refl, sym, ap, ◌∙◌, ℕ, length, Global, Vec, codes, arith}
use Rattle.std.specs.Fmt.{digits}
use Rattle.std.specs.Str.{chars}
use Rattle.ix_model.specs.declared.state.State.TheVariants.{Single}
use Rattle.ix_model.specs.Answers.Answer.{Measured}
use Rattle.ix_model.specs.Answers.Outcome.{Outcome, conforms, summarised, status_of, output_of}
use Rattle.ix_model.specs.Closure.Figures.{IsCounted}
use Rattle.ix_examples.specs.SmallGivens.{text_of, document as element_with}
use Rattle.ix_examples.specs.SmallGrammars.{only_a}
use Rattle.ix_examples.specs.SmallPlans.{only_a as a_plan}
use Rattle.ix_examples.proofs.SmallPlans.{planned_a}
use Rattle.ix_worked_examples.proofs.SmallRules.{plan_of_a}
use Rattle.ix_engine.specs.Examples.{a_counts}
use Rattle.ix_engine.proofs.SmallCounts.{counts_on_a}
use Rattle.ix_answer_laws.proofs.OneAnswer.{measured_once}
use Rattle.ix_cli.specs.declared.output.Content.TheVariants.{Bytes}
use Rattle.ix_cli.specs.Shown.{Shows}
use Rattle.ix_cli.proofs.SmallReplies.{a_answered, one_document}

abbrev pub a_figures : Outcome
a_figures = summarised 1 a_counts 9

a_counted : IsCounted only_a (codes "a") (a_plan (codes "a")) a_counts
a_counted = record { plan_of = plan_of_a; planned = planned_a; text = refl; counts_of = counts_on_a }

pub a_measured : Measured only_a (codes "a") a_figures
unfolding chars
a_measured = (element_with (text_of (codes "a")), Single, a_answered, a_plan (codes "a"), a_counted, refl, sym (ap length one_document))

pub figures_of_a : output_of a_figures ≡ codes "text 1\ndescriptors 2\nsubtrees 1\noutput 9\n"
unfolding digits
figures_of_a = refl

module _ (o : Outcome) (h : Measured only_a (codes "a") o) where
  the_figures : a_figures ≡ o
  the_figures = measured_once only_a (codes "a") a_figures o a_measured h

  pub measured_output : output_of o ≡ codes "text 1\ndescriptors 2\nsubtrees 1\noutput 9\n"
  measured_output = sym (ap output_of the_figures) ∙ figures_of_a

  pub measured_status : status_of o ≡ 0
  measured_status = sym (ap status_of the_figures)

pub ok_shown : (v : Vec ℕ Global) → v.items ≡ codes "ok\n" → Shows conforms (record { status = 0; content = Bytes v })
ok_shown v e = record { status = refl; bytes = e; some = omega arith; silent = refl }
