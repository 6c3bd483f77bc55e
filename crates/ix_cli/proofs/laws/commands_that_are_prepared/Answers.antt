use Rattle.std.proofs.Common.{◌≡◌, refl, sym, ap, ◌∙◌, length, codes, take, arith}
use Rattle.ix_examples.specs.SmallAnswers.{one_way}
use Rattle.ix_examples.specs.SmallGrammars.{only_a}
use Rattle.ix_sample_laws.proofs.SampleConforms.{sample_conforms}
use Rattle.ix_cli.proofs.Options.{some_is}
use Rattle.ix_cli.proofs.SmallReplies.{holds_one_way, none_held, not_held_some}
use Rattle.ix_cli.proofs.SmallSamples.{one_line, length_of_two_lines}
use Rattle.ix_cli.proofs.laws.commands_that_are_prepared.Goals as goal

pub returns-clause-parse : goal.returns-clause-parse
returns-clause-parse c v e = ((one_way, refl, holds_one_way), (codes "a", refl, e), refl, refl)

pub returns-clause-other_text : goal.returns-clause-other_text
returns-clause-other_text c v e (g, (bytes, held, q), w, d) =
    let f : v.items ≡ take 16777217 (codes "a") = q ∙ ap (take 16777217) (sym (some_is held)) in
    let n : 2 ≡ 1 = ap length (sym e ∙ f) in
    omega (arith, n)

pub returns-clause-no_grammar : goal.returns-clause-no_grammar
returns-clause-no_grammar c task ((bytes, held, h), t, w, d) = none_held bytes (sym (some_is held)) task.grammar h

pub returns-clause-other_workers : goal.returns-clause-other_workers
returns-clause-other_workers c v (g, t, w, d) = omega (arith, w)

pub returns-clause-no_figures : goal.returns-clause-no_figures
returns-clause-no_figures c v (g, t, w, d) = absurd (cc d)

pub returns-clause-check : goal.returns-clause-check
returns-clause-check c v e = ((one_way, refl, (only_a, holds_one_way)), record { status = refl; bytes = e; some = omega arith; silent = refl })

pub returns-clause-not_checked : goal.returns-clause-not_checked
returns-clause-not_checked c output h = not_held_some h.0

pub returns-clause-not_parsed : goal.returns-clause-not_parsed
returns-clause-not_parsed c task h = h

pub returns-clause-sample : goal.returns-clause-sample
returns-clause-sample c v e = (sample_conforms, e ∙ sym one_line, refl, refl)

pub returns-clause-other_number : goal.returns-clause-other_number
returns-clause-other_number c v e (g, t, w, d) = let f : 5 ≡ 10 = ap length (sym e ∙ t) ∙ length_of_two_lines in omega (arith, f)
