use Rattle.std.proofs.Common.{◌≡◌, refl, sym, ap, ◌∙◌, subst, length, arith}
use Rattle.ix_model.specs.declared.grammar.Grammar.{Grammar}
use Rattle.ix_model.specs.Answers.Answer.{HoldsConforming}
use Rattle.ix_model.specs.Answers.Sample.{sample_grammar}
use Rattle.ix_examples.specs.SmallAnswers.{one_way}
use Rattle.ix_examples.specs.SmallGrammars.{only_a}
use Rattle.ix_answer_laws.proofs.OneAnswer.{held_grammar}
use Rattle.ix_sample_laws.specs.SampleRules.{sample_rules}
use Rattle.ix_sample_laws.proofs.SampleConforms.{sample_conforms}
use Rattle.ix_cli.proofs.Options.{some_is}
use Rattle.ix_cli.proofs.SmallReplies.{holds_one_way}
use Rattle.ix_cli.proofs.SmallSamples.{one_line, length_of_two_lines}
use Rattle.ix_cli.proofs.laws.texts_that_are_parsed.Goals as goal

pub returns-clause-parsed : goal.returns-clause-parsed
returns-clause-parsed c = (one_way, refl, holds_one_way, refl)

pub returns-clause-other_text : goal.returns-clause-other_text
returns-clause-other_text c (bytes, e, g, f) = absurd (cc f)

-- they have one rule and four
other_rules : only_a ≡ sample_rules → ⊥
other_rules e = let f : 1 ≡ 4 = ap (λ (g : Grammar). length g.rules) e in omega (arith, f)

pub returns-clause-other_grammar : goal.returns-clause-other_grammar
returns-clause-other_grammar c (bytes, e, g, f) =
    other_rules (held_grammar one_way only_a sample_rules holds_one_way (subst (λ b. HoldsConforming b sample_rules) (sym (some_is e)) g))

pub returns-clause-no_text : goal.returns-clause-no_text
returns-clause-no_text c s (bytes, e, g, f) = absurd (cc f)

pub returns-clause-checked : goal.returns-clause-checked
returns-clause-checked c g s h = h

pub returns-clause-sample : goal.returns-clause-sample
returns-clause-sample c = (sample_conforms, sym one_line)

pub returns-clause-other_number : goal.returns-clause-other_number
returns-clause-other_number c (g, e) = let f : 5 ≡ 10 = ap length e ∙ length_of_two_lines in omega (arith, f)

pub returns-clause-not_held : goal.returns-clause-not_held
returns-clause-not_held c s (g, e) = other_rules (held_grammar sample_grammar only_a sample_rules g sample_conforms)
