use Rattle.std.proofs.Common.{refl, ap, arith}
use mathlib.Core.Logic.{inl, inr}
use Rattle.ix_examples.specs.SmallAnswers.{one_way}
use Rattle.ix_examples.specs.SmallGrammars.{only_a}
use Rattle.ix_examples.proofs.SmallTexts.{first}
use Rattle.ix_cli.proofs.SmallReplies.{holds_one_way, not_held_some}
use Rattle.ix_cli.proofs.laws.files_that_are_next.Goals as goal

pub returns-clause-grammar : goal.returns-clause-grammar
returns-clause-grammar c = inl refl

pub returns-clause-text : goal.returns-clause-text
returns-clause-text c = inr (refl, (one_way, refl, (only_a, holds_one_way)))

pub returns-clause-text_before_grammar : goal.returns-clause-text_before_grammar
returns-clause-text_before_grammar c (inl e) = omega (arith, ap first e)
returns-clause-text_before_grammar c (inr (e, h)) = not_held_some h

pub returns-clause-untold : goal.returns-clause-untold
returns-clause-untold c = inr (refl, tt)

pub returns-clause-other : goal.returns-clause-other
returns-clause-other c (inl e) = omega (arith, ap first e)
returns-clause-other c (inr (e, h)) = omega (arith, ap first e)

pub returns-clause-checked : goal.returns-clause-checked
returns-clause-checked c = refl

pub returns-clause-not_checked : goal.returns-clause-not_checked
returns-clause-not_checked c e = omega (arith, ap first e)

pub returns-clause-sample : goal.returns-clause-sample
returns-clause-sample c name h = h
