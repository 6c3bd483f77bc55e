use Rattle.std.proofs.Common.{◌≡◌, ◌⊎◌, refl, ap, codes, arith}
use mathlib.Core.Logic.{inl, inr}
use Rattle.ix_examples.proofs.SmallTexts.{first}
use Rattle.ix_worked_examples.proofs.SmallAnswers.{checks_g, parses_g_t}
use Rattle.ix_answer_laws.proofs.Commands.{no_words}
use Rattle.ix_cli.proofs.SmallChecks.{checking}
use Rattle.ix_cli.proofs.SmallReplies.{parsing}
use Rattle.ix_cli.proofs.SmallWords.{named_by_parse, named_by_check, named_by_sample}
use Rattle.ix_cli.proofs.laws.files_that_words_name.Goals as goal

pub returns-clause-grammar : goal.returns-clause-grammar
returns-clause-grammar c = (parsing, parses_g_t, inl refl)

pub returns-clause-text : goal.returns-clause-text
returns-clause-text c = (parsing, parses_g_t, inr refl)

not_x : (codes "x" ≡ codes "g") ⊎ (codes "x" ≡ codes "t") → ⊥
not_x (inl e) = omega (arith, ap first e)
not_x (inr e) = omega (arith, ap first e)

pub returns-clause-other : goal.returns-clause-other
returns-clause-other c h = not_x (named_by_parse (codes "x") h)

not_parse : (codes "parse" ≡ codes "g") ⊎ (codes "parse" ≡ codes "t") → ⊥
not_parse (inl e) = omega (arith, ap first e)
not_parse (inr e) = omega (arith, ap first e)

pub returns-clause-first_word : goal.returns-clause-first_word
returns-clause-first_word c h = not_parse (named_by_parse (codes "parse") h)

pub returns-clause-checked : goal.returns-clause-checked
returns-clause-checked c = (checking, checks_g, inl refl)

pub returns-clause-not_checked : goal.returns-clause-not_checked
returns-clause-not_checked c h = let e : codes "t" ≡ codes "g" = named_by_check (codes "t") h in omega (arith, ap first e)

pub returns-clause-sample : goal.returns-clause-sample
returns-clause-sample c = named_by_sample

pub returns-clause-no_words : goal.returns-clause-no_words
returns-clause-no_words c name (command, is, reads) = no_words command is
