-- The answers that words without a command, a refused grammar and a text without an outcome are. Want of memory is one answer, wherever it comes.
-- Source: this project's own.
use Rattle.ix_engine.specs.declared.outcome.ParseFault.{ParseFault}
use Rattle.ix_engine.specs.declared.outcome.ParseFault.TheVariants as fault
use Rattle.ix_engine.specs.declared.refusal.Refusal.{Refusal}
use Rattle.ix_engine.specs.declared.refusal.Refusal.TheVariants as refusal
use Rattle.ix_words.specs.declared.command.WordsFault.{WordsFault}
use Rattle.ix_words.specs.declared.command.WordsFault.TheVariants as words
use Rattle.ix_cli.specs.declared.answer.Answer.{Answer}
use Rattle.ix_cli.specs.declared.answer.Answer.TheVariants as answer

abbrev pub of_words : WordsFault → Answer
of_words words.NoForm = answer.Words
of_words words.Memory = answer.Memory

abbrev pub of_refusal : Refusal → Answer
of_refusal refusal.Memory = answer.Memory
of_refusal r = answer.Grammar r

abbrev pub of_fault : ParseFault → Answer
of_fault fault.Memory = answer.Memory
of_fault f = answer.Text f
