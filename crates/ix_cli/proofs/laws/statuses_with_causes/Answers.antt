use Rattle.std.proofs.Common.{◌≡◌, refl, arith}
use mathlib.Core.Logic.{inl}
use Rattle.ix_answer_laws.proofs.Commands.{no_words}
use Rattle.ix_cli.proofs.Caused.{reply_caused}
use Rattle.ix_cli.proofs.SmallReplies.{answered, no_grammar_here, failure_caused, no_text_caused}
use Rattle.ix_cli.proofs.laws.statuses_with_causes.Goals as goal

pub returns-clause-document : goal.returns-clause-document
returns-clause-document c = reply_caused _ _ _ answered

pub returns-clause-no_derivation : goal.returns-clause-no_derivation
returns-clause-no_derivation c = failure_caused

-- the cause of status 1 holds, so it is no other
pub returns-clause-not_document : goal.returns-clause-not_document
returns-clause-not_document c h = let e : 0 ≡ 1 = h.no_derivation.1 (failure_caused.no_derivation.0 refl) in omega (arith, e)

pub returns-clause-no_form : goal.returns-clause-no_form
returns-clause-no_form c = reply_caused _ _ _ (inl (no_words, refl))

pub returns-clause-no_grammar : goal.returns-clause-no_grammar
returns-clause-no_grammar c = reply_caused _ _ _ (no_grammar_here _)

pub returns-clause-not_utf8 : goal.returns-clause-not_utf8
returns-clause-not_utf8 c = no_text_caused

pub returns-clause-not_derived : goal.returns-clause-not_derived
returns-clause-not_derived c h = let e : 1 ≡ 5 = h.not_utf8.1 (no_text_caused.not_utf8.0 refl) in omega (arith, e)
