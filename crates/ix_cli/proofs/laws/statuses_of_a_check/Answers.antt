use Rattle.std.proofs.Common.{◌≡◌, refl, [], ◌∷◌, codes, arith}
use Rattle.ix_examples.specs.SmallAnswers.{check_g, one_way}
use Rattle.ix_worked_examples.proofs.SmallAnswers.{checks_g}
use Rattle.ix_cli.specs.Causes.{IsCaused}
use Rattle.ix_cli.specs.Examples.{holding}
use Rattle.ix_cli.proofs.Caused.{reply_caused}
use Rattle.ix_cli.proofs.SmallChecks.{checking, conforms_here, none_here, no_characters, of_no_text}
use Rattle.ix_cli.proofs.laws.statuses_of_a_check.Goals as goal

done_here : IsCaused check_g (holding one_way (97 ∷ 195 ∷ [])) 0
done_here = reply_caused _ _ _ (conforms_here _)

refused_here : IsCaused check_g (holding [] (codes "a")) 3
refused_here = reply_caused _ _ _ (none_here _)

pub returns-clause-done : goal.returns-clause-done
returns-clause-done c = done_here

pub returns-clause-no_grammar : goal.returns-clause-no_grammar
returns-clause-no_grammar c = refused_here

pub returns-clause-not_utf8 : goal.returns-clause-not_utf8
returns-clause-not_utf8 c = reply_caused _ _ _ no_characters

pub returns-clause-not_done : goal.returns-clause-not_done
returns-clause-not_done c h = let e : 0 ≡ 3 = h.no_grammar.1 (refused_here.no_grammar.0 refl) in omega (arith, e)

pub returns-clause-not_of_text : goal.returns-clause-not_of_text
returns-clause-not_of_text c h = let e : 5 ≡ 0 = h.done.1 (done_here.done.0 refl) in omega (arith, e)

pub returns-clause-never_failed : goal.returns-clause-never_failed
returns-clause-never_failed c files h = of_no_text files _ (h.no_derivation.0 refl)

pub returns-clause-never_without_form : goal.returns-clause-never_without_form
returns-clause-never_without_form c files h = h.no_form.0 refl checking checks_g

pub returns-clause-never_no_document : goal.returns-clause-never_no_document
returns-clause-never_no_document c files h = of_no_text files _ (h.no_document.0 refl)

pub returns-clause-never_too_long : goal.returns-clause-never_too_long
returns-clause-never_too_long c files h = of_no_text files _ (h.too_long.0 refl)
