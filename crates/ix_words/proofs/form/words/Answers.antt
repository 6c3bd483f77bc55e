use Rattle.std.proofs.Common.{Err, ap, codes, map, string_bytes}
use Rattle.std.proofs.lemmas.Result.{IfOk-weaker}
use Rattle.ix_model.specs.Answers.CommandLine.{IsCommand}
use Rattle.ix_answer_laws.proofs.Commands.{command_is_one}
use Rattle.ix_words.specs.Asked.{asked}
use Rattle.ix_words.specs.Given.{given}
use Rattle.ix_words.proofs.FromParts.{is_asked, no_value, passed_up, unasked}
use Rattle.ix_words.proofs.form.words.Goals as goal

pub returns-in_err-name-clause-no_form : goal.returns-in_err-name-clause-no_form
returns-in_err-name-clause-no_form c = λ e. c.in_err-name.ensures.none (ap (λ v. Err v) (passed_up c.from_residual.result _ _ c.from_residual.ensures.1 e))

pub returns-clause-only : goal.returns-clause-only
returns-clause-only c =
    let texts = map (λ s. string_bytes s) c.args.words.now in
    let matches = c.in_ok-name.matches in
    IfOk-weaker c.command_of.result _ _ (λ command asks other is.
    command_is_one texts other (asked command) is
    (is_asked texts c.in_ok-name.name.now (given (codes "operand") matches) (given (codes "workers") matches) _ _
    c.given-operands.ensures c.given-values.ensures c.in_ok-name.ensures.ok (asked command) asks)) c.command_of.ensures.ok

pub returns-clause-no_form : goal.returns-clause-no_form
returns-clause-no_form c = λ e.
    let matches = c.in_ok-name.matches in
    unasked (map (λ s. string_bytes s) c.args.words.now) c.in_ok-name.name.now (given (codes "operand") matches) (given (codes "workers") matches) _ _
    c.given-operands.ensures c.given-values.ensures c.in_ok-name.ensures.ok (c.command_of.ensures.none e)

pub returns-clause-refused : goal.returns-clause-refused
returns-clause-refused c = λ none.
    let texts = map (λ s. string_bytes s) c.args.words.now in
    let matches = c.in_ok-name.matches in
    no_value (λ command. IsCommand texts (asked command)) c.command_of.result
    (IfOk-weaker c.command_of.result _ _ (λ command asks.
    is_asked texts c.in_ok-name.name.now (given (codes "operand") matches) (given (codes "workers") matches) _ _
    c.given-operands.ensures c.given-values.ensures c.in_ok-name.ensures.ok (asked command) asks) c.command_of.ensures.ok)
    (λ command. none (asked command))
