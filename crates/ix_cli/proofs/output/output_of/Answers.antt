use Rattle.std.proofs.Common.{subst, sym, IfOk}
use Rattle.ix_engine.specs.declared.outcome.Outcome.TheVariants as outcome
use Rattle.ix_engine.specs.Parsed.{IsOutcome}
use Rattle.ix_cli.specs.Shown.{ShowsWanted}
use Rattle.ix_cli.proofs.Outputs.{document_shown, figures_answered}
use Rattle.ix_cli.proofs.output.output_of.Goals as goal

pub returns-in_ok-document_output-in-Document-clause-ok : goal.returns-in_ok-document_output-in-Document-clause-ok
returns-in_ok-document_output-in-Document-clause-ok c =
    let g = c.args.task.now.grammar in
    let text = c.args.task.now.text.items in
    let output = c.in_ok-document_output-in-Document.field-0 in
    let found : IsOutcome g text c.in_ok-plan.field-0 = subst (λ r. IfOk r (IsOutcome g text)) c.in_ok-plan.was c.requires.ok in
    let o : IsOutcome g text (outcome.Tree c.in-Tree.plan c.in-Tree.marked c.in-Tree.state c.in-Tree.counts) = subst (IsOutcome g text) c.in-Tree.is found in
    subst (λ wanted. ShowsWanted wanted g text output) (sym c.in-Document.is)
    (document_shown g text c.in-Tree.plan c.in-Tree.marked c.in-Tree.state c.in-Tree.counts o output c.in_ok-document_output-in-Document.ensures.status c.in_ok-document_output-in-Document.ensures.bytes)

pub returns-in-Figures-clause-ok : goal.returns-in-Figures-clause-ok
returns-in-Figures-clause-ok c =
    let g = c.args.task.now.grammar in
    let text = c.args.task.now.text.items in
    let found : IsOutcome g text c.in_ok-plan.field-0 = subst (λ r. IfOk r (IsOutcome g text)) c.in_ok-plan.was c.requires.ok in
    let o : IsOutcome g text (outcome.Tree c.in-Tree.plan c.in-Tree.marked c.in-Tree.state c.in-Tree.counts) = subst (IsOutcome g text) c.in-Tree.is found in
    subst (λ wanted. IfOk c.figures_output.result (ShowsWanted wanted g text)) (sym c.in-Figures.is)
    (figures_answered g text c.in-Tree.plan c.in-Tree.marked c.in-Tree.state c.in-Tree.counts o c.deref.result.now c.deref.ensures.value c.figures_output.result c.figures_output.ensures.status c.figures_output.ensures.bytes)
