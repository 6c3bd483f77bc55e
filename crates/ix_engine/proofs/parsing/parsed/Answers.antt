use Rattle.std.proofs.Common.{Option, refl, subst}
use Rattle.std.specs.Prelude.{MatchOption}
use Rattle.ix_model.specs.Documents.Dyn.{Dyn, HasNoRefusal}
use Rattle.ix_model.specs.Documents.Gives.{Givens, gives_root}
use Rattle.ix_engine.specs.declared.outcome.DynFault.{DynFault}
use Rattle.ix_engine.specs.Answers.{code_of}
use Rattle.ix_engine.proofs.Answering.{answers_refused, answers_document}
use Rattle.ix_engine.proofs.parsing.parsed.Goals as goal

-- what is said of a fault or of none
abbrev IsFaultOf : Givens → Option DynFault → Type 0
IsFaultOf gs o = MatchOption o (HasNoRefusal gs) (λ f. Dyn gs (code_of f))

pub refused-requires-clause-distinct : goal.refused-requires-clause-distinct
refused-requires-clause-distinct c =
    let g = c.requires.plan_for.0 in
    let of = c.requires.plan_for.2.plan_of in
    c.names_are_distinct.ensures g c.args.plan.rules of.unique of.expanded

pub returns-in-Some-clause-err : goal.returns-in-Some-clause-err
returns-in-Some-clause-err c = λ g bytes is.
    let first = c.in_ok-marked.ensures.first g is.plan_of in
    let gs = gives_root c.args.plan.text g first.0 in
    let dyn : Dyn gs (code_of c.in-Some.fault) = subst (IsFaultOf gs) c.in-Some.is (c.in_ok-fault.ensures gs first.2) in
    answers_refused g bytes c.args.plan is (code_of c.in-Some.fault) first.0 first.1 dyn

pub returns-clause-ok : goal.returns-clause-ok
returns-clause-ok c = λ g bytes is.
    let first = c.in_ok-marked.ensures.first g is.plan_of in
    let gs = gives_root c.args.plan.text g first.0 in
    let none : HasNoRefusal gs = subst (IsFaultOf gs) c.in_default.is (c.in_ok-fault.ensures gs first.2) in (
      gs,
      answers_document g bytes c.args.plan is gs c.state_of-state.result first.0 first.1 refl none (c.state_of-state.ensures g is.plan_of),
      first.2,
      c.in_ok-marked.ensures.there,
      record { plan_of = is.plan_of; planned = c.slot_count.ensures.planned; text = is.text; counts_of = c.requires.counts },
    )
