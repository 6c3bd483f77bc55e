use Rattle.std.proofs.Common.{sym, subst, Option}
use Rattle.std.specs.Prelude.{IfSome, MatchOption}
use Rattle.ix_model.specs.Documents.Dyn.{Dyn, HasNoRefusal}
use Rattle.ix_dyn.specs.declared.refusal.DynRefusal.{DynRefusal}
use Rattle.ix_dyn.specs.Refusals.{refusal_of, IsNameIn}
use Rattle.ix_dyn.proofs.LeastCode.{least_is_least, least_is_named}
use Rattle.ix_dyn.proofs.least.dynamic.Goals as goal

pub returns-clause-refusal : goal.returns-clause-refusal
returns-clause-refusal c = λ gs s.
    let names = c.args.plan.now.rules.names in
    subst (λ (r : Option DynRefusal). MatchOption r (HasNoRefusal gs) (λ code. Dyn gs (refusal_of names code))) (sym c.least.ensures) (least_is_least names c.args.marked.now gs c.requires.there s c.requires.distinct)

pub returns-clause-named : goal.returns-clause-named
returns-clause-named c =
    let names = c.args.plan.now.rules.names in
    subst (λ (r : Option DynRefusal). IfSome r (IsNameIn names)) (sym c.least.ensures) (least_is_named names c.args.marked.now c.requires.there)
