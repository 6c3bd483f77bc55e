use Rattle.std.proofs.Common.{◌∙◌, subst, List, ℕ, IfSome, IfNone, ◌≢◌, Some, slice_get}
use Rattle.ix_model.specs.Grammars.Names.{IsFirstName}
use Rattle.ix_model.proofs.FirstNames.{some_first, none_first}
use Rattle.ix_model.proofs.names.Names.first.Goals as goal

pub returns-clause-some : goal.returns-clause-some
returns-clause-some c =
    subst (λ (names : List (List ℕ)). IfSome c.copied.result (λ r. IsFirstName names c.args.name.now r)) c.self.view_is
    (some_first c.self.inside.numbers _ c.args.name.now c.copied.result c.self.invariant (c.copied.ensures ∙ c.get.ensures.value))

pub returns-clause-none : goal.returns-clause-none
returns-clause-none c =
    subst (λ (names : List (List ℕ)). IfNone c.copied.result ((r : ℕ) → slice_get names r ≢ Some c.args.name.now)) c.self.view_is
    (none_first c.self.inside.numbers _ c.args.name.now c.copied.result c.self.invariant (c.copied.ensures ∙ c.get.ensures.value))
