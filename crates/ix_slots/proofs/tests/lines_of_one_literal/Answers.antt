use Rattle.std.proofs.Common.{ap₂, ◌∙◌, ◌∷◌, [], ◌++◌, List}
use Rattle.std.proofs.lemmas.List.{replicate-append-replicate}
use Rattle.ix_model.specs.declared.rules.Line.{Line}
use Rattle.ix_model.specs.declared.rules.Sym.{Sym}
use Rattle.ix_model.specs.Expansion.Expanded.{line}
use Rattle.ix_examples.specs.SmallRules.{shown}
use Rattle.ix_slots.proofs.tests.lines_of_one_literal.Goals as goal

pub loop-made-preserved : goal.loop-made-preserved
loop-made-preserved c =
    c.in_ok-push.ensures.ok
    ∙ ap₂ (λ (made : List Line) (syms : List Sym). made ++ line syms ∷ []) c.loop-made.invariant c.in_ok-from_slice.ensures
    ∙ replicate-append-replicate c.loop-made._made 1 (line (shown 0 ∷ []))
