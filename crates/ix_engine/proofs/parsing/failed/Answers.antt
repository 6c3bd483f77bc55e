use Rattle.std.proofs.Common.{ap, length, List, ℕ, ◌∙◌, arith}
use Rattle.ix_model.specs.Answers.Places.{line_of, column_of}
use Rattle.ix_model.specs.Derivations.Derives.{IsDerivation}
use Rattle.ix_model.specs.Derivations.Trees.{Tree}
use Rattle.ix_engine.proofs.Answering.{text_short, answers_failed, none_useful, furthest_within}
use Rattle.ix_engine.proofs.parsing.failed.Goals as goal

pub place-place-requires-clause-within : goal.place-place-requires-clause-within
place-place-requires-clause-within c = omega (arith, furthest_within c.args.plan.now c.slot_count.ensures.planned c.args.closed.now.furthest c.requires.furthest, ap length c.text.ensures)

pub place-place-requires-clause-small : goal.place-place-requires-clause-small
place-place-requires-clause-small c =
    omega (
      arith,
      furthest_within c.args.plan.now c.slot_count.ensures.planned c.args.closed.now.furthest c.requires.furthest,
      text_short c.requires.plan_for.0 c.requires.plan_for.1 c.args.plan.now c.requires.plan_for.2,
    )

pub returns : goal.returns
returns c = λ g bytes is.
    let plan = c.args.plan.now in
    let offset = c.args.closed.now.furthest in
    let planned = c.slot_count.ensures.planned in
    let none : (d : Tree) → ¬ (IsDerivation g plan.text d) = λ d h.
    none_useful plan c.args.closed.now.set c.requires.set c.requires.none ((c.derived_is_useful.ensures g plan is.plan_of planned).0 (d, h)) in (
      answers_failed g bytes plan is offset c.place-place.result.line c.place-place.result.column none
          ((c.furthest_is_offset.ensures g plan offset is.plan_of planned).0 c.requires.furthest)
          (c.place-place.ensures.line ∙ ap (λ (s : List ℕ). line_of s offset) c.text.ensures)
          (c.place-place.ensures.column ∙ ap (λ (s : List ℕ). column_of s offset) c.text.ensures),
      plan,
      record { plan_of = is.plan_of; planned = planned; text = is.text; counts_of = c.requires.counts },
    )
