use Rattle.std.proofs.Common.{◌≡◌, ◌+◌, ◌∙◌, ℕ, List, [], ◌∷◌, ◌++◌, take, get_or, ap, sym, subst, append-nil, arith}
use Rattle.std.proofs.lemmas.List.{take_more, take_all}
use Rattle.std.proofs.lemmas.List.Concat.{flat_map-append}
use Rattle.ix_model.specs.declared.grammar.Mark.TheVariants.{Element}
use Rattle.ix_model.specs.declared.step.Step.{Step}
use Rattle.ix_model.specs.declared.step.Step.TheVariants as step
use Rattle.ix_model.specs.Documents.Gives.{gives_all}
use Rattle.ix_marks.specs.Building.{IsBuilt, lists_of}
use Rattle.ix_marks.specs.Counted.{AreCounted}
use Rattle.ix_marks.specs.InRange.{AreIn}
use Rattle.ix_marks.specs.Levels.{outside, beginning, after_all}
use Rattle.ix_marks.specs.MarkedLists.{MarkedLists}
use Rattle.ix_marks.specs.Pieces.{Piece, attributes, pieces}
use Rattle.ix_marks.specs.Shown.{characters_of, shown_by_all}
use Rattle.ix_marks.specs.Standing.{IsMade}
use Rattle.ix_marks.proofs.Applied.{pieces_after, run_after, settled, all_apart, after_append, outside_walks}
use Rattle.ix_marks.proofs.ShownByWalks.{walks_show}
use Rattle.ix_marks.proofs.marking.marked.Goals as goal

pub loop-step-init : goal.loop-step-init
loop-step-init c = record { built = c.new-building.ensures.built c.args.plan.now.rules.names; chars = c.new-building.ensures.chars }

pub loop-step-preserved : goal.loop-step-preserved
loop-step-preserved c =
    let plan = c.args.plan.now in
    let i = c.loop-step.step-index in
    let steps = c.args.steps.now in
    let x : Step = get_or steps i (step.Enter 0 Element) in
    let e : take (i + 1) steps ≡ take i steps ++ x ∷ [] = take_more steps i (step.Enter 0 Element) (omega arith) in
    let r = c.in_ok-step.ensures.built (after_all plan.rules plan.text beginning (take i steps)) c.loop-step.invariant.built in
    let shown : shown_by_all plan.rules plan.text (take i steps ++ x ∷ []) ≡ shown_by_all plan.rules plan.text (take i steps) ++ characters_of plan.rules plan.text x =
    flat_map-append (characters_of plan.rules plan.text) (take i steps) (x ∷ []) ∙ ap (λ (zs : List ℕ). shown_by_all plan.rules plan.text (take i steps) ++ zs) (append-nil (characters_of plan.rules plan.text x)) in
    record {
      built = rw (e, after_append plan.rules plan.text beginning (take i steps) (x ∷ [])) r;
      chars = c.in_ok-step.ensures.chars ∙ ap (λ (zs : List ℕ). zs ++ characters_of plan.rules plan.text x) c.loop-step.invariant.chars ∙ sym shown ∙ ap (shown_by_all plan.rules plan.text) (sym e);
    }

pub returns-clause-there : goal.returns-clause-there
returns-clause-there c =
    let plan = c.args.plan.now in
    subst (AreIn plan.rules.names) (sym c.of.ensures) (c.in_ok-end.ensures.there plan.rules.names (after_all plan.rules plan.text beginning (take c.loop-step.step-index c.args.steps.now)) c.loop-step.invariant.built)

pub returns-clause-gives : goal.returns-clause-gives
returns-clause-gives c = λ bs h.
    let plan = c.args.plan.now in
    let steps = c.args.steps.now in
    let gs = gives_all plan.text bs in
    let whole : take c.loop-step.step-index steps ≡ steps = take_all c.loop-step.step-index steps (omega arith) in
    let walked : after_all plan.rules plan.text beginning (take c.loop-step.step-index steps) ≡ outside [] (pieces_after gs [] []) (run_after gs []) (attributes gs) =
    ap (after_all plan.rules plan.text beginning) whole ∙ outside_walks plan.rules plan.text bs steps h [] [] [] [] in
    let built = subst (IsBuilt plan.rules.names c.loop-step.building) walked c.loop-step.invariant.built in
    let made = c.in_ok-end.ensures.whole plan.rules.names (pieces_after gs [] []) (run_after gs []) (attributes gs) built in
    let said = subst (λ (ps : List Piece). IsMade plan.rules.names (lists_of c.end.new.self) ps (attributes gs)) (settled gs [] (all_apart plan.text bs)) made in
    subst (λ (m : MarkedLists). IsMade plan.rules.names m (pieces gs) (attributes gs)) (sym c.of.ensures) said

pub returns-clause-chars : goal.returns-clause-chars
returns-clause-chars c = λ bs h.
    let plan = c.args.plan.now in
    let steps = c.args.steps.now in
    let whole : take c.loop-step.step-index steps ≡ steps = take_all c.loop-step.step-index steps (omega arith) in
    ap (λ (m : MarkedLists). m.chars) c.of.ensures
    ∙ c.in_ok-end.ensures.chars
    ∙ c.loop-step.invariant.chars
    ∙ ap (shown_by_all plan.rules plan.text) whole
    ∙ walks_show plan.rules plan.text bs steps h

pub returns-clause-once : goal.returns-clause-once
returns-clause-once c =
    let plan = c.args.plan.now in
    subst AreCounted (sym c.of.ensures) (c.in_ok-end.ensures.once plan.rules.names (after_all plan.rules plan.text beginning (take c.loop-step.step-index c.args.steps.now)) c.loop-step.invariant.built)

pub first_repeat-requires-clause-ranges : goal.first_repeat-requires-clause-ranges
first_repeat-requires-clause-ranges c =
    let plan = c.args.plan.now in
    let there = c.in_ok-end.ensures.there plan.rules.names (after_all plan.rules plan.text beginning (take c.loop-step.step-index c.args.steps.now)) c.loop-step.invariant.built in
    (plan.rules.names, c.end.new.self.chars.items, rw (c.deref-2.ensures.value, c.deref.ensures.value) there.items_in)
