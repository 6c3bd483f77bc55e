use Rattle.std.proofs.Common.{◌≡◌, take}
use Rattle.ix_marks.specs.Building.{IsBuilt}
use Rattle.ix_marks.specs.Levels.{beginning, after_all}
use Rattle.ix_marks.specs.Shown.{shown_by_all}
use Rattle.ix_marks.proofs.marking.marked.Given as goal

abbrev pub invariant-loop-step : goal.invariant-loop-step
invariant-loop-step l = record {
  built : IsBuilt l.plan.rules.names l.building (after_all l.plan.rules l.plan.text beginning (take l.step-index l.steps));
  chars : l.building.chars.items ≡ shown_by_all l.plan.rules l.plan.text (take l.step-index l.steps);
}
