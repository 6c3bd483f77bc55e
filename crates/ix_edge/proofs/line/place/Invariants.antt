use Rattle.std.proofs.Common.{◌≡◌, ◌+◌, ◌≤◌, take}
use Rattle.ix_model.specs.Answers.Places.{line_after, column_after}
use Rattle.ix_edge.proofs.line.place.Given as goal

abbrev pub invariant-loop-c : goal.invariant-loop-c
invariant-loop-c l = record {
  line : l.line ≡ line_after (take l.c-index l.before);
  column : l.column ≡ column_after (take l.c-index l.before);
  line_small : l.line ≤ l.c-index + 1;
  column_small : l.column ≤ l.c-index + 1;
}
