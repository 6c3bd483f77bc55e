use Rattle.std.proofs.Common.{take}
use Rattle.ix_errors.specs.Mentions.{AddsMembers}
use Rattle.ix_errors.proofs.mentions.add_members.Given as goal

abbrev pub invariant-loop-member : goal.invariant-loop-member
invariant-loop-member l = AddsMembers l.initial.mentions.items l.mentions.items (take l.member-index l.members)
