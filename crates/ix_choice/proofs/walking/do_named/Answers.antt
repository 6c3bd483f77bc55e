use Rattle.std.proofs.Common.{◌∙◌, ap, unwrap_or}
use Rattle.ix_choice.proofs.Doing.{named_tree, named_does}
use Rattle.ix_choice.proofs.SlotFacts.{rule_there}
use Rattle.ix_choice.proofs.walking.do_named.Goals as goal

pub overflow_sub-lowered : goal.overflow_sub-lowered
overflow_sub-lowered c = (named_tree c.args.forest.now c.args.rule c.args.low c.args.high c.rule_height-lowered.result c.requires.named c.rule_height-lowered.ensures).0

pub alternative-slot-requires-clause-some : goal.alternative-slot-requires-clause-some
alternative-slot-requires-clause-some c = (named_tree c.args.forest.now c.args.rule c.args.low c.args.high c.rule_height-lowered.result c.requires.named c.rule_height-lowered.ensures).1

pub mark-requires-clause-rule : goal.mark-requires-clause-rule
mark-requires-clause-rule c = rule_there c.args.forest.now c.args.rule c.args.low c.args.high c.requires.can.1.2.2

pub returns : goal.returns
returns c =
    named_does c.args.forest.now c.requires.planned c.requires.nested c.args.tasks.now.items c.extend_from_slice.new.self.items c.args.steps.now.items c.push.new.self.items c.args.rule c.args.low c.args.high c.rule_height-lowered.result c.alternative-slot.result c.args.mark c.unwrap_or-mark.result
    c.requires.named c.rule_height-lowered.ensures c.alternative-slot.ensures (c.unwrap_or-mark.ensures ∙ ap (unwrap_or c.args.mark) c.mark.ensures) c.in_ok-push.ensures.items c.in_ok-extend_from_slice.ensures.items
