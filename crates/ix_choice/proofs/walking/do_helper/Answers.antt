use Rattle.ix_choice.proofs.Doing.{helper_there, helper_does}
use Rattle.ix_choice.proofs.walking.do_helper.Goals as goal

pub alternative-slot-requires-clause-used : goal.alternative-slot-requires-clause-used
alternative-slot-requires-clause-used c = c.requires.can.2.2

pub alternative-slot-requires-clause-some : goal.alternative-slot-requires-clause-some
alternative-slot-requires-clause-some c = helper_there c.args.forest.now c.args.rule c.args.low c.args.high c.args.bound c.args.mark c.requires.can c.requires.helper

pub returns : goal.returns
returns c = λ steps. helper_does c.args.forest.now c.requires.planned c.requires.nested c.args.tasks.now.items c.push.new.self.items steps c.args.rule c.args.low c.args.high c.args.bound c.alternative-slot.result c.args.mark c.requires.helper c.alternative-slot.ensures c.in_ok-push.ensures.items
