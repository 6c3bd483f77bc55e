use Rattle.std.proofs.Common.{◌≡◌, length, arith}
use Rattle.ix_pool.proofs.Decks.{own_then_others}
use Rattle.ix_pool.proofs.hand.Hand.next.Goals as goal

pub returns-clause-asks : goal.returns-clause-asks
returns-clause-asks g c = let n = g.D.Deck.count in
    let xs = c.args.self.now.decks.items in let ys = c.ask.new.decks.items in let zs = c.ask_others.new.decks.items in
    let long : length ys ≡ length xs = (let a = c.ask.ensures.number in let b = c.args.self.now.decks.ok in let d = c.ask.new.decks.ok in omega arith) in
    own_then_others n c.args.self.now.own c.ask_others.result xs ys zs long c.ask.ensures.others c.in_default.ensures.asked c.ask_others.ensures.own c.ask_others.ensures.asks
