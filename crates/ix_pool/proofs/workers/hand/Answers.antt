use Rattle.std.proofs.Common.{rules, ◌∙◌, ap, map, length, false}
use Rattle.ix_pool.specs.Hands.{is_own, misses_of}
use Rattle.ix_pool.proofs.Rows.{one_between, all_equal}
use Rattle.ix_pool.proofs.workers.hand.Goals as goal

pub returns : goal.returns
returns c = let own = c.args.own in let n = length c.args.stealers.now in let ys = c.add_stealers.new.decks.items in let zs = c.add_stealers-2.new.decks.items in let a = c.in_ok-add_stealers.ensures in let b = c.in_ok-add_stealers-2.ensures in record {
  number_of = c.of.ensures.own;
  ends = ap (map is_own) c.of.ensures.decks ∙ one_between is_own ys zs false own n (search rules) a.ends c.in_ok-push.ensures.items b.ends (search rules) (search rules) c.own.ensures.end;
  misses = ap (map misses_of) c.of.ensures.decks ∙ one_between misses_of ys zs 0 own n (search rules) a.misses c.in_ok-push.ensures.items b.misses (search rules) (search rules) c.own.ensures.misses ∙ all_equal 0 own n c.requires.own;
}
