use Rattle.std.proofs.Common.{◌≡◌, map, ◌∙◌}
use Rattle.ix_sets.specs.CharRanges.{char_range}
use Rattle.ix_sets.proofs.Apart.{apart, held_in, in_held}
use Rattle.ix_sets.proofs.set.char_set.Goals as goal

pub of-requires : goal.of-requires
of-requires c =
    let class = c.args.class.now in
    rw c.in_ok-char_ranges.ensures (apart class.ranges.items class.canonical)

pub returns : goal.returns
returns c =
    let class = c.args.class.now in
    let e : c.of.result ≡ map char_range class.ranges.items = c.of.ensures ∙ c.in_ok-char_ranges.ensures in
    λ d. rw e (held_in d class.ranges.items, in_held d class.ranges.items)
