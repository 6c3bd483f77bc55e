use Rattle.std.proofs.Common.{rules}
use Rattle.ix_subtrees.proofs.Found.{ordered, choices_found}
use Rattle.ix_subtrees.proofs.choices.choices_in.Goals as goal

pub slice_bounds-result-count : goal.slice_bounds-result-count
slice_bounds-result-count c =
    ordered c.args.entries.now c.args.choices.now c.lower-low.result c.upper-high.result c.args.span c.requires c.lower-low.ensures.within c.upper-high.ensures.within c.lower-low.ensures.point c.upper-high.ensures.point

pub slice_bounds-result-start : goal.slice_bounds-result-start
slice_bounds-result-start c =
    let rises =
    ordered c.args.entries.now c.args.choices.now c.lower-low.result c.upper-high.result c.args.span c.requires c.lower-low.ensures.within c.upper-high.ensures.within c.lower-low.ensures.point c.upper-high.ensures.point in
    search (rules, rises)

pub returns : goal.returns
returns c =
    choices_found c.args.entries.now c.args.choices.now c.lower-low.result c.upper-high.result c.args.span c.requires c.lower-low.ensures.within c.upper-high.ensures.within c.lower-low.ensures.point c.upper-high.ensures.point
