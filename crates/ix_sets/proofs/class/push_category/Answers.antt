use Rattle.unicode.specs.Sets.{in_set}
use Rattle.ix_sets.proofs.Categories.{gains_category}
use Rattle.ix_sets.proofs.class.push_category.Goals as goal

pub returns-in_ok-append : goal.returns-in_ok-append
unfolding in_set
returns-in_ok-append c =
    gains_category c.in_ok-more.more.items c.args.members.now c.args.category (cc) c.in_ok-append.ensures.items c.in_ok-more.ensures.members
