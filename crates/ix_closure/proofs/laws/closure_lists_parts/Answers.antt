use Rattle.ix_closure.proofs.Closing.ListedParts.{lists_parts}
use Rattle.ix_closure.proofs.laws.closure_lists_parts.Goals as goal

pub returns : goal.returns
returns c = lists_parts
