use Rattle.std.proofs.Common.{Contains}
use Rattle.ix_closure.proofs.Due.DueClosed.{due_closed}
use Rattle.ix_closure.proofs.laws.what_follows_is_in_the_closure.Goals as goal

pub returns : goal.returns
returns c = λ plan facts closed step due. due_closed plan (Contains facts) closed step due
