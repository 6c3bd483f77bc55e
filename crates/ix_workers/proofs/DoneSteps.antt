-- Steps that are done, one after another.
use Rattle.std.proofs.Common.{List}
use Rattle.ix_model.specs.Expansion.Parts.{Parts}
use Rattle.ix_closure.specs.declared.owed.Owed.{Owed}
use Rattle.ix_table.specs.Sights.{Sight}
use Rattle.ix_settled_laws.specs.Done.{IsDone, Works, begins, goes_on}
use Rattle.ix_settled_laws.specs.Taking.{TakesOut}

pub one_step : (plan : Parts) (old : Sight) (owed : List Owed) (step : Owed) (rest : List Owed) (new : Sight) (owed' : List Owed) → TakesOut owed step rest → IsDone plan old step rest new owed' → Works plan old owed new owed'
one_step plan old owed step rest new owed' taken done = goes_on old owed step rest new owed' begins taken done

-- what was done goes on with what is done behind it
pub works_on : (plan : Parts) (a b : Sight) (xs ys : List Owed) → Works plan a xs b ys → (c : Sight) (zs : List Owed) → Works plan b ys c zs → Works plan a xs c zs
works_on plan a b xs ys first c zs begins = first
works_on plan a b xs ys first c zs (goes_on old owed step rest new owed' before taken done) = goes_on old owed step rest new owed' (works_on plan a b xs ys first old owed before) taken done
