-- Facts, and the log that they are recorded in: a list of facts in the order in which they came. It is this project's own.
use Rattle.std.specs.Prelude.{Bool, false, ◌&&◌, ◌==◌, List, [], ◌∷◌, ◌++◌, if◌then◌else◌}
use Rattle.std.specs.List.{list_any}
use Rattle.ix_model.specs.declared.sub.Sub.{Sub}
use Rattle.ix_cluster.specs.declared.fact.Fact.{Fact}
use Rattle.ix_cluster.specs.declared.fact.Fact.TheVariants.{Called, Edge, End, Desc, Part, Claim}

-- whether two subtrees are the same
abbrev pub same_sub : Sub → Sub → Bool
same_sub a b = (a.slot == b.slot) && ((a.left == b.left) && ((a.pivot == b.pivot) && (a.right == b.right)))

-- whether two facts are the same
abbrev pub same_fact : Fact → Fact → Bool
same_fact (Called r k) (Called r' k') = (r == r') && (k == k')
same_fact (Edge r k s l) (Edge r' k' s' l') = (r == r') && ((k == k') && ((s == s') && (l == l')))
same_fact (End r k e) (End r' k' e') = (r == r') && ((k == k') && (e == e'))
same_fact (Desc s l p) (Desc s' l' p') = (s == s') && ((l == l') && (p == p'))
same_fact (Part a) (Part b) = same_sub a b
same_fact (Claim s l p) (Claim s' l' p') = (s == s') && ((l == l') && (p == p'))
same_fact _ _ = false

-- whether the log has the fact
abbrev pub has : List Fact → Fact → Bool
has log f = list_any (same_fact f) log

-- the log after the fact is recorded: a fact that is there already is not appended
abbrev pub put : List Fact → Fact → List Fact
put log f = if has log f then log else log ++ f ∷ []
