-- The subtrees of a closure that grows with the text, those that are useful, and the set of them.
use Rattle.std.specs.Prelude.{ℕ, zero, suc, ◌+◌, List, [], ◌∷◌, ◌++◌}
use Rattle.ix_model.specs.declared.sub.Sub.{Sub}
use Rattle.ix_model.specs.Closure.Useful.{sub_at}
use Rattle.ix_subtrees.specs.Entries.{entry_for}
use Rattle.ix_subtrees.specs.Sets.{SetLists}

-- the subtrees of the closure of S: S, "a"; . on n times `a`: the empty alternative, S up to each position, and each letter behind the S up to it
abbrev pub left_recursive_subs : ℕ → List Sub
left_recursive_subs zero = sub_at 3 0 0 0 ∷ sub_at 1 0 0 0 ∷ []
left_recursive_subs (suc n) = left_recursive_subs n ++ sub_at 2 0 n (n + 1) ∷ sub_at 1 0 0 (n + 1) ∷ []

-- on one `a` the useful ones: the empty alternative, S up to the letter, and the letter behind it
abbrev pub left_recursive_useful : List Sub
left_recursive_useful = sub_at 3 0 0 0 ∷ sub_at 1 0 0 0 ∷ sub_at 2 0 0 1 ∷ []

-- and the set of them: the pivot 0 of each, and S by its second alternative over nothing and by its first over the `a`
abbrev pub left_recursive_set : SetLists
left_recursive_set = record {
  ways = entry_for 1 0 0 0 ∷ entry_for 2 0 1 0 ∷ entry_for 3 0 0 0 ∷ [];
  alts = entry_for 0 0 0 1 ∷ entry_for 0 0 1 0 ∷ [];
}
