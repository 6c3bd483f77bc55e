-- Worked examples of what the set lists.
use Rattle.std.specs.Prelude.{◌≢◌, ◌↔◌, ℕ, ◌^◌, ◌<◌, [], ◌∷◌, codes, AllPairs}
use Rattle.std.specs.List.{Contains}
use Rattle.ix_model.specs.declared.sub.Sub.{Sub}
use Rattle.ix_model.specs.Closure.Useful.{sub_at, Useful}
use Rattle.ix_examples.specs.SmallPlans.{only_a}
use Rattle.ix_subtrees.specs.Entries.{entry_for, AreInOrder, AreChoicesOf}
use Rattle.ix_subtrees.specs.Examples.{left_recursive_subs, left_recursive_useful, left_recursive_set}
use Rattle.ix_examples.specs.TestPlans.{left_recursive}
use Rattle.ix_subtrees.specs.Sets.{IsLastOf, AreWays, AreAlts, IsSetOf}
use Rattle.ix_subtrees.specs.TwoChoices.{HasTwoChoices, HasTwo}
use Rattle.ix_subtrees.specs.UsefulSubs.{AreUseful}
use Rattle.ix_closure_laws.specs.PartLists.{AreParts}

-- the closure of S: "a". on `a` has the subtree of the letter
abbrev pub PartsAreListed : Type 0
PartsAreListed = AreParts (only_a (codes "a")) (sub_at 1 0 0 1 ∷ [])

-- so the empty list does not have its subtrees
abbrev pub PartIsLeftOut : Type 0
PartIsLeftOut = AreParts (only_a (codes "a")) [] → ⊥

-- the closure of S: S, "a"; . on n times `a` has the subtrees of the list
abbrev pub LeftRecursiveIsListed : Type 0
LeftRecursiveIsListed = (n : ℕ) → n < 2 ^ 32 → AreParts (left_recursive n) (left_recursive_subs n)

-- which has each of them once
abbrev pub LeftRecursiveIsListedOnce : Type 0
LeftRecursiveIsListedOnce = (n : ℕ) → AllPairs (λ x y. x ≢ y) (left_recursive_subs n)

-- all of them are useful but the S up to the end of the text, behind which no letter follows
abbrev pub LeftRecursiveIsUseful : Type 0
LeftRecursiveIsUseful =
    (n : ℕ) → n < 2 ^ 32 → (sub : Sub) →
    Useful (left_recursive n) sub ↔ (Contains (left_recursive_subs n) sub × (sub ≢ sub_at 1 0 0 n))

-- so on one `a` three are useful
abbrev pub ThreeAreUseful : Type 0
ThreeAreUseful = AreUseful (left_recursive 1) left_recursive_useful

-- and not the whole closure
abbrev pub ClosureIsNotUseful : Type 0
ClosureIsNotUseful = AreUseful (left_recursive 1) (left_recursive_subs 1) → ⊥

-- their pivots are listed
abbrev pub WaysAreListed : Type 0
WaysAreListed = AreWays (left_recursive 1) left_recursive_set.ways

-- and not the pivot of the S up to the end of the text
abbrev pub UselessWayIsNotListed : Type 0
UselessWayIsNotListed = AreWays (left_recursive 1) (entry_for 1 0 1 0 ∷ left_recursive_set.ways) → ⊥

-- the slot behind the letter ends the first alternative
abbrev pub LastSlotEnds : Type 0
LastSlotEnds = IsLastOf (left_recursive 1) 2 0 0

-- and the slot before the letter does not
abbrev pub InnerSlotDoesNotEnd : Type 0
InnerSlotDoesNotEnd = IsLastOf (left_recursive 1) 1 0 0 → ⊥

-- both alternatives are listed, each over its span
abbrev pub AltsAreListed : Type 0
AltsAreListed = AreAlts (left_recursive 1) left_recursive_set.alts

-- so the empty one is not left out
abbrev pub EmptyAltIsNotLeftOut : Type 0
EmptyAltIsNotLeftOut = AreAlts (left_recursive 1) (entry_for 0 0 1 0 ∷ []) → ⊥

-- together they are the plan's set
abbrev pub ListsAreTheSet : Type 0
ListsAreTheSet = IsSetOf (left_recursive 1) left_recursive_set

-- and the pivots without the alternatives are not
abbrev pub WaysAreNotTheSet : Type 0
WaysAreNotTheSet = IsSetOf (left_recursive 1) (record { ways = left_recursive_set.ways; alts = [] }) → ⊥

-- of one span the lesser pivot comes first
abbrev pub PivotsAreInOrder : Type 0
PivotsAreInOrder = AreInOrder (entry_for 1 0 1 0 ∷ entry_for 1 0 1 1 ∷ [])

-- an entry that stands twice is not in order
abbrev pub TwiceIsNotInOrder : Type 0
TwiceIsNotInOrder = AreInOrder (entry_for 1 0 1 0 ∷ entry_for 1 0 1 0 ∷ []) → ⊥

-- a span has the choice of its entry
abbrev pub ChoiceIsFound : Type 0
ChoiceIsFound = AreChoicesOf (entry_for 1 0 1 0 ∷ []) 1 0 1 (0 ∷ [])

-- so it does not have none
abbrev pub ChoiceIsNotMissed : Type 0
ChoiceIsNotMissed = AreChoicesOf (entry_for 1 0 1 0 ∷ []) 1 0 1 [] → ⊥

-- one span has two choices
abbrev pub TwoChoicesOfOneSpan : Type 0
TwoChoicesOfOneSpan = HasTwoChoices (entry_for 0 0 1 0 ∷ entry_for 0 0 1 1 ∷ []) 0 0 1

-- two spans have one each
abbrev pub OneChoiceOfEachSpan : Type 0
OneChoiceOfEachSpan = HasTwoChoices (entry_for 0 0 1 0 ∷ entry_for 0 0 2 1 ∷ []) 0 0 1 → ⊥

-- so the first list has two choices somewhere
abbrev pub SomeSpanHasTwo : Type 0
SomeSpanHasTwo = HasTwo (entry_for 0 0 1 0 ∷ entry_for 0 0 1 1 ∷ [])

-- and the second nowhere
abbrev pub NoSpanHasTwo : Type 0
NoSpanHasTwo = HasTwo (entry_for 0 0 1 0 ∷ entry_for 0 0 2 1 ∷ []) → ⊥
