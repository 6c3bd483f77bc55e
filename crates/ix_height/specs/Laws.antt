-- Worked examples of spans, their ways and their heights.
use Rattle.std.specs.Prelude.{◌≡◌, false, [], ◌∷◌, Some, None}
use Rattle.ix_height.specs.Spans.{of_slot, of_rule, IsOfUse}
use Rattle.ix_height.specs.Heights.{IsLeastOf, HasHeight, IsAnswer}
use Rattle.ix_height.specs.HeightLists.{found}
use Rattle.ix_height.specs.Ways.{Way}
use Rattle.ix_height.specs.Graph.{At, IsGraph}
use Rattle.ix_height.specs.Low.{Low, AreLeast}
use Rattle.ix_height.specs.Examples.{edge, by_letter, letter_spans, letter_edges, letter_raised, letter_heights, by_cycle, cycle_edges, cycle_raised}

-- ---- spans that are of use

-- the slot behind the letter, and the rule
abbrev pub SlotIsOfUse : Type 0
SlotIsOfUse = IsOfUse by_letter (of_slot 1 0 1)

abbrev pub RuleIsOfUse : Type 0
RuleIsOfUse = IsOfUse by_letter (of_rule 0 0 1)

-- not the slot before the letter, nor the rule over nothing
abbrev pub FirstSlotIsOfNoUse : Type 0
FirstSlotIsOfNoUse = IsOfUse by_letter (of_slot 0 0 0) → ⊥

abbrev pub ShortRuleIsOfNoUse : Type 0
ShortRuleIsOfNoUse = IsOfUse by_letter (of_rule 0 0 0) → ⊥

-- ---- ways

-- the letter alone, the rule by its slot, and S by S
abbrev pub LetterIsAWay : Type 0
LetterIsAWay = Way by_letter (of_slot 1 0 1) None None

abbrev pub WholeIsAWay : Type 0
WholeIsAWay = Way by_letter (of_rule 0 0 1) (Some (of_slot 1 0 1)) None

abbrev pub CallIsAWay : Type 0
CallIsAWay = Way by_cycle (of_slot 1 0 1) None (Some (of_rule 0 0 1))

-- a slot behind S is not derived without an S
abbrev pub CallNeedsItsRule : Type 0
CallNeedsItsRule = Way by_cycle (of_slot 1 0 1) None None → ⊥

-- ---- the graph

abbrev pub RuleHasItsNumber : Type 0
RuleHasItsNumber = At letter_spans 1 (of_rule 0 0 1)

abbrev pub SlotHasAnother : Type 0
SlotHasAnother = At letter_spans 1 (of_slot 1 0 1) → ⊥

-- a graph has an edge for each way, and the named rules are raised
abbrev pub LetterIsAGraph : Type 0
LetterIsAGraph = IsGraph by_letter letter_spans letter_edges letter_raised

abbrev pub EdgeIsMissing : Type 0
EdgeIsMissing = IsGraph by_letter letter_spans (edge 0 None None ∷ []) letter_raised → ⊥

abbrev pub RuleIsNotRaised : Type 0
RuleIsNotRaised = IsGraph by_letter letter_spans letter_edges (false ∷ false ∷ []) → ⊥

-- ---- heights by the graph

-- S by the letter, and by one S more
abbrev pub OnceIsLow : Type 0
OnceIsLow = Low cycle_edges cycle_raised 2 1

abbrev pub AroundIsLow : Type 0
AroundIsLow = Low cycle_edges cycle_raised 2 2

abbrev pub RuleIsNotLower : Type 0
RuleIsNotLower = Low cycle_edges cycle_raised 2 0 → ⊥

-- the least of each
abbrev pub OnceIsLeast : Type 0
OnceIsLeast = AreLeast cycle_edges cycle_raised (Some 1 ∷ Some 0 ∷ Some 1 ∷ [])

abbrev pub AroundIsNotLeast : Type 0
AroundIsNotLeast = AreLeast cycle_edges cycle_raised (Some 1 ∷ Some 0 ∷ Some 2 ∷ []) → ⊥

abbrev pub LeastIsNotLeftOut : Type 0
LeastIsNotLeftOut = AreLeast cycle_edges cycle_raised (None ∷ Some 0 ∷ Some 1 ∷ []) → ⊥

-- ---- heights by the trees

abbrev pub OnceHasOne : Type 0
OnceHasOne = HasHeight by_cycle (of_rule 0 0 1) 1

abbrev pub AroundHasTwo : Type 0
AroundHasTwo = HasHeight by_cycle (of_rule 0 0 1) 2

abbrev pub SlotHasNone : Type 0
SlotHasNone = HasHeight by_cycle (of_slot 3 0 1) 0

abbrev pub RuleHasMore : Type 0
RuleHasMore = HasHeight by_cycle (of_rule 0 0 1) 0 → ⊥

abbrev pub OneIsTheLeast : Type 0
OneIsTheLeast = IsLeastOf (HasHeight by_cycle (of_rule 0 0 1)) 1

abbrev pub TwoIsNotTheLeast : Type 0
TwoIsNotTheLeast = IsLeastOf (HasHeight by_cycle (of_rule 0 0 1)) 2 → ⊥

abbrev pub ZeroIsNoHeight : Type 0
ZeroIsNoHeight = IsLeastOf (HasHeight by_cycle (of_rule 0 0 1)) 0 → ⊥

-- ---- answers

abbrev pub RuleIsAnswered : Type 0
RuleIsAnswered = IsAnswer by_letter (of_rule 0 0 1) (Some 1)

abbrev pub NoUseIsNoAnswer : Type 0
NoUseIsNoAnswer = IsAnswer by_letter (of_rule 0 0 0) None

abbrev pub AnswerIsNotLeftOut : Type 0
AnswerIsNotLeftOut = IsAnswer by_letter (of_rule 0 0 1) None → ⊥

abbrev pub NoUseIsNotAnswered : Type 0
NoUseIsNotAnswered = IsAnswer by_letter (of_rule 0 0 0) (Some 0) → ⊥

-- what the lists have for the rule, and nothing for a slot of the same number
abbrev pub RuleIsFound : Type 0
RuleIsFound = found (letter_heights (Some 0) (Some 1)) (of_rule 0 0 1) ≡ Some 1

abbrev pub SlotIsNotFound : Type 0
SlotIsNotFound = found (letter_heights (Some 0) (Some 1)) (of_slot 0 0 1) ≡ None
