-- Worked examples of the trees before a slot's dot, and of the choices between them.
use Rattle.std.specs.Prelude.{◌≡◌, ℕ, [], ◌∷◌}
use Rattle.ix_model.specs.declared.rules.Sym.TheVariants as sym
use Rattle.ix_model.specs.Expansion.FlatTrees.{no_flat}
use Rattle.ix_examples.specs.SmallPlans.{alone, call, literal, pair}
use Rattle.ix_choice.specs.Examples.{halves, by_cycle, by_insertion, no_derivation, full, empty}
use Rattle.ix_choice.specs.SlotTrees.{slot_syms, AreBefore, HasHeightBefore, HasSymHeight, AreBeforeWithin, AreBestBefore, MayStart, IsLeastStart, EndsLeastAlt, IsSymOfUse, IsSlotOfUse}

-- ---- symbols of a slot

-- all of its alternative, wherever the dot is
abbrev pub SlotHasTwoSymbols : Type 0
SlotHasTwoSymbols = slot_syms halves 1 ≡ call 1 ∷ call 1 ∷ []

abbrev pub LaterSlotHasOneSymbol : Type 0
LaterSlotHasOneSymbol = slot_syms halves 4 ≡ literal 0 ∷ []

abbrev pub EmptySlotHasNoSymbol : Type 0
EmptySlotHasNoSymbol = slot_syms halves 5 ≡ []

-- ---- trees before the dot

abbrev pub NoneIsBefore : Type 0
NoneIsBefore = AreBefore halves 0 1 1 no_flat

abbrev pub OneIsBefore : Type 0
OneIsBefore = AreBefore halves 1 0 1 (alone full)

abbrev pub TwoAreBefore : Type 0
TwoAreBefore = AreBefore halves 2 0 1 (pair empty full)

-- not more than stand before the dot, nor over another span
abbrev pub TwoAreTooMany : Type 0
TwoAreTooMany = AreBefore halves 1 0 1 (pair empty full) → ⊥

abbrev pub OneHasItsSpan : Type 0
OneHasItsSpan = AreBefore halves 1 0 0 (alone full) → ⊥

-- ---- heights before the dot

abbrev pub NoneIsFlat : Type 0
NoneIsFlat = HasHeightBefore halves 0 0 0 0

abbrev pub OneIsOneHigh : Type 0
OneIsOneHigh = HasHeightBefore halves 1 0 1 1

-- not lower, nor higher
abbrev pub OneIsNotFlat : Type 0
OneIsNotFlat = HasHeightBefore halves 1 0 1 0 → ⊥

abbrev pub OneIsNotTwoHigh : Type 0
OneIsNotTwoHigh = HasHeightBefore halves 1 0 1 2 → ⊥

-- ---- heights of symbols

abbrev pub RuleIsOneHigh : Type 0
RuleIsOneHigh = HasSymHeight halves (call 1) 0 1 1

abbrev pub LiteralIsFlat : Type 0
LiteralIsFlat = HasSymHeight halves (literal 0) 0 1 0

abbrev pub InsertionIsFlat : Type 0
InsertionIsFlat = HasSymHeight by_insertion (sym.Insert 0) 0 0 0

-- not lower, nor higher, nor over a span without a tree
abbrev pub RuleIsNotFlat : Type 0
RuleIsNotFlat = HasSymHeight halves (call 1) 0 1 0 → ⊥

abbrev pub RuleIsNotTwoHigh : Type 0
RuleIsNotTwoHigh = HasSymHeight halves (call 1) 0 1 2 → ⊥

abbrev pub LiteralIsNotEmpty : Type 0
LiteralIsNotEmpty = HasSymHeight halves (literal 0) 0 0 0 → ⊥

-- ---- trees within a bound

abbrev pub TwoAreWithinOne : Type 0
TwoAreWithinOne = AreBeforeWithin halves 1 2 0 1 (pair empty full)

-- not within a lower one, nor fewer than stand before the dot
abbrev pub TwoAreNotWithinZero : Type 0
TwoAreNotWithinZero = AreBeforeWithin halves 0 2 0 1 (pair empty full) → ⊥

abbrev pub OneIsTooFew : Type 0
OneIsTooFew = AreBeforeWithin halves 1 2 0 1 (alone full) → ⊥

-- ---- the first of them

-- the last tree starts sooner
abbrev pub SoonerIsFirst : Type 0
SoonerIsFirst = AreBestBefore halves 1 2 0 1 (pair empty full)

abbrev pub LaterIsNotFirst : Type 0
LaterIsNotFirst = AreBestBefore halves 1 2 0 1 (pair full empty) → ⊥

abbrev pub NoneIsFirstWithinZero : Type 0
NoneIsFirstWithinZero = AreBestBefore halves 0 2 0 1 (pair empty full) → ⊥

-- ---- starts

-- behind an empty half, behind a full one, and with nothing before
abbrev pub MayStartSooner : Type 0
MayStartSooner = MayStart halves 1 1 (call 1) 0 1 0

abbrev pub MayStartLater : Type 0
MayStartLater = MayStart halves 1 1 (call 1) 0 1 1

abbrev pub LiteralMayStart : Type 0
LiteralMayStart = MayStart halves 0 0 (literal 0) 0 1 0

-- not where the symbols before it have no trees, nor where it has none itself
abbrev pub NothingLeadsToIt : Type 0
NothingLeadsToIt = MayStart halves 1 1 (call 1) 1 1 0 → ⊥

abbrev pub NothingComesOfIt : Type 0
NothingComesOfIt = MayStart halves 1 1 (call 1) 0 0 1 → ⊥

-- the bound is that of the trees before it, and of its own
abbrev pub TooHighBefore : Type 0
TooHighBefore = MayStart halves 0 1 (literal 0) 0 1 0 → ⊥

abbrev pub TooHighItself : Type 0
TooHighItself = MayStart halves 0 0 (call 1) 0 1 0 → ⊥

-- ---- the least start

abbrev pub SoonerIsLeast : Type 0
SoonerIsLeast = IsLeastStart halves 1 1 (call 1) 0 1 0

-- with nothing before it
abbrev pub OnlyIsLeast : Type 0
OnlyIsLeast = IsLeastStart by_cycle 1 0 (call 0) 0 1 0

abbrev pub LaterIsNotLeast : Type 0
LaterIsNotLeast = IsLeastStart halves 1 1 (call 1) 0 1 1 → ⊥

abbrev pub NoneIsLeastWithinZero : Type 0
NoneIsLeastWithinZero = (k : ℕ) → IsLeastStart halves 0 1 (call 1) 0 1 k → ⊥

-- ---- the end of the first alternative

-- the bound decides which one is the first
abbrev pub LiteralEndsWithinZero : Type 0
LiteralEndsWithinZero = EndsLeastAlt by_cycle 0 0 0 1 3

abbrev pub CallEndsWithinOne : Type 0
CallEndsWithinOne = EndsLeastAlt by_cycle 1 0 0 1 1

abbrev pub LaterRuleHasItsEnd : Type 0
LaterRuleHasItsEnd = EndsLeastAlt halves 0 1 0 1 4

abbrev pub CallIsTooHigh : Type 0
CallIsTooHigh = EndsLeastAlt by_cycle 0 0 0 1 1 → ⊥

abbrev pub LiteralIsNotFirst : Type 0
LiteralIsNotFirst = EndsLeastAlt by_cycle 1 0 0 1 3 → ⊥

-- the slot is no beginning
abbrev pub BeginningIsNoEnd : Type 0
BeginningIsNoEnd = EndsLeastAlt by_cycle 0 0 0 1 2 → ⊥

-- ---- use

-- a rule needs a useful subtree, and nothing else does
abbrev pub RuleIsOfUse : Type 0
RuleIsOfUse = IsSymOfUse halves (call 0) 0 1

abbrev pub LiteralIsOfUse : Type 0
LiteralIsOfUse = IsSymOfUse no_derivation (literal 0) 0 1

abbrev pub InsertionIsOfUse : Type 0
InsertionIsOfUse = IsSymOfUse no_derivation (sym.Insert 0) 0 1

abbrev pub RuleIsOfNoUse : Type 0
RuleIsOfNoUse = IsSymOfUse no_derivation (call 0) 0 1 → ⊥

-- so does a slot with a symbol before its dot
abbrev pub SlotIsOfUse : Type 0
SlotIsOfUse = IsSlotOfUse halves 2 0 1

abbrev pub BeginningIsOfUse : Type 0
BeginningIsOfUse = IsSlotOfUse no_derivation 0 0 1

abbrev pub SlotIsOfNoUse : Type 0
SlotIsOfNoUse = IsSlotOfUse no_derivation 1 0 1 → ⊥

-- a slot past the last is of none
abbrev pub NoSlotIsOfNoUse : Type 0
NoSlotIsOfNoUse = IsSlotOfUse no_derivation 2 0 0 → ⊥
