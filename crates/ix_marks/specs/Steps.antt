-- What the steps of a walk name is there.
use Rattle.std.specs.Prelude.{◌<◌, ◌≤◌, List, length}
use Rattle.std.specs.List.{AllByRecursion}
use Rattle.ix_model.specs.declared.step.Step.{Step}
use Rattle.ix_model.specs.declared.step.Step.TheVariants as step
use Rattle.ix_model.specs.Expansion.Parts.{Parts}

-- the name is one of the rules', the characters are the text's, the insertion is one of the rules'
abbrev pub IsStepIn : Parts → Step → Type 0
IsStepIn p (step.Enter name mark) = name < length p.rules.names
IsStepIn p step.Leave = Unit {0}
IsStepIn p (step.Text low high shown) = (low ≤ high) × (high ≤ length p.text)
IsStepIn p (step.Insert insert) = insert < length p.rules.inserts

-- so it is with each step
abbrev pub AreStepsIn : Parts → List Step → Type 0
AreStepsIn p steps = AllByRecursion (IsStepIn p) steps
