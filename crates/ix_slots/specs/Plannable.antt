-- What rules and a text become as a plan, and which can become one. It is this project's own.
use Rattle.std.specs.Prelude.{ℕ, List}
use Rattle.ix_model.specs.declared.rules.Rules.{Rules}
use Rattle.ix_model.specs.Expansion.Parts.{Parts}
use Rattle.ix_model.specs.Expansion.Numbering.{numbering}
use Rattle.ix_model.specs.Expansion.Planned.{IsPlanned}

-- the rules and the text, with the slots of the rules in the order of their numbers
abbrev pub planned : Rules → List ℕ → Parts
planned rules text = record { rules = rules; slots = numbering rules.flats; text = text }

-- with their slots the rules and the text are a plan
abbrev pub IsPlannable : Rules → List ℕ → Type 0
IsPlannable rules text = IsPlanned (planned rules text)
