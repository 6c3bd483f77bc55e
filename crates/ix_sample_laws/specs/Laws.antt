-- Laws of the sample's grammar.
use Rattle.std.specs.Prelude.{ℕ, ◌<◌, ◌^◌, List, length}
use Rattle.std.specs.Char.{IsScalar}
use Rattle.std.specs.List.{AllByRecursion}
use Rattle.ix_model.specs.Expansion.Planned.{IsPlanned, IsPlanOf}
use Rattle.ix_sample_laws.specs.SampleRules.{sample_rules}
use Rattle.ix_sample_laws.specs.SamplePlan.{sample_plan}

-- its plan for characters, fewer than 2 ^ 32, is a plan of it
abbrev pub SampleIsPlanned : Type 0
SampleIsPlanned = (s : List ℕ) → AllByRecursion IsScalar s → length s < 2 ^ 32 → IsPlanOf sample_rules (sample_plan s) × IsPlanned (sample_plan s)
