-- Several banks: how they begin, and what they have recorded together. It is this project's own.
use Rattle.std.specs.Prelude.{ℕ, Bool, true, false, ◌==◌, List, [], map, max, Option, None, Some, if◌then◌else◌}
use Rattle.std.specs.List.{flat_map, range_with_len}
use Rattle.ix_model.specs.declared.sub.Sub.{Sub}
use Rattle.ix_model.specs.Expansion.Parts.{Parts}
use Rattle.ix_cluster.specs.declared.fact.Fact.{Fact}
use Rattle.ix_cluster.specs.declared.fact.Fact.TheVariants.{Desc, Part}
use Rattle.ix_cluster.specs.Homes.{home}
use Rattle.ix_cluster.specs.Seen.{Bank}
use Rattle.ix_cluster.specs.Steps.{after_call}

-- the log of bank m, of so many, at the start: the first rule is called at 0 in its home, and the others are empty
abbrev pub opening_log : Parts → ℕ → ℕ → List Fact
opening_log plan count m = if m == home 0 0 count then after_call plan [] 0 0 else []

-- bank m, of so many, at the start
abbrev pub opening_bank : Parts → ℕ → ℕ → Bank
opening_bank plan count m = record { log = opening_log plan count m; handed = 0 }

-- so many banks at the start
abbrev pub opening : Parts → ℕ → List Bank
opening plan count = map (opening_bank plan count) (range_with_len 0 count)

-- all facts, bank by bank, each bank's in the order of its log
abbrev pub facts_of : List Bank → List Fact
facts_of banks = flat_map (λ (bank : Bank). bank.log) banks

-- the greater of the position and that of the fact, where it is a descriptor
abbrev pub later_of : ℕ → Fact → ℕ
later_of pos (Desc s l p) = max pos p
later_of pos _ = pos

-- whether the fact is a descriptor
abbrev pub is_descriptor : Fact → Bool
is_descriptor (Desc s l p) = true
is_descriptor _ = false

-- the binary subtree that the fact is
abbrev pub recorded_sub : Fact → Option Sub
recorded_sub (Part sub) = Some sub
recorded_sub _ = None
