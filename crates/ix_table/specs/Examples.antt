-- What the worked examples speak of: the first bank of `S: S; "a".` at the start, and after the claim of its last descriptor.
use Rattle.std.specs.Prelude.{ℕ, List, [], ◌∷◌}
use Rattle.ix_cluster.specs.declared.fact.Fact.{Fact}
use Rattle.ix_cluster.specs.declared.fact.Fact.TheVariants.{Called, Desc, Claim}
use Rattle.ix_cluster.specs.Seen.{Bank}
use Rattle.ix_table.specs.Sights.{Sight}

abbrev pub first_log : List Fact
first_log = Called 0 0 ∷ Desc 0 0 0 ∷ Desc 2 0 0 ∷ []

abbrev pub claimed_log : List Fact
claimed_log = Called 0 0 ∷ Desc 0 0 0 ∷ Desc 2 0 0 ∷ Claim 2 0 0 ∷ []

-- a pass that knows one log, and these entries of it are its own
abbrev pub seen : List Fact → List (ℕ × ℕ) → Sight
seen log own = record { known = log ∷ []; own = own }

abbrev pub first_bank : Bank
first_bank = record { log = first_log; handed = 0 }

abbrev pub claimed_bank : Bank
claimed_bank = record { log = claimed_log; handed = 0 }
