-- What a step on a word tells the seat that makes it. This project's own.
use Rattle.std.specs.Prelude.{◌≡◌, ◌≢◌, ℕ, List, [], ◌∷◌, Option, Some}
use Rattle.atomic_table.specs.Table.{Me, Step}
use Rattle.ix_rows.specs.declared.view.View.{View}
use Rattle.ix_rows.specs.Beginnings.{Begins}
use Rattle.ix_rows.specs.Logs.{log_at}
use Rattle.ix_rows.specs.Views.{holding, giving, merged}

module _ {T X E : Type 0} where
  module _ (fact : T → ℕ → X → Type 0) (log : X → List E) where
    -- the seat has got the place m and its value, which meets the fact and whose log begins with what was known
    abbrev pub Got : ℕ → Me (Option X) (View T E) → Me (Option X) (View T E) → Type 0
    Got m before after = (x : X) × (t : T) × (after.0 ≡ holding before.0 m (log x)) × (after.1 ≡ (m, Some x) ∷ before.1) × (before.0.topic ≡ Some t) × fact t m x × Begins (log x) (log_at before.0.known m)

    -- a try: where the word was not 0 it has got the place, else nothing changed
    abbrev pub tried : Step (Option X) → Me (Option X) (View T E) → ℕ → Me (Option X) (View T E) → Type 0
    tried step before found after = (found ≢ 0 → Got step.word before after) × (found ≡ 0 → after ≡ before)

  -- a release: the value that was in the slot is given back
  abbrev pub released : (X → List E) → Step (Option X) → Me (Option X) (View T E) → Me (Option X) (View T E) → Type 0
  released log step before after = (y : X) → before.1 ≡ (step.word, Some y) ∷ [] → after ≡ (giving before.0 step.word (log y), [])

-- a look: it knows at each place the longer of the two, which begins with both
abbrev pub looked : {S T E : Type 0} → Me S (View T E) → Me S (View T E) → Type 0
looked before after = (after ≡ (merged before.0, before.1))
    × ((m : ℕ) → Begins (log_at after.0.known m) (log_at before.0.known m) × Begins (log_at after.0.known m) (log_at before.0.came m))
