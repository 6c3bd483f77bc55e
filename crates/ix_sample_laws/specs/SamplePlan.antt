-- The numbered rules of the sample's grammar, and its plan for a text.
use Rattle.std.specs.Prelude.{ℕ, List, [], ◌∷◌, Some, codes}
use Rattle.ix_model.specs.declared.grammar.Mark.TheVariants.{Element, Attribute}
use Rattle.ix_model.specs.declared.rules.Kind.TheVariants as kind
use Rattle.ix_model.specs.declared.rules.Sym.TheVariants as sym
use Rattle.ix_model.specs.declared.rules.Flat.{Flat}
use Rattle.ix_model.specs.declared.rules.Rules.{Rules}
use Rattle.ix_model.specs.declared.rules.Terminal.{Terminal}
use Rattle.ix_model.specs.declared.rules.Terminal.TheVariants as terminal
use Rattle.ix_model.specs.Expansion.Numbering.{numbering}
use Rattle.ix_model.specs.Expansion.Parts.{Parts}
use Rattle.ix_examples.specs.SmallRules.{flat, helper, shown, range}
use Rattle.ix_examples.specs.SmallHelpers.{left_out}

-- log, line, n and w; then the repetition and the list of lines, and the lists of digits and of letters
abbrev pub sample_flats : List Flat
sample_flats =
    flat kind.Named ((helper 4 ∷ []) ∷ [])
    ∷ flat kind.Named ((sym.Rule 2 (Some Attribute) ∷ left_out 0 ∷ helper 3 ∷ left_out 1 ∷ []) ∷ [])
    ∷ flat kind.Named ((helper 6 ∷ []) ∷ [])
    ∷ flat kind.Named ((helper 7 ∷ []) ∷ [])
    ∷ flat kind.Star ([] ∷ (helper 5 ∷ []) ∷ [])
    ∷ flat kind.List ((helper 1 ∷ []) ∷ (helper 5 ∷ helper 1 ∷ []) ∷ [])
    ∷ flat kind.List ((shown 2 ∷ []) ∷ (helper 6 ∷ shown 2 ∷ []) ∷ [])
    ∷ flat kind.List ((shown 3 ∷ []) ∷ (helper 7 ∷ shown 3 ∷ []) ∷ []) ∷ []

-- a colon, a line feed, the digits and the letters
abbrev pub sample_terminals : List Terminal
sample_terminals = terminal.Lit (codes ":") ∷ terminal.Lit (codes "\n") ∷ terminal.Set (range 48 57 ∷ []) ∷ terminal.Set (range 97 122 ∷ []) ∷ []

abbrev pub sample_numbered : Rules
sample_numbered = record {
  names = codes "log" ∷ codes "line" ∷ codes "n" ∷ codes "w" ∷ [];
  marks = Element ∷ Element ∷ Element ∷ Element ∷ [];
  flats = sample_flats;
  terminals = sample_terminals;
  inserts = [];
}

-- the plan for a text
abbrev pub sample_plan : List ℕ → Parts
sample_plan text = record { rules = sample_numbered; slots = numbering sample_flats; text = text }
