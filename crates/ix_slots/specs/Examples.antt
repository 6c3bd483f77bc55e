-- Numbered rules that the worked examples and the tests speak of.
use Rattle.std.specs.Prelude.{ℕ, [], ◌∷◌, codes, replicate}
use Rattle.ix_model.specs.declared.rules.Kind.TheVariants.{Named}
use Rattle.ix_model.specs.declared.rules.Rules.{Rules}
use Rattle.ix_model.specs.declared.rules.Terminal.TheVariants.{Lit, Set}
use Rattle.ix_model.specs.Expansion.Expanded.{line}
use Rattle.ix_examples.specs.SmallRules.{rules_of, flat, shown, range}

-- of S: "ab", ["0"-"9"]; .
abbrev pub example_rules : Rules
example_rules = rules_of (flat Named ((shown 0 ∷ shown 1 ∷ []) ∷ [] ∷ []) ∷ []) (Lit (codes "ab") ∷ Set (range 48 57 ∷ []) ∷ [])

-- of S: "a"; "a"; and so on, with n alternatives
abbrev pub many_rules : ℕ → Rules
many_rules n = rules_of (record { kind = Named; lines = replicate n (line (shown 0 ∷ [])) } ∷ []) (Lit (codes "a") ∷ [])
