-- Of a text that has a derivation, one derivation is first, also where it has infinitely many.
-- Names have to be unique: the order compares no rules, so two rules of one name may give rivals without a first.
use Rattle.std.specs.Prelude.{ℕ, List}
use Rattle.ix_model.specs.declared.grammar.Grammar.{Grammar}
use Rattle.ix_model.specs.Derivations.Trees.{Tree}
use Rattle.ix_model.specs.Derivations.Derives.{IsDerivation}
use Rattle.ix_model.specs.Derivations.Order.{First}
use Rattle.ix_model.specs.Grammars.Names.{HasUniqueNames}

-- where there is a derivation of the text, there is a first one
abbrev pub FirstExists : Type 0
FirstExists = (g : Grammar) (s : List ℕ) (d : Tree) → HasUniqueNames g → IsDerivation g s d → (e : Tree) × First g s e
