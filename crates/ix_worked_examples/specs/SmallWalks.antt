-- A grammar with a deleted literal and two equal insertions, its numbered rules, and its only derivation.
use Rattle.std.specs.Prelude.{false, [], ◌∷◌, codes}
use Rattle.ix_model.specs.declared.grammar.Grammar.{Grammar}
use Rattle.ix_model.specs.declared.grammar.Term.{One}
use Rattle.ix_model.specs.declared.rules.Kind.TheVariants as kind
use Rattle.ix_model.specs.declared.rules.Sym.TheVariants as sym
use Rattle.ix_model.specs.declared.rules.Rules.{Rules}
use Rattle.ix_model.specs.declared.rules.Terminal.TheVariants as terminal
use Rattle.ix_model.specs.Derivations.Trees.{Tree, text, insertion, node, no_tree, and}
use Rattle.ix_model.specs.Expansion.FlatTrees.{FlatTree, flat_text, flat_insertion, flat_node, no_flat, flats_and}
use Rattle.ix_examples.specs.SmallGrammars.{alternative, rule, grammar, deleted, inserted}
use Rattle.ix_examples.specs.SmallRules.{flat, rules_with}

-- S: -"a", +"x", +"x".
abbrev pub replaced : Grammar
replaced = grammar (rule (codes "S") (alternative (One (deleted (codes "a")) ∷ inserted (codes "x") ∷ inserted (codes "x") ∷ []) ∷ []) ∷ [])

-- its numbered rules: two equal insertions have two numbers
abbrev pub replaced_rules : Rules
replaced_rules = rules_with (flat kind.Named ((sym.Term 0 false ∷ sym.Insert 0 ∷ sym.Insert 1 ∷ []) ∷ []) ∷ []) (terminal.Lit (codes "a") ∷ []) (codes "x" ∷ codes "x" ∷ [])

-- the only derivation of `a`
abbrev pub replaced_tree : Tree
replaced_tree = node 0 0 (and (and (and no_tree (text 0 1)) insertion) insertion)

-- the same over the numbered rules
abbrev pub replaced_flat : FlatTree
replaced_flat = flat_node 0 0 (flats_and (flats_and (flats_and no_flat (flat_text 0 1)) flat_insertion) flat_insertion)
