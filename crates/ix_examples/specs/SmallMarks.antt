-- A small grammar with a mark in each place, and two of its trees.
use Rattle.std.specs.Prelude.{[], ◌∷◌, false, Some, None, codes}
use Rattle.ix_model.specs.declared.grammar.Grammar.{Grammar}
use Rattle.ix_model.specs.declared.grammar.Mark.TheVariants.{Attribute, Hidden}
use Rattle.ix_model.specs.declared.grammar.TMark.TheVariants.{Shown, Deleted}
use Rattle.ix_model.specs.declared.grammar.Chars.TheVariants.{Quoted, Code}
use Rattle.ix_model.specs.declared.grammar.Member.TheVariants as member
use Rattle.ix_model.specs.declared.grammar.Term.{One, Opt, Star, Plus}
use Rattle.ix_model.specs.declared.grammar.Factor.{Lit, Set, Call, Insert}
use Rattle.ix_model.specs.Derivations.Trees.{Tree, text, insertion, node, present, absent, no_item, list, no_tree, and, one, again, again_after}
use Rattle.ix_examples.specs.SmallGrammars.{alternative, rule, marked_rule, grammar, quoted}
use Rattle.ix_examples.specs.SmallTrees.{node_of}

-- S: @b?, -["x"], +#21, c++d, ^"e"*. b: "1". c: "2". -d: ",".
abbrev pub many_marks : Grammar
many_marks = grammar (
    rule (codes "S") (alternative (
    Opt (Call (Some Attribute) (codes "b"))
    ∷ One (Set (Some Deleted) false (member.Quoted (codes "x") ∷ []))
    ∷ One (Insert (Code (codes "21")))
    ∷ Plus (Call None (codes "c")) (Some (Call None (codes "d")))
    ∷ Star (Lit (Some Shown) (Quoted (codes "e"))) None
    ∷ []) ∷ [])
    ∷ rule (codes "b") (alternative (quoted (codes "1") ∷ []) ∷ [])
    ∷ rule (codes "c") (alternative (quoted (codes "2") ∷ []) ∷ [])
    ∷ marked_rule (Some Hidden) (codes "d") (alternative (quoted (codes ",") ∷ []) ∷ []) ∷ [])

-- `1x2,2`
abbrev pub all_there : Tree
all_there = node 0 0 (and (and (and (and (and no_tree (present (node_of 1 0 (text 0 1)))) (text 1 2)) insertion) (list (again_after (one (node_of 2 0 (text 2 3))) (node_of 3 0 (text 3 4)) (node_of 2 0 (text 4 5))))) no_item)

-- `x2ee`
abbrev pub some_absent : Tree
some_absent = node 0 0 (and (and (and (and (and no_tree absent) (text 0 1)) insertion) (list (one (node_of 2 0 (text 1 2))))) (list (again (one (text 2 3)) (text 3 4))))
