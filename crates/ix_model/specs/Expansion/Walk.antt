-- The walk through a tree over the numbered rules: its named nodes, texts and insertions, in order. Helpers are passed
-- without a step.
use Rattle.std.specs.Prelude.{ℕ, Bool, true, List, [], ◌∷◌, ◌++◌, Some}
use Rattle.ix_model.specs.declared.grammar.Mark.{Mark}
use Rattle.ix_model.specs.declared.rules.Kind.{Kind}
use Rattle.ix_model.specs.declared.rules.Kind.TheVariants as kind
use Rattle.ix_model.specs.declared.rules.Sym.{Sym}
use Rattle.ix_model.specs.declared.rules.Sym.TheVariants as sym
use Rattle.ix_model.specs.declared.rules.Rules.{Rules}
use Rattle.ix_model.specs.declared.step.Step.{Step}
use Rattle.ix_model.specs.declared.step.Step.TheVariants as step
use Rattle.ix_model.specs.Expansion.FlatTrees.{FlatTree, flat_text, flat_insertion, flat_node, FlatTrees, no_flat, flats_and, flat_count}
use Rattle.ix_model.specs.Expansion.Numbered.{kind_at, mark_at, sym_at}

-- whether a terminal is shown
abbrev pub shown_by : Sym → Bool
shown_by (sym.Term n shown) = shown
shown_by _ = true

-- the number of an insertion
abbrev pub insert_of : Sym → ℕ
insert_of (sym.Insert n) = n
insert_of _ = 0

-- the mark of the call, else that of the rule
abbrev pub mark_of : Sym → Mark → Mark
mark_of (sym.Rule r (Some mark)) rule_mark = mark
mark_of _ rule_mark = rule_mark

-- a named rule is entered and left
abbrev pub wrapped : Kind → ℕ → Mark → List Step → List Step
wrapped kind.Named r mark inner = step.Enter r mark ∷ inner ++ step.Leave ∷ []
wrapped _ r mark inner = inner

module _ (rules : Rules) where
  abbrev mutual
    -- the steps of a tree of the symbol
    pub walk : FlatTree → Sym → List Step
    walk (flat_text i j) x = step.Text i j (shown_by x) ∷ []
    walk flat_insertion x = step.Insert (insert_of x) ∷ []
    walk (flat_node r a ds) x = wrapped (kind_at rules r) r (mark_of x (mark_at rules r)) (walk_all ds r a)

    -- the steps of the trees of the first symbols of alternative a of rule r
    pub walk_all : FlatTrees → ℕ → ℕ → List Step
    walk_all no_flat r a = []
    walk_all (flats_and ds d) r a = walk_all ds r a ++ walk d (sym_at rules r a (flat_count ds))
