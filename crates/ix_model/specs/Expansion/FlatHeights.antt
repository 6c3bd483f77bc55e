-- Heights of trees over the numbered rules: those of the written trees that they stand for, since helpers add nothing.
use Rattle.std.specs.Prelude.{ℕ, ◌+◌, max}
use Rattle.ix_model.specs.declared.rules.Kind.{Kind}
use Rattle.ix_model.specs.declared.rules.Kind.TheVariants as kind
use Rattle.ix_model.specs.declared.rules.Rules.{Rules}
use Rattle.ix_model.specs.Expansion.FlatTrees.{FlatTree, flat_text, flat_insertion, flat_node, FlatTrees, no_flat, flats_and}
use Rattle.ix_model.specs.Expansion.Numbered.{kind_at}

-- a named rule is one more than the greatest height within it; a helper is no higher
abbrev pub raised : Kind → ℕ → ℕ
raised kind.Named h = h + 1
raised _ h = h

module _ (rules : Rules) where
  abbrev mutual
    pub flat_height : FlatTree → ℕ
    flat_height (flat_text i j) = 0
    flat_height flat_insertion = 0
    flat_height (flat_node r a ds) = raised (kind_at rules r) (flat_heights ds)

    pub flat_heights : FlatTrees → ℕ
    flat_heights no_flat = 0
    flat_heights (flats_and ds d) = max (flat_heights ds) (flat_height d)
