-- How many parentheses stand open at once where a grammar is spelled, at most. In a spelling a parenthesis that is neither in a
-- string nor in a comment stands around the alternatives of a group, and each group has one pair of them. So the parentheses that
-- stand open at a place are those of the groups around it, and their greatest number is the greatest nesting of groups in the value.
-- Source: Invisible XML 1.0, the rule factor of its grammar. That a processor counts them is this project's own.
use Rattle.std.specs.Prelude.{ℕ, ◌+◌, max, List, [], ◌∷◌, Option, Some, None, map}
use Rattle.ix_model.specs.declared.grammar.Grammar.{Grammar}
use Rattle.ix_model.specs.declared.grammar.Rule.{Rule}
use Rattle.ix_model.specs.declared.grammar.Alt.{Alt}
use Rattle.ix_model.specs.declared.grammar.Factor.TheOpen.{Factor-F, Term-F, Alt-F}
use Rattle.ix_model.specs.declared.grammar.Factor.TheFolds.{fold-Alt}

-- the greatest of the numbers, or 0
abbrev pub greatest : List ℕ → ℕ
greatest [] = 0
greatest (n ∷ ns) = max n (greatest ns)

-- the depth of a separator, where there is one
abbrev pub separator_depth : Option ℕ → ℕ
separator_depth None = 0
separator_depth (Some n) = n

-- the depth of a factor: a group is one deeper than its alternatives
abbrev pub factor_step : Factor-F ℕ ℕ ℕ → ℕ
factor_step (Factor-F.Group alts) = greatest alts + 1
factor_step _ = 0

-- the depth of a term: the greater of its item's and its separator's
abbrev pub term_step : Term-F ℕ ℕ ℕ → ℕ
term_step (Term-F.One f) = f
term_step (Term-F.Opt f) = f
term_step (Term-F.Star f sep) = max f (separator_depth sep)
term_step (Term-F.Plus f sep) = max f (separator_depth sep)

-- the depth of an alternative: the greatest of its terms'
abbrev pub alt_step : Alt-F ℕ ℕ ℕ → ℕ
alt_step a = greatest a.terms

-- the greatest number of groups around one another in an alternative
abbrev pub alt_depth : Alt → ℕ
alt_depth = fold-Alt ℕ ℕ ℕ factor_step term_step alt_step

-- the greatest number of groups around one another in a grammar
abbrev pub depth : Grammar → ℕ
depth g = greatest (map (λ (rule : Rule). greatest (map alt_depth rule.alts)) g.rules)
