-- How much stands in a grammar: its rules, alternatives, terms and separators, those in groups included.
use Rattle.std.specs.Prelude.{ℕ, ◌+◌, sum, Option, Some, None, map}
use Rattle.ix_model.specs.declared.grammar.Grammar.{Grammar}
use Rattle.ix_model.specs.declared.grammar.Rule.{Rule}
use Rattle.ix_model.specs.declared.grammar.Alt.{Alt}
use Rattle.ix_model.specs.declared.grammar.Term.{Term}
use Rattle.ix_model.specs.declared.grammar.Factor.{Factor}
use Rattle.ix_model.specs.declared.grammar.Factor.TheOpen.{Factor-F, Term-F, Alt-F}
use Rattle.ix_model.specs.declared.grammar.Factor.TheFolds.{fold-Factor, fold-Term, fold-Alt}

-- a separator, where there is one, and what stands in it
abbrev pub separator_size : Option ℕ → ℕ
separator_size None = 0
separator_size (Some n) = n + 1

-- what stands in a factor: a group has alternatives
abbrev pub factor_step : Factor-F ℕ ℕ ℕ → ℕ
factor_step (Factor-F.Group alts) = sum alts
factor_step _ = 0

-- a term, what stands in its item, and its separator
abbrev pub term_step : Term-F ℕ ℕ ℕ → ℕ
term_step (Term-F.One f) = f + 1
term_step (Term-F.Opt f) = f + 1
term_step (Term-F.Star f sep) = f + separator_size sep + 1
term_step (Term-F.Plus f sep) = f + separator_size sep + 1

-- an alternative and its terms
abbrev pub alt_step : Alt-F ℕ ℕ ℕ → ℕ
alt_step a = sum a.terms + 1

-- what stands in a factor
abbrev pub factor_size : Factor → ℕ
factor_size = fold-Factor ℕ ℕ ℕ factor_step term_step alt_step

-- a term and what stands in it
abbrev pub term_size : Term → ℕ
term_size = fold-Term ℕ ℕ ℕ factor_step term_step alt_step

-- an alternative and what stands in it
abbrev pub alt_size : Alt → ℕ
alt_size = fold-Alt ℕ ℕ ℕ factor_step term_step alt_step

-- a rule and what stands in its alternatives
abbrev pub rule_size : Rule → ℕ
rule_size rule = sum (map alt_size rule.alts) + 1

-- how many rules, alternatives, terms and separators a grammar has
abbrev pub size : Grammar → ℕ
size g = sum (map rule_size g.rules)
