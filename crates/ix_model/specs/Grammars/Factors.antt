-- The factors of a grammar, and what stands in them, in the grammar's order: rules, then alternatives, then terms; an item before
-- its separator; what stands in parentheses in the place of the group; members from left to right, and in a range low before high.
use Rattle.std.specs.Prelude.{ℕ, List, [], ◌∷◌, ◌++◌, Option, Some, None}
use Rattle.std.specs.List.{flat_map}
use Rattle.ix_model.specs.declared.grammar.Grammar.{Grammar}
use Rattle.ix_model.specs.declared.grammar.Rule.{Rule}
use Rattle.ix_model.specs.declared.grammar.Chars.{Chars}
use Rattle.ix_model.specs.declared.grammar.Chars.TheVariants as chars
use Rattle.ix_model.specs.declared.grammar.Member.{Member}
use Rattle.ix_model.specs.declared.grammar.Member.TheVariants as member
use Rattle.ix_model.specs.declared.grammar.Bound.{Bound}
use Rattle.ix_model.specs.declared.grammar.Bound.TheVariants as bound
use Rattle.ix_model.specs.declared.grammar.Alt.{Alt}
use Rattle.ix_model.specs.declared.grammar.Term.{Term}
use Rattle.ix_model.specs.declared.grammar.Factor.{Factor, Lit, Set, Call, Insert}
use Rattle.ix_model.specs.declared.grammar.Factor.TheOpen.{Factor-F, Term-F, Alt-F}
use Rattle.ix_model.specs.declared.grammar.Factor.TheFolds.{fold-Factor, fold-Term, fold-Alt}
use Rattle.ix_model.specs.Matching.Codes.{bound_value}

-- ---- factors other than groups

-- the lists one behind the other
abbrev pub joined : List (List Factor) → List Factor
joined = flat_map (λ fs. fs)

-- those of a separator, where there is one
abbrev pub of_separator : Option (List Factor) → List Factor
of_separator None = []
of_separator (Some fs) = fs

-- those of a factor, from those of its parts
abbrev pub factor_step : Factor-F (List Factor) (List Factor) (List Factor) → List Factor
factor_step (Factor-F.Lit m cs) = Lit m cs ∷ []
factor_step (Factor-F.Set m exclude ms) = Set m exclude ms ∷ []
factor_step (Factor-F.Call m name) = Call m name ∷ []
factor_step (Factor-F.Insert cs) = Insert cs ∷ []
factor_step (Factor-F.Group alts) = joined alts

-- those of a term, from those of its item and its separator
abbrev pub term_step : Term-F (List Factor) (List Factor) (List Factor) → List Factor
term_step (Term-F.One f) = f
term_step (Term-F.Opt f) = f
term_step (Term-F.Star f sep) = f ++ of_separator sep
term_step (Term-F.Plus f sep) = f ++ of_separator sep

-- those of an alternative, from those of its terms
abbrev pub alt_step : Alt-F (List Factor) (List Factor) (List Factor) → List Factor
alt_step a = joined a.terms

-- the factors within a factor that are no groups
abbrev pub factors_of_factor : Factor → List Factor
factors_of_factor = fold-Factor (List Factor) (List Factor) (List Factor) factor_step term_step alt_step

-- the factors of a term that are no groups
abbrev pub factors_of_term : Term → List Factor
factors_of_term = fold-Term (List Factor) (List Factor) (List Factor) factor_step term_step alt_step

-- the factors of an alternative that are no groups
abbrev pub factors_of_alt : Alt → List Factor
factors_of_alt = fold-Alt (List Factor) (List Factor) (List Factor) factor_step term_step alt_step

-- the factors of a grammar that are no groups
abbrev pub factors_of : Grammar → List Factor
factors_of g = flat_map (λ (rule : Rule). flat_map factors_of_alt rule.alts) g.rules

-- ---- what stands in a factor

-- the digits of the number in a literal or an insertion, where it has one
abbrev pub codes_of_chars : Chars → List (List ℕ)
codes_of_chars (chars.Quoted text) = []
codes_of_chars (chars.Code digits) = digits ∷ []

-- the digits of the number in a bound, where it has one
abbrev pub codes_of_bound : Bound → List (List ℕ)
codes_of_bound (bound.Quoted c) = []
codes_of_bound (bound.Code digits) = digits ∷ []

-- the digits of the numbers in a member
abbrev pub codes_of_member : Member → List (List ℕ)
codes_of_member (member.Quoted text) = []
codes_of_member (member.Code digits) = digits ∷ []
codes_of_member (member.Range low high) = codes_of_bound low ++ codes_of_bound high
codes_of_member (member.Class name) = []

-- the digits of the numbers in a factor
abbrev pub codes_of_factor : Factor → List (List ℕ)
codes_of_factor (Lit m cs) = codes_of_chars cs
codes_of_factor (Set m exclude ms) = flat_map codes_of_member ms
codes_of_factor (Insert cs) = codes_of_chars cs
codes_of_factor _ = []

-- the two characters of a member that is a range
abbrev pub ranges_of_member : Member → List (ℕ × ℕ)
ranges_of_member (member.Range low high) = (bound_value low, bound_value high) ∷ []
ranges_of_member _ = []

-- the two characters of each range in a factor
abbrev pub ranges_of_factor : Factor → List (ℕ × ℕ)
ranges_of_factor (Set m exclude ms) = flat_map ranges_of_member ms
ranges_of_factor _ = []

-- the name of a member that is a class
abbrev pub classes_of_member : Member → List (List ℕ)
classes_of_member (member.Class name) = name ∷ []
classes_of_member _ = []

-- the names of the classes in a factor
abbrev pub classes_of_factor : Factor → List (List ℕ)
classes_of_factor (Set m exclude ms) = flat_map classes_of_member ms
classes_of_factor _ = []

-- the name that a factor calls, where it is a call
abbrev pub calls_of_factor : Factor → List (List ℕ)
calls_of_factor (Call m name) = name ∷ []
calls_of_factor _ = []

-- ---- what stands in a grammar

-- the digits of all numbers
abbrev pub codes_of : Grammar → List (List ℕ)
codes_of g = flat_map codes_of_factor (factors_of g)

-- the two characters of each range
abbrev pub ranges_of : Grammar → List (ℕ × ℕ)
ranges_of g = flat_map ranges_of_factor (factors_of g)

-- the names of all classes
abbrev pub classes_of : Grammar → List (List ℕ)
classes_of g = flat_map classes_of_factor (factors_of g)

-- the names that are called
abbrev pub calls_of : Grammar → List (List ℕ)
calls_of g = flat_map calls_of_factor (factors_of g)
