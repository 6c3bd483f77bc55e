-- Small grammars, written as values: what the worked examples speak of.
use Rattle.std.specs.Prelude.{ℕ, List, [], ◌∷◌, Option, Some, None, codes}
use Rattle.ix_model.specs.declared.grammar.Grammar.{Grammar}
use Rattle.ix_model.specs.declared.grammar.Rule.{Rule}
use Rattle.ix_model.specs.declared.grammar.Mark.{Mark}
use Rattle.ix_model.specs.declared.grammar.Mark.TheVariants.{Element, Attribute, Hidden}
use Rattle.ix_model.specs.declared.grammar.TMark.TheVariants.{Deleted}
use Rattle.ix_model.specs.declared.grammar.Alt.{Alt}
use Rattle.ix_model.specs.declared.grammar.Member.{Member}
use Rattle.ix_model.specs.declared.grammar.Member.TheVariants as member
use Rattle.ix_model.specs.declared.grammar.Bound.TheVariants as bound
use Rattle.ix_model.specs.declared.grammar.Chars.TheVariants.{Quoted}
use Rattle.ix_model.specs.declared.grammar.Term.{Term, One, Opt, Plus}
use Rattle.ix_model.specs.declared.grammar.Factor.{Factor, Lit, Call, Insert, Group}

-- ---- how the values are put together

abbrev pub alternative : List Term → Alt
alternative terms = record { terms = terms }

abbrev pub marked_rule : Option Mark → List ℕ → List Alt → Rule
marked_rule mark name alts = record { mark = mark; name = name; alts = alts }

abbrev pub rule : List ℕ → List Alt → Rule
rule name alts = marked_rule None name alts

abbrev pub grammar : List Rule → Grammar
grammar rules = record { version = None; rules = rules }

abbrev pub literal : List ℕ → Factor
literal text = Lit None (Quoted text)

abbrev pub quoted : List ℕ → Term
quoted text = One (literal text)

abbrev pub deleted : List ℕ → Factor
deleted text = Lit (Some Deleted) (Quoted text)

abbrev pub insertion_of : List ℕ → Factor
insertion_of text = Insert (Quoted text)

abbrev pub inserted : List ℕ → Term
inserted text = One (insertion_of text)

abbrev pub call : List ℕ → Term
call name = One (Call None name)

abbrev pub marked_call : Mark → List ℕ → Term
marked_call mark name = One (Call (Some mark) name)

-- ["0"-"9"]
abbrev pub digits : Member
digits = member.Range (bound.Quoted 48) (bound.Quoted 57)

-- ---- grammars

-- S: "a".
abbrev pub only_a : Grammar
only_a = grammar (rule (codes "S") (alternative (quoted (codes "a") ∷ []) ∷ []) ∷ [])

-- S: "a"; "a".
abbrev pub two_ways : Grammar
two_ways = grammar (rule (codes "S") (alternative (quoted (codes "a") ∷ []) ∷ alternative (quoted (codes "a") ∷ []) ∷ []) ∷ [])

-- S: S; "a".
abbrev pub cycle : Grammar
cycle = grammar (rule (codes "S") (alternative (call (codes "S") ∷ []) ∷ alternative (quoted (codes "a") ∷ []) ∷ []) ∷ [])

-- E: E, "+", E; "1".
abbrev pub sums : Grammar
sums = grammar (rule (codes "E") (alternative (call (codes "E") ∷ quoted (codes "+") ∷ call (codes "E") ∷ []) ∷ alternative (quoted (codes "1") ∷ []) ∷ []) ∷ [])

-- S: .
abbrev pub empty : Grammar
empty = grammar (rule (codes "S") (alternative [] ∷ []) ∷ [])

-- S: t.   for one term t
abbrev pub of_term : Term → Grammar
of_term t = grammar (rule (codes "S") (alternative (t ∷ []) ∷ []) ∷ [])

-- S: t, u.   for two terms
abbrev pub of_terms : Term → Term → Grammar
of_terms t u = grammar (rule (codes "S") (alternative (t ∷ u ∷ []) ∷ []) ∷ [])

-- S: T. T: "a", "".
abbrev pub two_parts : Grammar
two_parts = grammar (rule (codes "S") (alternative (call (codes "T") ∷ []) ∷ []) ∷ rule (codes "T") (alternative (quoted (codes "a") ∷ quoted [] ∷ []) ∷ []) ∷ [])

-- (t, u)
abbrev pub both : Term → Term → Factor
both t u = Group (alternative (t ∷ u ∷ []) ∷ [])

-- ("a"; "b")
abbrev pub a_or_b : Factor
a_or_b = Group (alternative (quoted (codes "a") ∷ []) ∷ alternative (quoted (codes "b") ∷ []) ∷ [])

-- "a"++","
abbrev pub commas : Term
commas = Plus (literal (codes "a")) (Some (literal (codes ",")))

-- S: (-"a"; "b")?, "c"++-",".
abbrev pub parts : Grammar
parts = grammar (rule (codes "S") (alternative (Opt (Group (alternative (One (deleted (codes "a")) ∷ []) ∷ alternative (quoted (codes "b") ∷ []) ∷ [])) ∷ Plus (literal (codes "c")) (Some (deleted (codes ","))) ∷ []) ∷ []) ∷ [])

-- S: (A; B), D. A: C. C: "a". B: "a". D: E. E: F. F: "b".
abbrev pub depths : Grammar
depths = grammar (
    rule (codes "S") (alternative (One (Group (alternative (call (codes "A") ∷ []) ∷ alternative (call (codes "B") ∷ []) ∷ [])) ∷ call (codes "D") ∷ []) ∷ [])
    ∷ rule (codes "A") (alternative (call (codes "C") ∷ []) ∷ [])
    ∷ rule (codes "C") (alternative (quoted (codes "a") ∷ []) ∷ [])
    ∷ rule (codes "B") (alternative (quoted (codes "a") ∷ []) ∷ [])
    ∷ rule (codes "D") (alternative (call (codes "E") ∷ []) ∷ [])
    ∷ rule (codes "E") (alternative (call (codes "F") ∷ []) ∷ [])
    ∷ rule (codes "F") (alternative (quoted (codes "b") ∷ []) ∷ []) ∷ [])

-- S: a+. a: "x"+.
abbrev pub runs : Grammar
runs = grammar (rule (codes "S") (alternative (Plus (Call None (codes "a")) None ∷ []) ∷ []) ∷ rule (codes "a") (alternative (Plus (literal (codes "x")) None ∷ []) ∷ []) ∷ [])

-- S: "t", -h. h: -g. g: @a. a: "v".
abbrev pub hidden : Grammar
hidden = grammar (
    rule (codes "S") (alternative (quoted (codes "t") ∷ marked_call Hidden (codes "h") ∷ []) ∷ [])
    ∷ rule (codes "h") (alternative (marked_call Hidden (codes "g") ∷ []) ∷ [])
    ∷ rule (codes "g") (alternative (marked_call Attribute (codes "a") ∷ []) ∷ [])
    ∷ rule (codes "a") (alternative (quoted (codes "v") ∷ []) ∷ []) ∷ [])

-- S: @a. a: "x", @b, -"y", +"z". b: "w".
abbrev pub nested : Grammar
nested = grammar (
    rule (codes "S") (alternative (marked_call Attribute (codes "a") ∷ []) ∷ [])
    ∷ rule (codes "a") (alternative (quoted (codes "x") ∷ marked_call Attribute (codes "b") ∷ One (deleted (codes "y")) ∷ inserted (codes "z") ∷ []) ∷ [])
    ∷ rule (codes "b") (alternative (quoted (codes "w") ∷ []) ∷ []) ∷ [])

-- S: -a, ^b, c. a: -"0"; "1". -b: "2". -c: "3".
abbrev pub marks : Grammar
marks = grammar (
    rule (codes "S") (alternative (marked_call Hidden (codes "a") ∷ marked_call Element (codes "b") ∷ call (codes "c") ∷ []) ∷ [])
    ∷ rule (codes "a") (alternative (One (deleted (codes "0")) ∷ []) ∷ alternative (quoted (codes "1") ∷ []) ∷ [])
    ∷ marked_rule (Some Hidden) (codes "b") (alternative (quoted (codes "2") ∷ []) ∷ [])
    ∷ marked_rule (Some Hidden) (codes "c") (alternative (quoted (codes "3") ∷ []) ∷ []) ∷ [])

-- S: -"c"; ^b. -b: "a".   with a mark on the first rule
abbrev pub marked_root : Mark → Grammar
marked_root mark = grammar (marked_rule (Some mark) (codes "S") (alternative (One (deleted (codes "c")) ∷ []) ∷ alternative (marked_call Element (codes "b") ∷ []) ∷ []) ∷ marked_rule (Some Hidden) (codes "b") (alternative (quoted (codes "a") ∷ []) ∷ []) ∷ [])

-- S: "a". S: "b".
abbrev pub same_names : Grammar
same_names = grammar (rule (codes "S") (alternative (quoted (codes "a") ∷ []) ∷ []) ∷ rule (codes "S") (alternative (quoted (codes "b") ∷ []) ∷ []) ∷ [])

-- S: +"<", "a", +"&".
abbrev pub escaped : Grammar
escaped = grammar (rule (codes "S") (alternative (inserted (codes "<") ∷ quoted (codes "a") ∷ inserted (codes "&") ∷ []) ∷ []) ∷ [])
