-- Grammars as characters and as values, and small grammars that do not conform: what the worked examples speak of.
use Rattle.std.specs.Prelude.{ℕ, zero, suc, List, [], ◌∷◌, ◌++◌, replicate, Some, None, true, false, codes}
use Rattle.ix_model.specs.declared.grammar.Grammar.{Grammar}
use Rattle.ix_model.specs.declared.grammar.Mark.TheVariants.{Attribute, Hidden}
use Rattle.ix_model.specs.declared.grammar.TMark.TheVariants.{Shown, Deleted}
use Rattle.ix_model.specs.declared.grammar.Chars.TheVariants.{Quoted, Code}
use Rattle.ix_model.specs.declared.grammar.Member.{Member}
use Rattle.ix_model.specs.declared.grammar.Member.TheVariants as member
use Rattle.ix_model.specs.declared.grammar.Bound.TheVariants as bound
use Rattle.ix_model.specs.declared.grammar.Term.{Term, One, Opt, Star, Plus}
use Rattle.ix_model.specs.declared.grammar.Factor.{Factor, Lit, Set, Call, Insert, Group}
use Rattle.ix_examples.specs.SmallGrammars.{alternative, rule, marked_rule, grammar, literal, quoted, inserted, call, of_term}

-- ---- spellings and their values

-- S: b.. b.: "x".
abbrev pub stop_in_name : Grammar
stop_in_name = grammar (rule (codes "S") (alternative (call (codes "b.") ∷ []) ∷ []) ∷ rule (codes "b.") (alternative (quoted (codes "x") ∷ []) ∷ []) ∷ [])

-- S: a+++"x". a: "y".
abbrev pub by_insertion : Grammar
by_insertion = grammar (
    rule (codes "S") (alternative (Plus (Call None (codes "a")) (Some (Insert (Quoted (codes "x")))) ∷ []) ∷ [])
    ∷ rule (codes "a") (alternative (quoted (codes "y") ∷ []) ∷ []) ∷ [])

-- ixml version "2.0". S: t.   for one term t and one version
abbrev pub of_version : List ℕ → Term → Grammar
of_version version t = record { version = Some version; rules = rule (codes "S") (alternative (t ∷ []) ∷ []) ∷ [] }

-- one grammar with most forms
abbrev pub forms_text : List ℕ
forms_text = codes "@S = b?, -c*, ^[\"a\"-#7A; Lu | 'x']; ~[]+, \"d\"\"e\"**-#2c | +'f', (S++(g))."

abbrev pub forms : Grammar
forms = grammar (marked_rule (Some Attribute) (codes "S") (
    alternative (
    Opt (Call None (codes "b"))
    ∷ Star (Call (Some Hidden) (codes "c")) None
    ∷ One (Set (Some Shown) false (member.Range (bound.Quoted 97) (bound.Code (codes "7A")) ∷ member.Class (codes "Lu") ∷ member.Quoted (codes "x") ∷ []))
    ∷ [])
    ∷ alternative (
    Plus (Set None true []) None
    ∷ Star (literal (codes "d\"e")) (Some (Lit (Some Deleted) (Code (codes "2c"))))
    ∷ [])
    ∷ alternative (
    inserted (codes "f")
    ∷ One (Group (alternative (Plus (Call None (codes "S")) (Some (Group (alternative (call (codes "g") ∷ []) ∷ []))) ∷ []) ∷ []))
    ∷ [])
    ∷ []) ∷ [])

-- S: "a". b: "a".
abbrev pub two_rules : Grammar
two_rules = grammar (rule (codes "S") (alternative (quoted (codes "a") ∷ []) ∷ []) ∷ rule (codes "b") (alternative (quoted (codes "a") ∷ []) ∷ []) ∷ [])

-- ---- parts

-- #digits
abbrev pub numbered : List ℕ → Term
numbered digits = One (Lit None (Code digits))

-- [member]
abbrev pub set_of : Member → Factor
set_of m = Set None false (m ∷ [])

-- ["x"-"y"]   for two characters
abbrev pub from_to : ℕ → ℕ → Factor
from_to low high = set_of (member.Range (bound.Quoted low) (bound.Quoted high))

-- (t)   for one term t
abbrev pub in_parentheses : Term → Factor
in_parentheses t = Group (alternative (t ∷ []) ∷ [])

-- t in so many pairs of parentheses
abbrev pub in_pairs : ℕ → Term → Term
in_pairs zero t = t
in_pairs (suc n) t = One (in_parentheses (in_pairs n t))

-- S: ((.. ("a") ..)).   with so many pairs, as characters and as a value
abbrev pub pairs_text : ℕ → List ℕ
pairs_text n = codes "S: " ++ (replicate n 40 ++ (codes "\"a\"" ++ (replicate n 41 ++ codes ".")))

abbrev pub pairs : ℕ → Grammar
pairs n = of_term (in_pairs n (quoted (codes "a")))

-- ---- grammars

-- S: (("a")).
abbrev pub two_deep : Grammar
two_deep = of_term (One (in_parentheses (One (in_parentheses (quoted (codes "a"))))))

-- S: (b)**((c)), #1, ([#2; L; #3-#4])?. d: e; +#5.
abbrev pub in_order : Grammar
in_order = grammar (
    rule (codes "S") (alternative (
    Star (in_parentheses (call (codes "b"))) (Some (in_parentheses (One (in_parentheses (call (codes "c"))))))
    ∷ numbered (codes "1")
    ∷ Opt (in_parentheses (One (Set None false (member.Code (codes "2") ∷ member.Class (codes "L") ∷ member.Range (bound.Code (codes "3")) (bound.Code (codes "4")) ∷ []))))
    ∷ []) ∷ [])
    ∷ rule (codes "d") (alternative (call (codes "e") ∷ []) ∷ alternative (One (Insert (Code (codes "5"))) ∷ []) ∷ []) ∷ [])

-- S: ["z"-"a"]. b: #D800.
abbrev pub last_rule_wrong : Grammar
last_rule_wrong = grammar (rule (codes "S") (alternative (One (from_to 122 97) ∷ []) ∷ []) ∷ rule (codes "b") (alternative (numbered (codes "D800") ∷ []) ∷ []) ∷ [])

-- a grammar without a rule
abbrev pub no_rule : Grammar
no_rule = grammar []

-- S: (["b"-"a"])**["d"-"c"].
abbrev pub two_falling : Grammar
two_falling = of_term (Star (in_parentheses (One (from_to 98 97))) (Some (from_to 100 99)))

-- S: [#D800-#110000].
abbrev pub no_characters : Grammar
no_characters = of_term (One (set_of (member.Range (bound.Code (codes "D800")) (bound.Code (codes "110000")))))

-- S: [name].   for one class
abbrev pub of_class : List ℕ → Grammar
of_class name = of_term (One (set_of (member.Class name)))

-- S: t, b.   for one term t
abbrev pub and_undefined : Term → Grammar
and_undefined t = grammar (rule (codes "S") (alternative (t ∷ call (codes "b") ∷ []) ∷ []) ∷ [])

-- S: "a". b: "c". c: "d". b: "e". S: "f".
abbrev pub two_repeated : Grammar
two_repeated = grammar (
    rule (codes "S") (alternative (quoted (codes "a") ∷ []) ∷ [])
    ∷ rule (codes "b") (alternative (quoted (codes "c") ∷ []) ∷ [])
    ∷ rule (codes "c") (alternative (quoted (codes "d") ∷ []) ∷ [])
    ∷ rule (codes "b") (alternative (quoted (codes "e") ∷ []) ∷ [])
    ∷ rule (codes "S") (alternative (quoted (codes "f") ∷ []) ∷ []) ∷ [])
