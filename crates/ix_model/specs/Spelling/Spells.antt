-- Which characters spell a grammar: one relation for each rule of the grammar of grammars, by cases on whole lists of characters.
-- `XAt b r x` says that the characters b are a spelling of x and then r. Names end by the rule of `Words`.
-- Source: Invisible XML 1.0, the grammar of grammars, rule by rule.
use Rattle.std.specs.Prelude.{◌≡◌, ◌≢◌, ◌⊎◌, ℕ, Bool, true, false, not, ◌==◌, ◌&&◌, nat_le, if◌then◌else◌, List, [], ◌∷◌, ◌++◌, codes, IsTrue, Option, Some, None}
use Rattle.std.specs.List.{AllByRecursion}
use Rattle.std.specs.Char.{char_set_contains}
use Rattle.ix_model.specs.declared.grammar.Grammar.{Grammar}
use Rattle.ix_model.specs.declared.grammar.Rule.{Rule}
use Rattle.ix_model.specs.declared.grammar.Mark.{Mark}
use Rattle.ix_model.specs.declared.grammar.Mark.TheVariants.{Element, Attribute, Hidden}
use Rattle.ix_model.specs.declared.grammar.TMark.{TMark}
use Rattle.ix_model.specs.declared.grammar.TMark.TheVariants.{Shown, Deleted}
use Rattle.ix_model.specs.declared.grammar.Chars.{Chars}
use Rattle.ix_model.specs.declared.grammar.Chars.TheVariants as chars
use Rattle.ix_model.specs.declared.grammar.Member.{Member}
use Rattle.ix_model.specs.declared.grammar.Member.TheVariants as member
use Rattle.ix_model.specs.declared.grammar.Bound.{Bound}
use Rattle.ix_model.specs.declared.grammar.Bound.TheVariants as bound
use Rattle.ix_model.specs.declared.grammar.Alt.{Alt}
use Rattle.ix_model.specs.declared.grammar.Term.{Term, One, Opt, Star, Plus}
use Rattle.ix_model.specs.declared.grammar.Factor.{Factor, Lit, Set, Call, Insert, Group}
use Rattle.ix_model.specs.Spelling.Spacing.{Takes, S, RS}
use Rattle.ix_model.specs.Spelling.Words.{NameAt}

-- one of the two marks stands here
abbrev pub TakesEither : List ℕ → List ℕ → List ℕ → List ℕ → Type 0
TakesEither one two b r = Takes one b r ⊎ Takes two b r

-- ---- marks

-- the mark of a rule or a call: `@`, `^`, `-` or none
pub data MarkAt : List ℕ → List ℕ → Option Mark → Type 0 where
  no_mark : (c : List ℕ) → MarkAt c c None
  attribute : (b c r : List ℕ) → Takes (codes "@") b c → S c r → MarkAt b r (Some Attribute)
  element : (b c r : List ℕ) → Takes (codes "^") b c → S c r → MarkAt b r (Some Element)
  hidden : (b c r : List ℕ) → Takes (codes "-") b c → S c r → MarkAt b r (Some Hidden)

-- the mark of a literal or a set: `^`, `-` or none
pub data TMarkAt : List ℕ → List ℕ → Option TMark → Type 0 where
  no_tmark : (c : List ℕ) → TMarkAt c c None
  shown : (b c r : List ℕ) → Takes (codes "^") b c → S c r → TMarkAt b r (Some Shown)
  deleted : (b c r : List ℕ) → Takes (codes "-") b c → S c r → TMarkAt b r (Some Deleted)

-- ---- strings and numbers

-- the characters as they stand between quotes q: each q twice
abbrev pub escaped : ℕ → List ℕ → List ℕ
escaped q [] = []
escaped q (x ∷ xs) = if x == q then q ∷ q ∷ escaped q xs else x ∷ escaped q xs

-- neither a line feed nor a carriage return is among the characters
abbrev pub IsOneLine : List ℕ → Type 0
IsOneLine xs = AllByRecursion (λ x. IsTrue (not (char_set_contains (10 ∷ 13 ∷ []) x))) xs

-- a string between two quotes `"` or two quotes `'`
abbrev pub StringAt : List ℕ → List ℕ → List ℕ → Type 0
StringAt b r xs = (q : ℕ) × IsTrue (char_set_contains (codes "\"'") q) × IsOneLine xs × (b ≡ q ∷ (escaped q xs ++ (q ∷ r)))

-- whether c is a hexadecimal digit, of either case
abbrev pub is_hex_digit : ℕ → Bool
is_hex_digit = char_set_contains (codes "0123456789abcdefABCDEF")

-- one hexadecimal digit or more
abbrev pub IsHex : List ℕ → Type 0
IsHex digits = (digits ≢ []) × AllByRecursion (λ d. IsTrue (is_hex_digit d)) digits

-- `#` and hexadecimal digits
abbrev pub HexAt : List ℕ → List ℕ → List ℕ → Type 0
HexAt b r digits = (b ≡ codes "#" ++ (digits ++ r)) × IsHex digits

-- the characters of a literal or an insertion, and spacing behind them
pub data CharsAt : List ℕ → List ℕ → Chars → Type 0 where
  by_string : (b c r xs : List ℕ) → StringAt b c xs → S c r → CharsAt b r (chars.Quoted xs)
  by_number : (b c r ds : List ℕ) → HexAt b c ds → S c r → CharsAt b r (chars.Code ds)

-- ---- sets

-- a bound of a range: a string of one character, or a number
pub data BoundAt : List ℕ → List ℕ → Bound → Type 0 where
  one_character : (x : ℕ) (b r : List ℕ) → StringAt b r (x ∷ []) → BoundAt b r (bound.Quoted x)
  one_number : (b r ds : List ℕ) → HexAt b r ds → BoundAt b r (bound.Code ds)

-- whether c is one of `A` to `Z`
abbrev pub is_capital : ℕ → Bool
is_capital c = nat_le 65 c && nat_le c 90

-- whether c is one of `a` to `z`
abbrev pub is_small : ℕ → Bool
is_small c = nat_le 97 c && nat_le c 122

-- whether a name has the form of a class: a capital letter, and then at most one small letter
abbrev pub is_class : List ℕ → Bool
is_class [] = false
is_class (c ∷ []) = is_capital c
is_class (c ∷ d ∷ []) = is_capital c && is_small d
is_class (c ∷ d ∷ e ∷ cs) = false

-- a member of a set
pub data MemberAt : List ℕ → List ℕ → Member → Type 0 where
  string_member : (b r xs : List ℕ) → StringAt b r xs → MemberAt b r (member.Quoted xs)
  number_member : (b r ds : List ℕ) → HexAt b r ds → MemberAt b r (member.Code ds)
  range_member : (b c d e f r : List ℕ) (low high : Bound) → BoundAt b c low → S c d → Takes (codes "-") d e → S e f → BoundAt f r high → MemberAt b r (member.Range low high)
  class_member : (b r code : List ℕ) → IsTrue (is_class code) → NameAt b r code → MemberAt b r (member.Class code)

-- one member or more, parted by `;` or `|`, and spacing behind each
pub data MembersAt : List ℕ → List ℕ → List Member → Type 0 where
  last_member : (b c r : List ℕ) (m : Member) → MemberAt b c m → S c r → MembersAt b r (m ∷ [])
  more_members : (b c d e f r : List ℕ) (m : Member) (ms : List Member) → MemberAt b c m → S c d → TakesEither (codes ";") (codes "|") d e → S e f → MembersAt f r ms → MembersAt b r (m ∷ ms)

-- members in brackets, or none; an exclusion has `~` before them
pub data SetAt : List ℕ → List ℕ → Bool → List Member → Type 0 where
  empty_set : (b c d r : List ℕ) → Takes (codes "[") b c → S c d → Takes (codes "]") d r → SetAt b r false []
  members : (b c d e r : List ℕ) (ms : List Member) → Takes (codes "[") b c → S c d → MembersAt d e ms → Takes (codes "]") e r → SetAt b r false ms
  excluded : (b c d r : List ℕ) (ms : List Member) → Takes (codes "~") b c → S c d → SetAt d r false ms → SetAt b r true ms

-- ---- alternatives

mutual
  -- one alternative or more, parted by `;` or `|`
  pub data AltsAt : List ℕ → List ℕ → List Alt → Type 0 where
    last_alt : (b r : List ℕ) (a : Alt) → AltAt b r a.terms → AltsAt b r (a ∷ [])
    more_alts : (b c d e r : List ℕ) (a : Alt) (rest : List Alt) → AltAt b c a.terms → TakesEither (codes ";") (codes "|") c d → S d e → AltsAt e r rest → AltsAt b r (a ∷ rest)

  -- an alternative: terms, or nothing
  pub data AltAt : List ℕ → List ℕ → List Term → Type 0 where
    empty_alt : (c : List ℕ) → AltAt c c []
    some_terms : (b r : List ℕ) (t : Term) (ts : List Term) → TermsAt b r t ts → AltAt b r (t ∷ ts)

  -- a term and those behind it, parted by `,`
  pub data TermsAt : List ℕ → List ℕ → Term → List Term → Type 0 where
    last_term : (b r : List ℕ) (t : Term) → TermAt b r t → TermsAt b r t []
    more_terms : (b c d e r : List ℕ) (t u : Term) (ts : List Term) → TermAt b c t → Takes (codes ",") c d → S d e → TermsAt e r u ts → TermsAt b r t (u ∷ ts)

  -- a factor alone, an option, or a repetition; a separator stands behind `**` or `++`
  pub data TermAt : List ℕ → List ℕ → Term → Type 0 where
    alone : (b r : List ℕ) (f : Factor) → FactorAt b r f → TermAt b r (One f)
    option : (b c d r : List ℕ) (f : Factor) → FactorAt b c f → Takes (codes "?") c d → S d r → TermAt b r (Opt f)
    star : (b c d r : List ℕ) (f : Factor) → FactorAt b c f → Takes (codes "*") c d → S d r → TermAt b r (Star f None)
    star_by : (b c d e r : List ℕ) (f s : Factor) → FactorAt b c f → Takes (codes "**") c d → S d e → FactorAt e r s → TermAt b r (Star f (Some s))
    plus : (b c d r : List ℕ) (f : Factor) → FactorAt b c f → Takes (codes "+") c d → S d r → TermAt b r (Plus f None)
    plus_by : (b c d e r : List ℕ) (f s : Factor) → FactorAt b c f → Takes (codes "++") c d → S d e → FactorAt e r s → TermAt b r (Plus f (Some s))

  -- a literal, a set, a call, an insertion, or alternatives in parentheses; spacing behind each
  pub data FactorAt : List ℕ → List ℕ → Factor → Type 0 where
    literal : (b c r : List ℕ) (m : Option TMark) (cs : Chars) → TMarkAt b c m → CharsAt c r cs → FactorAt b r (Lit m cs)
    set : (b c d r : List ℕ) (m : Option TMark) (exclude : Bool) (ms : List Member) → TMarkAt b c m → SetAt c d exclude ms → S d r → FactorAt b r (Set m exclude ms)
    called : (b c d r : List ℕ) (m : Option Mark) (name : List ℕ) → MarkAt b c m → NameAt c d name → S d r → FactorAt b r (Call m name)
    inserted : (b c d r : List ℕ) (cs : Chars) → Takes (codes "+") b c → S c d → CharsAt d r cs → FactorAt b r (Insert cs)
    grouped : (b c d e f r : List ℕ) (alts : List Alt) → Takes (codes "(") b c → S c d → AltsAt d e alts → Takes (codes ")") e f → S f r → FactorAt b r (Group alts)

-- ---- rules

-- a rule, with its full stop
pub data RuleAt : List ℕ → List ℕ → Rule → Type 0 where
  a_rule : (b c d e f h i r : List ℕ) (rule : Rule) → MarkAt b c rule.mark → NameAt c d rule.name → S d e → TakesEither (codes "=") (codes ":") e f → S f h → AltsAt h i rule.alts → Takes (codes ".") i r → RuleAt b r rule

-- one rule or more, with spacing between them
pub data RulesAt : List ℕ → List ℕ → List Rule → Type 0 where
  last_rule : (b r : List ℕ) (rule : Rule) → RuleAt b r rule → RulesAt b r (rule ∷ [])
  more_rules : (b c d r : List ℕ) (rule : Rule) (rules : List Rule) → RuleAt b c rule → RS c d → RulesAt d r rules → RulesAt b r (rule ∷ rules)

-- the prolog with the version, or none
pub data PrologAt : List ℕ → List ℕ → Option (List ℕ) → Type 0 where
  no_prolog : (c : List ℕ) → PrologAt c c None
  prolog : (b c d e f h i r xs : List ℕ) → Takes (codes "ixml") b c → RS c d → Takes (codes "version") d e → RS e f → StringAt f h xs → S h i → (j : List ℕ) → Takes (codes ".") i j → S j r → PrologAt b r (Some xs)

-- the characters spell the grammar
pub data Spells : List ℕ → Grammar → Type 0 where
  spells : (a b c d : List ℕ) (g : Grammar) → S a b → PrologAt b c g.version → RulesAt c d g.rules → S d [] → Spells a g
