-- The numbered rules of a written grammar. Helper rules stand for groups, options and repetitions; they are numbered in
-- one walk from left to right, a term's own helpers before those of its item, and those before those of its separator.
-- Terminals and insertions are numbered in the same walk, by their places.
-- Source of the helpers: Invisible XML 1.0, "Hints for implementors". That lists recurse on the left, and the numbers,
-- are this project's own.
use Rattle.std.specs.Prelude.{◌≡◌, ◌↔◌, ℕ, ◌+◌, Bool, List, [], ◌∷◌, map, length, Option, Some, None, slice_get}
use Rattle.std.specs.Char.{IsScalar}
use Rattle.ix_model.specs.declared.grammar.Grammar.{Grammar}
use Rattle.ix_model.specs.declared.grammar.Rule.{Rule}
use Rattle.ix_model.specs.declared.grammar.Mark.{Mark}
use Rattle.ix_model.specs.declared.grammar.TMark.{TMark}
use Rattle.ix_model.specs.declared.grammar.Chars.{Chars}
use Rattle.ix_model.specs.declared.grammar.Member.{Member}
use Rattle.ix_model.specs.declared.grammar.Alt.{Alt}
use Rattle.ix_model.specs.declared.grammar.Term.{Term, One, Opt, Star, Plus}
use Rattle.ix_model.specs.declared.grammar.Factor.{Factor, Lit, Set, Call, Insert, Group}
use Rattle.ix_model.specs.declared.rules.Kind.{Kind}
use Rattle.ix_model.specs.declared.rules.Kind.TheVariants as kind
use Rattle.ix_model.specs.declared.rules.Sym.{Sym}
use Rattle.ix_model.specs.declared.rules.Sym.TheVariants as sym
use Rattle.ix_model.specs.declared.rules.Line.{Line}
use Rattle.ix_model.specs.declared.rules.Rules.{Rules}
use Rattle.ix_model.specs.declared.char_set.CharRange.{CharRange}
use Rattle.ix_model.specs.declared.rules.Terminal.TheVariants as terminal
use Rattle.ix_model.specs.Grammars.Written.{IsNamed}
use Rattle.ix_model.specs.Matching.Codes.{characters}
use Rattle.ix_model.specs.Matching.Sets.{InSet}
use Rattle.ix_model.specs.Documents.Bare.{is_shown_by, effective}
use Rattle.ix_model.specs.Matching.Ranges.{IsInRanges}

-- the numbers that come next in the walk
pub record Next : Type 0 where
  pub rule : ℕ
  pub terminal : ℕ
  pub insert : ℕ

-- the alternative of these symbols
abbrev pub line : List Sym → Line
line syms = record { syms = syms }

-- the second alternative of the list p: the list again, the separator where there is one, and the item
abbrev pub next_syms : ℕ → Sym → Option Sym → List Sym
next_syms p x None = sym.Rule p None ∷ x ∷ []
next_syms p x (Some s) = sym.Rule p None ∷ s ∷ x ∷ []

-- rule n is of this kind and has exactly these alternatives
abbrev pub HasFlat : Rules → ℕ → Kind → List (List Sym) → Type 0
HasFlat rules n kind lines = slice_get rules.flats n ≡ Some (record { kind = kind; lines = map line lines })

-- terminal n is a set that holds, of all characters, exactly those that the members mean
abbrev pub HasSet : Rules → ℕ → Bool → List Member → Type 0
HasSet rules n exclude members =
    (ranges : List CharRange) × (slice_get rules.terminals n ≡ Some (terminal.Set ranges)) × ((c : ℕ) → IsScalar c → IsInRanges c ranges ↔ InSet exclude members c)

module _ (g : Grammar) (rules : Rules) where
  mutual
    -- from these numbers on, the term becomes the symbol, and its helpers stand there
    pub data TermBecomes : Next → Term → Sym → Next → Type 0 where
      alone : (a b : Next) (f : Factor) (x : Sym) → FactorBecomes a f x b → TermBecomes a (One f) x b
      -- `f?`: f; nothing
      option : (a b : Next) (f : Factor) (x : Sym) → HasFlat rules a.rule kind.Opt ((x ∷ []) ∷ [] ∷ []) → FactorBecomes (record a { rule = a.rule + 1 }) f x b → TermBecomes a (Opt f) (sym.Rule a.rule None) b
      plus : (a b : Next) (f : Factor) (sep : Option Factor) (p : Sym) → RepeatBecomes a f sep p b → TermBecomes a (Plus f sep) p b
      -- `f*`, `f**s`: nothing; the list
      star : (a b : Next) (f : Factor) (sep : Option Factor) (p : Sym) → HasFlat rules a.rule kind.Star ([] ∷ (p ∷ []) ∷ []) → RepeatBecomes (record a { rule = a.rule + 1 }) f sep p b → TermBecomes a (Star f sep) (sym.Rule a.rule None) b

    -- the items with their separator become the list: an item; the list, the separator and an item
    pub data RepeatBecomes : Next → Factor → Option Factor → Sym → Next → Type 0 where
      repeated : (a b c : Next) (f : Factor) (sep : Option Factor) (x : Sym) (s : Option Sym) →
          HasFlat rules a.rule kind.List ((x ∷ []) ∷ next_syms a.rule x s ∷ []) → FactorBecomes (record a { rule = a.rule + 1 }) f x b → SeparatorBecomes b sep s c → RepeatBecomes a f sep (sym.Rule a.rule None) c

    pub data SeparatorBecomes : Next → Option Factor → Option Sym → Next → Type 0 where
      no_separator : (a : Next) → SeparatorBecomes a None None a
      separator : (a b : Next) (f : Factor) (x : Sym) → FactorBecomes a f x b → SeparatorBecomes a (Some f) (Some x) b

    -- the factor becomes the symbol
    pub data FactorBecomes : Next → Factor → Sym → Next → Type 0 where
      literal : (a : Next) (m : Option TMark) (cs : Chars) → slice_get rules.terminals a.terminal ≡ Some (terminal.Lit (characters cs)) → FactorBecomes a (Lit m cs) (sym.Term a.terminal (is_shown_by m)) (record a { terminal = a.terminal + 1 })
      set : (a : Next) (m : Option TMark) (exclude : Bool) (ms : List Member) → HasSet rules a.terminal exclude ms → FactorBecomes a (Set m exclude ms) (sym.Term a.terminal (is_shown_by m)) (record a { terminal = a.terminal + 1 })
      inserted : (a : Next) (cs : Chars) → slice_get rules.inserts a.insert ≡ Some (characters cs) → FactorBecomes a (Insert cs) (sym.Insert a.insert) (record a { insert = a.insert + 1 })
      called : (a : Next) (m : Option Mark) (name : List ℕ) (r : ℕ) → IsNamed g r name → FactorBecomes a (Call m name) (sym.Rule r m) a
      grouped : (a b : Next) (alts : List Alt) (lines : List (List Sym)) → HasFlat rules a.rule kind.Group lines → AltsBecome (record a { rule = a.rule + 1 }) alts lines b → FactorBecomes a (Group alts) (sym.Rule a.rule None) b

    -- the alternatives become these symbols, one list for each
    pub data AltsBecome : Next → List Alt → List (List Sym) → Next → Type 0 where
      no_alt : (a : Next) → AltsBecome a [] [] a
      and_alt : (a b c : Next) (alt : Alt) (alts : List Alt) (syms : List Sym) (lines : List (List Sym)) → TermsBecome a alt.terms syms b → AltsBecome b alts lines c → AltsBecome a (alt ∷ alts) (syms ∷ lines) c

    -- the terms become these symbols, one for each
    pub data TermsBecome : Next → List Term → List Sym → Next → Type 0 where
      no_term : (a : Next) → TermsBecome a [] [] a
      and_term : (a b c : Next) (t : Term) (ts : List Term) (x : Sym) (xs : List Sym) → TermBecomes a t x b → TermsBecome b ts xs c → TermsBecome a (t ∷ ts) (x ∷ xs) c

  -- these rules become the named rules from number n on
  pub data RulesBecome : ℕ → Next → List Rule → Next → Type 0 where
    no_rule : (n : ℕ) (a : Next) → RulesBecome n a [] a
    and_rule : (n : ℕ) (a b c : Next) (rule : Rule) (more : List Rule) (lines : List (List Sym)) → HasFlat rules n kind.Named lines → AltsBecome a rule.alts lines b → RulesBecome (n + 1) b more c → RulesBecome n a (rule ∷ more) c

  -- the rules are those of the grammar: names and marks in order, the walk, and nothing else
  pub record Expanded : Type 0 where
    pub end : Next
    pub names : rules.names ≡ map (λ (rule : Rule). rule.name) g.rules
    -- a rule without a mark is an element
    pub marks : rules.marks ≡ map (λ (rule : Rule). effective None rule.mark) g.rules
    pub walk : RulesBecome 0 (record { rule = length g.rules; terminal = 0; insert = 0 }) g.rules end
    pub rule_count : length rules.flats ≡ end.rule
    pub terminal_count : length rules.terminals ≡ end.terminal
    pub insert_count : length rules.inserts ≡ end.insert
