-- A grammar with each form of term, and its numbered rules.
use Rattle.std.specs.Prelude.{ℕ, false, List, [], ◌∷◌, Some, None, codes}
use Rattle.ix_model.specs.declared.grammar.Grammar.{Grammar}
use Rattle.ix_model.specs.declared.grammar.Mark.TheVariants.{Element, Attribute, Hidden}
use Rattle.ix_model.specs.declared.grammar.Term.{One, Opt, Star, Plus}
use Rattle.ix_model.specs.declared.grammar.Factor.{Factor, Set, Call, Group}
use Rattle.ix_model.specs.declared.rules.Kind.TheVariants as kind
use Rattle.ix_model.specs.declared.rules.Sym.{Sym}
use Rattle.ix_model.specs.declared.rules.Sym.TheVariants as sym
use Rattle.ix_model.specs.declared.rules.Flat.{Flat}
use Rattle.ix_model.specs.declared.rules.Rules.{Rules}
use Rattle.ix_model.specs.declared.rules.Terminal.{Terminal}
use Rattle.ix_model.specs.declared.rules.Terminal.TheVariants as terminal
use Rattle.ix_examples.specs.SmallGrammars.{alternative, rule, marked_rule, grammar, quoted, deleted, inserted, marked_call, digits}
use Rattle.ix_examples.specs.SmallRules.{flat, helper, shown, range}

-- ---- the grammar

-- (b?; ["0"-"9"])
abbrev pub option_or_digit : Factor
option_or_digit = Group (alternative (Opt (Call None (codes "b")) ∷ []) ∷ alternative (One (Set None false (digits ∷ [])) ∷ []) ∷ [])

-- (-","; ";")
abbrev pub comma_or_semicolon : Factor
comma_or_semicolon = Group (alternative (One (deleted (codes ",")) ∷ []) ∷ alternative (quoted (codes ";") ∷ []) ∷ [])

-- S: (b?; ["0"-"9"])++(-","; ";"), @b, +"x". -b: -"1"*.
abbrev pub many_helpers : Grammar
many_helpers = grammar (
    rule (codes "S") (alternative (Plus option_or_digit (Some comma_or_semicolon) ∷ marked_call Attribute (codes "b") ∷ inserted (codes "x") ∷ []) ∷ [])
    ∷ marked_rule (Some Hidden) (codes "b") (alternative (Star (deleted (codes "1")) None ∷ []) ∷ []) ∷ [])

-- ---- its rules

-- a terminal that is deleted
abbrev pub left_out : ℕ → Sym
left_out n = sym.Term n false

abbrev pub many_flats : List Flat
many_flats =
    flat kind.Named ((helper 2 ∷ sym.Rule 1 (Some Attribute) ∷ sym.Insert 0 ∷ []) ∷ [])
    ∷ flat kind.Named ((helper 6 ∷ []) ∷ [])
    ∷ flat kind.List ((helper 3 ∷ []) ∷ (helper 2 ∷ helper 5 ∷ helper 3 ∷ []) ∷ [])
    ∷ flat kind.Group ((helper 4 ∷ []) ∷ (shown 0 ∷ []) ∷ [])
    ∷ flat kind.Opt ((helper 1 ∷ []) ∷ [] ∷ [])
    ∷ flat kind.Group ((left_out 1 ∷ []) ∷ (shown 2 ∷ []) ∷ [])
    ∷ flat kind.Star ([] ∷ (helper 7 ∷ []) ∷ [])
    ∷ flat kind.List ((left_out 3 ∷ []) ∷ (helper 7 ∷ left_out 3 ∷ []) ∷ []) ∷ []

abbrev pub many_terminals : List Terminal
many_terminals = terminal.Set (range 48 57 ∷ []) ∷ terminal.Lit (codes ",") ∷ terminal.Lit (codes ";") ∷ terminal.Lit (codes "1") ∷ []

abbrev pub many_rules : Rules
many_rules = record { names = codes "S" ∷ codes "b" ∷ []; marks = Element ∷ Hidden ∷ []; flats = many_flats; terminals = many_terminals; inserts = codes "x" ∷ [] }

-- rules without a name, a mark, or anything but these
abbrev pub nameless : List Flat → List Terminal → List (List ℕ) → Rules
nameless flats terminals inserts = record { names = []; marks = []; flats = flats; terminals = terminals; inserts = inserts }
