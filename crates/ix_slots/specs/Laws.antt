-- Laws of plans: what comes of a grammar within the limits can be planned, and its terminals match where the written
-- literals and sets do.
use Rattle.std.specs.Prelude.{◌<◌, ◌≤◌, ◌↔◌, ◌*◌, ℕ, Bool, List, length}
use Rattle.std.specs.Char.{IsScalar}
use Rattle.std.specs.List.{AllByRecursion}
use Rattle.ix_model.specs.declared.grammar.Grammar.{Grammar}
use Rattle.ix_model.specs.declared.grammar.Term.{One}
use Rattle.ix_model.specs.declared.grammar.Factor.{Factor}
use Rattle.ix_model.specs.declared.rules.Rules.{Rules}
use Rattle.ix_model.specs.declared.rules.Sym.TheVariants as sym
use Rattle.ix_model.specs.Matching.Terminals.{Matches}
use Rattle.ix_model.specs.Expansion.Numbered.{terminal_at}
use Rattle.ix_model.specs.Expansion.Numbering.{numbering}
use Rattle.ix_model.specs.Expansion.Expanded.{Next, FactorBecomes, Expanded}
use Rattle.ix_model.specs.Expansion.FlatDerives.{TerminalMatches}
use Rattle.ix_model.specs.Grammars.Size.{size}
use Rattle.ix_model.specs.Answers.Limits.{grammar_limit, text_limit}
use Rattle.ix_slots.specs.Plannable.{IsPlannable}

-- the numbered rules of a grammar with a first rule can be planned for a text, where the grammar is no larger than a
-- file may be, the slots are at most nine times its size, and the text is no longer than a text may be
abbrev pub ExpandedIsPlannable : Type 0
ExpandedIsPlannable =
    (g : Grammar) (rules : Rules) (text : List ℕ) → 0 < length g.rules → Expanded g rules → size g ≤ grammar_limit →
    length (numbering rules.flats) ≤ 9 * size g → length text ≤ text_limit → IsPlannable rules text

-- where a literal or a set of the grammar has become terminal n, the terminal matches a span of a text exactly where the
-- written literal or set does
abbrev pub TerminalIsWritten : Type 0
TerminalIsWritten =
    (g : Grammar) (rules : Rules) (s : List ℕ) (a b : Next) (f : Factor) (n : ℕ) (shown : Bool) (i j : ℕ) →
    AllByRecursion IsScalar s → FactorBecomes g rules a f (sym.Term n shown) b →
    TerminalMatches s (terminal_at rules n) i j ↔ Matches s (One f) i j
