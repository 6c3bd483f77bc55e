-- What stands at a number of the numbered rules. Where nothing stands there it is a default, which no reader answers
-- and no derivation meets.
use Rattle.std.specs.Prelude.{ℕ, List, [], slice_get, get_or, unwrap_or, option_map}
use Rattle.ix_model.specs.declared.grammar.Mark.{Mark}
use Rattle.ix_model.specs.declared.grammar.Mark.TheVariants.{Element}
use Rattle.ix_model.specs.declared.rules.Kind.{Kind}
use Rattle.ix_model.specs.declared.rules.Kind.TheVariants.{Named}
use Rattle.ix_model.specs.declared.rules.Sym.{Sym}
use Rattle.ix_model.specs.declared.rules.Sym.TheVariants as sym
use Rattle.ix_model.specs.declared.rules.Line.{Line}
use Rattle.ix_model.specs.declared.rules.Flat.{Flat}
use Rattle.ix_model.specs.declared.rules.Terminal.{Terminal}
use Rattle.ix_model.specs.declared.rules.Terminal.TheVariants as terminal
use Rattle.ix_model.specs.declared.rules.Rules.{Rules}

module _ (rules : Rules) where
  -- the kind of rule r
  abbrev pub kind_at : ℕ → Kind
  kind_at r = unwrap_or (option_map (λ (flat : Flat). flat.kind) (slice_get rules.flats r)) Named

  -- the alternatives of rule r
  abbrev pub lines_at : ℕ → List Line
  lines_at r = unwrap_or (option_map (λ (flat : Flat). flat.lines) (slice_get rules.flats r)) []

  -- the symbols of alternative a of rule r
  abbrev pub syms_at : ℕ → ℕ → List Sym
  syms_at r a = unwrap_or (option_map (λ (line : Line). line.syms) (slice_get (lines_at r) a)) []

  -- symbol n of alternative a of rule r
  abbrev pub sym_at : ℕ → ℕ → ℕ → Sym
  sym_at r a n = get_or (syms_at r a) n (sym.Insert 0)

  -- the name with this number
  abbrev pub name_at : ℕ → List ℕ
  name_at n = get_or rules.names n []

  -- the mark of the named rule r
  abbrev pub mark_at : ℕ → Mark
  mark_at r = get_or rules.marks r Element

  -- the terminal with this number
  abbrev pub terminal_at : ℕ → Terminal
  terminal_at n = get_or rules.terminals n (terminal.Lit [])

  -- the text of the insertion with this number
  abbrev pub insert_at : ℕ → List ℕ
  insert_at n = get_or rules.inserts n []
