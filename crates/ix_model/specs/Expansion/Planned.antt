-- What holds of each plan, and of the plans of a grammar.
use Rattle.std.specs.Prelude.{◌≡◌, ◌↔◌, ℕ, ◌<◌, ◌≤◌, ◌^◌, length, Some, slice_get}
use Rattle.std.specs.Char.{IsScalar}
use Rattle.std.specs.List.{AllByRecursion}
use Rattle.ix_model.specs.declared.grammar.Grammar.{Grammar}
use Rattle.ix_model.specs.declared.rules.Kind.TheVariants.{Named}
use Rattle.ix_model.specs.declared.rules.Sym.{Sym}
use Rattle.ix_model.specs.declared.rules.Sym.TheVariants as sym
use Rattle.ix_model.specs.declared.rules.Rules.{Rules}
use Rattle.ix_model.specs.Grammars.Names.{HasUniqueNames}
use Rattle.ix_model.specs.Expansion.Expanded.{Expanded}
use Rattle.ix_model.specs.Expansion.Parts.{Parts}
use Rattle.ix_model.specs.Expansion.Numbered.{kind_at, syms_at}
use Rattle.ix_model.specs.Expansion.Numbering.{numbering}

-- what the symbol names by a number is there
abbrev pub IsThere : Rules → Sym → Type 0
IsThere rules (sym.Term n shown) = n < length rules.terminals
IsThere rules (sym.Rule r mark) = r < length rules.flats
IsThere rules (sym.Insert n) = n < length rules.inserts

-- what each symbol names is there
abbrev pub AreThere : Rules → Type 0
AreThere rules = (r a n : ℕ) (x : Sym) → slice_get (syms_at rules r a) n ≡ Some x → IsThere rules x

pub record IsPlanned (p : Parts) : Type 0 where
  -- the slots are those of the rules, in the order of their numbers
  pub numbered : p.slots ≡ numbering p.rules.flats
  -- there is a first rule; each named rule has a name and a mark, and no helper has
  pub first_named : 0 < length p.rules.names
  pub marked : length p.rules.marks ≡ length p.rules.names
  pub named : (r : ℕ) → r < length p.rules.flats → (kind_at p.rules r ≡ Named) ↔ (r < length p.rules.names)
  pub names_within : length p.rules.names ≤ length p.rules.flats
  pub symbols : AreThere p.rules
  -- rules, slots and positions in the text have numbers of 32 bits
  pub rules_fit : length p.rules.flats < 2 ^ 32
  pub slots_fit : length p.slots < 2 ^ 32
  pub text_fits : length p.text < 2 ^ 32

-- the plan is of the rules of a grammar that has a first rule and unique names, and its text is made of characters
pub record IsPlanOf (g : Grammar) (plan : Parts) : Type 0 where
  pub text : AllByRecursion IsScalar plan.text
  pub unique : HasUniqueNames g
  pub first : 0 < length g.rules
  pub expanded : Expanded g plan.rules
