-- A small plan whose closure has a subtree with four different numbers.
use Rattle.std.specs.Prelude.{true, [], ◌∷◌, map, codes}
use Rattle.ix_model.specs.declared.grammar.Mark.TheVariants.{Element}
use Rattle.ix_model.specs.declared.rules.Kind.TheVariants.{Named}
use Rattle.ix_model.specs.declared.rules.Sym.TheVariants as sym
use Rattle.ix_model.specs.declared.rules.Flat.{Flat}
use Rattle.ix_model.specs.declared.rules.Terminal.TheVariants as terminal
use Rattle.ix_model.specs.Expansion.Parts.{Parts}
use Rattle.ix_model.specs.Expansion.Expanded.{line}
use Rattle.ix_model.specs.Expansion.Numbering.{numbering}

-- the rule S: ; "a", "b".
abbrev pub empty_or_ab : Flat
empty_or_ab = record { kind = Named; lines = map line ([] ∷ (sym.Term 0 true ∷ sym.Term 1 true ∷ []) ∷ []) }

-- of this rule, on `ab`
abbrev pub on_ab : Parts
on_ab = record {
  rules = record { names = codes "S" ∷ []; marks = Element ∷ []; flats = empty_or_ab ∷ []; terminals = terminal.Lit (codes "a") ∷ terminal.Lit (codes "b") ∷ []; inserts = [] };
  slots = numbering (empty_or_ab ∷ []);
  text = codes "ab";
}
