-- What the reading of the tokens to come depends on, and the values that were read left out.
use Rattle.std.specs.Prelude.{◌≡◌, Bool, true, false, List, [], ◌∷◌, map, Option, Some, None}
use Rattle.ix_model.specs.declared.grammar.Factor.{Factor, Call}
use Rattle.ix_model.specs.declared.grammar.Bound.{Bound}
use Rattle.ix_model.specs.declared.grammar.Bound.TheVariants as bound
use Rattle.ix_model.specs.declared.grammar.Grammar.{Grammar}
use Rattle.ix_spelling_laws.specs.Reading.Machine.{Phase, Hole, Frame, Work, State, Part, item, star_of, plus_of, set_start, member_next, bound_read, range_to, member_read, item_read}

-- whether the factor that comes is a separator
abbrev pub is_separator : Hole → Bool
is_separator item = false
is_separator (star_of x) = true
is_separator (plus_of x) = true

-- the same for each frame
abbrev pub separators : List Frame → List Bool
separators fs = map (λ (f : Frame). is_separator f.hole) fs

-- the same for all frames, the innermost first
abbrev pub holes : Work → List Bool
holes w = is_separator w.top.hole ∷ separators w.below

abbrev pub no_part : Part
no_part = record { tmark = None; exclude = false; members = [] }

abbrev pub no_bound : Bound
no_bound = bound.Code []

abbrev pub no_factor : Factor
no_factor = Call None []

-- the phase, without what was read of a set or of an item
abbrev pub bare : Phase → Phase
bare (set_start s) = set_start no_part
bare (member_next s) = member_next no_part
bare (bound_read s b) = bound_read no_part no_bound
bare (range_to s b) = range_to no_part no_bound
bare (member_read s) = member_read no_part
bare (item_read x) = item_read no_factor
bare p = p

-- the hole, without the item before a separator
abbrev pub bare_hole : Hole → Hole
bare_hole item = item
bare_hole (star_of x) = star_of no_factor
bare_hole (plus_of x) = star_of no_factor

-- no value that was read stands in the state, but in the frames below the innermost
pub record IsBare (s : State) : Type 0 where
  pub phase : s.phase ≡ bare s.phase
  pub hole : s.work.top.hole ≡ bare_hole s.work.top.hole
  pub alts : s.work.top.alts ≡ []
  pub terms : s.work.top.terms ≡ []
  pub version : s.work.version ≡ None
  pub rules : s.work.rules ≡ []
  pub mark : s.work.mark ≡ None
  pub name : s.work.name ≡ []

pub record Outline : Type 0 where
  pub phase : Phase
  pub holes : List Bool

-- the phase without what was read, and for each frame whether the factor that comes is a separator
abbrev pub outline : State → Outline
outline s = record { phase = bare s.phase; holes = holes s.work }

-- whether there is a grammar
abbrev pub whether : Option Grammar → Option (Unit {0})
whether None = None
whether (Some g) = Some tt
