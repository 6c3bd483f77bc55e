-- The refusal of a marked tree: for each code the first item that it names, and of all codes the least.
-- Source: this project's own.
use Rattle.std.specs.Prelude.{ℕ, ◌==◌, ◌&&◌, if◌then◌else◌, List, [], ◌∷◌, find, Option, Some, None}
use Rattle.std.specs.List.{flat_map, list_any}
use Rattle.std.specs.Option.{option_map, option_or}
use Rattle.ix_marks.specs.declared.item.Attr.{Attr}
use Rattle.ix_marks.specs.Counted.{run_length}
use Rattle.ix_marks.specs.MarkedLists.{MarkedLists}
use Rattle.ix_marks.specs.Repeats.{repeat_among}
use Rattle.ix_dyn.specs.declared.refusal.DynRefusal.{DynRefusal}
use Rattle.ix_dyn.specs.declared.refusal.DynRefusal.TheVariants.{AttributeAtTop, NotOneElement, BadName, Xmlns, SameAttribute, BadChar}
use Rattle.ix_dyn.specs.Items.{item_numbers, item_characters, is_bad_character, is_bad_number, has_xmlns}
use Rattle.ix_dyn.specs.Top.{begin_count, sum_at_top}

-- E01
abbrev pub top_refusal : List Attr → Option DynRefusal
top_refusal [] = None
top_refusal (attr ∷ attrs) = Some (AttributeAtTop attr.name)

-- E02
abbrev pub count_refusal : (elements chars : ℕ) → Option DynRefusal
count_refusal elements chars = if (elements == 1) && (chars == 0) then None else Some (NotOneElement elements chars)

module _ (names : List (List ℕ)) (m : MarkedLists) where
  -- E03
  abbrev pub name_refusal : Option DynRefusal
  name_refusal = option_map BadName (find (is_bad_number names) (flat_map (item_numbers m.attrs) m.items))

  -- E04
  abbrev pub xmlns_refusal : Option DynRefusal
  xmlns_refusal = if list_any (has_xmlns names m.attrs) m.items then Some Xmlns else None

  -- E05
  abbrev pub repeat_refusal : Option DynRefusal
  repeat_refusal = option_map SameAttribute (repeat_among m.attrs m.items)

  -- E06
  abbrev pub character_refusal : Option DynRefusal
  character_refusal = option_map BadChar (find is_bad_character (flat_map (item_characters m.attrs m.chars) m.items))

  -- the least of E03 to E06
  abbrev pub refusal_within : Option DynRefusal
  refusal_within = option_or name_refusal (option_or xmlns_refusal (option_or repeat_refusal character_refusal))

  -- the least of all
  abbrev pub least_refusal : Option DynRefusal
  least_refusal = option_or (top_refusal m.top) (option_or (count_refusal (sum_at_top begin_count 0 m.items) (sum_at_top run_length 0 m.items)) refusal_within)
