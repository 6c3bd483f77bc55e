-- What a refusal says.
-- Source: this project's own; the codes are those of ix_model.
use Rattle.std.specs.Prelude.{ℕ, ◌<◌, List, [], length, get_or}
use Rattle.ix_model.specs.Documents.Dyn.{Refusal, attribute_at_top, not_one_element, bad_name, attribute_xmlns, same_attribute, bad_character}
use Rattle.ix_dyn.specs.declared.refusal.DynRefusal.{DynRefusal}
use Rattle.ix_dyn.specs.declared.refusal.DynRefusal.TheVariants.{AttributeAtTop, NotOneElement, BadName, Xmlns, SameAttribute, BadChar}

module _ (names : List (List ℕ)) where
  -- the code with its item: a name is the one with its number
  abbrev pub refusal_of : DynRefusal → Refusal
  refusal_of (AttributeAtTop name) = attribute_at_top (get_or names name [])
  refusal_of (NotOneElement elements chars) = not_one_element elements chars
  refusal_of (BadName name) = bad_name (get_or names name [])
  refusal_of Xmlns = attribute_xmlns
  refusal_of (SameAttribute name) = same_attribute (get_or names name [])
  refusal_of (BadChar code) = bad_character code

  -- where an item is a name, it is there
  abbrev pub IsNameIn : DynRefusal → Type 0
  IsNameIn (AttributeAtTop name) = name < length names
  IsNameIn (NotOneElement elements chars) = Unit {0}
  IsNameIn (BadName name) = name < length names
  IsNameIn Xmlns = Unit {0}
  IsNameIn (SameAttribute name) = name < length names
  IsNameIn (BadChar code) = Unit {0}
