-- Where the subtrees of a slot belong, and where they lead.
use Rattle.std.specs.Prelude.{◌≡◌, ℕ, ◌<◌, List, length, Option, Some, get_or}
use Rattle.std.specs.Option.{ForSome}
use Rattle.ix_model.specs.declared.grammar.Mark.{Mark}
use Rattle.ix_model.specs.declared.rules.Sym.{Sym}
use Rattle.ix_model.specs.declared.rules.Sym.TheVariants as sym
use Rattle.ix_model.specs.Expansion.Parts.{Parts}
use Rattle.ix_model.specs.Expansion.SlotPlaces.{HasNext, IsLastSlot}
use Rattle.ix_subtrees.specs.declared.node.Owner.TheVariants.{Slot, Rule}
use Rattle.ix_subtrees.specs.declared.place.Place.{Place}
use Rattle.ix_subtrees.specs.Walks.{no_place}

module _ (plan : Parts) where
  pub record IsPlace (slot : ℕ) (place : Place) : Type 0 where
    pub last : (q : ℕ) → IsLastSlot plan slot q → place.owner ≡ Rule q
    pub inner : (v : ℕ) (x : Sym) → HasNext plan slot v x → place.owner ≡ Slot slot
    pub before : (v : ℕ) (x : Sym) → HasNext plan v slot x → place.before ≡ Some (Slot v)
    pub only_before : ForSome place.before (λ o. (v : ℕ) × (x : Sym) × HasNext plan v slot x × (o ≡ Slot v))
    pub child : (v q : ℕ) (m : Option Mark) → HasNext plan v slot (sym.Rule q m) → place.child ≡ Some (Rule q)
    pub only_child : ForSome place.child (λ o. (v : ℕ) × (q : ℕ) × (m : Option Mark) × HasNext plan v slot (sym.Rule q m) × (o ≡ Rule q))

  pub record ArePlaces (places : List Place) : Type 0 where
    pub all : length places ≡ length plan.slots
    pub each : (slot : ℕ) → slot < length places → IsPlace slot (get_or places slot no_place)
