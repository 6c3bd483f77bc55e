-- What a name holds among entries, by both definitions.
use Rattle.std.proofs.Common.{◌≡◌, ◌∙◌, ap, refl, sym, ℕ, Bool, true, false, cond, take, List, [], ◌∷◌, Option, Some, None, Ok, Vec, Global, unwrap_or, option_map, map, find, IfSome, subst}
use Rattle.std.specs.Option.{option_or}
use Rattle.ix_edge.specs.Told.{held, entry_of, Loads}
use Rattle.ix_edge.specs.Entries.{is_named, pair_of, told_by, held_by}
use Rattle.ix_edge.specs.declared.entry.Entry.{Entry}

entry_of_found : (es : List Entry) (name : List ℕ) → entry_of (map pair_of es) name ≡ option_map (λ e. e.bytes.items) (find (is_named name) es)
entry_of_found [] name = refl
entry_of_found (e ∷ es) name =
    elim (is_named name e) as (λ b. cond b (Some e.bytes.items) (entry_of (map pair_of es) name) ≡ option_map (λ e'. e'.bytes.items) (cond b (Some e) (find (is_named name) es))) [
      | true ↦ refl
      | false ↦ entry_of_found es name
    ]

or_some : (o : Option (List ℕ)) → option_or o (Some []) ≡ Some (unwrap_or o [])
or_some None = refl
or_some (Some bytes) = refl

or_none : (o : Option (List ℕ)) → option_or o None ≡ o
or_none None = refl
or_none (Some bytes) = refl

-- where every other name holds nothing
pub held_is : (es : List Entry) (name : List ℕ) → held (told_by true es) name ≡ Some (held_by es name)
held_is es name = ap (λ o. option_or o (Some [])) (entry_of_found es name) ∙ or_some (option_map (λ e. e.bytes.items) (find (is_named name) es))

-- where every other name is missing
pub held_found : (es : List Entry) (name : List ℕ) → held (told_by false es) name ≡ option_map (λ e. e.bytes.items) (find (is_named name) es)
held_found es name = ap (λ o. option_or o None) (entry_of_found es name) ∙ or_none (option_map (λ e. e.bytes.items) (find (is_named name) es))

-- the front of the bytes of the entry that is found is the front of what its name holds
pub front_held : {E : Type 0} (es : List Entry) (name : List ℕ) (most : ℕ) (e : Entry) (v : Vec ℕ Global) →
    find (is_named name) es ≡ Some e → v.items ≡ take most e.bytes.items → Loads {E = E} (told_by false es) name most (Ok v)
front_held es name most e v found front =
    let holds : held (told_by false es) name ≡ Some e.bytes.items = held_found es name ∙ ap (option_map (λ e'. e'.bytes.items)) found in
    record {
      bytes = subst (λ o. IfSome o (λ bytes. v.items ≡ take most bytes)) (sym holds) front;
      lacking = λ none. let lost : Some e.bytes.items ≡ None = sym holds ∙ none in absurd cc;
    }

-- an entry that was found although some loads fail
pub found_unless : (fails : Bool) (o : Option Entry) (e : Entry) → Some e ≡ cond fails None o → o ≡ Some e
found_unless true o e k = absurd cc
found_unless false o e k = sym k
