-- The units of a document, one after the other, are its bytes.
use Rattle.std.proofs.Common.{◌≡◌, refl, ap, ap₂, sym, subst, ◌∙◌, ℕ, zero, suc, Bool, true, false, Some, slice_get, List, [], ◌∷◌, ◌++◌, append_assoc, arith, map, encode_utf8}
use Rattle.std.specs.Prelude.{codes}
use Rattle.std.specs.List.{concat, flat_map, AllByRecursion}
use Rattle.std.proofs.lemmas.List.Folds.{concat-append}
use Rattle.ix_model.specs.declared.state.State.{State}
use Rattle.ix_model.specs.Documents.Dyn.{HasNoRefusal, attribute_at_top, not_one_element, attribute_names, element_count, character_count}
use Rattle.ix_model.specs.Documents.Gives.{attribute, element, run, Givens, nothing, followed}
use Rattle.ix_model.specs.Documents.Xml.{content_bytes, value_bytes, name_bytes, attribute_bytes, state_bytes, xml}
use Rattle.ix_marks.specs.InRange.{AreIn}
use Rattle.ix_marks.specs.MarkedLists.{MarkedLists}
use Rattle.ix_marks.specs.Pieces.{Attribute, Piece, start_tag, end_tag, characters, attributes, pieces}
use Rattle.ix_marks.specs.Standing.{StandsFor}
use Rattle.ix_marks.specs.Telling.{names_of, elements_at, characters_at}
use Rattle.ix_marks.specs.Writing.{attributes_written, written, document, IsSolid}
use Rattle.ix_marks.proofs.Telling.{pieces_tell}
use Rattle.ix_marks.proofs.Writing.{runs_are_solid, document_is_written}
use Rattle.ix_serial.specs.declared.cursor.Cursor.{Cursor}
use Rattle.ix_serial.specs.Cursors.{beginning, rest}
use Rattle.ix_serial.specs.Units.{name_units, attribute_units, document_units}

-- ---- unit by unit

map_joined : (f : ℕ → List ℕ) (cs : List ℕ) → concat (map f cs) ≡ flat_map f cs
map_joined f [] = refl
map_joined f (c ∷ cs) = ap (λ z. f c ++ z) (map_joined f cs)

attribute_joined : (a : Attribute) → concat (attribute_units a) ≡ attribute_bytes a.name a.value
attribute_joined a =
    ap (λ z. codes " " ++ z)
    (concat-append (name_units a.name) (codes "=\"" ∷ (map value_bytes a.value ++ (codes "\"" ∷ [])))
    ∙ ap₂ (λ name val. name ++ (codes "=\"" ++ val)) (map_joined encode_utf8 a.name)
    (concat-append (map value_bytes a.value) (codes "\"" ∷ []) ∙ ap (λ z. z ++ codes "\"") (map_joined value_bytes a.value)))

attributes_joined : (ats : List Attribute) → concat (flat_map attribute_units ats) ≡ attributes_written ats
attributes_joined [] = refl
attributes_joined (a ∷ ats) = concat-append (attribute_units a) (flat_map attribute_units ats) ∙ ap₂ (λ x y. x ++ y) (attribute_joined a) (attributes_joined ats)

tag_joined : (words name : List ℕ) (ats : List Attribute) (more : List (List ℕ)) →
    concat ((name_units name ++ (words ∷ flat_map attribute_units ats)) ++ more) ≡ name_bytes name ++ ((words ++ attributes_written ats) ++ concat more)
tag_joined words name ats more =
    concat-append (name_units name ++ (words ∷ flat_map attribute_units ats)) more
    ∙ ap (λ z. z ++ concat more)
    (concat-append (name_units name) (words ∷ flat_map attribute_units ats) ∙ ap₂ (λ x y. x ++ (words ++ y)) (map_joined encode_utf8 name) (attributes_joined ats))
    ∙ append_assoc (name_bytes name) (words ++ attributes_written ats) (concat more)

moved : (a b c d : List ℕ) → a ++ (b ++ (c ++ d)) ≡ (a ++ (b ++ c)) ++ d
moved a b c d = simp append_assoc

run_joined : (cs : List ℕ) (ps : List Piece) → concat (document_units [] false ps) ≡ written false ps ++ 10 ∷ [] →
    concat (map content_bytes cs ++ document_units [] false ps) ≡ (flat_map content_bytes cs ++ written false ps) ++ 10 ∷ []
run_joined cs ps behind =
    concat-append (map content_bytes cs) (document_units [] false ps)
    ∙ ap₂ (λ x y. x ++ y) (map_joined content_bytes cs) behind
    ∙ sym (append_assoc (flat_map content_bytes cs) (written false ps) (10 ∷ []))

joined : (tag_open : Bool) (ps : List Piece) → concat (document_units [] tag_open ps) ≡ written tag_open ps ++ 10 ∷ []
joined tag_open [] = refl
joined false (start_tag name ats ∷ ps) =
    ap (λ z. codes "<" ++ z)
    (tag_joined [] name ats (document_units [] true ps) ∙ ap (λ z. name_bytes name ++ (attributes_written ats ++ z)) (joined true ps)
    ∙ moved (name_bytes name) (attributes_written ats) (written true ps) (10 ∷ []))
joined true (start_tag name ats ∷ ps) =
    ap (λ z. codes "><" ++ z)
    (tag_joined [] name ats (document_units [] true ps) ∙ ap (λ z. name_bytes name ++ (attributes_written ats ++ z)) (joined true ps)
    ∙ moved (name_bytes name) (attributes_written ats) (written true ps) (10 ∷ []))
joined false (end_tag name ∷ ps) =
    ap (λ z. codes "</" ++ z)
    (concat-append (name_units name ++ (codes ">" ∷ [])) (document_units [] false ps)
    ∙ ap (λ z. z ++ concat (document_units [] false ps)) (concat-append (name_units name) (codes ">" ∷ []) ∙ ap (λ z. z ++ codes ">") (map_joined encode_utf8 name))
    ∙ append_assoc (name_bytes name) (codes ">") (concat (document_units [] false ps))
    ∙ ap (λ z. name_bytes name ++ (codes ">" ++ z)) (joined false ps)
    ∙ moved (name_bytes name) (codes ">") (written false ps) (10 ∷ []))
joined true (end_tag name ∷ ps) = ap (λ z. codes "/>" ++ z) (joined false ps)
joined false (characters cs ∷ ps) = run_joined cs ps (joined false ps)
joined true (characters cs ∷ ps) = ap (λ z. codes ">" ++ z) (run_joined cs ps (joined false ps))

root_joined : (state : State) (name : List ℕ) (ats : List Attribute) (ps : List Piece) →
    concat (document_units (state_bytes state) false (start_tag name ats ∷ ps)) ≡ document state (start_tag name ats ∷ ps)
root_joined state name ats ps =
    ap (λ z. codes "<" ++ z)
    (tag_joined (state_bytes state) name ats (document_units [] true ps) ∙ ap (λ z. name_bytes name ++ ((state_bytes state ++ attributes_written ats) ++ z)) (joined true ps)
    ∙ moved (name_bytes name) (state_bytes state ++ attributes_written ats) (written true ps) (10 ∷ []))

-- ---- what no code holds of

-- the first piece is a start tag
abbrev BeginsWithTag : List Piece → Type 0
BeginsWithTag qs = (name : List ℕ) × (ats : List Attribute) × (ps : List Piece) × (qs ≡ start_tag name ats ∷ ps)

begins_with_tag : (gs : Givens) → AllByRecursion IsSolid (pieces gs) → element_count gs ≡ 1 → character_count gs ≡ 0 → BeginsWithTag (pieces gs)
begins_with_tag nothing h e c = absurd (omega (arith, e))
begins_with_tag (followed (attribute name val) gs) h e c = begins_with_tag gs h e c
begins_with_tag (followed (element name inner) gs) h e c = (name, attributes inner, pieces inner ++ (end_tag name ∷ pieces gs), refl)
begins_with_tag (followed (run []) gs) h e c = absurd h.0
begins_with_tag (followed (run (d ∷ ds)) gs) h e c = absurd (omega (arith, c))

no_attribute : (ats : List Attribute) (names : List (List ℕ)) → names ≡ names_of ats → ((name : List ℕ) → ¬ (slice_get names 0 ≡ Some name)) → ats ≡ []
no_attribute [] names e h = refl
no_attribute (a ∷ ats) names e h = absurd (h a.name (ap (λ (z : List (List ℕ)). slice_get z 0) e))

no_attribute_at_top : (gs : Givens) → HasNoRefusal gs → attributes gs ≡ []
no_attribute_at_top gs h = no_attribute (attributes gs) (attribute_names gs) (pieces_tell gs).attribute_names (λ name. h (attribute_at_top name))

counted : (elements chars : ℕ) → ¬ (¬ ((elements ≡ 1) × (chars ≡ 0))) → (elements ≡ 1) × (chars ≡ 0)
counted zero chars h = absurd (h (λ p. omega (arith, p.0)))
counted (suc (suc n)) chars h = absurd (h (λ p. omega (arith, p.0)))
counted (suc zero) (suc n) h = absurd (h (λ p. omega (arith, p.1)))
counted (suc zero) zero h = (refl, refl)

one_element : (gs : Givens) → HasNoRefusal gs → (element_count gs ≡ 1) × (character_count gs ≡ 0)
one_element gs h = counted (element_count gs) (character_count gs) (λ p. h (not_one_element (element_count gs) (character_count gs)) (refl, refl, p))

-- ---- the document

-- one element with nothing beside it is read by its pieces
one_read : (state : State) (gs : Givens) → AllByRecursion IsSolid (pieces gs) → attributes gs ≡ [] → element_count gs ≡ 1 → character_count gs ≡ 0 →
    concat (document_units (state_bytes state) false (pieces gs)) ≡ xml gs state
one_read state gs s a e c =
    let root = begins_with_tag gs s e c in
    subst (λ (qs : List Piece). concat (document_units (state_bytes state) false qs) ≡ document state qs) (sym root.3) (root_joined state root.0 root.1 root.2)
    ∙ sym (document_is_written gs state s a e c)

-- where no code holds of one of those that the marked tree stands for, each of them is read from its items
pub document_read : (names : List (List ℕ)) (m : MarkedLists) (state : State) (one gs : Givens) → AreIn names m → StandsFor names m one → HasNoRefusal one → StandsFor names m gs →
    concat (rest names m (beginning state)) ≡ xml gs state
document_read names m state one gs i t h s =
    let same : pieces gs ≡ pieces one = sym s.items ∙ t.items in
    let counts = one_element one h in
    ap (λ (qs : List Piece). concat (document_units (state_bytes state) false qs)) s.items
    ∙ one_read state gs (runs_are_solid names m gs i s)
    (sym s.top ∙ t.top ∙ no_attribute_at_top one h)
    ((pieces_tell gs).element_count ∙ ap (elements_at 0) same ∙ sym (pieces_tell one).element_count ∙ counts.0)
    ((pieces_tell gs).character_count ∙ ap (characters_at 0) same ∙ sym (pieces_tell one).character_count ∙ counts.1)

-- one unit more is read
pub one_more : (names : List (List ℕ)) (m : MarkedLists) (old new : Cursor) (done unit : List ℕ) → rest names m old ≡ unit ∷ rest names m new →
    (done ++ unit) ++ concat (rest names m new) ≡ done ++ concat (rest names m old)
one_more names m old new done unit e = append_assoc done unit (concat (rest names m new)) ∙ ap (λ xs. done ++ concat xs) (sym e)
