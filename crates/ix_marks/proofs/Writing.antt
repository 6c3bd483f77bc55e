-- What is written of the pieces is what is written of an element's parts.
use Rattle.std.proofs.Common.{◌≡◌, ◌≤◌, ◌==◌, ◌⊎◌, inl, inr, refl, ap, sym, ◌∙◌, ℕ, true, false, List, [], ◌∷◌, ◌++◌, length, append_assoc, append-nil, length-append, arith, ◌-◌, map, drop, length-take, length-drop, subst}
use Rattle.std.specs.Prelude.{codes, encode_utf8}
use Rattle.std.specs.List.{flat_map, AllByRecursion}
use Rattle.std.proofs.lemmas.Bool.{cond_both}
use Rattle.std.proofs.lemmas.Str.{length-le-encodes}
use Rattle.ix_model.specs.Documents.Gives.{attribute, element, run, Givens, nothing, followed}
use Rattle.ix_model.specs.Documents.Xml.{content_bytes, name_bytes, attribute_bytes, attributes_bytes, element_bytes, contents_bytes, state_bytes, xml}
use Rattle.ix_model.specs.declared.state.State.{State}
use Rattle.ix_model.specs.Documents.Dyn.{element_count, character_count}
use Rattle.ix_marks.specs.Pieces.{Piece, end_tag, characters, attributes, pieces}
use Rattle.ix_marks.specs.declared.item.Item.{Item}
use Rattle.ix_marks.specs.declared.item.Item.TheVariants.{Begin, Close, Chars}
use Rattle.ix_marks.specs.declared.item.Attr.{Attr}
use Rattle.ix_model.proofs.AllOf.{all_left, all_right}
use Rattle.ix_marks.specs.InRange.{AreItemsIn}
use Rattle.ix_marks.specs.Laws.{PiecesAreWritten, RunsAreSolid, DocumentIsWritten}
use Rattle.ix_marks.specs.Meaning.{piece_of}
use Rattle.ix_marks.specs.Ranges.{range_of}
use Rattle.ix_marks.specs.Writing.{attributes_written, IsSolid, written, document}

first_of_list : (xs : List ℕ) → 1 ≤ length xs → (b : ℕ) × (bs : List ℕ) × (xs ≡ b ∷ bs)
first_of_list [] h = absurd (omega arith)
first_of_list (x ∷ xs) h = (x, xs, refl)

encode_some : (c : ℕ) → 1 ≤ length (encode_utf8 c)
encode_some c = omega (arith, length-le-encodes (c ∷ []), length-append (encode_utf8 c) [])

content_some : (c : ℕ) → 1 ≤ length (content_bytes c)
content_some c =
    cond_both (c == 38) _ _ (λ (xs : List ℕ). 1 ≤ length xs) (λ e. omega arith)
    (λ e. cond_both (c == 60) _ _ (λ (xs : List ℕ). 1 ≤ length xs) (λ e. omega arith)
    (λ e. cond_both (c == 62) _ _ (λ (xs : List ℕ). 1 ≤ length xs) (λ e. omega arith)
    (λ e. cond_both (c == 13) _ _ (λ (xs : List ℕ). 1 ≤ length xs) (λ e. omega arith) (λ e. encode_some c))))

told_attributes : (gs : Givens) → attributes_bytes gs ≡ attributes_written (attributes gs)
told_attributes nothing = refl
told_attributes (followed (attribute name val) gs) = ap (λ z. attribute_bytes name val ++ z) (told_attributes gs)
told_attributes (followed (element name inner) gs) = told_attributes gs
told_attributes (followed (run cs) gs) = told_attributes gs

element_some : (name ats bs rest : List ℕ) → 1 ≤ length (element_bytes name ats bs ++ rest)
element_some name ats [] rest = omega arith
element_some name ats (b ∷ bs) rest = omega arith

abbrev Starts : Givens → Type 0
Starts gs =
    ((pieces gs ≡ []) × (contents_bytes gs ≡ []))
    ⊎ ((1 ≤ length (contents_bytes gs)) × ((qs : List Piece) → written true (pieces gs ++ qs) ≡ codes ">" ++ written false (pieces gs ++ qs)))

starts : (gs : Givens) → AllByRecursion IsSolid (pieces gs) → Starts gs
starts nothing h = inl (refl, refl)
starts (followed (attribute name val) gs) h = starts gs h
starts (followed (element name inner) gs) h = inr (element_some name (attributes_bytes inner) (contents_bytes inner) (contents_bytes gs), λ qs. refl)
starts (followed (run []) gs) h = absurd h.0
starts (followed (run (c ∷ cs)) gs) h =
    inr (omega (arith, content_some c, length-append (content_bytes c ++ flat_map content_bytes cs) (contents_bytes gs), length-append (content_bytes c) (flat_map content_bytes cs)), λ qs. refl)

regroup : (l n a g c s w : List ℕ) → l ++ (n ++ (a ++ (g ++ (c ++ (s ++ (n ++ (g ++ w))))))) ≡ (l ++ (n ++ (a ++ (g ++ (c ++ (s ++ (n ++ g))))))) ++ w
regroup l n a g c s w = sym (simp append_assoc)

regroup_short : (l n a e w : List ℕ) → l ++ (n ++ (a ++ (e ++ w))) ≡ (l ++ (n ++ (a ++ e))) ++ w
regroup_short l n a e w = sym (simp append_assoc)

element_written : (name ats : List ℕ) (inner : Givens) (qs : List Piece) → Starts inner → ((rs : List Piece) → written false (pieces inner ++ rs) ≡ contents_bytes inner ++ written false rs) →
    codes "<" ++ (name_bytes name ++ (ats ++ written true (pieces inner ++ (end_tag name ∷ qs)))) ≡ element_bytes name ats (contents_bytes inner) ++ written false qs
element_written name ats inner qs (inl h) k =
    ap (λ (z : List Piece). codes "<" ++ (name_bytes name ++ (ats ++ written true (z ++ (end_tag name ∷ qs))))) h.0
    ∙ regroup_short (codes "<") (name_bytes name) ats (codes "/>") (written false qs)
    ∙ ap (λ z. element_bytes name ats z ++ written false qs) (sym h.1)
element_written name ats inner qs (inr h) k =
    let f = first_of_list (contents_bytes inner) h.0 in
    ap (λ z. codes "<" ++ (name_bytes name ++ (ats ++ z))) (h.1 (end_tag name ∷ qs))
    ∙ ap (λ z. codes "<" ++ (name_bytes name ++ (ats ++ (codes ">" ++ z)))) (k (end_tag name ∷ qs) ∙ ap (λ z. z ++ written false (end_tag name ∷ qs)) f.2)
    ∙ regroup (codes "<") (name_bytes name) ats (codes ">") (f.0 ∷ f.1) (codes "</") (written false qs)
    ∙ ap (λ z. element_bytes name ats z ++ written false qs) (sym f.2)

written_is : (gs : Givens) → AllByRecursion IsSolid (pieces gs) → (qs : List Piece) → written false (pieces gs ++ qs) ≡ contents_bytes gs ++ written false qs
written_is nothing h qs = refl
written_is (followed (attribute name val) gs) h qs = written_is gs h qs
written_is (followed (element name inner) gs) h qs =
    let hi : AllByRecursion IsSolid (pieces inner) = all_left IsSolid (pieces inner) (end_tag name ∷ pieces gs) h.1 in
    let hg : AllByRecursion IsSolid (pieces gs) = (all_right IsSolid (pieces inner) (end_tag name ∷ pieces gs) h.1).1 in
    ap (λ z. codes "<" ++ (name_bytes name ++ (z ++ written true ((pieces inner ++ (end_tag name ∷ pieces gs)) ++ qs)))) (sym (told_attributes inner))
    ∙ ap (λ (z : List Piece). codes "<" ++ (name_bytes name ++ (attributes_bytes inner ++ written true z))) (append_assoc (pieces inner) (end_tag name ∷ pieces gs) qs)
    ∙ element_written name (attributes_bytes inner) inner (pieces gs ++ qs) (starts inner hi) (written_is inner hi)
    ∙ ap (λ z. element_bytes name (attributes_bytes inner) (contents_bytes inner) ++ z) (written_is gs hg qs)
    ∙ sym (append_assoc (element_bytes name (attributes_bytes inner) (contents_bytes inner)) (contents_bytes gs) (written false qs))
written_is (followed (run cs) gs) h qs =
    ap (λ z. flat_map content_bytes cs ++ z) (written_is gs h.1 qs) ∙ sym (append_assoc (flat_map content_bytes cs) (contents_bytes gs) (written false qs))

pub pieces_are_written : PiecesAreWritten
pieces_are_written gs h = sym (ap (written false) (sym (append-nil (pieces gs))) ∙ written_is gs h [] ∙ append-nil (contents_bytes gs))

solid_run : (cs : List ℕ) → 1 ≤ length cs → IsSolid (characters cs)
solid_run [] h = absurd (omega (arith, h))
solid_run (c ∷ cs) h = tt

solid_items : (names : List (List ℕ)) (attrs : List Attr) (chars : List ℕ) (items : List Item) → AreItemsIn names attrs chars items → AllByRecursion IsSolid (map (piece_of names attrs chars) items)
solid_items names attrs chars [] h = tt
solid_items names attrs chars (Begin n low high ∷ items) h = (tt, solid_items names attrs chars items h.1)
solid_items names attrs chars (Close n ∷ items) h = (tt, solid_items names attrs chars items h.1)
solid_items names attrs chars (Chars low high ∷ items) h =
    (solid_run (range_of chars low high) (omega (arith, h.0.0, h.0.1, length-take (high - low) (drop low chars), length-drop low chars)), solid_items names attrs chars items h.1)

pub runs_are_solid : RunsAreSolid
runs_are_solid names m gs i s = subst (AllByRecursion IsSolid) s.items (solid_items names m.attrs m.chars m.items i.items_in)

nothing_else : (gs : Givens) → AllByRecursion IsSolid (pieces gs) → attributes gs ≡ [] → element_count gs ≡ 0 → character_count gs ≡ 0 → gs ≡ nothing
nothing_else nothing h a e c = refl
nothing_else (followed (attribute name val) gs) h a e c = absurd (cc (a))
nothing_else (followed (element name inner) gs) h a e c = absurd (omega (arith, e))
nothing_else (followed (run []) gs) h a e c = absurd h.0
nothing_else (followed (run (d ∷ ds)) gs) h a e c = absurd (omega (arith, c))

root_written : (name : List ℕ) (inner : Givens) (state : State) → AllByRecursion IsSolid (pieces inner) → xml (followed (element name inner) nothing) state ≡ document state (pieces (followed (element name inner) nothing))
root_written name inner state h =
    let ats = state_bytes state ++ attributes_bytes inner in
    ap (λ z. z ++ 10 ∷ []) (sym (append-nil (element_bytes name ats (contents_bytes inner))) ∙ sym (element_written name ats inner [] (starts inner h) (written_is inner h)))
    ∙ ap (λ z. (codes "<" ++ (name_bytes name ++ ((state_bytes state ++ z) ++ written true (pieces inner ++ (end_tag name ∷ []))))) ++ 10 ∷ []) (told_attributes inner)

pub document_is_written : DocumentIsWritten
document_is_written nothing state h a e c = absurd (omega (arith, e))
document_is_written (followed (attribute name val) gs) state h a e c = absurd (cc (a))
document_is_written (followed (element name inner) gs) state h a e c =
    let hi : AllByRecursion IsSolid (pieces inner) = all_left IsSolid (pieces inner) (end_tag name ∷ pieces gs) h.1 in
    let hg : AllByRecursion IsSolid (pieces gs) = (all_right IsSolid (pieces inner) (end_tag name ∷ pieces gs) h.1).1 in
    let q : gs ≡ nothing = nothing_else gs hg a (omega (arith, e)) c in
    subst (λ z. xml (followed (element name inner) z) state ≡ document state (pieces (followed (element name inner) z))) (sym q) (root_written name inner state hi)
document_is_written (followed (run []) gs) state h a e c = absurd h.0
document_is_written (followed (run (d ∷ ds)) gs) state h a e c = absurd (omega (arith, c))
