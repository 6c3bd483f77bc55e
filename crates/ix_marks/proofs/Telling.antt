-- What the pieces tell.
use Rattle.std.proofs.Common.{◌≡◌, ◌+◌, refl, ap, sym, ◌∙◌, ℕ, suc, List, ◌∷◌, ◌++◌, length, append_assoc}
use Rattle.std.specs.List.{flat_map}
use Rattle.std.proofs.lemmas.List.Concat.{flat_map-append}
use Rattle.ix_model.specs.Documents.Gives.{attribute, element, run, Givens, nothing, followed}
use Rattle.ix_model.specs.Documents.Dyn.{attribute_names, value_characters, element_count, character_count, content_names, content_characters, content_attributes}
use Rattle.ix_marks.specs.Laws.{PiecesTell}
use Rattle.ix_marks.specs.Pieces.{Piece, end_tag, attributes, pieces}
use Rattle.ix_marks.specs.Telling.{names_of, values_of, piece_names, piece_characters, piece_attributes, elements_at, characters_at}

told_names : (gs : Givens) → attribute_names gs ≡ names_of (attributes gs)
told_names nothing = refl
told_names (followed (attribute name val) gs) = ap (λ z. name ∷ z) (told_names gs)
told_names (followed (element name inner) gs) = told_names gs
told_names (followed (run cs) gs) = told_names gs

told_values : (gs : Givens) → value_characters gs ≡ values_of (attributes gs)
told_values nothing = refl
told_values (followed (attribute name val) gs) = ap (λ z. val ++ z) (told_values gs)
told_values (followed (element name inner) gs) = told_values gs
told_values (followed (run cs) gs) = told_values gs

told_content_names : (gs : Givens) → content_names gs ≡ flat_map piece_names (pieces gs)
told_content_names nothing = refl
told_content_names (followed (attribute name val) gs) = told_content_names gs
told_content_names (followed (element name inner) gs) =
    ap (λ z. name ∷ ((z ++ content_names inner) ++ content_names gs)) (told_names inner)
    ∙ ap (λ z. name ∷ ((names_of (attributes inner) ++ z) ++ content_names gs)) (told_content_names inner)
    ∙ ap (λ z. name ∷ ((names_of (attributes inner) ++ flat_map piece_names (pieces inner)) ++ z)) (told_content_names gs)
    ∙ ap (λ z. name ∷ z) (append_assoc (names_of (attributes inner)) (flat_map piece_names (pieces inner)) (flat_map piece_names (pieces gs)))
    ∙ ap (λ z. name ∷ (names_of (attributes inner) ++ z)) (sym (flat_map-append piece_names (pieces inner) (end_tag name ∷ pieces gs)))
told_content_names (followed (run cs) gs) = told_content_names gs

told_content_characters : (gs : Givens) → content_characters gs ≡ flat_map piece_characters (pieces gs)
told_content_characters nothing = refl
told_content_characters (followed (attribute name val) gs) = told_content_characters gs
told_content_characters (followed (element name inner) gs) =
    ap (λ z. (z ++ content_characters inner) ++ content_characters gs) (told_values inner)
    ∙ ap (λ z. (values_of (attributes inner) ++ z) ++ content_characters gs) (told_content_characters inner)
    ∙ ap (λ z. (values_of (attributes inner) ++ flat_map piece_characters (pieces inner)) ++ z) (told_content_characters gs)
    ∙ append_assoc (values_of (attributes inner)) (flat_map piece_characters (pieces inner)) (flat_map piece_characters (pieces gs))
    ∙ ap (λ z. values_of (attributes inner) ++ z) (sym (flat_map-append piece_characters (pieces inner) (end_tag name ∷ pieces gs)))
told_content_characters (followed (run cs) gs) = ap (λ z. cs ++ z) (told_content_characters gs)

told_content_attributes : (gs : Givens) → content_attributes gs ≡ flat_map piece_attributes (pieces gs)
told_content_attributes nothing = refl
told_content_attributes (followed (attribute name val) gs) = told_content_attributes gs
told_content_attributes (followed (element name inner) gs) =
    ap (λ z. z ∷ (content_attributes inner ++ content_attributes gs)) (told_names inner)
    ∙ ap (λ z. names_of (attributes inner) ∷ (z ++ content_attributes gs)) (told_content_attributes inner)
    ∙ ap (λ z. names_of (attributes inner) ∷ (flat_map piece_attributes (pieces inner) ++ z)) (told_content_attributes gs)
    ∙ ap (λ z. names_of (attributes inner) ∷ z) (sym (flat_map-append piece_attributes (pieces inner) (end_tag name ∷ pieces gs)))
told_content_attributes (followed (run cs) gs) = told_content_attributes gs

within_elements : (gs : Givens) (depth : ℕ) (ps : List Piece) → elements_at (suc depth) (pieces gs ++ ps) ≡ elements_at (suc depth) ps
within_elements nothing depth ps = refl
within_elements (followed (attribute name val) gs) depth ps = within_elements gs depth ps
within_elements (followed (element name inner) gs) depth ps =
    ap (elements_at (suc (suc depth))) (append_assoc (pieces inner) (end_tag name ∷ pieces gs) ps)
    ∙ within_elements inner (suc depth) (end_tag name ∷ (pieces gs ++ ps))
    ∙ within_elements gs depth ps
within_elements (followed (run cs) gs) depth ps = within_elements gs depth ps

top_elements : (gs : Givens) → element_count gs ≡ elements_at 0 (pieces gs)
top_elements nothing = refl
top_elements (followed (attribute name val) gs) = top_elements gs
top_elements (followed (element name inner) gs) =
    ap (λ n. 1 + n) (top_elements gs ∙ sym (within_elements inner 0 (end_tag name ∷ pieces gs)))
top_elements (followed (run cs) gs) = top_elements gs

within_characters : (gs : Givens) (depth : ℕ) (ps : List Piece) → characters_at (suc depth) (pieces gs ++ ps) ≡ characters_at (suc depth) ps
within_characters nothing depth ps = refl
within_characters (followed (attribute name val) gs) depth ps = within_characters gs depth ps
within_characters (followed (element name inner) gs) depth ps =
    ap (characters_at (suc (suc depth))) (append_assoc (pieces inner) (end_tag name ∷ pieces gs) ps)
    ∙ within_characters inner (suc depth) (end_tag name ∷ (pieces gs ++ ps))
    ∙ within_characters gs depth ps
within_characters (followed (run cs) gs) depth ps = within_characters gs depth ps

top_characters : (gs : Givens) → character_count gs ≡ characters_at 0 (pieces gs)
top_characters nothing = refl
top_characters (followed (attribute name val) gs) = top_characters gs
top_characters (followed (element name inner) gs) = top_characters gs ∙ sym (within_characters inner 0 (end_tag name ∷ pieces gs))
top_characters (followed (run cs) gs) = ap (λ n. length cs + n) (top_characters gs)

pub pieces_tell : PiecesTell
pieces_tell gs = record {
  attribute_names = told_names gs;
  value_characters = told_values gs;
  content_names = told_content_names gs;
  content_characters = told_content_characters gs;
  content_attributes = told_content_attributes gs;
  element_count = top_elements gs;
  character_count = top_characters gs;
}
