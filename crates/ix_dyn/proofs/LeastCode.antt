-- The least refusal by the lists is the least code that holds of what is given.
use Rattle.std.proofs.Common.{◌≡◌, ◌≤◌, ◌<◌, refl, ap, ap₂, sym, subst, ◌∙◌, ℕ, Bool, true, false, cond, List, [], ◌∷◌, ◌++◌, length, map, get_or, Option, Some, None, slice_get, arith}
use Rattle.std.proofs.lemmas.Bool.{eqb-true}
use Rattle.std.proofs.lemmas.List.{map-id}
use Rattle.std.specs.Prelude.{◌==◌, ◌&&◌, IfSome, MatchOption}
use Rattle.std.specs.Bool.{MatchBool}
use Rattle.std.specs.List.{find, flat_map, list_any}
use Rattle.std.specs.Option.{option_map, option_or}
use Rattle.ix_model.specs.Documents.Gives.{Givens}
use Rattle.ix_model.specs.Documents.XmlNames.{is_xml_name, is_xml_char}
use Rattle.ix_model.specs.Documents.Dyn.{Refusal, attribute_at_top, not_one_element, bad_name, attribute_xmlns, same_attribute, bad_character, refusal_number, attribute_names, content_names, content_characters, content_attributes, all_names, all_characters, element_count, character_count, HasXmlns, Holds, Dyn, HasNoRefusal}
use Rattle.ix_model.specs.Firsts.{IsFirstOf}
use Rattle.ix_marks.specs.declared.item.Attr.{Attr}
use Rattle.ix_marks.specs.Counted.{run_length}
use Rattle.ix_marks.specs.InRange.{AreAttrsIn, AreIn}
use Rattle.ix_marks.specs.Laws.{AreDistinct}
use Rattle.ix_marks.specs.MarkedLists.{MarkedLists}
use Rattle.ix_marks.specs.Meaning.{attribute_of, piece_of}
use Rattle.ix_marks.specs.Pieces.{attributes, pieces}
use Rattle.ix_marks.specs.Repeats.{repeat_among}
use Rattle.ix_marks.specs.Standing.{StandsFor}
use Rattle.ix_marks.specs.Telling.{names_of, values_of, piece_names, piece_characters, piece_attributes, elements_at, characters_at}
use Rattle.ix_marks.proofs.FirstRepeat.{repeat_tells}
use Rattle.ix_marks.proofs.RepeatInRange.{repeat_is_in}
use Rattle.ix_marks.proofs.Telling.{pieces_tell}
use Rattle.ix_dyn.specs.declared.refusal.DynRefusal.{DynRefusal}
use Rattle.ix_dyn.specs.declared.refusal.DynRefusal.TheVariants.{NotOneElement, BadName, Xmlns, SameAttribute, BadChar}
use Rattle.ix_dyn.specs.Items.{item_numbers, item_characters, is_bad_character, is_bad_number, is_xmlns, has_xmlns}
use Rattle.ix_dyn.specs.Least.{top_refusal, count_refusal, name_refusal, xmlns_refusal, repeat_refusal, character_refusal, refusal_within, least_refusal}
use Rattle.ix_dyn.specs.Refusals.{refusal_of, IsNameIn}
use Rattle.ix_dyn.specs.Top.{begin_count, sum_at_top}
use Rattle.ix_dyn.proofs.Attributes.{any_told, xmlns_told, items_told}
use Rattle.ix_dyn.proofs.Finding.{found_in, found_is_first}
use Rattle.ix_dyn.proofs.Items.{named, names_told, characters_told as content_told, numbers_in}
use Rattle.ix_dyn.proofs.Sums.{elements_told, characters_told}

-- ---- code by code

module _ (names : List (List ℕ)) (gs : Givens) where
  abbrev NoTop : Type 0
  NoTop = (name : List ℕ) → ¬ (Holds gs (attribute_at_top name))

  abbrev NoCount : Type 0
  NoCount = (elements chars : ℕ) → ¬ (Holds gs (not_one_element elements chars))

  abbrev NoName : Type 0
  NoName = (name : List ℕ) → ¬ (Holds gs (bad_name name))

  abbrev NoXmlns : Type 0
  NoXmlns = ¬ (Holds gs attribute_xmlns)

  abbrev NoSame : Type 0
  NoSame = (name : List ℕ) → ¬ (Holds gs (same_attribute name))

  abbrev NoCharacter : Type 0
  NoCharacter = (c : ℕ) → ¬ (Holds gs (bad_character c))

  -- no code below the number holds
  abbrev NoneBelow : ℕ → Type 0
  NoneBelow k = (other : Refusal) → Holds gs other → k ≤ refusal_number other

  -- the answer is the least code that holds, or none holds
  abbrev IsLeast : Option DynRefusal → Type 0
  IsLeast r = MatchOption r (HasNoRefusal gs) (λ code. Dyn gs (refusal_of names code))

  below_one : NoneBelow 1
  below_one (attribute_at_top name) h = omega arith
  below_one (not_one_element elements chars) h = omega arith
  below_one (bad_name name) h = omega arith
  below_one attribute_xmlns h = omega arith
  below_one (same_attribute name) h = omega arith
  below_one (bad_character c) h = omega arith

  below_two : NoTop → NoneBelow 2
  below_two no_top (attribute_at_top name) h = absurd (no_top name h)
  below_two no_top (not_one_element elements chars) h = omega arith
  below_two no_top (bad_name name) h = omega arith
  below_two no_top attribute_xmlns h = omega arith
  below_two no_top (same_attribute name) h = omega arith
  below_two no_top (bad_character c) h = omega arith

  below_three : NoTop → NoCount → NoneBelow 3
  below_three no_top no_count (attribute_at_top name) h = absurd (no_top name h)
  below_three no_top no_count (not_one_element elements chars) h = absurd (no_count elements chars h)
  below_three no_top no_count (bad_name name) h = omega arith
  below_three no_top no_count attribute_xmlns h = omega arith
  below_three no_top no_count (same_attribute name) h = omega arith
  below_three no_top no_count (bad_character c) h = omega arith

  below_four : NoTop → NoCount → NoName → NoneBelow 4
  below_four no_top no_count no_name (attribute_at_top name) h = absurd (no_top name h)
  below_four no_top no_count no_name (not_one_element elements chars) h = absurd (no_count elements chars h)
  below_four no_top no_count no_name (bad_name name) h = absurd (no_name name h)
  below_four no_top no_count no_name attribute_xmlns h = omega arith
  below_four no_top no_count no_name (same_attribute name) h = omega arith
  below_four no_top no_count no_name (bad_character c) h = omega arith

  below_five : NoTop → NoCount → NoName → NoXmlns → NoneBelow 5
  below_five no_top no_count no_name no_xmlns (attribute_at_top name) h = absurd (no_top name h)
  below_five no_top no_count no_name no_xmlns (not_one_element elements chars) h = absurd (no_count elements chars h)
  below_five no_top no_count no_name no_xmlns (bad_name name) h = absurd (no_name name h)
  below_five no_top no_count no_name no_xmlns attribute_xmlns h = absurd (no_xmlns h)
  below_five no_top no_count no_name no_xmlns (same_attribute name) h = omega arith
  below_five no_top no_count no_name no_xmlns (bad_character c) h = omega arith

  below_six : NoTop → NoCount → NoName → NoXmlns → NoSame → NoneBelow 6
  below_six no_top no_count no_name no_xmlns no_same (attribute_at_top name) h = absurd (no_top name h)
  below_six no_top no_count no_name no_xmlns no_same (not_one_element elements chars) h = absurd (no_count elements chars h)
  below_six no_top no_count no_name no_xmlns no_same (bad_name name) h = absurd (no_name name h)
  below_six no_top no_count no_name no_xmlns no_same attribute_xmlns h = absurd (no_xmlns h)
  below_six no_top no_count no_name no_xmlns no_same (same_attribute name) h = absurd (no_same name h)
  below_six no_top no_count no_name no_xmlns no_same (bad_character c) h = omega arith

  none_holds : NoTop → NoCount → NoName → NoXmlns → NoSame → NoCharacter → HasNoRefusal gs
  none_holds no_top no_count no_name no_xmlns no_same no_character (attribute_at_top name) = no_top name
  none_holds no_top no_count no_name no_xmlns no_same no_character (not_one_element elements chars) = no_count elements chars
  none_holds no_top no_count no_name no_xmlns no_same no_character (bad_name name) = no_name name
  none_holds no_top no_count no_name no_xmlns no_same no_character attribute_xmlns = no_xmlns
  none_holds no_top no_count no_name no_xmlns no_same no_character (same_attribute name) = no_same name
  none_holds no_top no_count no_name no_xmlns no_same no_character (bad_character c) = no_character c

  by_top : (chars : List ℕ) (top : List Attr) → map (attribute_of names chars) top ≡ attributes gs → (rest : Option DynRefusal) → (top ≡ [] → NoTop → IsLeast rest) →
      IsLeast (option_or (top_refusal top) rest)
  by_top chars [] e rest k = k refl (λ name h. absurd (cc (sym h ∙ ap (λ ns. slice_get ns 0) ((pieces_tell gs).attribute_names ∙ ap names_of (sym e)))))
  by_top chars (a ∷ more) e rest k = (ap (λ ns. slice_get ns 0) ((pieces_tell gs).attribute_names ∙ ap names_of (sym e)), below_one)

  by_count : NoTop → (elements chars : ℕ) → elements ≡ element_count gs → chars ≡ character_count gs → (rest : Option DynRefusal) → (NoCount → IsLeast rest) →
      IsLeast (option_or (count_refusal elements chars) rest)
  by_count no_top elements chars e c rest k = by (elements == 1) refl (chars == 0) refl
    where
      by : (a : Bool) → (elements == 1) ≡ a → (b : Bool) → (chars == 0) ≡ b → IsLeast (option_or (cond (a && b) None (Some (NotOneElement elements chars))) rest)
      by true p true q = k (λ n m h. h.2 (h.0 ∙ sym e ∙ eqb-true elements 1 p, h.1 ∙ sym c ∙ eqb-true chars 0 q))
      by true p false q = ((e, c, λ h. absurd (cc (ap (λ z. z == 0) h.1, q))), below_two no_top)
      by false p b q = ((e, c, λ h. absurd (cc (ap (λ z. z == 1) h.0, p))), below_two no_top)

  by_name : NoTop → NoCount → (r : Option ℕ) → MatchOption r NoName (λ n. Holds gs (bad_name (get_or names n []))) → (rest : Option DynRefusal) → (NoName → IsLeast rest) →
      IsLeast (option_or (option_map BadName r) rest)
  by_name no_top no_count None h rest k = k h
  by_name no_top no_count (Some n) h rest k = (h, below_three no_top no_count)

  by_xmlns : NoTop → NoCount → NoName → (b : Bool) → MatchBool b (Holds gs attribute_xmlns) NoXmlns → (rest : Option DynRefusal) → (NoXmlns → IsLeast rest) →
      IsLeast (option_or (cond b (Some Xmlns) None) rest)
  by_xmlns no_top no_count no_name true h rest k = (h, below_four no_top no_count no_name)
  by_xmlns no_top no_count no_name false h rest k = k h

  by_repeat : NoTop → NoCount → NoName → NoXmlns → (r : Option ℕ) → MatchOption r NoSame (λ n. Holds gs (same_attribute (get_or names n []))) → (rest : Option DynRefusal) → (NoSame → IsLeast rest) →
      IsLeast (option_or (option_map SameAttribute r) rest)
  by_repeat no_top no_count no_name no_xmlns None h rest k = k h
  by_repeat no_top no_count no_name no_xmlns (Some n) h rest k = (h, below_five no_top no_count no_name no_xmlns)

  by_character : NoTop → NoCount → NoName → NoXmlns → NoSame → (r : Option ℕ) → MatchOption r NoCharacter (λ c. Holds gs (bad_character c)) → IsLeast (option_map BadChar r)
  by_character no_top no_count no_name no_xmlns no_same None h = none_holds no_top no_count no_name no_xmlns no_same h
  by_character no_top no_count no_name no_xmlns no_same (Some c) h = (h, below_six no_top no_count no_name no_xmlns no_same)

-- ---- what the items tell of each

module _ (names : List (List ℕ)) (m : MarkedLists) (gs : Givens) (i : AreIn names m) (s : StandsFor names m gs) where
  pieces_are : pieces gs ≡ map (piece_of names m.attrs m.chars) m.items
  pieces_are = sym s.items

  elements_are : sum_at_top begin_count 0 m.items ≡ element_count gs
  elements_are = sym ((pieces_tell gs).element_count ∙ ap (elements_at 0) pieces_are ∙ elements_told names m.attrs m.chars 0 m.items)

  characters_are : sum_at_top run_length 0 m.items ≡ character_count gs
  characters_are = sym ((pieces_tell gs).character_count ∙ ap (characters_at 0) pieces_are ∙ characters_told names m.attrs m.chars 0 m.items i.items_in)

  content_attributes_are : content_attributes gs ≡ flat_map piece_attributes (map (piece_of names m.attrs m.chars) m.items)
  content_attributes_are = (pieces_tell gs).content_attributes ∙ ap (flat_map piece_attributes) pieces_are

  -- where no attribute stands at the top, all is told by the items
  module _ (t : m.top ≡ []) where
    none_at_top : attributes gs ≡ []
    none_at_top = sym s.top ∙ ap (map (attribute_of names m.chars)) t

    names_at_top : attribute_names gs ≡ []
    names_at_top = (pieces_tell gs).attribute_names ∙ ap names_of none_at_top

    all_names_are : all_names gs ≡ map (named names) (flat_map (item_numbers m.attrs) m.items)
    all_names_are = ap (λ xs. xs ++ content_names gs) names_at_top ∙ (pieces_tell gs).content_names ∙ ap (flat_map piece_names) pieces_are ∙ names_told names m.attrs m.chars m.items

    all_characters_are : all_characters gs ≡ map (λ (c : ℕ). c) (flat_map (item_characters m.attrs m.chars) m.items)
    all_characters_are =
        ap (λ xs. xs ++ content_characters gs) ((pieces_tell gs).value_characters ∙ ap values_of none_at_top) ∙ (pieces_tell gs).content_characters ∙ ap (flat_map piece_characters) pieces_are
        ∙ content_told names m.attrs m.chars m.items ∙ sym (map-id (flat_map (item_characters m.attrs m.chars) m.items))

    name_is_told : MatchOption (find (is_bad_number names) (flat_map (item_numbers m.attrs) m.items)) (NoName names gs) (λ n. Holds gs (bad_name (get_or names n [])))
    name_is_told = by (find (is_bad_number names) ns) (found_is_first (named names) is_xml_name ns)
      where
        ns : List ℕ
        ns = flat_map (item_numbers m.attrs) m.items

        by : (r : Option ℕ) → MatchOption r ((n : ℕ) (y : List ℕ) → slice_get (map (named names) ns) n ≡ Some y → ¬ (¬ (is_xml_name y ≡ true))) (λ x. IsFirstOf (λ n y. ¬ (is_xml_name y ≡ true)) (map (named names) ns) (named names x)) →
            MatchOption r (NoName names gs) (λ n. Holds gs (bad_name (get_or names n [])))
        by None h = λ name g. let f = subst (λ (ys : List (List ℕ)). IsFirstOf (λ n y. ¬ (is_xml_name y ≡ true)) ys name) all_names_are g in h f.0 name f.1.0 f.1.1
        by (Some x) h = subst (λ (ys : List (List ℕ)). IsFirstOf (λ n y. ¬ (is_xml_name y ≡ true)) ys (named names x)) (sym all_names_are) h

    character_is_told : MatchOption (find is_bad_character (flat_map (item_characters m.attrs m.chars) m.items)) (NoCharacter names gs) (λ c. Holds gs (bad_character c))
    character_is_told = by (find is_bad_character cs) (found_is_first (λ (c : ℕ). c) is_xml_char cs)
      where
        cs : List ℕ
        cs = flat_map (item_characters m.attrs m.chars) m.items

        by : (r : Option ℕ) → MatchOption r ((n : ℕ) (y : ℕ) → slice_get (map (λ (c : ℕ). c) cs) n ≡ Some y → ¬ (¬ (is_xml_char y ≡ true))) (λ x. IsFirstOf (λ n y. ¬ (is_xml_char y ≡ true)) (map (λ (c : ℕ). c) cs) x) →
            MatchOption r (NoCharacter names gs) (λ c. Holds gs (bad_character c))
        by None h = λ c g. let f = subst (λ (ys : List ℕ). IsFirstOf (λ n y. ¬ (is_xml_char y ≡ true)) ys c) all_characters_are g in h f.0 c f.1.0 f.1.1
        by (Some x) h = subst (λ (ys : List ℕ). IsFirstOf (λ n y. ¬ (is_xml_char y ≡ true)) ys x) (sym all_characters_are) h

    xmlns_is_told : MatchBool (list_any (has_xmlns names m.attrs) m.items) (Holds gs attribute_xmlns) (NoXmlns names gs)
    xmlns_is_told =
        subst (λ (b : Bool). MatchBool b (Holds gs attribute_xmlns) (NoXmlns names gs))
        (ap (λ (ns : List (List (List ℕ))). list_any (list_any is_xmlns) ns) (ap₂ (λ x xs. x ∷ xs) names_at_top content_attributes_are) ∙ sym (items_told names m.attrs m.chars m.items))
        (any_told (list_any is_xmlns) HasXmlns xmlns_told (attribute_names gs ∷ content_attributes gs))

    within_is_least : AreDistinct names → NoTop names gs → NoCount names gs → IsLeast names gs (refusal_within names m)
    within_is_least d no_top no_count =
        by_name names gs no_top no_count (find (is_bad_number names) (flat_map (item_numbers m.attrs) m.items)) name_is_told (option_or (xmlns_refusal names m) (option_or (repeat_refusal names m) (character_refusal names m))) (λ no_name.
        by_xmlns names gs no_top no_count no_name (list_any (has_xmlns names m.attrs) m.items) xmlns_is_told (option_or (repeat_refusal names m) (character_refusal names m)) (λ no_xmlns.
        by_repeat names gs no_top no_count no_name no_xmlns (repeat_among m.attrs m.items) (repeat_tells names m gs d i s) (character_refusal names m) (λ no_same.
        by_character names gs no_top no_count no_name no_xmlns no_same (find is_bad_character (flat_map (item_characters m.attrs m.chars) m.items)) character_is_told)))

  pub least_is_least : AreDistinct names → IsLeast names gs (least_refusal names m)
  least_is_least d =
      by_top names gs m.chars m.top s.top (option_or (count_refusal (sum_at_top begin_count 0 m.items) (sum_at_top run_length 0 m.items)) (refusal_within names m)) (λ t no_top.
      by_count names gs no_top (sum_at_top begin_count 0 m.items) (sum_at_top run_length 0 m.items) elements_are characters_are (refusal_within names m) (λ no_count.
      within_is_least t d no_top no_count))

-- ---- a name that is answered is there

module _ (names : List (List ℕ)) where
  either : (r q : Option DynRefusal) → IfSome r (IsNameIn names) → IfSome q (IsNameIn names) → IfSome (option_or r q) (IsNameIn names)
  either None q h k = k
  either (Some x) q h k = h

  made : (make : ℕ → DynRefusal) (r : Option ℕ) → IfSome r (λ n. IsNameIn names (make n)) → IfSome (option_map make r) (IsNameIn names)
  made make None h = tt
  made make (Some n) h = h

  any_character : (r : Option ℕ) → IfSome r (λ n. IsNameIn names (BadChar n))
  any_character None = tt
  any_character (Some n) = tt

  top_named : (chars : List ℕ) (top : List Attr) → AreAttrsIn names chars top → IfSome (top_refusal top) (IsNameIn names)
  top_named chars [] h = tt
  top_named chars (a ∷ more) h = h.0.0

  count_named : (b : Bool) (elements chars : ℕ) → IfSome (cond b None (Some (NotOneElement elements chars))) (IsNameIn names)
  count_named true elements chars = tt
  count_named false elements chars = tt

  xmlns_named : (b : Bool) → IfSome (cond b (Some Xmlns) None) (IsNameIn names)
  xmlns_named true = tt
  xmlns_named false = tt

  pub least_is_named : (m : MarkedLists) → AreIn names m → IfSome (least_refusal names m) (IsNameIn names)
  least_is_named m i =
      let ns = flat_map (item_numbers m.attrs) m.items in
      let elements = sum_at_top begin_count 0 m.items in
      let chars = sum_at_top run_length 0 m.items in
      either (top_refusal m.top) (option_or (count_refusal elements chars) (refusal_within names m)) (top_named m.chars m.top i.top_in)
      (either (count_refusal elements chars) (refusal_within names m) (count_named ((elements == 1) && (chars == 0)) elements chars)
      (either (name_refusal names m) (option_or (xmlns_refusal names m) (option_or (repeat_refusal names m) (character_refusal names m)))
      (made BadName (find (is_bad_number names) ns) (found_in (λ n. n < length names) (is_bad_number names) ns (numbers_in names m.attrs m.chars i.attrs_in m.items i.items_in)))
      (either (xmlns_refusal names m) (option_or (repeat_refusal names m) (character_refusal names m)) (xmlns_named (list_any (has_xmlns names m.attrs) m.items))
      (either (repeat_refusal names m) (character_refusal names m) (made SameAttribute (repeat_among m.attrs m.items) (repeat_is_in names m i))
      (made BadChar (find is_bad_character (flat_map (item_characters m.attrs m.chars) m.items)) (any_character (find is_bad_character (flat_map (item_characters m.attrs m.chars) m.items))))))))
