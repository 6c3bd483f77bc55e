-- Of the codes that keep a derivation from being a document at most one counts, and one does where any holds.
use Rattle.std.proofs.Common.{◌≡◌, refl, ap, sym, subst, ◌∙◌, ◌⊎◌, ℕ, suc, ◌<◌, ◌≤◌, Bool, true, false, List, [], ◌∷◌, Some, slice_get, codes, arith}
use mathlib.Core.Logic.{inl, inr}
use Rattle.std.specs.Prelude.{IsTrue}
use Rattle.ix_model.specs.Documents.Gives.{Givens}
use Rattle.ix_model.specs.Documents.XmlNames.{is_xml_name, is_xml_char}
use Rattle.ix_model.specs.Documents.Dyn.{Refusal, attribute_at_top, not_one_element, bad_name, attribute_xmlns, same_attribute, bad_character, refusal_number, attribute_names, element_count, character_count, content_attributes, all_names, all_characters, IsRepeat, HasRepeat, HasXmlns, Holds, Dyn, HasNoRefusal}
use Rattle.ix_model.specs.Firsts.{IsFirstOf}
use Rattle.ix_model.proofs.Firsts.{first_is_one, first_or_none}
use Rattle.ix_answer_laws.proofs.Firsts.{in_order, some_below, same_list, same_at}

-- ---- at most one

-- one code has one item
one_item : (gs : Givens) (code other : Refusal) → refusal_number code ≡ refusal_number other → Holds gs code → Holds gs other → code ≡ other
one_item gs (attribute_at_top x) (attribute_at_top y) e h k = cc (h, k)
one_item gs (not_one_element a b) (not_one_element c d) e h k = cc (h.0, h.1, k.0, k.1)
one_item gs (bad_name x) (bad_name y) e h k = ap bad_name (first_is_one _ (all_names gs) x y h k)
one_item gs attribute_xmlns attribute_xmlns e h k = refl
one_item gs (same_attribute x) (same_attribute y) e (names, f, h) (others, f', k) =
    let s : names ≡ others = first_is_one (λ n ns. HasRepeat ns) (content_attributes gs) names others f f' in
    ap same_attribute (first_is_one (IsRepeat names) names x y h (subst (λ ns. IsFirstOf (IsRepeat ns) ns y) (sym s) k))
one_item gs (bad_character x) (bad_character y) e h k = ap bad_character (first_is_one _ (all_characters gs) x y h k)
one_item gs code other e h k = absurd (omega (arith, e))

pub refusal_is_one : (gs : Givens) (code other : Refusal) → Dyn gs code → Dyn gs other → code ≡ other
refusal_is_one gs code other (h, least) (k, lowest) = one_item gs code other (omega (arith, least other k, lowest code h)) h k

-- ---- one or none

-- a test fails or it does not
fails : (b : Bool) → (¬ (IsTrue b)) ⊎ ¬ (¬ (IsTrue b))
fails true = inr (λ e. e refl)
fails false = inl (λ e. cc e)

repeat_or_not : (names : List (List ℕ)) (n : ℕ) (name : List ℕ) → IsRepeat names n name ⊎ ¬ (IsRepeat names n name)
repeat_or_not names n name = by_place (some_below (λ m. slice_get names m ≡ Some name) (λ m. same_at (slice_get names m) name) n)
  where
    by_place : ((m : ℕ) × (m < n) × (slice_get names m ≡ Some name)) ⊎ ((m : ℕ) → m < n → ¬ (slice_get names m ≡ Some name)) → IsRepeat names n name ⊎ ¬ (IsRepeat names n name)
    by_place (inl h) = inl h
    by_place (inr none) = inr (λ h. none h.0 h.1 h.2)

has_repeat_or_not : (names : List (List ℕ)) → HasRepeat names ⊎ ¬ (HasRepeat names)
has_repeat_or_not names = by_first (first_or_none (IsRepeat names) (repeat_or_not names) names)
  where
    by_first : ((x : List ℕ) × IsFirstOf (IsRepeat names) names x) ⊎ ((n : ℕ) (x : List ℕ) → slice_get names n ≡ Some x → ¬ (IsRepeat names n x)) → HasRepeat names ⊎ ¬ (HasRepeat names)
    by_first (inl (x, (n, (e, p, before)))) = inl (n, x, e, p)
    by_first (inr none) = inr (λ h. none h.0 h.1 h.2 h.3)

has_xmlns_or_not : (names : List (List ℕ)) → HasXmlns names ⊎ ¬ (HasXmlns names)
has_xmlns_or_not names = by_first (first_or_none (λ n x. x ≡ codes "xmlns") (λ n x. same_list x (codes "xmlns")) names)
  where
    by_first : ((x : List ℕ) × IsFirstOf (λ n y. y ≡ codes "xmlns") names x) ⊎ ((n : ℕ) (x : List ℕ) → slice_get names n ≡ Some x → ¬ (x ≡ codes "xmlns")) → HasXmlns names ⊎ ¬ (HasXmlns names)
    by_first (inl (x, (n, (e, p, before)))) = inl (n, e ∙ ap Some p)
    by_first (inr none) = inr (λ h. none h.0 (codes "xmlns") h.1 refl)

module _ (gs : Givens) where
  -- the code with this number holds with some item, or with none
  abbrev Decided : ℕ → Type 0
  Decided k = ((code : Refusal) × (refusal_number code ≡ k) × Holds gs code) ⊎ ((code : Refusal) → refusal_number code ≡ k → ¬ (Holds gs code))

  -- no code with a lesser number holds
  abbrev NoneBelow : ℕ → Type 0
  NoneBelow k = (code : Refusal) → refusal_number code < k → ¬ (Holds gs code)

  at_top : Decided 1
  at_top = by_names (attribute_names gs) refl
    where
      none : attribute_names gs ≡ [] → (code : Refusal) → refusal_number code ≡ 1 → ¬ (Holds gs code)
      none e (attribute_at_top x) f h = cc (ap (λ ns. slice_get ns 0) (sym e) ∙ h)
      none e (not_one_element a b) f h = omega (arith, f)
      none e (bad_name x) f h = omega (arith, f)
      none e attribute_xmlns f h = omega (arith, f)
      none e (same_attribute x) f h = omega (arith, f)
      none e (bad_character x) f h = omega (arith, f)

      by_names : (ns : List (List ℕ)) → attribute_names gs ≡ ns → Decided 1
      by_names [] e = inr (none e)
      by_names (n ∷ ns) e = inl (attribute_at_top n, refl, ap (λ xs. slice_get xs 0) e)

  not_one : Decided 2
  not_one = by_counts (in_order (element_count gs) 1) (in_order (character_count gs) 0)
    where
      here : ¬ ((element_count gs ≡ 1) × (character_count gs ≡ 0)) → Decided 2
      here h = inl (not_one_element (element_count gs) (character_count gs), refl, (refl, refl, h))

      none : element_count gs ≡ 1 → character_count gs ≡ 0 → (code : Refusal) → refusal_number code ≡ 2 → ¬ (Holds gs code)
      none e c (not_one_element a b) f h = h.2 (h.0 ∙ e, h.1 ∙ c)
      none e c (attribute_at_top x) f h = omega (arith, f)
      none e c (bad_name x) f h = omega (arith, f)
      none e c attribute_xmlns f h = omega (arith, f)
      none e c (same_attribute x) f h = omega (arith, f)
      none e c (bad_character x) f h = omega (arith, f)

      by_counts : (element_count gs < 1) ⊎ ((element_count gs ≡ 1) ⊎ (1 < element_count gs)) → (character_count gs < 0) ⊎ ((character_count gs ≡ 0) ⊎ (0 < character_count gs)) → Decided 2
      by_counts (inr (inl e)) (inr (inl c)) = inr (none e c)
      by_counts (inl l) c = here (λ h. omega (arith, l, h.0))
      by_counts (inr (inr l)) c = here (λ h. omega (arith, l, h.0))
      by_counts e (inl l) = here (λ h. omega (arith, l, h.1))
      by_counts e (inr (inr l)) = here (λ h. omega (arith, l, h.1))

  bad_names : Decided 3
  bad_names = by_first (first_or_none (λ n x. ¬ (IsTrue (is_xml_name x))) (λ n x. fails (is_xml_name x)) (all_names gs))
    where
      none : ((n : ℕ) (x : List ℕ) → slice_get (all_names gs) n ≡ Some x → ¬ (¬ (IsTrue (is_xml_name x)))) → (code : Refusal) → refusal_number code ≡ 3 → ¬ (Holds gs code)
      none no_bad (bad_name x) f (n, (e, p, before)) = no_bad n x e p
      none no_bad (attribute_at_top x) f h = omega (arith, f)
      none no_bad (not_one_element a b) f h = omega (arith, f)
      none no_bad attribute_xmlns f h = omega (arith, f)
      none no_bad (same_attribute x) f h = omega (arith, f)
      none no_bad (bad_character x) f h = omega (arith, f)

      by_first : ((x : List ℕ) × IsFirstOf (λ n y. ¬ (IsTrue (is_xml_name y))) (all_names gs) x) ⊎ ((n : ℕ) (x : List ℕ) → slice_get (all_names gs) n ≡ Some x → ¬ (¬ (IsTrue (is_xml_name x)))) → Decided 3
      by_first (inl (x, h)) = inl (bad_name x, refl, h)
      by_first (inr no_bad) = inr (none no_bad)

  xmlns : Decided 4
  xmlns = by_first (first_or_none (λ n ns. HasXmlns ns) (λ n ns. has_xmlns_or_not ns) (attribute_names gs ∷ content_attributes gs))
    where
      none : ((n : ℕ) (ns : List (List ℕ)) → slice_get (attribute_names gs ∷ content_attributes gs) n ≡ Some ns → ¬ (HasXmlns ns)) → (code : Refusal) → refusal_number code ≡ 4 → ¬ (Holds gs code)
      none no_xmlns attribute_xmlns f h = no_xmlns h.0 h.1 h.2 h.3
      none no_xmlns (attribute_at_top x) f h = omega (arith, f)
      none no_xmlns (not_one_element a b) f h = omega (arith, f)
      none no_xmlns (bad_name x) f h = omega (arith, f)
      none no_xmlns (same_attribute x) f h = omega (arith, f)
      none no_xmlns (bad_character x) f h = omega (arith, f)

      by_first : ((ns : List (List ℕ)) × IsFirstOf (λ n ms. HasXmlns ms) (attribute_names gs ∷ content_attributes gs) ns) ⊎ ((n : ℕ) (ns : List (List ℕ)) → slice_get (attribute_names gs ∷ content_attributes gs) n ≡ Some ns → ¬ (HasXmlns ns)) → Decided 4
      by_first (inl (ns, (n, (e, p, before)))) = inl (attribute_xmlns, refl, (n, ns, e, p))
      by_first (inr no_xmlns) = inr (none no_xmlns)

  same_attributes : Decided 5
  same_attributes = by_first (first_or_none (λ n ns. HasRepeat ns) (λ n ns. has_repeat_or_not ns) (content_attributes gs))
    where
      none : ((n : ℕ) (ns : List (List ℕ)) → slice_get (content_attributes gs) n ≡ Some ns → ¬ (HasRepeat ns)) → (code : Refusal) → refusal_number code ≡ 5 → ¬ (Holds gs code)
      none no_repeat (same_attribute x) f (names, (n, (e, p, before)), h) = no_repeat n names e p
      none no_repeat (attribute_at_top x) f h = omega (arith, f)
      none no_repeat (not_one_element a b) f h = omega (arith, f)
      none no_repeat (bad_name x) f h = omega (arith, f)
      none no_repeat attribute_xmlns f h = omega (arith, f)
      none no_repeat (bad_character x) f h = omega (arith, f)

      of_names : (names : List (List ℕ)) → IsFirstOf (λ n ns. HasRepeat ns) (content_attributes gs) names → ((x : List ℕ) × IsFirstOf (IsRepeat names) names x) ⊎ ((n : ℕ) (x : List ℕ) → slice_get names n ≡ Some x → ¬ (IsRepeat names n x)) → Decided 5
      of_names names f (inl (x, h)) = inl (same_attribute x, refl, (names, f, h))
      of_names names (n, (e, p, before)) (inr no_repeat) = absurd (no_repeat p.0 p.1 p.2 p.3)

      by_first : ((ns : List (List ℕ)) × IsFirstOf (λ n ms. HasRepeat ms) (content_attributes gs) ns) ⊎ ((n : ℕ) (ns : List (List ℕ)) → slice_get (content_attributes gs) n ≡ Some ns → ¬ (HasRepeat ns)) → Decided 5
      by_first (inl (names, f)) = of_names names f (first_or_none (IsRepeat names) (repeat_or_not names) names)
      by_first (inr no_repeat) = inr (none no_repeat)

  bad_characters : Decided 6
  bad_characters = by_first (first_or_none (λ n x. ¬ (IsTrue (is_xml_char x))) (λ n x. fails (is_xml_char x)) (all_characters gs))
    where
      none : ((n : ℕ) (x : ℕ) → slice_get (all_characters gs) n ≡ Some x → ¬ (¬ (IsTrue (is_xml_char x)))) → (code : Refusal) → refusal_number code ≡ 6 → ¬ (Holds gs code)
      none no_bad (bad_character x) f (n, (e, p, before)) = no_bad n x e p
      none no_bad (attribute_at_top x) f h = omega (arith, f)
      none no_bad (not_one_element a b) f h = omega (arith, f)
      none no_bad (bad_name x) f h = omega (arith, f)
      none no_bad attribute_xmlns f h = omega (arith, f)
      none no_bad (same_attribute x) f h = omega (arith, f)

      by_first : ((x : ℕ) × IsFirstOf (λ n y. ¬ (IsTrue (is_xml_char y))) (all_characters gs) x) ⊎ ((n : ℕ) (x : ℕ) → slice_get (all_characters gs) n ≡ Some x → ¬ (¬ (IsTrue (is_xml_char x)))) → Decided 6
      by_first (inl (x, h)) = inl (bad_character x, refl, h)
      by_first (inr no_bad) = inr (none no_bad)

  abbrev Outcome : Type 0
  Outcome = ((code : Refusal) × Dyn gs code) ⊎ HasNoRefusal gs

  -- one code more is decided: it counts, or no code up to it holds
  one_more : (k : ℕ) → NoneBelow k → Decided k → (NoneBelow (suc k) → Outcome) → Outcome
  one_more k lesser (inl (code, e, h)) rest = inl (code, (h, λ other o. at_least other o (in_order (refusal_number code) (refusal_number other))))
    where
      at_least : (other : Refusal) → Holds gs other → (refusal_number code < refusal_number other) ⊎ ((refusal_number code ≡ refusal_number other) ⊎ (refusal_number other < refusal_number code)) → refusal_number code ≤ refusal_number other
      at_least other o (inl l) = omega (arith, l)
      at_least other o (inr (inl l)) = omega (arith, l)
      at_least other o (inr (inr l)) = absurd (lesser other (omega (arith, l, e)) o)
  one_more k lesser (inr none) rest = rest (λ code l h. by_place code h (in_order (refusal_number code) k) l)
    where
      by_place : (code : Refusal) → Holds gs code → (refusal_number code < k) ⊎ ((refusal_number code ≡ k) ⊎ (k < refusal_number code)) → refusal_number code < suc k → ⊥
      by_place code h (inl l) _ = lesser code l h
      by_place code h (inr (inl e)) _ = none code e h
      by_place code h (inr (inr l)) m = omega (arith, l, m)

  numbered : (code : Refusal) → (0 < refusal_number code) × (refusal_number code < 7)
  numbered (attribute_at_top x) = (omega arith, omega arith)
  numbered (not_one_element a b) = (omega arith, omega arith)
  numbered (bad_name x) = (omega arith, omega arith)
  numbered attribute_xmlns = (omega arith, omega arith)
  numbered (same_attribute x) = (omega arith, omega arith)
  numbered (bad_character x) = (omega arith, omega arith)

  pub refusal_or_none : Outcome
  refusal_or_none =
      one_more 1 (λ code l. absurd (omega (arith, l, (numbered code).0))) at_top (λ n1.
      one_more 2 n1 not_one (λ n2.
      one_more 3 n2 bad_names (λ n3.
      one_more 4 n3 xmlns (λ n4.
      one_more 5 n4 same_attributes (λ n5.
      one_more 6 n5 bad_characters (λ n6. inr (λ code h. n6 code (numbered code).1 h)))))))
