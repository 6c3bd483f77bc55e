-- Which codes hold of small documents.
use Rattle.std.proofs.Common.{◌≡◌, ◌≢◌, refl, ap, subst, ℕ, zero, suc, ◌<◌, ◌≤◌, Bool, true, false, List, [], ◌∷◌, ◌++◌, Some, slice_get, codes, arith}
use Rattle.std.specs.Prelude.{IsTrue, ◌&&◌}
use Rattle.std.specs.List.{list_all, AllByRecursion}
use Rattle.ix_model.specs.Firsts.{IsFirstOf}
use Rattle.ix_model.specs.Documents.Gives.{Givens, element, nothing, followed}
use Rattle.ix_model.specs.Documents.XmlNames.{is_xml_name, is_xml_char}
use Rattle.ix_model.specs.Documents.Dyn.{Refusal, attribute_at_top, not_one_element, bad_name, attribute_xmlns, same_attribute, bad_character, refusal_number, attribute_names, content_attributes, all_names, all_characters, IsRepeat, HasRepeat, HasXmlns, Holds, HasNoRefusal}
use Rattle.ix_examples.proofs.SmallTexts.{first}

both : (a b : Bool) → (a && b) ≡ true → (a ≡ true) × (b ≡ true)
both true b e = (refl, e)
both false b e = absurd (cc e)

-- what stands in a list passes the test that all pass
pub all_pass : {X : Type 0} (p : X → Bool) (xs : List X) → list_all p xs ≡ true → (n : ℕ) (x : X) → slice_get xs n ≡ Some x → IsTrue (p x)
all_pass {X} p [] a n x e = absurd (cc e)
all_pass {X} p (y ∷ ys) a zero x e = subst (λ z. IsTrue (p z)) (cc e) (both (p y) (list_all p ys) a).0
all_pass {X} p (y ∷ ys) a (suc n) x e = all_pass p ys (both (p y) (list_all p ys) a).1 n x e

-- the first that fails a test stands behind those that pass it
pub first_failing : {X : Type 0} (p : X → Bool) (before : List X) (x : X) (after : List X) → list_all p before ≡ true → p x ≡ false → IsFirstOf (λ n y. ¬ (IsTrue (p y))) (before ++ x ∷ after) x
first_failing {X} p [] x after a b = (0, (refl, (λ e. cc (e, b)), λ m y l. absurd (omega (arith, l))))
first_failing {X} p (z ∷ zs) x after a b = behind (first_failing p zs x after (both (p z) (list_all p zs) a).1 b)
  where
    behind : IsFirstOf (λ n y. ¬ (IsTrue (p y))) (zs ++ x ∷ after) x → IsFirstOf (λ n y. ¬ (IsTrue (p y))) ((z ∷ zs) ++ x ∷ after) x
    behind (n, (e, q, before)) = (suc n, (e, q, earlier))
      where
        earlier : (m : ℕ) (y : X) → m < suc n → slice_get ((z ∷ zs) ++ x ∷ after) m ≡ Some y → ¬ (¬ (IsTrue (p y)))
        earlier zero y l f g = g (subst (λ w. IsTrue (p w)) (cc f) (both (p z) (list_all p zs) a).0)
        earlier (suc m) y l f g = before m y (omega (arith, l)) f g

-- what holds of the first of a list is first
pub at_front : {X : Type 0} (P : ℕ → X → Type 0) (x : X) (xs : List X) → P 0 x → IsFirstOf P (x ∷ xs) x
at_front {X} P x xs p = (0, (refl, p, λ m y l. absurd (omega (arith, l))))

-- in no list of names is `xmlns`
abbrev pub HaveNoXmlns : List (List (List ℕ)) → Type 0
HaveNoXmlns lists = AllByRecursion (λ names. AllByRecursion (λ name. name ≢ codes "xmlns") names) lists

no_xmlns_at : (names : List (List ℕ)) → AllByRecursion (λ name. name ≢ codes "xmlns") names → ¬ (HasXmlns names)
no_xmlns_at [] a (n, e) = cc e
no_xmlns_at (x ∷ xs) a (zero, e) = a.0 (cc e)
no_xmlns_at (x ∷ xs) a (suc n, e) = no_xmlns_at xs a.1 (n, e)

no_xmlns_in : (lists : List (List (List ℕ))) → HaveNoXmlns lists → (k : ℕ) (names : List (List ℕ)) → slice_get lists k ≡ Some names → ¬ (HasXmlns names)
no_xmlns_in [] a k names e = absurd (cc e)
no_xmlns_in (x ∷ xs) a zero names e = no_xmlns_at names (subst (λ ns. AllByRecursion (λ name. name ≢ codes "xmlns") ns) (cc e) a.0)
no_xmlns_in (x ∷ xs) a (suc k) names e = no_xmlns_in xs a.1 k names e

-- one name is not repeated
pub one_name : (x : List ℕ) → ¬ (HasRepeat (x ∷ []))
one_name x (zero, name, e, (m, l, f)) = omega (arith, l)
one_name x (suc n, name, e, r) = cc e

pub no_name : ¬ (HasRepeat [])
no_name (n, name, e, r) = cc e

no_repeat_in : (lists : List (List (List ℕ))) → AllByRecursion (λ names. ¬ (HasRepeat names)) lists → (k : ℕ) (names : List (List ℕ)) → slice_get lists k ≡ Some names → ¬ (HasRepeat names)
no_repeat_in [] a k names e = absurd (cc e)
no_repeat_in (x ∷ xs) a zero names e = subst (λ ns. ¬ (HasRepeat ns)) (cc e) a.0
no_repeat_in (x ∷ xs) a (suc k) names e = no_repeat_in xs a.1 k names e

-- two equal names in front repeat
pub two_names : (x : List ℕ) (xs : List (List ℕ)) → IsFirstOf (IsRepeat (x ∷ x ∷ xs)) (x ∷ x ∷ xs) x
two_names x xs = (1, (refl, (0, omega arith, refl), earlier))
  where
    earlier : (m : ℕ) (y : List ℕ) → m < 1 → slice_get (x ∷ x ∷ xs) m ≡ Some y → ¬ (IsRepeat (x ∷ x ∷ xs) m y)
    earlier m y l e (k, less, f) = omega (arith, l, less)

pub two_repeat : (x : List ℕ) (xs : List (List ℕ)) → HasRepeat (x ∷ x ∷ xs)
two_repeat x xs = (1, x, refl, (0, omega arith, refl))

module _ (name : List ℕ) (inner : Givens) where
  abbrev document : Givens
  document = followed (element name inner) nothing

  -- one element alone: neither E01 nor E02
  pub from_three : (other : Refusal) → Holds document other → 3 ≤ refusal_number other
  from_three (attribute_at_top x) h = absurd (cc h)
  from_three (not_one_element a b) h = absurd (h.2 (h.0, h.1))
  from_three (bad_name x) h = omega arith
  from_three attribute_xmlns h = omega arith
  from_three (same_attribute x) h = omega arith
  from_three (bad_character x) h = omega arith

  -- names of XML alone: nor E03
  pub from_four : list_all is_xml_name (all_names document) ≡ true → (other : Refusal) → Holds document other → 4 ≤ refusal_number other
  from_four a (bad_name x) (n, (e, p, before)) = absurd (p (all_pass is_xml_name (all_names document) a n x e))
  from_four a (attribute_at_top x) h = absurd (cc h)
  from_four a (not_one_element c d) h = absurd (h.2 (h.0, h.1))
  from_four a attribute_xmlns h = omega arith
  from_four a (same_attribute x) h = omega arith
  from_four a (bad_character x) h = omega arith

  -- no `xmlns`: nor E04
  pub from_five : list_all is_xml_name (all_names document) ≡ true → HaveNoXmlns (attribute_names document ∷ content_attributes document) → (other : Refusal) → Holds document other → 5 ≤ refusal_number other
  from_five a b attribute_xmlns (k, names, e, h) = absurd (no_xmlns_in (attribute_names document ∷ content_attributes document) b k names e h)
  from_five a b (bad_name x) (n, (e, p, before)) = absurd (p (all_pass is_xml_name (all_names document) a n x e))
  from_five a b (attribute_at_top x) h = absurd (cc h)
  from_five a b (not_one_element c d) h = absurd (h.2 (h.0, h.1))
  from_five a b (same_attribute x) h = omega arith
  from_five a b (bad_character x) h = omega arith

  -- no name twice: nor E05
  pub from_six : list_all is_xml_name (all_names document) ≡ true → HaveNoXmlns (attribute_names document ∷ content_attributes document) → AllByRecursion (λ names. ¬ (HasRepeat names)) (content_attributes document) →
      (other : Refusal) → Holds document other → 6 ≤ refusal_number other
  from_six a b d (same_attribute x) (names, (n, (e, p, before)), h) = absurd (no_repeat_in (content_attributes document) d n names e p)
  from_six a b d (attribute_at_top x) h = absurd (omega (arith, from_five a b (attribute_at_top x) h))
  from_six a b d (not_one_element c f) h = absurd (omega (arith, from_five a b (not_one_element c f) h))
  from_six a b d (bad_name x) h = absurd (omega (arith, from_five a b (bad_name x) h))
  from_six a b d attribute_xmlns h = absurd (omega (arith, from_five a b attribute_xmlns h))
  from_six a b d (bad_character x) h = omega arith

  -- characters of XML alone: no code
  pub none_holds : list_all is_xml_name (all_names document) ≡ true → HaveNoXmlns (attribute_names document ∷ content_attributes document) → AllByRecursion (λ names. ¬ (HasRepeat names)) (content_attributes document) →
      list_all is_xml_char (all_characters document) ≡ true → HasNoRefusal document
  none_holds a b d p (bad_character x) (n, (e, q, before)) = q (all_pass is_xml_char (all_characters document) p n x e)
  none_holds a b d p (attribute_at_top x) h = omega (arith, from_six a b d (attribute_at_top x) h)
  none_holds a b d p (not_one_element c f) h = omega (arith, from_six a b d (not_one_element c f) h)
  none_holds a b d p (bad_name x) h = omega (arith, from_six a b d (bad_name x) h)
  none_holds a b d p attribute_xmlns h = omega (arith, from_six a b d attribute_xmlns h)
  none_holds a b d p (same_attribute x) h = omega (arith, from_six a b d (same_attribute x) h)

-- in `x, y, y, x` the second `y` is the first that repeats
abbrev four_names : List (List ℕ)
four_names = codes "x" ∷ codes "y" ∷ codes "y" ∷ codes "x" ∷ []

pub second_pair : IsFirstOf (IsRepeat four_names) four_names (codes "y")
second_pair = (2, (refl, (1, omega arith, refl), earlier))
  where
    earlier : (m : ℕ) (y : List ℕ) → m < 2 → slice_get four_names m ≡ Some y → ¬ (IsRepeat four_names m y)
    earlier zero y l e (k, less, f) = omega (arith, less)
    earlier (suc zero) y l e (zero, less, f) =
        let p : codes "y" ≡ codes "x" = cc (e, f) in
        omega (arith, ap first p)
    earlier (suc zero) y l e (suc k, less, f) = omega (arith, less)
    earlier (suc (suc m)) y l e r = omega (arith, l)

pub second_pair_repeats : HasRepeat four_names
second_pair_repeats = (2, codes "y", refl, (1, omega arith, refl))
