-- The breaches of a grammar, found one after the other.
use Rattle.std.proofs.Common.{◌≡◌, ◌≢◌, refl, ap, sym, ◌∙◌, subst, ◌⊎◌, inl, inr, ℕ, zero, suc, ◌<◌, ◌≤◌, List, [], ◌∷◌, ◌++◌, length, get_or, Option, Some, None, codes, arith}
use Rattle.std.specs.Prelude.{Bool, true, false, ◌||◌, slice_get}
use Rattle.std.specs.List.{AllByRecursion, list_any}
use Rattle.std.proofs.lemmas.Option.{slice_get_within}
use Rattle.std.proofs.lemmas.List.Folds.{list_any_at}
use Rattle.ucd_category.specs.declared.GeneralCategory.{GeneralCategory}
use Rattle.ucd_category.specs.declared.GeneralCategory.TheVariants as category
use Rattle.ix_model.specs.declared.grammar.Grammar.{Grammar}
use Rattle.ix_model.specs.declared.grammar.Rule.{Rule}
use Rattle.ix_model.specs.Firsts.{IsFirstOf}
use Rattle.ix_model.proofs.Firsts.{at_front, behind, first_is_one}
use Rattle.ix_model.specs.Grammars.Names.{HasUniqueNames}
use Rattle.ix_model.specs.Grammars.Written.{IsNamed}
use Rattle.ix_model.specs.Matching.Classes.{code_of, is_code_in_class}
use Rattle.ix_model.specs.Grammars.Factors.{codes_of, ranges_of, classes_of, calls_of}
use Rattle.ix_model.specs.Grammars.Breach.{Fault, version, code_point, range, class, undefined, duplicate, code_number, IsCodePoint, IsRising, IsKnownClass, IsDefined, IsRepeated, Breach, LeastBreach}
use Rattle.ix_conformance_laws.specs.Laws.{IsFaultless}

-- ---- the first of a list that is not as it should be

module _ {X : Type 0} (P : X → Type 0) where
  all_or_first : ((x : X) → P x ⊎ ¬ (P x)) → (xs : List X) → AllByRecursion P xs ⊎ ((x : X) × IsFirstOf (λ n y. ¬ (P y)) xs x)
  all_or_first decide [] = inl tt
  all_or_first decide (x ∷ xs) = by_head (decide x) (all_or_first decide xs)
    where
      by_head : P x ⊎ ¬ (P x) → AllByRecursion P xs ⊎ ((y : X) × IsFirstOf (λ n y. ¬ (P y)) xs y) → AllByRecursion P (x ∷ xs) ⊎ ((y : X) × IsFirstOf (λ n y. ¬ (P y)) (x ∷ xs) y)
      by_head (inr n) _ = inr (x, at_front (λ n y. ¬ (P y)) x xs n)
      by_head (inl p) (inl h) = inl (p, h)
      by_head (inl p) (inr (y, h)) = inr (y, behind (λ n y. ¬ (P y)) x xs y (λ n. n p) h)

  -- where all are as they should be, none is the first that is not
  pub no_first : (xs : List X) (x : X) → AllByRecursion P xs → ¬ (IsFirstOf (λ n y. ¬ (P y)) xs x)
  no_first xs x all (n, (e, not_here, before)) = not_here (holds_at xs n x all e)
    where
      holds_at : (ys : List X) (m : ℕ) (y : X) → AllByRecursion P ys → slice_get ys m ≡ Some y → P y
      holds_at [] m y all e = absurd (cc e)
      holds_at (z ∷ ys) zero y all e = subst P (cc e) all.0
      holds_at (z ∷ ys) (suc m) y all e = holds_at ys m y all.1 e

-- ---- the least number

same_number : (a b : ℕ) → (a ≡ b) ⊎ (a ≢ b)
same_number a b = grind arith

module _ (P : ℕ → Type 0) where
  abbrev Least : ℕ → Type 0
  Least n = (r : ℕ) × (r < n) × P r × ((p : ℕ) → p < r → ¬ (P p))

  find_least : ((q : ℕ) → P q ⊎ ¬ (P q)) → (n : ℕ) → Least n ⊎ ((q : ℕ) → q < n → ¬ (P q))
  find_least decide zero = inr (λ q h. absurd (omega (arith, h)))
  find_least decide (suc n) = go (find_least decide n) (decide n)
    where
      go : Least n ⊎ ((q : ℕ) → q < n → ¬ (P q)) → P n ⊎ ¬ (P n) → Least (suc n) ⊎ ((q : ℕ) → q < suc n → ¬ (P q))
      go (inl (r, h, p, k)) _ = inl (r, omega (arith, h), p, k)
      go (inr none) (inl p) = inl (n, omega arith, p, none)
      go (inr none) (inr not_here) = inr (λ q h. below q h (same_number q n))
        where
          below : (q : ℕ) → q < suc n → (q ≡ n) ⊎ (q ≢ n) → ¬ (P q)
          below q h (inl e) = λ p. not_here (subst P e p)
          below q h (inr d) = none q (omega (arith, h, d))

-- ---- what can be decided

holds : (b : Bool) → (b ≡ true) ⊎ ¬ (b ≡ true)
holds true = inl refl
holds false = inr (λ e. cc e)

is_code_point : (digits : List ℕ) → IsCodePoint digits ⊎ ¬ (IsCodePoint digits)
is_code_point digits = holds _

at_most : (a b : ℕ) → (a ≤ b) ⊎ ¬ (a ≤ b)
at_most a b = grind arith

same_text : (xs ys : List ℕ) → (xs ≡ ys) ⊎ (xs ≢ ys)
same_text [] [] = inl refl
same_text [] (y ∷ ys) = inr (λ e. cc e)
same_text (x ∷ xs) [] = inr (λ e. cc e)
same_text (x ∷ xs) (y ∷ ys) = by_both (same_number x y) (same_text xs ys)
  where
    by_both : (x ≡ y) ⊎ (x ≢ y) → (xs ≡ ys) ⊎ (xs ≢ ys) → (x ∷ xs ≡ y ∷ ys) ⊎ (x ∷ xs ≢ y ∷ ys)
    by_both (inl p) (inl q) = inl (cc (p, q))
    by_both (inr p) q = inr (λ e. p (cc e))
    by_both p (inr q) = inr (λ e. q (cc e))

-- ---- classes

-- all categories
abbrev pub categories : List GeneralCategory
categories =
    category.UppercaseLetter ∷ category.LowercaseLetter ∷ category.TitlecaseLetter ∷ category.ModifierLetter ∷ category.OtherLetter
    ∷ category.NonspacingMark ∷ category.SpacingMark ∷ category.EnclosingMark ∷ category.DecimalNumber ∷ category.LetterNumber
    ∷ category.OtherNumber ∷ category.ConnectorPunctuation ∷ category.DashPunctuation ∷ category.OpenPunctuation ∷ category.ClosePunctuation
    ∷ category.InitialPunctuation ∷ category.FinalPunctuation ∷ category.OtherPunctuation ∷ category.MathSymbol ∷ category.CurrencySymbol
    ∷ category.ModifierSymbol ∷ category.OtherSymbol ∷ category.SpaceSeparator ∷ category.LineSeparator ∷ category.ParagraphSeparator
    ∷ category.Control ∷ category.Format ∷ category.Surrogate ∷ category.PrivateUse ∷ category.Unassigned ∷ []

-- the number of a category in the list
abbrev number_of : GeneralCategory → ℕ
number_of category.UppercaseLetter = 0
number_of category.LowercaseLetter = 1
number_of category.TitlecaseLetter = 2
number_of category.ModifierLetter = 3
number_of category.OtherLetter = 4
number_of category.NonspacingMark = 5
number_of category.SpacingMark = 6
number_of category.EnclosingMark = 7
number_of category.DecimalNumber = 8
number_of category.LetterNumber = 9
number_of category.OtherNumber = 10
number_of category.ConnectorPunctuation = 11
number_of category.DashPunctuation = 12
number_of category.OpenPunctuation = 13
number_of category.ClosePunctuation = 14
number_of category.InitialPunctuation = 15
number_of category.FinalPunctuation = 16
number_of category.OtherPunctuation = 17
number_of category.MathSymbol = 18
number_of category.CurrencySymbol = 19
number_of category.ModifierSymbol = 20
number_of category.OtherSymbol = 21
number_of category.SpaceSeparator = 22
number_of category.LineSeparator = 23
number_of category.ParagraphSeparator = 24
number_of category.Control = 25
number_of category.Format = 26
number_of category.Surrogate = 27
number_of category.PrivateUse = 28
number_of category.Unassigned = 29

stands_there : (c : GeneralCategory) → (number_of c < length categories) × (get_or categories (number_of c) c ≡ c)
stands_there category.UppercaseLetter = (omega arith, refl)
stands_there category.LowercaseLetter = (omega arith, refl)
stands_there category.TitlecaseLetter = (omega arith, refl)
stands_there category.ModifierLetter = (omega arith, refl)
stands_there category.OtherLetter = (omega arith, refl)
stands_there category.NonspacingMark = (omega arith, refl)
stands_there category.SpacingMark = (omega arith, refl)
stands_there category.EnclosingMark = (omega arith, refl)
stands_there category.DecimalNumber = (omega arith, refl)
stands_there category.LetterNumber = (omega arith, refl)
stands_there category.OtherNumber = (omega arith, refl)
stands_there category.ConnectorPunctuation = (omega arith, refl)
stands_there category.DashPunctuation = (omega arith, refl)
stands_there category.OpenPunctuation = (omega arith, refl)
stands_there category.ClosePunctuation = (omega arith, refl)
stands_there category.InitialPunctuation = (omega arith, refl)
stands_there category.FinalPunctuation = (omega arith, refl)
stands_there category.OtherPunctuation = (omega arith, refl)
stands_there category.MathSymbol = (omega arith, refl)
stands_there category.CurrencySymbol = (omega arith, refl)
stands_there category.ModifierSymbol = (omega arith, refl)
stands_there category.OtherSymbol = (omega arith, refl)
stands_there category.SpaceSeparator = (omega arith, refl)
stands_there category.LineSeparator = (omega arith, refl)
stands_there category.ParagraphSeparator = (omega arith, refl)
stands_there category.Control = (omega arith, refl)
stands_there category.Format = (omega arith, refl)
stands_there category.Surrogate = (omega arith, refl)
stands_there category.PrivateUse = (omega arith, refl)
stands_there category.Unassigned = (omega arith, refl)

some_passes : (test : GeneralCategory → Bool) (cs : List GeneralCategory) → list_any test cs ≡ true → (c : GeneralCategory) × (test c ≡ true)
some_passes test [] h = absurd (cc h)
some_passes test (c ∷ cs) h =
    elim (test c) as (λ b. test c ≡ b → b || list_any test cs ≡ true → (d : GeneralCategory) × (test d ≡ true)) [
      | true ↦ λ e _. (c, e)
      | false ↦ λ _ k. some_passes test cs k
    ] refl h

-- whether a category has the class
abbrev pub has_class : List ℕ → GeneralCategory → Bool
has_class name c = is_code_in_class name (code_of c)

-- a class that none of the categories has is not known
pub unknown : (name : List ℕ) → ¬ (list_any (has_class name) categories ≡ true) → ¬ (IsKnownClass name)
unknown name none (c, h) = none (list_any_at (has_class name) categories (number_of c) c (stands_there c).0 (ap (has_class name) (stands_there c).1 ∙ h))

is_known : (name : List ℕ) → IsKnownClass name ⊎ ¬ (IsKnownClass name)
is_known name = go (holds (list_any (has_class name) categories))
  where
    go : (list_any (has_class name) categories ≡ true) ⊎ ¬ (list_any (has_class name) categories ≡ true) → IsKnownClass name ⊎ ¬ (IsKnownClass name)
    go (inl h) = inl (some_passes (has_class name) categories h)
    go (inr none) = inr (unknown name none)

-- ---- names

is_named : (g : Grammar) (r : ℕ) (name : List ℕ) → IsNamed g r name ⊎ ¬ (IsNamed g r name)
is_named g r name = go (slice_get g.rules r) refl
  where
    go : (o : Option Rule) → slice_get g.rules r ≡ o → IsNamed g r name ⊎ ¬ (IsNamed g r name)
    go None e = inr (λ h. let p : None ≡ Some h.0 = sym e ∙ h.1 in cc p)
    go (Some rule) e = by_name (same_text rule.name name)
      where
        by_name : (rule.name ≡ name) ⊎ (rule.name ≢ name) → IsNamed g r name ⊎ ¬ (IsNamed g r name)
        by_name (inl p) = inl (rule, e, p)
        by_name (inr n) = inr (λ h. let q : Some rule ≡ Some h.0 = sym e ∙ h.1 in let d : rule ≡ h.0 = cc q in n (ap (λ (x : Rule). x.name) d ∙ h.2))

pub named_below : (g : Grammar) (r : ℕ) (name : List ℕ) → IsNamed g r name → r < length g.rules
named_below g r name h = slice_get_within g.rules r h.0 h.1

is_defined : (g : Grammar) (name : List ℕ) → IsDefined g name ⊎ ¬ (IsDefined g name)
is_defined g name = go (find_least (λ r. IsNamed g r name) (λ r. is_named g r name) (length g.rules))
  where
    go : Least (λ r. IsNamed g r name) (length g.rules) ⊎ ((q : ℕ) → q < length g.rules → ¬ (IsNamed g q name)) → IsDefined g name ⊎ ¬ (IsDefined g name)
    go (inl (r, h, p, k)) = inl (r, p)
    go (inr none) = inr (λ d. none d.0 (named_below g d.0 name d.1) d.1)

abbrev Repeats : Grammar → ℕ → Type 0
Repeats g r = (name : List ℕ) × IsRepeated g r name

same_name : (g : Grammar) (r : ℕ) (a b : List ℕ) → IsNamed g r a → IsNamed g r b → a ≡ b
same_name g r a b (x, e, p) (y, f, q) = let k : Some x ≡ Some y = sym e ∙ f in let d : x ≡ y = cc k in sym p ∙ ap (λ (z : Rule). z.name) d ∙ q

repeats : (g : Grammar) (r : ℕ) → Repeats g r ⊎ ¬ (Repeats g r)
repeats g r = go (slice_get g.rules r) refl
  where
    go : (o : Option Rule) → slice_get g.rules r ≡ o → Repeats g r ⊎ ¬ (Repeats g r)
    go None e = inr (λ h. let p : None ≡ Some h.1.0.0 = sym e ∙ h.1.0.1 in cc p)
    go (Some rule) e = earlier (find_least (λ q. IsNamed g q rule.name) (λ q. is_named g q rule.name) r)
      where
        earlier : Least (λ q. IsNamed g q rule.name) r ⊎ ((q : ℕ) → q < r → ¬ (IsNamed g q rule.name)) → Repeats g r ⊎ ¬ (Repeats g r)
        earlier (inl (q, h, p, k)) = inl (rule.name, ((rule, e, refl), q, h, p))
        earlier (inr none) = inr (λ (name, (here, q, h, p)). none q h (subst (λ (n : List ℕ). IsNamed g q n) (same_name g r name rule.name here (rule, e, refl)) p))

one_of_three : (r q : ℕ) → (r ≡ q) ⊎ ((r < q) ⊎ (q < r))
one_of_three r q = grind arith

-- where no rule has the name of an earlier one, names are unique
pub unique_where_none_repeats : (g : Grammar) → ((q : ℕ) → q < length g.rules → ¬ (Repeats g q)) → HasUniqueNames g
unique_where_none_repeats g none r q name a b = by_place (one_of_three r q)
  where
    by_place : (r ≡ q) ⊎ ((r < q) ⊎ (q < r)) → r ≡ q
    by_place (inl e) = e
    by_place (inr (inl l)) = absurd (none q (named_below g q name b) (name, (b, r, l, a)))
    by_place (inr (inr l)) = absurd (none r (named_below g r name a) (name, (a, q, l, b)))

find_repeated : (g : Grammar) → HasUniqueNames g ⊎ ((name : List ℕ) × Breach g (duplicate name))
find_repeated g = go (find_least (Repeats g) (repeats g) (length g.rules))
  where
    go : Least (Repeats g) (length g.rules) ⊎ ((q : ℕ) → q < length g.rules → ¬ (Repeats g q)) → HasUniqueNames g ⊎ ((name : List ℕ) × Breach g (duplicate name))
    go (inl (r, h, (name, k), none)) = inr (name, (r, k, λ p other l m. none p l (other, m)))
    go (inr none) = inl (unique_where_none_repeats g none)

no_repeated : (g : Grammar) (name : List ℕ) → HasUniqueNames g → ¬ (Breach g (duplicate name))
no_repeated g name unique (r, (here, q, l, there), none) = omega (arith, l, unique r q name here there)

-- ---- the version

abbrev IsOne : Grammar → Type 0
IsOne g = (text : List ℕ) → g.version ≡ Some text → text ≡ codes "1.0"

find_version : (g : Grammar) → IsOne g ⊎ ((text : List ℕ) × Breach g (version text))
find_version g = go g.version refl
  where
    go : (o : Option (List ℕ)) → g.version ≡ o → IsOne g ⊎ ((text : List ℕ) × Breach g (version text))
    go None e = inl (λ text f. let p : None ≡ Some text = sym e ∙ f in absurd (cc p))
    go (Some text) e = by_text (same_text text (codes "1.0"))
      where
        by_text : (text ≡ codes "1.0") ⊎ (text ≢ codes "1.0") → IsOne g ⊎ ((other : List ℕ) × Breach g (version other))
        by_text (inl p) = inl (λ other f. let q : Some other ≡ Some text = sym f ∙ e in let d : other ≡ text = cc q in d ∙ p)
        by_text (inr n) = inr (text, (e, n))

-- ---- the least code

pub above_version : (g : Grammar) → IsOne g → (fault : Fault) → Breach g fault → 3 ≤ code_number fault
above_version g v (version text) b = absurd (b.1 (v text b.0))
above_version g v _ b = omega arith

pub above_codes : (g : Grammar) → IsOne g → AllByRecursion IsCodePoint (codes_of g) → (fault : Fault) → Breach g fault → 4 ≤ code_number fault
above_codes g v p (version text) b = absurd (b.1 (v text b.0))
above_codes g v p (code_point digits) b = absurd (no_first IsCodePoint (codes_of g) digits p b)
above_codes g v p _ b = omega arith

pub above_ranges : (g : Grammar) → IsOne g → AllByRecursion IsCodePoint (codes_of g) → AllByRecursion IsRising (ranges_of g) → (fault : Fault) → Breach g fault → 5 ≤ code_number fault
above_ranges g v p q (version text) b = absurd (b.1 (v text b.0))
above_ranges g v p q (code_point digits) b = absurd (no_first IsCodePoint (codes_of g) digits p b)
above_ranges g v p q (range low high) b = absurd (no_first IsRising (ranges_of g) (low, high) q b)
above_ranges g v p q _ b = omega arith

pub above_classes : (g : Grammar) → IsOne g → AllByRecursion IsCodePoint (codes_of g) → AllByRecursion IsRising (ranges_of g) → AllByRecursion IsKnownClass (classes_of g) → (fault : Fault) → Breach g fault → 6 ≤ code_number fault
above_classes g v p q k (version text) b = absurd (b.1 (v text b.0))
above_classes g v p q k (code_point digits) b = absurd (no_first IsCodePoint (codes_of g) digits p b)
above_classes g v p q k (range low high) b = absurd (no_first IsRising (ranges_of g) (low, high) q b)
above_classes g v p q k (class name) b = absurd (no_first IsKnownClass (classes_of g) name k b)
above_classes g v p q k _ b = omega arith

pub above_calls : (g : Grammar) → IsOne g → AllByRecursion IsCodePoint (codes_of g) → AllByRecursion IsRising (ranges_of g) → AllByRecursion IsKnownClass (classes_of g) → AllByRecursion (IsDefined g) (calls_of g) → (fault : Fault) → Breach g fault → 7 ≤ code_number fault
above_calls g v p q k d (undefined name) b = absurd (no_first (IsDefined g) (calls_of g) name d b)
above_calls g v p q k d (duplicate name) b = omega arith
above_calls g v p q k d fault b = absurd (omega (arith, above_classes g v p q k fault b))

-- no code holds of a grammar without a fault
pub unrefused : (g : Grammar) → IsFaultless g → (fault : Fault) → ¬ (Breach g fault)
unrefused g h (duplicate name) b = no_repeated g name h.names b
unrefused g h fault b = omega (arith, above_calls g h.version h.code_points h.ranges h.classes h.calls fault b)

-- a least code holds, or the grammar is without a fault
pub judged : (g : Grammar) → ((fault : Fault) × LeastBreach g fault) ⊎ IsFaultless g
judged g = by_version (find_version g)
  where
    by_version : IsOne g ⊎ ((text : List ℕ) × Breach g (version text)) → ((fault : Fault) × LeastBreach g fault) ⊎ IsFaultless g
    by_version (inr (text, b)) = inl (version text, (b, λ other k. least_of_all other))
      where
        least_of_all : (other : Fault) → 2 ≤ code_number other
        least_of_all (version _) = omega arith
        least_of_all _ = omega arith
    by_version (inl v) = by_code (all_or_first IsCodePoint is_code_point (codes_of g))
      where
        by_code : AllByRecursion IsCodePoint (codes_of g) ⊎ ((digits : List ℕ) × IsFirstOf (λ n y. ¬ (IsCodePoint y)) (codes_of g) digits) → ((fault : Fault) × LeastBreach g fault) ⊎ IsFaultless g
        by_code (inr (digits, b)) = inl (code_point digits, (b, above_version g v))
        by_code (inl p) = by_range (all_or_first IsRising (λ x. at_most x.0 x.1) (ranges_of g))
          where
            by_range : AllByRecursion IsRising (ranges_of g) ⊎ ((bounds : ℕ × ℕ) × IsFirstOf (λ n y. ¬ (IsRising y)) (ranges_of g) bounds) → ((fault : Fault) × LeastBreach g fault) ⊎ IsFaultless g
            by_range (inr (bounds, b)) = inl (range bounds.0 bounds.1, (b, above_codes g v p))
            by_range (inl q) = by_class (all_or_first IsKnownClass is_known (classes_of g))
              where
                by_class : AllByRecursion IsKnownClass (classes_of g) ⊎ ((name : List ℕ) × IsFirstOf (λ n y. ¬ (IsKnownClass y)) (classes_of g) name) → ((fault : Fault) × LeastBreach g fault) ⊎ IsFaultless g
                by_class (inr (name, b)) = inl (class name, (b, above_ranges g v p q))
                by_class (inl k) = by_call (all_or_first (IsDefined g) (is_defined g) (calls_of g))
                  where
                    by_call : AllByRecursion (IsDefined g) (calls_of g) ⊎ ((name : List ℕ) × IsFirstOf (λ n y. ¬ (IsDefined g y)) (calls_of g) name) → ((fault : Fault) × LeastBreach g fault) ⊎ IsFaultless g
                    by_call (inr (name, b)) = inl (undefined name, (b, above_classes g v p q k))
                    by_call (inl d) = by_name (find_repeated g)
                      where
                        by_name : HasUniqueNames g ⊎ ((name : List ℕ) × Breach g (duplicate name)) → ((fault : Fault) × LeastBreach g fault) ⊎ IsFaultless g
                        by_name (inr (name, b)) = inl (duplicate name, (b, above_calls g v p q k d))
                        by_name (inl u) = inr (record { version = v; code_points = p; ranges = q; classes = k; calls = d; names = u })

-- ---- one item

least_number : (P : ℕ → Type 0) (r q : ℕ) → P r → P q → ((p : ℕ) → p < r → ¬ (P p)) → ((p : ℕ) → p < q → ¬ (P p)) → (r ≡ q) ⊎ ((r < q) ⊎ (q < r)) → r ≡ q
least_number P r q h k a b (inl e) = e
least_number P r q h k a b (inr (inl l)) = absurd (b r l h)
least_number P r q h k a b (inr (inr l)) = absurd (a q l k)

-- a code has one item
pub item_once : (g : Grammar) (one two : Fault) → Breach g one → Breach g two → code_number one ≡ code_number two → one ≡ two
item_once g (version a) (version b) (e, n) (f, m) k = let p : Some a ≡ Some b = sym e ∙ f in let q : a ≡ b = cc p in ap version q
item_once g (code_point a) (code_point b) h m k = ap code_point (first_is_one (λ n y. ¬ (IsCodePoint y)) (codes_of g) a b h m)
item_once g (range a b) (range c d) h m k = ap (λ (x : ℕ × ℕ). range x.0 x.1) (first_is_one (λ n y. ¬ (IsRising y)) (ranges_of g) (a, b) (c, d) h m)
item_once g (class a) (class b) h m k = ap class (first_is_one (λ n y. ¬ (IsKnownClass y)) (classes_of g) a b h m)
item_once g (undefined a) (undefined b) h m k = ap undefined (first_is_one (λ n y. ¬ (IsDefined g y)) (calls_of g) a b h m)
item_once g (duplicate a) (duplicate b) (r, h, none) (q, m, no_other) k =
    let e : r ≡ q = least_number (Repeats g) r q (a, h) (b, m) (λ p l x. none p x.0 l x.1) (λ p l x. no_other p x.0 l x.1) (one_of_three r q) in
    ap duplicate (same_name g q a b (subst (λ (z : ℕ). IsNamed g z a) e h.0) m.0)
item_once g _ _ h m k = absurd (omega (arith, k))

-- a grammar of which no code holds is without a fault
pub faultless : (g : Grammar) → ((fault : Fault) → ¬ (Breach g fault)) → IsFaultless g
faultless g none = by_verdict (judged g)
  where
    by_verdict : ((fault : Fault) × LeastBreach g fault) ⊎ IsFaultless g → IsFaultless g
    by_verdict (inl h) = absurd (none h.0 h.1.0)
    by_verdict (inr h) = h
