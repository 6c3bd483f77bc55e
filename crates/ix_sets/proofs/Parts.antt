-- Members of a set, one by one.
use Rattle.std.proofs.Common.{◌≡◌, sym, arith, ℕ, ◌<◌, List, [], ◌∷◌, length, get_or, zero, suc, inl, inr, Any, IsTrue, ◌⊎◌, ⊎_elim, flat_map, not-suc-le-zero, le_of_suc-le-suc}
use Rattle.std.specs.List.{AllByRecursion, Contains}
use Rattle.std.proofs.lemmas.List.Elements.{Contains-append_right}
use Rattle.ix_model.specs.declared.grammar.Member.{Member}
use Rattle.ix_model.specs.Matching.Sets.{IsOfMember, IsOfSome}
use Rattle.std.proofs.lemmas.Bool.{or_cases, or_left, or_right}
use Rattle.unicode.specs.GeneralCategory.{general_category}
use Rattle.ix_model.specs.declared.grammar.Member.TheVariants as member
use Rattle.ix_sets.specs.Kinds.{has_category, IsWritten}
use Rattle.ix_sets.proofs.Categories.{IsNamed}
use Rattle.ix_sets.proofs.Gaining.{SomeOf, some_at, some_of_any, any_of_some}
use Rattle.ix_model.proofs.AllOf.{all_left, all_right}

pub contains_some : (c : ℕ) (xs : List ℕ) → SomeOf (λ x. c ≡ x) xs → Contains xs c
contains_some c [] h = absurd h
contains_some c (x ∷ xs) (inl h) = (0, omega arith, sym h)
contains_some c (x ∷ xs) (inr h) = Contains-append_right (x ∷ []) xs c (contains_some c xs h)

pub some_contained : (c : ℕ) (xs : List ℕ) → Contains xs c → SomeOf (λ x. c ≡ x) xs
some_contained c xs (k, h, is) = some_at (λ x. c ≡ x) xs k c h (sym is)

-- ---- members that are classes, and others

pub written_or_named : (c : ℕ) (m : Member) → IsOfMember c m → IsWritten c m ⊎ IsTrue (has_category (general_category c) m)
written_or_named c (member.Quoted text) h = inl h
written_or_named c (member.Code digits) h = inl h
written_or_named c (member.Range low high) h = inl h
written_or_named c (member.Class name) h = inr h

written_is : (c : ℕ) (m : Member) → IsWritten c m → IsOfMember c m
written_is c (member.Quoted text) h = h
written_is c (member.Code digits) h = h
written_is c (member.Range low high) h = h
written_is c (member.Class name) h = absurd h

named_is : (c : ℕ) (m : Member) → IsTrue (has_category (general_category c) m) → IsOfMember c m
named_is c (member.Quoted text) h = absurd (cc h)
named_is c (member.Code digits) h = absurd (cc h)
named_is c (member.Range low high) h = absurd (cc h)
named_is c (member.Class name) h = h

some_is_one : (c : ℕ) (ms : List Member) → SomeOf (IsWritten c) ms ⊎ IsNamed ms c → IsOfSome c ms
some_is_one c [] (inl h) = absurd h
some_is_one c [] (inr h) = absurd (cc h)
some_is_one c (m ∷ ms) (inl (inl h)) = inl (written_is c m h)
some_is_one c (m ∷ ms) (inl (inr h)) = inr (some_is_one c ms (inl h))
some_is_one c (m ∷ ms) (inr h) = elim (or_cases _ _ h) [ inl t ↦ inl (named_is c m t) | inr t ↦ inr (some_is_one c ms (inr t)) ]

one_is_some : (c : ℕ) (ms : List Member) → IsOfSome c ms → SomeOf (IsWritten c) ms ⊎ IsNamed ms c
one_is_some c [] h = absurd h
one_is_some c (m ∷ ms) (inl h) = elim (written_or_named c m h) [ inl w ↦ inl (inl w) | inr t ↦ inr (or_left _ _ t) ]
one_is_some c (m ∷ ms) (inr h) = elim (one_is_some c ms h) [ inl w ↦ inl (inr w) | inr t ↦ inr (or_right _ _ t) ]

pub some_is : (c : ℕ) (ms : List Member) → Any (IsWritten c) ms ⊎ IsNamed ms c → IsOfSome c ms
some_is c ms h = some_is_one c ms (⊎_elim (λ w. inl (some_of_any (IsWritten c) ms w)) inr h)

pub is_some : (c : ℕ) (ms : List Member) → IsOfSome c ms → Any (IsWritten c) ms ⊎ IsNamed ms c
is_some c ms h = ⊎_elim (λ w. inl (any_of_some (IsWritten c) ms w)) inr (one_is_some c ms h)

-- ---- what is true of all parts

-- of the parts of an element at its place
pub all_at : {X Y : Type 0} (f : X → List Y) (P : Y → Type 0) (xs : List X) (i : ℕ) (d : X) → i < length xs → AllByRecursion P (flat_map f xs) → AllByRecursion P (f (get_or xs i d))
all_at f P [] i d h all = absurd (not-suc-le-zero h)
all_at f P (x ∷ xs) zero d h all = all_left P (f x) (flat_map f xs) all
all_at f P (x ∷ xs) (suc i) d h all = all_at f P xs i d (le_of_suc-le-suc h) (all_right P (f x) (flat_map f xs) all)
