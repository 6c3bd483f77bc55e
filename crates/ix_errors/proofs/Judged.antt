-- From the tests, one after the other, to the least code.
use Rattle.std.proofs.Common.{◌≡◌, refl, ap, sym, ◌∙◌, subst, ℕ, ◌≤◌, List, [], ◌∷◌, Option, Some, None, codes, arith}
use Rattle.std.specs.Prelude.{IfSome, Result, Ok, Err, OnOk, IfOk, IfErr}
use Rattle.std.specs.List.{AllByRecursion, flat_map}
use Rattle.ix_model.specs.declared.grammar.Grammar.{Grammar}
use Rattle.ix_model.specs.Firsts.{IsFirstOf}
use Rattle.ix_model.specs.Grammars.Names.{HasUniqueNames, names_of}
use Rattle.ix_model.specs.Grammars.Factors.{codes_of, ranges_of, classes_of, calls_of}
use Rattle.ix_model.specs.Grammars.Breach as of
use Rattle.ix_model.specs.Grammars.Breach.{Fault, code_point, class, undefined, duplicate, code_number, IsCodePoint, IsRising, IsKnownClass, IsDefined, IsRepeated, LeastBreach}
use Rattle.ix_conformance_laws.proofs.Judging.{above_version, above_codes, above_ranges, above_classes, above_calls, unrefused, unique_where_none_repeats}
use Rattle.ix_model.proofs.FirstNames.{named_at, name_at}
use Rattle.ix_errors.specs.declared.breach.Breach.{Breach}
use Rattle.ix_errors.specs.Breaches.{fault_of, IsLeast, IsOfCode, NamesFirst, NamesRepeated, falling}
use Rattle.ix_errors.specs.Firsts.{IsAmong, IsRepeatedAt, IsSearchForRepeated}
use Rattle.ix_errors.specs.Mentions.{code_in, range_in, class_in, call_in, AreOf}
use Rattle.ix_errors.specs.declared.mention.Mention.{Mention}

-- ---- a code that no lesser one comes before

least : (g : Grammar) (n : ℕ) (error : Breach) → ((fault : Fault) → of.Breach g fault → n ≤ code_number fault) → IsOfCode n g error → IsLeast g error
least g n error above h = go (fault_of error) h
  where
    go : (o : Option Fault) → IfSome o (λ fault. of.Breach g fault × (code_number fault ≡ n)) → IfSome o (LeastBreach g)
    go None k = tt
    go (Some fault) (k, e) = (k, λ other b. omega (arith, e, above other b))

from_two : (g : Grammar) (fault : Fault) → of.Breach g fault → 2 ≤ code_number fault
from_two g (of.version text) b = omega arith
from_two g (of.code_point digits) b = omega arith
from_two g (of.range low high) b = omega arith
from_two g (of.class name) b = omega arith
from_two g (of.undefined name) b = omega arith
from_two g (of.duplicate name) b = omega arith

-- the first of a list, by the code of the list
named : {X : Type 0} (g : Grammar) (P : X → Type 0) (xs : List X) (fault : X → Fault) (n : ℕ) (error : Breach) → ((x : X) → IsFirstOf (λ n y. ¬ (P y)) xs x → of.Breach g (fault x)) → ((x : X) → code_number (fault x) ≡ n) → NamesFirst P xs fault error → IsOfCode n g error
named {X} g P xs fault n error holds number h = go (fault_of error) h
  where
    go : (o : Option Fault) → IfSome o (λ found. (x : X) × (found ≡ fault x) × IsFirstOf (λ n y. ¬ (P y)) xs x) → IfSome o (λ found. of.Breach g found × (code_number found ≡ n))
    go None k = tt
    go (Some found) (x, e, first) = (subst (of.Breach g) (sym e) (holds x first), ap code_number e ∙ number x)

-- ---- names

module _ (g : Grammar) where
  among_is_defined : (name : List ℕ) → IsAmong (names_of g.rules) name → IsDefined g name
  among_is_defined name (r, e) = (r, named_at g name r e)

  defined_is_among : (name : List ℕ) → IsDefined g name → IsAmong (names_of g.rules) name
  defined_is_among name (r, h) = (r, name_at g name r h)

  repeated_in_grammar : (r : ℕ) (name : List ℕ) → IsRepeatedAt (names_of g.rules) r name → IsRepeated g r name
  repeated_in_grammar r name (here, q, l, there) = (named_at g name r here, q, l, named_at g name q there)

  repeated_in_names : (r : ℕ) (name : List ℕ) → IsRepeated g r name → IsRepeatedAt (names_of g.rules) r name
  repeated_in_names r name (here, q, l, there) = (name_at g name r here, q, l, name_at g name q there)

all_along : {X : Type 0} (P Q : X → Type 0) → ((x : X) → P x → Q x) → (xs : List X) → AllByRecursion P xs → AllByRecursion Q xs
all_along P Q f [] h = tt
all_along P Q f (x ∷ xs) h = (f x h.0, all_along P Q f xs h.1)

first_along : {X : Type 0} (P Q : X → Type 0) → ((x : X) → P x → Q x) → ((x : X) → Q x → P x) → (xs : List X) (x : X) → IsFirstOf (λ n y. ¬ (P y)) xs x → IsFirstOf (λ n y. ¬ (Q y)) xs x
first_along P Q f back xs x (n, (e, not_here, before)) = (n, (e, λ q. not_here (back x q), λ m y l there h. before m y l there (λ p. h (f y p))))

-- ---- the tests in their order

abbrev IsOne : Grammar → Type 0
IsOne g = (text : List ℕ) → g.version ≡ Some text → text ≡ codes "1.0"

module _ (g : Grammar) (error : Breach) where
  pub least_version : IsOfCode 2 g error → IsLeast g error
  least_version = least g 2 error (from_two g)

module _ (g : Grammar) (mentions : List Mention) (are : AreOf g mentions) (one : IsOne g) where
  pub least_code : (error : Breach) → NamesFirst IsCodePoint (flat_map code_in mentions) code_point error → IsLeast g error
  least_code error h = least g 3 error (above_version g one) (named g IsCodePoint (codes_of g) code_point 3 error (λ x k. k) (λ x. refl) (subst (λ xs. NamesFirst IsCodePoint xs code_point error) are.codes_are h))

  module _ (points : AllByRecursion IsCodePoint (flat_map code_in mentions)) where
    points_of : AllByRecursion IsCodePoint (codes_of g)
    points_of = subst (AllByRecursion IsCodePoint) are.codes_are points

    pub least_range : (error : Breach) → NamesFirst IsRising (flat_map range_in mentions) falling error → IsLeast g error
    least_range error h = least g 4 error (above_codes g one points_of) (named g IsRising (ranges_of g) falling 4 error (λ x k. k) (λ x. refl) (subst (λ xs. NamesFirst IsRising xs falling error) are.ranges_are h))

    module _ (rising : AllByRecursion IsRising (flat_map range_in mentions)) where
      rising_of : AllByRecursion IsRising (ranges_of g)
      rising_of = subst (AllByRecursion IsRising) are.ranges_are rising

      pub least_class : (error : Breach) → NamesFirst IsKnownClass (flat_map class_in mentions) class error → IsLeast g error
      least_class error h = least g 5 error (above_ranges g one points_of rising_of) (named g IsKnownClass (classes_of g) class 5 error (λ x k. k) (λ x. refl) (subst (λ xs. NamesFirst IsKnownClass xs class error) are.classes_are h))

      module _ (known : AllByRecursion IsKnownClass (flat_map class_in mentions)) (names : List (List ℕ)) (named_as : names ≡ names_of g.rules) where
        known_of : AllByRecursion IsKnownClass (classes_of g)
        known_of = subst (AllByRecursion IsKnownClass) are.classes_are known

        among : (name : List ℕ) → IsAmong names name → IsDefined g name
        among name h = among_is_defined g name (subst (λ (ns : List (List ℕ)). IsAmong ns name) named_as h)

        back : (name : List ℕ) → IsDefined g name → IsAmong names name
        back name h = subst (λ (ns : List (List ℕ)). IsAmong ns name) (sym named_as) (defined_is_among g name h)

        pub least_call : (error : Breach) → NamesFirst (IsAmong names) (flat_map call_in mentions) undefined error → IsLeast g error
        least_call error h = least g 6 error (above_classes g one points_of rising_of known_of) (named g (IsAmong names) (calls_of g) undefined 6 error (λ x k. first_along (IsAmong names) (IsDefined g) among back (calls_of g) x k) (λ x. refl) (subst (λ xs. NamesFirst (IsAmong names) xs undefined error) are.calls_are h))

        module _ (called : AllByRecursion (IsAmong names) (flat_map call_in mentions)) where
          called_of : AllByRecursion (IsDefined g) (calls_of g)
          called_of = all_along (IsAmong names) (IsDefined g) among (calls_of g) (subst (AllByRecursion (IsAmong names)) are.calls_are called)

          pub least_repeat : (error : Breach) → NamesRepeated names error → IsLeast g error
          least_repeat error h = least g 7 error (above_calls g one points_of rising_of known_of called_of) (go (fault_of error) (subst (λ (ns : List (List ℕ)). NamesRepeated ns error) named_as h))
            where
              go : (o : Option Fault) → IfSome o (λ found. (name : List ℕ) × (found ≡ duplicate name) × IsSearchForRepeated (names_of g.rules) (Some name)) → IfSome o (λ found. of.Breach g found × (code_number found ≡ 7))
              go None k = tt
              go (Some found) (name, e, (r, here, none)) = (subst (of.Breach g) (sym e) (r, repeated_in_grammar g r name here, λ p other l k. none p other l (repeated_in_names g p other k)), ap code_number e)

          -- no code holds where each test is passed
          pub none_holds : IsSearchForRepeated names None → (fault : Fault) → ¬ (of.Breach g fault)
          none_holds none = unrefused g (record { version = one; code_points = points_of; ranges = rising_of; classes = known_of; calls = called_of; names = unique })
            where
              unique : HasUniqueNames g
              unique = unique_where_none_repeats g (λ q l h. none q h.0 (subst (λ (ns : List (List ℕ)). IsRepeatedAt ns q h.0) (sym named_as) (repeated_in_names g q h.0 h.1)))

          -- the same of what the last test answers
          pub last_ok : (result : Result (Unit {0}) Breach) → OnOk result (IsSearchForRepeated names None) → IfOk result (λ _. (fault : Fault) → ¬ (of.Breach g fault))
          last_ok (Ok x) h = none_holds h
          last_ok (Err error) h = tt

          pub last_err : (result : Result (Unit {0}) Breach) → IfErr result (NamesRepeated names) → IfErr result (IsLeast g)
          last_err (Ok x) h = tt
          last_err (Err error) h = least_repeat error h
