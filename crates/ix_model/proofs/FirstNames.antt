-- The first of a list that passes a test, and names by their numbers.
use Rattle.std.proofs.Common.{◌≡◌, ◌≢◌, refl, ap, sym, ◌∙◌, ℕ, ◌≤◌, ◌+◌, List, [], ◌∷◌, ◌++◌, length, get_or, Option, Some, None, arith, add-zero}
use Rattle.std.specs.Prelude.{Bool, true, false, cond, nat_lt, slice_get, is_some, IfSome, IfNone}
use Rattle.std.specs.List.{position_from, position_or_len}
use Rattle.std.specs.Option.{option_or, option_map}
use Rattle.std.specs.Str.{bytes_eq}
use Rattle.std.specs.Ordering.{nat_cmp}
use Rattle.std.specs.Cmp.Lexicographic.{slice_cmp}
use Rattle.std.specs.BTreeMap.{BTreeMap, UpdatesBy}
use Rattle.std.specs.Borrow.{Bor}
use Rattle.std.proofs.lemmas.Slice.Eq.{bytes_eq-Decides}
use Rattle.std.proofs.lemmas.Map.Text.{btree_map_updates_str}
use Rattle.std.proofs.lemmas.Option.{slice_get-map, slice_get_within, slice_get-get_or, get_or_from_slice_get}
use Rattle.std.proofs.lemmas.Bool.Decides.{nat_tests}
use Rattle.std.proofs.lemmas.Iterator.Adapters.{position_from-zero}
use Rattle.std.proofs.lemmas.List.Sums.{fails_before_first}
use Rattle.std.proofs.lemmas.List.Quantifiers.{position-Some}
use Rattle.ix_model.specs.declared.grammar.Grammar.{Grammar}
use Rattle.ix_model.specs.declared.grammar.Rule.{Rule}
use Rattle.ix_model.specs.Grammars.Written.{IsNamed}
use Rattle.ix_model.specs.Grammars.Breach.{IsDefined}
use Rattle.ix_model.specs.Grammars.Names.{names_of, IsFirstName, number_in, AreNumbersOf, AddsFirst}

-- ---- the first that passes

module _ {X : Type 0} (p : X → Bool) where
  -- the first of a list with one more at its end
  pub position_push : (i : ℕ) (xs : List X) (y : X) → position_from p i (xs ++ y ∷ []) ≡ option_or (position_from p i xs) (cond (p y) (Some (i + length xs)) None)
  position_push i [] y = ap (λ n. cond (p y) (Some n) None) (sym (add-zero i))
  position_push i (x ∷ xs) y =
      let later : i + 1 + length xs ≡ i + length (x ∷ xs) = omega arith in
      elim (p x) as (λ b. cond b (Some i) (position_from p (i + 1) (xs ++ y ∷ [])) ≡ option_or (cond b (Some i) (position_from p (i + 1) xs)) (cond (p y) (Some (i + length (x ∷ xs))) None)) [
        | true ↦ refl
        | false ↦ position_push (i + 1) xs y ∙ ap (λ n. option_or (position_from p (i + 1) xs) (cond (p y) (Some n) None)) later
      ]

  -- where there is no first, none passes
  pub none_passes : (xs : List X) → position_from p 0 xs ≡ None → (q : ℕ) (y : X) → slice_get xs q ≡ Some y → p y ≡ false
  none_passes xs e q y h = sym (ap p (get_or_from_slice_get xs q y y h)) ∙ fails_before_first p xs q y (omega (arith, slice_get_within xs q y h, at_end _ refl (position_from-zero p xs ∙ e)))
    where
      at_end : (b : Bool) → nat_lt (position_or_len p xs) (length xs) ≡ b → cond b (Some (position_or_len p xs)) None ≡ None → length xs ≤ position_or_len p xs
      at_end true t n = absurd (cc n)
      at_end false t n = grind (arith, nat_tests, t)

-- ---- names by their numbers

-- a name has its own characters
same : (name : List ℕ) → bytes_eq name name ≡ true
same name = (bytes_eq-Decides name name).1 refl

not_passing : (name : List ℕ) → ¬ (bytes_eq name name ≡ false)
not_passing name h = let e : true ≡ false = sym (same name) ∙ h in cc e

-- what a look-up in the numbers of the names answers
pub some_first : (numbers : BTreeMap (Bor (List ℕ)) ℕ) (names : List (List ℕ)) (name : List ℕ) (result : Option ℕ) → AreNumbersOf numbers names → result ≡ number_in numbers name → IfSome result (λ r. IsFirstName names name r)
some_first numbers names name None h e = tt
some_first numbers names name (Some r) h e =
    let found = position-Some (bytes_eq name) names r name (position_from-zero (bytes_eq name) names ∙ sym (e ∙ h name)) in
    let d : name ≡ get_or names r name = (bytes_eq-Decides name (get_or names r name)).0 found.1 in (
      slice_get-get_or names r name found.0 ∙ ap Some (sym d),
      refl,
      λ q other l there same. not_passing name (sym (ap (bytes_eq name) (get_or_from_slice_get names q other name there ∙ same)) ∙ found.2 q l),
    )

pub none_first : (numbers : BTreeMap (Bor (List ℕ)) ℕ) (names : List (List ℕ)) (name : List ℕ) (result : Option ℕ) → AreNumbersOf numbers names → result ≡ number_in numbers name → IfNone result ((r : ℕ) → slice_get names r ≢ Some name)
none_first numbers names name (Some r) h e = tt
none_first numbers names name None h e = λ r k. not_passing name (none_passes (bytes_eq name) names (sym (e ∙ h name)) r name k)

-- one more name at the end
pub one_more_name : (old new : BTreeMap (Bor (List ℕ)) ℕ) (names : List (List ℕ)) (name : List ℕ) (number : ℕ) → number ≡ length names → AreNumbersOf old names → AddsFirst old new name number → AreNumbersOf new (names ++ name ∷ [])
one_more_name old new names name number n h a other =
    a other ∙ ap (λ o. option_or o (cond (bytes_eq other name) (Some number) None)) (h other) ∙ ap (λ m. option_or (position_from (bytes_eq other) 0 names) (cond (bytes_eq other name) (Some m) None)) (omega (arith, n)) ∙ sym (position_push (bytes_eq other) 0 names name)

module _ (old : BTreeMap (Bor (List ℕ)) ℕ) (name : List ℕ) (number : ℕ) where
  -- a name that has a number keeps it
  pub added_before : is_some (number_in old name) ≡ true → AddsFirst old old name number
  added_before has other = by_name (bytes_eq other name) refl (number_in old other) refl
    where
      by_name : (b : Bool) → bytes_eq other name ≡ b → (o : Option ℕ) → number_in old other ≡ o → o ≡ option_or o (cond b (Some number) None)
      by_name b e (Some r) f = refl
      by_name false e None f = refl
      by_name true e None f =
          let d : other ≡ name = (bytes_eq-Decides other name).0 e in
          let n : None ≡ number_in old name = sym f ∙ ap (λ x. number_in old x) d in
          let t : true ≡ false = sym has ∙ ap is_some (sym n) in
          cc t

  -- a name that has none gets this one
  pub added_now : (new : BTreeMap (Bor (List ℕ)) ℕ) → is_some (number_in old name) ≡ false → UpdatesBy (λ x y. slice_cmp nat_cmp x.now y.now) (λ k. slice_cmp nat_cmp name k.now) old new (Some number) → AddsFirst old new name number
  added_now new lacks updates other = btree_map_updates_str name old new (Some number) updates other ∙ by_name (bytes_eq other name) refl (bytes_eq name other) refl (number_in old other) refl
    where
      by_name : (b : Bool) → bytes_eq other name ≡ b → (c : Bool) → bytes_eq name other ≡ c → (o : Option ℕ) → number_in old other ≡ o → cond c (Some number) o ≡ option_or o (cond b (Some number) None)
      by_name true e true g None f = refl
      by_name false e false g None f = refl
      by_name false e false g (Some r) f = refl
      by_name true e false g o f =
          let d : other ≡ name = (bytes_eq-Decides other name).0 e in
          let t : true ≡ false = sym ((bytes_eq-Decides name other).1 (sym d)) ∙ g in
          absurd (cc t)
      by_name false e true g o f =
          let d : name ≡ other = (bytes_eq-Decides name other).0 g in
          let t : true ≡ false = sym ((bytes_eq-Decides other name).1 (sym d)) ∙ e in
          absurd (cc t)
      by_name true e true g (Some r) f =
          let d : other ≡ name = (bytes_eq-Decides other name).0 e in
          let t : true ≡ false = sym (ap is_some (ap (λ x. number_in old x) (sym d) ∙ f)) ∙ lacks in
          absurd (cc t)

-- ---- names in a grammar

module _ (g : Grammar) (name : List ℕ) where
  -- the rule with this number has the name
  pub named_at : (r : ℕ) → slice_get (names_of g.rules) r ≡ Some name → IsNamed g r name
  named_at r e = by_rule (slice_get g.rules r) refl (sym (slice_get-map (λ (rule : Rule). rule.name) g.rules r) ∙ e)
    where
      by_rule : (o : Option Rule) → slice_get g.rules r ≡ o → option_map (λ (rule : Rule). rule.name) o ≡ Some name → IsNamed g r name
      by_rule None f h = absurd (cc h)
      by_rule (Some rule) f h = let d : rule.name ≡ name = cc h in (rule, f, d)

  -- the name stands at the number of a rule that has it
  pub name_at : (r : ℕ) → IsNamed g r name → slice_get (names_of g.rules) r ≡ Some name
  name_at r (rule, e, d) = slice_get-map (λ (rule : Rule). rule.name) g.rules r ∙ ap (option_map (λ (rule : Rule). rule.name)) e ∙ ap Some d

  -- the first rule with the name has it
  pub first_is_named : (r : ℕ) → IsFirstName (names_of g.rules) name r → IsNamed g r name
  first_is_named r h = named_at r h.0

  -- a name that is not among the names of the rules is not defined
  pub absent_is_undefined : ((r : ℕ) → slice_get (names_of g.rules) r ≢ Some name) → ¬ (IsDefined g name)
  absent_is_undefined none (r, h) = none r (name_at r h)
