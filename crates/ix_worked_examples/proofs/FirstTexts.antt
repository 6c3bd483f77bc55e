-- The derivations of `1+1+1`, and the first derivations of small texts.
use Rattle.std.proofs.Common.{◌≡◌, ◌≢◌, refl, ap, sym, subst, ◌⊎◌, ◌+◌, ◌≤◌, ℕ, zero, suc, List, [], ◌∷◌, None, length, codes, arith}
use mathlib.Core.Logic.{inl, inr}
use Rattle.ix_model.specs.declared.grammar.Grammar.{Grammar}
use Rattle.ix_model.specs.declared.grammar.Rule.{Rule}
use Rattle.ix_model.specs.declared.grammar.Term.{Term}
use Rattle.ix_model.specs.Grammars.Written.{IsOfRule}
use Rattle.ix_model.specs.Matching.Terminals.{StandsAt}
use Rattle.ix_model.specs.Derivations.Trees.{Tree, text, node, Trees}
use Rattle.ix_model.specs.Derivations.Heights.{height}
use Rattle.ix_model.specs.Derivations.Derives.{Derives, DerivesAll, IsDerivation}
use Rattle.ix_model.specs.Derivations.Order.{Before, First}
use Rattle.ix_examples.specs.SmallGrammars.{alternative, rule, quoted, call, only_a, two_ways, cycle, sums}
use Rattle.ix_examples.specs.SmallTrees.{node_of, a_tree, one_at, sum_at, left_sum, right_sum}
use Rattle.ix_tree_laws.proofs.Widths.{derived_width}
use Rattle.ix_model.specs.Grammars.Names.{HasUniqueNames}
use Rattle.ix_tree_laws.proofs.Roots.{from_first_rule}
use Rattle.ix_examples.proofs.Inversions.{one_of_two, of_only_rule, only_rule, quoted_is_text, one_derived, three_derived}
use Rattle.ix_model.proofs.Forms.{call_is_node}
use Rattle.ix_worked_examples.proofs.Called.{unique_names}
use Rattle.ix_examples.proofs.SmallTexts.{first, one_a, either_a, around_or_a, a_derives, earlier_derives, within_derives}

abbrev sum_terms : List Term
sum_terms = call (codes "E") ∷ quoted (codes "+") ∷ call (codes "E") ∷ []

abbrev digit_terms : List Term
digit_terms = quoted (codes "1") ∷ []

abbrev e_rule : Rule
e_rule = rule (codes "E") (alternative sum_terms ∷ alternative digit_terms ∷ [])

-- ---- sums

-- a `+` stands at an odd place of `1+1+1`
plus_places : (k : ℕ) → StandsAt (codes "1+1+1") (codes "+") k (k + 1) → (k ≡ 1) ⊎ (k ≡ 3)
plus_places zero (a, b, e) = absurd (omega (arith, ap first e))
plus_places (suc zero) h = inl refl
plus_places (suc (suc zero)) (a, b, e) = absurd (omega (arith, ap first e))
plus_places (suc (suc (suc zero))) h = inr refl
plus_places (suc (suc (suc (suc zero)))) (a, b, e) = absurd (omega (arith, ap first e))
plus_places (suc (suc (suc (suc (suc k))))) (a, b, e) = absurd (omega (arith, b))

module _ (s : List ℕ) where
  abbrev IsE : Tree → ℕ → ℕ → Type 0
  IsE d i j = Derives sums s d (call (codes "E")) i j

  -- a sum is two sums with a `+` between them
  abbrev IsSum : Tree → ℕ → ℕ → Type 0
  IsSum d i j = (k : ℕ) × (e : Tree) × (f : Tree) × (d ≡ sum_at k e f) × IsE e i k × StandsAt s (codes "+") k (k + 1) × IsE f (k + 1) j

  abbrev IsDigit : Tree → ℕ → ℕ → Type 0
  IsDigit d i j = (d ≡ one_at i) × (i + 1 ≡ j)

  -- what an alternative of E derives
  of_alternative : (a : ℕ) (ds : Trees) (terms : List Term) (i j : ℕ) → IsOfRule sums 0 a terms → DerivesAll sums s ds terms i j → IsDigit (node 0 a ds) i j ⊎ IsSum (node 0 a ds) i j
  of_alternative a ds terms i j o all = by_number (one_of_two sum_terms digit_terms a terms (of_only_rule (codes "E") (alternative sum_terms ∷ alternative digit_terms ∷ []) a terms o))
    where
      by_number : ((a ≡ 0) × (sum_terms ≡ terms)) ⊎ ((a ≡ 1) × (digit_terms ≡ terms)) → IsDigit (node 0 a ds) i j ⊎ IsSum (node 0 a ds) i j
      by_number (inl (n, p)) =
          let h = three_derived sums s ds (call (codes "E")) (quoted (codes "+")) (call (codes "E")) i j (subst (λ ts. DerivesAll sums s ds ts i j) (sym p) all) in
          let y = quoted_is_text sums s h.3 (codes "+") h.0 h.1 h.7 in
          let w : h.1 ≡ h.0 + 1 = omega (arith, y.1.0) in
          inr (h.0, h.2, h.4, cc (n, h.5, y.0, w), h.6, subst (λ (x : ℕ). StandsAt s (codes "+") h.0 x) w y.1, subst (λ (x : ℕ). IsE h.4 x j) w h.8)
      by_number (inr (n, p)) =
          let h = one_derived sums s ds (quoted (codes "1")) i j (subst (λ ts. DerivesAll sums s ds ts i j) (sym p) all) in
          let y = quoted_is_text sums s h.0 (codes "1") i j h.2 in
          let w : i + 1 ≡ j = omega (arith, y.1.0) in
          inl (cc (n, h.1, y.0, w), w)

  -- what E derives
  digit_or_sum : (d : Tree) (i j : ℕ) → IsE d i j → IsDigit d i j ⊎ IsSum d i j
  digit_or_sum d i j h =
      let x = call_is_node sums s d None (codes "E") i j h in
      let r : x.0 ≡ 0 = only_rule e_rule x.0 (codes "E") x.5 in
      let z : d ≡ node 0 x.1 x.2 = cc (x.4, r) in
      subst (λ t. IsDigit t i j ⊎ IsSum t i j) (sym z) (of_alternative x.1 x.2 x.3 i j (subst (λ (n : ℕ). IsOfRule sums n x.1 x.3) r x.6) x.7)

  wide : (d : Tree) (i j : ℕ) → IsE d i j → i + 1 ≤ j
  wide d i j h = by_form (digit_or_sum d i j h)
    where
      by_form : IsDigit d i j ⊎ IsSum d i j → i + 1 ≤ j
      by_form (inl x) = omega (arith, x.1)
      by_form (inr x) = omega (arith, derived_width sums s x.1 (call (codes "E")) i x.0 x.4, derived_width sums s x.2 (call (codes "E")) (x.0 + 1) j x.6)

  -- one character is a digit
  one_character : (d : Tree) (i j : ℕ) → i + 1 ≡ j → IsE d i j → d ≡ one_at i
  one_character d i j w h = by_form (digit_or_sum d i j h)
    where
      by_form : IsDigit d i j ⊎ IsSum d i j → d ≡ one_at i
      by_form (inl x) = x.0
      by_form (inr x) = absurd (omega (arith, w, wide x.1 i x.0 x.4, wide x.2 (x.0 + 1) j x.6))

  -- three characters are a sum of digits
  three_characters : (d : Tree) (i j : ℕ) → i + 3 ≡ j → IsE d i j → d ≡ sum_at (i + 1) (one_at i) (one_at (i + 2))
  three_characters d i j w h = by_form (digit_or_sum d i j h)
    where
      by_form : IsDigit d i j ⊎ IsSum d i j → d ≡ sum_at (i + 1) (one_at i) (one_at (i + 2))
      by_form (inl x) = absurd (omega (arith, x.1, w))
      by_form (inr (k, e, f, p, he, plus, hf)) =
          let n : k ≡ i + 1 = omega (arith, w, wide e i k he, wide f (k + 1) j hf) in
          let m : k + 1 ≡ i + 2 = omega (arith, n) in
          cc (p, n, m, one_character e i k (omega (arith, n)) he, one_character f (k + 1) j (omega (arith, n, w)) hf)

-- `1+1+1` has two sums
pub left_or_right : (d : Tree) → IsDerivation sums (codes "1+1+1") d → (d ≡ left_sum) ⊎ (d ≡ right_sum)
left_or_right d (a, terms, ds, p, o, all) = by_form (of_alternative (codes "1+1+1") a ds terms 0 5 o all)
  where
    by_place : (k : ℕ) (e f : Tree) → node 0 a ds ≡ sum_at k e f → IsE (codes "1+1+1") e 0 k → IsE (codes "1+1+1") f (k + 1) 5 → (k ≡ 1) ⊎ (k ≡ 3) → (d ≡ left_sum) ⊎ (d ≡ right_sum)
    by_place k e f q he hf (inl n) =
        let m : k + 1 ≡ 2 = omega (arith, n) in
        inr (cc (p, q, n, one_character (codes "1+1+1") e 0 k (omega (arith, n)) he, three_characters (codes "1+1+1") f 2 5 refl (subst (λ (x : ℕ). IsE (codes "1+1+1") f x 5) m hf)))
    by_place k e f q he hf (inr n) =
        let m : k + 1 ≡ 4 = omega (arith, n) in
        inl (cc (p, q, n, three_characters (codes "1+1+1") e 0 k (omega (arith, n)) he, one_character (codes "1+1+1") f 4 5 refl (subst (λ (x : ℕ). IsE (codes "1+1+1") f x 5) m hf)))

    by_form : IsDigit (codes "1+1+1") (node 0 a ds) 0 5 ⊎ IsSum (codes "1+1+1") (node 0 a ds) 0 5 → (d ≡ left_sum) ⊎ (d ≡ right_sum)
    by_form (inl x) = absurd (omega (arith, x.1))
    by_form (inr (k, e, f, q, he, plus, hf)) = by_place k e f q he hf (plus_places k plus)

-- a digit and a sum of sums derive from E
digit_derives : (s : List ℕ) (i : ℕ) → StandsAt s (codes "1") i (i + 1) → IsE s (one_at i) i (i + 1)
digit_derives s i h = ((_, _, refl, (_, refl, refl)), _, (_, refl, (_, refl, refl)), refl, (i, _, refl, refl, (refl, refl, inl (_, _, refl, h))))

sum_derives : (s : List ℕ) (i k j : ℕ) (d e : Tree) → IsE s d i k → StandsAt s (codes "+") k (k + 1) → IsE s e (k + 1) j → IsE s (sum_at k d e) i j
sum_derives s i k j d e hd h he = (
  (_, _, refl, (_, refl, refl)),
  _,
  (_, refl, (_, refl, refl)),
  refl,
  (k + 1, _, (k, _, (i, _, refl, refl, hd), refl, (refl, refl, inl (_, _, refl, h))), refl, he),
)

sums_of_one_name : HasUniqueNames sums
sums_of_one_name = unique_names sums (refl, tt)

abbrev digit_at : (i : ℕ) → StandsAt (codes "1+1+1") (codes "1") i (i + 1) → IsE (codes "1+1+1") (one_at i) i (i + 1)
digit_at i h = digit_derives (codes "1+1+1") i h

pub left_derives : IsDerivation sums (codes "1+1+1") left_sum
left_derives =
    let front = sum_derives (codes "1+1+1") 0 1 3 (one_at 0) (one_at 2) (digit_at 0 (refl, omega arith, refl)) (refl, omega arith, refl) (digit_at 2 (refl, omega arith, refl)) in
    let whole = sum_derives (codes "1+1+1") 0 3 5 (sum_at 1 (one_at 0) (one_at 2)) (one_at 4) front (refl, omega arith, refl) (digit_at 4 (refl, omega arith, refl)) in
    from_first_rule sums (codes "1+1+1") (codes "E") left_sum sums_of_one_name (_, refl, refl) whole

pub right_derives : IsDerivation sums (codes "1+1+1") right_sum
right_derives =
    let back = sum_derives (codes "1+1+1") 2 3 5 (one_at 2) (one_at 4) (digit_at 2 (refl, omega arith, refl)) (refl, omega arith, refl) (digit_at 4 (refl, omega arith, refl)) in
    let whole = sum_derives (codes "1+1+1") 0 1 5 (one_at 0) (sum_at 3 (one_at 2) (one_at 4)) (digit_at 0 (refl, omega arith, refl)) (refl, omega arith, refl) back in
    from_first_rule sums (codes "1+1+1") (codes "E") right_sum sums_of_one_name (_, refl, refl) whole

-- ---- first derivations

module _ (g : Grammar) (s : List ℕ) (d e : Tree) where
  -- of two derivations the one that is before the other is first
  pub first_of_two : IsDerivation g s d → ((t : Tree) → IsDerivation g s t → (t ≡ d) ⊎ (t ≡ e)) → Before d e (length s) → First g s d
  first_of_two h all b = (h, λ t k n. by_tree t n (all t k))
    where
      by_tree : (t : Tree) → t ≢ d → (t ≡ d) ⊎ (t ≡ e) → Before d t (length s)
      by_tree t n (inl p) = absurd (n p)
      by_tree t n (inr p) = subst (λ x. Before d x (length s)) (sym p) b

  -- what is not before some other derivation is not first
  pub not_first_of_two : IsDerivation g s d → d ≢ e → ¬ (Before e d (length s)) → ¬ (First g s e)
  not_first_of_two h n b f = b (f.1 d h n)

pub a_is_first : First only_a (codes "a") a_tree
a_is_first = (a_derives, λ e h n. absurd (n (one_a (codes "a") e h).0))

pub earlier_is_first : First two_ways (codes "a") (node_of 0 0 (text 0 1))
earlier_is_first = first_of_two two_ways (codes "a") (node_of 0 0 (text 0 1)) (node_of 0 1 (text 0 1)) earlier_derives (λ t h. (either_a (codes "a") t h).0) (inr (refl, inl (omega arith)))

pub later_is_not_first : First two_ways (codes "a") (node_of 0 1 (text 0 1)) → ⊥
later_is_not_first = not_first_of_two two_ways (codes "a") (node_of 0 0 (text 0 1)) (node_of 0 1 (text 0 1)) earlier_derives (λ e. cc e) (λ b. grind (arith, b))

pub within_is_first : First cycle (codes "a") (node_of 0 1 (text 0 1))
within_is_first = (within_derives, λ e h n. by_tree e n (around_or_a (codes "a") e h))
  where
    by_tree : (e : Tree) → e ≢ node_of 0 1 (text 0 1) → ((d : Tree) × (e ≡ node_of 0 0 d) × (1 ≤ height d)) ⊎ (e ≡ node_of 0 1 (text 0 1)) → Before (node_of 0 1 (text 0 1)) e 1
    by_tree e n (inl (d, p, w)) = subst (λ t. Before (node_of 0 1 (text 0 1)) t 1) (sym p) (inl (omega (arith, w)))
    by_tree e n (inr p) = absurd (n p)

pub around_is_not_first : (d : Tree) → First cycle (codes "a") (node_of 0 0 d) → ⊥
around_is_not_first d h = by_tree (around_or_a (codes "a") (node_of 0 0 d) h.0)
  where
    before : Before (node_of 0 0 d) (node_of 0 1 (text 0 1)) 1
    before = h.1 (node_of 0 1 (text 0 1)) within_derives (λ e. cc e)

    by_tree : ((e : Tree) × (node_of 0 0 d ≡ node_of 0 0 e) × (1 ≤ height e)) ⊎ (node_of 0 0 d ≡ node_of 0 1 (text 0 1)) → ⊥
    by_tree (inl (e, p, w)) =
        let q : d ≡ e = cc p in
        let v : 1 ≤ height d = subst (λ t. 1 ≤ height t) (sym q) w in
        by_height v before
      where
        by_height : 1 ≤ height d → Before (node_of 0 0 d) (node_of 0 1 (text 0 1)) 1 → ⊥
        by_height v (inl x) = omega (arith, v, x)
        by_height v (inr x) = omega (arith, v, x.0)
    by_tree (inr p) = cc p

pub right_is_first : First sums (codes "1+1+1") right_sum
right_is_first = first_of_two sums (codes "1+1+1") right_sum left_sum right_derives right_or_left (inr (refl, inr (refl, inl (omega arith))))
  where
    right_or_left : (t : Tree) → IsDerivation sums (codes "1+1+1") t → (t ≡ right_sum) ⊎ (t ≡ left_sum)
    right_or_left t h = grind (arith, left_or_right t h)

pub left_is_not_first : First sums (codes "1+1+1") left_sum → ⊥
left_is_not_first = not_first_of_two sums (codes "1+1+1") right_sum left_sum right_derives (λ e. cc e) (λ b. grind (arith, b))
