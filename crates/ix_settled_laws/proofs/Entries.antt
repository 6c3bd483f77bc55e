-- Entries of logs, their beginnings, and numbers of entries.
use Rattle.std.proofs.Common.{◌≡◌, ℕ, zero, suc, ◌<◌, ◌≤◌, ◌==◌, ◌&&◌, Bool, true, List, [], ◌∷◌, ◌++◌, length, take, Contains, Some, slice_get, refl, sym, ap, ◌∙◌, subst, inl, inr, arith, eq-eqb, ne_eqb}
use Rattle.std.specs.Prelude.{if◌then◌else◌}
use Rattle.std.proofs.lemmas.Bool.{cases_eq}
use Rattle.std.proofs.lemmas.List.Elements.{Contains-append_left}
use Rattle.ix_cluster.proofs.Members.{first_has, rest_has, either_has, none_has, nth_has}
use Rattle.ix_rows.specs.Beginnings.{Begins}
use Rattle.ix_rows.specs.Numbers.{hits, times}

module _ {X : Type 0} where
  get_front : (ys back : List X) (k : ℕ) → k < length ys → slice_get (ys ++ back) k ≡ slice_get ys k
  get_front [] back k low = absurd (omega (arith, low))
  get_front (y ∷ ys) back zero low = refl
  get_front (y ∷ ys) back (suc k) low = get_front ys back k (omega (arith, low))

  take_front : (ys back : List X) (k : ℕ) → k < length ys → take k (ys ++ back) ≡ take k ys
  take_front [] back k low = absurd (omega (arith, low))
  take_front (y ∷ ys) back zero low = refl
  take_front (y ∷ ys) back (suc k) low = ap (λ (z : List X). y ∷ z) (take_front ys back k (omega (arith, low)))

  -- an entry of a beginning is that of the whole list
  pub entry_same : (xs ys : List X) (k : ℕ) → Begins xs ys → k < length ys → slice_get xs k ≡ slice_get ys k
  entry_same xs ys k b low = ap (λ (z : List X). slice_get z k) b.1 ∙ get_front ys b.0 k low

  -- and so are the entries before it
  pub before_same : (xs ys : List X) (k : ℕ) → Begins xs ys → k < length ys → take k xs ≡ take k ys
  before_same xs ys k b low = ap (λ (z : List X). take k z) b.1 ∙ take_front ys b.0 k low

  -- what a beginning has the list has
  pub begins_has : (xs ys : List X) (x : X) → Begins xs ys → Contains ys x → Contains xs x
  begins_has xs ys x b h = subst (λ (z : List X). Contains z x) (sym b.1) (Contains-append_left ys b.0 x h)

  -- an entry behind a beginning is one of those that came behind it
  pub entry_behind : (ys back : List X) (k : ℕ) (x : X) → length ys ≤ k → slice_get (ys ++ back) k ≡ Some x → Contains back x
  entry_behind [] back k x low e = nth_has back k x e
  entry_behind (y ∷ ys) back zero x low e = absurd (omega (arith, low))
  entry_behind (y ∷ ys) back (suc k) x low e = entry_behind ys back k x (omega (arith, low)) e

  -- the entries before one are entries
  pub before_has : (k : ℕ) (xs : List X) (x : X) → Contains (take k xs) x → Contains xs x
  before_has zero xs x h = absurd (none_has x h)
  before_has (suc k) [] x h = absurd (none_has x h)
  before_has (suc k) (y ∷ ys) x h = elim (either_has y (take k ys) x h) [ inl e ↦ subst (Contains (y ∷ ys)) e (first_has y ys) | inr r ↦ rest_has y ys x (before_has k ys x r) ]

  -- an entry with a smaller number is among those before
  pub before_there : (xs : List X) (j k : ℕ) (x : X) → j < k → slice_get xs j ≡ Some x → Contains (take k xs) x
  before_there [] j k x low e = absurd (cc)
  before_there (y ∷ ys) j zero x low e = absurd (omega (arith, low))
  before_there (y ∷ ys) zero (suc k) x low e = subst (Contains (y ∷ take k ys)) (cc) (first_has y (take k ys))
  before_there (y ∷ ys) (suc j) (suc k) x low e = rest_has y (take k ys) x (before_there ys j k x (omega (arith, low)) e)

-- a number that is counted is there
pub times_has : (m k : ℕ) (own : List (ℕ × ℕ)) → 1 ≤ times m k own → Contains own (m, k)
times_has m k [] some' = absurd (omega (arith, some'))
times_has m k (x ∷ xs) some' = elim (cases_eq x.0 m) [
  | inr o ↦
      let z : hits m k x ≡ 0 = ap (λ (c : Bool). if c && (x.1 == k) then 1 else 0) (ne_eqb x.0 m o) in
      rest_has x xs (m, k) (times_has m k xs (omega (arith, some', z)))
  | inl e ↦ elim (cases_eq x.1 k) [
    | inr o ↦
        let z : hits m k x ≡ 0 = ap (λ (c : Bool). if c && (x.1 == k) then 1 else 0) (eq-eqb x.0 m e) ∙ ap (λ (d : Bool). if true && d then 1 else 0) (ne_eqb x.1 k o) in
        rest_has x xs (m, k) (times_has m k xs (omega (arith, some', z)))
    | inl f ↦ subst (Contains (x ∷ xs)) (λ i. (e i, f i)) (first_has x xs)
  ]
]
