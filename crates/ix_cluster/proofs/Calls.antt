-- What a log has after a rule is called.
use Rattle.std.proofs.Common.{◌≡◌, ℕ, Contains, Bool, true, false, cond, List, [], ◌∷◌, refl, sym, ap, ◌∙◌, subst, ◌⊎◌, inl, inr}
use Rattle.ix_model.specs.Expansion.Parts.{Parts}
use Rattle.ix_cluster.specs.declared.fact.Fact.{Fact}
use Rattle.ix_cluster.specs.declared.fact.Fact.TheVariants.{Called, Desc, Part}
use Rattle.ix_cluster.specs.Facts.{has, put}
use Rattle.ix_cluster.specs.Firsts.{is_at_end, firsts_of}
use Rattle.ix_cluster.specs.Steps.{after_first, after_firsts, empty_sub, after_call}
use Rattle.ix_cluster.proofs.Members.{put-keeps, put-there, put-from, Contains-has, first_has, rest_has, either_has, none_has}
use Rattle.ix_cluster.proofs.Recording.{along_firsts, along_call}

module _ (plan : Parts) (k : ℕ) where
  -- the fact is one that beginning the alternatives records
  unfoldable pub IsBegun : List ℕ → Fact → Type 0
  IsBegun firsts g = (s : ℕ) × Contains firsts s × ((Desc s k k ≡ g) ⊎ ((is_at_end plan s ≡ true) × (Part (empty_sub s k) ≡ g)))

  -- what is there stays
  firsts-keeps : (firsts : List ℕ) (log : List Fact) (g : Fact) → Contains log g → Contains (after_firsts plan k firsts log) g
  firsts-keeps firsts log g =
      along_firsts (λ before after. Contains before g → Contains after g) (λ _ h. h) (λ _ _ _ e w h. w (e h)) plan k (λ l s. put-keeps l (Desc s k k) g) (λ l s. put-keeps l (Part (empty_sub s k)) g) firsts log

  first-desc : (log : List Fact) (s : ℕ) → Contains (after_first plan k log s) (Desc s k k)
  first-desc log s = by (is_at_end plan s)
    where
      by : (b : Bool) → Contains (cond b (put (put log (Desc s k k)) (Part (empty_sub s k))) (put log (Desc s k k))) (Desc s k k)
      by true = put-keeps (put log (Desc s k k)) (Part (empty_sub s k)) (Desc s k k) (put-there log (Desc s k k))
      by false = put-there log (Desc s k k)

  first-part : (log : List Fact) (s : ℕ) → is_at_end plan s ≡ true → Contains (after_first plan k log s) (Part (empty_sub s k))
  first-part log s e =
      subst (λ b. Contains (cond b (put (put log (Desc s k k)) (Part (empty_sub s k))) (put log (Desc s k k))) (Part (empty_sub s k))) (sym e)
      (put-there (put log (Desc s k k)) (Part (empty_sub s k)))

  first-from : (log : List Fact) (s : ℕ) (ss : List ℕ) (g : Fact) → Contains (after_first plan k log s) g → Contains log g ⊎ IsBegun (s ∷ ss) g
  unfolding IsBegun
  first-from log s ss g h = by (is_at_end plan s) refl h
    where
      by : (b : Bool) → is_at_end plan s ≡ b → Contains (cond b (put (put log (Desc s k k)) (Part (empty_sub s k))) (put log (Desc s k k))) g → Contains log g ⊎ IsBegun (s ∷ ss) g
      by false e a = elim (put-from log (Desc s k k) g a) [ inl o ↦ inl o | inr n ↦ inr (s, first_has s ss, inl n) ]
      by true e a =
          elim (put-from (put log (Desc s k k)) (Part (empty_sub s k)) g a) [
            | inl o ↦ elim (put-from log (Desc s k k) g o) [ inl o' ↦ inl o' | inr n ↦ inr (s, first_has s ss, inl n) ]
            | inr n ↦ inr (s, first_has s ss, inr (e, n))
          ]

  pub firsts-desc : (firsts : List ℕ) (log : List Fact) (s : ℕ) → Contains firsts s → Contains (after_firsts plan k firsts log) (Desc s k k)
  firsts-desc [] log s h = absurd (none_has s h)
  firsts-desc (z ∷ ss) log s h = by (either_has z ss s h) (firsts-desc ss (after_first plan k log z) s)
    where
      by : (z ≡ s) ⊎ Contains ss s → (Contains ss s → Contains (after_firsts plan k (z ∷ ss) log) (Desc s k k)) → Contains (after_firsts plan k (z ∷ ss) log) (Desc s k k)
      by (inl e) rest = firsts-keeps ss (after_first plan k log z) (Desc s k k) (subst (λ x. Contains (after_first plan k log z) (Desc x k k)) e (first-desc log z))
      by (inr a) rest = rest a

  pub firsts-part : (firsts : List ℕ) (log : List Fact) (s : ℕ) → Contains firsts s → is_at_end plan s ≡ true → Contains (after_firsts plan k firsts log) (Part (empty_sub s k))
  firsts-part [] log s h e = absurd (none_has s h)
  firsts-part (z ∷ ss) log s h e = by (either_has z ss s h) (λ a. firsts-part ss (after_first plan k log z) s a e)
    where
      by : (z ≡ s) ⊎ Contains ss s → (Contains ss s → Contains (after_firsts plan k (z ∷ ss) log) (Part (empty_sub s k))) → Contains (after_firsts plan k (z ∷ ss) log) (Part (empty_sub s k))
      by (inl w) rest =
          firsts-keeps ss (after_first plan k log z) (Part (empty_sub s k))
          (subst (λ x. Contains (after_first plan k log z) (Part (empty_sub x k))) w (first-part log z (ap (is_at_end plan) w ∙ e)))
      by (inr a) rest = rest a

  pub firsts-from : (firsts : List ℕ) (log : List Fact) (g : Fact) → Contains (after_firsts plan k firsts log) g → Contains log g ⊎ IsBegun firsts g
  unfolding IsBegun
  firsts-from [] log g h = inl h
  firsts-from (s ∷ ss) log g h =
      elim (firsts-from ss (after_first plan k log s) g h) [
        | inl o ↦ first-from log s ss g o
        | inr n ↦ inr (n.0, rest_has s ss n.0 n.1, n.2)
      ]

module _ (plan : Parts) (log : List Fact) (r k : ℕ) where
  pub call-keeps : (g : Fact) → Contains log g → Contains (after_call plan log r k) g
  call-keeps g =
      along_call (λ before after. Contains before g → Contains after g) (λ _ h. h) (λ _ _ _ e w h. w (e h)) plan k (λ l s. put-keeps l (Desc s k k) g) (λ l s. put-keeps l (Part (empty_sub s k)) g) r
      (λ l. put-keeps l (Called r k) g) log

  pub call-there : Contains (after_call plan log r k) (Called r k)
  call-there = by (has log (Called r k)) refl
    where
      by : (b : Bool) → has log (Called r k) ≡ b → Contains (cond b log (after_firsts plan k (firsts_of plan r) (put log (Called r k)))) (Called r k)
      by true e = Contains-has log (Called r k) e
      by false e = firsts-keeps plan k (firsts_of plan r) (put log (Called r k)) (Called r k) (put-there log (Called r k))

  -- a call that is new records itself and its alternatives, and nothing else
  pub call-from : (g : Fact) → Contains (after_call plan log r k) g → Contains log g ⊎ ((has log (Called r k) ≡ false) × ((Called r k ≡ g) ⊎ IsBegun plan k (firsts_of plan r) g))
  call-from g h = by (has log (Called r k)) refl h
    where
      by : (b : Bool) → has log (Called r k) ≡ b → Contains (cond b log (after_firsts plan k (firsts_of plan r) (put log (Called r k)))) g → Contains log g ⊎ ((has log (Called r k) ≡ false) × ((Called r k ≡ g) ⊎ IsBegun plan k (firsts_of plan r) g))
      by true e a = inl a
      by false e a =
          elim (firsts-from plan k (firsts_of plan r) (put log (Called r k)) g a) [
            | inl o ↦ elim (put-from log (Called r k) g o) [ inl o' ↦ inl o' | inr n ↦ inr (e, inl n) ]
            | inr n ↦ inr (e, inr n)
          ]

  pub call-desc : has log (Called r k) ≡ false → (s : ℕ) → Contains (firsts_of plan r) s → Contains (after_call plan log r k) (Desc s k k)
  call-desc e s a = subst (λ b. Contains (cond b log (after_firsts plan k (firsts_of plan r) (put log (Called r k)))) (Desc s k k)) (sym e) (firsts-desc plan k (firsts_of plan r) (put log (Called r k)) s a)

  pub call-part : has log (Called r k) ≡ false → (s : ℕ) → Contains (firsts_of plan r) s → is_at_end plan s ≡ true → Contains (after_call plan log r k) (Part (empty_sub s k))
  call-part e s a w = subst (λ b. Contains (cond b log (after_firsts plan k (firsts_of plan r) (put log (Called r k)))) (Part (empty_sub s k))) (sym e) (firsts-part plan k (firsts_of plan r) (put log (Called r k)) s a w)
