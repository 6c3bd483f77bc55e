-- Spacing as a relation and as a function.
use Rattle.std.proofs.Common.{◌≡◌, refl, sym, ap, ◌∙◌, subst, ℕ, zero, suc, List, [], ◌∷◌, length, ◌<◌, ◌≤◌, ◌⊎◌, inl, inr, arith}
use Rattle.std.proofs.lemmas.Bool.{eqb-true}
use Rattle.std.specs.Prelude.{Bool, true, false, not, ◌||◌, ◌==◌, if◌then◌else◌, IsTrue, codes}
use Rattle.ix_model.specs.Spelling.Characters.{is_blank}
use Rattle.ix_model.specs.Spelling.Spacing.{Takes, Spacing, no_spacing, blank, comment, Comment, braces, Inside, end_inside, other, nested, AllSpacing}
use Rattle.ix_model.proofs.Booleans.{eqb-sym}
use Rattle.ix_spelling_laws.specs.Reading.Lexing.{spaced, after}
use Rattle.ix_spelling_laws.proofs.CharacterFacts.{brace_no_blank}

pub saved_free : (c s t : List ℕ) → spaced zero s c ≡ spaced zero t c
saved_free [] s t = refl
saved_free (x ∷ c) s t =
    elim (is_blank x) as (λ b. (if b then spaced zero s c else (if x == 123 then spaced (suc zero) (x ∷ c) c else x ∷ c)) ≡ (if b then spaced zero t c else (if x == 123 then spaced (suc zero) (x ∷ c) c else x ∷ c))) [ true ↦ saved_free c s t | false ↦ refl ]

pub neither : (a b : Bool) → IsTrue (not (a || (b || false))) → (a ≡ false) × (b ≡ false)
neither false false h = (refl, refl)
neither false true h = absurd (cc h)
neither true b h = absurd (cc h)

mutual
  comment_runs : (b r : List ℕ) → Comment b r → (n : ℕ) (s : List ℕ) → spaced (suc n) s b ≡ spaced (suc n) s r
  comment_runs b r (braces _ c d _ e h f) n s = ap (spaced (suc n) s) e ∙ inside_runs c d h r f (suc n) s

  inside_runs : (c d : List ℕ) → Inside c d → (r : List ℕ) → Takes (codes "}") d r → (n : ℕ) (s : List ℕ) → spaced (suc n) s c ≡ spaced n s r
  inside_runs c d (end_inside _) r f n s = ap (spaced (suc n) s) f
  inside_runs c d (other x c1 _ h k) r f n s =
      let p = neither (123 == x) (125 == x) h in
      rw (eqb-sym x 123 ∙ p.0, eqb-sym x 125 ∙ p.1) (inside_runs c1 d k r f n s)
  inside_runs c d (nested _ c1 _ h k) r f n s = comment_runs c c1 h n s ∙ inside_runs c1 d k r f n s

pub spacing_runs : (c r : List ℕ) → Spacing c r → after c ≡ after r
spacing_runs c r (no_spacing _) = refl
spacing_runs c r (blank x c1 _ h k) = rw h (spacing_runs c1 r k)
spacing_runs c r (comment _ c1 _ (braces _ c2 d _ e h f) k) =
    let p : after (123 ∷ c2) ≡ spaced (suc zero) (123 ∷ c2) c2 = rw brace_no_blank refl in
    ap after e ∙ p ∙ inside_runs c2 d h c1 f zero (123 ∷ c2) ∙ saved_free c1 (123 ∷ c2) [] ∙ spacing_runs c1 r k

-- n comments are open at the first, and spacing goes on from there to the second
abbrev Closes : ℕ → List ℕ → List ℕ → Type 0
Closes zero c r = Spacing c r
Closes (suc n) c r = (d e : List ℕ) × Inside c d × Takes (codes "}") d e × Closes n e r

abbrev Ends : ℕ → List ℕ → List ℕ → List ℕ → Type 0
Ends zero s c r = Spacing c r
Ends (suc n) s c r = (r ≡ s) ⊎ Closes (suc n) c r

closes_other : (n x : ℕ) (s c r : List ℕ) → (x == 123) ≡ false → (x == 125) ≡ false → Ends (suc n) s c r → Ends (suc n) s (x ∷ c) r
closes_other n x s c r p q (inl h) = inl h
closes_other n x s c r p q (inr (d, e, h, f, k)) = inr (d, e, other x c d (rw (eqb-sym 123 x ∙ p, eqb-sym 125 x ∙ q) refl) h, f, k)

closes_open : (n x : ℕ) (s c r : List ℕ) → x ≡ 123 → Ends (suc (suc n)) s c r → Ends (suc n) s (x ∷ c) r
closes_open n x s c r p (inl h) = inl h
closes_open n x s c r p (inr (d, e, h, f, (d2, e2, h2, f2, k))) =
    inr (d2, e2, nested (x ∷ c) e d2 (braces (x ∷ c) c d e (ap (λ y. y ∷ c) p) h f) h2, f2, k)

closes_close : (n x : ℕ) (s c r : List ℕ) → x ≡ 125 → Ends n s c r → Ends (suc n) s (x ∷ c) r
closes_close zero x s c r p h = inr (x ∷ c, c, end_inside _, ap (λ y. y ∷ c) p, h)
closes_close (suc n) x s c r p (inl h) = inl h
closes_close (suc n) x s c r p (inr h) = inr (x ∷ c, c, end_inside _, ap (λ y. y ∷ c) p, h)

opens : (x : ℕ) (c r : List ℕ) → x ≡ 123 → Ends (suc zero) (x ∷ c) c r → Spacing (x ∷ c) r
opens x c r p (inl h) = subst (λ (z : List ℕ). Spacing (x ∷ c) z) (sym h) (no_spacing (x ∷ c))
opens x c r p (inr (d, e, h, f, k)) = comment (x ∷ c) e r (braces (x ∷ c) c d e (ap (λ y. y ∷ c) p) h f) k

is_same : (x y : ℕ) → (x == y) ≡ true → x ≡ y
is_same = eqb-true

spaced_ends : (c : List ℕ) (n : ℕ) (s : List ℕ) → Ends n s c (spaced n s c)
spaced_ends [] zero s = no_spacing []
spaced_ends [] (suc n) s = inl refl
spaced_ends (x ∷ c) zero s =
    elim (is_blank x) as (λ b. is_blank x ≡ b → Spacing (x ∷ c) (if b then spaced zero s c else (if x == 123 then spaced (suc zero) (x ∷ c) c else x ∷ c))) [
      | true ↦ λ h. blank x c _ h (spaced_ends c zero s)
      | false ↦ λ _. elim (x == 123) as (λ b. (x == 123) ≡ b → Spacing (x ∷ c) (if b then spaced (suc zero) (x ∷ c) c else x ∷ c)) [
        | true ↦ λ h. opens x c _ (is_same x 123 h) (spaced_ends c (suc zero) (x ∷ c))
        | false ↦ λ _. no_spacing (x ∷ c)
      ] refl
    ] refl
spaced_ends (x ∷ c) (suc n) s =
    elim (x == 123) as (λ b. (x == 123) ≡ b → Ends (suc n) s (x ∷ c) (if b then spaced (suc (suc n)) s c else (if x == 125 then spaced n s c else spaced (suc n) s c))) [
      | true ↦ λ h. closes_open n x s c _ (is_same x 123 h) (spaced_ends c (suc (suc n)) s)
      | false ↦ λ p. elim (x == 125) as (λ b. (x == 125) ≡ b → Ends (suc n) s (x ∷ c) (if b then spaced n s c else spaced (suc n) s c)) [
        | true ↦ λ h. closes_close n x s c _ (is_same x 125 h) (spaced_ends c n s)
        | false ↦ λ q. closes_other n x s c _ p q (spaced_ends c (suc n) s)
      ] refl
    ] refl

pub spacing_to_after : (c : List ℕ) → Spacing c (after c)
spacing_to_after c = spaced_ends c zero []

-- spacing that takes something is shorter behind
mutual
  comment_less : (b r : List ℕ) → Comment b r → length r < length b
  comment_less b r (braces _ c d _ e h f) = omega (arith, ap length e, ap length f, inside_less c d h)

  inside_less : (c d : List ℕ) → Inside c d → length d ≤ length c
  inside_less c d (end_inside _) = omega arith
  inside_less c d (other x c1 _ h k) = omega (arith, inside_less c1 d k)
  inside_less c d (nested _ c1 _ h k) = omega (arith, comment_less c c1 h, inside_less c1 d k)

spacing_at_most : (c r : List ℕ) → Spacing c r → length r ≤ length c
spacing_at_most c r (no_spacing _) = omega arith
spacing_at_most c r (blank x c1 _ h k) = omega (arith, spacing_at_most c1 r k)
spacing_at_most c r (comment _ c1 _ h k) = omega (arith, comment_less c c1 h, spacing_at_most c1 r k)

pub spacing_less : (c r : List ℕ) → Spacing c r → (c ≡ r) ⊎ (length r < length c)
spacing_less c r (no_spacing _) = inl refl
spacing_less c r (blank x c1 _ h k) = inr (omega (arith, spacing_at_most c1 r k))
spacing_less c r (comment _ c1 _ h k) = inr (omega (arith, comment_less c c1 h, spacing_at_most c1 r k))

pub after_again : (c : List ℕ) → after (after c) ≡ after c
after_again c = sym (spacing_runs c (after c) (spacing_to_after c))

pub after_is_all : (c : List ℕ) → AllSpacing c (after c)
after_is_all c = (spacing_to_after c, λ d h. stays (after c) d (after_again c) h)
  where
    stays : (r d : List ℕ) → after r ≡ r → Spacing r d → d ≡ r
    stays r d p h = go (spacing_less r d h)
      where
        go : (r ≡ d) ⊎ (length d < length r) → d ≡ r
        go (inl q) = sym q
        go (inr q) =
            let e : after d ≡ r = sym (spacing_runs r d h) ∙ p in
            absurd (less (spacing_less d (after d) (spacing_to_after d)) e)
          where
            less : (d ≡ after d) ⊎ (length (after d) < length d) → after d ≡ r → ⊥
            less (inl k) e = omega (arith, q, ap length k, ap length e)
            less (inr k) e = omega (arith, q, k, ap length e)

pub all_is_after : (c r : List ℕ) → AllSpacing c r → r ≡ after c
all_is_after c r h = sym (h.1 (after r) (spacing_to_after r)) ∙ sym (spacing_runs c r h.0)
