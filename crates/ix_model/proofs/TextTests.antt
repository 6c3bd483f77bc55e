-- Where characters stand in a text, by what the tests of slices say.
use Rattle.std.proofs.Common.{◌≡◌, refl, ap, sym, ◌∙◌, ℕ, zero, suc, ◌+◌, ◌-◌, ◌≤◌, List, [], ◌∷◌, length, take, drop, Bool, true, false, Some, slice_get, arith, length-take, length-drop}
use Rattle.std.specs.List.{starts_with}
use Rattle.std.specs.Bool.{Decides}
use Rattle.std.proofs.Math.Dec.{eqb}
use Rattle.std.proofs.lemmas.List.{take_rest}
use Rattle.std.proofs.lemmas.Bool.Decides.{Decides-eqb}
use Rattle.std.proofs.lemmas.Slice.Eq.{slice_eq-Decides}
use Rattle.std.proofs.lemmas.Option.{slice_get_within}
use Rattle.ix_model.specs.Matching.Terminals.{StandsAt}

-- the test tells whether the characters stand behind i
begins : (s cs : List ℕ) (i : ℕ) (r : Bool) → r ≡ starts_with eqb (take (length s - i) (drop i s)) cs → Decides r (cs ≡ take (length cs) (drop i s))
begins s cs i r e = slice_eq-Decides Decides-eqb cs (take (length cs) (drop i s)) r (e ∙ ap (λ (z : List ℕ). starts_with eqb z cs) (take_rest s i))

pub literal_stands : (s cs : List ℕ) (i : ℕ) → i ≤ length s → true ≡ starts_with eqb (take (length s - i) (drop i s)) cs → StandsAt s cs i (i + length cs)
literal_stands s cs i h e = (refl, omega (arith, h, ap length same, length-take (length cs) (drop i s), length-drop i s), same)
  where
    same : take (length cs) (drop i s) ≡ cs
    same = sym ((begins s cs i true e).0 refl)

pub literal_lacks : (s cs : List ℕ) (i j : ℕ) → false ≡ starts_with eqb (take (length s - i) (drop i s)) cs → StandsAt s cs i j → ⊥
literal_lacks s cs i j e h = cc ((begins s cs i false e).1 (sym h.2))

-- the one character at a place
one_there : (s : List ℕ) (i c : ℕ) → slice_get s i ≡ Some c → take 1 (drop i s) ≡ c ∷ []
one_there [] i c e = absurd (cc e)
one_there (x ∷ s) zero c e = cc e
one_there (x ∷ s) (suc i) c e = one_there s i c e

one_back : (s : List ℕ) (i c : ℕ) → take 1 (drop i s) ≡ c ∷ [] → slice_get s i ≡ Some c
one_back [] zero c e = absurd (cc e)
one_back [] (suc i) c e = absurd (cc e)
one_back (x ∷ s) zero c e = cc e
one_back (x ∷ s) (suc i) c e = one_back s i c e

pub character_stands : (s : List ℕ) (i c : ℕ) → slice_get s i ≡ Some c → StandsAt s (c ∷ []) i (i + 1)
character_stands s i c e = (refl, omega (arith, slice_get_within s i c e), one_there s i c e)

pub character_at : (s : List ℕ) (i j c : ℕ) → StandsAt s (c ∷ []) i j → slice_get s i ≡ Some c
character_at s i j c h = one_back s i c h.2
