-- What a tree is that derives from a term of a form that the sample's grammar has.
use Rattle.std.proofs.Common.{◌≡◌, refl, sym, subst, ◌∙◌, ℕ, List, [], ◌∷◌, arith}
use Rattle.ix_model.specs.declared.grammar.Grammar.{Grammar}
use Rattle.ix_model.specs.declared.grammar.Term.{Term, One}
use Rattle.ix_model.specs.declared.grammar.Factor.{Factor, out-Factor}
use Rattle.ix_model.specs.Derivations.Trees.{Tree, text, Trees, no_tree, and}
use Rattle.ix_model.specs.Derivations.Derives.{Derives, DerivesAll}
use Rattle.ix_model.proofs.Forms.{factor_form, derived_form, one_form}

-- four trees
abbrev pub four : (c d e f : Tree) → Trees
four c d e f = and (and (and (and no_tree c) d) e) f

module _ (g : Grammar) (s : List ℕ) where
  -- a literal or set derives a text
  pub terminal_is_text : (f : Factor) (d : Tree) (i j : ℕ) → factor_form (out-Factor f) ≡ 0 → Derives g s d (One f) i j → (a b : ℕ) × (d ≡ text a b)
  terminal_is_text f (text a b) i j e h = (a, b, refl)
  terminal_is_text f d i j e h = absurd (omega (arith, sym (derived_form g s d (One f) i j h) ∙ one_form _ _ 0 refl e))

  -- four terms derive four trees
  pub four_derived : (ds : Trees) (t u v w : Term) (i j : ℕ) → DerivesAll g s ds (t ∷ u ∷ v ∷ w ∷ []) i j →
      (k l m : ℕ) × (c d e f : Tree) × (ds ≡ four c d e f) × Derives g s c t i k × Derives g s d u k l × Derives g s e v l m × Derives g s f w m j
  four_derived (and (and (and (and no_tree c) d) e) f) t u v w i j (n, (m, q, (l, z, (k, y, (o, x, p, ex, hc), ey, hd), ez, he), eq, hf)) =
      let px : x ≡ t = cc ex in
      let py : y ≡ u = cc ey in
      let pz : z ≡ v = cc ez in
      let pq : q ≡ w = cc eq in (
        k,
        l,
        m,
        c,
        d,
        e,
        f,
        refl,
        subst (λ b. Derives g s c b i k) px (subst (λ (b : ℕ). Derives g s c x b k) (sym p) hc),
        subst (λ b. Derives g s d b k l) py hd,
        subst (λ b. Derives g s e b l m) pz he,
        subst (λ b. Derives g s f b m j) pq hf,
      )
  four_derived no_tree t u v w i j h = absurd (omega (arith, h.0))
  four_derived (and no_tree f) t u v w i j h = absurd (omega (arith, h.0))
  four_derived (and (and no_tree e) f) t u v w i j h = absurd (omega (arith, h.0))
  four_derived (and (and (and no_tree d) e) f) t u v w i j h = absurd (omega (arith, h.0))
  four_derived (and (and (and (and (and ds b) c) d) e) f) t u v w i j h = absurd (omega (arith, h.0))
