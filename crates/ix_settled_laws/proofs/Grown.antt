-- Logs that got facts behind what they had.
use Rattle.std.proofs.Common.{◌≡◌, ℕ, Bool, true, false, cond, List, [], ◌∷◌, ◌++◌, Contains, refl, sym, ap, ◌∙◌, subst, inl, inr, append-nil, append_assoc}
use Rattle.std.proofs.lemmas.List.Elements.{Contains-append_cases}
use Rattle.ix_model.specs.Expansion.Parts.{Parts}
use Rattle.ix_cluster.specs.declared.fact.Fact.{Fact}
use Rattle.ix_cluster.specs.declared.fact.Fact.TheVariants.{Desc, Part}
use Rattle.ix_cluster.specs.Facts.{has, put}
use Rattle.ix_cluster.specs.Firsts.{is_at_end}
use Rattle.ix_cluster.specs.Steps.{after_first, after_firsts, empty_sub}
use Rattle.ix_cluster.proofs.Members.{one_has, none_has, first_has, rest_has}

module _ (P : Fact → Type 0) where
  -- the new log is the old one and facts behind it of which P holds
  abbrev pub Grows : List Fact → List Fact → Type 0
  Grows old new = (back : List Fact) × (new ≡ old ++ back) × ((f : Fact) → Contains back f → P f)

  pub grow_none : (log : List Fact) → Grows log log
  grow_none log = ([], sym (append-nil log), λ f h. absurd (none_has f h))

  pub grow_then : (a b c : List Fact) → Grows a b → Grows b c → Grows a c
  grow_then a b c g h = (g.0 ++ h.0, h.1 ∙ ap (λ (z : List Fact). z ++ h.0) g.1 ∙ append_assoc a g.0 h.0, λ f i. elim (Contains-append_cases g.0 h.0 f i) [ inl l ↦ g.2 f l | inr r ↦ h.2 f r ])

  pub grow_put : (log : List Fact) (f : Fact) → (has log f ≡ false → P f) → Grows log (put log f)
  grow_put log f holds = by (has log f) refl
    where
      by : (b : Bool) → has log f ≡ b → Grows log (cond b log (log ++ f ∷ []))
      by true w = grow_none log
      by false w = (f ∷ [], refl, λ g h. subst P (one_has f g h) (holds w))

  module _ (plan : Parts) (k : ℕ) where
    grow_first : (log : List Fact) (z : ℕ) → P (Desc z k k) → P (Part (empty_sub z k)) → Grows log (after_first plan k log z)
    grow_first log z desc part = by (is_at_end plan z)
      where
        by : (b : Bool) → Grows log (cond b (put (put log (Desc z k k)) (Part (empty_sub z k))) (put log (Desc z k k)))
        by true = grow_then log (put log (Desc z k k)) (put (put log (Desc z k k)) (Part (empty_sub z k))) (grow_put log (Desc z k k) (λ w. desc)) (grow_put (put log (Desc z k k)) (Part (empty_sub z k)) (λ w. part))
        by false = grow_put log (Desc z k k) (λ w. desc)

    pub grow_firsts : (zs : List ℕ) (log : List Fact) → ((z : ℕ) → Contains zs z → P (Desc z k k)) → ((z : ℕ) → Contains zs z → P (Part (empty_sub z k))) → Grows log (after_firsts plan k zs log)
    grow_firsts [] log desc part = grow_none log
    grow_firsts (z ∷ zs) log desc part =
        grow_then log (after_first plan k log z) (after_firsts plan k zs (after_first plan k log z)) (grow_first log z (desc z (first_has z zs)) (part z (first_has z zs)))
        (grow_firsts zs (after_first plan k log z) (λ y h. desc y (rest_has z zs y h)) (λ y h. part y (rest_has z zs y h)))
