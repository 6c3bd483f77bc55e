-- The first tree of bounded height of each form of term, from those of its parts: options, repetitions, terminals,
-- insertions. None of these adds to the height.
use Rattle.std.proofs.Common.{◌≡◌, refl, sym, ap, subst, ◌∙◌, ◌⊎◌, ℕ, List, Bool, arith, Option}
use mathlib.Core.Logic.{inl, inr}
use Rattle.ix_model.specs.declared.grammar.Grammar.{Grammar}
use Rattle.ix_model.specs.declared.grammar.TMark.{TMark}
use Rattle.ix_model.specs.declared.grammar.Chars.{Chars}
use Rattle.ix_model.specs.declared.grammar.Member.{Member}
use Rattle.ix_model.specs.declared.grammar.Term.{Term, One, Opt, Star, Plus, out-Term}
use Rattle.ix_model.specs.declared.grammar.Factor.{Factor, Lit, Set, Insert}
use Rattle.ix_model.specs.Matching.Codes.{characters}
use Rattle.ix_model.specs.Matching.Sets.{InSet}
use Rattle.ix_model.specs.Matching.Terminals.{StandsAt, Matches}
use Rattle.ix_model.specs.Derivations.Trees.{Tree, text, insertion, present, absent, no_item, list, Repeated}
use Rattle.ix_model.specs.Derivations.Derives.{Derives, Repeats}
use Rattle.ix_model.specs.Derivations.Order.{Before, RepeatedBefore}
use Rattle.ix_model.proofs.Decide.{Answered}
use Rattle.ix_model.proofs.Standing.{SetStands}
use Rattle.ix_model.proofs.Forms.{term_form, factor_form, one_form, out_opt, out_star, out_plus, out_insert, out_lit, out_set, same_opt, star_no_plus, same_item, derived_form}
use Rattle.ix_tree_laws.proofs.Found.{Within, FoundTree, ListWithin, FoundList}

module _ (g : Grammar) (s : List ℕ) (b i j : ℕ) where
  -- ---- options

  pub found_opt : (f : Factor) → FoundTree g s b (One f) i j → FoundTree g s b (Opt f) i j
  found_opt f (inl (d, y)) = inl (present d, record { holds = ((f, refl, y.holds.0), y.holds.1); before = others })
    where
      ends : (e : Tree) → (e ≡ d) ⊎ Before d e j → (present e ≡ present d) ⊎ Before (present d) (present e) j
      ends e (inl h) = inl (ap present h)
      ends e (inr h) = inr h

      others : (z : Tree) → Within g s b (Opt f) i j z → (z ≡ present d) ⊎ Before (present d) z j
      others (present e) ((f', same, c), high) = ends e (y.before e (subst (λ x. Derives g s e (One x) i j) (sym (same_opt f f' same)) c, high))
      others absent h = inr tt
      others z h = absurd (omega (arith, sym (ap term_form (out_opt f)) ∙ derived_form g s z (Opt f) i j h.0))
  found_opt f (inr none) = by_span (grind arith)
    where
      no_present : (e : Tree) → Within g s b (Opt f) i j (present e) → ⊥
      no_present e ((f', same, c), high) = none e (subst (λ x. Derives g s e (One x) i j) (sym (same_opt f f' same)) c, high)

      others : (z : Tree) → Within g s b (Opt f) i j z → (z ≡ absent) ⊎ Before absent z j
      others (present e) h = absurd (no_present e h)
      others absent h = inl refl
      others z h = absurd (omega (arith, sym (ap term_form (out_opt f)) ∙ derived_form g s z (Opt f) i j h.0))

      nothing : (i ≡ j → ⊥) → (z : Tree) → Within g s b (Opt f) i j z → ⊥
      nothing q (present e) h = no_present e h
      nothing q absent h = q h.0.2
      nothing q z h = absurd (omega (arith, sym (ap term_form (out_opt f)) ∙ derived_form g s z (Opt f) i j h.0))

      by_span : Answered (i ≡ j) → FoundTree g s b (Opt f) i j
      by_span (inl e) = inl (absent, record { holds = ((f, refl, e), omega arith); before = others })
      by_span (inr q) = inr (nothing q)

  -- ---- repetitions

  -- the list of a derivation is one of the term's item and separator
  listed : (t : Term) (f : Factor) (sep : Option Factor) → (t ≡ Plus f sep) ⊎ (t ≡ Star f sep) → (es : Repeated) → Within g s b t i j (list es) → ListWithin g s b f sep i j es
  listed t f sep k es ((f', sep', k', c), high) =
      let x = same_item t f f' sep sep' k k' in
      (subst (λ z. Repeats g s es z sep i j) (sym x.0) (subst (λ z. Repeats g s es f' z i j) (sym x.1) c), high)

  pub found_plus : (f : Factor) (sep : Option Factor) → FoundList g s b f sep i j → FoundTree g s b (Plus f sep) i j
  found_plus f sep (inl (ds, y)) = inl (list ds, record { holds = ((f, sep, inl refl, y.holds.0), y.holds.1); before = others })
    where
      ends : (es : Repeated) → (es ≡ ds) ⊎ RepeatedBefore ds es j → (list es ≡ list ds) ⊎ Before (list ds) (list es) j
      ends es (inl h) = inl (ap list h)
      ends es (inr h) = inr h

      others : (z : Tree) → Within g s b (Plus f sep) i j z → (z ≡ list ds) ⊎ Before (list ds) z j
      others (list es) h = ends es (y.before es (listed (Plus f sep) f sep (inl refl) es h))
      others no_item h = absurd (star_no_plus h.0.0 f h.0.1 sep (sym h.0.2))
      others z h = absurd (omega (arith, sym (ap term_form (out_plus f sep)) ∙ derived_form g s z (Plus f sep) i j h.0))
  found_plus f sep (inr none) = inr nothing
    where
      nothing : (z : Tree) → Within g s b (Plus f sep) i j z → ⊥
      nothing (list es) h = none es (listed (Plus f sep) f sep (inl refl) es h)
      nothing no_item h = star_no_plus h.0.0 f h.0.1 sep (sym h.0.2)
      nothing z h = absurd (omega (arith, sym (ap term_form (out_plus f sep)) ∙ derived_form g s z (Plus f sep) i j h.0))

  pub found_star : (f : Factor) (sep : Option Factor) → Answered (i ≡ j) → FoundList g s b f sep i j → FoundTree g s b (Star f sep) i j
  found_star f sep (inl e) y = inl (no_item, record { holds = ((f, sep, refl, e), omega arith); before = others })
    where
      others : (z : Tree) → Within g s b (Star f sep) i j z → (z ≡ no_item) ⊎ Before no_item z j
      others (list es) h = inr tt
      others no_item h = inl refl
      others z h = absurd (omega (arith, sym (ap term_form (out_star f sep)) ∙ derived_form g s z (Star f sep) i j h.0))
  found_star f sep (inr e) (inl (ds, y)) = inl (list ds, record { holds = ((f, sep, inr refl, y.holds.0), y.holds.1); before = others })
    where
      ends : (es : Repeated) → (es ≡ ds) ⊎ RepeatedBefore ds es j → (list es ≡ list ds) ⊎ Before (list ds) (list es) j
      ends es (inl h) = inl (ap list h)
      ends es (inr h) = inr h

      others : (z : Tree) → Within g s b (Star f sep) i j z → (z ≡ list ds) ⊎ Before (list ds) z j
      others (list es) h = ends es (y.before es (listed (Star f sep) f sep (inr refl) es h))
      others no_item h = absurd (e h.0.3)
      others z h = absurd (omega (arith, sym (ap term_form (out_star f sep)) ∙ derived_form g s z (Star f sep) i j h.0))
  found_star f sep (inr e) (inr none) = inr nothing
    where
      nothing : (z : Tree) → Within g s b (Star f sep) i j z → ⊥
      nothing (list es) h = none es (listed (Star f sep) f sep (inr refl) es h)
      nothing no_item h = e h.0.3
      nothing z h = absurd (omega (arith, sym (ap term_form (out_star f sep)) ∙ derived_form g s z (Star f sep) i j h.0))

  -- ---- terminals

  found_text : (t : Term) → term_form (out-Term t) ≡ 0 → Answered (Matches s t i j) → FoundTree g s b t i j
  found_text t form_is (inl h) = inl (text i j, record { holds = ((refl, refl, h), omega arith); before = others })
    where
      others : (z : Tree) → Within g s b t i j z → (z ≡ text i j) ⊎ Before (text i j) z j
      others (text x y) h = inl (cc (h.0.0, h.0.1))
      others z h = absurd (omega (arith, sym form_is ∙ derived_form g s z t i j h.0))
  found_text t form_is (inr q) = inr nothing
    where
      nothing : (z : Tree) → Within g s b t i j z → ⊥
      nothing (text x y) h = q h.0.2
      nothing z h = absurd (omega (arith, sym form_is ∙ derived_form g s z t i j h.0))

  pub found_lit : (m : Option TMark) (cs : Chars) → Answered (StandsAt s (characters cs) i j) → FoundTree g s b (One (Lit m cs)) i j
  found_lit m cs h = found_text (One (Lit m cs)) (one_form _ _ 0 refl (ap factor_form (out_lit m cs))) (match h)
    where
      nothing : (StandsAt s (characters cs) i j → ⊥) → Matches s (One (Lit m cs)) i j → ⊥
      nothing q (inl (m', cs', e, k)) = let x : cs' ≡ cs = cc e in q (subst (λ z. StandsAt s (characters z) i j) x k)
      nothing q (inr k) = cc k.4

      match : Answered (StandsAt s (characters cs) i j) → Answered (Matches s (One (Lit m cs)) i j)
      match (inl k) = inl (inl (m, cs, refl, k))
      match (inr q) = inr (nothing q)

  pub found_set : (m : Option TMark) (ex : Bool) (ms : List Member) → Answered (SetStands ex ms s i j) → FoundTree g s b (One (Set m ex ms)) i j
  found_set m ex ms h = found_text (One (Set m ex ms)) (one_form _ _ 0 refl (ap factor_form (out_set m ex ms))) (match h)
    where
      nothing : (SetStands ex ms s i j → ⊥) → Matches s (One (Set m ex ms)) i j → ⊥
      nothing q (inl k) = cc k.2
      nothing q (inr (m', ex', ms', c, e, o, k)) =
          let x : ex' ≡ ex = cc e in
          let y : ms' ≡ ms = cc e in
          q (c, subst (λ z. InSet z ms c) x (subst (λ z. InSet ex' z c) y o), k)

      match : Answered (SetStands ex ms s i j) → Answered (Matches s (One (Set m ex ms)) i j)
      match (inl k) = inl (inr (m, ex, ms, k.0, refl, k.1, k.2))
      match (inr q) = inr (nothing q)

  -- ---- insertions

  insert_form : (cs : Chars) → term_form (out-Term (One (Insert cs))) ≡ 1
  insert_form cs = one_form _ _ 1 refl (ap factor_form (out_insert cs))

  pub found_insert : (cs : Chars) → Answered (i ≡ j) → FoundTree g s b (One (Insert cs)) i j
  found_insert cs (inl e) = inl (insertion, record { holds = ((e, (cs, refl)), omega arith); before = others })
    where
      others : (z : Tree) → Within g s b (One (Insert cs)) i j z → (z ≡ insertion) ⊎ Before insertion z j
      others insertion h = inl refl
      others z h = absurd (omega (arith, sym (insert_form cs) ∙ derived_form g s z (One (Insert cs)) i j h.0))
  found_insert cs (inr q) = inr nothing
    where
      nothing : (z : Tree) → Within g s b (One (Insert cs)) i j z → ⊥
      nothing insertion h = q h.0.0
      nothing z h = absurd (omega (arith, sym (insert_form cs) ∙ derived_form g s z (One (Insert cs)) i j h.0))
