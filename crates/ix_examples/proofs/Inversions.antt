-- What a tree is that derives from a term of a known form.
use Rattle.std.proofs.Common.{◌≡◌, refl, ap, sym, subst, ◌∙◌, ◌⊎◌, ℕ, zero, suc, List, [], ◌∷◌, Option, None, arith}
use mathlib.Core.Logic.{inl, inr}
use Rattle.ix_model.specs.declared.grammar.Grammar.{Grammar}
use Rattle.ix_model.specs.declared.grammar.Rule.{Rule}
use Rattle.ix_model.specs.declared.grammar.Alt.{Alt}
use Rattle.ix_model.specs.declared.grammar.Chars.TheVariants.{Quoted}
use Rattle.ix_model.specs.declared.grammar.Term.{Term, One, Opt, Star, Plus}
use Rattle.ix_model.specs.declared.grammar.Factor.{Factor, Group}
use Rattle.ix_model.specs.Matching.Codes.{characters}
use Rattle.ix_model.specs.Grammars.Written.{IsNamed, IsAlternative, IsOfRule}
use Rattle.ix_model.specs.Matching.Terminals.{StandsAt, Matches}
use Rattle.ix_model.specs.Derivations.Trees.{Tree, text, insertion, group, present, absent, no_item, list, Trees, no_tree, and, Repeated}
use Rattle.ix_model.specs.Derivations.Derives.{Derives, DerivesAll, Repeats}
use Rattle.ix_examples.specs.SmallGrammars.{alternative, rule, grammar, quoted, inserted}
use Rattle.ix_examples.specs.SmallTrees.{pair}
use Rattle.ix_model.proofs.Forms.{derived_form, one_form, factor_form, term_form, out_lit, out_insert, out_group, out_opt, out_star, out_plus, same_groups, same_opt, same_star, same_plus, star_no_plus}

-- a literal stands where it matches
pub quoted_stands : (s cs : List ℕ) (i j : ℕ) → Matches s (quoted cs) i j → StandsAt s cs i j
quoted_stands s cs i j (inl (tmark, chars, e, h)) =
    let f : Quoted cs ≡ chars = cc e in
    subst (λ x. StandsAt s (characters x) i j) (sym f) h
quoted_stands s cs i j (inr h) = absurd (cc h.4)

-- the only alternative
pub one_alternative : (ts : List Term) (a : ℕ) (terms : List Term) → IsAlternative (alternative ts ∷ []) a terms → (a ≡ 0) × (ts ≡ terms)
one_alternative ts zero terms h = (refl, cc (h.1, h.2))
one_alternative ts (suc a) terms h = absurd (cc h.1)

-- one of two alternatives
pub one_of_two : (ts us : List Term) (a : ℕ) (terms : List Term) → IsAlternative (alternative ts ∷ alternative us ∷ []) a terms → ((a ≡ 0) × (ts ≡ terms)) ⊎ ((a ≡ 1) × (us ≡ terms))
one_of_two ts us zero terms h = inl (refl, cc (h.1, h.2))
one_of_two ts us (suc zero) terms h = inr (refl, cc (h.1, h.2))
one_of_two ts us (suc (suc a)) terms h = absurd (cc h.1)

-- an alternative of the only rule
pub of_only_rule : (name : List ℕ) (alts : List Alt) (a : ℕ) (terms : List Term) → IsOfRule (grammar (rule name alts ∷ [])) 0 a terms → IsAlternative alts a terms
of_only_rule name alts a terms h =
    let e : h.0 ≡ rule name alts = cc h.1 in
    subst (λ (x : Rule). IsAlternative x.alts a terms) e h.2

-- a name of the only rule
pub only_rule : (x : Rule) (r : ℕ) (name : List ℕ) → IsNamed (grammar (x ∷ [])) r name → r ≡ 0
only_rule x zero name h = refl
only_rule x (suc r) name h = absurd (cc h.1)

module _ (g : Grammar) (s : List ℕ) where
  -- an insertion derives the empty span alone
  pub insertion_is_empty : (d : Tree) (cs : List ℕ) (i j : ℕ) → Derives g s d (inserted cs) i j → i ≡ j
  insertion_is_empty insertion cs i j h = h.0
  insertion_is_empty d cs i j h = absurd (omega (arith, sym (derived_form g s d (inserted cs) i j h) ∙ one_form _ _ 1 refl (ap factor_form (out_insert (Quoted cs)))))

  -- a literal derives the text of its characters alone
  pub quoted_is_text : (d : Tree) (cs : List ℕ) (i j : ℕ) → Derives g s d (quoted cs) i j → (d ≡ text i j) × StandsAt s cs i j
  quoted_is_text (text a b) cs i j h = (cc (h.0, h.1), quoted_stands s cs i j h.2)
  quoted_is_text d cs i j h = absurd (omega (arith, sym (derived_form g s d (quoted cs) i j h) ∙ one_form _ _ 0 refl (ap factor_form (out_lit None (Quoted cs)))))

  -- a group derives what the alternative of its number derives
  pub group_is_alternative : (a : ℕ) (ds : Trees) (alts : List Alt) (i j : ℕ) → Derives g s (group a ds) (One (Group alts)) i j →
      (terms : List Term) × IsAlternative alts a terms × DerivesAll g s ds terms i j
  group_is_alternative a ds alts i j (terms, (held, p, o), c, h) =
      let q : Group alts ≡ Group held = cc p in
      (terms, subst (λ x. IsAlternative x a terms) (sym (same_groups alts held q)) o, (c, h))

  pub group_derived : (d : Tree) (alts : List Alt) (i j : ℕ) → Derives g s d (One (Group alts)) i j →
      (a : ℕ) × (ds : Trees) × (terms : List Term) × (d ≡ group a ds) × IsAlternative alts a terms × DerivesAll g s ds terms i j
  group_derived (group a ds) alts i j h = let x = group_is_alternative a ds alts i j h in (a, ds, x.0, refl, x.1, x.2)
  group_derived d alts i j h = absurd (omega (arith, sym (derived_form g s d (One (Group alts)) i j h) ∙ one_form _ _ 3 refl (ap factor_form (out_group alts))))

  -- an option is absent, or holds a tree of its factor
  pub option_derived : (d : Tree) (f : Factor) (i j : ℕ) → Derives g s d (Opt f) i j → ((d ≡ absent) × (i ≡ j)) ⊎ ((e : Tree) × (d ≡ present e) × Derives g s e (One f) i j)
  option_derived (present e) f i j (h, p, held) = inr (e, refl, subst (λ x. Derives g s e (One x) i j) (sym (same_opt f h p)) held)
  option_derived absent f i j h = inl (refl, h.2)
  option_derived d f i j h = absurd (omega (arith, sym (derived_form g s d (Opt f) i j h) ∙ ap term_form (out_opt f)))

  repeats_same : (ds : Repeated) (f h : Factor) (sep p : Option Factor) (i j : ℕ) → (f ≡ h) × (sep ≡ p) → Repeats g s ds h p i j → Repeats g s ds f sep i j
  repeats_same ds f h sep p i j (e, q) r = subst (λ x. Repeats g s ds x sep i j) (sym e) (subst (λ x. Repeats g s ds h x i j) (sym q) r)

  -- a plus is a list of its items
  pub plus_derived : (d : Tree) (f : Factor) (sep : Option Factor) (i j : ℕ) → Derives g s d (Plus f sep) i j → (ds : Repeated) × (d ≡ list ds) × Repeats g s ds f sep i j
  plus_derived no_item f sep i j (h, p, e, n) = absurd (star_no_plus h f p sep (sym e))
  plus_derived (list ds) f sep i j (h, p, inl e, r) = (ds, refl, repeats_same ds f h sep p i j (same_plus f h sep p e) r)
  plus_derived (list ds) f sep i j (h, p, inr e, r) = absurd (star_no_plus h f p sep (sym e))
  plus_derived d f sep i j h = absurd (omega (arith, sym (derived_form g s d (Plus f sep) i j h) ∙ ap term_form (out_plus f sep)))

  -- a star has no item, or is a list of its items
  pub star_derived : (d : Tree) (f : Factor) (sep : Option Factor) (i j : ℕ) → Derives g s d (Star f sep) i j → ((d ≡ no_item) × (i ≡ j)) ⊎ ((ds : Repeated) × (d ≡ list ds) × Repeats g s ds f sep i j)
  star_derived no_item f sep i j h = inl (refl, h.3)
  star_derived (list ds) f sep i j (h, p, inl e, r) = absurd (star_no_plus f h sep p e)
  star_derived (list ds) f sep i j (h, p, inr e, r) = inr (ds, refl, repeats_same ds f h sep p i j (same_star f h sep p e) r)
  star_derived d f sep i j h = absurd (omega (arith, sym (derived_form g s d (Star f sep) i j h) ∙ ap term_form (out_star f sep)))

  -- no terms derive no tree
  pub none_derived : (ds : Trees) (i j : ℕ) → DerivesAll g s ds [] i j → (ds ≡ no_tree) × (i ≡ j)
  none_derived no_tree i j h = (refl, h.1)
  none_derived (and ds d) i j h = absurd (omega (arith, h.0))

  -- one term derives one tree
  pub one_derived : (ds : Trees) (t : Term) (i j : ℕ) → DerivesAll g s ds (t ∷ []) i j → (d : Tree) × (ds ≡ and no_tree d) × Derives g s d t i j
  one_derived no_tree t i j h = absurd (omega (arith, h.0))
  one_derived (and no_tree d) t i j (c, (k, u, p, e, h)) =
      let x : u ≡ t = cc e in
      (d, refl, subst (λ y. Derives g s d y i j) x (subst (λ (n : ℕ). Derives g s d u n j) (sym p) h))
  one_derived (and (and ds e) d) t i j h = absurd (omega (arith, h.0))

  -- two terms derive two trees
  pub two_derived : (ds : Trees) (t u : Term) (i j : ℕ) → DerivesAll g s ds (t ∷ u ∷ []) i j → (k : ℕ) × (d : Tree) × (e : Tree) × (ds ≡ pair d e) × Derives g s d t i k × Derives g s e u k j
  two_derived (and (and no_tree d) e) t u i j (c, (k, y, (m, x, p, ex, hd), ey, he)) =
      let px : x ≡ t = cc ex in
      let py : y ≡ u = cc ey in
      (k, d, e, refl, subst (λ w. Derives g s d w i k) px (subst (λ (n : ℕ). Derives g s d x n k) (sym p) hd), subst (λ w. Derives g s e w k j) py he)
  two_derived no_tree t u i j h = absurd (omega (arith, h.0))
  two_derived (and no_tree e) t u i j h = absurd (omega (arith, h.0))
  two_derived (and (and (and ds c) d) e) t u i j h = absurd (omega (arith, h.0))

  -- three terms derive three trees
  pub three_derived : (ds : Trees) (t u v : Term) (i j : ℕ) → DerivesAll g s ds (t ∷ u ∷ v ∷ []) i j →
      (k : ℕ) × (l : ℕ) × (d : Tree) × (e : Tree) × (f : Tree) × (ds ≡ and (and (and no_tree d) e) f) × Derives g s d t i k × Derives g s e u k l × Derives g s f v l j
  three_derived (and (and (and no_tree d) e) f) t u v i j (c, (l, z, (k, y, (m, x, p, ex, hd), ey, he), ez, hf)) =
      let px : x ≡ t = cc ex in
      let py : y ≡ u = cc ey in
      let pz : z ≡ v = cc ez in
      (k, l, d, e, f, refl, subst (λ w. Derives g s d w i k) px (subst (λ (n : ℕ). Derives g s d x n k) (sym p) hd), subst (λ w. Derives g s e w k l) py he, subst (λ w. Derives g s f w l j) pz hf)
  three_derived no_tree t u v i j h = absurd (omega (arith, h.0))
  three_derived (and no_tree f) t u v i j h = absurd (omega (arith, h.0))
  three_derived (and (and no_tree e) f) t u v i j h = absurd (omega (arith, h.0))
  three_derived (and (and (and (and ds c) d) e) f) t u v i j h = absurd (omega (arith, h.0))
