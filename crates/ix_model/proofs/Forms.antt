-- The form of a term is the form of each tree that derives from it; and terms are told apart by what they are made of.
use Rattle.std.proofs.Common.{◌≡◌, refl, ap, sym, subst, ◌∙◌, ◌⊎◌, ℕ, List, Option, arith}
use mathlib.Core.Logic.{inl, inr}
use Rattle.std.specs.Prelude.{Bool}
use Rattle.ix_model.specs.declared.grammar.Grammar.{Grammar}
use Rattle.ix_model.specs.declared.grammar.Mark.{Mark}
use Rattle.ix_model.specs.declared.grammar.TMark.{TMark}
use Rattle.ix_model.specs.declared.grammar.Chars.{Chars}
use Rattle.ix_model.specs.declared.grammar.Member.{Member}
use Rattle.ix_model.specs.declared.grammar.Alt.{Alt}
use Rattle.ix_model.specs.declared.grammar.Term.{Term, One, Opt, Star, Plus, out-Term}
use Rattle.ix_model.specs.declared.grammar.Term.TheVariants as tv
use Rattle.ix_model.specs.declared.grammar.Factor.{Factor, Lit, Set, Call, Insert, Group, out-Factor}
use Rattle.ix_model.specs.declared.grammar.Factor.TheVariants as fv
use Rattle.ix_model.specs.declared.grammar.Factor.TheViews as FV
use Rattle.ix_model.specs.declared.grammar.Factor.TheOpen.{Factor-F, Term-F}
use Rattle.ix_model.specs.Grammars.Written.{IsNamed, IsOfRule}
use Rattle.ix_model.specs.Matching.Terminals.{Matches}
use Rattle.ix_model.specs.Derivations.Trees.{Tree, text, insertion, node, group, present, absent, no_item, list, Trees}
use Rattle.ix_model.specs.Derivations.Derives.{Derives, DerivesAll}

abbrev pub form : Tree → ℕ
form (text i j) = 0
form insertion = 1
form (node r a ds) = 2
form (group a ds) = 3
form (present d) = 4
form absent = 4
form no_item = 5
form (list ds) = 5

abbrev pub factor_form : Factor-F Factor Term Alt → ℕ
factor_form (Factor-F.Lit m cs) = 0
factor_form (Factor-F.Set m e ms) = 0
factor_form (Factor-F.Call m n) = 2
factor_form (Factor-F.Insert cs) = 1
factor_form (Factor-F.Group alts) = 3

abbrev pub term_form : Term-F Factor Term Alt → ℕ
term_form (Term-F.One f) = factor_form (out-Factor f)
term_form (Term-F.Opt f) = 4
term_form (Term-F.Star f sep) = 5
term_form (Term-F.Plus f sep) = 5

pub out_one : (f : Factor) → out-Term (One f) ≡ Term-F.One f
out_one f = ap out-Term (sym (tv.rolls-One f)) ∙ FV.out-roll-Term _

pub out_opt : (f : Factor) → out-Term (Opt f) ≡ Term-F.Opt f
out_opt f = ap out-Term (sym (tv.rolls-Opt f)) ∙ FV.out-roll-Term _

pub out_star : (f : Factor) (sep : Option Factor) → out-Term (Star f sep) ≡ Term-F.Star f sep
out_star f sep = ap out-Term (sym (tv.rolls-Star f sep)) ∙ FV.out-roll-Term _

pub out_plus : (f : Factor) (sep : Option Factor) → out-Term (Plus f sep) ≡ Term-F.Plus f sep
out_plus f sep = ap out-Term (sym (tv.rolls-Plus f sep)) ∙ FV.out-roll-Term _

pub out_group : (alts : List Alt) → out-Factor (Group alts) ≡ Factor-F.Group alts
out_group alts = ap out-Factor (sym (fv.rolls-Group alts)) ∙ FV.out-roll-Factor _

pub out_call : (m : Option Mark) (n : List ℕ) → out-Factor (Call m n) ≡ Factor-F.Call m n
out_call m n = ap out-Factor (sym (fv.rolls-Call m n)) ∙ FV.out-roll-Factor _

pub out_insert : (cs : Chars) → out-Factor (Insert cs) ≡ Factor-F.Insert cs
out_insert cs = ap out-Factor (sym (fv.rolls-Insert cs)) ∙ FV.out-roll-Factor _

pub out_lit : (m : Option TMark) (cs : Chars) → out-Factor (Lit m cs) ≡ Factor-F.Lit m cs
out_lit m cs = ap out-Factor (sym (fv.rolls-Lit m cs)) ∙ FV.out-roll-Factor _

pub out_set : (m : Option TMark) (e : Bool) (ms : List Member) → out-Factor (Set m e ms) ≡ Factor-F.Set m e ms
out_set m e ms = ap out-Factor (sym (fv.rolls-Set m e ms)) ∙ FV.out-roll-Factor _

-- the form of a term that is this factor
pub one_form : (t : Term) (f : Factor) (n : ℕ) → t ≡ One f → factor_form (out-Factor f) ≡ n → term_form (out-Term t) ≡ n
one_form t f n p q = ap (λ x. term_form (out-Term x)) p ∙ ap term_form (out_one f) ∙ q

pub same_opt : (f h : Factor) → Opt f ≡ Opt h → f ≡ h
same_opt f h e = cc e

pub same_plus : (f h : Factor) (p q : Option Factor) → Plus f p ≡ Plus h q → (f ≡ h) × (p ≡ q)
same_plus f h p q e =
    let r : Term-F.Plus f p ≡ Term-F.Plus h q = sym (out_plus f p) ∙ ap out-Term e ∙ out_plus h q in
    (cc r, cc r)

pub same_star : (f h : Factor) (p q : Option Factor) → Star f p ≡ Star h q → (f ≡ h) × (p ≡ q)
same_star f h p q e =
    let r : Term-F.Star f p ≡ Term-F.Star h q = sym (out_star f p) ∙ ap out-Term e ∙ out_star h q in
    (cc r, cc r)

pub star_no_plus : (f h : Factor) (p q : Option Factor) → Star f p ≡ Plus h q → ⊥
star_no_plus f h p q e =
    let r : Term-F.Star f p ≡ Term-F.Plus h q = sym (out_star f p) ∙ ap out-Term e ∙ out_plus h q in
    cc r

pub same_groups : (xs ys : List Alt) → Group xs ≡ Group ys → xs ≡ ys
same_groups xs ys p =
    let r : Factor-F.Group xs ≡ Factor-F.Group ys = sym (out_group xs) ∙ ap out-Factor p ∙ out_group ys in
    cc r

repeated_form : (t : Term) (f : Factor) (sep : Option Factor) → (t ≡ Plus f sep) ⊎ (t ≡ Star f sep) → term_form (out-Term t) ≡ 5
repeated_form t f sep (inl h) = ap (λ x. term_form (out-Term x)) h ∙ ap term_form (out_plus f sep)
repeated_form t f sep (inr h) = ap (λ x. term_form (out-Term x)) h ∙ ap term_form (out_star f sep)

pub same_item : (t : Term) (f h : Factor) (p q : Option Factor) → (t ≡ Plus f p) ⊎ (t ≡ Star f p) → (t ≡ Plus h q) ⊎ (t ≡ Star h q) → (f ≡ h) × (p ≡ q)
same_item t f h p q (inl a) (inl b) = same_plus f h p q (sym a ∙ b)
same_item t f h p q (inl a) (inr b) = absurd (star_no_plus h f q p (sym b ∙ a))
same_item t f h p q (inr a) (inl b) = absurd (star_no_plus f h p q (sym a ∙ b))
same_item t f h p q (inr a) (inr b) = same_star f h p q (sym a ∙ b)

module _ (g : Grammar) (s : List ℕ) where
  pub matched_form : (t : Term) (i j : ℕ) → Matches s t i j → term_form (out-Term t) ≡ 0
  matched_form t i j (inl h) = one_form t _ 0 h.2 (ap factor_form (out_lit h.0 h.1))
  matched_form t i j (inr h) = one_form t _ 0 h.4 (ap factor_form (out_set h.0 h.1 h.2))

  pub derived_form : (d : Tree) (t : Term) (i j : ℕ) → Derives g s d t i j → term_form (out-Term t) ≡ form d
  derived_form (text a b) t i j h = matched_form t i j h.2
  derived_form insertion t i j h = one_form t _ 1 h.1.1 (ap factor_form (out_insert h.1.0))
  derived_form (node r a ds) t i j h = one_form t _ 2 h.0.2 (ap factor_form (out_call h.0.0 h.0.1))
  derived_form (group a ds) t i j h = one_form t _ 3 h.1.1 (ap factor_form (out_group h.1.0))
  derived_form (present d) t i j h = ap (λ x. term_form (out-Term x)) h.1 ∙ ap term_form (out_opt h.0)
  derived_form absent t i j h = ap (λ x. term_form (out-Term x)) h.1 ∙ ap term_form (out_opt h.0)
  derived_form no_item t i j h = repeated_form t h.0 h.1 (inr h.2)
  derived_form (list ds) t i j h = repeated_form t h.0 h.1 h.2

module _ (g : Grammar) (s : List ℕ) where
  -- a call with a mark or none derives a node of a rule with its name
  pub call_is_node : (d : Tree) (mark : Option Mark) (name : List ℕ) (i j : ℕ) → Derives g s d (One (Call mark name)) i j →
      (r : ℕ) × (a : ℕ) × (ds : Trees) × (terms : List Term) × (d ≡ node r a ds) × IsNamed g r name × IsOfRule g r a terms × DerivesAll g s ds terms i j
  call_is_node (node r a ds) mark name i j h =
      let e : h.0.1 ≡ name = cc h.0.2 in
      (r, a, ds, h.1, refl, subst (λ x. IsNamed g r x) e h.0.3, h.2, (h.3, h.4))
  call_is_node d mark name i j h = absurd (omega (arith, sym (derived_form g s d (One (Call mark name)) i j h) ∙ one_form _ _ 2 refl (ap factor_form (out_call mark name))))
