-- Which written trees the alternatives of a helper have, by the helper's kind: those of each derivation are so.
use Rattle.std.proofs.Common.{◌≡◌, sym, ap, subst, ◌∙◌, ◌<◌, ℕ, zero, suc, List, [], ◌∷◌, length, Option, Some, None, arith, slice_get}
use Rattle.std.proofs.lemmas.Option.{slice_get_within}
use mathlib.Core.Logic.{inl, inr}
use Rattle.ix_model.specs.declared.grammar.Grammar.{Grammar}
use Rattle.ix_model.specs.declared.rules.Kind.{Kind}
use Rattle.ix_model.specs.declared.rules.Kind.TheVariants as kind
use Rattle.ix_model.specs.declared.rules.Sym.{Sym}
use Rattle.ix_model.specs.declared.rules.Sym.TheVariants as sy
use Rattle.ix_model.specs.declared.rules.Rules.{Rules}
use Rattle.ix_model.specs.Derivations.Trees.{Tree, list, Trees, no_tree, and, Repeated, one, again, again_after}
use Rattle.ix_model.specs.Expansion.Parts.{Parts}
use Rattle.ix_model.specs.Expansion.Numbered.{kind_at}
use Rattle.ix_model.specs.Expansion.FlatTrees.{FlatTree, flat_text, flat_insertion, flat_node, FlatTrees, no_flat, flats_and, flat_count}
use Rattle.ix_model.specs.Expansion.FlatDerives.{FlatDerives, FlatDerivesFirst, IsLine}
use Rattle.ix_model.specs.Expansion.Lift.{lift, lift_all, lifted, list_of, parts}
use Rattle.ix_model.specs.Expansion.Expanded.{next_syms, Expanded}
use Rattle.ix_model.proofs.Decide.{Answered}
use Rattle.ix_expansion_laws.proofs.Children.{AllOf, one_child, two_children, three_children}
use Rattle.ix_expansion_laws.proofs.Covering.{only_named}
use Rattle.ix_expansion_laws.proofs.Lifting.{kind_is, line_of}
use Rattle.ix_first_laws.proofs.HelperShapes.{HelperShape, of_group, of_option, of_star, of_list, shape_at}
use Rattle.ix_first_laws.proofs.NodeKinds.{Helper, is_named}

-- ---- the trees of alternative a

-- of an option: what it holds; nothing
pub data OptionFits : ℕ → Trees → Type 0 where
  held : (d : Tree) → OptionFits 0 (and no_tree d)
  not_there : OptionFits 1 no_tree

-- of a star: nothing; a list
pub data StarFits : ℕ → Trees → Type 0 where
  no_items : StarFits 0 no_tree
  items : (rs : Repeated) → StarFits 1 (and no_tree (list rs))

-- of a list: an item; a list, a separator where there is one, and an item
pub data ListFits : ℕ → Trees → Type 0 where
  only_item : (d : Tree) → ListFits 0 (and no_tree d)
  next_item : (rs : Repeated) (d : Tree) → ListFits 1 (and (and no_tree (list rs)) d)
  item_after : (rs : Repeated) (e d : Tree) → ListFits 1 (and (and (and no_tree (list rs)) e) d)

abbrev pub Fits : Kind → ℕ → Trees → Type 0
Fits kind.Named a ts = Unit {0}
Fits kind.Group a ts = Unit {0}
Fits kind.Opt a ts = OptionFits a ts
Fits kind.Star a ts = StarFits a ts
Fits kind.List a ts = ListFits a ts

-- so are the trees of each node that is derived
abbrev pub AllFit : Parts → Type 0
AllFit plan = (r a : ℕ) (ds : FlatTrees) (x : Sym) (i j : ℕ) → FlatDerives plan (flat_node r a ds) x i j → Fits (kind_at plan.rules r) a (lift_all plan.rules ds)

-- ---- the written trees of one, two or three trees

module _ (rules : Rules) where
  one_lifts : (ds : FlatTrees) (d : FlatTree) → ds ≡ flats_and no_flat d → lift_all rules ds ≡ and no_tree (lift rules d)
  one_lifts ds d h = ap (lift_all rules) h

  two_lift : (ds : FlatTrees) (d e : FlatTree) → ds ≡ flats_and (flats_and no_flat d) e → lift_all rules ds ≡ and (and no_tree (lift rules d)) (lift rules e)
  two_lift ds d e h = ap (lift_all rules) h

  three_lift : (ds : FlatTrees) (d e f : FlatTree) → ds ≡ flats_and (flats_and (flats_and no_flat d) e) f → lift_all rules ds ≡ and (and (and no_tree (lift rules d)) (lift rules e)) (lift rules f)
  three_lift ds d e f h = ap (lift_all rules) h

-- their lists
list_of_one : (ts : Trees) (d : Tree) → ts ≡ and no_tree d → list_of ts ≡ list (one d)
list_of_one ts d h = ap list_of h

list_of_two : (ts : Trees) (c d : Tree) → ts ≡ and (and no_tree c) d → list_of ts ≡ list (again (parts c) d)
list_of_two ts c d h = ap list_of h

list_of_three : (ts : Trees) (c e d : Tree) → ts ≡ and (and (and no_tree c) e) d → list_of ts ≡ list (again_after (parts c) e d)
list_of_three ts c e d h = ap list_of h

-- what fits with a list in the place of the first tree
star_of : (ts : Trees) (c : Tree) (rs : Repeated) → ts ≡ and no_tree c → c ≡ list rs → StarFits 1 ts
star_of ts c rs h k = subst (λ z. StarFits 1 z) (sym (h ∙ ap (λ z. and no_tree z) k)) (items rs)

next_fits : (ts : Trees) (c d : Tree) (rs : Repeated) → ts ≡ and (and no_tree c) d → c ≡ list rs → ListFits 1 ts
next_fits ts c d rs h k = subst (λ z. ListFits 1 z) (sym (h ∙ ap (λ z. and (and no_tree z) d) k)) (next_item rs d)

after_fits : (ts : Trees) (c e d : Tree) (rs : Repeated) → ts ≡ and (and (and no_tree c) e) d → c ≡ list rs → ListFits 1 ts
after_fits ts c e d rs h k = subst (λ z. ListFits 1 z) (sym (h ∙ ap (λ z. and (and (and no_tree z) e) d) k)) (item_after rs e d)

-- ---- under the numbered rules of a grammar

abbrev pub Whatever : FlatTree → Type 0
Whatever d = Unit {0}

pub whatever : (ds : FlatTrees) → AllOf Whatever ds
whatever no_flat = tt
whatever (flats_and ds d) = (whatever ds, tt)

module _ (g : Grammar) (plan : Parts) (e : Expanded g plan.rules) where
  shape_of : (r a : ℕ) (syms : List Sym) → IsLine plan r a syms → Helper (kind_at plan.rules r) → HelperShape g plan.rules r
  shape_of r a syms l helper = shape_at g plan.rules e r (grind (arith, behind)) inside
    where
      inside : r < length plan.rules.flats
      inside = slice_get_within plan.rules.flats r l.0 l.2

      behind : r < length g.rules → ⊥
      behind h = helper ((only_named g plan.rules e r inside).1 h)

  -- a list's tree is a list
  list_line : (r c : ℕ) (es : FlatTrees) (x : Sym) (s : Option Sym) (syms : List Sym) (i j : ℕ) → slice_get ((x ∷ []) ∷ next_syms r x s ∷ []) c ≡ Some syms → flat_count es ≡ length syms → FlatDerivesFirst plan es syms i j →
      (rs : Repeated) × (list_of (lift_all plan.rules es) ≡ list rs)
  list_line r zero es x s syms i j q n h =
      let k : syms ≡ x ∷ [] = cc q in
      let v = one_child plan Whatever es (whatever es) x i j (n ∙ ap length k) (subst (λ zs. FlatDerivesFirst plan es zs i j) k h) in
      (one (lift plan.rules v.0), list_of_one _ _ (one_lifts plan.rules es v.0 v.1))
  list_line r (suc zero) es x None syms i j q n h =
      let k : syms ≡ sy.Rule r None ∷ x ∷ [] = cc q in
      let v = two_children plan Whatever es (whatever es) (sy.Rule r None) x i j (n ∙ ap length k) (subst (λ zs. FlatDerivesFirst plan es zs i j) k h) in
      (again (parts (lift plan.rules v.0)) (lift plan.rules v.1), list_of_two _ _ _ (two_lift plan.rules es v.0 v.1 v.3))
  list_line r (suc zero) es x (Some y) syms i j q n h =
      let k : syms ≡ sy.Rule r None ∷ y ∷ x ∷ [] = cc q in
      let v = three_children plan Whatever es (whatever es) (sy.Rule r None) y x i j (n ∙ ap length k) (subst (λ zs. FlatDerivesFirst plan es zs i j) k h) in
      (again_after (parts (lift plan.rules v.0)) (lift plan.rules v.1) (lift plan.rules v.2), list_of_three _ _ _ _ (three_lift plan.rules es v.0 v.1 v.2 v.5))
  list_line r (suc (suc c)) es x s syms i j q n h = absurd (cc q)

  list_lifts : (r : ℕ) (d : FlatTree) (i j : ℕ) → kind_at plan.rules r ≡ kind.List → FlatDerives plan d (sy.Rule r None) i j → (rs : Repeated) × (lift plan.rules d ≡ list rs)
  list_lifts r (flat_text p q) i j k h = absurd (cc h.2.3)
  list_lifts r flat_insertion i j k h = absurd (cc h.1)
  list_lifts r (flat_node q c es) i j k h = by_shape (shape_of q c h.2 h.3 (λ n. absurd (cc (n, kq))))
    where
      same : q ≡ r
      same = cc h.1

      kq : kind_at plan.rules q ≡ kind.List
      kq = ap (kind_at plan.rules) same ∙ k

      by_shape : HelperShape g plan.rules q → (rs : Repeated) × (lift plan.rules (flat_node q c es) ≡ list rs)
      by_shape (of_group _ lines f l) = absurd (cc (kq, kind_is g plan.rules q kind.Group lines f))
      by_shape (of_option _ x f l) = absurd (cc (kq, kind_is g plan.rules q kind.Opt ((x ∷ []) ∷ [] ∷ []) f))
      by_shape (of_star _ p f l o) = absurd (cc (kq, kind_is g plan.rules q kind.Star ([] ∷ (sy.Rule p None ∷ []) ∷ []) f))
      by_shape (of_list _ x s f l o) =
          let lines : List (List Sym) = (x ∷ []) ∷ next_syms q x s ∷ [] in
          let v = list_line q c es x s h.2 i j (line_of g plan.rules plan.slots plan.text q c kind.List lines h.2 f h.3) h.4 h.5 in
          (v.0, ap (λ z. lifted z q c (lift_all plan.rules es)) kq ∙ v.1)

  option_fits : (a : ℕ) (ds : FlatTrees) (x : Sym) (syms : List Sym) (i j : ℕ) → slice_get ((x ∷ []) ∷ [] ∷ []) a ≡ Some syms → flat_count ds ≡ length syms → FlatDerivesFirst plan ds syms i j → OptionFits a (lift_all plan.rules ds)
  option_fits zero ds x syms i j q n h =
      let k : syms ≡ x ∷ [] = cc q in
      let v = one_child plan Whatever ds (whatever ds) x i j (n ∙ ap length k) (subst (λ zs. FlatDerivesFirst plan ds zs i j) k h) in
      subst (OptionFits 0) (sym (one_lifts plan.rules ds v.0 v.1)) (held (lift plan.rules v.0))
  option_fits (suc zero) no_flat x syms i j q n h = not_there
  option_fits (suc zero) (flats_and ds d) x syms i j q n h = let k : syms ≡ [] = cc q in absurd (omega (arith, n ∙ ap length k))
  option_fits (suc (suc a)) ds x syms i j q n h = absurd (cc q)

  star_fits : (a : ℕ) (ds : FlatTrees) (p : ℕ) (syms : List Sym) (i j : ℕ) → kind_at plan.rules p ≡ kind.List → slice_get ([] ∷ (sy.Rule p None ∷ []) ∷ []) a ≡ Some syms → flat_count ds ≡ length syms → FlatDerivesFirst plan ds syms i j →
      StarFits a (lift_all plan.rules ds)
  star_fits zero no_flat p syms i j l q n h = no_items
  star_fits zero (flats_and ds d) p syms i j l q n h = let k : syms ≡ [] = cc q in absurd (omega (arith, n ∙ ap length k))
  star_fits (suc zero) ds p syms i j l q n h =
      let k : syms ≡ sy.Rule p None ∷ [] = cc q in
      let v = one_child plan Whatever ds (whatever ds) (sy.Rule p None) i j (n ∙ ap length k) (subst (λ zs. FlatDerivesFirst plan ds zs i j) k h) in
      let w = list_lifts p v.0 i j l v.3 in
      star_of (lift_all plan.rules ds) (lift plan.rules v.0) w.0 (one_lifts plan.rules ds v.0 v.1) w.1
  star_fits (suc (suc a)) ds p syms i j l q n h = absurd (cc q)

  list_fits : (r a : ℕ) (ds : FlatTrees) (x : Sym) (s : Option Sym) (syms : List Sym) (i j : ℕ) → kind_at plan.rules r ≡ kind.List → slice_get ((x ∷ []) ∷ next_syms r x s ∷ []) a ≡ Some syms → flat_count ds ≡ length syms → FlatDerivesFirst plan ds syms i j →
      ListFits a (lift_all plan.rules ds)
  list_fits r zero ds x s syms i j l q n h =
      let k : syms ≡ x ∷ [] = cc q in
      let v = one_child plan Whatever ds (whatever ds) x i j (n ∙ ap length k) (subst (λ zs. FlatDerivesFirst plan ds zs i j) k h) in
      subst (ListFits 0) (sym (one_lifts plan.rules ds v.0 v.1)) (only_item (lift plan.rules v.0))
  list_fits r (suc zero) ds x None syms i j l q n h =
      let k : syms ≡ sy.Rule r None ∷ x ∷ [] = cc q in
      let v = two_children plan Whatever ds (whatever ds) (sy.Rule r None) x i j (n ∙ ap length k) (subst (λ zs. FlatDerivesFirst plan ds zs i j) k h) in
      let w = list_lifts r v.0 i v.2 l v.6 in
      next_fits (lift_all plan.rules ds) (lift plan.rules v.0) (lift plan.rules v.1) w.0 (two_lift plan.rules ds v.0 v.1 v.3) w.1
  list_fits r (suc zero) ds x (Some y) syms i j l q n h =
      let k : syms ≡ sy.Rule r None ∷ y ∷ x ∷ [] = cc q in
      let v = three_children plan Whatever ds (whatever ds) (sy.Rule r None) y x i j (n ∙ ap length k) (subst (λ zs. FlatDerivesFirst plan ds zs i j) k h) in
      let w = list_lifts r v.0 i v.3 l v.9 in
      after_fits (lift_all plan.rules ds) (lift plan.rules v.0) (lift plan.rules v.1) (lift plan.rules v.2) w.0 (three_lift plan.rules ds v.0 v.1 v.2 v.5) w.1
  list_fits r (suc (suc a)) ds x s syms i j l q n h = absurd (cc q)

  pub all_fit : AllFit plan
  all_fit r a ds x i j h = by_kind (is_named (kind_at plan.rules r))
    where
      by_shape : HelperShape g plan.rules r → Fits (kind_at plan.rules r) a (lift_all plan.rules ds)
      by_shape (of_group _ lines f l) = rw (kind_is g plan.rules r kind.Group lines f) tt
      by_shape (of_option _ y f l) =
          let lines : List (List Sym) = (y ∷ []) ∷ [] ∷ [] in
          rw (kind_is g plan.rules r kind.Opt lines f) (option_fits a ds y h.2 i j (line_of g plan.rules plan.slots plan.text r a kind.Opt lines h.2 f h.3) h.4 h.5)
      by_shape (of_star _ p f l o) =
          let lines : List (List Sym) = [] ∷ (sy.Rule p None ∷ []) ∷ [] in
          rw (kind_is g plan.rules r kind.Star lines f) (star_fits a ds p h.2 i j o (line_of g plan.rules plan.slots plan.text r a kind.Star lines h.2 f h.3) h.4 h.5)
      by_shape (of_list _ y s f l o) =
          let lines : List (List Sym) = (y ∷ []) ∷ next_syms r y s ∷ [] in
          let k = kind_is g plan.rules r kind.List lines f in
          rw k (list_fits r a ds y s h.2 i j k (line_of g plan.rules plan.slots plan.text r a kind.List lines h.2 f h.3) h.4 h.5)

      by_kind : Answered (kind_at plan.rules r ≡ kind.Named) → Fits (kind_at plan.rules r) a (lift_all plan.rules ds)
      by_kind (inl k) = rw k tt
      by_kind (inr k) = by_shape (shape_of r a h.2 h.3 k)
