-- The first tree of each term over each span among those of bounded height: by recursion on the bound, and within one
-- bound by recursion on the term. Only a call leads to trees under a lesser bound.
use Rattle.std.proofs.Common.{◌≡◌, refl, sym, ap, subst, ◌∙◌, ℕ, zero, suc, List, [], ◌∷◌, map, length, arith, slice_get, Some, None, Option}
use Rattle.ix_model.specs.declared.grammar.Grammar.{Grammar}
use Rattle.ix_model.specs.declared.grammar.Mark.{Mark}
use Rattle.ix_model.specs.declared.grammar.Alt.{Alt}
use Rattle.ix_model.specs.declared.grammar.Term.{Term, One}
use Rattle.ix_model.specs.declared.grammar.Term.TheVariants as tv
use Rattle.ix_model.specs.declared.grammar.Factor.{Factor, Call, Group}
use Rattle.ix_model.specs.declared.grammar.Factor.TheVariants as fv
use Rattle.ix_model.specs.declared.grammar.Factor.TheViews.{roll-Factor, roll-Term, roll-Alt}
use Rattle.ix_model.specs.declared.grammar.Factor.TheOpen.{Factor-F, Term-F, Alt-F}
use Rattle.ix_model.specs.declared.grammar.Factor.TheFolds.{ind-Term, map-Factor, map-Term, map-Alt}
use Rattle.ix_model.specs.Matching.Codes.{characters}
use Rattle.ix_model.specs.Grammars.Names.{HasUniqueNames}
use Rattle.ix_model.proofs.Standing.{stands, set_stands}
use Rattle.ix_tree_laws.proofs.Found.{FoundTree, FoundList}
use Rattle.ix_tree_laws.proofs.FoundSequences.{found_all}
use Rattle.ix_tree_laws.proofs.FoundLists.{found_list, found_list_after}
use Rattle.ix_tree_laws.proofs.FoundTerms.{found_opt, found_plus, found_star, found_lit, found_set, found_insert}
use Rattle.ix_tree_laws.proofs.FoundNodes.{least_alt, found_group, no_call, found_call}

-- what stands in a list of results is a result
get_map : {A B : Type 0} (f : A → B) (xs : List A) (n : ℕ) (y : B) → slice_get (map f xs) n ≡ Some y → (x : A) × (f x ≡ y)
get_map f [] n y e = absurd (cc e)
get_map f (x ∷ xs) zero y e = (x, cc e)
get_map f (x ∷ xs) (suc n) y e = get_map f xs n y e

-- under the bound b the first tree of each call is found
module _ (g : Grammar) (s : List ℕ) (b : ℕ) (calls : (m : Option Mark) (name : List ℕ) (i j : ℕ) → FoundTree g s b (One (Call m name)) i j) where
  -- the first tree of the term is found over each span
  abbrev OfTerm : Term → Type 0
  OfTerm t = (i j : ℕ) → FoundTree g s b t i j

  abbrev OfFactor : Factor → Type 0
  OfFactor f = OfTerm (One f)

  -- that of each term of the alternative is
  abbrev OfAlt : Alt → Type 0
  OfAlt alt = (n : ℕ) (t : Term) → slice_get alt.terms n ≡ Some t → OfTerm t

  of_list : (f : Factor) (sep : Option Factor) → OfFactor f → ((p : Factor) → sep ≡ Some p → OfFactor p) → (i j : ℕ) → FoundList g s b f sep i j
  of_list f None item q i j = found_list g s b f item i (suc j) j (omega arith)
  of_list f (Some p) item q i j = found_list_after g s b f p item (q p refl) i (suc j) j (omega arith)

  of_group : (alts : List Alt) → ((a : ℕ) (alt : Alt) → slice_get alts a ≡ Some alt → OfAlt alt) → OfFactor (Group alts)
  of_group alts each i j = found_group g s b i j alts (least_alt g s b i j alts (λ a alt e. found_all g s b alt.terms (each a alt e) (length alt.terms) i j))

  -- one layer of a factor, term or alternative, whose parts are found
  module _ (F T A : Type 0) (f : F → Factor) (t : T → Term) (a : A → Alt) (of_f : (x : F) → OfFactor (f x)) (of_t : (x : T) → OfTerm (t x)) (of_a : (x : A) → OfAlt (a x)) where
    factor_layer : (x : Factor-F Factor Term Alt) (y : Factor-F F T A) → map-Factor F T A Factor Term Alt f t a y ≡ x → OfFactor (roll-Factor x)
    factor_layer x (Factor-F.Lit m cs) e = subst OfFactor (sym (fv.rolls-Lit m cs) ∙ ap roll-Factor e) (λ i j. found_lit g s b i j m cs (stands s (characters cs) i j))
    factor_layer x (Factor-F.Set m ex ms) e = subst OfFactor (sym (fv.rolls-Set m ex ms) ∙ ap roll-Factor e) (λ i j. found_set g s b i j m ex ms (set_stands ex ms s i j))
    factor_layer x (Factor-F.Call m name) e = subst OfFactor (sym (fv.rolls-Call m name) ∙ ap roll-Factor e) (calls m name)
    factor_layer x (Factor-F.Insert cs) e = subst OfFactor (sym (fv.rolls-Insert cs) ∙ ap roll-Factor e) (λ i j. found_insert g s b i j cs (grind arith))
    factor_layer x (Factor-F.Group ys) e =
        subst OfFactor (sym (fv.rolls-Group (map a ys)) ∙ ap roll-Factor e)
        (of_group (map a ys) (λ n alt q. let z = get_map a ys n alt q in subst OfAlt z.1 (of_a z.0)))

    no_separator : (p : Factor) → None ≡ Some p → OfFactor p
    no_separator p e = absurd (cc e)

    separated : (q : F) (p : Factor) → Some (f q) ≡ Some p → OfFactor p
    separated q p e = let z : f q ≡ p = cc e in subst OfFactor z (of_f q)

    term_layer : (x : Term-F Factor Term Alt) (y : Term-F F T A) → map-Term F T A Factor Term Alt f t a y ≡ x → OfTerm (roll-Term x)
    term_layer x (Term-F.One y) e = subst OfTerm (sym (tv.rolls-One (f y)) ∙ ap roll-Term e) (of_f y)
    term_layer x (Term-F.Opt y) e = subst OfTerm (sym (tv.rolls-Opt (f y)) ∙ ap roll-Term e) (λ i j. found_opt g s b i j (f y) (of_f y i j))
    term_layer x (Term-F.Star y None) e =
        subst OfTerm (sym (tv.rolls-Star (f y) None) ∙ ap roll-Term e) (λ i j. found_star g s b i j (f y) None (grind arith) (of_list (f y) None (of_f y) no_separator i j))
    term_layer x (Term-F.Star y (Some q)) e =
        subst OfTerm (sym (tv.rolls-Star (f y) (Some (f q))) ∙ ap roll-Term e) (λ i j. found_star g s b i j (f y) (Some (f q)) (grind arith) (of_list (f y) (Some (f q)) (of_f y) (separated q) i j))
    term_layer x (Term-F.Plus y None) e =
        subst OfTerm (sym (tv.rolls-Plus (f y) None) ∙ ap roll-Term e) (λ i j. found_plus g s b i j (f y) None (of_list (f y) None (of_f y) no_separator i j))
    term_layer x (Term-F.Plus y (Some q)) e =
        subst OfTerm (sym (tv.rolls-Plus (f y) (Some (f q))) ∙ ap roll-Term e) (λ i j. found_plus g s b i j (f y) (Some (f q)) (of_list (f y) (Some (f q)) (of_f y) (separated q) i j))

    alt_layer : (x : Alt-F Factor Term Alt) (y : Alt-F F T A) → map-Alt F T A Factor Term Alt f t a y ≡ x → OfAlt (roll-Alt x)
    alt_layer x y e = subst OfAlt (ap roll-Alt e) (λ n u q. let z = get_map t y.terms n u q in subst OfTerm z.1 (of_t z.0))

  of_term : (t : Term) → OfTerm t
  of_term = ind-Term OfFactor OfTerm OfAlt
      (factor_layer _ _ _ (λ e. e.0) (λ e. e.0) (λ e. e.0) (λ e. e.1) (λ e. e.1) (λ e. e.1))
      (term_layer _ _ _ (λ e. e.0) (λ e. e.0) (λ e. e.0) (λ e. e.1) (λ e. e.1) (λ e. e.1))
      (alt_layer _ _ _ (λ e. e.0) (λ e. e.0) (λ e. e.0) (λ e. e.1) (λ e. e.1) (λ e. e.1))

module _ (g : Grammar) (s : List ℕ) (unique : HasUniqueNames g) where
  -- calls under the next bound, from all terms under this one
  next_calls : (b : ℕ) → ((t : Term) (i j : ℕ) → FoundTree g s b t i j) → (m : Option Mark) (name : List ℕ) (i j : ℕ) → FoundTree g s (suc b) (One (Call m name)) i j
  next_calls b each m name i j =
      found_call g s b i j unique m name (each (One (Call m name)) i j)
      (λ alts. least_alt g s b i j alts (λ a alt e. found_all g s b alt.terms (λ n t q. each t) (length alt.terms) i j))

  -- whatever the bound, there is a first tree of the term over the span, or there is none
  pub found_within : (b : ℕ) (t : Term) (i j : ℕ) → FoundTree g s b t i j
  found_within zero t i j = of_term g s 0 (λ m name i j. no_call g s 0 i j m name refl) t i j
  found_within (suc b) t i j = of_term g s (suc b) (next_calls b (found_within b)) t i j
