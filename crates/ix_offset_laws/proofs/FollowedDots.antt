-- Each descriptor of the closure stands at a place that is entered: the symbols behind its dot follow from there.
use Rattle.std.proofs.Common.{◌≡◌, refl, ap, sym, subst, ◌∙◌, ◌+◌, ℕ, suc, List, ◌∷◌, Option, Some, arith, slice_get, drop}
use Rattle.std.specs.List.{AllByRecursion}
use Rattle.std.specs.Char.{IsScalar}
use Rattle.ix_model.specs.declared.grammar.Grammar.{Grammar}
use Rattle.ix_model.specs.declared.grammar.Rule.{Rule}
use Rattle.ix_model.specs.declared.grammar.Mark.{Mark}
use Rattle.ix_model.specs.declared.rules.Sym.{Sym}
use Rattle.ix_model.specs.declared.rules.Sym.TheVariants as sy
use Rattle.ix_model.specs.Expansion.Parts.{Parts}
use Rattle.ix_model.specs.Expansion.Slots.{IsSlot}
use Rattle.ix_model.specs.Derivations.Entered.{of_first_rule}
use Rattle.ix_model.specs.Expansion.FlatTrees.{flat_text, flat_insertion}
use Rattle.ix_model.specs.Expansion.FlatDerives.{IsLine}
use Rattle.ix_model.specs.Expansion.Expanded.{Expanded}
use Rattle.ix_model.specs.Expansion.SlotPlaces.{HasNext, IsFirstSlot}
use Rattle.ix_model.specs.Closure.Closed.{Called, start, by_edge, Desc, begun, arrived, Edge, waiting, Part, empty, scanned, inserted, joined}
use Rattle.ix_model.proofs.SlotPlaces.{same_slot, same_line, line_by}
use Rattle.ix_closure_laws.proofs.ClosedTrees.{end_tree}
use Rattle.std.proofs.Math.Seq.{drop-cons}
use Rattle.std.proofs.lemmas.Option.{slice_get_within, get_or_from_slice_get}
use Rattle.ix_offset_laws.proofs.Following.{SymbolEntered, IsSpan, Follow, named_follows, symbol_follows}

-- what stands at a place begins what stands from there on
drop_at : {A : Type 0} (xs : List A) (n : ℕ) (y : A) → slice_get xs n ≡ Some y → drop n xs ≡ y ∷ drop (n + 1) xs
drop_at xs n y e =
    let next : suc n ≡ n + 1 = omega arith in
    drop-cons xs n y (slice_get_within xs n y e) ∙ ap (λ z. z ∷ drop (suc n) xs) (get_or_from_slice_get xs n y y e) ∙ ap (λ (m : ℕ). y ∷ drop m xs) next

module _ (g : Grammar) (plan : Parts) (chars : AllByRecursion IsScalar plan.text) (x : Expanded g plan.rules) where
  -- the symbols behind the slot's dot follow from p on
  abbrev pub IsFollowed : ℕ → ℕ → Type 0
  IsFollowed n p = (r a dot : ℕ) (syms : List Sym) → IsSlot plan n r a dot → IsLine plan r a syms → Follow g plan (drop dot syms) p

  -- where all alternatives of a rule follow, so do the symbols behind the dot of a first slot
  begun_followed : (rule at n : ℕ) → IsFirstSlot plan n rule → ((a : ℕ) (syms : List Sym) → IsLine plan rule a syms → Follow g plan syms at) → IsFollowed n at
  begun_followed rule at n f c r a dot syms h line =
      let q = same_slot plan n rule f.0 0 r a dot f.2 h in
      let here : IsLine plan rule a syms = subst (λ (z : ℕ). IsLine plan z a syms) (sym q.0) line in
      subst (λ (z : ℕ). Follow g plan (drop z syms) at) q.2 (c a syms here)

  -- the symbol behind the dot is entered, and the rest follow where it ends
  pub next_followed : (n after p : ℕ) (y : Sym) → (h : HasNext plan n after y) → IsFollowed n p → SymbolEntered g plan y p × ((e : ℕ) → IsSpan g plan y p e → Follow g plan (drop (h.2 + 1) h.3) e)
  next_followed n after p y h b = subst (λ zs. Follow g plan zs p) (drop_at h.3 h.2 y h.7) (b h.0 h.1 h.2 h.3 h.4 h.6)

  -- where a tree derives from the symbol, the rest follow
  moved : (n after p e : ℕ) (y : Sym) → HasNext plan n after y → IsFollowed n p → IsSpan g plan y p e → IsFollowed after e
  moved n after p e y h b v r a dot syms at line =
      let q = same_slot plan after h.0 h.1 (h.2 + 1) r a dot h.5 at in
      let u = same_line plan r a h.3 syms (line_by plan h.0 r h.1 a h.3 q.0 q.1 h.6) line in
      subst (λ (z : ℕ). Follow g plan (drop z syms) e) q.2 (subst (λ zs. Follow g plan (drop (h.2 + 1) zs) e) u ((next_followed n after p y h b).1 e v))

  module _ (rule0 : Rule) (at0 : slice_get g.rules 0 ≡ Some rule0) where
    mutual
      -- the alternatives of a called rule follow where it is called
      pub called_follows : (q p : ℕ) → Called plan q p → (a : ℕ) (syms : List Sym) → IsLine plan q a syms → Follow g plan syms p
      called_follows q p start a syms line = named_follows g plan chars x 0 rule0 at0 a syms line 0 (λ terms o. of_first_rule a terms o)
      called_follows q p (by_edge rule at n left e) a syms line =
          let h = edge_entered rule at n left e in
          symbol_follows g plan chars x (sy.Rule rule h.0) at h.1 rule h.0 refl a syms line

      edge_entered : (q p n l : ℕ) → Edge plan q p n l → (m : Option Mark) × SymbolEntered g plan (sy.Rule q m) p
      edge_entered q p n l (waiting slot left at after rule mark d h) = (mark, (next_followed slot after at (sy.Rule rule mark) h (desc_followed slot left at d)).0)

      edge_followed : (q p n l : ℕ) → Edge plan q p n l → IsFollowed n p
      edge_followed q p n l (waiting slot left at after rule mark d h) = desc_followed slot left at d

      -- the symbols behind the dot of each descriptor follow
      pub desc_followed : (n l p : ℕ) → Desc plan n l p → IsFollowed n p
      desc_followed n l p (begun rule at slot c f) = begun_followed rule at slot f (called_follows rule at c)
      desc_followed n l p (arrived slot left pivot right h) = part_followed slot left pivot right h

      part_followed : (n l k r : ℕ) → Part plan n l k r → IsFollowed n r
      part_followed n l k r (empty rule at slot c f e) = begun_followed rule at slot f (called_follows rule at c)
      part_followed n l k r (scanned slot left pivot after right y d h t) = moved slot after pivot right y h (desc_followed slot left pivot d) (flat_text pivot right, (refl, refl, t))
      part_followed n l k r (inserted slot left pivot after m d h) = moved slot after pivot pivot (sy.Insert m) h (desc_followed slot left pivot d) (flat_insertion, (m, refl, refl))
      part_followed n l k r (joined rule pivot slot left right after mark e f h) =
          let t = end_tree plan rule pivot right f in
          moved slot after pivot right (sy.Rule rule mark) h (edge_followed rule pivot slot left e) (t.0, t.1 mark)
