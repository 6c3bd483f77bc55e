-- The last of some items of a repetition is entered.
use Rattle.std.proofs.Common.{subst, ℕ, List, Option, Some, None}
use Rattle.ix_model.specs.declared.grammar.Grammar.{Grammar}
use Rattle.ix_model.specs.declared.grammar.Term.{Term, One}
use Rattle.ix_model.specs.declared.grammar.Factor.{Factor}
use Rattle.ix_model.specs.Derivations.Trees.{Repeated, one, again, again_after}
use Rattle.ix_model.specs.Derivations.Derives.{Repeats}
use Rattle.ix_model.specs.Derivations.Entered.{IsRepetition, IsDerived, ItemEntered, next_item, item_behind, separator_behind}

module _ (g : Grammar) (s : List ℕ) where
  -- an item is entered at some position and derives up to e
  abbrev pub ItemUpTo : Term → Factor → ℕ → Type 0
  ItemUpTo t f e = (k : ℕ) × ItemEntered g s t k × IsDerived g s (One f) k e

  -- where a repetition's item is entered, and a list of items and separators derives from there, its last item is entered too
  pub last_item : (ds : Repeated) (t : Term) (f : Factor) (sep : Option Factor) (p e : ℕ) → IsRepetition t f sep → ItemEntered g s t p → Repeats g s ds f sep p e → ItemUpTo t f e
  last_item (one d) t f sep p e r h k = (p, h, (d, k))
  last_item (again ds d) t f sep p e r h (q, k, a, b) =
      let r' : IsRepetition t f None = subst (λ z. IsRepetition t f z) q r in
      let l = last_item ds t f sep p k r h a in
      (k, next_item t f l.0 k l.1 r' l.2, (d, b))
  last_item (again_after ds c d) t f sep p e r h (w, q, k, m, a, b, v) =
      let r' : IsRepetition t f (Some w) = subst (λ z. IsRepetition t f z) q r in
      let l = last_item ds t f sep p k r h a in
      (m, item_behind t f w k m (separator_behind t f w l.0 k l.1 r' l.2) r' (c, b), (d, v))
