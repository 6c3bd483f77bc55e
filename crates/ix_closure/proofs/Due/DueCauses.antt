-- What a due step follows from.
use Rattle.std.proofs.Common.{◌≡◌, ℕ, ◌+◌, Option, Some, sym, ◌∙◌, subst, arith}
use Rattle.ix_model.specs.declared.grammar.Mark.{Mark}
use Rattle.ix_model.specs.declared.rules.Sym.{Sym}
use Rattle.ix_model.specs.declared.rules.Sym.TheVariants as sy
use Rattle.ix_model.specs.declared.sub.Sub.{Sub}
use Rattle.ix_model.specs.Closure.Closed as closed
use Rattle.ix_model.specs.Expansion.Parts.{Parts}
use Rattle.ix_model.specs.Expansion.Planned.{IsPlanned}
use Rattle.ix_model.specs.Expansion.SlotPlaces.{HasNext, IsFirstSlot}
use Rattle.ix_closure_laws.proofs.ClosedLinks.{edge_from}
use Rattle.ix_model.proofs.SlotPlaces.{same_slot, same_before}
use Rattle.ix_model.proofs.SlotReaders.{next_reads}
use Rattle.ix_cluster.specs.declared.fact.Fact.{Fact}
use Rattle.ix_cluster.specs.declared.fact.Fact.TheVariants as fact
use Rattle.ix_closure.specs.declared.owed.Owed.{Owed}
use Rattle.ix_closure.specs.declared.owed.Owed.TheVariants.{Claim, Edge, End, Arrive}
use Rattle.ix_closure.specs.Due.{IsDue, claim, passed, inserted, waits, ends, meets}

-- a dot behind a symbol stands at the beginning of no alternative
pub next_not_first : (plan : Parts) (s after r : ℕ) (x : Sym) → HasNext plan s after x → IsFirstSlot plan after r → ⊥
next_not_first plan s after r x h f = let e = same_slot plan after h.0 h.1 (h.2 + 1) r f.0 0 h.5 f.2 in omega (arith, e.2)

-- behind a dot stands one symbol
pub next_same : (plan : Parts) → IsPlanned plan → (s after after' : ℕ) (x y : Sym) → HasNext plan s after x → HasNext plan s after' y → x ≡ y
next_same plan planned s after after' x y h k =
    let e : Some x ≡ Some y = sym (next_reads plan planned s after x h).1 ∙ (next_reads plan planned s after' y k).1 in
    cc

-- behind the dot of an edge's slot its rule stands, and the next slot has the next number
pub edge_next : (plan : Parts) → IsPlanned plan → (r k s l : ℕ) → closed.Edge plan r k s l → (mark : Option Mark) × HasNext plan s (s + 1) (sy.Rule r mark)
edge_next plan planned r k s l edge =
    let p = (edge_from plan r k s l edge).1 in
    (p.1, subst (λ (after : ℕ). HasNext plan s after (sy.Rule r p.1)) (next_reads plan planned s p.0 (sy.Rule r p.1) p.2).2 p.2)

module _ (plan : Parts) (planned : IsPlanned plan) (Holds : Fact → Type 0) where
  -- what an arrival behind the symbol follows from
  abbrev pub ArrivesBy : ℕ → ℕ → ℕ → ℕ → Sym → Type 0
  ArrivesBy s l k e (sy.Term t shown) = Holds (fact.Claim s l k)
  ArrivesBy s l k e (sy.Insert n) = Holds (fact.Claim s l k)
  ArrivesBy s l k e (sy.Rule r mark) = Holds (fact.Edge r k s l) × Holds (fact.End r k e)

  -- what the step follows from
  abbrev pub CauseOf : Owed → Type 0
  CauseOf (Claim s l p) = Holds (fact.Desc s l p)
  CauseOf (Edge r k s l) = Holds (fact.Claim s l k)
  CauseOf (End r k e) = Unit {0}
  CauseOf (Arrive sub) =
      ((s : ℕ) × (x : Sym) × HasNext plan s sub.slot x) × ((s : ℕ) (x : Sym) → HasNext plan s sub.slot x → ArrivesBy s sub.left sub.pivot sub.right x)

  -- by the symbol that stands there
  arrives : (s s' l k e after : ℕ) (x y : Sym) → HasNext plan s after x → HasNext plan s' after y → ArrivesBy s l k e x → ArrivesBy s' l k e y
  arrives s s' l k e after x y h i by =
      let same : s ≡ s' = same_before plan planned s s' after x y h i in
      subst (ArrivesBy s' l k e) (next_same plan planned s' after after x y (subst (λ (z : ℕ). HasNext plan z after x) same h) i) (subst (λ (z : ℕ). ArrivesBy z l k e x) same by)

  pub cause_of : (o : Owed) → IsDue plan Holds o → CauseOf o
  cause_of o (claim s l p h) = h
  cause_of o (passed s l p after e x h next t) = (
    (s, x, next),
    λ s' y i. arrives s s' l p e after x y next i (subst (ArrivesBy s l p e) (sym t.3) h),
  )
  cause_of o (inserted s l p after n h next) = ((s, sy.Insert n, next), λ s' y i. arrives s s' l p p after (sy.Insert n) y next i h)
  cause_of o (waits s l p after r mark h next) = h
  cause_of o (ends s l p r h last) = tt
  cause_of o (meets r k s l e after mark edge end next) = ((s, sy.Rule r mark, next), λ s' y i. arrives s s' l k e after (sy.Rule r mark) y next i (edge, end))

  -- the slot of an arrival has its dot behind a symbol
  pub arrival_not_first : (sub : Sub) → IsDue plan Holds (Arrive sub) → (r : ℕ) → IsFirstSlot plan sub.slot r → ⊥
  arrival_not_first sub due r first = let n = (cause_of (Arrive sub) due).0 in next_not_first plan n.0 sub.slot r n.1 n.2 first
