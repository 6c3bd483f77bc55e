-- Plans with the same slots and rules, and terminals that match the same, have the same closure.
use Rattle.std.proofs.Common.{◌≡◌, ℕ, Some, List, slice_get, subst}
use Rattle.ix_model.specs.declared.plan.SlotInfo.{SlotInfo}
use Rattle.ix_model.specs.declared.rules.Flat.{Flat}
use Rattle.ix_model.specs.declared.rules.Sym.{Sym}
use Rattle.ix_model.specs.Closure.Closed as C
use Rattle.ix_model.specs.Closure.Closed.{Called, Desc, Edge, End, Part}
use Rattle.ix_model.specs.Expansion.FlatDerives.{IsLine, IsTerminal}
use Rattle.ix_model.specs.Expansion.Parts.{Parts}
use Rattle.ix_model.specs.Expansion.SlotPlaces.{HasNext, IsFirstSlot, IsLastSlot}
use Rattle.ix_model.specs.Expansion.Slots.{IsSlot}

-- the plans have the same slots, rules and text, and what a terminal matches in the one it matches in the other
pub record Follows (p q : Parts) : Type 0 where
  pub slots : p.slots ≡ q.slots
  pub flats : p.rules.flats ≡ q.rules.flats
  pub text : p.text ≡ q.text
  pub terminals : (x : Sym) (i j : ℕ) → IsTerminal p x i j → IsTerminal q x i j

module _ (p q : Parts) (h : Follows p q) where
  pub same_slot : (s r a dot : ℕ) → IsSlot p s r a dot → IsSlot q s r a dot
  same_slot s r a dot e = subst (λ (slots : List SlotInfo). slice_get slots s ≡ Some (record { head = r; alt = a; dot = dot })) h.slots e

  pub same_line : (r a : ℕ) (syms : List Sym) → IsLine p r a syms → IsLine q r a syms
  same_line r a syms (flat, line, e, o, n) = (flat, line, subst (λ (flats : List Flat). slice_get flats r ≡ Some flat) h.flats e, o, n)

  same_first : (s rule : ℕ) → IsFirstSlot p s rule → IsFirstSlot q s rule
  same_first s rule (a, syms, e, o) = (a, syms, same_slot s rule a 0 e, same_line rule a syms o)

  same_last : (s rule : ℕ) → IsLastSlot p s rule → IsLastSlot q s rule
  same_last s rule (a, syms, e, o) = (a, syms, same_slot s rule a _ e, same_line rule a syms o)

  same_next : (s after : ℕ) (x : Sym) → HasNext p s after x → HasNext q s after x
  same_next s after x (r, a, dot, syms, e, o, l, n) = (r, a, dot, syms, same_slot s r a dot e, same_slot after r a _ o, same_line r a syms l, n)

  mutual
    called : (r k : ℕ) → Called p r k → Called q r k
    called r k C.start = C.start
    called r k (C.by_edge _ _ s l e) = C.by_edge r k s l (edge r k s l e)

    -- each descriptor of the one is a descriptor of the other
    pub desc : (s l k : ℕ) → Desc p s l k → Desc q s l k
    desc s l k (C.begun r at _ c f) = C.begun r at s (called r at c) (same_first s r f)
    desc s l k (C.arrived _ _ m _ e) = C.arrived s l m k (part s l m k e)

    edge : (r k s l : ℕ) → Edge p r k s l → Edge q r k s l
    edge r k s l (C.waiting _ _ _ after _ mark d n) = C.waiting s l k after r mark (desc s l k d) (same_next s after _ n)

    end : (r l k : ℕ) → End p r l k → End q r l k
    end r l k (C.ended s _ _ _ d e) = C.ended s l k r (desc s l k d) (same_last s r e)

    part : (s l m k : ℕ) → Part p s l m k → Part q s l m k
    part s l m k (C.empty r at _ c f e) = C.empty r at s (called r at c) (same_first s r f) (same_last s r e)
    part s l m k (C.scanned from _ _ _ _ x d n t) = C.scanned from l m s k x (desc from l m d) (same_next from s x n) (h.terminals x m k t)
    part s l m k (C.inserted from _ at _ n d o) = C.inserted from l at s n (desc from l at d) (same_next from s _ o)
    part s l m k (C.joined r _ from _ _ _ mark e f n) = C.joined r m from l k s mark (edge r m from l e) (end r m k f) (same_next from s _ n)
