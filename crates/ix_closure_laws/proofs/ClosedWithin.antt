-- The rules, slots and positions of the facts of the closure are there.
use Rattle.std.proofs.Common.{◌+◌, ◌≤◌, ◌<◌, ℕ, length, arith}
use Rattle.std.proofs.lemmas.Option.{slice_get_within}
use Rattle.ix_model.specs.declared.rules.Sym.{Sym}
use Rattle.ix_model.specs.declared.rules.Sym.TheVariants as sy
use Rattle.ix_model.specs.declared.rules.Terminal.{Terminal}
use Rattle.ix_model.specs.declared.rules.Terminal.TheVariants as terminal
use Rattle.ix_model.specs.Expansion.Parts.{Parts}
use Rattle.ix_model.specs.Expansion.Planned.{IsPlanned, IsThere}
use Rattle.ix_model.specs.Expansion.Numbering.{slot}
use Rattle.ix_model.specs.Expansion.FlatDerives.{TerminalMatches}
use Rattle.ix_model.specs.Expansion.SlotPlaces.{HasNext}
use Rattle.ix_model.specs.Closure.Closed.{Called, start, by_edge, Desc, begun, arrived, Edge, waiting, End, ended, Part, empty, scanned, inserted, joined}
use Rattle.ix_model.proofs.SlotReaders.{next_sym}

module _ (plan : Parts) (planned : IsPlanned plan) where
  -- what stands behind a dot is there
  next_there : (s after : ℕ) (x : Sym) → HasNext plan s after x → IsThere plan.rules x
  next_there s after x h = planned.symbols h.0 h.1 h.2 x (next_sym plan s after x h)

  after_there : (s after : ℕ) (x : Sym) → HasNext plan s after x → after < length plan.slots
  after_there s after x h = slice_get_within plan.slots after (slot h.0 h.1 (h.2 + 1)) h.5

  matched_within : (t : Terminal) (i j : ℕ) → TerminalMatches plan.text t i j → (i ≤ j) × (j ≤ length plan.text)
  matched_within (terminal.Lit cs) i j h = (omega (arith, h.0), h.1)
  matched_within (terminal.Set rs) i j h = (omega (arith, h.2.0), h.2.1)

  mutual
    pub called_within : (q p : ℕ) → Called plan q p → (q < length plan.rules.flats) × (p ≤ length plan.text)
    called_within q p start = (omega (arith, planned.first_named, planned.names_within), omega arith)
    called_within q p (by_edge rule at slot left e) = let h = edge_within rule at slot left e in (h.0, h.3)

    pub edge_within : (q p s l : ℕ) → Edge plan q p s l → (q < length plan.rules.flats) × (s < length plan.slots) × (l ≤ p) × (p ≤ length plan.text)
    edge_within q p s l (waiting slot left at after rule mark d h) =
        let i = desc_within slot left at d in
        (next_there slot after (sy.Rule rule mark) h, i.0, i.1, i.2)

    pub desc_within : (s l p : ℕ) → Desc plan s l p → (s < length plan.slots) × (l ≤ p) × (p ≤ length plan.text)
    desc_within s l p (begun rule at n c f) = (slice_get_within plan.slots n (slot rule f.0 0) f.2, omega arith, (called_within rule at c).1)
    desc_within s l p (arrived slot left pivot right h) = let t = part_within slot left pivot right h in (t.0, omega (arith, t.1, t.2), t.3)

    pub end_within : (q l e : ℕ) → End plan q l e → (q < length plan.rules.flats) × (l ≤ e) × (e ≤ length plan.text)
    end_within q l e (ended slot left right rule d h) =
        let i = desc_within slot left right d in
        (slice_get_within plan.rules.flats rule h.3.0 h.3.2, i.1, i.2)

    pub part_within : (s l k r : ℕ) → Part plan s l k r → (s < length plan.slots) × (l ≤ k) × (k ≤ r) × (r ≤ length plan.text)
    part_within s l k r (empty rule at n c f g) = (slice_get_within plan.slots n (slot rule f.0 0) f.2, omega arith, omega arith, (called_within rule at c).1)
    part_within s l k r (scanned slot left pivot after right x d h t) =
        let m = matched_within t.2 pivot right t.5 in
        (after_there slot after x h, (desc_within slot left pivot d).1, m.0, m.1)
    part_within s l k r (inserted slot left pivot after n d h) =
        let i = desc_within slot left pivot d in
        (after_there slot after (sy.Insert n) h, i.1, omega arith, i.2)
    part_within s l k r (joined rule pivot slot left right after mark e f h) =
        let i = edge_within rule pivot slot left e in
        let j = end_within rule pivot right f in
        (after_there slot after (sy.Rule rule mark) h, i.2, j.1, j.2)
