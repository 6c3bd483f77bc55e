use Rattle.std.proofs.Common.{rules, ◌≡◌, ℕ, suc, ◌+◌, ◌∙◌, ◌∷◌, [], ◌++◌, map, take, set, get_or, false, sym, ap, subst, arith, Some, get_or-set_other, get_or-set_same}
use Rattle.std.specs.Option.{IsSome}
use mathlib.Core.Logic.{dite}
use mathlib.Core.Option.{some-injective}
use native.Mathlib.Decide.{ℕ_discrete}
use lib.ListN.{get_elem?}
use Rattle.std.specs.Slots.{slots_items, slots_filled, slots_counts}
use Rattle.ix_rows.proofs.Empties.{take_next, map_push}
use Rattle.ix_rows.proofs.slots.emptied.Goals as goal

pub unwrap-value-requires : goal.unwrap-value-requires
unwrap-value-requires g c = let i = c.loop-place.invariant in let n = slots_counts c.args.closed.slots in let e = c.slot_count-place-end.ensures in let t = c.loop-place-test.true in
    let x = c.requires.full.2 c.loop-place.place (omega arith) in
    subst IsSome (some-injective (Some x.0) c.take.result (sym x.1 ∙ ap (λ l. get_elem? l c.loop-place.place) (sym i.0) ∙ c.take.ensures.value)) (search rules)

pub loop-place-preserved : goal.loop-place-preserved
loop-place-preserved g c = let i = c.loop-place.invariant in let o = c.take.ensures.others in let p : ℕ = c.loop-place.place in
    let n = slots_counts c.loop-place.closed.slots in let e = c.slot_count-place-end.ensures in let t = c.loop-place-test.true in
    let fs = slots_filled c.loop-place.closed.slots in (
      o.0 ∙ i.0,
      o.2 ∙ i.1,
      o.3 ∙ i.2,
      (λ k a b. ap (λ l. get_or l k false) o.1 ∙ get_or-set_other fs p k false false (λ e. omega arith) ∙ i.3 k (omega arith) b),
      (λ k a. ap (λ l. get_or l k false) o.1 ∙ dite (ℕ_discrete k p) (λ e. ap (λ z. get_or (set fs p false) z false) e ∙ get_or-set_same fs p false false (let q = n.1 in let r = i.1 in omega arith))
          (λ e. get_or-set_other fs p k false false e ∙ i.4 k (omega arith))),
      (ap (map (λ x. Some x)) c.push_reserved.ensures.items ∙ map_push (λ x. Some x) c.loop-place.values.items c.unwrap-value.result ∙ (λ k. i.5 k ++ sym c.unwrap-value.ensures k ∷ [])
          ∙ sym (take_next (slots_items c.args.closed.slots) p c.take.result (ap (λ l. get_elem? l p) (sym i.0) ∙ c.take.ensures.value)) ∙ (let more : suc p ≡ p + 1 = omega arith in ap (λ (z : ℕ). take z (slots_items c.args.closed.slots)) more)),
      search rules,
      search rules,
    )
