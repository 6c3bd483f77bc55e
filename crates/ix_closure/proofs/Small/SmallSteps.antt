-- What the first descriptors of the small plans of the worked examples bring.
use Rattle.std.proofs.Common.{rules, ℕ, true, [], ◌∷◌, codes, ap, refl, arith}
use Rattle.ix_model.specs.Closure.Useful.{sub_at}
use Rattle.ix_model.specs.declared.rules.Sym.TheVariants as sy
use Rattle.ix_model.specs.Expansion.Planned.{IsPlanned}
use Rattle.ix_model.specs.Expansion.FlatDerives.{IsTerminal}
use Rattle.ix_model.specs.Expansion.SlotPlaces.{HasNext, IsFirstSlot, IsLastSlot}
use Rattle.ix_examples.specs.SmallPlans.{call, literal, cycle, insertion, nothing, only_a}
use Rattle.ix_examples.proofs.SmallPlans.{literal_stands}
use Rattle.ix_examples.proofs.SmallTexts.{first}
use Rattle.ix_closure.specs.declared.owed.Owed.TheVariants.{Edge, End, Arrive}
use Rattle.ix_closure.specs.Follows.{FollowsDesc, passes, stops, inserts, calls, ends}

-- ---- S: "a".

pub next_0_a : HasNext (only_a (codes "a")) 0 1 (literal 0)
next_0_a = (0, 0, 0, _, refl, refl, (_, _, refl, refl, refl), refl)

pub a_stands : IsTerminal (only_a (codes "a")) (literal 0) 0 1
a_stands = (0, true, _, refl, refl, (refl, omega arith, refl))

pub a_passes : FollowsDesc (only_a (codes "a")) 0 0 0 (Arrive (sub_at 1 0 0 1) ∷ [])
a_passes = passes (literal 0) 1 1 next_0_a a_stands

-- on `b`
pub b_stops : FollowsDesc (only_a (codes "b")) 0 0 0 []
b_stops = stops 0 true 1 (0, 0, 0, _, refl, refl, (_, _, refl, refl, refl), refl) none
  where
    none : (e : ℕ) → IsTerminal (only_a (codes "b")) (literal 0) 0 e → ⊥
    none e h = omega (arith, ap first (literal_stands (only_a (codes "b")) 0 0 e (codes "a") refl h).2)

-- ---- S: +"x".

pub next_0_x : HasNext (insertion (codes "x")) 0 1 (sy.Insert 0)
next_0_x = (0, 0, 0, _, refl, refl, (_, _, refl, refl, refl), refl)

pub insertion_passes : FollowsDesc (insertion (codes "x")) 0 0 0 (Arrive (sub_at 1 0 0 0) ∷ [])
insertion_passes = inserts 0 1 next_0_x

-- ---- S: S; "a".

pub next_0_c : HasNext (cycle []) 0 1 (call 0)
next_0_c = (0, 0, 0, _, refl, refl, (_, _, refl, refl, refl), refl)

pub cycle_calls : FollowsDesc (cycle []) 0 0 0 (Edge 0 0 0 0 ∷ [])
cycle_calls = calls 0 1 _ next_0_c

pub cycle_stops : FollowsDesc (cycle []) 2 0 0 []
cycle_stops = stops 0 true 3 (0, 1, 0, _, refl, refl, (_, _, refl, refl, refl), refl) none
  where
    none : (e : ℕ) → IsTerminal (cycle []) (literal 0) 0 e → ⊥
    none e h = let s = literal_stands (cycle []) 0 0 e (codes "a") refl h in omega (arith, s.0, s.1)

-- ---- S: .

pub nothing_planned : IsPlanned (nothing [])
nothing_planned = search rules

pub nothing_first : IsFirstSlot (nothing []) 0 0
nothing_first = (0, _, refl, (_, _, refl, refl, refl))

pub nothing_last : IsLastSlot (nothing []) 0 0
nothing_last = (0, _, refl, (_, _, refl, refl, refl))

pub nothing_ends : FollowsDesc (nothing []) 0 0 0 (End 0 0 0 ∷ [])
nothing_ends = ends 0 nothing_last
