-- The useful subtrees of the small plans of the worked examples, and their derivations.
use Rattle.std.proofs.Common.{rules, ◌≡◌, refl, ap, sym, subst, ◌∙◌, ◌⊎◌, ℕ, zero, suc, [], ◌∷◌, take, drop, length, true, Some, None, codes, arith, slice_get}
use mathlib.Core.Logic.{inl, inr}
use Rattle.ix_model.specs.declared.rules.Sym.{Sym}
use Rattle.ix_model.specs.declared.rules.Terminal.{Terminal}
use Rattle.ix_model.specs.Expansion.Parts.{Parts}
use Rattle.ix_model.specs.Expansion.Numbered.{syms_at}
use Rattle.ix_model.specs.Expansion.FlatTrees.{flat_text, flat_node}
use Rattle.ix_model.specs.Expansion.FlatDerives.{FlatDerives, IsFlatDerivation, IsLine, IsTerminal, TerminalMatches}
use Rattle.ix_model.specs.Expansion.SlotPlaces.{HasNext, IsLastSlot}
use Rattle.ix_model.specs.Closure.Closed.{start, begun, Part, scanned}
use Rattle.ix_model.specs.Closure.Useful.{sub_at, Useful}
use Rattle.ix_closure_laws.specs.Reached.{SubReached, as_last, as_prefix}
use Rattle.ix_closure_laws.specs.TwoWays.{HasTwoAlternatives, HasTwoPivots, HasTwoWays, FlatAmbiguous}
use Rattle.ix_closure_laws.specs.UsefulLaws.{HasFlatDerivation, HasUseful}
use Rattle.ix_examples.specs.SmallPlans.{call, literal, alone, a_by, ab_tree, in_first, in_second, only_a, cycle, two_beginnings, two_alternatives, two_halves}
use Rattle.ix_model.proofs.SlotPlaces.{next_at, next_not_last}
use Rattle.ix_examples.proofs.SmallTexts.{first}
use Rattle.ix_closure_laws.proofs.ClosedTrees.{part_split}
use Rattle.ix_closure_laws.proofs.Reaching.{reached_part}
use Rattle.ix_closure_laws.proofs.Frames.{tree_end, useful_tree}
use Rattle.ix_closure_laws.proofs.TwoTrees.{ambiguous_ways}
use Rattle.ix_examples.proofs.SmallPlans.{planned_a, planned_b, planned_beginnings, planned_alternatives, literal_stands, literal_derived}
use Rattle.ix_worked_examples.proofs.PlanFacts.{IsLiteral, useful_part, match_one, one_pivot}
use Rattle.ix_examples.proofs.SmallClosures.{on_a, last_a, no_end_b}

-- ---- S: "a"; "a", "b".

abbrev beginnings : Parts
beginnings = two_beginnings (codes "a")

pub useful_beginning : Useful beginnings (sub_at 1 0 0 1)
useful_beginning = (a_by 0, (None, refl, _, (_, _, refl, refl, refl), refl, (0, _, refl, refl, (refl, refl, (0, true, _, refl, refl, (refl, omega arith, refl))))), inr (inl (1, refl, refl)))

pub useful_ab : Useful (two_beginnings (codes "ab")) (sub_at 3 0 0 1)
useful_ab = (
  ab_tree,
  (None, refl, _, (_, _, refl, refl, refl), refl, (1, _, (0, _, refl, refl, (refl, refl, (0, true, _, refl, refl, (refl, omega arith, refl)))), refl, (refl, refl, (1, true, _, refl, refl, (refl, omega arith, refl))))),
  inr (inr (inr (inl (3, refl, refl)))),
)

pub part_3 : Part beginnings 3 0 0 1
part_3 = scanned 2 0 0 3 1 (literal 0) (begun 0 0 2 start (1, _, refl, (_, _, refl, refl, refl))) (0, 1, 0, _, refl, refl, (_, _, refl, refl, refl), refl) (0, true, _, refl, refl, (refl, omega arith, refl))

line_1 : IsLine beginnings 0 1 (literal 0 ∷ literal 1 ∷ [])
line_1 = (_, _, refl, refl, refl)

no_b_there : (i : ℕ) → take 1 (drop i (codes "a")) ≡ codes "b" → ⊥
no_b_there zero e = omega (arith, ap first e)
no_b_there (suc zero) e = omega (arith, ap length e)
no_b_there (suc (suc i)) e = omega (arith, ap length e)

-- the second alternative does not come to its end
no_b : (after l k r : ℕ) (x : Sym) → HasNext beginnings 3 after x → Part beginnings after l k r → ⊥
no_b after l k r x n part =
    let t = part_split beginnings 3 after l k r 0 1 1 (literal 0 ∷ literal 1 ∷ []) x part n refl line_1 in
    let y : x ≡ literal 1 = cc (next_at beginnings 3 after 0 1 1 (literal 0 ∷ literal 1 ∷ []) x n refl line_1).1 in
    let s = literal_stands beginnings 1 k r (codes "b") refl (literal_derived beginnings t.1 1 k r (subst (λ (z : Sym). FlatDerives beginnings t.1 z k r) y t.4)) in
    no_b_there k s.2

pub not_reached : (s l k r : ℕ) → s ≡ 3 → SubReached beginnings s l k r → ⊥
not_reached s l k r e (as_last rule slot left pivot right w n part) =
    next_not_last beginnings 3 4 rule (literal 1) (0, 1, 1, _, refl, refl, line_1, refl) (subst (λ (z : ℕ). IsLastSlot beginnings z rule) e n)
not_reached s l k r e (as_prefix slot after left first pivot right x h n part) =
    no_b after left pivot right x (subst (λ (z : ℕ). HasNext beginnings z after x) e n) (reached_part beginnings planned_beginnings after left pivot right h)

last_beginning : (s q : ℕ) → IsLastSlot beginnings s q → (s ≡ 1) ⊎ (s ≡ 4)
last_beginning zero q h = absurd (next_not_last beginnings 0 1 q (literal 0) (0, 0, 0, _, refl, refl, (_, _, refl, refl, refl), refl) h)
last_beginning (suc zero) q h = inl refl
last_beginning (suc (suc zero)) q h = absurd (next_not_last beginnings 2 3 q (literal 0) (0, 1, 0, _, refl, refl, line_1, refl) h)
last_beginning (suc (suc (suc zero))) q h = absurd (next_not_last beginnings 3 4 q (literal 1) (0, 1, 1, _, refl, refl, line_1, refl) h)
last_beginning (suc (suc (suc (suc zero)))) q h = inr refl
last_beginning (suc (suc (suc (suc (suc s))))) q h = absurd (cc h.2)

match_beginnings : (x : Sym) (i j : ℕ) → IsTerminal beginnings x i j → i ≡ 0
match_beginnings x i j h = go h.0 h.2 h.4 h.5
  where
    go : (n : ℕ) (term : Terminal) → slice_get beginnings.rules.terminals n ≡ Some term → TerminalMatches beginnings.text term i j → i ≡ 0
    go zero term at m = match_one beginnings refl term (codes "a") i j refl (cc at) m
    go (suc zero) term at m = match_one beginnings refl term (codes "b") i j refl (cc at) m
    go (suc (suc n)) term at m = absurd (cc at)

literal_beginnings : (r a n : ℕ) (x : Sym) → slice_get (syms_at beginnings.rules r a) n ≡ Some x → IsLiteral beginnings x
literal_beginnings = search rules

pub one_whole : HasTwoWays beginnings → ⊥
one_whole (inr h) = one_pivot beginnings planned_beginnings literal_beginnings match_beginnings h
one_whole (inl (q, l, r, s, t, k, m, differ, last_s, last_t, u, v)) = go (last_beginning s q last_s) (last_beginning t q last_t)
  where
    no_fourth : (s k : ℕ) → s ≡ 4 → Useful beginnings (sub_at s l k r) → ⊥
    no_fourth s k e u = no_b s l k r (literal 1) (0, 1, 1, _, refl, ap (slice_get beginnings.slots) e, line_1, refl) (useful_part beginnings planned_beginnings s l k r u)

    go : (s ≡ 1) ⊎ (s ≡ 4) → (t ≡ 1) ⊎ (t ≡ 4) → ⊥
    go (inl e) (inl f) = differ (e ∙ sym f)
    go (inl e) (inr f) = no_fourth t m f v
    go (inr e) f = no_fourth s k e u

-- ---- the root of S: "a".

pub derived_a : IsFlatDerivation on_a (a_by 0)
derived_a = (None, refl, _, (_, _, refl, refl, refl), refl, (0, _, refl, refl, (refl, refl, (0, true, _, refl, refl, (refl, omega arith, refl)))))

pub not_derived_b : HasFlatDerivation (only_a (codes "b")) → ⊥
not_derived_b h = no_end_b 0 0 1 (tree_end (only_a (codes "b")) planned_b h)

pub none_useful_b : HasUseful (only_a (codes "b")) → ⊥
none_useful_b h = not_derived_b (useful_tree (only_a (codes "b")) planned_b h)

match_a : (x : Sym) (i j : ℕ) → IsTerminal on_a x i j → i ≡ 0
match_a x i j h = go h.0 h.2 h.4 h.5
  where
    go : (n : ℕ) (term : Terminal) → slice_get on_a.rules.terminals n ≡ Some term → TerminalMatches on_a.text term i j → i ≡ 0
    go zero term at m = match_one on_a refl term (codes "a") i j refl (cc at) m
    go (suc n) term at m = absurd (cc at)

literal_a : (r a n : ℕ) (x : Sym) → slice_get (syms_at on_a.rules r a) n ≡ Some x → IsLiteral on_a x
literal_a = search rules

pub one_way : HasTwoWays on_a → ⊥
one_way (inl h) = h.7 ((last_a (codes "a") h.3 h.0 h.8).0 ∙ sym (last_a (codes "a") h.4 h.0 h.9).0)
one_way (inr h) = one_pivot on_a planned_a literal_a match_a h

pub one_tree : FlatAmbiguous on_a → ⊥
one_tree h = one_way (ambiguous_ways on_a planned_a h)

-- ---- S: "a"; "a".

abbrev alternatives : Parts
alternatives = two_alternatives (codes "a")

match_alternatives : (x : Sym) (i j : ℕ) → IsTerminal alternatives x i j → i ≡ 0
match_alternatives x i j h = go h.0 h.2 h.4 h.5
  where
    go : (n : ℕ) (term : Terminal) → slice_get alternatives.rules.terminals n ≡ Some term → TerminalMatches alternatives.text term i j → i ≡ 0
    go zero term at m = match_one alternatives refl term (codes "a") i j refl (cc at) m
    go (suc n) term at m = absurd (cc at)

literal_alternatives : (r a n : ℕ) (x : Sym) → slice_get (syms_at alternatives.rules r a) n ≡ Some x → IsLiteral alternatives x
literal_alternatives = search rules

pub no_pivots : HasTwoPivots alternatives → ⊥
no_pivots h = one_pivot alternatives planned_alternatives literal_alternatives match_alternatives h

pub by_first : IsFlatDerivation alternatives (a_by 0)
by_first = (None, refl, _, (_, _, refl, refl, refl), refl, (0, _, refl, refl, (refl, refl, (0, true, _, refl, refl, (refl, omega arith, refl)))))

pub by_second : IsFlatDerivation alternatives (a_by 1)
by_second = (None, refl, _, (_, _, refl, refl, refl), refl, (0, _, refl, refl, (refl, refl, (0, true, _, refl, refl, (refl, omega arith, refl)))))

-- ---- two ways

pub of_alternatives : HasTwoAlternatives alternatives
of_alternatives = (
  0,
  0,
  1,
  1,
  3,
  0,
  0,
  (λ e. omega (arith, e)),
  (0, _, refl, (_, _, refl, refl, refl)),
  (1, _, refl, (_, _, refl, refl, refl)),
  (a_by 0, by_first, inr (inl (1, refl, refl))),
  (a_by 1, by_second, inr (inl (3, refl, refl))),
)

once : IsFlatDerivation (cycle (codes "a")) (a_by 1)
once = (None, refl, _, (_, _, refl, refl, refl), refl, (0, _, refl, refl, (refl, refl, (0, true, _, refl, refl, (refl, omega arith, refl)))))

around : IsFlatDerivation (cycle (codes "a")) (flat_node 0 0 (alone (a_by 1)))
around = (None, refl, _, (_, _, refl, refl, refl), refl, (0, _, refl, refl, once))

pub of_cycle : HasTwoAlternatives (cycle (codes "a"))
of_cycle = (
  0,
  0,
  1,
  1,
  3,
  0,
  0,
  (λ e. omega (arith, e)),
  (0, _, refl, (_, _, refl, refl, refl)),
  (1, _, refl, (_, _, refl, refl, refl)),
  (flat_node 0 0 (alone (a_by 1)), around, inr (inl (1, refl, refl))),
  (a_by 1, once, inr (inl (3, refl, refl))),
)

-- ---- S: A, A. A: "a"; .

abbrev halves : Parts
halves = two_halves (codes "a")

half : FlatDerives halves (flat_node 1 0 (alone (flat_text 0 1))) (call 1) 0 1
half = (None, refl, _, (_, _, refl, refl, refl), refl, (0, _, refl, refl, (refl, refl, (0, true, _, refl, refl, (refl, omega arith, refl)))))

first_derives : IsFlatDerivation halves in_first
first_derives = (None, refl, _, (_, _, refl, refl, refl), refl, (1, _, (0, _, refl, refl, half), refl, (None, refl, _, (_, _, refl, refl, refl), refl, refl)))

second_derives : IsFlatDerivation halves in_second
second_derives = (None, refl, _, (_, _, refl, refl, refl), refl, (0, _, (0, _, refl, refl, (None, refl, _, (_, _, refl, refl, refl), refl, refl)), refl, half))

pub useful_early : Useful halves (sub_at 2 0 0 1)
useful_early = (in_second, second_derives, inr (inl (2, refl, refl)))

pub useful_late : Useful halves (sub_at 2 0 1 1)
useful_late = (in_first, first_derives, inr (inl (2, refl, refl)))

pub useful_half : Useful halves (sub_at 1 0 0 1)
useful_half = (in_first, first_derives, inr (inr (inr (inl (1, refl, refl)))))

pub useful_empty : Useful halves (sub_at 5 1 1 1)
useful_empty = (in_first, first_derives, inr (inr (inl (inl (refl, (5, refl, refl))))))

pub next_half : HasNext halves 1 2 (call 1)
next_half = (0, 0, 1, _, refl, refl, (_, _, refl, refl, refl), refl)

pub of_pivots : HasTwoPivots halves
of_pivots = (2, 0, 1, 0, 1, (λ e. omega (arith, e)), useful_early, useful_late)
