-- Each plan has figures: its descriptors and subtrees have slots of the plan and positions in the text.
use Rattle.std.proofs.Common.{ℕ, ◌+◌, List, length, arith}
use Rattle.ix_model.specs.declared.counts.Counts.{Counts}
use Rattle.ix_model.specs.declared.sub.Sub.{Sub}
use Rattle.ix_model.specs.Closure.Closed.{Desc}
use Rattle.ix_model.specs.Closure.Figures.{Dot, AreCounts}
use Rattle.ix_model.specs.Closure.Useful.{sub_at, Useful}
use Rattle.ix_model.specs.Expansion.Parts.{Parts}
use Rattle.ix_model.specs.Expansion.Planned.{IsPlanned}
use Rattle.ix_closure_laws.proofs.ClosedWithin.{desc_within, part_within}
use Rattle.ix_closure_laws.proofs.Reaching.{reached_part, useful_reached}
use Rattle.ix_figure_laws.proofs.CountsThere.{count_is_there}
use Rattle.ix_figure_laws.proofs.Places.{IsIn, below, in_below, pairs, in_pairs}

module _ (plan : Parts) (planned : IsPlanned plan) where
  slots : List ℕ
  slots = below (length plan.slots)

  positions : List ℕ
  positions = below (length plan.text + 1)

  abbrev both : ℕ → ℕ → ℕ × ℕ
  both m n = (m, n)

  abbrev dot : ℕ → ℕ × ℕ → Dot
  dot s span = record { slot = s; left = span.0; pos = span.1 }

  abbrev sub_of : ℕ × ℕ → ℕ × ℕ → Sub
  sub_of head tail = sub_at head.0 head.1 tail.0 tail.1

  all_dots : List Dot
  all_dots = pairs dot slots (pairs both positions positions)

  all_subs : List Sub
  all_subs = pairs sub_of (pairs both slots positions) (pairs both positions positions)

  in_dots : (d : Dot) → Desc plan d.slot d.left d.pos → IsIn all_dots d
  unfolding all_dots slots positions
  in_dots d h =
      let w = desc_within plan planned d.slot d.left d.pos h in
      in_pairs dot slots (pairs both positions positions) d.slot (d.left, d.pos) (in_below _ d.slot w.0) (in_pairs both positions positions d.left d.pos (in_below _ d.left (omega (arith, w.1, w.2))) (in_below _ d.pos (omega (arith, w.2))))

  in_subs : (sub : Sub) → Useful plan sub → IsIn all_subs sub
  unfolding all_subs slots positions
  in_subs sub h =
      let w = part_within plan planned sub.slot sub.left sub.pivot sub.right (reached_part plan planned sub.slot sub.left sub.pivot sub.right (useful_reached plan planned sub h)) in
      in_pairs sub_of (pairs both slots positions) (pairs both positions positions) (sub.slot, sub.left) (sub.pivot, sub.right)
      (in_pairs both slots positions sub.slot sub.left (in_below _ sub.slot w.0) (in_below _ sub.left (omega (arith, w.1, w.2, w.3))))
      (in_pairs both positions positions sub.pivot sub.right (in_below _ sub.pivot (omega (arith, w.2, w.3))) (in_below _ sub.right (omega (arith, w.3))))

  pub figures_are_there : ((counts : Counts) → AreCounts plan counts → ⊥) → ⊥
  figures_are_there k =
      count_is_there (λ (d : Dot). Desc plan d.slot d.left d.pos) all_dots in_dots
      (λ m. count_is_there (Useful plan) all_subs in_subs (λ n. k (record { descriptors = m.0; subtrees = n.0 }) (record { descriptors = m.1; subtrees = n.1 })))
