use Rattle.std.proofs.Common.{◌≡◌, ap, refl, sym, ◌∙◌, codes, length, arith}
use Rattle.std.specs.Str.{chars}
use lib.Utf8.{encode}
use Rattle.ix_model.specs.declared.counts.Counts.{Counts}
use Rattle.ix_model.specs.Derivations.Trees.{Tree}
use Rattle.ix_model.specs.Documents.Gives.{Givens, gives_root}
use Rattle.ix_examples.specs.SmallGivens.{text_of, document}
use Rattle.ix_examples.specs.SmallGrammars as grammars
use Rattle.ix_examples.specs.SmallPlans.{only_a}
use Rattle.ix_examples.proofs.SmallPlans.{planned_a, planned_b}
use Rattle.ix_examples.proofs.SmallTexts.{first, one_a}
use Rattle.ix_marks.specs.Pieces.{pieces}
use Rattle.ix_offset_laws.proofs.FurthestOffset.{offset_of, furthest_of, furthest_is_one}
use Rattle.ix_offset_laws.proofs.SmallDots.{furthest_of_b}
use Rattle.ix_worked_examples.proofs.SmallAnswers.{a_parsed}
use Rattle.ix_worked_examples.proofs.SmallRules.{plan_of_a}
use Rattle.ix_engine.specs.Examples.{a_counts, b_counts}
use Rattle.ix_figure_laws.proofs.CountsOnce.{counts_are_one}
use Rattle.ix_engine.proofs.SmallCounts.{counts_on_a, counts_on_b, plan_of_b}
use Rattle.ix_engine.proofs.laws.outcomes_of_one_literal.Goals as goal

pub returns-clause-tree : goal.returns-clause-tree
unfolding chars encode
returns-clause-tree c = (
  document (text_of (codes "a")),
  ((omega arith, (codes "a", (refl, refl))), a_parsed),
  record { items = refl; top = refl },
  record { items_in = ((omega arith, omega arith, omega arith), ((omega arith, omega arith), (omega arith, tt))); attrs_in = tt; top_in = tt; runs_fit = omega arith },
  record { plan_of = plan_of_a; planned = planned_a; text = refl; counts_of = counts_on_a },
)

pub returns-clause-ambiguous : goal.returns-clause-ambiguous
unfolding chars
returns-clause-ambiguous c = λ h. a_parsed.4 h.1.1.4

pub returns-clause-other_tree : goal.returns-clause-other_tree
unfolding chars
returns-clause-other_tree c = λ h.
    let tree : h.1.1.0 ≡ a_parsed.0 = (one_a (codes "a") h.1.1.0 h.1.1.1.0).0 ∙ sym (one_a (codes "a") a_parsed.0 a_parsed.1.0).0 in
    let same : h.0 ≡ document (text_of (codes "a")) = h.1.1.2 ∙ ap (λ (d : Tree). gives_root (codes "a") grammars.only_a d) tree ∙ sym a_parsed.2 in
    omega (arith, ap length h.2.items, ap (λ (gs : Givens). length (pieces gs)) same)

pub returns-clause-other_counts : goal.returns-clause-other_counts
returns-clause-other_counts c = λ h. omega (arith, ap (λ (z : Counts). z.subtrees) (counts_are_one (only_a (codes "a")) b_counts a_counts h.4.counts_of counts_on_a))

pub returns-clause-not_failed : goal.returns-clause-not_failed
unfolding chars
returns-clause-not_failed c = λ h. h.0.1.0 a_parsed.0 a_parsed.1.0

pub returns-clause-failed : goal.returns-clause-failed
unfolding chars encode
returns-clause-failed c = (
  ((omega arith, (codes "b", (refl, refl))), ((λ d h. absurd (omega (arith, ap first (one_a (codes "b") d h).1.2))), offset_of grammars.only_a (only_a (codes "b")) plan_of_b planned_b 0 furthest_of_b, refl, refl)),
  only_a (codes "b"),
  record { plan_of = plan_of_b; planned = planned_b; text = refl; counts_of = counts_on_b },
)

pub returns-clause-other_offset : goal.returns-clause-other_offset
unfolding chars
returns-clause-other_offset c = λ h. omega (arith, furthest_is_one (only_a (codes "b")) 1 0 (furthest_of grammars.only_a (only_a (codes "b")) plan_of_b planned_b 1 h.0.1.1) furthest_of_b)

pub returns-clause-other_column : goal.returns-clause-other_column
unfolding chars
returns-clause-other_column c = λ h. omega (arith, h.0.1.3)
