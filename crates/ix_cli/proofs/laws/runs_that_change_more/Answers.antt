use Rattle.std.proofs.Common.{◌≡◌, ◌≤◌, ap, Some, [], length, codes, arith}
use mathlib.Core.Logic.{inl, inr}
use Rattle.ix_edge.specs.Told.{Told}
use Rattle.ix_cli.specs.Answered.{IsMessage}
use Rattle.ix_cli.specs.Lines.{write_line}
use Rattle.ix_cli.specs.Says.{Says}
use Rattle.ix_cli.proofs.Options.{some_is}
use Rattle.ix_cli.proofs.Statuses.{told_status}
use Rattle.ix_cli.proofs.laws.runs_that_change_more.Goals as goal

pub returns-clause-written : goal.returns-clause-written
returns-clause-written c h = absurd (cc (h.nothing (λ e. omega (arith, e)) (λ e. omega (arith, e)) (λ e. omega (arith, e))))

not_risen : 1 ≤ 0 → ⊥
not_risen l = omega (arith, l)

pub returns-clause-said : goal.returns-clause-said
returns-clause-said c h = by_message h.message
  where
    by_message : IsMessage 0 (Says (Some []) (Some write_line) 0 0) → ⊥
    by_message (inl (e, says)) = absurd (cc (says not_risen))
    by_message (inr (a, e, says)) = omega (arith, e, told_status a)

pub returns-clause-other_files : goal.returns-clause-other_files
returns-clause-other_files c h = let f : 1 ≡ 2 = ap (λ (files : Told). length files.entries) (some_is h.same) in omega (arith, f)

pub returns-clause-lower_count : goal.returns-clause-lower_count
returns-clause-lower_count c h = let l : 1 ≤ 0 = h.later (codes "g") in omega (arith, l)
