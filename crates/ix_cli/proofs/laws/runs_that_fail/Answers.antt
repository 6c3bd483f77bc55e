use Rattle.std.proofs.Common.{◌≤◌, refl, sym, ap, ◌∙◌, arith}
use Rattle.ix_model.specs.Answers.Outcome.{status_of}
use Rattle.ix_cli.proofs.SmallReplies.{the_document}
use Rattle.ix_cli.proofs.laws.runs_that_fail.Goals as goal

not_risen : 1 ≤ 0 → ⊥
not_risen l = omega (arith, l)

pub returns-clause-not_read : goal.returns-clause-not_read
returns-clause-not_read c h = let unread = (h.read refl).1 in not_risen unread.2

pub returns-clause-not_told : goal.returns-clause-not_told
returns-clause-not_told c h = absurd (cc ((h.read refl).2 not_risen))

pub returns-clause-not_complete : goal.returns-clause-not_complete
returns-clause-not_complete c h =
    let a = h.complete (λ name named rose. not_risen rose) not_risen (λ e. omega (arith, e)) in
    omega (arith, a.2 ∙ sym (ap status_of (the_document a.0 a.1)))

pub returns-clause-not_risen : goal.returns-clause-not_risen
returns-clause-not_risen c h = not_risen (h.write refl)
