use Rattle.std.proofs.Common.{◌≡◌, ◌≤◌, refl, sym, ap, ◌∙◌, length, arith}
use mathlib.Core.Logic.{inl, inr}
use Rattle.ix_cli.proofs.laws.answers_that_are_delivered.Goals as goal

pub returns-clause-whole : goal.returns-clause-whole
returns-clause-whole c v e = inl (refl, (λ bytes h. sym e ∙ h), refl)

pub returns-clause-line : goal.returns-clause-line
returns-clause-line c = (refl, inl (refl, λ n. refl), λ e. absurd (omega (arith, e)))

not_risen : 1 ≤ 0 → ⊥
not_risen l = omega (arith, l)

pub returns-clause-other_line : goal.returns-clause-other_line
returns-clause-other_line c (e, inl (f, says), read) = let l : 19 ≡ 20 = ap length (says not_risen) in omega (arith, l)
returns-clause-other_line c (e, inr (f, says), read) = let l : 19 ≡ 20 = ap length (says not_risen) in omega (arith, l)

pub returns-clause-other_status : goal.returns-clause-other_status
returns-clause-other_status c (e, inl (f, says), read) = omega (arith, f)
returns-clause-other_status c (e, inr (f, says), read) = omega (arith, f)

pub returns-clause-not_written : goal.returns-clause-not_written
returns-clause-not_written c (e, says, read) = absurd (cc e)

pub returns-clause-no_file : goal.returns-clause-no_file
returns-clause-no_file c (e, inl (f, says), read) = omega (arith, f)
returns-clause-no_file c (e, inr (f, says), read) = omega (arith, f)
