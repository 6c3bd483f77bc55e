use Rattle.std.proofs.Common.{◌≡◌, refl, ap, length, arith}
use mathlib.Core.Logic.{inl, inr}
use Rattle.ix_engine.specs.declared.outcome.DynFault.TheVariants as code
use Rattle.ix_engine.specs.declared.outcome.ParseFault.{ParseFault}
use Rattle.ix_engine.specs.declared.outcome.ParseFault.TheVariants as fault
use Rattle.ix_engine.specs.declared.refusal.Refusal.{Refusal}
use Rattle.ix_engine.specs.declared.refusal.Refusal.TheVariants as refusal
use Rattle.ix_cli.specs.declared.answer.Answer.{Answer}
use Rattle.ix_cli.specs.declared.answer.Answer.TheVariants as answer
use Rattle.ix_cli.specs.Lines.{line_of, status_of, refusal_status, fault_status}
use Rattle.ix_cli.proofs.Statuses.{told_status}
use Rattle.ix_cli.proofs.laws.messages_of_a_status.Goals as goal

pub returns-clause-silent : goal.returns-clause-silent
returns-clause-silent c = inl (inl refl, refl)

pub returns-clause-silent_at_failure : goal.returns-clause-silent_at_failure
returns-clause-silent_at_failure c = inl (inr refl, refl)

pub returns-clause-no_document : goal.returns-clause-no_document
returns-clause-no_document c = inr (answer.Text (fault.Dynamic code.Xmlns), refl, refl)

pub returns-clause-too_long : goal.returns-clause-too_long
returns-clause-too_long c = inr (answer.Text fault.TooLong, refl, refl)

pub returns-clause-not_at_success : goal.returns-clause-not_at_success
returns-clause-not_at_success c (inl h) = absurd (cc h.1)
returns-clause-not_at_success c (inr (a, e, said)) = omega (arith, told_status a, e)

pub returns-clause-not_at_failure : goal.returns-clause-not_at_failure
returns-clause-not_at_failure c (inl h) = absurd (cc h.1)
returns-clause-not_at_failure c (inr (a, e, said)) = omega (arith, told_status a, e)

-- only a text that is too long has status 6
refusal_is_none : (r : Refusal) → 6 ≡ refusal_status r → ⊥
refusal_is_none refusal.Memory e = omega (arith, e)
refusal_is_none r e = omega (arith, e)

fault_is_long : (f : ParseFault) → 6 ≡ fault_status f → f ≡ fault.TooLong
fault_is_long fault.TooLong e = refl
fault_is_long f e = absurd (omega (arith, e))

is_long : (a : Answer) → 6 ≡ status_of a → a ≡ answer.Text fault.TooLong
is_long (answer.Text f) e = ap answer.Text (fault_is_long f e)
is_long (answer.Grammar r) e = absurd (refusal_is_none r e)
is_long a e = absurd (omega (arith, e))

long_is_said : (a : Answer) → 6 ≡ status_of a → length (line_of a) ≡ 38
long_is_said a e = ap (λ x. length (line_of x)) (is_long a e)

pub returns-clause-another : goal.returns-clause-another
returns-clause-another c (inl h) = absurd (cc h.1)
returns-clause-another c (inr (a, e, said)) = let f : length (line_of a) ≡ 19 = ap length said in omega (arith, f, long_is_said a e)

pub returns-clause-not_silent : goal.returns-clause-not_silent
returns-clause-not_silent c (inl (inl e, h)) = omega (arith, e)
returns-clause-not_silent c (inl (inr e, h)) = omega (arith, e)
returns-clause-not_silent c (inr (a, e, said)) = let f : length (line_of a) ≡ 0 = ap length said in omega (arith, f, long_is_said a e)
