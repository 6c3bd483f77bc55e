-- What a status says of the answer.
use Rattle.std.proofs.Common.{◌≡◌, ◌≢◌, ◌≤◌, refl, ℕ, List, [], String, Global, string_bytes, arith}
use Rattle.ix_model.specs.Answers.Outcome as outcome
use Rattle.ix_engine.specs.declared.outcome.ParseFault.{ParseFault}
use Rattle.ix_engine.specs.declared.outcome.ParseFault.TheVariants as fault
use Rattle.ix_engine.specs.declared.refusal.Refusal.{Refusal}
use Rattle.ix_engine.specs.declared.refusal.Refusal.TheVariants as refusal
use Rattle.ix_engine.specs.Answers.{fault_outcome}
use Rattle.ix_engine.specs.Compiled.{outcome_of}
use Rattle.ix_cli.specs.declared.answer.Answer.{Answer}
use Rattle.ix_cli.specs.declared.answer.Answer.TheVariants as answer
use Rattle.ix_cli.specs.Lines.{line_of, status_of, read_line, refusal_line, refusal_status, fault_line, fault_status}

-- a refusal and a fault are told as their outcome is, which has no output
pub refusal_told : (r : Refusal) → r ≢ refusal.Memory → (refusal_status r ≡ outcome.status_of (outcome_of r)) × (refusal_line r ≡ outcome.message_of (outcome_of r)) × (outcome.output_of (outcome_of r) ≡ [])
refusal_told refusal.Memory n = absurd (n refl)
refusal_told r n = (refl, refl, refl)

pub fault_told : (f : ParseFault) → f ≢ fault.Memory → (fault_status f ≡ outcome.status_of (fault_outcome f)) × (fault_line f ≡ outcome.message_of (fault_outcome f)) × (outcome.output_of (fault_outcome f) ≡ [])
fault_told fault.Memory n = absurd (n refl)
fault_told f n = (refl, refl, refl)

-- neither has the status of a file that could not be read
refusal_not_read : (r : Refusal) → refusal_status r ≢ 7
refusal_not_read refusal.Memory e = omega (arith, e)
refusal_not_read r e = omega (arith, e)

fault_not_read : (f : ParseFault) → fault_status f ≢ 7
fault_not_read fault.Memory e = omega (arith, e)
fault_not_read f e = omega (arith, e)

-- nor that of words without a form
pub refusal_not_two : (r : Refusal) → refusal_status r ≢ 2
refusal_not_two refusal.Memory e = omega (arith, e)
refusal_not_two r e = omega (arith, e)

pub fault_not_two : (f : ParseFault) → fault_status f ≢ 2
fault_not_two fault.Memory e = omega (arith, e)
fault_not_two f e = omega (arith, e)

-- nor that of an output that could not be written
pub refusal_not_eight : (r : Refusal) → refusal_status r ≢ 8
refusal_not_eight refusal.Memory e = omega (arith, e)
refusal_not_eight r e = omega (arith, e)

pub fault_not_eight : (f : ParseFault) → fault_status f ≢ 8
fault_not_eight fault.Memory e = omega (arith, e)
fault_not_eight f e = omega (arith, e)

-- only the answer that names a file has status 7
pub named_file : (a : Answer) (P : List ℕ → Type 0) → status_of a ≡ 7 → P (line_of a) → (name : String Global) × (a ≡ answer.Read name) × P (read_line (string_bytes name))
named_file (answer.Read name) P e p = (name, refl, p)
named_file (answer.Grammar r) P e p = absurd (refusal_not_read r e)
named_file (answer.Text f) P e p = absurd (fault_not_read f e)
named_file a P e p = absurd (omega (arith, e))

-- an answer has a status other than 0 and 1
refusal_status_said : (r : Refusal) → 2 ≤ refusal_status r
refusal_status_said refusal.Memory = omega arith
refusal_status_said r = omega arith

fault_status_said : (f : ParseFault) → 2 ≤ fault_status f
fault_status_said fault.Memory = omega arith
fault_status_said f = omega arith

pub told_status : (a : Answer) → 2 ≤ status_of a
told_status (answer.Grammar r) = refusal_status_said r
told_status (answer.Text f) = fault_status_said f
told_status a = omega arith
