use Rattle.std.proofs.Common.{arith, Any}
use Rattle.ix_model.specs.Grammars.Breach.{IsCodePoint}
use Rattle.ix_model.specs.Grammars.Factors.{codes_of_member}
use Rattle.ix_model.specs.Spelling.Spells.{IsHex}
use Rattle.ix_sets.specs.Kinds.{IsWritten}
use Rattle.ix_sets.proofs.Gaining.{gains_nothing, gains_more, gains_all, gains_as, some_of_any, any_of_some}
use Rattle.ix_sets.proofs.Parts.{all_at}
use Rattle.ix_sets.proofs.members.push_all_written.Goals as goal

pub loop-member-init : goal.loop-member-init
loop-member-init c = gains_nothing _ _ (λ _ h. h)

pub push_written-requires-clause-numbers : goal.push_written-requires-clause-numbers
push_written-requires-clause-numbers c =
    let all = all_at codes_of_member IsHex c.args.members.now c.loop-member.member-index c.member-item.result (omega arith) c.requires.numbers in
    rw c.member-item.is all

pub push_written-requires-clause-code_points : goal.push_written-requires-clause-code_points
push_written-requires-clause-code_points c =
    let all = all_at codes_of_member IsCodePoint c.args.members.now c.loop-member.member-index c.member-item.result (omega arith) c.requires.code_points in
    rw c.member-item.is all

pub loop-member-preserved : goal.loop-member-preserved
loop-member-preserved c =
    gains_more IsWritten c.args.members.now c.loop-member.member-index c.member-item.result c.member-item.result (omega arith) c.member-item.is c.loop-member.invariant
    c.in_ok-push_written.ensures

pub returns : goal.returns
returns c =
    let members = c.args.members.now in
    gains_as (λ c. Any (IsWritten c) members) (gains_all IsWritten members c.loop-member.member-index c.loop-member-test.false c.loop-member.invariant)
    (λ c. any_of_some (IsWritten c) members) (λ c. some_of_any (IsWritten c) members)
