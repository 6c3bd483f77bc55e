use Rattle.std.proofs.lemmas.Result.{on_ok_weaker}
use Rattle.ix_model.specs.Matching.Sets.{IsOfSome}
use Rattle.ix_sets.proofs.Gaining.{gains_both}
use Rattle.ix_sets.proofs.Parts.{some_is, is_some}
use Rattle.ix_sets.proofs.members.push_members.Goals as goal

pub returns : goal.returns
returns c =
    let members = c.args.members.now in
    on_ok_weaker _
    (λ classes. gains_both (λ c. IsOfSome c members) c.in_ok-push_all_written.ensures classes (λ c. some_is c members) (λ c. is_some c members))
    c.push_classes.ensures
