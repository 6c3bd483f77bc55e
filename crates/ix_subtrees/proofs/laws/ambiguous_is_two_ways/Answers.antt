use Rattle.ix_subtrees.proofs.WrittenUses.{ambiguous_two_ways, two_ways_ambiguous}
use Rattle.ix_subtrees.proofs.laws.ambiguous_is_two_ways.Goals as goal

pub returns : goal.returns
returns c = λ g plan p planned. (λ h. ambiguous_two_ways g plan p planned h, λ h. two_ways_ambiguous g plan p planned h)
