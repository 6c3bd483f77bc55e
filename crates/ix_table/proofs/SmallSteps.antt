-- The banks and the step that the worked examples speak of.
use Rattle.std.proofs.Common.{◌≡◌, ◌+◌, List, [], length, refl, rules}
use Rattle.ix_model.specs.Expansion.Parts.{Parts}
use Rattle.ix_model.specs.Closure.Closed as closed
use Rattle.ix_examples.specs.SmallPlans.{cycle}
use Rattle.ix_cluster.specs.BankSteps.{Call, Answer, Belongs, BankStep, edge_calls, edge_joins, edge_again, end_comes, end_again, sub_fresh, sub_known, claim_mine, claim_taken, claim_unknown}
use Rattle.ix_cluster.specs.declared.answers.Claimed.TheVariants.{Mine}
use Rattle.ix_cluster.specs.declared.fact.Fact.{Fact}
use Rattle.ix_cluster.specs.declared.fact.Fact.TheVariants.{Claim}
use Rattle.ix_cluster.specs.Sound.{IsSoundBank}
use Rattle.ix_cluster.proofs.SmallBanks.{cycle_planned, second_begins}
use Rattle.ix_cluster.proofs.Soundness.{sound-begin, sound-claim}
use Rattle.ix_table.specs.Examples.{first_bank, claimed_bank}
use Rattle.ix_table.proofs.Tellings.{pushed_length}

pub first_sound : IsSoundBank (cycle []) 64 0 first_bank
first_sound = sound-begin (cycle []) 64 0 cycle_planned refl (search rules)

pub claimed_sound : IsSoundBank (cycle []) 64 0 claimed_bank
claimed_sound = sound-claim (cycle []) 64 0 first_bank claimed_bank 2 0 0 refl refl (search rules) first_sound

-- the descriptor that is claimed is in the closure
pub claimed_desc : closed.Desc (cycle []) 2 0 0
claimed_desc = closed.begun 0 0 2 closed.start second_begins

-- a claim adds one entry
pub mine_adds : (plan : Parts) (log : List Fact) (call : Call) (answer : Answer) (after : List Fact) → BankStep plan log call answer after → answer ≡ Belongs Mine → length after ≡ length log + 1
mine_adds plan log call answer after (edge_calls r k s l h w) e = absurd (cc)
mine_adds plan log call answer after (edge_joins r k s l h w) e = absurd (cc)
mine_adds plan log call answer after (edge_again r k s l h) e = absurd (cc)
mine_adds plan log call answer after (end_comes r k x h) e = absurd (cc)
mine_adds plan log call answer after (end_again r k x h) e = absurd (cc)
mine_adds plan log call answer after (sub_fresh sub h) e = absurd (cc)
mine_adds plan log call answer after (sub_known sub h) e = absurd (cc)
mine_adds plan log call answer after (claim_mine s l p h w) e = pushed_length log (Claim s l p)
mine_adds plan log call answer after (claim_taken s l p h w) e = absurd (cc)
mine_adds plan log call answer after (claim_unknown s l p h) e = absurd (cc)
