-- What a plan is made of.
use Rattle.std.specs.Prelude.{ℕ, List}
use Rattle.ix_model.specs.declared.rules.Rules.{Rules}
use Rattle.ix_model.specs.declared.plan.SlotInfo.{SlotInfo}

pub record Parts : Type 0 where
  pub rules : Rules
  pub slots : List SlotInfo
  pub text : List ℕ
