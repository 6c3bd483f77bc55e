use Rattle.std.proofs.Common.{take, []}
use Rattle.std.specs.List.{flat_map}
use Rattle.ix_model.specs.declared.grammar.Rule.{Rule}
use Rattle.ix_model.specs.Grammars.Factors.{factors_of_alt}
use Rattle.ix_errors.specs.Mentions.{AddsFactors}
use Rattle.ix_errors.proofs.mentions.mentions_of.Given as goal

abbrev pub invariant-loop-rule : goal.invariant-loop-rule
invariant-loop-rule l = AddsFactors [] l.mentions.items (flat_map (λ (rule : Rule). flat_map factors_of_alt rule.alts) (take l.rule-index l.rule-items))
