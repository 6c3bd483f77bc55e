use Rattle.std.proofs.Common.{◌≡◌, ◌+◌, ◌*◌, ◌≤◌, map, sum, length, take, drop}
use Rattle.std.specs.List.{AllByRecursion, flat_map}
use Rattle.ix_model.specs.declared.grammar.Rule.{Rule}
use Rattle.ix_model.specs.Expansion.Expanded.{RulesBecome}
use Rattle.ix_model.specs.Grammars.Factors.{factors_of_alt}
use Rattle.ix_model.specs.Grammars.Size.{rule_size}
use Rattle.ix_expand.specs.Growth.{BeginsWith, Makes, count_of}
use Rattle.ix_expand.specs.SlotCounts.{slots_of, flats_slots}
use Rattle.ix_expand.specs.Sound.{IsSound}
use Rattle.ix_expand.proofs.rules.named_flats.Given as goal

-- what is done, and what is left
abbrev pub invariant-loop-rule : goal.invariant-loop-rule
invariant-loop-rule l = record {
  made : Makes l.fn.made l.made (λ all a b. BeginsWith all.flats l.flats → RulesBecome l.source.grammar.now all 0 a (take l.rule-index l.rules) b);
  sound : AllByRecursion (IsSound l.source.grammar.now) (flat_map (λ (rule : Rule). flat_map factors_of_alt rule.alts) (drop l.rule-index l.rules));
  count : length l.flats ≡ l.rule-index;
  numbers : count_of l.made + 3 * sum (map rule_size (drop l.rule-index l.rules)) ≤ count_of l.fn.made + 3 * sum (map rule_size l.rules);
  slots : slots_of l.made + flats_slots l.flats + 9 * sum (map rule_size (drop l.rule-index l.rules)) ≤ slots_of l.fn.made + 9 * sum (map rule_size l.rules);
}
