use Rattle.std.proofs.Common.{ap, List, length, arith}
use Rattle.std.proofs.lemmas.List.{length_push}
use Rattle.ix_model.specs.declared.rules.Flat.{Flat}
use Rattle.ix_model.specs.Grammars.Factors.{factors_of_alt}
use Rattle.ix_model.specs.Grammars.Size.{rule_size}
use Rattle.ix_model.specs.declared.grammar.Rule.{Rule}
use Rattle.ix_model.specs.Expansion.Expanded.{no_rule}
use Rattle.std.specs.List.{flat_map}
use Rattle.ix_expand.specs.SlotCounts.{flats_slots}
use Rattle.ix_expand.specs.Sound.{IsSound}
use Rattle.ix_expand.proofs.Bounds.{sum_next, named_slots}
use Rattle.ix_expand.proofs.Growing.{makes_nothing}
use Rattle.ix_expand.proofs.Sequences.{rules_more}
use Rattle.ix_expand.proofs.Sounds.{all_joined, flat_next, flat_behind}
use Rattle.ix_expand.proofs.rules.named_flats.Goals as goal

pub loop-rule-init : goal.loop-rule-init
loop-rule-init c = record {
  made = makes_nothing _ _ (λ rules y w. no_rule 0 y);
  sound = c.requires.sound;
  count = ap (λ (flats : List Flat). length flats) c.new-flats.ensures;
  numbers = omega arith;
  slots = omega (arith, ap flats_slots c.new-flats.ensures);
}

pub alternative_lines-requires-clause-sound : goal.alternative_lines-requires-clause-sound
alternative_lines-requires-clause-sound c =
    let P = IsSound c.args.source.now.grammar.now in
    all_joined P factors_of_alt c.rule-item.result.alts
    (flat_next P (λ (rule : Rule). flat_map factors_of_alt rule.alts) c.args.rules.now c.loop-rule.rule-index c.rule-item.result c.loop-rule-test.true c.rule-item.is c.loop-rule.invariant.sound)

pub alternative_lines-requires-clause-room : goal.alternative_lines-requires-clause-room
alternative_lines-requires-clause-room c =
    omega (arith, sum_next rule_size c.args.rules.now c.loop-rule.rule-index c.rule-item.result c.loop-rule-test.true c.rule-item.is)

pub loop-rule-preserved : goal.loop-rule-preserved
loop-rule-preserved c =
    let g = c.args.source.now.grammar.now in
    let rules = c.args.rules.now in
    let at = c.loop-rule.rule-index in
    let rule = c.rule-item.result in
    let lines = c.in_ok-alternative_lines.field-0 in
    let s = sum_next rule_size rules at rule c.loop-rule-test.true c.rule-item.is in
    let more = c.in_ok-push.ensures.ok in
    record {
      made = rules_more g c.args.made.now c.loop-rule.made c.alternative_lines.new.made rules at rule c.loop-rule.flats c.push.new.self lines c.loop-rule-test.true c.rule-item.is c.loop-rule.invariant.count c.loop-rule.invariant.made c.in_ok-alternative_lines.ensures.made more;
      sound = flat_behind (IsSound g) (λ (r : Rule). flat_map factors_of_alt r.alts) rules at rule c.loop-rule-test.true c.rule-item.is c.loop-rule.invariant.sound;
      count = omega (arith, ap (λ (flats : List Flat). length flats) more, length_push {X = Flat}, c.loop-rule.invariant.count);
      numbers = omega (arith, s, c.in_ok-alternative_lines.ensures.numbers);
      slots = omega (arith, s, c.in_ok-alternative_lines.ensures.slots, named_slots _ _ _ more);
    }
