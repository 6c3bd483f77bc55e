use Rattle.std.proofs.Common.{◌≡◌, sym as symm, ap, ◌∙◌, subst, List, length, map, None, arith}
use Rattle.std.specs.List.{AllByRecursion, flat_map}
use Rattle.std.specs.Prelude.{sum}
use Rattle.ix_model.specs.declared.grammar.Grammar.{Grammar}
use Rattle.ix_model.specs.declared.grammar.Factor.{Factor}
use Rattle.ix_model.specs.declared.grammar.Rule.{Rule}
use Rattle.ix_model.specs.declared.rules.Flat.{Flat}
use Rattle.ix_model.specs.declared.rules.Terminal.{Terminal}
use Rattle.ix_model.specs.Documents.Bare.{effective}
use Rattle.ix_model.specs.Expansion.Expanded.{RulesBecome, Expanded}
use Rattle.ix_model.specs.Grammars.Factors.{factors_of_alt}
use Rattle.ix_model.specs.Expansion.Numbering.{numbering}
use Rattle.ix_model.specs.Grammars.Size.{rule_size}
use Rattle.ix_expand.specs.declared.made.Made.{Made}
use Rattle.ix_expand.specs.Growth.{BeginsWith, Makes, count_of}
use Rattle.ix_expand.specs.SlotCounts.{slots_of}
use Rattle.ix_expand.specs.Sound.{IsSound}
use Rattle.ix_expand.proofs.Bounds.{all_slots, rules_within}
use Rattle.ix_expand.proofs.Sounds.{conforming_sound}
use Rattle.ix_expand.proofs.Whole.{nothing, together, whole}
use Rattle.ix_expand.proofs.rules.expand.Goals as goal

pub of-requires : goal.of-requires
of-requires c = omega (arith, rules_within c.args.grammar.now.rules)

pub named_flats-requires-clause-sound : goal.named_flats-requires-clause-sound
named_flats-requires-clause-sound c =
    let of_rules : List Rule → List Factor = flat_map (λ (rule : Rule). flat_map factors_of_alt rule.alts) in
    subst (λ (g : Grammar). AllByRecursion (IsSound g) (of_rules c.as_slice-rules.result.now)) (symm c.in_ok-source.ensures)
    (subst (λ (rules : List Rule). AllByRecursion (IsSound c.args.grammar.now) (of_rules rules)) (symm c.as_slice-rules.ensures) (conforming_sound c.args.grammar.now c.requires.conforming))

pub named_flats-requires-clause-room : goal.named_flats-requires-clause-room
named_flats-requires-clause-room c =
    let rules = c.args.grammar.now.rules in
    let same = ap (λ (rs : List Rule). sum (map rule_size rs)) c.as_slice-rules.ensures in
    let count = ap count_of c.new-made.ensures in
    let long = ap (λ (rs : List Rule). length rs) c.as_slice-rules.ensures in
    omega (arith, rules_within rules, same, count, long)

pub returns-clause-expanded : goal.returns-clause-expanded
returns-clause-expanded c =
    let g = c.args.grammar.now in
    let rules = c.as_slice-rules.result.now in
    let named = c.in_ok-flats.flats in
    let made = c.named_flats.new.made in
    let same : rules ≡ g.rules = c.as_slice-rules.ensures in
    let long : length rules ≡ length g.rules = ap (λ (rs : List Rule). length rs) same in
    let started : c.new-made.result ≡ nothing (length g.rules) = c.new-made.ensures ∙ ap nothing long in
    let h : Makes (nothing (length g.rules)) made (λ all a b. BeginsWith all.flats named → RulesBecome g all 0 a g.rules b) =
    subst (λ (m : Made). Makes m made (λ all a b. BeginsWith all.flats named → RulesBecome g all 0 a g.rules b)) started
    (subst (λ (rs : List Rule). Makes c.new-made.result made (λ all a b. BeginsWith all.flats named → RulesBecome g all 0 a rs b)) same
    (subst (λ (f : Grammar). Makes c.new-made.result made (λ all a b. BeginsWith all.flats named → RulesBecome f all 0 a rules b)) c.in_ok-source.ensures c.in_ok-flats.ensures.made)) in
    let names = c.in_ok-names_of_rules.ensures ∙ ap (map (λ (rule : Rule). rule.name)) same in
    let marks = c.in_ok-marks_of_rules.ensures ∙ ap (map (λ (rule : Rule). effective None rule.mark)) same in
    let all = whole g made named c.in_ok-names_of_rules.field-0 c.in_ok-marks_of_rules.field-0 names marks (c.in_ok-flats.ensures.count ∙ long) h in
    let rules_made = together g made named c.in_ok-names_of_rules.field-0 c.in_ok-marks_of_rules.field-0 in
    subst (λ (terminals : List Terminal). Expanded g (record rules_made { flats = c.append.new.self; terminals = terminals })) (symm c.into_items.ensures)
    (subst (λ (flats : List Flat). Expanded g (record rules_made { flats = flats })) (symm c.in_ok-append.ensures) all)

pub returns-clause-slots : goal.returns-clause-slots
returns-clause-slots c =
    let e = ap (λ (flats : List Flat). length (numbering flats)) c.in_ok-append.ensures in
    let s = all_slots c.in_ok-flats.flats c.named_flats.new.made.flats in
    let n = ap slots_of c.new-made.ensures in
    let same = ap (λ (rs : List Rule). sum (map rule_size rs)) c.as_slice-rules.ensures in
    omega (arith, e, s, n, same, c.in_ok-flats.ensures.slots)
