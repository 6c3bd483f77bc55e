use Rattle.std.proofs.Common.{◌∙◌, sym, ap, subst, refl, Some}
use Rattle.ix_model.specs.Expansion.Planned.{IsThere}
use Rattle.ix_model.proofs.SlotReaders.{reads_next, reads_last}
use Rattle.ix_closure.specs.Follows.{ends, calls, inserts}
use Rattle.ix_closure.proofs.Due.DescriptorSteps.{passes_term, stops_term}
use Rattle.ix_closure.proofs.follow.next_step.Goals as goal

pub returns-in-None : goal.returns-in-None
returns-in-None c =
    let at = sym c.sym.ensures.symbol ∙ c.in-None.is in
    ends c.head.result (reads_last c.args.plan.now c.slot_count.ensures.planned c.args.descriptor.slot c.head.result (c.requires.slot, sym c.head.ensures, at))

pub returns-in-Some-Rule : goal.returns-in-Some-Rule
returns-in-Some-Rule c =
    let at = sym c.sym.ensures.symbol ∙ c.in-Some-Rule.is ∙ ap Some c.in-Some-Rule.field-0-is in
    calls c.in-Some-Rule.rule _ _ (reads_next c.args.plan.now c.slot_count.ensures.planned c.args.descriptor.slot _ _ (c.requires.slot, at, refl))

pub returns-in-Some-Insert : goal.returns-in-Some-Insert
returns-in-Some-Insert c =
    let at = sym c.sym.ensures.symbol ∙ c.in-Some-Insert.is ∙ ap Some c.in-Some-Insert.field-0-is in
    inserts _ c.next.result (reads_next c.args.plan.now c.slot_count.ensures.planned c.args.descriptor.slot c.next.result _ (c.requires.slot, at, c.next.ensures.number))

pub returns-in-Some : goal.returns-in-Some
returns-in-Some c =
    let at = sym c.sym.ensures.symbol ∙ c.in-Some-Term.is ∙ ap Some c.in-Some-Term.field-0-is in
    passes_term c.args.plan.now c.slot_count.ensures.planned c.args.descriptor.slot c.args.descriptor.left c.args.descriptor.pos c.in-Some-Term.terminal _ c.next-in-Some.result c.in-Some.right c.requires.slot at
    (subst (IsThere c.args.plan.now.rules) c.in-Some-Term.field-0-is c.in-Some-Term.ensures.there) c.in-Some.ensures.some c.next-in-Some.ensures.number

pub returns-in-None-matches : goal.returns-in-None-matches
returns-in-None-matches c =
    let at = sym c.sym.ensures.symbol ∙ c.in-Some-Term.is ∙ ap Some c.in-Some-Term.field-0-is in
    stops_term c.args.plan.now c.slot_count.ensures.planned c.args.descriptor.slot c.args.descriptor.left c.args.descriptor.pos c.in-Some-Term.terminal _ c.requires.slot at
    (λ e m. absurd (cc (c.matches.ensures.only e m, c.in-None-matches.is)))
