use Rattle.std.proofs.Common.{◌≡◌, ◌∙◌, refl, ap, sym, Some, None}
use Rattle.ix_model.specs.Expansion.Slots.{sym_after}
use Rattle.ix_subtrees.proofs.LastSlots.{last_of_reads, reads_last_by}
use Rattle.ix_subtrees.proofs.Found.{made_same}
use Rattle.ix_subtrees.proofs.gather.alt_of.Goals as goal

pub returns-in-None-clause-alt : goal.returns-in-None-clause-alt
returns-in-None-clause-alt c =
    let none : sym_after c.args.plan.now c.args.sub.slot ≡ None = sym c.in-None.ensures.symbol in
    (reads_last_by c.args.plan.now c.requires.planned c.args.sub.slot c.head.result c.alt.result c.requires.slot none c.head.ensures c.alt.ensures, refl, refl)

pub returns-in-None-clause-only : goal.returns-in-None-clause-only
returns-in-None-clause-only c = λ e h.
    let r = last_of_reads c.args.plan.now c.args.sub.slot e.span.number e.choice h.0 in
    ap Some (sym (made_same e c.head.result c.args.sub.left c.args.sub.right c.alt.result (sym (c.head.ensures ∙ r.1)) h.1 h.2 (sym (c.alt.ensures ∙ r.2))))

pub returns-in-Some-clause-only : goal.returns-in-Some-clause-only
returns-in-Some-clause-only c = λ e h.
    let r = last_of_reads c.args.plan.now c.args.sub.slot e.span.number e.choice h.0 in
    absurd (cc (c.in-Some.ensures.symbol, r.3))
