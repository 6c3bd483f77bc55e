use Rattle.std.proofs.Common.{rules, ap, sym, ◌∙◌, subst, map}
use Rattle.ix_rows.specs.Facts.{AllKept}
use Rattle.ix_rows.proofs.Keeps.{opens}
use Rattle.ix_rows.proofs.row.Row.new.Goals as goal

pub new-requires : goal.new-requires
new-requires g c = opens g.K.Kept.fact g.K.Kept.log c.of.result.value (map g.K.Kept.log c.of-2.result.value.items) _ _ c.args.values.items
    (c.as_slice.ensures.value ∙ search rules) c.in_ok-slots.ensures (ap (λ v. map g.K.Kept.log v.items) c.of-2.ensures) (subst (λ t. AllKept g.K.Kept.fact t c.args.values.items) (sym c.of.ensures) c.requires.fact)
