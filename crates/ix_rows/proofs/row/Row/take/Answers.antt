use Rattle.std.proofs.Common.{rules, sym, ap, ◌∙◌, ◌∷◌, Some}
use Rattle.atomic_table.specs.Table.{rest}
use Rattle.ix_rows.proofs.row.Row.take.Goals as goal

pub exchange-value-requires : goal.exchange-value-requires
exchange-value-requires g c = let got = c.lock.ensures.2 in let has = got.3 in
    (search rules, (Some got.0, has ∙ (λ i. (c.args.place, Some got.0) ∷ sym (ap rest has) i)))
