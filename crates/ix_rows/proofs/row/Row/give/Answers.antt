use Rattle.std.proofs.Common.{rules, ap, ◌∙◌, ◌∷◌, Some, arith}
use Rattle.atomic_table.specs.Table.{rest}
use Rattle.ix_rows.proofs.Keeps.{releases_as}
use Rattle.ix_rows.proofs.row.Row.give.Goals as goal

pub swap-requires : goal.swap-requires
swap-requires g c = let now = c.exchange.ensures.3 in let was = c.requires.pass.1 in let sized = c.args.self.now.sized in let near = c.requires.pass.2 in (
  search rules,
  (omega arith),
  releases_as _ _ _ _ _ _ _ _ _ c.args.pass.now.me.0 c.args.held.value
      (now ∙ (λ i. (c.args.pass.now.me.0, (c.args.held.place, Some c.args.held.value) ∷ ap rest was.0 i))) (λ z. absurd (omega arith)) was.1 c.requires.fact c.requires.grown c.requires.pass.0.1,
)
