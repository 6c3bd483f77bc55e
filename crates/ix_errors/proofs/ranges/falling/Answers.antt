use Rattle.std.proofs.Common.{◌∷◌, [], ap, ap₂, sym, ◌∙◌, arith}
use Rattle.ix_model.specs.Grammars.Breach.{IsRising}
use Rattle.ix_errors.specs.Mentions.{range_in}
use Rattle.ix_errors.proofs.Searching.{alone}
use Rattle.ix_errors.proofs.ranges.falling.Goals as goal

pub returns-else-low-high : goal.returns-else-low-high
returns-else-low-high c =
    alone IsRising _ _ (ap range_in c.in-Range.is ∙ ap₂ (λ low high. (low, high) ∷ []) (sym c.number-low.ensures) (sym c.number-high.ensures)) (λ rising. omega (arith, rising, c.if-low-high.false))
