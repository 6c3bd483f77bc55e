use Rattle.std.proofs.Common.{sym, subst, ap, arith}
use Rattle.ix_model.specs.Grammars.Breach.{Conforming}
use Rattle.ix_model.specs.Grammars.Size.{size}
use Rattle.ix_expand.proofs.Conforms.{groups_conform, groups_size}
use Rattle.ix_expand.proofs.tests.rules_of_separated_groups.Goals as goal

pub expand-requires : goal.expand-requires
expand-requires c =
    let e = c.in_ok-separated_groups.ensures in
    record { conforming = subst Conforming (sym e) groups_conform; small = omega (arith, ap size e, groups_size) }
