use Rattle.std.proofs.Common.{sym, subst, ap, arith}
use Rattle.ix_model.specs.Grammars.Breach.{Conforming}
use Rattle.ix_model.specs.Grammars.Size.{size}
use Rattle.ix_expand.proofs.Conforms.{sample_conforms, sample_size}
use Rattle.ix_expand.proofs.tests.sample_rules.Goals as goal

pub expand-requires : goal.expand-requires
expand-requires c =
    let e = c.in_ok-sample.ensures in
    record { conforming = subst Conforming (sym e) sample_conforms; small = omega (arith, ap size e, sample_size) }
