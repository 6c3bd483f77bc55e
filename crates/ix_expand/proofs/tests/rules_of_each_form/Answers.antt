use Rattle.std.proofs.Common.{sym, subst, ap, arith}
use Rattle.ix_model.specs.Grammars.Breach.{Conforming}
use Rattle.ix_model.specs.Grammars.Size.{size}
use Rattle.ix_expand.proofs.Conforms.{forms_conform, forms_size}
use Rattle.ix_expand.proofs.tests.rules_of_each_form.Goals as goal

pub expand-requires : goal.expand-requires
expand-requires c =
    let e = c.in_ok-each_form.ensures in
    record { conforming = subst Conforming (sym e) forms_conform; small = omega (arith, ap size e, forms_size) }
