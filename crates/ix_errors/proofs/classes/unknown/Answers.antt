use Rattle.std.proofs.Common.{◌≡◌, true, false, ap, sym, ◌∙◌, subst}
use Rattle.ix_model.specs.Grammars.Breach.{IsKnownClass}
use Rattle.ix_errors.specs.Mentions.{class_in}
use Rattle.ix_errors.proofs.Searching.{alone}
use Rattle.ix_errors.proofs.classes.unknown.Goals as goal

pub returns-else-is_known_class : goal.returns-else-is_known_class
returns-else-is_known_class c =
    alone IsKnownClass _ _ (ap class_in c.in-Class.is) (λ known.
    let e : false ≡ true = sym c.if-is_known_class.false ∙ c.is_known_class.ensures.1 (subst IsKnownClass (sym c.as_slice.ensures) known) in
    cc e)
