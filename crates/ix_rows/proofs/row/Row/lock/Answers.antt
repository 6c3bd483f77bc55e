use Rattle.std.proofs.Common.{rules, ap, sym, ◌∙◌, subst}
use Rattle.ix_rows.specs.Views.{IsLiveView}
use Rattle.ix_rows.proofs.Keeps.{tries}
use Rattle.ix_rows.proofs.row.Row.lock.Goals as goal

pub swap-requires : goal.swap-requires
swap-requires g c = let same = c.loop.invariant.2 in
    (search rules, search rules, tries _ _ _ _ _ _ _ _ (search rules) (subst (λ m. IsLiveView m.0) (sym same) c.requires.0.1) (ap (λ m. m.0.place) same ∙ c.requires.1.1))
