use Rattle.std.proofs.Common.{Some, ap, sym, ◌∙◌}
use Rattle.ix_errors.specs.Firsts.{IsAmong}
use Rattle.ix_errors.specs.Mentions.{call_in}
use Rattle.ix_errors.proofs.Searching.{alone}
use Rattle.ix_errors.proofs.calls.undefined.Goals as goal

pub returns-in-None : goal.returns-in-None
returns-in-None c = alone (IsAmong c.args.names.now) _ _ (ap call_in c.in-Call.is) (λ among. c.in-None.ensures.none among.0 (among.1 ∙ ap Some (sym c.as_slice.ensures)))
