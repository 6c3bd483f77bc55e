use Rattle.std.proofs.Common.{◌≡◌, false, sym, ◌∙◌, rules}
use Rattle.ix_model.proofs.FirstNames.{added_now}
use Rattle.ix_model.proofs.names.add.Goals as goal

pub returns-in_ok-insert : goal.returns-in_ok-insert
returns-in_ok-insert c =
    let lacks : c.contains_key.result ≡ false = search rules in
    added_now c.args.numbers.now c.args.name.now c.args.number c.insert.new.self (sym c.contains_key.ensures ∙ lacks) c.in_ok-insert.ensures.updates
