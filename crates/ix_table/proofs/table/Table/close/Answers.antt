use Rattle.std.proofs.Common.{◌≡◌, length, arith}
use Rattle.ix_table.proofs.Closings.{elem_at, all_sound}
use Rattle.ix_table.proofs.table.Table.close.Goals as goal

pub returns-in-Ok-clause-closed : goal.returns-in-Ok-clause-closed
returns-in-Ok-clause-closed c =
    let plan = c.args.self.plan.now in let banks = c.in-Ok.banks.items in
    let e = c.in-Ok.ensures in
    let fits = c.in-Ok.banks.ok.0 in let as_many = e.ok.0 in let places = c.requires.0.3 in
    let many : length banks ≡ 64 = omega (arith, fits, as_many, places) in
    record {
      many = many;
      sound = all_sound plan c.args.root.me.0.topic banks many c.requires.0.2 e.ok.1;
      begin = λ m bank there. e.known m bank (elem_at banks m bank there);
      counted = λ m k bank there. e.own m k bank (elem_at banks m bank there);
    }
