use Rattle.std.proofs.Common.{ap, ◌∙◌, arith}
use Rattle.ix_table.proofs.Closings.{many_is, each_sound, begun_is, sight_is, opening_sound}
use Rattle.ix_table.proofs.table.Table.new.Goals as goal

pub new-requires-clause-fact : goal.new-requires-clause-fact
new-requires-clause-fact c = λ m x e. each_sound c.args.plan.now c.in_ok-banks.banks.banks.items c.in_ok-banks.ensures.opening c.in_ok-banks.ensures.sound m x e

pub returns-clause-root : goal.returns-clause-root
returns-clause-root c =
    let plan = c.args.plan.now in let banks = c.in_ok-banks.banks.banks.items in
    let is = c.in_ok-banks.ensures.opening in let sound = c.in_ok-banks.ensures.sound in
    let r = c.in_ok-row.ensures.root in let v = r.3 in
    let n = many_is plan banks is sound in let fits = c.in_ok-banks.banks.banks.ok.0 in (
      (r.0, r.1, ap (λ z. z.topic) v, c.in_ok-row.ensures.places ∙ omega (arith, fits, n)),
      record {
        root = r.2;
        whole = ap (λ z. z.out) v;
        begun = ap (λ z. z.begun) v ∙ begun_is plan banks is sound;
        sight = sight_is plan banks is sound c.in_ok-row.root v;
        sound = opening_sound plan banks is sound;
      },
    )
