use Rattle.std.proofs.Common.{◌≡◌, ◌-◌, ap, sym, ◌∙◌, subst, length, arith, Some}
use Rattle.std.specs.Prelude.{slice_index}
use Rattle.ix_rows.specs.Beginnings.{Begins}
use Rattle.ix_rows.specs.Logs.{log_at}
use Rattle.ix_rows.specs.Numbers.{times, run}
use mathlib.Core.Option.{some-injective}
use lib.ListN.{length-map}
use Rattle.std.specs.Slots.{slots_counts}
use Rattle.ix_rows.proofs.Counts.{some_is}
use Rattle.ix_rows.proofs.Keeps.{closes}
use Rattle.ix_rows.proofs.Empties.{at_some, inside_of}
use Rattle.ix_rows.proofs.row.Row.close.Goals as goal

pub emptied-requires-clause-full : goal.emptied-requires-clause-full
emptied-requires-clause-full g c = let v = c.close_with.ensures.values in let t = c.requires.0.1.1 in
    (v.0, v.1, λ m near. let h = closes _ _ _ _ _ _ t.0 _ _ t.1 c.requires.2 c.requires.1.1 c.requires.3 v.2 m near in (h.0, h.1))

pub returns-clause-ok : goal.returns-clause-ok
returns-clause-ok g c = let v = c.close_with.ensures.values in let t = c.requires.0.1.1 in let xs = c.emptied.result.items in let is = c.emptied.ensures in
    let a = ap length is ∙ length-map xs Some in let n = slots_counts c.close_with.result.slots in let k = c.close_with.ensures.counts in let l = c.emptied.result.ok in (
      omega (arith, a, n, k, l),
      (
        t.0,
        t.1,
        λ m x e. let there = at_some _ xs m x is e in
            let h = closes _ _ _ _ _ _ t.0 _ _ t.1 c.requires.2 c.requires.1.1 c.requires.3 v.2 m (inside_of _ m _ there) in
            subst (g.K.Kept.fact t.0 m) (some_is h.0 x (some-injective _ _ (sym h.1 ∙ there))) h.2,
      ),
    )

pub returns-clause-known : goal.returns-clause-known
returns-clause-known g c = λ m x e. let v = c.close_with.ensures.values in let t = c.requires.0.1.1 in let xs = c.emptied.result.items in let is = c.emptied.ensures in
    let there = at_some _ xs m x is e in
    let h = closes _ _ _ _ _ _ t.0 _ _ t.1 c.requires.2 c.requires.1.1 c.requires.3 v.2 m (inside_of _ m _ there) in
    subst (λ z. Begins (g.K.Kept.log z) (log_at c.args.root.me.0.known m)) (some_is h.0 x (some-injective _ _ (sym h.1 ∙ there))) h.3

pub returns-clause-own : goal.returns-clause-own
returns-clause-own g c = λ m k x e. let v = c.close_with.ensures.values in let t = c.requires.0.1.1 in let xs = c.emptied.result.items in let is = c.emptied.ensures in
    let there = at_some _ xs m x is e in
    let h = closes _ _ _ _ _ _ t.0 _ _ t.1 c.requires.2 c.requires.1.1 c.requires.3 v.2 m (inside_of _ m _ there) in
    let own = c.args.root.me.0.own in let from = slice_index c.args.root.me.0.begun m in
    subst (λ z. times m k own ≡ times m k (run m from (length (g.K.Kept.log z) - from))) (some_is h.0 x (some-injective _ _ (sym h.1 ∙ there))) (h.4 k)
