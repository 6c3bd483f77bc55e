use Rattle.std.proofs.Common.{arith, ◌≡◌, ◌∙◌, ◌++◌, ◌∷◌, [], ℕ, List, Some, slice_get, length, sym, ap, ap₂, subst}
use Rattle.std.proofs.lemmas.List.FromFn.{map-range_with_len_more, length-map-range_with_len}
use Rattle.ix_cluster.specs.Banks.{opening_bank}
use Rattle.ix_cluster.specs.Seen.{Bank}
use Rattle.ix_cluster.specs.Sound.{IsSoundBank}
use Rattle.ix_cluster.proofs.Soundness.{sound-push}
use Rattle.ix_cluster.proofs.banks.Banks.begin.Goals as goal

pub loop-m-preserved : goal.loop-m-preserved
loop-m-preserved c = record {
  opening =
      c.in_ok-push.ensures.items ∙ ap₂ (λ xs x. xs ++ x ∷ []) c.loop-m.invariant.opening c.in_ok-opening_bank.ensures.opening ∙
      sym (map-range_with_len_more (opening_bank c.args.plan.now c.args.count) 0 c.loop-m.m c.loop-m.m (omega arith));
  sound =
      subst (λ (xs : List Bank). (i : ℕ) (bank : Bank) → slice_get xs i ≡ Some bank → IsSoundBank c.args.plan.now c.args.count i bank) (sym c.in_ok-push.ensures.items)
      (sound-push c.args.plan.now c.args.count 0 c.loop-m.banks.items c.in_ok-opening_bank.field-0 c.loop-m.m (ap length c.loop-m.invariant.opening ∙ length-map-range_with_len (opening_bank c.args.plan.now c.args.count) 0 c.loop-m.m) c.loop-m.invariant.sound c.in_ok-opening_bank.ensures.sound);
}

pub returns-clause-sound : goal.returns-clause-sound
returns-clause-sound c =
    let len : length c.loop-m.banks.items ≡ c.args.count = omega (arith, ap length c.loop-m.invariant.opening, length-map-range_with_len (opening_bank c.args.plan.now c.args.count) 0 c.loop-m.m, c.loop-m-test.false, c.loop-m.auto.m-end) in
    record {
      some = omega (arith, len, c.requires.some);
      few = omega (arith, len, c.requires.few);
      each = λ m bank e. subst (λ (n : ℕ). IsSoundBank c.args.plan.now n m bank) (sym len) (c.loop-m.invariant.sound m bank e);
    }
