use Rattle.std.proofs.Common.{◌≡◌, ◌<◌, ◌∙◌, List, [], Some, slice_get, length, sym, subst, refl, arith}
use Rattle.std.proofs.lemmas.Option.{slice_get_read}
use Rattle.std.proofs.lemmas.Result.{IfOk-weaker}
use Rattle.ix_cluster.specs.Seen.{Bank}
use Rattle.ix_closure.specs.declared.owed.Owed.{Owed}
use Rattle.ix_closure.specs.Additions.{IsOfSome}
use Rattle.ix_closure.specs.Adoption.{OwesMissing}
use Rattle.ix_closure.specs.Brought.{IsBroughtBy, Lacks}
use Rattle.ix_closure.specs.Quantity.{same_step}
use Rattle.ix_closure.proofs.Adopting.AddedItems.{adds_next, adds_last}
use Rattle.ix_closure.proofs.Adopting.MissingSteps.{owes_missing}
use Rattle.ix_closure.proofs.adopt.missing_steps.Goals as goal

pub loop-bank-preserved : goal.loop-bank-preserved
loop-bank-preserved c =
    let within : c.loop-bank.bank-index < length c.deref-bank-items.result.now = omega (arith, c.loop-bank-test.true) in
    let read : slice_get c.deref-bank-items.result.now c.loop-bank.bank-index ≡ Some c.bank-item.result = slice_get_read c.deref-bank-items.result.now (length c.deref-bank-items.result.now) c.loop-bank.bank-index c.bank-item.result refl within c.bank-item.is in
    let at : slice_get c.args.banks.now.banks.items c.loop-bank.bank-index ≡ Some c.bank-item.result = subst (λ (banks : List Bank). slice_get banks c.loop-bank.bank-index ≡ Some c.bank-item.result) c.deref-bank-items.ensures.value read in
    adds_next same_step c.args.banks.now.banks.items (λ (bank : Bank). IsOfSome bank.log (λ f. Lacks c.args.banks.now.banks.items (IsBroughtBy c.args.plan.now c.args.banks.now.banks.items f))) c.loop-bank.bank-index c.bank-item.result [] c.loop-bank.missing.keys c.note_bank.new.missing.keys
    at c.loop-bank.invariant c.in_ok-note_bank.ensures

pub returns : goal.returns
returns c =
    let len : length c.args.banks.now.banks.items ≡ c.loop-bank.bank-index = omega (arith, c.loop-bank-test.false, c.loop-bank.auto.bank-index-end, c.deref-bank-items.ensures.len) in
    let owes =
    owes_missing c.args.plan.now c.slot_count.ensures.planned c.args.banks.now.banks.items c.requires.sound c.loop-bank.missing.keys
    (adds_last same_step c.args.banks.now.banks.items (λ (bank : Bank). IsOfSome bank.log (λ f. Lacks c.args.banks.now.banks.items (IsBroughtBy c.args.plan.now c.args.banks.now.banks.items f))) c.loop-bank.bank-index [] c.loop-bank.missing.keys len c.loop-bank.invariant) in
    IfOk-weaker c.from_slice.result (λ owed. owed.items ≡ c.as_slice.result.now) (λ owed. OwesMissing c.args.plan.now (record { banks = c.args.banks.now.banks.items; owed = owed.items }))
    (λ owed e. subst (λ (steps : List Owed). OwesMissing c.args.plan.now (record { banks = c.args.banks.now.banks.items; owed = steps })) (sym (e ∙ c.as_slice.ensures.keys)) owes)
    c.from_slice.ensures.items
