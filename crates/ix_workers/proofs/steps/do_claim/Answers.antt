use Rattle.std.proofs.Common.{[], refl, sym, subst}
use Rattle.std.specs.List.{cons_option}
use Rattle.std.proofs.lemmas.Result.{on_ok_weaker}
use Rattle.ix_model.specs.Expansion.Parts.{Parts}
use Rattle.ix_cluster.specs.declared.answers.Claimed.{Claimed}
use Rattle.ix_cluster.specs.declared.answers.Claimed.TheVariants.{Taken, Unknown}
use Rattle.ix_cluster.specs.declared.fact.Fact.TheVariants.{Desc}
use Rattle.ix_cluster.specs.BankSteps.{MakeClaim, Belongs}
use Rattle.ix_cluster.specs.ClosedFacts.{IsInClosed}
use Rattle.ix_closure.specs.Follows.{FollowsClaim}
use Rattle.ix_table.specs.Answers.{Tells}
use Rattle.ix_table.specs.Sights.{sight_of}
use Rattle.ix_workers.proofs.Doing.{for_plan, claim_done, claim_brings_nothing, desc_pos}
use Rattle.ix_workers.proofs.steps.do_claim.Goals as goal

pub next_step-requires-clause-pos : goal.next_step-requires-clause-pos
next_step-requires-clause-pos g c =
    let d = c.args.descriptor in
    let tells = subst (λ (z : Claimed). Tells c.args.table.now.plan.now (sight_of c.args.pass.now) (MakeClaim d.slot d.left d.pos) (Belongs z) (sight_of c.claim.new.pass)) c.in-Mine.is c.claim.ensures.tells in
    desc_pos c.args.plan.now c.slot_count.ensures.planned d.slot d.left d.pos (subst (λ (p : Parts). IsInClosed p (Desc d.slot d.left d.pos)) c.requires.plan tells.0)

pub returns-in-Mine-clause-done : goal.returns-in-Mine-clause-done
returns-in-Mine-clause-done g c =
    let d = c.args.descriptor in
    let old = sight_of c.args.pass.now in
    let new = sight_of c.claim.new.pass in
    let made = for_plan c.args.table.now.plan.now c.args.plan.now old (MakeClaim d.slot d.left d.pos) (Belongs c.claim.result) new c.requires.plan c.claim.ensures.step in
    on_ok_weaker c.append.result
    (λ e. claim_done c.args.plan.now old new c.args.owed.now.items c.append.new.owed.items d.slot d.left d.pos c.claim.result (cons_option c.next_step.result []) made
    (subst (λ (z : Claimed). FollowsClaim c.args.plan.now z d.slot d.left d.pos (cons_option c.next_step.result [])) (sym c.in-Mine.is) c.next_step.ensures) e)
    c.append.ensures

pub returns-in-Taken-clause-done : goal.returns-in-Taken-clause-done
returns-in-Taken-clause-done g c =
    let d = c.args.descriptor in
    claim_brings_nothing c.args.table.now.plan.now c.args.plan.now (sight_of c.args.pass.now) (sight_of c.claim.new.pass) c.args.owed.now.items d.slot d.left d.pos c.claim.result Taken c.requires.plan c.claim.ensures.step c.in-Taken.is refl

pub returns-in-Unknown-clause-done : goal.returns-in-Unknown-clause-done
returns-in-Unknown-clause-done g c =
    let d = c.args.descriptor in
    claim_brings_nothing c.args.table.now.plan.now c.args.plan.now (sight_of c.args.pass.now) (sight_of c.claim.new.pass) c.args.owed.now.items d.slot d.left d.pos c.claim.result Unknown c.requires.plan c.claim.ensures.step c.in-Unknown.is refl
