use Rattle.std.proofs.Common.{rules, arith, ◌≡◌, ℕ, List, length, sym, ap, ◌∙◌, subst}
use Rattle.ix_cluster.specs.declared.fact.Fact.{Fact}
use Rattle.ix_table.specs.Sights.{Sight}
use Rattle.ix_workers.specs.declared.worker.Worker.{Worker}
use Rattle.ix_workers.specs.Team.{EachAt, IsNew}
use Rattle.ix_workers.proofs.Listed.{each_push}
use Rattle.ix_workers.proofs.team.new_team.Goals as goal

pub loop-hand-preserved : goal.loop-hand-preserved
loop-hand-preserved c =
    let i = c.loop-hand.invariant in
    let r = c.new_worker.ensures.root in
    let plan = c.args.plan.now in
    let table = c.args.table.now in
    let team = c.loop-hand.team.items in
    let worker : Worker = c.in_ok-new_worker.field-0 in
    let known : c.loop-hand.root.me.0.known ≡ c.args.root.now.me.0.known = ap (λ (s : Sight). s.known) i.sight in
    let number : c.len-number.result ≡ length team = search rules in
    let new : IsNew plan table c.args.root.now.me.0.known (length team) worker = subst (λ (n : ℕ). IsNew plan table c.args.root.now.me.0.known n worker) number (subst (λ (k : List (List Fact)). IsNew plan table k c.len-number.result worker) known c.in_ok-new_worker.ensures.worker) in
    record {
      fits = r.0;
      root = r.1;
      begun = ap (λ v. v.begun) r.2 ∙ i.begun;
      sight = ap (λ v. record { known = v.known; own = v.own }) r.2 ∙ i.sight;
      out = (let o = ap (λ v. v.out) r.2 in let was = i.out in let l = c.in_ok-push.ensures.len in omega arith);
      count = (let was = i.count in let l = c.in_ok-push.ensures.len in let first = ap length c.in-Some.ensures.steps.0 in omega arith);
      each = subst (EachAt (IsNew plan table c.args.root.now.me.0.known)) (sym c.in_ok-push.ensures.items) (each_push (IsNew plan table c.args.root.now.me.0.known) team worker i.each new);
    }
