use Rattle.std.proofs.Common.{rules, arith, refl, ◌≡◌, ◌++◌, [], ◌∷◌, List, map, length, sym, ap, ◌∙◌, subst, append-nil, append_assoc, length-append}
use Rattle.std.proofs.lemmas.List.{map-append}
use Rattle.ix_table.specs.Sights.{sight_of}
use Rattle.ix_workers.specs.declared.worker.Finished.{Finished}
use Rattle.ix_settled_laws.specs.Joined.{Share, Joins, none, one_more}
use Rattle.ix_workers.specs.Team.{back_share}
use Rattle.ix_workers.proofs.Listed.{at_next, nil_of}
use Rattle.ix_workers.proofs.team.join_all.Goals as goal

pub join-requires : goal.join-requires
join-requires c =
    let i = c.loop-one.invariant in
    (i.fits, i.root, c.requires.done (length c.loop-one.yielded) c.in-Some.one (at_next c.loop-one.yielded c.loop-one.one-iterator.rest.items c.args.done.items _ c.in-Some.one i.all c.in-Some.ensures.steps.0))

pub loop-one-init : goal.loop-one-init
loop-one-init c = record {
  fits = c.requires.root.0;
  root = c.requires.root.1;
  begun = refl;
  out = search (rules, arith);
  joins = none;
  all = search rules;
}

pub loop-one-preserved : goal.loop-one-preserved
loop-one-preserved c =
    let i = c.loop-one.invariant in
    let r = c.join.ensures.root in
    let ys = c.loop-one.yielded in
    let one = c.in-Some.one in
    let first = c.in-Some.ensures.steps.0 in
    let n = ap length i.all in
    let n' = length-append ys c.loop-one.one-iterator.rest.items in
    let f = ap length first in
    let y = length-append ys (one ∷ []) in
    let l = c.args.done.ok in
    let o = ap (λ v. v.out) r.2 in
    let was = i.out in
    record {
      fits = r.0;
      root = r.1;
      begun = ap (λ v. v.begun) r.2 ∙ i.begun;
      out = omega arith;
      joins = subst (λ (z : List Share). Joins (sight_of c.args.root.now) z (sight_of c.join.new.root)) (sym (map-append back_share ys (one ∷ []))) (one_more (map back_share ys) (sight_of c.loop-one.root) (back_share one) (sight_of c.join.new.root) i.joins c.join.ensures.own c.join.ensures.known);
      all = append_assoc ys (one ∷ []) c.next.new.self.rest.items ∙ ap (λ z. ys ++ z) (sym first) ∙ i.all;
    }

pub returns-clause-joins : goal.returns-clause-joins
returns-clause-joins c =
    let i = c.loop-one.invariant in
    let left : c.loop-one.one-iterator.rest.items ≡ [] = nil_of c.loop-one.one-iterator.rest.items (let l = c.loop-one.one-iterator.rest.ok in let z = c.in-None.ensures.steps.0 in omega arith) in
    let all : c.loop-one.yielded ≡ c.args.done.items = sym (append-nil c.loop-one.yielded) ∙ ap (λ (z : List Finished). c.loop-one.yielded ++ z) (sym left) ∙ i.all in
    subst (λ (z : List Finished). Joins (sight_of c.args.root.now) (map back_share z) (sight_of c.loop-one.root)) all i.joins
