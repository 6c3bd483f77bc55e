-- An end keeps a state tidy.
use Rattle.std.proofs.Common.{◌≡◌, ℕ, ◌+◌, Bool, true, false, cond, List, [], map, Contains, refl, sym, ap, ◌∙◌, subst, arith}
use Rattle.ix_model.specs.Closure.Useful.{sub_at}
use Rattle.ix_model.specs.declared.rules.Sym.TheVariants as sy
use Rattle.ix_model.specs.declared.sub.Sub.{Sub}
use Rattle.ix_model.specs.Expansion.Parts.{Parts}
use Rattle.ix_model.specs.Expansion.Planned.{IsPlanned}
use Rattle.ix_cluster.specs.declared.cluster.Edge.{Edge as Arc}
use Rattle.ix_cluster.specs.declared.fact.Fact.{Fact}
use Rattle.ix_cluster.specs.declared.fact.Fact.TheVariants as fact
use Rattle.ix_cluster.specs.Facts.{has}
use Rattle.ix_cluster.specs.Lists.{cluster}
use Rattle.ix_cluster.specs.Steps.{edges_in}
use Rattle.ix_cluster.proofs.Members.{none_has}
use Rattle.ix_closure.specs.declared.owed.Owed.{Owed}
use Rattle.ix_closure.specs.declared.owed.Owed.TheVariants.{End}
use Rattle.ix_closure.specs.Balance.{IsBalanced}
use Rattle.ix_closure.specs.Follows.{arrival}
use Rattle.ix_closure.specs.Quantity.{times}
use Rattle.ix_closure.specs.Seen.{State}
use Rattle.ix_closure.specs.Tidy.{IsTidy}
use Rattle.ix_closure.proofs.Lists.ClusterLists.{edges_from, edges_once}
use Rattle.ix_closure.proofs.Due.DueCauses.{edge_next}
use Rattle.ix_closure.proofs.Lists.ListMembers.{map_from}
use Rattle.ix_closure.proofs.Lists.OnceEach.{once_map}
use Rattle.ix_closure.proofs.Tidying.OwedTimes.{times_once}
use Rattle.ix_closure.proofs.Balancing.RecordedFacts.{recorded_closed}
use Rattle.ix_closure.proofs.Due.StepLogs.{IsBeside, has_none}
use Rattle.ix_closure.proofs.Tidying.TidyCauses.{IsSingle, IsKnown, IsBroughtOnce}
use Rattle.ix_closure.proofs.Tidying.TidyKnown.{arrival_known}
use Rattle.ix_closure.proofs.Tidying.TidyStep.{IsDone, tidy_after, ends_kept}

-- edges with one arrival are the same
same_arrival : (k e : ℕ) (a b : Arc) → arrival k e a ≡ arrival k e b → a ≡ b
same_arrival k e a b h =
    let same : sub_at (a.slot + 1) a.left k e ≡ sub_at (b.slot + 1) b.left k e = cc in
    let slot : a.slot ≡ b.slot = omega (arith, ap (λ (u : Sub). u.slot) same) in
    let left : a.left ≡ b.left = ap (λ (u : Sub). u.left) same in
    subst (λ (l : ℕ). a ≡ record { slot = b.slot; left = l }) left (subst (λ (s : ℕ). a ≡ record { slot = s; left = a.left }) slot refl)

module _ (plan : Parts) (planned : IsPlanned plan) (old new : State) (n : ℕ) (log : List Fact) (r k e : ℕ) (more : List Owed)
    (done : IsDone plan old new n log (End r k e) more) (tidy : IsTidy plan old) where
  -- what a new end meets did not arrive before
  arrival_new : has log (fact.End r k e) ≡ false → (a : Arc) → Contains (edges_in log (cluster r k)) a → ¬ (IsKnown old (arrival k e a))
  arrival_new fresh a c known =
      let next = edge_next plan planned r k a.slot a.left (recorded_closed plan old.banks tidy.balanced.sound (fact.Edge r k a.slot a.left) (done.moves.back (fact.Edge r k a.slot a.left) (edges_from (cluster r k) log a c))) in
      has_none log (fact.End r k e) fresh
      (done.moves.here (fact.End r k e) refl (arrival_known plan planned old tidy (sub_at (a.slot + 1) a.left k e) known a.slot (sy.Rule r next.0) next.1).1)

  -- what it brings is owed once, and was not known
  brought : (x : Owed) → IsSingle x → Contains more x → IsBroughtOnce old more x
  brought x single c = by (has log (fact.End r k e)) refl done.follows
    where
      by : (b : Bool) → has log (fact.End r k e) ≡ b → more ≡ map (arrival k e) (cond b [] (edges_in log (cluster r k))) → IsBroughtOnce old more x
      by true q w = absurd (none_has x (subst (λ steps. Contains steps x) w c))
      by false q w =
          let there = subst (λ steps. Contains steps x) w c in
          let a = map_from (arrival k e) (edges_in log (cluster r k)) x there in (
            ap (λ steps. times steps x) w ∙
                times_once (map (arrival k e) (edges_in log (cluster r k))) x
                (once_map (arrival k e) (edges_in log (cluster r k)) (λ a b h i. same_arrival k e a b) (edges_once (cluster r k) log done.once)) there,
            λ known. arrival_new q a.0 a.1 (subst (IsKnown old) (sym a.2) known),
          )

  -- it brings no end
  no_end : (r' k' e' : ℕ) → ¬ (Contains more (End r' k' e'))
  no_end r' k' e' c =
      let a = map_from (arrival k e) (cond (has log (fact.End r k e)) [] (edges_in log (cluster r k))) (End r' k' e') (subst (λ steps. Contains steps (End r' k' e')) done.follows c) in
      let same = a.2 in cc

  pub end_tidy : IsBalanced plan new → IsTidy plan new
  unfolding IsBeside
  end_tidy balanced = tidy_after plan planned old new n log (End r k e) more done tidy balanced tt (λ f b. absurd b) brought (ends_kept plan planned old new n log (End r k e) more done no_end)
