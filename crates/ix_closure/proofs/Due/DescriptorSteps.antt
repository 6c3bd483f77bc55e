-- What a claimed descriptor brings, by the symbol behind its dot.
use Rattle.std.proofs.Common.{◌≡◌, ℕ, ◌+◌, ◌<◌, ◌≤◌, Bool, List, [], ◌∷◌, length, Contains, Option, Some, None, slice_get, refl, sym, ap, ◌∙◌, subst, ◌⊎◌, inl, inr, arith}
use Rattle.std.proofs.lemmas.Option.{slice_get-get_or, get_or_from_slice_get}
use Rattle.ix_model.specs.Closure.Useful.{sub_at}
use Rattle.ix_model.specs.declared.rules.Sym.{Sym}
use Rattle.ix_model.specs.declared.rules.Sym.TheVariants as sy
use Rattle.ix_model.specs.declared.rules.Terminal.{Terminal}
use Rattle.ix_model.specs.declared.rules.Terminal.TheVariants as terminal
use Rattle.ix_model.specs.Expansion.FlatDerives.{IsTerminal, TerminalMatches}
use Rattle.ix_model.specs.Expansion.Numbered.{terminal_at}
use Rattle.ix_model.specs.Expansion.Parts.{Parts}
use Rattle.ix_model.specs.Expansion.Planned.{IsPlanned}
use Rattle.ix_model.specs.Expansion.Slots.{info_at, sym_after}
use Rattle.ix_model.proofs.SlotReaders.{next_reads, last_reads, reads_next, reads_last}
use Rattle.ix_cluster.specs.declared.fact.Fact.{Fact}
use Rattle.ix_cluster.specs.declared.fact.Fact.TheVariants as fact
use Rattle.ix_cluster.proofs.Members.{one_has, none_has}
use Rattle.ix_closure.specs.declared.owed.Owed.{Owed}
use Rattle.ix_closure.specs.declared.owed.Owed.TheVariants.{Edge, End, Arrive}
use Rattle.ix_closure.specs.Due.{IsDue}
use Rattle.ix_closure.specs.Due as due
use Rattle.ix_closure.specs.Follows.{FollowsDesc, passes, stops, inserts, calls, ends}

-- a terminal ends at one place
pub one_end : (text : List ℕ) (t : Terminal) (p d e : ℕ) → TerminalMatches text t p d → TerminalMatches text t p e → d ≡ e
one_end text (terminal.Lit cs) p d e m n = omega (arith, m.0, n.0)
one_end text (terminal.Set ranges) p d e m n = omega (arith, m.2.0, n.2.0)

pub one_terminal_end : (plan : Parts) (x : Sym) (p d e : ℕ) → IsTerminal plan x p d → IsTerminal plan x p e → d ≡ e
one_terminal_end plan x p d e (t, shown, a, w, at, m) (t', shown', b, w', at', m') =
    let number : t ≡ t' = cc (w, w') in
    let same : a ≡ b = cc (at, at', number) in
    one_end plan.text b p d e (subst (λ (z : Terminal). TerminalMatches plan.text z p d) same m) m'

-- what a descriptor brings where this stands behind its dot
abbrev pub FollowsBy : Parts → ℕ → ℕ → ℕ → Option Sym → List Owed → Type 0
FollowsBy plan s l p None more = more ≡ End (info_at plan s).head l p ∷ []
FollowsBy plan s l p (Some (sy.Rule r mark)) more = more ≡ Edge r p s l ∷ []
FollowsBy plan s l p (Some (sy.Insert n)) more = more ≡ Arrive (sub_at (s + 1) l p p) ∷ []
FollowsBy plan s l p (Some (sy.Term t shown)) more =
    ((e : ℕ) × IsTerminal plan (sy.Term t shown) p e × (more ≡ Arrive (sub_at (s + 1) l p e) ∷ [])) ⊎ (((e : ℕ) → IsTerminal plan (sy.Term t shown) p e → ⊥) × (more ≡ []))

module _ (plan : Parts) (planned : IsPlanned plan) (s l p : ℕ) where
  -- in the words of the closure
  pub reads_follows : (o : Option Sym) (more : List Owed) → s < length plan.slots → sym_after plan s ≡ o → FollowsBy plan s l p o more → FollowsDesc plan s l p more
  reads_follows None more h e w =
      subst (FollowsDesc plan s l p) (sym w) (ends (info_at plan s).head (reads_last plan planned s (info_at plan s).head (h, refl, e)))
  reads_follows (Some (sy.Rule r mark)) more h e w =
      subst (FollowsDesc plan s l p) (sym w) (calls r (s + 1) mark (reads_next plan planned s (s + 1) (sy.Rule r mark) (h, e, refl)))
  reads_follows (Some (sy.Insert n)) more h e w =
      subst (FollowsDesc plan s l p) (sym w) (inserts n (s + 1) (reads_next plan planned s (s + 1) (sy.Insert n) (h, e, refl)))
  reads_follows (Some (sy.Term t shown)) more h e (inl (d, m, w)) =
      subst (FollowsDesc plan s l p) (sym w) (passes (sy.Term t shown) (s + 1) d (reads_next plan planned s (s + 1) (sy.Term t shown) (h, e, refl)) m)
  reads_follows (Some (sy.Term t shown)) more h e (inr (none, w)) =
      subst (FollowsDesc plan s l p) (sym w) (stops t shown (s + 1) (reads_next plan planned s (s + 1) (sy.Term t shown) (h, e, refl)) none)

  by_symbol : (x : Sym) (more : List Owed) → sym_after plan s ≡ Some x → FollowsBy plan s l p (Some x) more → FollowsBy plan s l p (sym_after plan s) more
  by_symbol x more e w = subst (λ o. FollowsBy plan s l p o more) (sym e) w

  -- and back
  pub follows_reads : (more : List Owed) → FollowsDesc plan s l p more → FollowsBy plan s l p (sym_after plan s) more
  follows_reads more (passes x after e next m) =
      let r = next_reads plan planned s after x next in
      let w : x ≡ sy.Term m.0 m.1 = m.3 in
      let at : Arrive (sub_at after l p e) ∷ [] ≡ Arrive (sub_at (s + 1) l p e) ∷ [] = ap (λ n. Arrive (sub_at n l p e) ∷ []) r.2 in
      by_symbol (sy.Term m.0 m.1) (Arrive (sub_at after l p e) ∷ []) (r.1 ∙ ap Some w) (inl (e, (m.0, m.1, m.2, refl, m.4, m.5), at))
  follows_reads more (stops t shown after next none) =
      by_symbol (sy.Term t shown) [] (next_reads plan planned s after (sy.Term t shown) next).1 (inr (none, refl))
  follows_reads more (inserts n after next) =
      let r = next_reads plan planned s after (sy.Insert n) next in
      by_symbol (sy.Insert n) (Arrive (sub_at after l p p) ∷ []) r.1 (ap (λ n. Arrive (sub_at n l p p) ∷ []) r.2)
  follows_reads more (calls r after mark next) =
      by_symbol (sy.Rule r mark) (Edge r p s l ∷ []) (next_reads plan planned s after (sy.Rule r mark) next).1 refl
  follows_reads more (ends r last) =
      let w = last_reads plan s r last in
      subst (λ o. FollowsBy plan s l p o (End r l p ∷ [])) (sym w.2) (ap (λ n. End n l p ∷ []) (sym w.1))

  one_by : (o : Option Sym) (a b : List Owed) → FollowsBy plan s l p o a → FollowsBy plan s l p o b → a ≡ b
  one_by None a b v w = v ∙ sym w
  one_by (Some (sy.Rule r mark)) a b v w = v ∙ sym w
  one_by (Some (sy.Insert n)) a b v w = v ∙ sym w
  one_by (Some (sy.Term t shown)) a b (inl (d, m, v)) (inl (e, n, w)) = v ∙ ap (λ z. Arrive (sub_at (s + 1) l p z) ∷ []) (one_terminal_end plan (sy.Term t shown) p d e m n) ∙ sym w
  one_by (Some (sy.Term t shown)) a b (inl (d, m, v)) (inr (none, w)) = absurd (none d m)
  one_by (Some (sy.Term t shown)) a b (inr (none, v)) (inl (e, n, w)) = absurd (none e n)
  one_by (Some (sy.Term t shown)) a b (inr (none, v)) (inr (none', w)) = v ∙ sym w

  -- so a descriptor brings one list of steps
  pub follows_same : (a b : List Owed) → FollowsDesc plan s l p a → FollowsDesc plan s l p b → a ≡ b
  follows_same a b v w = one_by (sym_after plan s) a b (follows_reads a v) (follows_reads b w)

  -- a terminal that stands there, and one that does not, by the number of the terminal
  pub passes_term : (t : ℕ) (shown : Bool) (after e : ℕ) → s < length plan.slots → sym_after plan s ≡ Some (sy.Term t shown) → t < length plan.rules.terminals → TerminalMatches plan.text (terminal_at plan.rules t) p e → after ≡ s + 1 → FollowsDesc plan s l p (Arrive (sub_at after l p e) ∷ [])
  passes_term t shown after e h w there m number =
      passes (sy.Term t shown) after e (reads_next plan planned s after (sy.Term t shown) (h, w, number))
      (t, shown, terminal_at plan.rules t, refl, slice_get-get_or plan.rules.terminals t (terminal.Lit []) there, m)

  pub stops_term : (t : ℕ) (shown : Bool) → s < length plan.slots → sym_after plan s ≡ Some (sy.Term t shown) → ((e : ℕ) → TerminalMatches plan.text (terminal_at plan.rules t) p e → ⊥) → FollowsDesc plan s l p []
  stops_term t shown h w none = stops t shown (s + 1) (reads_next plan planned s (s + 1) (sy.Term t shown) (h, w, refl)) never
    where
      never : (e : ℕ) → IsTerminal plan (sy.Term t shown) p e → ⊥
      never e m =
          let number : m.0 ≡ t = (cc (m.3)) in
          let same : terminal_at plan.rules t ≡ m.2 = get_or_from_slice_get plan.rules.terminals t m.2 (terminal.Lit []) (ap (slice_get plan.rules.terminals) (sym number) ∙ m.4) in
          none e (subst (λ (z : Terminal). TerminalMatches plan.text z p e) (sym same) m.5)

-- it is one step at most
pub follows_few : (plan : Parts) (s l p : ℕ) (more : List Owed) → FollowsDesc plan s l p more → length more ≤ 1
follows_few plan s l p more (passes x after e next t) = omega arith
follows_few plan s l p more (stops t shown after next none) = omega arith
follows_few plan s l p more (inserts n after next) = omega arith
follows_few plan s l p more (calls r after mark next) = omega arith
follows_few plan s l p more (ends r last) = omega arith

-- and it is due, where the descriptor is claimed
pub follows_due : (plan : Parts) (Holds : Fact → Type 0) (s l p : ℕ) (more : List Owed) (o : Owed) → Holds (fact.Claim s l p) → FollowsDesc plan s l p more → Contains more o → IsDue plan Holds o
follows_due plan Holds s l p more o h (passes x after e next t) c = subst (IsDue plan Holds) (one_has (Arrive (sub_at after l p e)) o c) (due.passed s l p after e x h next t)
follows_due plan Holds s l p more o h (stops t shown after next none) c = absurd (none_has o c)
follows_due plan Holds s l p more o h (inserts n after next) c = subst (IsDue plan Holds) (one_has (Arrive (sub_at after l p p)) o c) (due.inserted s l p after n h next)
follows_due plan Holds s l p more o h (calls r after mark next) c = subst (IsDue plan Holds) (one_has (Edge r p s l) o c) (due.waits s l p after r mark h next)
follows_due plan Holds s l p more o h (ends r last) c = subst (IsDue plan Holds) (one_has (End r l p) o c) (due.ends s l p r h last)
