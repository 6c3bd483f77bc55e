-- A text has one number of descriptors and of useful subtrees under a grammar.
use Rattle.std.proofs.Common.{◌≡◌, ℕ, List, Some, slice_get, sym, ap, ap₂, ◌∙◌, subst}
use Rattle.std.specs.Char.{IsScalar}
use Rattle.std.specs.List.{AllByRecursion}
use Rattle.std.proofs.lemmas.Option.{slice_get_within}
use Rattle.ix_model.specs.declared.counts.Counts.{Counts}
use Rattle.ix_model.specs.declared.grammar.Grammar.{Grammar}
use Rattle.ix_model.specs.declared.rules.Terminal.{Terminal}
use Rattle.ix_model.specs.declared.rules.Terminal.TheVariants as terminal
use Rattle.ix_model.specs.Closure.Closed.{Desc}
use Rattle.ix_model.specs.Closure.Figures.{Dot, IsCounted}
use Rattle.ix_model.specs.Closure.Useful.{Useful}
use Rattle.ix_model.specs.Expansion.FlatDerives.{TerminalMatches}
use Rattle.ix_model.specs.Expansion.Numbering.{numbering}
use Rattle.ix_model.specs.Expansion.Parts.{Parts}
use Rattle.ix_model.specs.Expansion.Planned.{IsPlanned, IsPlanOf}
use Rattle.ix_expansion_laws.proofs.Lifting.{stands_char}
use Rattle.ix_figure_laws.proofs.CountsOnce.{counts_agree}
use Rattle.ix_figure_laws.proofs.SameClosure.{Follows, desc}
use Rattle.ix_figure_laws.proofs.SameRules.{SameTerminal, same_literal, same_set, same_flats, same_terminals}
use Rattle.ix_figure_laws.proofs.SameTrees.{useful}

module _ (p q : Parts) where
  -- a terminal of the one matches what the other's matches
  matches : (t i j : ℕ) (m : Terminal) → AllByRecursion IsScalar p.text → p.text ≡ q.text → SameTerminal p.rules q.rules t → slice_get p.rules.terminals t ≡ Some m → TerminalMatches p.text m i j →
      (n : Terminal) × (slice_get q.rules.terminals t ≡ Some n) × TerminalMatches q.text n i j
  matches t i j m chars same (same_literal cs e o) f h =
      let k : m ≡ terminal.Lit cs = cc (e, f) in
      (terminal.Lit cs, o, subst (λ (text : List ℕ). TerminalMatches text (terminal.Lit cs) i j) same (subst (λ (z : Terminal). TerminalMatches p.text z i j) k h))
  matches t i j m chars same (same_set xs ys e o within) f h =
      let k : m ≡ terminal.Set xs = cc (e, f) in
      let one = subst (λ (z : Terminal). TerminalMatches p.text z i j) k h in
      let scalar = stands_char p.text i one.0 chars one.2.2 in
      (terminal.Set ys, o, subst (λ (text : List ℕ). TerminalMatches text (terminal.Set ys) i j) same (one.0, within one.0 scalar one.1, one.2))

  -- plans of one grammar and one text follow each other
  plans_follow : (g : Grammar) → IsPlanOf g p → IsPlanOf g q → IsPlanned p → IsPlanned q → p.text ≡ q.text → Follows p q
  plans_follow g a b c d same = record {
    slots = c.numbered ∙ ap numbering flats ∙ sym d.numbered;
    flats = flats;
    text = same;
    terminals = λ x i j (t, shown, m, e, f, h).
        let n = matches t i j m a.text same (same_terminals p.rules q.rules g a.unique a.expanded b.expanded t (slice_get_within p.rules.terminals t m f)) f h in
        (t, shown, n.0, e, n.1, n.2);
  }
    where
      flats : p.rules.flats ≡ q.rules.flats
      flats = same_flats p.rules q.rules g a.unique a.expanded b.expanded

pub figures_are_one : (g : Grammar) (s : List ℕ) (p q : Parts) (a b : Counts) → IsCounted g s p a → IsCounted g s q b → a ≡ b
figures_are_one g s p q a b h k =
    let same = h.text ∙ sym k.text in
    let there = plans_follow p q g h.plan_of k.plan_of h.planned k.planned same in
    let back = plans_follow q p g k.plan_of h.plan_of k.planned h.planned (sym same) in
    ap₂ (λ (m n : ℕ). record { descriptors = m; subtrees = n })
    (counts_agree (λ (d : Dot). Desc p d.slot d.left d.pos) (λ (d : Dot). Desc q d.slot d.left d.pos) (λ d. desc p q there d.slot d.left d.pos) (λ d. desc q p back d.slot d.left d.pos) a.descriptors b.descriptors h.counts_of.descriptors k.counts_of.descriptors)
    (counts_agree (Useful p) (Useful q) (useful p q there) (useful q p back) a.subtrees b.subtrees h.counts_of.subtrees k.counts_of.subtrees)
