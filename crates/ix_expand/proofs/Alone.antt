-- What literals, sets and insertions become.
use Rattle.std.proofs.Common.{◌≡◌, sym as symm, ap, ◌∙◌, subst, ℕ, ◌+◌, List, length, Option, Some, Bool}
use Rattle.std.specs.Prelude.{slice_get}
use Rattle.ix_model.specs.declared.grammar.Grammar.{Grammar}
use Rattle.ix_model.specs.declared.grammar.TMark.{TMark}
use Rattle.ix_model.specs.declared.grammar.Chars.{Chars}
use Rattle.ix_model.specs.declared.grammar.Member.{Member}
use Rattle.ix_model.specs.declared.grammar.Factor.{Factor, Lit, Set, Insert}
use Rattle.ix_model.specs.declared.char_set.CharRange.{CharRange}
use Rattle.ix_model.specs.declared.rules.Rules.{Rules}
use Rattle.ix_model.specs.declared.rules.Sym.{Sym}
use Rattle.ix_model.specs.declared.rules.Sym.TheVariants as sym
use Rattle.ix_model.specs.declared.rules.Terminal.TheVariants as terminal
use Rattle.ix_model.specs.Documents.Bare.{is_shown_by}
use Rattle.ix_model.specs.Matching.Codes.{characters}
use Rattle.ix_model.specs.Expansion.Expanded as X
use Rattle.ix_model.specs.Expansion.Expanded.{Next, FactorBecomes}
use Rattle.ix_sets.specs.SetOf.{IsSetOf}
use Rattle.ix_expand.specs.declared.made.Made.{Made}
use Rattle.ix_expand.specs.Growth.{next, with_terminal, with_insert, Makes}
use Rattle.ix_expand.proofs.Growing.{makes_as, NewTerminal, NewInsert, terminal_made, insert_made}

module _ (g : Grammar) (a b : Made) where
  pub literal_made : (m : Option TMark) (cs : Chars) (text : List ℕ) (n : ℕ) (shown : Bool) → b ≡ with_terminal a (terminal.Lit text) → text ≡ characters cs → n ≡ length a.terminals → shown ≡ is_shown_by m →
      Makes a b (λ rules x y. FactorBecomes g rules x (Lit m cs) (sym.Term n shown) y)
  literal_made m cs text n shown e said numbered shows =
      makes_as (NewTerminal (terminal.Lit (characters cs))) _ a b
      (λ rules h. becomes rules h.0 h.1)
      (terminal_made a b (terminal.Lit (characters cs)) (e ∙ ap (λ (t : List ℕ). with_terminal a (terminal.Lit t)) said))
    where
      symbol : sym.Term (length a.terminals) (is_shown_by m) ≡ sym.Term n shown
      symbol = ap (λ (k : ℕ). sym.Term k (is_shown_by m)) (symm numbered) ∙ ap (sym.Term n) (symm shows)

      becomes : (rules : Rules) → slice_get rules.terminals (length a.terminals) ≡ Some (terminal.Lit (characters cs)) → next b ≡ record (next a) { terminal = length a.terminals + 1 } → FactorBecomes g rules (next a) (Lit m cs) (sym.Term n shown) (next b)
      becomes rules at after =
          subst (λ (s : Sym). FactorBecomes g rules (next a) (Lit m cs) s (next b)) symbol
          (subst (λ (y : Next). FactorBecomes g rules (next a) (Lit m cs) (sym.Term (length a.terminals) (is_shown_by m)) y) (symm after) (X.literal (next a) m cs at))

  pub set_made : (f : Factor) (m : Option TMark) (ranges : List CharRange) (n : ℕ) (shown : Bool) → b ≡ with_terminal a (terminal.Set ranges) → (exclude : Bool) × (ms : List Member) × (f ≡ Set m exclude ms) → IsSetOf ranges f → n ≡ length a.terminals → shown ≡ is_shown_by m →
      Makes a b (λ rules x y. FactorBecomes g rules x f (sym.Term n shown) y)
  set_made f m ranges n shown e (exclude, ms, is) holds numbered shows =
      makes_as (NewTerminal (terminal.Set ranges)) _ a b
      (λ rules h. becomes rules h.0 h.1)
      (terminal_made a b (terminal.Set ranges) e)
    where
      symbol : sym.Term (length a.terminals) (is_shown_by m) ≡ sym.Term n shown
      symbol = ap (λ (k : ℕ). sym.Term k (is_shown_by m)) (symm numbered) ∙ ap (sym.Term n) (symm shows)

      becomes : (rules : Rules) → slice_get rules.terminals (length a.terminals) ≡ Some (terminal.Set ranges) → next b ≡ record (next a) { terminal = length a.terminals + 1 } → FactorBecomes g rules (next a) f (sym.Term n shown) (next b)
      becomes rules at after =
          subst (λ (s : Sym). FactorBecomes g rules (next a) f s (next b)) symbol
          (subst (λ (y : Next). FactorBecomes g rules (next a) f (sym.Term (length a.terminals) (is_shown_by m)) y) (symm after)
          (subst (λ (h : Factor). FactorBecomes g rules (next a) h (sym.Term (length a.terminals) (is_shown_by m)) (record (next a) { terminal = length a.terminals + 1 })) (symm is)
          (X.set (next a) m exclude ms (ranges, at, subst (IsSetOf ranges) is holds))))

  pub insertion_made : (cs : Chars) (text : List ℕ) (n : ℕ) → b ≡ with_insert a text → text ≡ characters cs → n ≡ length a.inserts →
      Makes a b (λ rules x y. FactorBecomes g rules x (Insert cs) (sym.Insert n) y)
  insertion_made cs text n e said numbered =
      makes_as (NewInsert (characters cs)) _ a b
      (λ rules h. becomes rules h.0 h.1)
      (insert_made a b (characters cs) (e ∙ ap (with_insert a) said))
    where
      becomes : (rules : Rules) → slice_get rules.inserts (length a.inserts) ≡ Some (characters cs) → next b ≡ record (next a) { insert = length a.inserts + 1 } → FactorBecomes g rules (next a) (Insert cs) (sym.Insert n) (next b)
      becomes rules at after =
          subst (λ (k : ℕ). FactorBecomes g rules (next a) (Insert cs) (sym.Insert k) (next b)) (symm numbered)
          (subst (λ (y : Next). FactorBecomes g rules (next a) (Insert cs) (sym.Insert (length a.inserts)) y) (symm after) (X.inserted (next a) cs at))
