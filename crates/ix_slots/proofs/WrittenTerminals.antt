-- A terminal matches where the literal or set that has become it does.
use Rattle.std.proofs.Common.{◌≡◌, refl, ap, sym, subst, ◌∙◌, ◌⊎◌, ℕ, List, [], Option, Some, Bool, slice_get}
use Rattle.std.proofs.lemmas.Option.{get_or_from_slice_get}
use mathlib.Core.Logic.{inl, inr}
use Rattle.std.specs.Char.{IsScalar}
use Rattle.std.specs.List.{AllByRecursion}
use Rattle.ix_model.specs.declared.grammar.Grammar.{Grammar}
use Rattle.ix_model.specs.declared.grammar.Chars.{Chars}
use Rattle.ix_model.specs.declared.grammar.Member.{Member}
use Rattle.ix_model.specs.declared.grammar.TMark.{TMark}
use Rattle.ix_model.specs.declared.grammar.Term.{Term, One}
use Rattle.ix_model.specs.declared.grammar.Factor.{Factor, Lit, Set}
use Rattle.ix_model.specs.declared.rules.Rules.{Rules}
use Rattle.ix_model.specs.declared.rules.Sym.{Sym}
use Rattle.ix_model.specs.declared.rules.Sym.TheVariants as sy
use Rattle.ix_model.specs.declared.rules.Terminal.{Terminal}
use Rattle.ix_model.specs.declared.rules.Terminal.TheVariants as terminal
use Rattle.ix_model.specs.Matching.Codes.{characters}
use Rattle.ix_model.specs.Matching.Sets.{InSet}
use Rattle.ix_model.specs.Matching.Terminals.{StandsAt, Matches}
use Rattle.ix_model.specs.Expansion.Numbered.{terminal_at}
use Rattle.ix_model.specs.Expansion.Expanded as X
use Rattle.ix_model.specs.Expansion.Expanded.{Next, FactorBecomes, HasSet}
use Rattle.ix_model.specs.Expansion.FlatDerives.{TerminalMatches}
use Rattle.ix_expansion_laws.proofs.Lifting.{stands_char}

-- the factor is a literal or a set, and terminal n is what it becomes
abbrev pub HasBecome : Rules → Factor → ℕ → Type 0
HasBecome rules f n =
    ((m : Option TMark) × (cs : Chars) × (f ≡ Lit m cs) × (slice_get rules.terminals n ≡ Some (terminal.Lit (characters cs))))
    ⊎ ((m : Option TMark) × (exclude : Bool) × (ms : List Member) × (f ≡ Set m exclude ms) × HasSet rules n exclude ms)

pub become : (g : Grammar) (rules : Rules) (a b : Next) (f : Factor) (x : Sym) (n : ℕ) (shown : Bool) → x ≡ sy.Term n shown → FactorBecomes g rules a f x b → HasBecome rules f n
become g rules a b f x n shown q (X.literal _ m cs e) =
    let k : a.terminal ≡ n = cc q in
    inl (m, cs, refl, subst (λ (z : ℕ). slice_get rules.terminals z ≡ Some (terminal.Lit (characters cs))) k e)
become g rules a b f x n shown q (X.set _ m exclude ms has) =
    let k : a.terminal ≡ n = cc q in
    inr (m, exclude, ms, refl, subst (λ (z : ℕ). HasSet rules z exclude ms) k has)
become g rules a b f x n shown q (X.inserted _ cs e) = absurd (cc q)
become g rules a b f x n shown q (X.called _ m name r e) = absurd (cc q)
become g rules a b f x n shown q (X.grouped _ _ alts lines e h) = absurd (cc q)

module _ (rules : Rules) (s : List ℕ) (i j : ℕ) where
  -- what stands at a number of a terminal
  at_number : (n : ℕ) (t : Terminal) → slice_get rules.terminals n ≡ Some t → terminal_at rules n ≡ t
  at_number n t e = get_or_from_slice_get rules.terminals n t (terminal.Lit []) e

  literal_to : (n : ℕ) (m : Option TMark) (cs : Chars) → slice_get rules.terminals n ≡ Some (terminal.Lit (characters cs)) → TerminalMatches s (terminal_at rules n) i j → Matches s (One (Lit m cs)) i j
  literal_to n m cs e h = inl (m, cs, refl, subst (λ (t : Terminal). TerminalMatches s t i j) (at_number n _ e) h)

  literal_from : (n : ℕ) (m : Option TMark) (cs : Chars) → slice_get rules.terminals n ≡ Some (terminal.Lit (characters cs)) → Matches s (One (Lit m cs)) i j → TerminalMatches s (terminal_at rules n) i j
  literal_from n m cs e (inl (m', cs', p, h)) =
      let same : cs' ≡ cs = cc p in
      subst (λ (t : Terminal). TerminalMatches s t i j) (sym (at_number n _ e)) (subst (λ (z : Chars). StandsAt s (characters z) i j) same h)
  literal_from n m cs e (inr (m', exclude, ms, c, p, has, stands)) = absurd (cc p)

  module _ (chars : AllByRecursion IsScalar s) where
    set_to : (n : ℕ) (m : Option TMark) (exclude : Bool) (ms : List Member) → HasSet rules n exclude ms → TerminalMatches s (terminal_at rules n) i j → Matches s (One (Set m exclude ms)) i j
    set_to n m exclude ms (ranges, e, same) h =
        let k : TerminalMatches s (terminal.Set ranges) i j = subst (λ (t : Terminal). TerminalMatches s t i j) (at_number n _ e) h in
        inr (m, exclude, ms, k.0, refl, (same k.0 (stands_char s i k.0 chars k.2.2)).0 k.1, k.2)

    set_from : (n : ℕ) (m : Option TMark) (exclude : Bool) (ms : List Member) → HasSet rules n exclude ms → Matches s (One (Set m exclude ms)) i j → TerminalMatches s (terminal_at rules n) i j
    set_from n m exclude ms has (inl (m', cs, p, h)) = absurd (cc p)
    set_from n m exclude ms (ranges, e, same) (inr (m', exclude', ms', c, p, has, stands)) =
        let q : exclude' ≡ exclude = cc p in
        let r : ms' ≡ ms = cc p in
        let here : InSet exclude ms c = subst (λ (z : List Member). InSet exclude z c) r (subst (λ (z : Bool). InSet z ms' c) q has) in
        subst (λ (t : Terminal). TerminalMatches s t i j) (sym (at_number n _ e)) (c, (same c (stands_char s i c chars stands.2)).1 here, stands)

    pub to_written : (f : Factor) (n : ℕ) → HasBecome rules f n → TerminalMatches s (terminal_at rules n) i j → Matches s (One f) i j
    to_written f n (inl (m, cs, p, e)) h = subst (λ (z : Factor). Matches s (One z) i j) (sym p) (literal_to n m cs e h)
    to_written f n (inr (m, exclude, ms, p, has)) h = subst (λ (z : Factor). Matches s (One z) i j) (sym p) (set_to n m exclude ms has h)

    pub from_written : (f : Factor) (n : ℕ) → HasBecome rules f n → Matches s (One f) i j → TerminalMatches s (terminal_at rules n) i j
    from_written f n (inl (m, cs, p, e)) h = literal_from n m cs e (subst (λ (z : Factor). Matches s (One z) i j) p h)
    from_written f n (inr (m, exclude, ms, p, has)) h = set_from n m exclude ms has (subst (λ (z : Factor). Matches s (One z) i j) p h)
