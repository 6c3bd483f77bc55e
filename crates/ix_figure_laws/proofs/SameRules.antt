-- Two numberings of one grammar have the same rules, and terminals that match the same.
use Rattle.std.proofs.Common.{◌≡◌, refl, ap, ap₂, sym, subst, ◌∙◌, ◌⊎◌, ◌+◌, ◌≤◌, ◌<◌, ℕ, suc, List, [], ◌∷◌, map, length, Option, Some, arith, slice_get}
use Rattle.std.specs.Char.{IsScalar}
use Rattle.std.proofs.lemmas.Option.{slice_get_past}
use mathlib.Core.Logic.{inl, inr}
use Rattle.ix_model.specs.declared.grammar.Grammar.{Grammar}
use Rattle.ix_model.specs.declared.grammar.Rule.{Rule}
use Rattle.ix_model.specs.declared.grammar.Alt.{Alt}
use Rattle.ix_model.specs.declared.grammar.Term.{Term, One, Opt, Star, Plus}
use Rattle.ix_model.specs.declared.grammar.Factor.{Factor, Group}
use Rattle.ix_model.specs.declared.rules.Kind.{Kind}
use Rattle.ix_model.specs.declared.rules.Kind.TheVariants as kind
use Rattle.ix_model.specs.declared.rules.Sym.{Sym}
use Rattle.ix_model.specs.declared.rules.Sym.TheVariants as sy
use Rattle.ix_model.specs.declared.rules.Flat.{Flat}
use Rattle.ix_model.specs.declared.rules.Rules.{Rules}
use Rattle.ix_model.specs.declared.rules.Terminal.TheVariants as terminal
use Rattle.ix_model.specs.declared.char_set.CharRange.{CharRange}
use Rattle.ix_model.specs.Grammars.Names.{HasUniqueNames}
use Rattle.ix_model.specs.Matching.Ranges.{IsInRanges}
use Rattle.ix_model.specs.Expansion.Expanded as X
use Rattle.ix_model.specs.Expansion.Expanded.{Next, line, next_syms, HasFlat, TermBecomes, RepeatBecomes, SeparatorBecomes, FactorBecomes, AltsBecome, TermsBecome, RulesBecome, Expanded}
use Rattle.ix_expansion_laws.proofs.Lowering.{of_one, of_option, of_plus, of_star, of_group, of_repeat, of_some}

-- lists that have the same at each place are one
same_lists : {A : Type 0} (xs ys : List A) → ((n : ℕ) → slice_get xs n ≡ slice_get ys n) → xs ≡ ys
same_lists [] [] h = refl
same_lists [] (y ∷ ys) h = absurd (cc (h 0))
same_lists (x ∷ xs) [] h = absurd (cc (h 0))
same_lists (x ∷ xs) (y ∷ ys) h = let e : x ≡ y = cc (h 0) in ap₂ (λ u v. u ∷ v) e (same_lists xs ys (λ n. h (suc n)))

module _ (p q : Rules) where
  -- terminal t is one literal, or a set that has what the other's has
  pub data SameTerminal (t : ℕ) : Type 0 where
    same_literal : (cs : List ℕ) → slice_get p.terminals t ≡ Some (terminal.Lit cs) → slice_get q.terminals t ≡ Some (terminal.Lit cs) → SameTerminal t
    same_set : (xs ys : List CharRange) → slice_get p.terminals t ≡ Some (terminal.Set xs) → slice_get q.terminals t ≡ Some (terminal.Set ys) → ((c : ℕ) → IsScalar c → IsInRanges c xs → IsInRanges c ys) → SameTerminal t

  -- both have the same rules and terminals from the numbers a to the numbers b
  pub record Same (a b : Next) : Type 0 where
    pub rules_rise : a.rule ≤ b.rule
    pub terminals_rise : a.terminal ≤ b.terminal
    pub flats : (r : ℕ) → a.rule ≤ r → r < b.rule → slice_get p.flats r ≡ slice_get q.flats r
    pub terminals : (t : ℕ) → a.terminal ≤ t → t < b.terminal → SameTerminal t

  none_between : (a b : Next) → a.rule ≡ b.rule → a.terminal ≡ b.terminal → Same a b
  none_between a b e o = record { rules_rise = omega (arith, e); terminals_rise = omega (arith, o); flats = λ r h k. absurd (omega (arith, e, h, k)); terminals = λ t h k. absurd (omega (arith, o, h, k)) }

  both : (a b c : Next) → Same a b → Same b c → Same a c
  both a b c h k = record {
    rules_rise = omega (arith, h.rules_rise, k.rules_rise);
    terminals_rise = omega (arith, h.terminals_rise, k.terminals_rise);
    flats = λ r l m. of_rule r l m (grind arith);
    terminals = λ t l m. of_terminal t l m (grind arith);
  }
    where
      of_rule : (r : ℕ) → a.rule ≤ r → r < c.rule → (r < b.rule) ⊎ (b.rule ≤ r) → slice_get p.flats r ≡ slice_get q.flats r
      of_rule r l m (inl o) = h.flats r l o
      of_rule r l m (inr o) = k.flats r o m

      of_terminal : (t : ℕ) → a.terminal ≤ t → t < c.terminal → (t < b.terminal) ⊎ (b.terminal ≤ t) → SameTerminal t
      of_terminal t l m (inl o) = h.terminals t l o
      of_terminal t l m (inr o) = k.terminals t o m

  one_more : (a b : Next) → slice_get p.flats a.rule ≡ slice_get q.flats a.rule → Same (record a { rule = a.rule + 1 }) b → Same a b
  one_more a b e h = record { rules_rise = omega (arith, h.rules_rise); terminals_rise = h.terminals_rise; flats = λ r l m. of_rule r l m (grind arith); terminals = h.terminals }
    where
      of_rule : (r : ℕ) → a.rule ≤ r → r < b.rule → (a.rule ≡ r) ⊎ (a.rule + 1 ≤ r) → slice_get p.flats r ≡ slice_get q.flats r
      of_rule r l m (inl o) = subst (λ (n : ℕ). slice_get p.flats n ≡ slice_get q.flats n) o e
      of_rule r l m (inr o) = h.flats r o m

  one_terminal : (a : Next) → SameTerminal a.terminal → Same a (record a { terminal = a.terminal + 1 })
  one_terminal a h = record {
    rules_rise = omega arith;
    terminals_rise = omega arith;
    flats = λ r l m. absurd (omega (arith, l, m));
    terminals = λ t l m. let e : a.terminal ≡ t = omega (arith, l, m) in subst SameTerminal e h;
  }

  -- rules of one kind with the same alternatives are one
  same_flat : (r : ℕ) (k : Kind) (ls ms : List (List Sym)) → ls ≡ ms → HasFlat p r k ls → HasFlat q r k ms → slice_get p.flats r ≡ slice_get q.flats r
  same_flat r k ls ms same e o = e ∙ ap (λ (zs : List (List Sym)). Some (flat_of k zs)) same ∙ sym o
    where
      flat_of : Kind → List (List Sym) → Flat
      flat_of n zs = record { kind = n; lines = map line zs }

  -- both get the same next numbers, P holds of what they get, and they have the same between
  pub record Alike (a b c : Next) (P : Type 0) : Type 0 where
    pub next : b ≡ c
    pub same : Same a b
    pub alike : P

  module _ (g : Grammar) (unique : HasUniqueNames g) where
    mutual
      term_alike : (a b c : Next) (t : Term) (x y : Sym) → TermBecomes g p a t x b → TermBecomes g q a t y c → Alike a b c (x ≡ y)
      term_alike a b c t x y (X.alone _ _ f _ h) k = factor_alike a b c f x y h (of_one g q a c (One f) y k f refl)
      term_alike a b c t x y (X.option _ _ f z e h) k =
          let o = of_option g q a c (Opt f) y k f refl in
          let n = factor_alike (record a { rule = a.rule + 1 }) b c f z o.0 h o.3 in
          record { next = n.next; same = one_more a b (same_flat a.rule kind.Opt _ _ (ap (λ (w : Sym). (w ∷ []) ∷ [] ∷ []) n.alike) e o.2) n.same; alike = sym o.1 }
      term_alike a b c t x y (X.plus _ _ f sep _ h) k = repeat_alike a b c f sep x y h (of_plus g q a c (Plus f sep) y k f sep refl)
      term_alike a b c t x y (X.star _ _ f sep z e h) k =
          let o = of_star g q a c (Star f sep) y k f sep refl in
          let n = repeat_alike (record a { rule = a.rule + 1 }) b c f sep z o.0 h o.3 in
          record { next = n.next; same = one_more a b (same_flat a.rule kind.Star _ _ (ap (λ (w : Sym). [] ∷ (w ∷ []) ∷ []) n.alike) e o.2) n.same; alike = sym o.1 }

      repeat_alike : (a b c : Next) (f : Factor) (sep : Option Factor) (x y : Sym) → RepeatBecomes g p a f sep x b → RepeatBecomes g q a f sep y c → Alike a b c (x ≡ y)
      repeat_alike a b c f sep x y (X.repeated _ d _ _ _ z s e h l) k =
          let o = of_repeat g q a c f sep y k in
          let n = factor_alike (record a { rule = a.rule + 1 }) d o.2 f z o.0 h o.5 in
          let m = separator_alike d b c sep s o.1 l (subst (λ (w : Next). SeparatorBecomes g q w sep o.1 c) (sym n.next) o.6) in
          record {
            next = m.next;
            same = one_more a b (same_flat a.rule kind.List _ _ (ap₂ (λ (w : Sym) (v : Option Sym). (w ∷ []) ∷ next_syms a.rule w v ∷ []) n.alike m.alike) e o.4) (both _ d b n.same m.same);
            alike = sym o.3;
          }

      separator_alike : (a b c : Next) (sep : Option Factor) (x y : Option Sym) → SeparatorBecomes g p a sep x b → SeparatorBecomes g q a sep y c → Alike a b c (x ≡ y)
      separator_alike a b c sep x y (X.no_separator _) (X.no_separator _) = record { next = refl; same = none_between a a refl refl; alike = refl }
      separator_alike a b c sep x y (X.separator _ _ f z h) k =
          let o = of_some g q a c (Some f) y k f refl in
          let n = factor_alike a b c f z o.0 h o.2 in
          record { next = n.next; same = n.same; alike = ap Some n.alike ∙ sym o.1 }

      factor_alike : (a b c : Next) (f : Factor) (x y : Sym) → FactorBecomes g p a f x b → FactorBecomes g q a f y c → Alike a b c (x ≡ y)
      factor_alike a b c f x y (X.literal _ m cs e) (X.literal _ _ _ o) = record { next = refl; same = one_terminal a (same_literal _ e o); alike = refl }
      factor_alike a b c f x y (X.set _ m exclude ms e) (X.set _ _ _ _ o) =
          record { next = refl; same = one_terminal a (same_set e.0 o.0 e.1 o.1 (λ z s h. (o.2 z s).1 ((e.2 z s).0 h))); alike = refl }
      factor_alike a b c f x y (X.inserted _ cs e) (X.inserted _ _ o) = record { next = refl; same = none_between a b refl refl; alike = refl }
      factor_alike a b c f x y (X.called _ m name r n) (X.called _ _ _ s o) = record { next = refl; same = none_between a a refl refl; alike = ap (λ (z : ℕ). sy.Rule z m) (unique r s name n o) }
      factor_alike a b c f x y (X.grouped _ _ alts ls e h) k =
          let o = of_group g q a c (Group alts) y k alts refl in
          let n = alts_alike (record a { rule = a.rule + 1 }) b c alts ls o.0 h o.3 in
          record { next = n.next; same = one_more a b (same_flat a.rule kind.Group ls o.0 n.alike e o.2) n.same; alike = sym o.1 }

      alts_alike : (a b c : Next) (alts : List Alt) (ls ms : List (List Sym)) → AltsBecome g p a alts ls b → AltsBecome g q a alts ms c → Alike a b c (ls ≡ ms)
      alts_alike a b c alts ls ms (X.no_alt _) (X.no_alt _) = record { next = refl; same = none_between a a refl refl; alike = refl }
      alts_alike a b c alts ls ms (X.and_alt _ d _ alt more xs rest h k) (X.and_alt _ e _ _ _ ys others i j) =
          let n = terms_alike a d e alt.terms xs ys h i in
          let m = alts_alike d b c more rest others k (subst (λ (w : Next). AltsBecome g q w more others c) (sym n.next) j) in
          record { next = m.next; same = both a d b n.same m.same; alike = ap₂ (λ (u : List Sym) (v : List (List Sym)). u ∷ v) n.alike m.alike }

      terms_alike : (a b c : Next) (ts : List Term) (xs ys : List Sym) → TermsBecome g p a ts xs b → TermsBecome g q a ts ys c → Alike a b c (xs ≡ ys)
      terms_alike a b c ts xs ys (X.no_term _) (X.no_term _) = record { next = refl; same = none_between a a refl refl; alike = refl }
      terms_alike a b c ts xs ys (X.and_term _ d _ t more x rest h k) (X.and_term _ e _ _ _ y others i j) =
          let n = term_alike a d e t x y h i in
          let m = terms_alike d b c more rest others k (subst (λ (w : Next). TermsBecome g q w more others c) (sym n.next) j) in
          record { next = m.next; same = both a d b n.same m.same; alike = ap₂ (λ (u : Sym) (v : List Sym). u ∷ v) n.alike m.alike }

    -- the named rules from number n on
    abbrev NamedAlike : ℕ → List Rule → Type 0
    NamedAlike n rs = (r : ℕ) → n ≤ r → r < n + length rs → slice_get p.flats r ≡ slice_get q.flats r

    rules_alike : (n : ℕ) (a b c : Next) (rs : List Rule) → RulesBecome g p n a rs b → RulesBecome g q n a rs c → Alike a b c (NamedAlike n rs)
    rules_alike n a b c rs (X.no_rule _ _) (X.no_rule _ _) = record { next = refl; same = none_between a a refl refl; alike = λ r l m. absurd (omega (arith, l, m)) }
    rules_alike n a b c rs (X.and_rule _ _ d _ rule more ls e h k) (X.and_rule _ _ f _ _ _ ms o i j) =
        let u = alts_alike a d f rule.alts ls ms h i in
        let v = rules_alike (n + 1) d b c more k (subst (λ (w : Next). RulesBecome g q (n + 1) w more c) (sym u.next) j) in
        record { next = v.next; same = both a d b u.same v.same; alike = λ r l m. of_rule u.alike v.alike r l m (grind arith) }
      where
        of_rule : ls ≡ ms → NamedAlike (n + 1) more → (r : ℕ) → n ≤ r → r < n + length (rule ∷ more) → (n ≡ r) ⊎ (n + 1 ≤ r) → slice_get p.flats r ≡ slice_get q.flats r
        of_rule u v r l m (inl z) = subst (λ (w : ℕ). slice_get p.flats w ≡ slice_get q.flats w) z (same_flat n kind.Named ls ms u e o)
        of_rule u v r l m (inr z) = v r z (omega (arith, m))

    module _ (x : Expanded g p) (y : Expanded g q) where
      walks : Alike (record { rule = length g.rules; terminal = 0; insert = 0 }) x.end y.end (NamedAlike 0 g.rules)
      walks = rules_alike 0 _ x.end y.end g.rules x.walk y.walk

      -- the rules are the same
      pub same_flats : p.flats ≡ q.flats
      same_flats = same_lists p.flats q.flats (λ r. at_place r (grind arith) (grind arith))
        where
          as_many : length p.flats ≡ length q.flats
          as_many = x.rule_count ∙ ap (λ (n : Next). n.rule) walks.next ∙ sym y.rule_count

          at_place : (r : ℕ) → (r < length g.rules) ⊎ (length g.rules ≤ r) → (r < length p.flats) ⊎ (length p.flats ≤ r) → slice_get p.flats r ≡ slice_get q.flats r
          at_place r (inl h) k = walks.alike r (omega arith) (omega (arith, h))
          at_place r (inr h) (inl k) = walks.same.flats r h (omega (arith, k, x.rule_count))
          at_place r (inr h) (inr k) = slice_get_past p.flats r k ∙ sym (slice_get_past q.flats r (omega (arith, k, as_many)))

      -- and each terminal matches the same
      pub same_terminals : (t : ℕ) → t < length p.terminals → SameTerminal t
      same_terminals t h = walks.same.terminals t (omega arith) (omega (arith, h, x.terminal_count))
