-- The walk of the expansion makes each helper rule, and what its symbols name is there.
use Rattle.std.proofs.Common.{◌≡◌, ◌≢◌, refl, ap, sym, subst, ◌∙◌, ◌⊎◌, ◌+◌, ◌≤◌, ◌<◌, ℕ, zero, suc, List, [], ◌∷◌, map, length, Option, Some, None, arith, slice_get}
use Rattle.std.specs.Prelude.{◌↔◌, unwrap_or, option_map}
use Rattle.std.specs.List.{AllByRecursion}
use Rattle.std.proofs.lemmas.List.{length-map}
use Rattle.std.proofs.lemmas.Option.{slice_get_within, slice_get_past}
use mathlib.Core.Logic.{inl, inr}
use Rattle.ix_model.specs.declared.grammar.Grammar.{Grammar}
use Rattle.ix_model.specs.declared.grammar.Rule.{Rule}
use Rattle.ix_model.specs.declared.grammar.Mark.{Mark}
use Rattle.ix_model.specs.declared.grammar.Alt.{Alt}
use Rattle.ix_model.specs.declared.grammar.Term.{Term}
use Rattle.ix_model.specs.declared.grammar.Factor.{Factor}
use Rattle.ix_model.specs.declared.rules.Kind.{Kind}
use Rattle.ix_model.specs.declared.rules.Kind.TheVariants as kind
use Rattle.ix_model.specs.declared.rules.Sym.{Sym}
use Rattle.ix_model.specs.declared.rules.Line.{Line}
use Rattle.ix_model.specs.declared.rules.Rules.{Rules}
use Rattle.ix_model.specs.Expansion.Numbered.{kind_at, syms_at}
use Rattle.ix_model.specs.Expansion.Planned.{IsThere, AreThere}
use Rattle.ix_model.specs.Expansion.Expanded as X
use Rattle.ix_model.specs.Expansion.Expanded.{Next, line, next_syms, HasFlat, TermBecomes, RepeatBecomes, SeparatorBecomes, FactorBecomes, AltsBecome, TermsBecome, RulesBecome, Expanded}
use Rattle.ix_expansion_laws.proofs.Lifting.{kind_is, rules_at}
use Rattle.ix_model.proofs.Readers.{get_within}

pub at_all : {A : Type 0} (P : A → Type 0) (xs : List A) (n : ℕ) (x : A) → AllByRecursion P xs → slice_get xs n ≡ Some x → P x
at_all P [] n x h e = absurd (cc e)
at_all P (y ∷ ys) zero x h e = let q : y ≡ x = cc e in subst P q h.0
at_all P (y ∷ ys) (suc n) x h e = at_all P ys n x h.1 e

module _ (rules : Rules) where
  abbrev pub AllThere : List Sym → Type 0
  AllThere syms = AllByRecursion (IsThere rules) syms

  abbrev pub LinesThere : List (List Sym) → Type 0
  LinesThere lines = AllByRecursion AllThere lines

  -- rule r is a helper, and what its symbols name is there
  pub record Helper (r : ℕ) : Type 0 where
    pub kind_of : Kind
    pub lines : List (List Sym)
    pub at : HasFlat rules r kind_of lines
    pub unnamed : kind_of ≢ kind.Named
    pub there : LinesThere lines

  -- from the numbers a to the numbers b each rule is such a helper
  pub record Covers (a b : Next) : Type 0 where
    pub rises : a.rule ≤ b.rule
    pub helpers : (r : ℕ) → a.rule ≤ r → r < b.rule → Helper r

  none_between : (a b : Next) → a.rule ≡ b.rule → Covers a b
  none_between a b e = record { rises = omega (arith, e); helpers = λ r h k. absurd (omega (arith, e, h, k)) }

  both : (a b c : Next) → Covers a b → Covers b c → Covers a c
  both a b c p q = record { rises = omega (arith, p.rises, q.rises); helpers = λ r h k. split r h k (grind arith) }
    where
      split : (r : ℕ) → a.rule ≤ r → r < c.rule → (r < b.rule) ⊎ (b.rule ≤ r) → Helper r
      split r h k (inl o) = p.helpers r h o
      split r h k (inr o) = q.helpers r o k

  one_more : (a b : Next) → Helper a.rule → Covers (record a { rule = a.rule + 1 }) b → Covers a b
  one_more a b h p = record { rises = omega (arith, p.rises); helpers = λ r l k. split r l k (grind arith) }
    where
      split : (r : ℕ) → a.rule ≤ r → r < b.rule → (a.rule ≡ r) ⊎ (a.rule + 1 ≤ r) → Helper r
      split r l k (inl e) = subst Helper e h
      split r l k (inr o) = p.helpers r o k

  flat_there : (r : ℕ) (k : Kind) (lines : List (List Sym)) → HasFlat rules r k lines → r < length rules.flats
  flat_there r k lines h = slice_get_within rules.flats r (record { kind = k; lines = map line lines }) h

  -- the separator's symbol, where there is one
  abbrev SeparatorThere : Option Sym → Type 0
  SeparatorThere None = Unit {0}
  SeparatorThere (Some x) = IsThere rules x

  next_there : (p : ℕ) (x : Sym) (s : Option Sym) → p < length rules.flats → IsThere rules x → SeparatorThere s → AllThere (next_syms p x s)
  next_there p x None h k l = (h, (k, tt))
  next_there p x (Some s) h k l = (h, (l, (k, tt)))

  module _ (g : Grammar) (within : (r : ℕ) → r < length g.rules → r < length rules.flats) where
    -- what a part of the grammar becomes covers its numbers, and what comes of it is there
    pub record Covered (a b : Next) (P : Type 0) : Type 0 where
      pub covers : Covers a b
      pub there : P

    mutual
      pub term_covered : (a b : Next) (t : Term) (x : Sym) → TermBecomes g rules a t x b → Covered a b (IsThere rules x)
      term_covered a b t x (X.alone _ _ f y h) = factor_covered a b f x h
      term_covered a b t x (X.option _ _ f y e h) =
          let k = factor_covered (record a { rule = a.rule + 1 }) b f y h in
          record {
            covers = one_more a b (record { kind_of = kind.Opt; lines = (y ∷ []) ∷ [] ∷ []; at = e; unnamed = λ q. cc q; there = ((k.there, tt), (tt, tt)) }) k.covers;
            there = flat_there a.rule kind.Opt ((y ∷ []) ∷ [] ∷ []) e;
          }
      term_covered a b t x (X.plus _ _ f sep p h) = repeat_covered a b f sep x h
      term_covered a b t x (X.star _ _ f sep p e h) =
          let k = repeat_covered (record a { rule = a.rule + 1 }) b f sep p h in
          record {
            covers = one_more a b (record { kind_of = kind.Star; lines = [] ∷ (p ∷ []) ∷ []; at = e; unnamed = λ q. cc q; there = (tt, ((k.there, tt), tt)) }) k.covers;
            there = flat_there a.rule kind.Star ([] ∷ (p ∷ []) ∷ []) e;
          }

      repeat_covered : (a b : Next) (f : Factor) (sep : Option Factor) (x : Sym) → RepeatBecomes g rules a f sep x b → Covered a b (IsThere rules x)
      repeat_covered a b f sep x (X.repeated _ c _ _ _ y s e h o) =
          let k = factor_covered (record a { rule = a.rule + 1 }) c f y h in
          let l = separator_covered c b sep s o in
          let lines : List (List Sym) = (y ∷ []) ∷ next_syms a.rule y s ∷ [] in
          let at = flat_there a.rule kind.List lines e in
          record {
            covers = one_more a b (record { kind_of = kind.List; lines = lines; at = e; unnamed = λ q. cc q; there = ((k.there, tt), (next_there a.rule y s at k.there l.there, tt)) }) (both _ c b k.covers l.covers);
            there = at;
          }

      separator_covered : (a b : Next) (sep : Option Factor) (s : Option Sym) → SeparatorBecomes g rules a sep s b → Covered a b (SeparatorThere s)
      separator_covered a b sep s (X.no_separator _) = record { covers = none_between a a refl; there = tt }
      separator_covered a b sep s (X.separator _ _ f x h) = factor_covered a b f x h

      factor_covered : (a b : Next) (f : Factor) (x : Sym) → FactorBecomes g rules a f x b → Covered a b (IsThere rules x)
      factor_covered a b f x (X.literal _ m cs e) = record { covers = none_between a _ refl; there = slice_get_within rules.terminals a.terminal _ e }
      factor_covered a b f x (X.set _ m exclude ms e) = record { covers = none_between a _ refl; there = slice_get_within rules.terminals a.terminal _ e.1 }
      factor_covered a b f x (X.inserted _ cs e) = record { covers = none_between a _ refl; there = slice_get_within rules.inserts a.insert _ e }
      factor_covered a b f x (X.called _ m name r n) = record { covers = none_between a a refl; there = within r (slice_get_within g.rules r n.0 n.1) }
      factor_covered a b f x (X.grouped _ _ alts lines e h) =
          let k = alts_covered (record a { rule = a.rule + 1 }) b alts lines h in
          record {
            covers = one_more a b (record { kind_of = kind.Group; lines = lines; at = e; unnamed = λ q. cc q; there = k.there }) k.covers;
            there = flat_there a.rule kind.Group lines e;
          }

      pub alts_covered : (a b : Next) (alts : List Alt) (lines : List (List Sym)) → AltsBecome g rules a alts lines b → Covered a b (LinesThere lines)
      alts_covered a b alts lines (X.no_alt _) = record { covers = none_between a a refl; there = tt }
      alts_covered a b alts lines (X.and_alt _ c _ alt more syms rest h k) =
          let p = terms_covered a c alt.terms syms h in
          let q = alts_covered c b more rest k in
          record { covers = both a c b p.covers q.covers; there = (p.there, q.there) }

      terms_covered : (a b : Next) (ts : List Term) (xs : List Sym) → TermsBecome g rules a ts xs b → Covered a b (AllThere xs)
      terms_covered a b ts xs (X.no_term _) = record { covers = none_between a a refl; there = tt }
      terms_covered a b ts xs (X.and_term _ c _ t more x rest h k) =
          let p = term_covered a c t x h in
          let q = terms_covered c b more rest k in
          record { covers = both a c b p.covers q.covers; there = (p.there, q.there) }

    pub rules_cover : (n : ℕ) (a b : Next) (rs : List Rule) → RulesBecome g rules n a rs b → Covers a b
    rules_cover n a b rs (X.no_rule _ _) = none_between a a refl
    rules_cover n a b rs (X.and_rule _ _ c _ rule more lines e h k) = both a c b (alts_covered a c rule.alts lines h).covers (rules_cover (n + 1) c b more k)

  -- a symbol of these lines
  pub line_there : (lines : List (List Sym)) (a n : ℕ) (x : Sym) → LinesThere lines → slice_get (unwrap_or (option_map (λ (l : Line). l.syms) (slice_get (map line lines) a)) []) n ≡ Some x → IsThere rules x
  line_there [] a n x h e = absurd (cc e)
  line_there (syms ∷ lines) zero n x h e = at_all (IsThere rules) syms n x h.0 e
  line_there (syms ∷ lines) (suc a) n x h e = line_there lines a n x h.1 e

-- ---- a plan of the rules of a grammar

module _ (g : Grammar) (rules : Rules) (e : Expanded g rules) where
  named_at : (r : ℕ) → r < length g.rules → (lines : List (List Sym)) × (c : Next) × (d : Next) × (alts : List Alt) × HasFlat rules r kind.Named lines × AltsBecome g rules c alts lines d
  named_at r h =
      let rule = get_within g.rules r h in
      let w = rules_at g rules 0 _ _ g.rules e.walk r rule.0 rule.1 in
      (w.0, w.1, w.2, rule.0.alts, subst (λ (n : ℕ). HasFlat rules n kind.Named w.0) (omega arith) w.3, w.4)

  within : (r : ℕ) → r < length g.rules → r < length rules.flats
  within r h = let w = named_at r h in flat_there rules r kind.Named w.0 w.4

  pub names_count : length rules.names ≡ length g.rules
  names_count = ap (λ (ns : List (List ℕ)). length ns) e.names ∙ length-map g.rules _

  pub marks_count : length rules.marks ≡ length g.rules
  marks_count = ap (λ (ms : List Mark). length ms) e.marks ∙ length-map g.rules _

  pub names_first : length g.rules ≤ length rules.flats
  names_first = omega (arith, (rules_cover rules g within 0 _ _ g.rules e.walk).rises, e.rule_count)

  helper_at : (r : ℕ) → length g.rules ≤ r → r < length rules.flats → Helper rules r
  helper_at r h k = (rules_cover rules g within 0 _ _ g.rules e.walk).helpers r h (omega (arith, k, e.rule_count))

  pub only_named : (r : ℕ) → r < length rules.flats → (kind_at rules r ≡ kind.Named) ↔ (r < length g.rules)
  only_named r h = (there, back)
    where
      back : r < length g.rules → kind_at rules r ≡ kind.Named
      back k = let w = named_at r k in kind_is g rules r kind.Named w.0 w.4

      there : kind_at rules r ≡ kind.Named → r < length g.rules
      there q = grind (arith, helps)
        where
          helps : length g.rules ≤ r → ⊥
          helps o = let k = helper_at r o h in k.unnamed (sym (kind_is g rules r k.kind_of k.lines k.at) ∙ q)

  rule_there : (r : ℕ) (k : Kind) (lines : List (List Sym)) → HasFlat rules r k lines → LinesThere rules lines → (a n : ℕ) (x : Sym) → slice_get (syms_at rules r a) n ≡ Some x → IsThere rules x
  rule_there r k lines f h a n x o = line_there rules lines a n x h (rw f at o)

  pub symbols_there : AreThere rules
  symbols_there r a n x o = by (grind arith) (grind arith)
    where
      named : r < length g.rules → IsThere rules x
      named h =
          let w = named_at r h in
          rule_there r kind.Named w.0 w.4 (alts_covered rules g within w.1 w.2 w.3 w.0 w.5).there a n x o

      helper : length g.rules ≤ r → r < length rules.flats → IsThere rules x
      helper h k = let l = helper_at r h k in rule_there r l.kind_of l.lines l.at l.there a n x o

      past : length rules.flats ≤ r → IsThere rules x
      past h = let q = rw (slice_get_past rules.flats r h) at o in absurd (cc q)

      by : (r < length g.rules) ⊎ (length g.rules ≤ r) → (r < length rules.flats) ⊎ (length rules.flats ≤ r) → IsThere rules x
      by (inl h) k = named h
      by (inr h) (inl k) = helper h k
      by (inr h) (inr k) = past k
