-- The numbered rules of a grammar are at most three times its size.
use Rattle.std.proofs.Common.{◌≡◌, ℕ, ◌+◌, ◌*◌, ◌≤◌, List, ◌∷◌, map, length, Option, Some, None, arith}
use Rattle.std.specs.Prelude.{sum}
use Rattle.std.proofs.lemmas.List.Sums.{sum_by-cons}
use Rattle.ix_model.specs.declared.grammar.Grammar.{Grammar}
use Rattle.ix_model.specs.declared.grammar.Rule.{Rule}
use Rattle.ix_model.specs.declared.grammar.Alt.{Alt}
use Rattle.ix_model.specs.declared.grammar.Term.{Term, Star, Plus}
use Rattle.ix_model.specs.declared.grammar.Factor.{Factor}
use Rattle.ix_model.specs.declared.rules.Sym.{Sym}
use Rattle.ix_model.specs.declared.rules.Rules.{Rules}
use Rattle.ix_model.specs.Expansion.Expanded as X
use Rattle.ix_model.specs.Expansion.Expanded.{Next, TermBecomes, RepeatBecomes, SeparatorBecomes, FactorBecomes, AltsBecome, TermsBecome, RulesBecome, Expanded}
use Rattle.ix_model.specs.Grammars.Size.{factor_size, term_size, alt_size, rule_size, size}
use Rattle.ix_model.proofs.Sizes.{terms_size, alts_size, rules_size, size_group, size_one, size_opt, size_star, size_star_by, size_plus, size_plus_by, size_alt}

sum_next : {A : Type 0} (f : A → ℕ) (x : A) (xs : List A) → sum (map f (x ∷ xs)) ≡ f x + sum (map f xs)
sum_next f x xs = sum_by-cons (λ n. n) (f x) (map f xs)

-- a separator counts as one, beside what stands in it
abbrev separated : Option Factor → ℕ
separated None = 0
separated (Some f) = factor_size f + 1

star_size : (f : Factor) (sep : Option Factor) → term_size (Star f sep) ≡ factor_size f + separated sep + 1
star_size f None = size_star f
star_size f (Some s) = size_star_by f s

plus_size : (f : Factor) (sep : Option Factor) → term_size (Plus f sep) ≡ factor_size f + separated sep + 1
plus_size f None = size_plus f
plus_size f (Some s) = size_plus_by f s

module _ (g : Grammar) (rules : Rules) where
  mutual
    term_rules : (a b : Next) (t : Term) (x : Sym) → TermBecomes g rules a t x b → b.rule ≤ a.rule + 3 * term_size t
    term_rules a b t x (X.alone _ _ f y h) = omega (arith, factor_rules a b f x h, size_one f)
    term_rules a b t x (X.option _ _ f y e h) = omega (arith, factor_rules (record a { rule = a.rule + 1 }) b f y h, size_opt f)
    term_rules a b t x (X.plus _ _ f sep p h) = omega (arith, repeat_rules a b f sep x h, plus_size f sep)
    term_rules a b t x (X.star _ _ f sep p e h) = omega (arith, repeat_rules (record a { rule = a.rule + 1 }) b f sep p h, star_size f sep)

    repeat_rules : (a b : Next) (f : Factor) (sep : Option Factor) (x : Sym) → RepeatBecomes g rules a f sep x b → b.rule ≤ a.rule + 2 + 3 * factor_size f + 3 * separated sep
    repeat_rules a b f sep x (X.repeated _ c _ _ _ y s e h k) = omega (arith, factor_rules (record a { rule = a.rule + 1 }) c f y h, separator_rules c b sep s k)

    separator_rules : (a b : Next) (sep : Option Factor) (s : Option Sym) → SeparatorBecomes g rules a sep s b → b.rule ≤ a.rule + 3 * separated sep
    separator_rules a b sep s (X.no_separator _) = omega arith
    separator_rules a b sep s (X.separator _ _ f x h) = omega (arith, factor_rules a b f x h)

    -- a group is a rule
    factor_rules : (a b : Next) (f : Factor) (x : Sym) → FactorBecomes g rules a f x b → b.rule ≤ a.rule + 1 + 3 * factor_size f
    factor_rules a b f x (X.literal _ m cs e) = omega arith
    factor_rules a b f x (X.set _ m exclude ms e) = omega arith
    factor_rules a b f x (X.inserted _ cs e) = omega arith
    factor_rules a b f x (X.called _ m name r e) = omega arith
    factor_rules a b f x (X.grouped _ _ alts lines e h) = omega (arith, alts_rules (record a { rule = a.rule + 1 }) b alts lines h, size_group alts)

    alts_rules : (a b : Next) (alts : List Alt) (lines : List (List Sym)) → AltsBecome g rules a alts lines b → b.rule ≤ a.rule + 3 * alts_size alts
    alts_rules a b alts lines (X.no_alt _) = omega arith
    alts_rules a b alts lines (X.and_alt _ c _ alt more syms rest h k) =
        omega (arith, terms_rules a c alt.terms syms h, alts_rules c b more rest k, size_alt alt, sum_next alt_size alt more)

    terms_rules : (a b : Next) (ts : List Term) (xs : List Sym) → TermsBecome g rules a ts xs b → b.rule ≤ a.rule + 3 * terms_size ts
    terms_rules a b ts xs (X.no_term _) = omega arith
    terms_rules a b ts xs (X.and_term _ c _ t more x rest h k) =
        omega (arith, term_rules a c t x h, terms_rules c b more rest k, sum_next term_size t more)

  rules_rules : (n : ℕ) (a b : Next) (rs : List Rule) → RulesBecome g rules n a rs b → b.rule + 3 * length rs ≤ a.rule + 3 * rules_size rs
  rules_rules n a b rs (X.no_rule _ _) = omega arith
  rules_rules n a b rs (X.and_rule _ _ c _ rule more lines e h k) =
      omega (arith, alts_rules a c rule.alts lines h, rules_rules (n + 1) c b more k, sum_next rule_size rule more)

  pub few_rules : Expanded g rules → length rules.flats ≤ 3 * size g
  few_rules e = omega (arith, e.rule_count, rules_rules 0 (record { rule = length g.rules; terminal = 0; insert = 0 }) e.end g.rules e.walk)
