-- The numbered rules of a grammar with each form of term.
use Rattle.std.proofs.Common.{◌≡◌, ◌<◌, refl, ap, ℕ, [], ◌∷◌, Some, None, false, codes, length, arith}
use Rattle.ix_model.specs.declared.grammar.Mark.TheVariants.{Attribute}
use Rattle.ix_model.specs.declared.rules.Sym.TheVariants as sy
use Rattle.ix_model.specs.declared.rules.Rules.{Rules}
use Rattle.ix_model.specs.Expansion.Expanded as X
use Rattle.ix_model.specs.Expansion.Expanded.{Next, HasSet, FactorBecomes, TermBecomes, AltsBecome, RulesBecome, Expanded}
use Rattle.ix_examples.specs.SmallGrammars.{grammar, digits}
use Rattle.ix_examples.specs.SmallRules.{helper, shown, range}
use Rattle.ix_examples.specs.SmallHelpers.{option_or_digit, comma_or_semicolon, many_helpers, left_out, many_rules}

-- the numbers that come next
abbrev at_numbers : (rule terminal insert : ℕ) → Next
at_numbers rule terminal insert = record { rule = rule; terminal = terminal; insert = insert }

set_of_digits : HasSet many_rules 0 false (digits ∷ [])
set_of_digits = (range 48 57 ∷ [], refl, λ x h. (λ k. k, λ k. k))

-- the item has the helpers 3 and 4, and the first terminal
item_becomes : FactorBecomes many_helpers many_rules (at_numbers 3 0 0) option_or_digit (helper 3) (at_numbers 5 1 0)
item_becomes = X.grouped _ _ _ ((helper 4 ∷ []) ∷ (shown 0 ∷ []) ∷ []) refl
    (X.and_alt _ _ _ _ _ _ _ (X.and_term _ _ _ _ _ _ _ (X.option _ _ _ (helper 1) refl (X.called _ None (codes "b") 1 (_, refl, refl))) (X.no_term _))
    (X.and_alt _ _ _ _ _ _ _ (X.and_term _ _ _ _ _ _ _ (X.alone _ _ _ _ (X.set _ None false _ set_of_digits)) (X.no_term _)) (X.no_alt _)))

-- the separator has the helper behind them, and two terminals
separator_becomes : FactorBecomes many_helpers many_rules (at_numbers 5 1 0) comma_or_semicolon (helper 5) (at_numbers 6 3 0)
separator_becomes = X.grouped _ _ _ ((left_out 1 ∷ []) ∷ (shown 2 ∷ []) ∷ []) refl
    (X.and_alt _ _ _ _ _ _ _ (X.and_term _ _ _ _ _ _ _ (X.alone _ _ _ _ (X.literal _ _ _ refl)) (X.no_term _))
    (X.and_alt _ _ _ _ _ _ _ (X.and_term _ _ _ _ _ _ _ (X.alone _ _ _ _ (X.literal _ _ _ refl)) (X.no_term _)) (X.no_alt _)))

pub expands_many : Expanded many_helpers many_rules
expands_many = record {
  end = at_numbers 8 4 1;
  names = refl;
  marks = refl;
  walk =
      X.and_rule _ _ _ _ _ _ ((helper 2 ∷ sy.Rule 1 (Some Attribute) ∷ sy.Insert 0 ∷ []) ∷ []) refl
      (X.and_alt _ _ _ _ _ _ _
      (X.and_term _ _ _ _ _ _ _ (X.plus _ _ _ _ _ (X.repeated _ _ _ _ _ (helper 3) (Some (helper 5)) refl item_becomes (X.separator _ _ _ _ separator_becomes)))
      (X.and_term _ _ _ _ _ _ _ (X.alone _ _ _ _ (X.called _ (Some Attribute) (codes "b") 1 (_, refl, refl)))
      (X.and_term _ _ _ _ _ _ _ (X.alone _ _ _ _ (X.inserted _ _ refl)) (X.no_term _))))
      (X.no_alt _))
      (X.and_rule _ _ _ _ _ _ ((helper 6 ∷ []) ∷ []) refl
      (X.and_alt _ _ _ _ _ _ _
      (X.and_term _ _ _ _ _ _ _ (X.star _ _ _ _ (helper 7) refl (X.repeated _ _ _ _ _ (left_out 3) None refl (X.literal _ _ _ refl) (X.no_separator _)))
      (X.no_term _))
      (X.no_alt _))
      (X.no_rule _ _));
  rule_count = refl;
  terminal_count = refl;
  insert_count = refl;
}

-- ---- a grammar without a rule

no_step : (rules : Rules) (n : ℕ) (a b : Next) → RulesBecome (grammar []) rules n a [] b → a ≡ b
no_step rules _ _ _ (X.no_rule n a) = refl

at_start : (rules : Rules) (e : Expanded (grammar []) rules) → at_numbers 0 0 0 ≡ e.end
at_start rules e = no_step rules 0 _ _ e.walk

pub no_flats : (rules : Rules) → 0 < length rules.flats → Expanded (grammar []) rules → ⊥
no_flats rules l e = omega (arith, l, e.rule_count, ap (λ (n : Next). n.rule) (at_start rules e))

pub no_terminals : (rules : Rules) → 0 < length rules.terminals → Expanded (grammar []) rules → ⊥
no_terminals rules l e = omega (arith, l, e.terminal_count, ap (λ (n : Next). n.terminal) (at_start rules e))

pub no_inserts : (rules : Rules) → 0 < length rules.inserts → Expanded (grammar []) rules → ⊥
no_inserts rules l e = omega (arith, l, e.insert_count, ap (λ (n : Next). n.insert) (at_start rules e))
