use Rattle.std.proofs.Common.{◌<◌, ℕ, zero, suc, arith}
use Rattle.ix_model.specs.Expansion.FlatTrees.{FlatTrees, flat_text}
use Rattle.ix_examples.specs.SmallPlans.{a_by, alone}
use Rattle.ix_first_laws.specs.Least.{AltWithin}
use Rattle.ix_first_laws.proofs.CycleTrees.{a_cycle, cycle_fits, cycle_line, literal_fits}
use Rattle.ix_first_laws.proofs.examples.least_alternatives.Goals as goal

pub returns-clause-literal : goal.returns-clause-literal
returns-clause-literal c = record { inside = omega arith; trees = alone (flat_text 0 1); fit = literal_fits; least = none }
  where
    none : (n : ℕ) (es : FlatTrees) → n < 1 → AltWithin a_cycle 0 0 0 1 n es → ⊥
    none zero es l h = omega (arith, cycle_line 0 es 0 1 h)
    none (suc n) es l h = omega (arith, l)

pub returns-clause-too_high : goal.returns-clause-too_high
returns-clause-too_high c = λ h. omega (arith, cycle_line 0 h.trees 0 1 h.fit)

pub returns-clause-cycle : goal.returns-clause-cycle
returns-clause-cycle c = record { inside = omega arith; trees = alone (a_by 1); fit = cycle_fits; least = λ n es l h. omega (arith, l) }

pub returns-clause-later : goal.returns-clause-later
returns-clause-later c = λ h. h.least 0 (alone (a_by 1)) (omega arith) cycle_fits
