use Rattle.std.proofs.Common.{arith}
use Rattle.ix_examples.specs.SmallPlans.{alone}
use Rattle.ix_first_laws.proofs.HalfTrees.{best_one, derived_full, empty, full, half_height}
use Rattle.ix_first_laws.proofs.examples.least_pivots.Goals as goal

pub returns-clause-least : goal.returns-clause-least
returns-clause-least c = record { trees = alone empty; tree = full; fit = best_one.within; fits = (derived_full, omega arith); least = λ l es e h. absurd (omega (arith, h)) }

pub returns-clause-later : goal.returns-clause-later
returns-clause-later c = λ h. h.least 0 (alone empty) full (omega arith) best_one.within (derived_full, omega arith)

pub returns-clause-too_high : goal.returns-clause-too_high
returns-clause-too_high c = λ k h. omega (arith, h.fits.1, half_height h.tree k 1 h.fits.0)
