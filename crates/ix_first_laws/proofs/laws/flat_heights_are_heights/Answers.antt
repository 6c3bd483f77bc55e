use Rattle.ix_first_laws.proofs.Fits.{all_fit}
use Rattle.ix_first_laws.proofs.LiftHeights.{lift_measures}
use Rattle.ix_first_laws.proofs.laws.flat_heights_are_heights.Goals as goal

pub returns : goal.returns
returns c = λ g plan e x i j p h. (lift_measures plan (all_fit g plan p.expanded) e x i j h).0
