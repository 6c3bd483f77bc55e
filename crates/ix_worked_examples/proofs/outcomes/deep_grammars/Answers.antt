use Rattle.std.proofs.Common.{ap, arith}
use Rattle.ix_model.specs.Spelling.Depth.{depth}
use Rattle.ix_model.specs.Answers.Decoding.{decoded}
use Rattle.ix_spelling_laws.proofs.ReadingComplete.{spelled_once}
use Rattle.ix_worked_examples.proofs.outcomes.deep_grammars.Goals as goal

pub returns-clause-too_deep : goal.returns-clause-too_deep
returns-clause-too_deep c = λ bytes g e u s d. ((omega (arith, e), u), g, s, omega (arith, d))

pub returns-clause-not_too_deep : goal.returns-clause-not_too_deep
returns-clause-not_too_deep c = λ bytes g s d h. omega (arith, d, h.3, ap depth (spelled_once (decoded bytes) g h.1 s h.2))

pub returns-clause-held : goal.returns-clause-held
returns-clause-held c = λ bytes g e u s d. ((omega (arith, e), u), s, omega (arith, d))

pub returns-clause-not_held : goal.returns-clause-not_held
returns-clause-not_held c = λ bytes g d h. omega (arith, d, h.2)

pub returns-clause-not_judged : goal.returns-clause-not_judged
returns-clause-not_judged c = λ bytes g fault s d h. omega (arith, d, h.1.2, ap depth (spelled_once (decoded bytes) g h.0 s h.1.1))
