use Rattle.std.proofs.Common.{refl, [], arith}
use Rattle.std.specs.Str.{chars}
use lib.Utf8.{encode}
use Rattle.ix_spelling_laws.proofs.ByReading.{reads_none}
use Rattle.ix_engine.proofs.laws.no_bytes.Goals as goal

pub returns-clause-no_grammar : goal.returns-clause-no_grammar
unfolding chars encode
returns-clause-no_grammar c = ((omega arith, ([], (refl, refl))), reads_none _ refl)

pub returns-clause-not_long : goal.returns-clause-not_long
returns-clause-not_long c h = omega (arith, h)

pub returns-clause-not_deep : goal.returns-clause-not_deep
unfolding chars encode
returns-clause-not_deep c h = reads_none _ refl h.1 h.2
