use Rattle.std.proofs.Common.{◌≡◌, refl, sym, subst, ap, ◌∙◌, length, arith}
use Rattle.std.specs.Fmt.{digits}
use lib.Utf8.{encode}
use Rattle.ix_model.specs.Documents.FailedXml.{failed_xml}
use Rattle.ix_cli.specs.Contents.{HasBytes}
use Rattle.ix_cli.specs.Examples.{a_content}
use Rattle.ix_cli.proofs.SmallContents.{a_has, a_has_only}
use Rattle.ix_cli.proofs.SmallFigures.{ok_shown}
use Rattle.ix_cli.proofs.SmallReplies.{one_document}
use Rattle.ix_cli.proofs.laws.outputs_of_an_outcome.Goals as goal

pub returns-clause-document : goal.returns-clause-document
unfolding encode
returns-clause-document c v e = record { status = refl; bytes = e; some = omega arith; silent = refl }

pub returns-clause-not_failed : goal.returns-clause-not_failed
returns-clause-not_failed c v h = omega (arith, h.status)

pub returns-clause-not_shorter : goal.returns-clause-not_shorter
unfolding encode
returns-clause-not_shorter c v e h = let f : 8 ≡ 9 = ap length (sym e ∙ h.bytes) in omega (arith, f)

pub returns-clause-failed : goal.returns-clause-failed
unfolding failed_xml digits
returns-clause-failed c v e = record { status = refl; bytes = e; some = omega arith; silent = refl }

pub returns-clause-no_output : goal.returns-clause-no_output
returns-clause-no_output c v h = omega (arith, h.some)

pub returns-clause-conforms : goal.returns-clause-conforms
returns-clause-conforms c v e = ok_shown v e

pub returns-clause-no_line_feed : goal.returns-clause-no_line_feed
returns-clause-no_line_feed c v e h = let f : 2 ≡ 3 = ap length (sym e ∙ h.bytes) in omega (arith, f)

pub returns-clause-figures : goal.returns-clause-figures
unfolding digits
returns-clause-figures c v e = record { status = refl; bytes = e; some = omega arith; silent = refl }

pub returns-clause-tree : goal.returns-clause-tree
returns-clause-tree c v = record { status = refl; bytes = subst (HasBytes (a_content v)) (sym one_document) (a_has v); some = omega (arith, ap length one_document); silent = refl }

pub returns-clause-not_ambiguous : goal.returns-clause-not_ambiguous
unfolding encode
returns-clause-not_ambiguous c v h = let f : 72 ≡ 9 = ap length (a_has_only v _ h.bytes) in omega (arith, f)
