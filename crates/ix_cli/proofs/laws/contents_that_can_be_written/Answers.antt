use Rattle.std.proofs.Common.{refl, sym, ap, codes, arith}
use Rattle.ix_model.specs.Documents.Dyn.{not_one_element, element_count, character_count}
use Rattle.ix_examples.specs.SmallGivens.{text_of, document as element_with}
use Rattle.ix_marks.specs.Telling.{elements_at}
use Rattle.ix_marks.proofs.Telling.{pieces_tell}
use Rattle.ix_cli.proofs.SmallContents.{a_there, a_stands, a_no_code}
use Rattle.ix_cli.proofs.laws.contents_that_can_be_written.Goals as goal

pub returns-clause-bytes : goal.returns-clause-bytes
returns-clause-bytes c v = tt

pub returns-clause-document : goal.returns-clause-document
returns-clause-document c v e = (a_there, (element_with (text_of (codes "a")), a_stands, a_no_code), omega (arith, e))

pub returns-clause-small_buffer : goal.returns-clause-small_buffer
returns-clause-small_buffer c v e (there, document, room) = omega (arith, e, room)

pub returns-clause-no_name : goal.returns-clause-no_name
returns-clause-no_name c v (there, document, room) = omega (arith, there.items_in.0.0)

pub returns-clause-no_element : goal.returns-clause-no_element
returns-clause-no_element c v (there, (gs, s, n), room) =
    n (not_one_element (element_count gs) (character_count gs)) (refl, refl, λ p. omega (arith, p.0, (pieces_tell gs).element_count, ap (elements_at 0) (sym s.items)))
