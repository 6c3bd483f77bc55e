use Rattle.std.specs.Prelude.{codes}
use Rattle.ix_examples.specs.SmallGivens.{text_of, document}
use Rattle.ix_serial.proofs.SmallDocuments.{ampersand_is_document}
use Rattle.ix_serial.proofs.tests.a_document_has_its_size.Goals as goal

pub size-requires-clause-document : goal.size-requires-clause-document
size-requires-clause-document g c = (document (text_of (codes "&")), c.in_ok-tree.ensures.document, ampersand_is_document)
