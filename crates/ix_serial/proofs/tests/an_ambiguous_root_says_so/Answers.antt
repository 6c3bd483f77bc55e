use Rattle.std.specs.Prelude.{codes}
use Rattle.ix_examples.specs.SmallGivens.{text_of, document}
use Rattle.ix_serial.proofs.SmallDocuments.{ampersand_is_document}
use Rattle.ix_serial.proofs.tests.an_ambiguous_root_says_so.Goals as goal

pub bytes-requires-clause-document : goal.bytes-requires-clause-document
bytes-requires-clause-document g c = (document (text_of (codes "&")), c.in_ok-tree.ensures.document, ampersand_is_document)
