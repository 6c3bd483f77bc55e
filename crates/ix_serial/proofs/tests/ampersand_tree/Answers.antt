use Rattle.std.specs.Prelude.{codes}
use Rattle.std.proofs.lemmas.Result.{IfOk-weaker}
use Rattle.ix_examples.specs.SmallGivens.{text_of, document}
use Rattle.ix_marks.specs.MarkedLists.{MarkedLists}
use Rattle.ix_marks.specs.Standing.{StandsFor}
use Rattle.ix_model.specs.Documents.Bare.{Bares}
use Rattle.ix_model.specs.Documents.Gives.{gives_all}
use Rattle.ix_model.specs.Documents.WalkGives.{AreWalks}
use Rattle.ix_serial.proofs.SmallDocuments.{steps_of_one, ampersand_walked}
use Rattle.ix_serial.proofs.tests.ampersand_tree.Goals as goal

pub returns-clause-document : goal.returns-clause-document
returns-clause-document c =
    let plan = c.args.plan.now in
    IfOk-weaker c.marked.result
    (λ (m : MarkedLists). (bs : Bares) → AreWalks plan.rules bs steps_of_one → StandsFor plan.rules.names m (gives_all plan.text bs))
    (λ (m : MarkedLists). StandsFor plan.rules.names m (document (text_of (codes "&"))))
    (λ m h. ampersand_walked plan m c.requires h) c.marked.ensures.gives
