use Rattle.std.proofs.Common.{ap, ◌∙◌, subst}
use Rattle.ix_serial.specs.Cursors.{IsPlaceWithin, place_rest}
use Rattle.ix_serial.proofs.CursorSteps.{attribute_rest}
use Rattle.ix_serial.proofs.cursor.Cursor.begin_attribute.Goals as goal

pub returns-clause-rest : goal.returns-clause-rest
returns-clause-rest c names m within =
    let old = c.args.self.now in
    let there = subst (IsPlaceWithin names m) c.requires.place within.1 in
    ap (place_rest names m old.state old.item old.tag_open) c.requires.place
    ∙ attribute_rest names m old.state old.item old.tag_open c.args.attr c.args.high there.0 there.1
