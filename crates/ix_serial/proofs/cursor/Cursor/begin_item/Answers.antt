use Rattle.std.proofs.Common.{rules, ◌≡◌, ◌<◌, length, get_or, subst}
use Rattle.ix_marks.specs.declared.item.Item.TheVariants as item
use Rattle.ix_marks.specs.InRange.{IsItemIn}
use Rattle.ix_serial.specs.Units.{unit_bytes}
use Rattle.ix_serial.proofs.CursorSteps.{each_at, run_begins}
use Rattle.ix_serial.proofs.cursor.Cursor.begin_item.Goals as goal

pub returns-in-Chars-clause-rest : goal.returns-in-Chars-clause-rest
returns-in-Chars-clause-rest c names =
    let m = c.args.marked.now in
    let old = c.args.self.now in
    let new = c.begin_run.new.self in
    let low = c.in-Chars.low in
    let high = c.in-Chars.high in
    let there : old.item < length m.items = search rules in
    let is : get_or m.items old.item (item.Chars 0 0) ≡ item.Chars low high = search rules in
    let inside = subst (IsItemIn c.requires.there.0 m.attrs m.chars) is (each_at (IsItemIn c.requires.there.0 m.attrs m.chars) m.items old.item (item.Chars 0 0) there c.requires.there.1.items_in) in
    run_begins names m old new (unit_bytes c.begin_run.result) (item.Chars 0 0) low high there is inside.0 inside.1 c.requires.place c.begin_run.ensures.place c.begin_run.ensures.open c.begin_run.ensures.same.0 c.begin_run.ensures.same.1 c.begin_run.ensures.unit
