use Rattle.std.proofs.Common.{rules, ◌≡◌, ◌<◌, ◌+◌, ◌++◌, ◌∷◌, slice_index, get_or, arith, ap, sym, ◌∙◌, map}
use Rattle.std.specs.Prelude.{codes}
use Rattle.std.proofs.lemmas.Grind.{get_or_default_zero}
use Rattle.ix_model.specs.Documents.Xml.{value_bytes}
use Rattle.ix_marks.specs.InRange.{IsAttrIn}
use Rattle.ix_marks.specs.Ranges.{range_of}
use Rattle.ix_serial.specs.Cursors.{attr_at, attributes_from, items_from, place_rest}
use Rattle.ix_serial.specs.Units.{unit_bytes}
use Rattle.ix_serial.proofs.CursorSteps.{each_at, range_more}
use Rattle.ix_serial.proofs.cursor.Cursor.value.Goals as goal

pub returns-then-at-end-clause-rest : goal.returns-then-at-end-clause-rest
returns-then-at-end-clause-rest c names =
    let m = c.args.marked.now in
    let old = c.args.self.now in
    let end = (attr_at names m c.args.attr).high in
    let behind = codes "\"" ∷ (attributes_from names m (c.args.attr + 1) c.args.high ++ items_from names m old.state old.tag_open old.item) in
    let order : c.args.at < end = search rules in
    let within = (each_at (IsAttrIn c.requires.there.0 m.chars) m.attrs c.args.attr (record { name = 0; low = 0; high = 0 }) (omega (arith, c.requires.within.0, c.requires.within.1)) c.requires.there.1.attrs_in).2 in
    let unit : unit_bytes c.value_unit.result ≡ value_bytes (slice_index m.chars c.args.at) =
    c.value_unit.ensures ∙ ap value_bytes (c.index-chars-at.is ∙ ap (λ xs. get_or xs c.args.at c.index-chars-at.result) c.chars.ensures ∙ get_or_default_zero m.chars c.args.at c.index-chars-at.result (omega (arith, order, within))) in
    ap (place_rest names m old.state old.item old.tag_open) c.requires.place
    ∙ ap (λ xs. map value_bytes xs ++ behind) (range_more m.chars c.args.at end 0 order within)
    ∙ ap (λ u. u ∷ (map value_bytes (range_of m.chars (c.args.at + 1) end) ++ behind)) (sym unit)
