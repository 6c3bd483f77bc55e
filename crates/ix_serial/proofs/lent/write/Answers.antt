use Rattle.std.proofs.Common.{◌≡◌, ◌++◌, [], ap, sym, ◌∙◌, subst, refl, take, arith, append-nil}
use Rattle.std.specs.List.{concat}
use Rattle.ix_model.specs.Documents.Xml.{xml}
use Rattle.ix_serial.specs.declared.cursor.Cursor.{Cursor}
use Rattle.ix_serial.specs.Cursors.{IsWithin, rest}
use Rattle.ix_serial.specs.Lent.{Goes, Stops}
use Rattle.ix_serial.specs.Units.{unit_bytes}
use Rattle.ix_serial.proofs.Documents.{document_read, one_more}
use Rattle.ix_serial.proofs.Going.{goes_nothing, goes_more, goes_and_stops, stops_early, cut_off, flushed}
use Rattle.ix_serial.proofs.lent.write.Goals as goal

pub loop-unit-init : goal.loop-unit-init
loop-unit-init g c =
    let names = c.args.plan.now.rules.names in
    let m = c.args.marked.now in
    let begun = sym c.new-cursor.ensures in (
      subst (IsWithin names m) begun (omega arith, tt),
      c.requires.room,
      refl,
      omega arith,
      ([], goes_nothing (g.O.Sink.written c.args.out.now) [], ap (λ (k : Cursor). concat (rest names m k)) c.new-cursor.ensures),
    )

pub returns-in_err-filled-clause-bytes : goal.returns-in_err-filled-clause-bytes
returns-in_err-filled-clause-bytes g c gs s =
    let names = c.args.plan.now.rules.names in
    let m = c.args.marked.now in
    let l = c.loop-unit in
    let a = g.O.Sink.written c.args.out.now in
    let b = g.O.Sink.written c.put_unit.new.out in
    let done = l.invariant.4.0 in
    let unit = unit_bytes c.in-Some.unit in
    let behind = concat (rest names m c.next.new.self) in
    let here = goes_and_stops a (g.O.Sink.written l.out) b [] done (take l.filled l.buffer) unit l.invariant.4.1 c.in_err-filled.ensures.bytes in
    let whole : (done ++ unit) ++ behind ≡ xml gs c.args.state =
    one_more names m l.cursor c.next.new.self done unit c.in-Some.ensures.rest ∙ l.invariant.4.2
    ∙ document_read names m c.args.state c.requires.document.0 gs c.requires.there c.requires.document.1 c.requires.document.2 s in
    cut_off a b (xml gs c.args.state) c.from_residual.result c.from_residual.ensures.0 (subst (Stops a b []) whole (stops_early a b [] (done ++ unit) behind here))

pub loop-unit-preserved : goal.loop-unit-preserved
loop-unit-preserved g c =
    let names = c.args.plan.now.rules.names in
    let m = c.args.marked.now in
    let l = c.loop-unit in
    let done = l.invariant.4.0 in
    let unit = unit_bytes c.in-Some.unit in (
      c.next.ensures.within,
      c.in_ok-filled.ensures.room,
      c.put_unit.ensures.len ∙ l.invariant.2,
      omega (arith, l.invariant.3, c.put_unit.ensures.cause.later),
      (
        done ++ unit,
        goes_more (g.O.Sink.written c.args.out.now) (g.O.Sink.written l.out) (g.O.Sink.written c.put_unit.new.out) [] done (take l.filled l.buffer) unit (take c.in_ok-filled.filled c.put_unit.new.buffer) l.invariant.4.1 c.in_ok-filled.ensures.bytes,
        one_more names m l.cursor c.next.new.self done unit c.in-Some.ensures.rest ∙ l.invariant.4.2,
      ),
    )

pub returns-clause-bytes : goal.returns-clause-bytes
returns-clause-bytes g c gs s =
    let names = c.args.plan.now.rules.names in
    let m = c.args.marked.now in
    let l = c.loop-unit in
    let a = g.O.Sink.written c.args.out.now in
    let b = g.O.Sink.written l.out in
    let done = l.invariant.4.0 in
    let left = take l.filled l.buffer in
    let whole : done ≡ xml gs c.args.state =
    sym (append-nil done) ∙ ap (λ xs. done ++ concat xs) (sym c.in_default.ensures.rest) ∙ l.invariant.4.2
    ∙ document_read names m c.args.state c.requires.document.0 gs c.requires.there c.requires.document.1 c.requires.document.2 s in
    flushed a b (g.O.Sink.written c.flush.new.out) (xml gs c.args.state) left c.flush.result (subst (λ z. Goes a b [] z left) whole l.invariant.4.1) c.flush.ensures.bytes
