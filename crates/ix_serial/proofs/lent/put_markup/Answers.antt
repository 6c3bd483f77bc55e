use Rattle.std.proofs.Common.{◌≡◌, ◌+◌, ◌++◌, ◌∷◌, [], ap, sym, ◌∙◌, subst, take, drop, arith, slice_index}
use Rattle.std.proofs.lemmas.List.{take_more, take-append-drop}
use Rattle.ix_serial.specs.Lent.{Goes, Stops}
use Rattle.ix_serial.proofs.Going.{goes_more, goes_and_stops, stops_early, stopped}
use Rattle.ix_serial.proofs.lent.put_markup.Goals as goal

pub returns-in_err-filled-clause-bytes : goal.returns-in_err-filled-clause-bytes
returns-in_err-filled-clause-bytes g c =
    let l = c.loop-byte in
    let a = g.O.Sink.written c.args.out.now in
    let b = g.O.Sink.written c.put_part.new.out in
    let waiting = take c.args.filled c.args.buffer.now in
    let front = take l.byte-index c.args.markup.now in
    let byte = slice_index c.args.markup.now l.byte-index in
    let here : Stops a b waiting (front ++ byte ∷ []) = goes_and_stops a (g.O.Sink.written l.out) b waiting front (take l.filled l.buffer) (byte ∷ []) l.invariant.3 c.in_err-filled.ensures.bytes in
    let whole : (front ++ byte ∷ []) ++ drop (l.byte-index + 1) c.args.markup.now ≡ c.args.markup.now =
    ap (λ z. z ++ drop (l.byte-index + 1) c.args.markup.now) (sym (take_more c.args.markup.now l.byte-index 0 (omega arith))) ∙ take-append-drop (l.byte-index + 1) c.args.markup.now in
    stopped a b waiting c.put_part.new.buffer c.args.markup.now c.from_residual.result c.from_residual.ensures.0 (subst (Stops a b waiting) whole (stops_early a b waiting (front ++ byte ∷ []) (drop (l.byte-index + 1) c.args.markup.now) here))

pub loop-byte-preserved : goal.loop-byte-preserved
loop-byte-preserved g c =
    let l = c.loop-byte in
    let a = g.O.Sink.written c.args.out.now in
    let b = g.O.Sink.written c.put_part.new.out in
    let waiting = take c.args.filled c.args.buffer.now in
    let front = take l.byte-index c.args.markup.now in
    let byte = slice_index c.args.markup.now l.byte-index in
    let left = take c.in_ok-filled.filled c.put_part.new.buffer in (
      c.in_ok-filled.ensures.room,
      c.put_part.ensures.len ∙ l.invariant.1,
      omega (arith, l.invariant.2, c.put_part.ensures.cause.later),
      subst (λ z. Goes a b waiting z left) (sym (take_more c.args.markup.now l.byte-index 0 (omega arith)))
          (goes_more a (g.O.Sink.written l.out) b waiting front (take l.filled l.buffer) (byte ∷ []) left l.invariant.3 c.in_ok-filled.ensures.bytes),
    )
