use Rattle.std.proofs.Common.{ℕ, List, length, length-drop, take, subst, ap, arith}
use Rattle.std.proofs.lemmas.List.{take_rest}
use Rattle.std.specs.Io.KnownBytes.{Appends}
use Rattle.ix_program.proofs.Parts.{appends_more}
use Rattle.ix_program.proofs.stream.write_front.Goals as goal

pub loop-preserved : goal.loop-preserved
loop-preserved g c =
    let bytes = c.args.bytes.now in
    let done = c.loop.done in
    let n = c.in_ok-done.field-0 in
    let first = g.W.Write.contents c.args.writer.now in
    let before = g.W.Write.contents c.loop.writer in
    let behind = g.W.Write.contents c.write_some.new.writer in
    record {
      within = omega (arith, c.in_ok-done.ensures.within, ap length (take_rest bytes done), length-drop done bytes, c.if-done-bytes.false);
      appended = appends_more first before behind bytes done n c.loop.invariant.appended (subst (λ (z : List ℕ). Appends before behind (take n z)) (take_rest bytes done) c.in_ok-done.ensures.ok);
    }
