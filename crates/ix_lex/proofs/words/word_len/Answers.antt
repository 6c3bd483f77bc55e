use Rattle.std.proofs.Common.{sym, ap, ◌∙◌, arith}
use Rattle.ix_lex.proofs.Scanning.{word_turn}
use Rattle.std.proofs.lemmas.List.{take_rest}
use Rattle.ix_lex.specs.Scans.{ends_word}
use Rattle.ix_lex.proofs.words.word_len.Goals as goal

pub loop-n-preserved : goal.loop-n-preserved
loop-n-preserved c =
    let k = word_turn c.args.text.now c.loop-n.n c.loop-n-test.true (sym (c.ends_word.ensures ∙ ap ends_word (take_rest c.args.text.now c.loop-n.n)) ∙ c.if-ends_word.false) in
    omega (arith, c.loop-n.invariant, k)
