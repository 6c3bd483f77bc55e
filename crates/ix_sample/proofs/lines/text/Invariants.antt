use Rattle.std.proofs.Common.{◌≡◌, string_bytes}
use Rattle.ix_model.specs.Answers.Sample.{sample_text}
use Rattle.ix_sample.proofs.lines.text.Given as goal

abbrev pub invariant-loop-number : goal.invariant-loop-number
invariant-loop-number l = string_bytes l.lines ≡ sample_text l.number
