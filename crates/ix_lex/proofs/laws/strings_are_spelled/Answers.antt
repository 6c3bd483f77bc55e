use Rattle.ix_lex.specs.Spans.{content}
use Rattle.ix_lex.proofs.Spelling.{string_there, string_taken}
use Rattle.ix_lex.proofs.laws.strings_are_spelled.Goals as goal

pub returns : goal.returns
returns c = λ cs. (λ h. (content cs, string_there cs h), λ h. string_taken cs h.0 h.1)
