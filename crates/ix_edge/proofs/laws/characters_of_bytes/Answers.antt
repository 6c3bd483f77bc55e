use Rattle.std.proofs.Common.{ap, refl, [], ◌∷◌}
use Rattle.ix_model.specs.Answers.Decoding.{without_mark}
use Rattle.std.proofs.lemmas.Str.{chars-encodes}
use lib.Utf8.{encode}
use Rattle.ix_edge.proofs.laws.characters_of_bytes.Goals as goal

pub returns-clause-plain : goal.returns-clause-plain
unfolding encode
returns-clause-plain c = ap without_mark (chars-encodes (0x6E ∷ 0xE9 ∷ []) refl)

pub returns-clause-mark : goal.returns-clause-mark
unfolding encode
returns-clause-mark c = ap without_mark (chars-encodes (0xFEFF ∷ 0x61 ∷ []) refl)

pub returns-clause-second : goal.returns-clause-second
unfolding encode
returns-clause-second c = ap without_mark (chars-encodes (0xFEFF ∷ 0xFEFF ∷ []) refl)

pub returns-clause-later : goal.returns-clause-later
unfolding encode
returns-clause-later c = ap without_mark (chars-encodes (0x61 ∷ 0xFEFF ∷ []) refl)
