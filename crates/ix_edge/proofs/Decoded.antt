-- How many characters bytes have, and that each is one.
use Rattle.std.proofs.Common.{◌≡◌, ap, ℕ, true, false, cond, ◌≤◌, List, [], ◌∷◌, length, IsUtf8, arith}
use Rattle.std.specs.Char.{IsScalar}
use Rattle.std.specs.List.{AllByRecursion}
use Rattle.std.specs.Prelude.{◌==◌}
use Rattle.std.specs.Str.{chars}
use Rattle.std.proofs.lemmas.Bool.{and_parts}
use Rattle.std.proofs.lemmas.Str.{encodes-chars, length-le-encodes, scalars-chars}
use lib.Utf8.{scalar, scalars}
use Rattle.ix_model.specs.Answers.Decoding.{without_mark, decoded}

length-without_mark : (cs : List ℕ) → length (without_mark cs) ≤ length cs
length-without_mark [] = omega arith
length-without_mark (c ∷ cs) = elim (c == 0xFEFF) as (λ b. length (cond b cs (c ∷ cs)) ≤ length (c ∷ cs)) [ true ↦ omega arith | false ↦ omega arith ]

-- at most as many as there are bytes
pub length-decoded : (bytes : List ℕ) → IsUtf8 bytes → length (decoded bytes) ≤ length bytes
length-decoded bytes u = omega (arith, length-without_mark (chars bytes), length-le-encodes (chars bytes), ap length (encodes-chars bytes u))

scalars_all : (cs : List ℕ) → scalars cs ≡ true → AllByRecursion IsScalar cs
scalars_all [] e = tt
scalars_all (c ∷ cs) e = let parts = and_parts (scalar c) (scalars cs) e in (parts.0, scalars_all cs parts.1)

scalars_without_mark : (cs : List ℕ) → AllByRecursion IsScalar cs → AllByRecursion IsScalar (without_mark cs)
scalars_without_mark [] h = h
scalars_without_mark (c ∷ cs) h = elim (c == 0xFEFF) as (λ b. AllByRecursion IsScalar (cond b cs (c ∷ cs))) [ true ↦ h.1 | false ↦ h ]

-- each of them is a character of Unicode
pub scalars_decoded : (bytes : List ℕ) → IsUtf8 bytes → AllByRecursion IsScalar (decoded bytes)
scalars_decoded bytes u = scalars_without_mark (chars bytes) (scalars_all (chars bytes) (scalars-chars bytes u))
