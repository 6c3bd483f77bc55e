-- The sample's text: how long it is, and that it is ASCII.
use Rattle.std.proofs.Common.{◌≡◌, refl, ap, ◌∙◌, ◌≤◌, ◌*◌, ◌^◌, ◌<◌, ℕ, zero, suc, List, [], ◌∷◌, length, codes, arith, IsUtf8}
use Rattle.std.specs.Prelude.{decimal}
use Rattle.std.proofs.lemmas.Bool.Decides.{nat_tests}
use Rattle.std.specs.Str.{IsAscii}
use Rattle.std.proofs.lemmas.List.{length-append}
use Rattle.std.proofs.lemmas.Fmt.{length-decimal-le, IsAscii-decimal}
use Rattle.std.proofs.lemmas.Str.{IsUtf8-from_ascii, chars-IsAscii, IsAscii-append}
use Rattle.std.proofs.lemmas.Str.Ascii.{IsAscii-nil}
use Rattle.ix_model.specs.Answers.Limits.{text_limit}
use Rattle.ix_model.specs.Answers.Decoding.{without_mark, decoded}
use Rattle.ix_model.specs.Answers.Sample.{sample_line, sample_text}

-- a line has nine bytes at most
line_length : (number : ℕ) → number < 10 ^ 5 → length (sample_line number) ≤ 9
line_length number small = omega (arith, length-append (decimal number) (codes ":ab\n"), length-decimal-le 5 number (omega arith) small (omega (arith, small)))

lines_length : (n : ℕ) → n < 10 ^ 5 → length (sample_text n) ≤ 9 * n
lines_length zero small = omega arith
lines_length (suc n) small = omega (arith, length-append (sample_text n) (sample_line (suc n)), lines_length n (omega (arith, small)), line_length (suc n) small)

pub within_limit : (n : ℕ) → n ≤ 10000 → length (sample_text n) ≤ text_limit
within_limit n small = omega (arith, lines_length n (omega (arith, small)))

ending_ascii : IsAscii (codes ":ab\n")
ending_ascii zero = omega arith
ending_ascii (suc zero) = omega arith
ending_ascii (suc (suc zero)) = omega arith
ending_ascii (suc (suc (suc zero))) = omega arith
ending_ascii (suc (suc (suc (suc i)))) = omega arith

-- all bytes are ASCII
pub text_ascii : (n : ℕ) → n < 2 ^ 64 → IsAscii (sample_text n)
text_ascii zero small = IsAscii-nil
text_ascii (suc n) small =
    IsAscii-append (sample_text n) (sample_line (suc n)) (text_ascii n (omega (arith, small))) (IsAscii-append (decimal (suc n)) (codes ":ab\n") (IsAscii-decimal (suc n) small) ending_ascii)

pub text_utf8 : (n : ℕ) → n ≤ 10000 → IsUtf8 (sample_text n)
text_utf8 n small = IsUtf8-from_ascii (sample_text n) (text_ascii n (omega (arith, small)))

-- ASCII has no byte order mark
unmarked : (cs : List ℕ) → IsAscii cs → without_mark cs ≡ cs
unmarked [] h = refl
unmarked (c ∷ cs) h = grind (arith, nat_tests, h zero)

pub text_decoded : (n : ℕ) → n ≤ 10000 → decoded (sample_text n) ≡ sample_text n
text_decoded n small =
    let h = text_ascii n (omega (arith, small)) in
    ap without_mark (chars-IsAscii (sample_text n) h) ∙ unmarked (sample_text n) h
