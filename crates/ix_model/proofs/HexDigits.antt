-- Hexadecimal digits have values below 16, and the numbers that they are grow.
use Rattle.std.proofs.Common.{ℕ, ◌+◌, ◌*◌, ◌<◌, ◌≤◌, List, [], ◌∷◌, ◌≡◌, refl, arith}
use Rattle.std.specs.Prelude.{Bool, true, nat_lt, IsTrue, codes}
use Rattle.std.specs.List.{list_all}
use Rattle.std.specs.Char.{digit_value}
use Rattle.std.specs.Str.Parse.{digits_value_after}
use Rattle.std.proofs.lemmas.Bool.{ltb-true}
use Rattle.ix_model.specs.Spelling.Spells.{is_hex_digit}
use Rattle.ix_model.proofs.Booleans.{in_all}

abbrev is_small : ℕ → Bool
is_small c = nat_lt (digit_value c) 16

digits_are_small : list_all is_small (codes "0123456789abcdefABCDEF") ≡ true
digits_are_small = refl

pub hex_value : (c : ℕ) → IsTrue (is_hex_digit c) → digit_value c < 16
hex_value c h = ltb-true _ _ (in_all is_small (codes "0123456789abcdefABCDEF") c digits_are_small h)

-- more digits make no lesser number
pub value_grows : (n : ℕ) (ds : List ℕ) → n ≤ digits_value_after 16 n ds
value_grows n [] = omega arith
value_grows n (d ∷ ds) = omega (arith, value_grows (n * 16 + digit_value d) ds)
