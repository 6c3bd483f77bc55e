-- What a test's being true or false says of its parts.
use Rattle.std.proofs.Common.{◌≡◌, refl, ℕ, List, arith}
use Rattle.std.specs.Prelude.{Bool, true, false, not, ◌&&◌, ◌==◌, IsTrue, Contains}
use Rattle.std.specs.List.{list_all}
use Rattle.std.specs.Char.{char_set_contains}
use Rattle.std.specs.Bool.{Decides}
use Rattle.std.proofs.lemmas.Bool.Decides.{Decides-by_or, Decides-eqb, nat_tests}
use Rattle.std.proofs.lemmas.List.Elements.{All-contains, Decides-contains}
use Rattle.std.proofs.lemmas.List.Sums.{AllPass-from_list_all}

pub both : (a b : Bool) → a && b ≡ true → (a ≡ true) × (b ≡ true)
both true b h = (refl, h)
both false b h = absurd (cc h)

pub and_false : (b : Bool) → b && false ≡ false
and_false true = refl
and_false false = refl

pub not_false : (b : Bool) → IsTrue (not b) → b ≡ false
not_false false h = refl
not_false true h = absurd (cc h)

pub false_not : (b : Bool) → b ≡ false → IsTrue (not b)
false_not b h = rw h refl

pub eqb-sym : (x y : ℕ) → (x == y) ≡ (y == x)
eqb-sym x y = grind (arith, nat_tests)

-- whether a character is one of some is a test
pub char_set_contains-Decides : (cs : List ℕ) (c : ℕ) → Decides (char_set_contains cs c) (Contains cs c)
char_set_contains-Decides cs c =
    Decides-contains cs c _ (Decides-by_or (λ d. d == c) (λ d. d ≡ c) (λ ds. char_set_contains ds c) (λ d. Decides-eqb d c) refl (λ d ds. refl) cs)

-- a test that holds of all of a list holds of each that is one of it
pub in_all : (p : ℕ → Bool) (xs : List ℕ) (x : ℕ) → list_all p xs ≡ true → char_set_contains xs x ≡ true → p x ≡ true
in_all p xs x h k = All-contains (λ y. p y ≡ true) xs x (AllPass-from_list_all p xs h) ((char_set_contains-Decides xs x).0 k)
