-- Spacing: the blanks and comments that may stand between the parts of a grammar.
-- A relation here goes from characters to those that are left behind what it speaks of.
-- Source: Invisible XML 1.0, the rules s, RS, whitespace and comment of its grammar.
use Rattle.std.specs.Prelude.{◌≡◌, ◌≢◌, ℕ, not, List, ◌∷◌, ◌++◌, codes, IsTrue}
use Rattle.std.specs.Char.{char_set_contains}
use Rattle.ix_model.specs.Spelling.Characters.{is_blank}

-- the characters b are the mark and then r
abbrev pub Takes : List ℕ → List ℕ → List ℕ → Type 0
Takes mark b r = b ≡ mark ++ r

mutual
  -- b is some blanks and comments, or none, and then r
  pub data Spacing : List ℕ → List ℕ → Type 0 where
    no_spacing : (r : List ℕ) → Spacing r r
    blank : (x : ℕ) (c r : List ℕ) → IsTrue (is_blank x) → Spacing c r → Spacing (x ∷ c) r
    comment : (b c r : List ℕ) → Comment b c → Spacing c r → Spacing b r

  -- b is a comment and then r
  pub data Comment : List ℕ → List ℕ → Type 0 where
    braces : (b c d r : List ℕ) → Takes (codes "{") b c → Inside c d → Takes (codes "}") d r → Comment b r

  -- b is characters other than braces, comments among them, and then r
  pub data Inside : List ℕ → List ℕ → Type 0 where
    end_inside : (r : List ℕ) → Inside r r
    other : (x : ℕ) (c r : List ℕ) → IsTrue (not (char_set_contains (codes "{}") x)) → Inside c r → Inside (x ∷ c) r
    nested : (b c r : List ℕ) → Comment b c → Inside c r → Inside b r

-- spacing may stand here
abbrev pub S : List ℕ → List ℕ → Type 0
S b r = Spacing b r

-- spacing stands here
abbrev pub RS : List ℕ → List ℕ → Type 0
RS b r = Spacing b r × (b ≢ r)

-- b is spacing and then r, and no spacing begins r
abbrev pub AllSpacing : List ℕ → List ℕ → Type 0
AllSpacing b r = Spacing b r × ((d : List ℕ) → Spacing r d → d ≡ r)
