-- Names, and where they end. A name is a run of name characters as long as it can be, but for a full stop at the end of the run:
-- that one is given back where nothing that may stand behind a name comes next. So `S: a.` ends with a rule's full stop, and in
-- `S: b.. b.: "x".` the name is `b.`.
-- Source: Invisible XML 1.0, the rule name of its grammar. Where a name ends is this project's own.
use Rattle.std.specs.Prelude.{◌≡◌, ◌⊎◌, ℕ, Bool, true, false, not, ◌&&◌, ◌==◌, List, [], ◌∷◌, ◌++◌, codes, IsTrue}
use Rattle.std.specs.List.{AllByRecursion}
use Rattle.std.specs.Char.{char_set_contains}
use Rattle.ix_model.specs.Spelling.Characters.{is_name_start, is_name_part}
use Rattle.ix_model.specs.Spelling.Spacing.{Takes, AllSpacing}

-- each of the characters stands within a name
abbrev pub IsRun : List ℕ → Type 0
IsRun cs = AllByRecursion (λ c. IsTrue (is_name_part c)) cs

-- whether a run of name characters ends before r
abbrev pub ends_run : List ℕ → Bool
ends_run [] = true
ends_run (c ∷ r) = not (is_name_part c)

-- whether the characters end in a full stop
abbrev pub ends_in_stop : List ℕ → Bool
ends_in_stop [] = false
ends_in_stop (c ∷ []) = c == 46
ends_in_stop (c ∷ d ∷ cs) = ends_in_stop (d ∷ cs)

-- whether a run gives back its last full stop, where r is what stands behind the run and its spacing:
-- the end, or a character that cannot follow a name
abbrev pub gives_back : List ℕ → Bool
gives_back [] = true
gives_back (c ∷ r) = not (char_set_contains (codes ",;|.)*+?:=") c)

-- a name ends between `name` and r: with its run, which does not give back its last character, or before the full stop that the run gives back
abbrev pub IsWord : List ℕ → List ℕ → Type 0
IsWord name r =
    ((next : List ℕ) × IsTrue (ends_run r) × AllSpacing r next × IsTrue (not (ends_in_stop name && gives_back next)))
    ⊎ ((next more : List ℕ) × Takes (codes ".") r more × IsTrue (ends_run more) × AllSpacing more next × IsTrue (gives_back next))

-- b is the name and then r
abbrev pub NameAt : List ℕ → List ℕ → List ℕ → Type 0
NameAt b r name =
    (b ≡ name ++ r) × ((x : ℕ) × (xs : List ℕ) × (name ≡ x ∷ xs) × IsTrue (is_name_start x) × IsRun xs) × IsWord name r
