-- Words and files that the worked examples speak of.
use Rattle.std.specs.Prelude.{ℕ, List, [], ◌∷◌, Option, Some, None, if◌then◌else◌, codes}
use Rattle.std.specs.Str.{bytes_eq}

abbrev pub check_g : List (List ℕ)
check_g = codes "check" ∷ codes "g" ∷ []

abbrev pub parse_g_t : List (List ℕ)
parse_g_t = codes "parse" ∷ codes "g" ∷ codes "t" ∷ []

-- a grammar under the name `g` and a text under the name `t`, and no other name
abbrev pub holding : List ℕ → List ℕ → List ℕ → Option (List ℕ)
holding grammar text name = if bytes_eq name (codes "g") then Some grammar else (if bytes_eq name (codes "t") then Some text else None)

-- a grammar under the name `g`, and no other name
abbrev pub holding_grammar : List ℕ → List ℕ → Option (List ℕ)
holding_grammar grammar name = if bytes_eq name (codes "g") then Some grammar else None

-- S: "a".
abbrev pub one_way : List ℕ
one_way = codes "S: \"a\"."

-- S: "a"; "a".
abbrev pub both_ways : List ℕ
both_ways = codes "S: \"a\"; \"a\"."
