-- The document of a text that no derivation has: the one place that it was read to.
-- Source: Invisible XML 1.0, "Parsing" (the state `failed`); the place is this project's own.
use Rattle.std.specs.Prelude.{ℕ, List, [], ◌∷◌, ◌++◌, codes, decimal}

-- offset in characters from 0; line and column from 1
unfoldable pub failed_xml : ℕ → ℕ → ℕ → List ℕ
failed_xml offset line column =
    codes "<fail xmlns:ixml=\"http://invisiblexml.org/NS\" ixml:state=\"failed\" offset=\""
    ++ (decimal offset ++ (codes "\" line=\"" ++ (decimal line ++ (codes "\" column=\"" ++ (decimal column ++ (codes "\"/>" ++ 10 ∷ []))))))
