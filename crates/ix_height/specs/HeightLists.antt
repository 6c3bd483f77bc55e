-- What is found for a span in a list of spans with their heights.
use Rattle.std.specs.Prelude.{ℕ, Bool, false, ◌&&◌, ◌==◌, List, [], ◌∷◌, Option, None, if◌then◌else◌}
use Rattle.ix_height.specs.declared.span.Owner.{Owner}
use Rattle.ix_height.specs.declared.span.Owner.TheVariants as owner
use Rattle.ix_height.specs.declared.span.Span.{Span}

abbrev pub is_same_owner : Owner → Owner → Bool
is_same_owner (owner.Slot s) (owner.Slot z) = s == z
is_same_owner (owner.Rule q) (owner.Rule z) = q == z
is_same_owner _ _ = false

abbrev pub is_same : Span → Span → Bool
is_same t u = is_same_owner t.owner u.owner && (t.left == u.left) && (t.right == u.right)

-- what the second list has at the place of the span in the first one
abbrev pub found_in : List Span → List (Option ℕ) → Span → Option ℕ
found_in [] heights t = None
found_in (u ∷ spans) [] t = None
found_in (u ∷ spans) (h ∷ heights) t = if is_same u t then h else found_in spans heights t

-- what a contract sees of heights: spans, and the height of each
pub record HeightLists : Type 0 where
  pub spans : List Span
  pub heights : List (Option ℕ)

abbrev pub found : HeightLists → Span → Option ℕ
found hs t = found_in hs.spans hs.heights t
