-- What files tell of themselves: a map from names to bytes. Of two entries of one name the first one counts.
use Rattle.std.specs.Prelude.{◌≡◌, ℕ, Bool, List, [], ◌∷◌, Option, Some, None, Result, IfOk, IfSome, IsErr, take, if◌then◌else◌, Vec}
use Rattle.std.specs.declared.alloc.Global.{Global}
use Rattle.std.specs.Str.{bytes_eq}
use Rattle.std.specs.Option.{option_or}

-- the names with their bytes, and whether every other name holds the empty list
pub record Told : Type 0 where
  pub entries : List (List ℕ × List ℕ)
  pub others_empty : Bool

-- the bytes of the first entry of this name
abbrev pub entry_of : List (List ℕ × List ℕ) → List ℕ → Option (List ℕ)
entry_of [] name = None
entry_of (e ∷ es) name = if bytes_eq e.0 name then Some e.1 else entry_of es name

-- what a name holds, if the files have it
abbrev pub held : Told → List ℕ → Option (List ℕ)
held files name = option_or (entry_of files.entries name) (if files.others_empty then Some [] else None)

-- At Ok these are the first `most` bytes of what the name holds, or all if there are fewer. A name that the files lack is
-- never Ok.
pub record Loads {E : Type 0} (files : Told) (name : List ℕ) (most : ℕ) (result : Result (Vec ℕ Global) E) : Type 0 where
  pub bytes : IfOk result (λ v. IfSome (held files name) (λ bytes. v.items ≡ take most bytes))
  pub lacking : held files name ≡ None → IsErr result
