-- Lists of the binary subtrees of a closure.
use Rattle.std.specs.Prelude.{◌↔◌, List, Contains}
use Rattle.ix_model.specs.declared.sub.Sub.{Sub}
use Rattle.ix_model.specs.Expansion.Parts.{Parts}
use Rattle.ix_model.specs.Closure.Closed.{Part}

-- the list has exactly the subtrees of the closure
abbrev pub AreParts : Parts → List Sub → Type 0
AreParts plan subs = (sub : Sub) → Contains subs sub ↔ Part plan sub.slot sub.left sub.pivot sub.right
