-- What `useful` answers.
use Rattle.std.specs.Prelude.{◌↔◌, List}
use Rattle.std.specs.List.{Contains}
use Rattle.ix_model.specs.declared.sub.Sub.{Sub}
use Rattle.ix_model.specs.Expansion.Parts.{Parts}
use Rattle.ix_model.specs.Closure.Useful.{Useful}

-- the list has the subtrees that are of use
abbrev pub AreUseful : Parts → List Sub → Type 0
AreUseful plan subs = (sub : Sub) → Contains subs sub ↔ Useful plan sub
