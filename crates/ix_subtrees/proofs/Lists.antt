-- Elements of lists.
use Rattle.std.proofs.Common.{List, [], arith}
use Rattle.std.specs.List.{AllByRecursion, Contains}
use Rattle.std.proofs.lemmas.List.Elements.{All-contains, All-from_recursion}

-- what holds of each element of a list that is written out holds of what the list contains
pub each_of : {X : Type 0} (P : X → Type 0) (xs : List X) (x : X) → AllByRecursion P xs → Contains xs x → P x
each_of P xs x all c = All-contains P xs x (All-from_recursion P xs all) c

pub nothing_in : {X : Type 0} (x : X) → Contains [] x → ⊥
nothing_in x c = absurd (omega (arith, c.1))
