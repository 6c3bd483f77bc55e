-- Beginnings of lists. Plain.
use Rattle.std.specs.Prelude.{◌≡◌, List, ◌++◌}

-- the list begins with these: it is they, and then some or none
abbrev pub Begins : {A : Type 0} → List A → List A → Type 0
Begins {A} list front = (back : List A) × (list ≡ front ++ back)
