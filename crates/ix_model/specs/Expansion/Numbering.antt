-- The numbers of slots: rule by rule, alternative by alternative, the dot from the left. It is this project's own.
use Rattle.std.specs.Prelude.{ℕ, Bool, ◌&&◌, ◌||◌, ◌==◌, nat_lt, zero, suc, ◌+◌, List, [], ◌∷◌, ◌++◌, length}
use Rattle.ix_model.specs.declared.rules.Line.{Line}
use Rattle.ix_model.specs.declared.rules.Flat.{Flat}
use Rattle.ix_model.specs.declared.plan.SlotInfo.{SlotInfo}

-- the slot of rule r, alternative a, with so many symbols before the dot
abbrev pub slot : ℕ → ℕ → ℕ → SlotInfo
slot r a dot = record { head = r; alt = a; dot = dot }

-- the slots of an alternative from a dot on, with n symbols behind it
abbrev pub dots_from : ℕ → ℕ → ℕ → ℕ → List SlotInfo
dots_from r a dot zero = slot r a dot ∷ []
dots_from r a dot (suc n) = slot r a dot ∷ dots_from r a (dot + 1) n

-- the slots of these alternatives of rule r, the first of which is number a
abbrev pub alts_from : ℕ → ℕ → List Line → List SlotInfo
alts_from r a [] = []
alts_from r a (x ∷ xs) = dots_from r a 0 (length x.syms) ++ alts_from r (a + 1) xs

-- the slots of these rules, the first of which is number r
abbrev pub rules_from : ℕ → List Flat → List SlotInfo
rules_from r [] = []
rules_from r (f ∷ fs) = alts_from r 0 f.lines ++ rules_from (r + 1) fs

-- all slots in the order of their numbers
abbrev pub numbering : List Flat → List SlotInfo
numbering flats = rules_from 0 flats

-- whether the slot is of an alternative before alternative a of rule r
abbrev pub is_before : ℕ → ℕ → SlotInfo → Bool
is_before r a s = nat_lt s.head r || ((s.head == r) && nat_lt s.alt a)
