-- What an error of `check` says of the grammar.
-- Source: this project's own; the codes are those of ix_model.
use Rattle.std.specs.Prelude.{◌≡◌, ℕ, List, Option, Some, None, IfSome}
use Rattle.ix_model.specs.declared.grammar.Grammar.{Grammar}
use Rattle.ix_model.specs.Firsts.{IsFirstOf}
use Rattle.ix_model.specs.Grammars.Breach as of
use Rattle.ix_model.specs.Grammars.Breach.{Fault, code_number, LeastBreach}
use Rattle.ix_errors.specs.Firsts.{IsSearchForRepeated}
use Rattle.ix_errors.specs.declared.breach.Breach.{Breach}
use Rattle.ix_errors.specs.declared.breach.Breach.TheVariants.{Version, CodePoint, Range, Class, Undefined, Duplicate, Memory}

-- the code and the item that an error names; none for want of memory
abbrev pub fault_of : Breach → Option Fault
fault_of (Version text) = Some (of.version text)
fault_of (CodePoint digits) = Some (of.code_point digits)
fault_of (Range low high) = Some (of.range low high)
fault_of (Class name) = Some (of.class name)
fault_of (Undefined name) = Some (of.undefined name)
fault_of (Duplicate name) = Some (of.duplicate name)
fault_of Memory = None

-- the error is want of memory, or names the least code that holds of the grammar, with its item
abbrev pub IsLeast : Grammar → Breach → Type 0
IsLeast g error = IfSome (fault_of error) (LeastBreach g)

-- the error is want of memory, or names the first of the list that P does not hold of, by the code that `fault` makes of it
abbrev pub NamesFirst : {X : Type 0} → (X → Type 0) → List X → (X → Fault) → Breach → Type 0
NamesFirst {X} P xs fault error = IfSome (fault_of error) (λ named. (x : X) × (named ≡ fault x) × IsFirstOf (λ n y. ¬ (P y)) xs x)

-- the error is want of memory, or names this code, which holds of the grammar, with its item
abbrev pub IsOfCode : ℕ → Grammar → Breach → Type 0
IsOfCode n g error = IfSome (fault_of error) (λ fault. of.Breach g fault × (code_number fault ≡ n))

-- the code of a range, with its two characters
abbrev pub falling : ℕ × ℕ → Fault
falling bounds = of.range bounds.0 bounds.1

-- the error is want of memory, or names the first name that is repeated
abbrev pub NamesRepeated : List (List ℕ) → Breach → Type 0
NamesRepeated names error = IfSome (fault_of error) (λ named. (name : List ℕ) × (named ≡ of.duplicate name) × IsSearchForRepeated names (Some name))
