-- A law of errors, and what their worked examples speak of.
use Rattle.std.specs.Prelude.{◌≡◌, ◌⊎◌, List, [], ◌∷◌, Some, None, false, codes}
use Rattle.std.specs.Borrow.{Bor}
use Rattle.ix_model.specs.declared.grammar.Grammar.{Grammar}
use Rattle.ix_model.specs.declared.grammar.Term.{One}
use Rattle.ix_model.specs.declared.grammar.Member.TheVariants as member
use Rattle.ix_model.specs.declared.grammar.Bound.TheVariants as bound
use Rattle.ix_model.specs.declared.grammar.Factor.{Set}
use Rattle.ix_model.specs.Grammars.Breach.{Fault, LeastBreach}
use Rattle.ix_examples.specs.SmallGrammars.{alternative, rule, grammar, call}
use Rattle.ix_errors.specs.declared.breach.Breach.{Breach}
use Rattle.ix_errors.specs.declared.mention.Mention.{Mention}
use Rattle.ix_errors.specs.declared.mention.Mention.TheVariants.{Range, Class, Call}
use Rattle.ix_errors.specs.Breaches.{fault_of, IsLeast}

-- where a fault is the least, an error that is the least is want of memory, or names that fault
abbrev pub LeastIsNamed : Type 0
LeastIsNamed = (g : Grammar) (fault : Fault) (error : Breach) → LeastBreach g fault → IsLeast g error → (fault_of error ≡ None) ⊎ (fault_of error ≡ Some fault)

-- what a reference refers to
abbrev pub lent : {X : Type 0} → X → Bor X
lent x = record { ref_ptr = (0, 0); now = x }

-- S: ["a"-#62; Lu], b.
abbrev pub range_class_call : Grammar
range_class_call = grammar (rule (codes "S") (alternative (One (Set None false (member.Range (bound.Quoted 97) (bound.Code (codes "62")) ∷ member.Class (codes "Lu") ∷ [])) ∷ call (codes "b") ∷ []) ∷ []) ∷ [])

-- its range and its class
abbrev pub range_and_class : List Mention
range_and_class = Range (lent (bound.Quoted 97)) (lent (bound.Code (codes "62"))) ∷ Class (lent (codes "Lu")) ∷ []

-- its range, its class and its call
abbrev pub all_three : List Mention
all_three = Range (lent (bound.Quoted 97)) (lent (bound.Code (codes "62"))) ∷ Class (lent (codes "Lu")) ∷ Call (lent (codes "b")) ∷ []
