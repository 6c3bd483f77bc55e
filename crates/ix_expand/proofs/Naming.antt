-- The rule that a look-up by its name finds, and the mark of a rule.
use Rattle.std.proofs.Common.{◌≡◌, ◌≢◌, refl, ap, ◌∙◌, subst, ℕ, List, Option, Some, None}
use Rattle.std.specs.Prelude.{slice_get, IsSome, IfSome, IfNone, unwrap_or}
use Rattle.ix_model.specs.declared.grammar.Grammar.{Grammar}
use Rattle.ix_model.specs.declared.grammar.Mark.{Mark}
use Rattle.ix_model.specs.declared.grammar.Mark.TheVariants.{Element}
use Rattle.ix_model.specs.Documents.Bare.{effective}
use Rattle.ix_model.specs.Grammars.Breach.{IsDefined}
use Rattle.ix_model.specs.Grammars.Names.{names_of, IsFirstName}
use Rattle.ix_model.specs.Grammars.Written.{IsNamed}
use Rattle.ix_model.proofs.FirstNames.{name_at, first_is_named}

module _ (g : Grammar) (name : List ℕ) (names : List (List ℕ)) (named : names ≡ names_of g.rules) where
  -- a name that is defined is found
  pub found : (o : Option ℕ) → IfNone o ((r : ℕ) → slice_get names r ≢ Some name) → IsDefined g name → IsSome o
  found None none (r, h) = absurd (none r (ap (λ (ns : List (List ℕ)). slice_get ns r) named ∙ name_at g name r h))
  found (Some r) none d = refl

  -- what is found has the name
  pub found_is_named : (o : Option ℕ) (r : ℕ) → IfSome o (IsFirstName names name) → o ≡ Some r → IsNamed g r name
  found_is_named o r h e =
      let first : IsFirstName names name r = subst (λ (p : Option ℕ). IfSome p (IsFirstName names name)) e h in
      first_is_named g name r (subst (λ (ns : List (List ℕ)). IsFirstName ns name r) named first)

-- a rule without a mark is an element
pub effective_is : (mark : Option Mark) → unwrap_or mark Element ≡ effective None mark
effective_is None = refl
effective_is (Some mark) = refl
