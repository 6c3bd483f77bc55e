-- Laws of derivations and of their order.
use Rattle.std.specs.Prelude.{◌≡◌, ◌⊎◌, ◌↔◌, ℕ, ◌+◌, List, length, None}
use Rattle.ix_model.specs.declared.grammar.Grammar.{Grammar}
use Rattle.ix_model.specs.declared.grammar.Term.{Term, One}
use Rattle.ix_model.specs.declared.grammar.Factor.{Call}
use Rattle.ix_model.specs.Grammars.Written.{IsNamed}
use Rattle.ix_model.specs.Grammars.Names.{HasUniqueNames}
use Rattle.ix_model.specs.Derivations.Trees.{Tree, width}
use Rattle.ix_model.specs.Derivations.Derives.{Derives, IsDerivation}
use Rattle.ix_model.specs.Derivations.Order.{Before, First}

-- a tree is as wide as each span that it derives
abbrev pub WidthIsSpan : Type 0
WidthIsSpan = (g : Grammar) (s : List ℕ) (d : Tree) (t : Term) (i j : ℕ) → Derives g s d t i j → i + width d ≡ j

-- the derivations of a text are the trees that derive it from a call of the first rule
abbrev pub RootIsCall : Type 0
RootIsCall =
    (g : Grammar) (s name : List ℕ) (d : Tree) → HasUniqueNames g → IsNamed g 0 name →
    IsDerivation g s d ↔ Derives g s d (One (Call None name)) 0 (length s)

-- of two derivations of one term over one span, they are equal or one is before the other
abbrev pub OrderIsTotal : Type 0
OrderIsTotal =
    (g : Grammar) (s : List ℕ) (d e : Tree) (t : Term) (i j : ℕ) →
    HasUniqueNames g → Derives g s d t i j → Derives g s e t i j → (d ≡ e) ⊎ (Before d e j ⊎ Before e d j)

-- no two trees are each before the other
abbrev pub OrderIsAsymmetric : Type 0
OrderIsAsymmetric = (d e : Tree) (end : ℕ) → Before d e end → ¬ (Before e d end)

-- two first derivations are one
abbrev pub FirstIsOne : Type 0
FirstIsOne = (g : Grammar) (s : List ℕ) (d e : Tree) → First g s d → First g s e → d ≡ e
