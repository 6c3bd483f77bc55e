use Rattle.std.proofs.Common.{◌≡◌, take, IsTrue}
use Rattle.std.specs.List.{list_any}
use Rattle.unicode.specs.GeneralCategory.{general_category}
use Rattle.ix_sets.specs.Gains.{Gains}
use Rattle.ix_sets.specs.Kinds.{has_category}
use Rattle.ix_sets.proofs.Gaining.{SomeOf}
use Rattle.ix_sets.proofs.class.push_classes.Given as goal

abbrev pub invariant-loop-category : goal.invariant-loop-category
invariant-loop-category l =
    Gains l.initial.ranges.items l.ranges.items
    (λ c. SomeOf (λ v. (general_category c ≡ v) × IsTrue (list_any (has_category (general_category c)) l.members)) (take l.category-index l.category-items))
