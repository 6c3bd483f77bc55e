use Rattle.std.proofs.Common.{get_or, refl, arith}
use Rattle.unicode.specs.GeneralCategory.{general_category}
use Rattle.ucd_category.specs.declared.GeneralCategory.TheVariants.{UppercaseLetter}
use Rattle.ix_model.specs.declared.classes.TheConstants.{CATEGORIES}
use Rattle.ix_sets.proofs.Gaining.{gains_nothing, gains_more, gains_all, gains_as, some_map, some_tells}
use Rattle.ix_sets.proofs.Categories.{IsNamed, IsNamedAs, every}
use Rattle.ix_sets.proofs.class.push_classes.Goals as goal

pub loop-category-init : goal.loop-category-init
loop-category-init c = gains_nothing _ _ (λ _ h. h)

pub loop-category-preserved : goal.loop-category-preserved
loop-category-preserved c =
    let at = c.loop-category.category-index in
    gains_more (IsNamedAs c.args.members.now) CATEGORIES at (get_or CATEGORIES at UppercaseLetter) UppercaseLetter (omega arith) refl c.loop-category.invariant
    c.in_ok-push_category.ensures

pub returns : goal.returns
returns c =
    let members = c.args.members.now in
    gains_as (IsNamed members)
    (gains_all (IsNamedAs members) CATEGORIES c.loop-category.category-index (omega arith) c.loop-category.invariant)
    (λ c. some_tells {P = IsNamedAs members c} CATEGORIES (λ v h. h.1))
    (λ c h. some_map {Q = IsNamedAs members c} CATEGORIES (λ v is. (is, h)) (every (general_category c)))
