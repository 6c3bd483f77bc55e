use Rattle.std.proofs.Common.{refl}
use Rattle.unicode.specs.GeneralCategory.{general_category}
use Rattle.unicode.specs.Rows.{value_in}
use Rattle.ucd_category.specs.GeneralCategoryRows.{general_category_rows}
use Rattle.ix_worked_examples.proofs.classes.classes_as_members.Goals as goal

pub returns-clause-member : goal.returns-clause-member
unfolding general_category value_in general_category_rows
returns-clause-member c = refl

pub returns-clause-no_member : goal.returns-clause-no_member
unfolding general_category value_in general_category_rows
returns-clause-no_member c = λ h. cc h

pub returns-clause-one_letter : goal.returns-clause-one_letter
unfolding general_category value_in general_category_rows
returns-clause-one_letter c = refl

pub returns-clause-no_letter : goal.returns-clause-no_letter
unfolding general_category value_in general_category_rows
returns-clause-no_letter c = λ h. cc h

pub returns-clause-longer : goal.returns-clause-longer
unfolding general_category value_in general_category_rows
returns-clause-longer c = refl

pub returns-clause-second_letter : goal.returns-clause-second_letter
unfolding general_category value_in general_category_rows
returns-clause-second_letter c = refl

pub returns-clause-small : goal.returns-clause-small
unfolding general_category value_in general_category_rows
returns-clause-small c = refl
