use Rattle.std.proofs.Common.{refl}
use Rattle.unicode.specs.GeneralCategory.{general_category}
use Rattle.unicode.specs.Rows.{value_in}
use Rattle.ucd_category.specs.GeneralCategoryRows.{general_category_rows}
use Rattle.ix_model.specs.Spelling.Characters.{is_blank, is_name_start, is_name_part}
use Rattle.ix_spelling_laws.proofs.ByReading.{reads}
use Rattle.ix_worked_examples.proofs.spellings.prologs.Goals as goal

pub returns-clause-version : goal.returns-clause-version
unfolding is_blank is_name_start is_name_part general_category value_in general_category_rows
returns-clause-version c = reads _ _ refl

pub returns-clause-tight : goal.returns-clause-tight
unfolding is_blank is_name_start is_name_part general_category value_in general_category_rows
returns-clause-tight c = reads _ _ refl

pub returns-clause-comments : goal.returns-clause-comments
unfolding is_blank is_name_start is_name_part general_category value_in general_category_rows
returns-clause-comments c = reads _ _ refl

pub returns-clause-empty_version : goal.returns-clause-empty_version
unfolding is_blank is_name_start is_name_part general_category value_in general_category_rows
returns-clause-empty_version c = reads _ _ refl

pub returns-clause-rule_named_ixml : goal.returns-clause-rule_named_ixml
unfolding is_blank is_name_start is_name_part general_category value_in general_category_rows
returns-clause-rule_named_ixml c = reads _ _ refl

pub returns-clause-rule_named_ixml_behind : goal.returns-clause-rule_named_ixml_behind
unfolding is_blank is_name_start is_name_part general_category value_in general_category_rows
returns-clause-rule_named_ixml_behind c = reads _ _ refl

pub returns-clause-rule_named_version : goal.returns-clause-rule_named_version
unfolding is_blank is_name_start is_name_part general_category value_in general_category_rows
returns-clause-rule_named_version c = reads _ _ refl

pub returns-clause-longer_name : goal.returns-clause-longer_name
unfolding is_blank is_name_start is_name_part general_category value_in general_category_rows
returns-clause-longer_name c = reads _ _ refl
