use Rattle.std.proofs.Common.{refl, ap, arith}
use Rattle.unicode.specs.GeneralCategory.{general_category}
use Rattle.unicode.specs.Rows.{value_in}
use Rattle.ucd_category.specs.GeneralCategoryRows.{general_category_rows}
use Rattle.ix_model.specs.Spelling.Characters.{is_blank, is_name_start, is_name_part}
use Rattle.ix_model.specs.Spelling.Depth.{depth}
use Rattle.ix_examples.specs.SmallSpellings.{pairs, pairs_text}
use Rattle.ix_spelling_laws.proofs.ByReading.{reads}
use Rattle.ix_spelling_laws.proofs.ReadingComplete.{spelled_once}
use Rattle.ix_worked_examples.proofs.Pairs.{pairs_deep}
use Rattle.ix_worked_examples.proofs.depth.many_pairs.Goals as goal

pub returns-clause-depth : goal.returns-clause-depth
returns-clause-depth c = pairs_deep

pub returns-clause-spelled : goal.returns-clause-spelled
unfolding is_blank is_name_start is_name_part general_category value_in general_category_rows
returns-clause-spelled c = reads (pairs_text 101) (pairs 101) refl

pub returns-clause-not_fewer : goal.returns-clause-not_fewer
unfolding is_blank is_name_start is_name_part general_category value_in general_category_rows
returns-clause-not_fewer c = λ h. omega (arith, ap depth (spelled_once (pairs_text 101) (pairs 101) (pairs 100) (reads (pairs_text 101) (pairs 101) refl) h), pairs_deep 101, pairs_deep 100)
