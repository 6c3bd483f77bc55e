use Rattle.std.proofs.Common.{refl}
use Rattle.ix_worked_examples.proofs.marks.content_escapes.Goals as goal

pub returns-clause-quote : goal.returns-clause-quote
unfolding lib.Utf8.encode
returns-clause-quote c = refl

pub returns-clause-tab : goal.returns-clause-tab
unfolding lib.Utf8.encode
returns-clause-tab c = refl

pub returns-clause-line_feed : goal.returns-clause-line_feed
unfolding lib.Utf8.encode
returns-clause-line_feed c = refl

pub returns-clause-apostrophe : goal.returns-clause-apostrophe
unfolding lib.Utf8.encode
returns-clause-apostrophe c = refl

pub returns-clause-percent : goal.returns-clause-percent
unfolding lib.Utf8.encode
returns-clause-percent c = refl

pub returns-clause-semicolon : goal.returns-clause-semicolon
unfolding lib.Utf8.encode
returns-clause-semicolon c = refl

pub returns-clause-equals : goal.returns-clause-equals
unfolding lib.Utf8.encode
returns-clause-equals c = refl

pub returns-clause-question : goal.returns-clause-question
unfolding lib.Utf8.encode
returns-clause-question c = refl

pub returns-clause-number_sign : goal.returns-clause-number_sign
unfolding lib.Utf8.encode
returns-clause-number_sign c = refl

pub returns-clause-exclamation : goal.returns-clause-exclamation
unfolding lib.Utf8.encode
returns-clause-exclamation c = refl

pub returns-clause-form_feed : goal.returns-clause-form_feed
unfolding lib.Utf8.encode
returns-clause-form_feed c = refl

pub returns-clause-shift_out : goal.returns-clause-shift_out
unfolding lib.Utf8.encode
returns-clause-shift_out c = refl

pub returns-clause-accent : goal.returns-clause-accent
unfolding lib.Utf8.encode
returns-clause-accent c = refl
