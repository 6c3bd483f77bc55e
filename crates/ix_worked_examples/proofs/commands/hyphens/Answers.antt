use Rattle.std.proofs.Common.{refl, [], ◌∷◌, codes}
use Rattle.ix_answer_laws.proofs.Commands.{of_read, unread, three_operands}
use Rattle.ix_worked_examples.proofs.commands.hyphens.Goals as goal

pub returns-clause-two_stops : goal.returns-clause-two_stops
returns-clause-two_stops c = (codes "check", (codes "--" ∷ codes "--" ∷ []), (codes "--" ∷ []), ([]), refl, of_read _ _ _ refl, (refl, refl, refl))

pub returns-clause-joined_behind : goal.returns-clause-joined_behind
returns-clause-joined_behind c = (codes "check", (codes "--" ∷ codes "--workers=2" ∷ []), (codes "--workers=2" ∷ []), ([]), refl, of_read _ _ _ refl, (refl, refl, refl))

pub returns-clause-hyphen_behind : goal.returns-clause-hyphen_behind
returns-clause-hyphen_behind c = (codes "check", (codes "--" ∷ codes "-g" ∷ []), (codes "-g" ∷ []), ([]), refl, of_read _ _ _ refl, (refl, refl, refl))

pub returns-clause-hyphen : goal.returns-clause-hyphen
returns-clause-hyphen c = (codes "check", (codes "-" ∷ []), (codes "-" ∷ []), ([]), refl, of_read _ _ _ refl, (refl, refl, refl))

pub returns-clause-empty : goal.returns-clause-empty
returns-clause-empty c = (codes "check", ([] ∷ []), ([] ∷ []), ([]), refl, of_read _ _ _ refl, (refl, refl, refl))

pub returns-clause-hyphen_within : goal.returns-clause-hyphen_within
returns-clause-hyphen_within c = (codes "check", (codes "g-" ∷ []), (codes "g-" ∷ []), ([]), refl, of_read _ _ _ refl, (refl, refl, refl))

pub returns-clause-no_equals : goal.returns-clause-no_equals
returns-clause-no_equals c = unread (codes "parse") (codes "g" ∷ codes "t" ∷ codes "--workers2" ∷ []) refl

pub returns-clause-third_behind : goal.returns-clause-third_behind
returns-clause-third_behind c = three_operands (codes "g" ∷ codes "t" ∷ codes "--" ∷ codes "u" ∷ []) (codes "g") (codes "t") (codes "u") refl
