-- Words that are read, with values that are operands by themselves, are taken by `clap`'s walk to the end.
use Rattle.std.proofs.Common.{refl, true, false, List, [], ◌∷◌, Some, None, codes}
use Rattle.clap.specs.Walk.{Row, Waiting, idle, positional, used}
use Rattle.clap.specs.Faults.{walk_fault}
use Rattle.ix_model.specs.Answers.CommandLine.{IsOperand, Reads, no_word, end_of_options, next_value, joined_value, operand as one_operand}
use Rattle.ix_words.proofs.Turns.{workers, Words, Pending, at, IsFree, Passes, settle, as_operand, trailing_goes, plain_goes, end_goes, waits_at, named_goes, joined_goes, value_goes}
use Rattle.ix_words.proofs.TakenAreRead.{Taken, taken_on}

abbrev pub AllOperands : Words → Type 0
AllOperands [] = Unit {0}
AllOperands (w ∷ ws) = IsOperand w × AllOperands ws

trailing_taken : (words : Words) (rows : List Row) (p : Pending) (waiting : Waiting) → Passes rows p → Taken (at rows p waiting true) words
unfolding walk_fault
trailing_taken [] rows p waiting s = (refl, s)
trailing_taken (w ∷ ws) rows p waiting s =
    taken_on (at rows p waiting true) (as_operand rows p w true) w ws (trailing_goes rows p waiting w s) (trailing_taken ws (settle rows p) (Some (codes "operand", w ∷ [])) positional refl)

pub complete : (words o v : Words) → Reads words o v → AllOperands v → (rows : List Row) (p : Pending) (waiting : Waiting) → IsFree waiting → Passes rows p → Taken (at rows p waiting false) words
unfolding walk_fault
complete _ _ _ no_word a rows p waiting f s = (refl, s)
complete _ _ _ (end_of_options w words e) a rows p waiting f s =
    taken_on (at rows p waiting false) (at rows p waiting true) w words (end_goes rows p waiting w e) (trailing_taken words rows p waiting s)
complete _ _ _ (next_value w val words o v e h) a rows p waiting f s =
    let R = settle rows p in
    taken_on (at rows p waiting false) (waits_at R) w (val ∷ words) (named_goes rows p waiting w e s)
    (taken_on (waits_at R) (at R (Some (codes "workers", val ∷ [])) idle false) val words (value_goes R val a.0) (complete words o v h a.1 R (Some (codes "workers", val ∷ [])) idle tt refl))
complete _ _ _ (joined_value w val words o v e h) a rows p waiting f s =
    let R = used workers (val ∷ []) (settle rows p) in
    taken_on (at rows p waiting false) (at R None idle false) w words (joined_goes rows p waiting w val e s) (complete words o v h a.1 R None idle tt refl)
complete _ _ _ (one_operand w words o v i h) a rows p waiting f s =
    taken_on (at rows p waiting false) (as_operand rows p w false) w words (plain_goes rows p waiting w f i s)
    (complete words o v h a (settle rows p) (Some (codes "operand", w ∷ [])) positional tt refl)
