-- From the parts that words are read as to what they ask for.
use Rattle.std.proofs.Common.{◌≡◌, refl, sym, subst, ◌∙◌, Result, Ok, Err, IfOk, IsErr, IsErrAnd}
use Rattle.clap.specs.Walk.{Text}
use Rattle.ix_model.specs.Answers.CommandLine.{Command, Asks, IsCommand, HasNoForm}
use Rattle.ix_answer_laws.proofs.Commands.{parts_are, read_is}
use Rattle.ix_words.specs.NameAndParts.{IsRead}
use Rattle.ix_words.proofs.Turns.{Words}

module _ (words : Words) (name : Text) (ops vals ops' vals' : Words) (a : ops' ≡ ops) (b : vals' ≡ vals) (is_read : IsRead words name ops vals) where
  -- words whose parts ask for a command ask for it
  pub is_asked : (command : Command) → Asks name ops' vals' command → IsCommand words command
  is_asked command asks =
      (name, is_read.0, ops, vals, is_read.1, is_read.2, subst (λ x. Asks name x vals command) a (subst (λ x. Asks name ops' x command) b asks))

  -- words whose parts ask for no command have no form
  pub unasked : ((command : Command) → ¬ (Asks name ops' vals' command)) → HasNoForm words
  unasked none command is =
      let asks = parts_are name is_read.0 ops vals command (read_is is_read.0 ops vals is_read.2) (subst (λ x. IsCommand x command) is_read.1 is) in
      none command (subst (λ x. Asks name x vals' command) (sym a) (subst (λ x. Asks name ops x command) (sym b) asks))

-- an error that `?` passes up as it is
pub passed_up : {T E : Type 0} (r : Result T E) (x y : E) → IsErrAnd r (λ z. z ≡ x) → r ≡ Err y → x ≡ y
passed_up (Ok v) x y h e = absurd h
passed_up (Err z) x y h e =
    let f : z ≡ y = cc e in
    sym h ∙ f

-- an answer whose value would be what there is none of is an error
pub no_value : {T E : Type 0} (P : T → Type 0) (r : Result T E) → IfOk r P → ((x : T) → ¬ (P x)) → IsErr r
no_value P (Ok x) h none = absurd (none x h)
no_value P (Err e) h none = refl
