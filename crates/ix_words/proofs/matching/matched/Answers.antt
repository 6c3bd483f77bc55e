use Rattle.std.proofs.Common.{◌≡◌, ap, subst, ◌∙◌, ⊎_elim, IfErr, None, map, string_bytes, []}
use Rattle.std.proofs.lemmas.Result.{IfOk-weaker}
use Rattle.clap.specs.Words.{fault_of, is_simple_and_free, HasKind, HasMatchesOf, kind_of, subcommand_rows_of}
use Rattle.ix_words.proofs.Parsing.{all_texts, has_command, is_read, reader_is_free, refused}
use Rattle.ix_words.proofs.matching.matched.Goals as goal

pub returns-in-Ok-clause-ok : goal.returns-in-Ok-clause-ok
returns-in-Ok-clause-ok c =
    let texts = map (λ s. string_bytes s) c.args.words.now in
    let matches = c.in-Ok.matches in
    let none = subst (λ app. fault_of app texts ≡ []) c.in_ok-reader.ensures (c.in-Ok.ensures.kinds (ap is_simple_and_free c.in_ok-reader.ensures ∙ reader_is_free)) in
    let has = subst (λ app. HasMatchesOf app texts matches) c.in_ok-reader.ensures c.in-Ok.ensures.matches in
    IfOk-weaker c.named.result _ _ (λ command rows. is_read texts matches command.1 command.0.now (all_texts c.args.words.now) c.requires none has rows) c.named.ensures.ok

pub returns-in-Ok-clause-none : goal.returns-in-Ok-clause-none
returns-in-Ok-clause-none c = λ same.
    let texts = map (λ s. string_bytes s) c.args.words.now in
    let matches = c.in-Ok.matches in
    let has = subst (λ app. HasMatchesOf app texts matches) c.in_ok-reader.ensures c.in-Ok.ensures.matches in
    absurd (has_command texts matches c.requires has (subst (λ r. IfErr r (λ _. subcommand_rows_of matches ≡ None)) same c.named.ensures.none))

pub returns : goal.returns
returns c =
    let texts = map (λ s. string_bytes s) c.args.words.now in
    let fails = subst (λ app. HasKind (fault_of app texts) c.in-Err.error) c.in_ok-reader.ensures
    (c.in-Err.ensures.kinds (ap is_simple_and_free c.in_ok-reader.ensures ∙ reader_is_free)) in
    record {
      ok = tt;
      none = λ same. ⊎_elim (λ memory. absurd (c.in_default.not-OutOfMemory (c.kind.ensures ∙ memory))) (refused texts (kind_of c.in-Err.error)) fails;
    }
