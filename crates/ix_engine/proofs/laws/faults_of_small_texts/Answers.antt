use Rattle.std.proofs.Common.{◌≡◌, refl, sym, ◌∙◌, subst, codes, [], ◌∷◌, arith}
use Rattle.std.specs.Str.{chars, is_utf8}
use Rattle.std.specs.Str.Lossy.{utf8_valid_len}
use lib.Utf8.{encode}
use Rattle.ix_model.specs.Derivations.Trees.{Tree}
use Rattle.ix_model.specs.Documents.Dyn.{attribute_at_top, Holds}
use Rattle.ix_model.specs.Documents.Gives.{Givens, gives_root}
use Rattle.ix_examples.specs.SmallGrammars as grammars
use Rattle.ix_examples.proofs.SmallTexts.{one_a}
use Rattle.ix_worked_examples.proofs.RefusedTexts.{attribute_refused}
use Rattle.ix_worked_examples.proofs.SmallAnswers.{a_parsed, not_utf8}
use Rattle.ix_engine.proofs.laws.faults_of_small_texts.Goals as goal

pub returns-clause-long : goal.returns-clause-long
returns-clause-long c = λ bytes e. omega (arith, e)

pub returns-clause-not_long : goal.returns-clause-not_long
returns-clause-not_long c = λ bytes e h. omega (arith, e, h)

pub returns-clause-not_utf8 : goal.returns-clause-not_utf8
unfolding chars encode is_utf8 utf8_valid_len
returns-clause-not_utf8 c = (omega arith, not_utf8 (255 ∷ []) refl, refl)

pub returns-clause-shorter : goal.returns-clause-shorter
unfolding chars encode is_utf8 utf8_valid_len
returns-clause-shorter c = λ h. let n : utf8_valid_len (97 ∷ 255 ∷ []) ≡ 1 = refl in omega (arith, h.2, n)

pub returns-clause-utf8 : goal.returns-clause-utf8
unfolding encode
returns-clause-utf8 c = λ h. h.1 (codes "a", (refl, refl))

pub returns-clause-at_top : goal.returns-clause-at_top
unfolding chars encode
returns-clause-at_top c = ((omega arith, (codes "a", (refl, refl))), attribute_refused)

pub returns-clause-document : goal.returns-clause-document
unfolding chars
returns-clause-document c = λ h.
    let tree : h.1.0 ≡ a_parsed.0 = (one_a (codes "a") h.1.0 h.1.1.0).0 ∙ sym (one_a (codes "a") a_parsed.0 a_parsed.1.0).0 in
    let holds : Holds (gives_root (codes "a") grammars.only_a a_parsed.0) (attribute_at_top (codes "S")) = subst (λ (d : Tree). Holds (gives_root (codes "a") grammars.only_a d) (attribute_at_top (codes "S"))) tree h.1.2.0 in
    a_parsed.3 (attribute_at_top (codes "S")) (subst (λ (gs : Givens). Holds gs (attribute_at_top (codes "S"))) (sym a_parsed.2) holds)
