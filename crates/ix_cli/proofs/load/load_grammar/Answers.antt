use Rattle.std.proofs.Common.{◌≡◌, ◌∙◌, take}
use Rattle.ix_model.specs.Answers.Answer.{HoldsConforming}
use Rattle.ix_engine.specs.Compiled.{IsRefusalOf}
use Rattle.ix_cli.specs.Loaded.{Holds, IsGrammarFault}
use Rattle.ix_cli.specs.Means.{of_refusal}
use Rattle.ix_cli.proofs.LoadedFiles.{holds_more, compiled_whole, refused_whole, refusal_caused}
use Rattle.ix_cli.proofs.Replies.{handed_on}
use Rattle.ix_cli.proofs.load.load_grammar.Goals as goal

pub returns-in_err-grammar-clause-err : goal.returns-in_err-grammar-clause-err
returns-in_err-grammar-clause-err g c =
    let told = g.F.Files.told c.args.files.now in
    let name = c.args.name.now in
    let refused : Holds told name (λ bytes. IsRefusalOf bytes c.in_err-grammar.field-0.0) =
    holds_more told name (λ bytes. c.in_ok-bytes.bytes.items ≡ take 1048577 bytes) (λ bytes. IsRefusalOf bytes c.in_err-grammar.field-0.0)
    (λ bytes e. refused_whole c.in_err-grammar.field-0.0 c.deref.result.now bytes (c.deref.ensures.value ∙ e) c.in_err-grammar.ensures.err)
    c.in_ok-bytes.ensures.ok in
    handed_on c.from_residual-in_err-grammar.result (IsGrammarFault told (g.F.Files.faults c.args.files.now) (g.F.Files.faults c.load.new.files) name)
    (of_refusal c.in_err-grammar.field-0.0) c.from_residual-in_err-grammar.ensures.1
    (refusal_caused told (g.F.Files.faults c.args.files.now) (g.F.Files.faults c.load.new.files) name c.in_err-grammar.field-0.0 refused)

pub returns-clause-ok : goal.returns-clause-ok
returns-clause-ok g c =
    holds_more (g.F.Files.told c.args.files.now) c.args.name.now (λ bytes. c.in_ok-bytes.bytes.items ≡ take 1048577 bytes) (λ bytes. HoldsConforming bytes c.in_ok-grammar.grammar)
    (λ bytes e. compiled_whole c.in_ok-grammar.grammar c.deref.result.now bytes (c.deref.ensures.value ∙ e) c.in_ok-grammar.ensures.ok)
    c.in_ok-bytes.ensures.ok
