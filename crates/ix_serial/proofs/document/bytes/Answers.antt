use Rattle.std.proofs.Common.{◌++◌, ap, sym, ◌∙◌, append-nil, string_bytes, Vec, Global, ℕ}
use Rattle.std.specs.List.{concat}
use Rattle.ix_serial.proofs.Documents.{document_read}
use Rattle.ix_serial.proofs.document.bytes.Goals as goal

pub returns : goal.returns
returns c gs s =
    let l = c.loop-unit in
    ap (λ (v : Vec ℕ Global). v.items) c.into_bytes.ensures.value
    ∙ sym (append-nil (string_bytes l.text)) ∙ ap (λ xs. string_bytes l.text ++ concat xs) (sym c.in_default.ensures.rest) ∙ l.invariant.1
    ∙ document_read c.args.plan.now.rules.names c.args.marked.now c.args.state c.requires.document.0 gs c.requires.there c.requires.document.1 c.requires.document.2 s
