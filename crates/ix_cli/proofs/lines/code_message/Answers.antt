use Rattle.std.proofs.Common.{◌≡◌, ◌∙◌, ap, sym, ◌++◌, codes, decimal}
use Rattle.std.proofs.lemmas.Result.{IfOk-weaker}
use Rattle.ix_model.specs.Documents.Xml.{name_bytes}
use Rattle.ix_cli.specs.Lines.{code_line}
use Rattle.ix_cli.proofs.LineForms.{attribute_line, top_line, name_line}
use Rattle.ix_cli.proofs.lines.code_message.Goals as goal

pub returns-in-AttributeAtTop : goal.returns-in-AttributeAtTop
returns-in-AttributeAtTop c =
    let name = c.in-AttributeAtTop.name in
    IfOk-weaker c.about.result (λ line. line.items ≡ codes "ixml: E01: attribute " ++ (name_bytes name ++ codes " at the top\n")) (λ line. line.items ≡ code_line c.args.code.now)
    (λ line e. e ∙ attribute_line name ∙ ap code_line (sym c.in-AttributeAtTop.is)) c.about.ensures

pub returns-in-NotOneElement : goal.returns-in-NotOneElement
returns-in-NotOneElement c =
    let elements = c.in-NotOneElement.elements in
    let chars = c.in-NotOneElement.chars in
    IfOk-weaker c.top_message.result
    (λ line. line.items ≡ codes "ixml: E02: " ++ (decimal elements ++ (codes " elements and " ++ (decimal chars ++ codes " characters at the top\n")))) (λ line. line.items ≡ code_line c.args.code.now)
    (λ line e. e ∙ top_line elements chars ∙ ap code_line (sym c.in-NotOneElement.is)) c.top_message.ensures

pub returns-in-BadName : goal.returns-in-BadName
returns-in-BadName c =
    let name = c.in-BadName.name in
    IfOk-weaker c.about-in-BadName.result (λ line. line.items ≡ codes "ixml: E03: " ++ (name_bytes name ++ codes " is no XML name\n")) (λ line. line.items ≡ code_line c.args.code.now)
    (λ line e. e ∙ name_line name ∙ ap code_line (sym c.in-BadName.is)) c.about-in-BadName.ensures
