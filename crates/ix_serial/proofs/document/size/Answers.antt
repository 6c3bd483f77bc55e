use Rattle.std.proofs.Common.{◌≡◌, ◌≤◌, ◌^◌, ap, sym, subst, arith, length, ℕ, List, Option}
use Rattle.std.specs.Prelude.{MatchOption}
use Rattle.std.specs.List.{concat}
use Rattle.std.proofs.lemmas.List.{length-append}
use Rattle.ix_model.specs.Documents.Xml.{xml}
use Rattle.ix_serial.specs.Cursors.{rest}
use Rattle.ix_serial.specs.Units.{unit_bytes}
use Rattle.ix_serial.proofs.Documents.{document_read}
use Rattle.ix_serial.proofs.document.size.Goals as goal

pub returns-in_err-count : goal.returns-in_err-count
returns-in_err-count c gs s =
    let names = c.args.plan.now.rules.names in
    let m = c.args.marked.now in
    let unit = unit_bytes c.in-Some.unit in
    let behind = concat (rest names m c.next.new.self) in
    let whole = document_read names m c.args.state c.requires.document.0 gs c.requires.there c.requires.document.1 c.requires.document.2 s in
    let longer : 2 ^ 64 ≤ length (xml gs c.args.state) =
    omega (arith, c.loop-unit.invariant.1, c.in_err-count.ensures, c.len.ensures, ap (λ (xs : List (List ℕ)). length (concat xs)) c.in-Some.ensures.rest, length-append unit behind, ap (λ (xs : List ℕ). length xs) whole) in
    subst (λ (r : Option ℕ). MatchOption r (2 ^ 64 ≤ length (xml gs c.args.state)) (λ n. n ≡ length (xml gs c.args.state))) (sym c.from_residual.ensures) longer

pub returns : goal.returns
returns c gs s =
    let whole = document_read c.args.plan.now.rules.names c.args.marked.now c.args.state c.requires.document.0 gs c.requires.there c.requires.document.1 c.requires.document.2 s in
    omega (arith, c.loop-unit.invariant.1, ap (λ (xs : List (List ℕ)). length (concat xs)) c.in_default.ensures.rest, ap (λ (xs : List ℕ). length xs) whole)
