use Rattle.std.proofs.Common.{◌≡◌, ℕ, List, sym, ◌∙◌, ap, subst, rules}
use Rattle.ix_errors.specs.Mentions.{AreOf}
use Rattle.ix_model.specs.Grammars.Names.{names_of}
use Rattle.ix_errors.proofs.Judged.{least_range, least_class, least_call, last_ok, last_err}
use Rattle.ix_errors.proofs.conformance.check.Goals as goal

pub returns-in_err-check_ranges-clause-err : goal.returns-in_err-check_ranges-clause-err
returns-in_err-check_ranges-clause-err c =
    let g = c.args.grammar.now in
    let mentions = c.as_slice-mentions.result.now in
    let are : AreOf g mentions = subst (AreOf g) (sym c.as_slice-mentions.ensures.value) c.in_ok-found.ensures in
    let one = c.in_ok-check_version.ensures.ok in
    let points = c.in_ok-check_codes.ensures.ok in
    let least = least_range g mentions are one points c.in_err-check_ranges.field-0.0 c.in_err-check_ranges.ensures.err in
    search rules

pub returns-in_err-check_classes-clause-err : goal.returns-in_err-check_classes-clause-err
returns-in_err-check_classes-clause-err c =
    let g = c.args.grammar.now in
    let mentions = c.as_slice-mentions.result.now in
    let are : AreOf g mentions = subst (AreOf g) (sym c.as_slice-mentions.ensures.value) c.in_ok-found.ensures in
    let one = c.in_ok-check_version.ensures.ok in
    let points = c.in_ok-check_codes.ensures.ok in
    let least = least_class g mentions are one points c.in_ok-check_ranges.ensures.ok c.in_err-check_classes.field-0.0 c.in_err-check_classes.ensures.err in
    search rules

pub returns-in_err-check_calls-clause-err : goal.returns-in_err-check_calls-clause-err
returns-in_err-check_calls-clause-err c =
    let g = c.args.grammar.now in
    let mentions = c.as_slice-mentions.result.now in
    let are : AreOf g mentions = subst (AreOf g) (sym c.as_slice-mentions.ensures.value) c.in_ok-found.ensures in
    let one = c.in_ok-check_version.ensures.ok in
    let points = c.in_ok-check_codes.ensures.ok in
    let rising = c.in_ok-check_ranges.ensures.ok in
    let known = c.in_ok-check_classes.ensures.ok in
    let names : List (List ℕ) = c.in_ok-names.names in
    let named_as : names ≡ names_of g.rules = c.in_ok-names.ensures ∙ ap names_of c.as_slice-rules.ensures in
    let least = least_call g mentions are one points rising known names named_as c.in_err-check_calls.field-0.0 c.in_err-check_calls.ensures.err in
    search rules

pub returns-clause-ok : goal.returns-clause-ok
returns-clause-ok c =
    let g = c.args.grammar.now in
    let mentions = c.as_slice-mentions.result.now in
    let are : AreOf g mentions = subst (AreOf g) (sym c.as_slice-mentions.ensures.value) c.in_ok-found.ensures in
    let one = c.in_ok-check_version.ensures.ok in
    let points = c.in_ok-check_codes.ensures.ok in
    let rising = c.in_ok-check_ranges.ensures.ok in
    let known = c.in_ok-check_classes.ensures.ok in
    let names : List (List ℕ) = c.in_ok-names.names in
    let named_as : names ≡ names_of g.rules = c.in_ok-names.ensures ∙ ap names_of c.as_slice-rules.ensures in
    last_ok g mentions are one points rising known names named_as c.in_ok-check_calls.ensures.ok c.check_repeats.result c.check_repeats.ensures.ok

pub returns-clause-err : goal.returns-clause-err
returns-clause-err c =
    let g = c.args.grammar.now in
    let mentions = c.as_slice-mentions.result.now in
    let are : AreOf g mentions = subst (AreOf g) (sym c.as_slice-mentions.ensures.value) c.in_ok-found.ensures in
    let one = c.in_ok-check_version.ensures.ok in
    let points = c.in_ok-check_codes.ensures.ok in
    let rising = c.in_ok-check_ranges.ensures.ok in
    let known = c.in_ok-check_classes.ensures.ok in
    let names : List (List ℕ) = c.in_ok-names.names in
    let named_as : names ≡ names_of g.rules = c.in_ok-names.ensures ∙ ap names_of c.as_slice-rules.ensures in
    last_err g mentions are one points rising known names named_as c.in_ok-check_calls.ensures.ok c.check_repeats.result c.check_repeats.ensures.err
