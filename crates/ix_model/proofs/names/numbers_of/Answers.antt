use Rattle.std.proofs.Common.{◌≡◌, ◌+◌, ◌++◌, ◌∷◌, [], List, ℕ, take, length, subst, sym, ap, ◌∙◌, arith}
use Rattle.std.proofs.lemmas.List.{map_more, length-map, length-take-le}
use Rattle.ix_model.specs.declared.grammar.Rule.{Rule}
use Rattle.ix_model.specs.Grammars.Names.{AreNumbersOf, names_of}
use Rattle.ix_model.proofs.FirstNames.{one_more_name}
use Rattle.ix_model.proofs.names.numbers_of.Goals as goal

pub loop-number-preserved : goal.loop-number-preserved
loop-number-preserved c =
    let rules : List Rule = c.args.rules.now in
    let n : ℕ = c.loop-number.number in
    let name : List ℕ = c.as_slice.result.now in
    let named : names_of (take n rules) ++ name ∷ [] ≡ names_of (take (n + 1) rules) =
    ap (λ (x : List ℕ). names_of (take n rules) ++ x ∷ []) c.as_slice.ensures ∙ sym (map_more (λ (r : Rule). r.name) rules n c.index-rules-number.result c.loop-number-test.true) in
    let counted : length (names_of (take n rules)) ≡ n = length-map (take n rules) (λ (r : Rule). r.name) ∙ length-take-le n rules (omega (arith, c.loop-number-test.true)) in
    subst (AreNumbersOf c.add.new.numbers) named (one_more_name c.loop-number.numbers c.add.new.numbers (names_of (take n rules)) name n (sym counted) c.loop-number.invariant c.in_ok-add.ensures)
