use Rattle.std.proofs.Common.{refl, [], None, codes, arith}
use Rattle.ix_model.specs.declared.grammar.Chars.TheVariants.{Quoted}
use Rattle.ix_model.specs.declared.rules.Rules.{Rules}
use Rattle.ix_model.specs.declared.rules.Sym.TheVariants as sym
use Rattle.ix_model.specs.declared.rules.Terminal.TheVariants as terminal
use Rattle.ix_examples.specs.SmallGrammars.{only_a, literal}
use Rattle.ix_examples.specs.SmallRules.{rules_of}
use Rattle.ix_model.specs.Expansion.Expanded.{FactorBecomes}
use Rattle.ix_expansion_laws.proofs.Lowering.{of_literal}
use Rattle.std.specs.Prelude.{true}
use Rattle.ix_expand.specs.Examples.{unmade}
use Rattle.ix_expand.specs.Growth.{next, with_terminal}
use Rattle.ix_expand.proofs.Alone.{literal_made}
use Rattle.ix_expand.proofs.laws.made_of_a_literal.Goals as goal

pub returns-clause-makes : goal.returns-clause-makes
returns-clause-makes c = literal_made only_a unmade (with_terminal unmade (terminal.Lit (codes "a"))) None (Quoted (codes "a")) (codes "a") 0 true refl refl refl refl

pub returns-clause-no_terminal : goal.returns-clause-no_terminal
returns-clause-no_terminal c = λ m.
    let none : Rules = rules_of [] [] in
    let h : FactorBecomes only_a none (next unmade) (literal (codes "a")) (sym.Term 0 true) (next unmade) =
    m.becomes none (record { flats = λ n l k. absurd (omega (arith, k)); terminals = λ n l k. absurd (omega (arith, k)); inserts = λ n l k. absurd (omega (arith, k)) }) in
    let o = of_literal only_a none (next unmade) (next unmade) (literal (codes "a")) (sym.Term 0 true) h None (Quoted (codes "a")) refl in
    cc o.1
