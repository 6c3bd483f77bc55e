use Rattle.std.proofs.Common.{arith}
use Rattle.ix_conformance_laws.proofs.Judging.{named_below}
use Rattle.ix_expand.proofs.Naming.{found, found_is_named}
use Rattle.ix_expand.proofs.source.Source.rule_named.Goals as goal

pub unwrap-requires : goal.unwrap-requires
unwrap-requires c = found c.args.self.now.grammar.now c.args.name.now c.args.self.now.names c.args.self.now.named c.first.result c.first.ensures.none c.requires

pub overflow_cast-result : goal.overflow_cast-result
overflow_cast-result c =
    let s = c.args.self.now in
    let n = found_is_named s.grammar.now c.args.name.now s.names s.named c.first.result c.unwrap.result c.first.ensures.some c.unwrap.ensures in
    omega (arith, named_below s.grammar.now c.unwrap.result c.args.name.now n, s.few)

pub returns : goal.returns
returns c = found_is_named c.args.self.now.grammar.now c.args.name.now c.args.self.now.names c.args.self.now.named c.first.result c.unwrap.result c.first.ensures.some c.unwrap.ensures
