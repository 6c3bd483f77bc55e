use Rattle.std.proofs.Common.{sym, subst}
use Rattle.ix_model.specs.declared.rules.Sym.{Sym}
use Rattle.ix_model.specs.Expansion.FlatTrees.{FlatTree}
use Rattle.ix_model.specs.Expansion.FlatDerives.{FlatDerives}
use Rattle.ix_height.specs.Heights.{IsLeastOf}
use Rattle.ix_choice.specs.SlotTrees.{HasSymHeight}
use Rattle.ix_choice.proofs.ForestFacts.{rule_is_least, text_is_least, insertion_is_least}
use Rattle.ix_choice.proofs.forest.Forest.sym_height.Goals as goal

pub returns-in-Rule : goal.returns-in-Rule
returns-in-Rule c =
    subst (λ (x : Sym). IsLeastOf (HasSymHeight c.args.self.now x c.args.low c.args.high) c.rule_height.result) (sym c.in-Rule.is) (rule_is_least c.args.self.now c.in-Rule.rule c.args.low c.args.high c.rule_height.result c.in-Rule.mark c.rule_height.ensures)

pub returns-in-Term : goal.returns-in-Term
returns-in-Term c =
    let tree = subst (λ (x : Sym). (d : FlatTree) × FlatDerives c.args.self.now d x c.args.low c.args.high) c.in-Term.is c.requires.tree in
    subst (λ (x : Sym). IsLeastOf (HasSymHeight c.args.self.now x c.args.low c.args.high) 0) (sym c.in-Term.is) (text_is_least c.args.self.now c.in-Term.terminal c.args.low c.args.high c.in-Term.shown tree)

pub returns-in-Insert : goal.returns-in-Insert
returns-in-Insert c =
    let tree = subst (λ (x : Sym). (d : FlatTree) × FlatDerives c.args.self.now d x c.args.low c.args.high) c.in-Insert.is c.requires.tree in
    subst (λ (x : Sym). IsLeastOf (HasSymHeight c.args.self.now x c.args.low c.args.high) 0) (sym c.in-Insert.is) (insertion_is_least c.args.self.now c.in-Insert.insert c.args.low c.args.high tree)
