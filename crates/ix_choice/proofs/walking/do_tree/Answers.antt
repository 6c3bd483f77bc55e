use Rattle.std.proofs.Common.{sym, subst}
use Rattle.std.proofs.lemmas.Result.{on_ok_weaker}
use Rattle.ix_model.specs.declared.rules.Sym.{Sym}
use Rattle.ix_choice.specs.Tasks.{Does}
use Rattle.ix_choice.specs.declared.task.Task.TheVariants as task
use Rattle.ix_choice.proofs.walking.do_tree.Goals as goal

pub returns-in-Named : goal.returns-in-Named
returns-in-Named c =
    on_ok_weaker c.do_named.result (λ does. subst (λ (x : Sym). Does c.args.forest.now (task.Tree x c.args.low c.args.high c.args.bound) c.args.tasks.now.items c.do_named.new.tasks.items c.args.steps.now.items c.do_named.new.steps.items) (sym c.in-Rule.is) (does c.args.bound)) c.do_named.ensures

pub returns-in_default : goal.returns-in_default
returns-in_default c =
    on_ok_weaker c.do_helper.result (λ does. subst (λ (x : Sym). Does c.args.forest.now (task.Tree x c.args.low c.args.high c.args.bound) c.args.tasks.now.items c.do_helper.new.tasks.items c.args.steps.now.items c.args.steps.now.items) (sym c.in-Rule.is) (does c.args.steps.now.items)) c.do_helper.ensures
