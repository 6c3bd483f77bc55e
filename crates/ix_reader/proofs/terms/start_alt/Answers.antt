use Rattle.std.proofs.Common.{sym, subst}
use Rattle.ix_spelling_laws.specs.Reading.Lexing.{semi, bar}
use Rattle.ix_spelling_laws.specs.Reading.Machine as M
use Rattle.ix_reader.specs.declared.machine.Lexeme.{Lexeme}
use Rattle.ix_reader.specs.Views.{Gives, lexeme_of, work_of, state_of}
use Rattle.ix_reader.proofs.terms.start_alt.Goals as goal

pub returns-in-Semi : goal.returns-in-Semi
returns-in-Semi c = λ gap.
    subst (λ (k : Lexeme). Gives state_of c.end_alt.result (M.step M.alt_start (work_of c.args.work) gap (lexeme_of k))) (sym c.in-Semi.is)
    (subst (λ (z : M.Frame). Gives state_of c.end_alt.result (M.end_alt z (work_of c.args.work) semi)) c.fresh-top.ensures (c.end_alt.ensures c.args.work.top))

pub returns-in-Bar : goal.returns-in-Bar
returns-in-Bar c = λ gap.
    subst (λ (k : Lexeme). Gives state_of c.end_alt-in-Bar.result (M.step M.alt_start (work_of c.args.work) gap (lexeme_of k))) (sym c.in-Bar.is)
    (subst (λ (z : M.Frame). Gives state_of c.end_alt-in-Bar.result (M.end_alt z (work_of c.args.work) bar)) c.fresh-top.ensures (c.end_alt-in-Bar.ensures c.args.work.top))
