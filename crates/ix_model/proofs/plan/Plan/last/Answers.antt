use Rattle.std.proofs.Common.{◌≡◌, ap, List, length, subst, arith}
use Rattle.std.proofs.lemmas.Option.{slice_get_within}
use Rattle.ix_model.specs.declared.rules.Sym.{Sym}
use Rattle.ix_model.specs.Expansion.Planned.{IsPlanned}
use Rattle.ix_model.specs.Expansion.Numbered.{syms_at}
use Rattle.ix_model.proofs.Readers.{last_is}
use Rattle.ix_model.proofs.plan.Plan.last.Goals as goal

pub overflow_cast-result : goal.overflow_cast-result
overflow_cast-result c =
    let planned : IsPlanned c.args.self.now = subst IsPlanned c.self.view_is c.self.invariant in
    let at = last_is c.args.self.now planned c.args.rule c.args.alt c.first.result c.requires.rule c.requires.alt c.first.ensures in
    omega (arith, slice_get_within c.args.self.now.slots _ _ at, planned.slots_fit, c.len.ensures, ap (λ (xs : List Sym). length xs) c.syms.ensures)

pub overflow_add-result : goal.overflow_add-result
overflow_add-result c =
    let planned : IsPlanned c.args.self.now = subst IsPlanned c.self.view_is c.self.invariant in
    let at = last_is c.args.self.now planned c.args.rule c.args.alt c.first.result c.requires.rule c.requires.alt c.first.ensures in
    omega (arith, slice_get_within c.args.self.now.slots _ _ at, planned.slots_fit, c.len.ensures, ap (λ (xs : List Sym). length xs) c.syms.ensures)

pub returns : goal.returns
returns c =
    let planned : IsPlanned c.args.self.now = subst IsPlanned c.self.view_is c.self.invariant in
    let count : c.len.result ≡ length (syms_at c.args.self.now.rules c.args.rule c.args.alt) = rw (c.len.ensures) (ap (λ (xs : List Sym). length xs) c.syms.ensures) in
    rw count (last_is c.args.self.now planned c.args.rule c.args.alt c.first.result c.requires.rule c.requires.alt c.first.ensures)
