use Rattle.std.proofs.Common.{ℕ, List, Option, sym, ap, ◌∙◌, inr}
use Rattle.atomic_table.specs.Table.{Me}
use Rattle.ix_rows.specs.declared.view.View.{View}
use Rattle.ix_rows.proofs.Counts.{some_none}
use Rattle.ix_rows.proofs.laws.passes_belong_to_a_row.Goals as goal

abbrev Small : Type 0
Small = Me (Option (List ℕ)) (View ℕ ℕ)

pub returns-clause-same : goal.returns-clause-same
returns-clause-same c = λ row pass e same. (same, (inr (ap (λ (m : Small). m.0.lent) e), (3, ap (λ (m : Small). m.0.topic) e)))

pub returns-clause-other : goal.returns-clause-other
returns-clause-other c = λ row pass apart is. apart is.0

pub returns-clause-joined : goal.returns-clause-joined
returns-clause-joined c = λ row pass e is. some_none is.1.1.0 (sym (ap (λ (m : Small). m.0.topic) e) ∙ is.1.1.1)

pub returns-clause-places : goal.returns-clause-places
returns-clause-places c = λ row e. e
