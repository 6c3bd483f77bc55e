use Rattle.std.proofs.Common.{ℕ, List, [], ◌∷◌, length, Option, refl, sym, ap, arith}
use Rattle.ix_rows.specs.declared.view.View.{View}
use Rattle.ix_rows.specs.Examples.{busy, two_logs}
use Rattle.ix_rows.specs.Logs.{log_at}
use Rattle.ix_rows.specs.Views.{giving}
use Rattle.ix_rows.proofs.Counts.{some_none, held_is}
use Rattle.ix_rows.proofs.Logs.{begins_all}
use Rattle.ix_rows.proofs.laws.releases_and_looks.Goals as goal

pub returns-clause-released : goal.returns-clause-released
returns-clause-released c = λ y e. ap (λ (log : List ℕ). (giving busy.0 0 log, [])) (held_is 0 (7 ∷ 8 ∷ []) y busy.1 refl e)

pub returns-clause-not_held : goal.returns-clause-not_held
returns-clause-not_held c = λ h. some_none 0 (sym (ap (λ (v : View ℕ ℕ × List (ℕ × Option (List ℕ))). v.0.place) (h (7 ∷ 8 ∷ []) refl)))

pub returns-clause-looked : goal.returns-clause-looked
returns-clause-looked c = (refl, λ m. (begins_all (log_at two_logs m), begins_all (log_at two_logs m)))

pub returns-clause-not_merged : goal.returns-clause-not_merged
returns-clause-not_merged c = λ h. let came = ap (λ (v : View ℕ ℕ × List (ℕ × Option (List ℕ))). length v.0.came) h.0 in omega arith
