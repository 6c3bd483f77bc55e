use Rattle.std.proofs.Common.{◌≡◌, ℕ, true, false, List, [], ◌∷◌, Option, None, sym, ap, ◌∙◌, inl, inr, arith}
use Rattle.atomic_table.specs.Table.{Me}
use Rattle.ix_rows.specs.declared.view.View.{View}
use Rattle.ix_rows.proofs.Counts.{some_is, some_none}
use Rattle.ix_rows.proofs.laws.passes_tell_their_state.Goals as goal

abbrev Small : Type 0
Small = Me (Option (List ℕ)) (View ℕ ℕ)

-- the value in the first slot that is out
value : List (ℕ × Option (List ℕ)) → Option (List ℕ)
value [] = None
value (x ∷ xs) = x.1

pub returns-clause-none : goal.returns-clause-none
returns-clause-none c = λ pass e. (
  (ap (λ (m : Small). m.1) e, ap (λ (m : Small). m.0.place) e),
  ap (λ (m : Small). m.0.root) e,
  ap (λ (m : Small). m.0.out) e,
  ap (λ (m : Small). m.0.topic) e,
  (inl (ap (λ (m : Small). m.0.root) e), (3, ap (λ (m : Small). m.0.topic) e)),
)

pub returns-clause-split : goal.returns-clause-split
returns-clause-split c = λ pass e. (
  (ap (λ (m : Small). m.1) e, ap (λ (m : Small). m.0.place) e),
  (inr (ap (λ (m : Small). m.0.lent) e), (3, ap (λ (m : Small). m.0.topic) e)),
)

pub returns-clause-no_root : goal.returns-clause-no_root
returns-clause-no_root c = λ pass e is. let never : false ≡ true = sym (ap (λ (m : Small). m.0.root) e) ∙ is in absurd (cc)

pub returns-clause-not_whole : goal.returns-clause-not_whole
returns-clause-not_whole c = λ pass e is. let out = ap (λ (m : Small). m.0.out) e in omega arith

pub returns-clause-not_named : goal.returns-clause-not_named
returns-clause-not_named c = λ pass e is. let topic = some_is 3 4 (sym (ap (λ (m : Small). m.0.topic) e) ∙ is) in omega arith

pub returns-clause-not_live : goal.returns-clause-not_live
returns-clause-not_live c = λ pass e is. some_none is.1.0 (sym (ap (λ (m : Small). m.0.topic) e) ∙ is.1.1)

pub returns-clause-held : goal.returns-clause-held
returns-clause-held c = λ pass e. (ap (λ (m : Small). m.1) e, ap (λ (m : Small). m.0.place) e)

pub returns-clause-not_there : goal.returns-clause-not_there
returns-clause-not_there c = λ pass e is. let place = some_is 0 1 (sym (ap (λ (m : Small). m.0.place) e) ∙ is.1) in omega arith

pub returns-clause-not_out : goal.returns-clause-not_out
unfolding value
returns-clause-not_out c = λ pass e is. some_none (7 ∷ 8 ∷ []) (ap value (sym is.0 ∙ ap (λ (m : Small). m.1) e))

pub returns-clause-not_none : goal.returns-clause-not_none
returns-clause-not_none c = λ pass e is. some_none 0 (sym is.1 ∙ ap (λ (m : Small). m.0.place) e)
