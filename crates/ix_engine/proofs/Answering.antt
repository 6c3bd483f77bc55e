-- What comes of a text, from what is known of its plan.
use Rattle.std.proofs.Common.{◌≡◌, ◌↔◌, ℕ, ◌≤◌, List, length, refl, ap, subst, inl, inr, arith}
use Rattle.ix_model.specs.declared.grammar.Grammar.{Grammar}
use Rattle.ix_model.specs.declared.state.State.{State}
use Rattle.ix_model.specs.declared.state.State.TheVariants as state
use Rattle.ix_model.specs.Answers.Answer.{Parsed, TextAnswered}
use Rattle.ix_model.specs.Answers.Limits.{text_limit}
use Rattle.ix_model.specs.Answers.Outcome.{document, failed, refused}
use Rattle.ix_model.specs.Answers.Places.{line_of, column_of}
use Rattle.ix_model.specs.Derivations.Derives.{IsDerivation, Ambiguous}
use Rattle.ix_model.specs.Derivations.Offset.{Offset}
use Rattle.ix_model.specs.Derivations.Order.{First}
use Rattle.ix_model.specs.Derivations.Trees.{Tree}
use Rattle.ix_model.specs.Documents.Dyn.{Refusal, Dyn, HasNoRefusal}
use Rattle.ix_model.specs.Documents.Gives.{Givens, gives_root}
use Rattle.ix_model.specs.Expansion.Parts.{Parts}
use Rattle.ix_model.specs.Expansion.Planned.{IsPlanned}
use Rattle.ix_closure_laws.specs.UsefulLaws.{HasUseful}
use Rattle.ix_closure_laws.proofs.ClosedWithin.{desc_within}
use Rattle.ix_edge.proofs.Decoded.{length-decoded}
use Rattle.ix_offset_laws.specs.Furthest.{Furthest}
use Rattle.ix_subtrees.specs.Entries.{entry_for}
use Rattle.ix_subtrees.specs.Sets.{SetLists, IsSetOf}
use Rattle.ix_engine.specs.PlanFor.{IsPlanFor}

module _ (g : Grammar) (bytes : List ℕ) (plan : Parts) (is : IsPlanFor g bytes plan) where
  -- the text is within the limit
  pub text_short : length plan.text ≤ text_limit
  text_short = omega (arith, ap length is.text, length-decoded bytes is.bytes_are.1, is.bytes_are.0)

  pub answers_failed : (o line column : ℕ) → ((d : Tree) → ¬ (IsDerivation g plan.text d)) → Offset g plan.text o → line ≡ line_of plan.text o → column ≡ column_of plan.text o → TextAnswered g bytes (failed o line column)
  answers_failed o line column none offset l c = (is.bytes_are, subst (λ s. Parsed g s (failed o line column)) is.text (none, offset, l, c))

  pub answers_refused : (code : Refusal) (d : Tree) → First g plan.text d → Dyn (gives_root plan.text g d) code → TextAnswered g bytes (refused code)
  answers_refused code d first dyn = (is.bytes_are, subst (λ s. Parsed g s (refused code)) is.text (d, first, dyn))

  pub answers_document : (gs : Givens) (st : State) (d : Tree) → First g plan.text d → gs ≡ gives_root plan.text g d → HasNoRefusal gs → (st ≡ state.Ambiguous) ↔ Ambiguous g plan.text → TextAnswered g bytes (document gs st)
  answers_document gs state.Ambiguous d first e none several = (is.bytes_are, subst (λ s. Parsed g s (document gs state.Ambiguous)) is.text (d, first, e, none, several.0 refl))
  answers_document gs state.Single d first e none several = (is.bytes_are, subst (λ s. Parsed g s (document gs state.Single)) is.text (d, first, e, none, λ a. absurd (cc (several.1 a))))

-- the furthest dot stands within the text
pub furthest_within : (plan : Parts) → IsPlanned plan → (o : ℕ) → Furthest plan o → o ≤ length plan.text
furthest_within plan planned o (inl h, _) = (desc_within plan planned h.0 h.1 o h.2).2
furthest_within plan planned o (inr e, _) = omega (arith, e)

-- where the set lists nothing, nothing is useful
pub none_useful : (plan : Parts) (set : SetLists) → IsSetOf plan set → length set.ways ≡ 0 → HasUseful plan → ⊥
none_useful plan set of none (sub, h) = let there = (of.ways (entry_for sub.slot sub.left sub.right sub.pivot)).1 h in omega (arith, there.1, none)
