use Rattle.std.proofs.Common.{rules, ap, sym, subst, ◌∙◌, ◌⊎◌, true≢false}
use mathlib.Core.Logic.{inl, inr}
use Rattle.ix_subtrees.specs.Sets.{SetLists}
use Rattle.ix_subtrees.specs.TwoChoices.{HasTwo}
use Rattle.ix_subtrees.proofs.set.SubSet.has_two.Goals as goal

pub returns-then-has_two : goal.returns-then-has_two
returns-then-has_two c =
    let ways = ap (λ (s : SetLists). s.ways) c.self.view_is in
    (λ h. inl (subst HasTwo ways (c.has_two.ensures.0 c.if-has_two.true)), λ h. c.if-has_two.true)

pub returns-else-has_two : goal.returns-else-has_two
returns-else-has_two c =
    let ways = ap (λ (s : SetLists). s.ways) c.self.view_is in
    let alts = ap (λ (s : SetLists). s.alts) c.self.view_is in (
      λ h. inr (subst HasTwo alts (c.has_two-else-has_two.ensures.0 h)),
      λ t. elim t [
        | inl h ↦ absurd (true≢false (sym (c.has_two.ensures.1 (subst HasTwo (sym ways) h)) ∙ c.if-has_two.false))
        | inr h ↦ c.has_two-else-has_two.ensures.1 (subst HasTwo (sym alts) h)
      ],
    )
