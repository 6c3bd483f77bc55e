use Rattle.std.proofs.Common.{◌≡◌, refl, sym, ap, ◌∙◌, length, take, arith}
use mathlib.Core.Logic.{inl, inr}
use Rattle.ix_cli.proofs.SmallContents.{a_has, a_has_only}
use Rattle.ix_cli.proofs.SmallReplies.{no_front}
use Rattle.ix_cli.proofs.laws.outputs_that_are_written.Goals as goal

pub returns-clause-whole : goal.returns-clause-whole
returns-clause-whole c v e = inl (refl, (λ bytes h. sym e ∙ h), refl)

pub returns-clause-no_line : goal.returns-clause-no_line
returns-clause-no_line c v (inl h) = absurd (cc h.2)
returns-clause-no_line c v (inr (inl h)) = omega (arith, h.0)
returns-clause-no_line c v (inr (inr h)) = omega (arith, h.0)

pub returns-clause-not_twice : goal.returns-clause-not_twice
returns-clause-not_twice c v e (inl h) = let f : 8 ≡ 4 = ap length (h.1 v.items refl ∙ e) in omega (arith, f)
returns-clause-not_twice c v e (inr (inl h)) = omega (arith, h.0)
returns-clause-not_twice c v e (inr (inr h)) = omega (arith, h.0)

pub returns-clause-front : goal.returns-clause-front
returns-clause-front c v e = inr (inl (refl, omega arith, (λ bytes h. (2, ap (take 2) (sym e ∙ h))), λ n. refl))

pub returns-clause-not_risen : goal.returns-clause-not_risen
returns-clause-not_risen c v (inl h) = omega (arith, h.0)
returns-clause-not_risen c v (inr (inl h)) = omega (arith, h.1)
returns-clause-not_risen c v (inr (inr h)) = omega (arith, h.0)

pub returns-clause-nothing : goal.returns-clause-nothing
returns-clause-nothing c v = inr (inr (refl, refl, λ n. refl))

pub returns-clause-not_something : goal.returns-clause-not_something
returns-clause-not_something c v (inl h) = omega (arith, h.0)
returns-clause-not_something c v (inr (inl h)) = omega (arith, h.0)
returns-clause-not_something c v (inr (inr h)) = absurd (cc h.1)

pub returns-clause-tree : goal.returns-clause-tree
returns-clause-tree c v = inl (refl, (λ bytes h. sym (a_has_only v bytes h)), refl)

pub returns-clause-no_tree : goal.returns-clause-no_tree
returns-clause-no_tree c v (inl h) = let f : 0 ≡ 9 = ap length (h.1 _ (a_has v)) in omega (arith, f)
returns-clause-no_tree c v (inr (inl h)) = omega (arith, h.0)
returns-clause-no_tree c v (inr (inr h)) = omega (arith, h.0)

pub returns-clause-front_of_tree : goal.returns-clause-front_of_tree
returns-clause-front_of_tree c v = inr (inl (refl, omega arith, (λ bytes h. (3, sym (ap (take 3) (a_has_only v bytes h)))), λ n. refl))

pub returns-clause-another_front : goal.returns-clause-another_front
returns-clause-another_front c v (inl h) = omega (arith, h.0)
returns-clause-another_front c v (inr (inl h)) = let cut = h.2 _ (a_has v) in no_front cut.0 cut.1
returns-clause-another_front c v (inr (inr h)) = omega (arith, h.0)
