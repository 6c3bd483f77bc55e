use Rattle.std.proofs.Common.{rules, ◌≡◌, refl, subst, ◌+◌, ◌-◌, ◌≤◌, ◌<◌, ℕ, length, arith}
use Rattle.ix_subtrees.specs.Entries.{entry_at}
use Rattle.ix_subtrees.proofs.Orders.{entries_in_order}
use Rattle.ix_subtrees.proofs.Doubles.{double_of_two, two_of_double}
use Rattle.ix_subtrees.proofs.choices.has_double.Goals as goal

pub returns-then-eq : goal.returns-then-eq
returns-then-eq c =
    let es = c.args.entries.now in
    let at = c.loop-at.at in
    let same : (entry_at es (at - 1)).span ≡ (entry_at es at).span = search rules in
    let within : at < length es = search rules in
    let first : 1 ≤ at = search rules in
    let next : at ≡ (at - 1) + 1 = omega (arith, first) in
    (λ h. two_of_double es (entries_in_order es c.requires) (at - 1) (omega (arith, within, first), subst (λ (i : ℕ). (entry_at es (at - 1)).span ≡ (entry_at es i).span) next same), λ h. refl)

pub returns : goal.returns
returns c =
    let es = c.args.entries.now in
    let all : length es ≤ c.loop-at.at = search rules in
    (λ h. absurd (cc h), λ two. let double = double_of_two es (entries_in_order es c.requires) two in absurd (c.loop-at.invariant double.0 (omega (arith, double.1.0, all)) double.1.1))
