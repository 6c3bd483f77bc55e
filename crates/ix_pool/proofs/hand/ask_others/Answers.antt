use Rattle.std.proofs.Common.{rules, ◌≡◌, length, refl, subst, sym, ◌∙◌, arith}
use mathlib.Core.Logic.{dite}
use native.Mathlib.Decide.{ℕ_discrete}
use Rattle.ix_pool.specs.Asking.{Missed}
use Rattle.ix_pool.proofs.Decks.{untouched_then_missed, missed_then_untouched, untouched_twice}
use Rattle.ix_pool.proofs.hand.ask_others.Goals as goal

pub loop-other-init : goal.loop-other-init
loop-other-init g c = (search rules, λ w low _. absurd (omega arith), λ w _ d near. refl, λ d near. refl)

pub loop-other-preserved : goal.loop-other-preserved
loop-other-preserved g c = let i = c.loop-other.invariant in let e = c.ask.ensures in let n = g.D.Deck.count in
    let xs = c.args.decks.now.items in let ys = c.loop-other.decks.items in let zs = c.ask.new.decks.items in
    let long : length ys ≡ length xs = (let a = i.0 in let b = c.args.decks.now.ok in let d = c.loop-other.decks.ok in omega arith) in (
      e.number ∙ i.0,
      λ w low other. dite (ℕ_discrete w c.loop-other.other)
          (λ is. untouched_then_missed n xs ys zs w long (i.2 w (omega arith)) (subst (Missed n ys zs) (sym is) c.in_default.ensures.asked))
          (λ ne. missed_then_untouched n xs ys zs w long (i.1 w (omega arith) other) (e.others w ne)),
      λ w high. untouched_twice xs ys zs w long (i.2 w (omega arith)) (e.others w (λ same. absurd (omega arith))),
      untouched_twice xs ys zs c.args.own long i.3 (e.others c.args.own (λ same. c.if-other-own.false (sym same))),
    )
