use Rattle.std.proofs.Common.{◌≡◌, arith}
use Rattle.std.specs.List.{Contains}
use Rattle.ix_sets.proofs.Gaining.{gains_nothing, gains_one, gains_more, gains_all, gains_as}
use Rattle.ix_sets.proofs.Parts.{contains_some, some_contained}
use Rattle.ix_sets.proofs.members.push_text.Goals as goal

pub loop-c-init : goal.loop-c-init
loop-c-init c = gains_nothing _ _ (λ _ h. h)

pub loop-c-preserved : goal.loop-c-preserved
loop-c-preserved c =
    gains_more (λ c x. c ≡ x) c.args.text.now c.loop-c.c-index c.c-item.result c.c-item.result (omega arith) c.c-item.is c.loop-c.invariant
    (gains_one c.c-item.result c.in_ok-push_range.ensures)

pub returns : goal.returns
returns c =
    let text = c.args.text.now in
    gains_as (λ c. Contains text c) (gains_all (λ c x. c ≡ x) text c.loop-c.c-index c.loop-c-test.false c.loop-c.invariant) (λ c. contains_some c text) (λ c. some_contained c text)
