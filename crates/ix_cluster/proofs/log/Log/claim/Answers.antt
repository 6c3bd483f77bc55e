use Rattle.std.proofs.Common.{◌≡◌, ◌∙◌, ◌-◌, false, vec_capacity, vec_len, sym, subst, arith}
use Rattle.ix_cluster.specs.declared.answers.Claimed.TheVariants.{Mine, Taken, Unknown}
use Rattle.ix_cluster.specs.declared.fact.Fact.TheVariants.{Desc}
use Rattle.ix_cluster.specs.Facts.{has}
use Rattle.ix_cluster.specs.LogPlaces.{log_of}
use Rattle.ix_cluster.specs.Seen.{Log}
use Rattle.ix_cluster.specs.Steps.{claim_answer, after_claim}
use Rattle.ix_cluster.proofs.FactLemmas.{any-has}
use Rattle.ix_cluster.proofs.Marks.{found-at, read-mark, unknown-answer, unknown-log, taken-answer, taken-log, mine-answer, mine-log, mine-waits, IsLog-claim, IsLog-bounded}
use Rattle.ix_cluster.proofs.log.Log.claim.Goals as goal

-- ---- there is no such descriptor

pub returns-in_default-clause-answer : goal.returns-in_default-clause-answer
returns-in_default-clause-answer c =
    let none : has c.self.inside.facts.keys (Desc c.args.slot c.args.left c.args.pos) ≡ false = sym (any-has c.self.inside.facts.keys (Desc c.args.slot c.args.left c.args.pos)) ∙ sym c.in_default.ensures.found in
    subst (λ (v : Log). Unknown ≡ claim_answer v.facts c.args.slot c.args.left c.args.pos) c.self.view_is (unknown-answer c.self.inside.facts.keys c.self.inside.marks.items c.self.inside.places.items c.self.invariant.are_marked c.args.slot c.args.left c.args.pos none)

pub returns-in_default-clause-facts : goal.returns-in_default-clause-facts
returns-in_default-clause-facts c =
    let none : has c.self.inside.facts.keys (Desc c.args.slot c.args.left c.args.pos) ≡ false = sym (any-has c.self.inside.facts.keys (Desc c.args.slot c.args.left c.args.pos)) ∙ sym c.in_default.ensures.found in
    subst (λ (v : Log). v.facts ≡ after_claim v.facts c.args.slot c.args.left c.args.pos) c.self.view_is (unknown-log c.self.inside.facts.keys c.self.inside.marks.items c.self.inside.places.items c.self.invariant.are_marked c.args.slot c.args.left c.args.pos none)

-- ---- it was claimed

pub returns-then-index-clause-answer : goal.returns-then-index-clause-answer
returns-then-index-clause-answer c =
    let at = found-at c.self.inside.facts.keys c.in-Some.number (Desc c.args.slot c.args.left c.args.pos) (sym c.get_index_of.ensures.index ∙ c.in-Some.is) in
    let taken = read-mark c.self.inside.facts.keys c.self.inside.marks.items c.self.inside.places.items c.self.invariant.are_marked c.args.slot c.args.left c.args.pos c.in-Some.number at c.index.result.now c.index.ensures ∙ c.if-index.true in
    subst (λ (v : Log). Taken ≡ claim_answer v.facts c.args.slot c.args.left c.args.pos) c.self.view_is (taken-answer c.self.inside.facts.keys c.self.inside.marks.items c.self.inside.places.items c.self.invariant.are_marked c.args.slot c.args.left c.args.pos c.in-Some.number at taken)

pub returns-then-index-clause-facts : goal.returns-then-index-clause-facts
returns-then-index-clause-facts c =
    let at = found-at c.self.inside.facts.keys c.in-Some.number (Desc c.args.slot c.args.left c.args.pos) (sym c.get_index_of.ensures.index ∙ c.in-Some.is) in
    let taken = read-mark c.self.inside.facts.keys c.self.inside.marks.items c.self.inside.places.items c.self.invariant.are_marked c.args.slot c.args.left c.args.pos c.in-Some.number at c.index.result.now c.index.ensures ∙ c.if-index.true in
    subst (λ (v : Log). v.facts ≡ after_claim v.facts c.args.slot c.args.left c.args.pos) c.self.view_is (taken-log c.self.inside.facts.keys c.self.inside.marks.items c.self.inside.places.items c.self.invariant.are_marked c.args.slot c.args.left c.args.pos c.in-Some.number at taken)

-- ---- it is claimed now

pub push_reserved-requires : goal.push_reserved-requires
push_reserved-requires c =
    let at = found-at c.self.inside.facts.keys c.in-Some.number (Desc c.args.slot c.args.left c.args.pos) (sym c.get_index_of.ensures.index ∙ c.in-Some.is) in
    let new = read-mark c.self.inside.facts.keys c.self.inside.marks.items c.self.inside.places.items c.self.invariant.are_marked c.args.slot c.args.left c.args.pos c.in-Some.number at c.index.result.now c.index.ensures ∙ c.if-index.false in
    omega (arith, mine-waits c.self.inside.facts.keys c.self.inside.marks.items c.self.inside.places.items c.self.invariant.are_marked c.args.slot c.args.left c.args.pos c.in-Some.number at new, c.self.invariant.room.counted, c.self.invariant.room.room)

pub overflow_sub-self : goal.overflow_sub-self
overflow_sub-self c =
    let at = found-at c.self.inside.facts.keys c.in-Some.number (Desc c.args.slot c.args.left c.args.pos) (sym c.get_index_of.ensures.index ∙ c.in-Some.is) in
    let new = read-mark c.self.inside.facts.keys c.self.inside.marks.items c.self.inside.places.items c.self.invariant.are_marked c.args.slot c.args.left c.args.pos c.in-Some.number at c.index.result.now c.index.ensures ∙ c.if-index.false in
    omega (arith, mine-waits c.self.inside.facts.keys c.self.inside.marks.items c.self.inside.places.items c.self.invariant.are_marked c.args.slot c.args.left c.args.pos c.in-Some.number at new, c.self.invariant.room.counted)

pub invariant_of-self : goal.invariant_of-self
invariant_of-self c =
    let at = found-at c.self.inside.facts.keys c.in-Some.number (Desc c.args.slot c.args.left c.args.pos) (sym c.get_index_of.ensures.index ∙ c.in-Some.is) in
    let new = read-mark c.self.inside.facts.keys c.self.inside.marks.items c.self.inside.places.items c.self.invariant.are_marked c.args.slot c.args.left c.args.pos c.in-Some.number at c.index.result.now c.index.ensures ∙ c.if-index.false in
    IsLog-claim c.self.inside.facts.keys c.self.inside.marks.items c.self.inside.places.items c.self.invariant.are_marked c.args.slot c.args.left c.args.pos c.in-Some.number at new c.push_reserved.new.self.items _ _ _ _ c.self.inside.unclaimed c.self.inside.free c.push_reserved.ensures.items (omega (arith, c.push_reserved.ensures.len, c.push_reserved.ensures.capacity)) c.self.invariant

pub returns-clause-answer : goal.returns-clause-answer
returns-clause-answer c =
    let at = found-at c.self.inside.facts.keys c.in-Some.number (Desc c.args.slot c.args.left c.args.pos) (sym c.get_index_of.ensures.index ∙ c.in-Some.is) in
    let new = read-mark c.self.inside.facts.keys c.self.inside.marks.items c.self.inside.places.items c.self.invariant.are_marked c.args.slot c.args.left c.args.pos c.in-Some.number at c.index.result.now c.index.ensures ∙ c.if-index.false in
    subst (λ (v : Log). Mine ≡ claim_answer v.facts c.args.slot c.args.left c.args.pos) c.self.view_is (mine-answer c.self.inside.facts.keys c.self.inside.marks.items c.self.inside.places.items c.self.invariant.are_marked c.args.slot c.args.left c.args.pos c.in-Some.number at new)

pub returns-clause-facts : goal.returns-clause-facts
returns-clause-facts c =
    let at = found-at c.self.inside.facts.keys c.in-Some.number (Desc c.args.slot c.args.left c.args.pos) (sym c.get_index_of.ensures.index ∙ c.in-Some.is) in
    let new = read-mark c.self.inside.facts.keys c.self.inside.marks.items c.self.inside.places.items c.self.invariant.are_marked c.args.slot c.args.left c.args.pos c.in-Some.number at c.index.result.now c.index.ensures ∙ c.if-index.false in
    subst (λ (v : Log). log_of c.self.inside.facts.keys c.push_reserved.new.self.items ≡ after_claim v.facts c.args.slot c.args.left c.args.pos) c.self.view_is (mine-log c.self.inside.facts.keys c.self.inside.marks.items c.self.inside.places.items c.self.invariant.are_marked c.args.slot c.args.left c.args.pos c.in-Some.number at new c.push_reserved.new.self.items c.push_reserved.ensures.items)

pub returns-clause-bounded : goal.returns-clause-bounded
returns-clause-bounded c =
    let at = found-at c.self.inside.facts.keys c.in-Some.number (Desc c.args.slot c.args.left c.args.pos) (sym c.get_index_of.ensures.index ∙ c.in-Some.is) in
    let new = read-mark c.self.inside.facts.keys c.self.inside.marks.items c.self.inside.places.items c.self.invariant.are_marked c.args.slot c.args.left c.args.pos c.in-Some.number at c.index.result.now c.index.ensures ∙ c.if-index.false in
    IsLog-bounded _ _ _ _ _ _ _ _
    (IsLog-claim c.self.inside.facts.keys c.self.inside.marks.items c.self.inside.places.items c.self.invariant.are_marked c.args.slot c.args.left c.args.pos c.in-Some.number at new c.push_reserved.new.self.items _ _ (vec_capacity c.self.inside.places - vec_len c.self.inside.places) (vec_capacity c.push_reserved.new.self - vec_len c.push_reserved.new.self) c.self.inside.unclaimed c.self.inside.free c.push_reserved.ensures.items (omega (arith, c.push_reserved.ensures.len, c.push_reserved.ensures.capacity)) c.self.invariant)
