use Rattle.std.proofs.Common.{false, true, [], ◌∷◌, refl, sym, ap, true≢false, arith}
use Rattle.std.specs.Option.{option_map_or}
use Rattle.ix_cluster.specs.declared.fact.Fact.TheVariants.{Called, Desc}
use Rattle.ix_cluster.specs.declared.log.Place.TheVariants.{Came}
use Rattle.ix_cluster.specs.LogPlaces.{AreMarked}
use Rattle.ix_cluster.proofs.Marks.{AreMarked-none, AreMarked-push, AreMarked-claim}
use Rattle.ix_cluster.proofs.laws.marks_tell_the_claims.Goals as goal

called : AreMarked (Called 0 0 ∷ []) (false ∷ []) (Came 0 ∷ [])
called = AreMarked-push [] [] [] AreMarked-none (Called 0 0) refl refl

described : AreMarked (Called 0 0 ∷ Desc 0 0 0 ∷ []) (false ∷ false ∷ []) (Came 0 ∷ Came 1 ∷ [])
described = AreMarked-push (Called 0 0 ∷ []) (false ∷ []) (Came 0 ∷ []) called (Desc 0 0 0) refl refl

pub returns-clause-marked : goal.returns-clause-marked
returns-clause-marked c = AreMarked-claim (Called 0 0 ∷ Desc 0 0 0 ∷ []) (false ∷ false ∷ []) (Came 0 ∷ Came 1 ∷ []) described 1 0 0 0 refl refl

pub returns-clause-not_marked : goal.returns-clause-not_marked
returns-clause-not_marked c = λ h. true≢false (sym (ap (λ o. option_map_or (λ b. b) o true) (h.marked 1 0 0 0 refl)))

pub returns-clause-fields : goal.returns-clause-fields
returns-clause-fields c = record {
  are_marked = AreMarked-push [] [] [] AreMarked-none (Desc 0 0 0) refl refl;
  room = record { counted = omega arith; room = omega arith; small = omega arith };
  facts_fit = omega arith;
  marks_fit = omega arith;
  numbers = omega arith;
}
