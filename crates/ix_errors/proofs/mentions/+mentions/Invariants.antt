use Rattle.std.proofs.Common.{take}
use Rattle.std.specs.List.{flat_map}
use Rattle.ix_model.specs.Grammars.Factors.{factors_of_term, factors_of_alt}
use Rattle.ix_errors.specs.Mentions.{AddsFactors}
use Rattle.ix_errors.proofs.mentions.+mentions.Given as goal

abbrev pub invariant-add_alts-loop-alt : goal.invariant-add_alts-loop-alt
invariant-add_alts-loop-alt l = AddsFactors l.initial.mentions.items l.mentions.items (flat_map factors_of_alt (take l.alt-index l.alts))

abbrev pub invariant-add_terms-loop-term : goal.invariant-add_terms-loop-term
invariant-add_terms-loop-term l = AddsFactors l.initial.mentions.items l.mentions.items (flat_map factors_of_term (take l.term-index l.terms))
