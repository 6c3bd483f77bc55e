use Rattle.std.proofs.Common.{arith}
use Rattle.ix_expansion_laws.proofs.Covering.{names_count, marks_count, names_first, only_named, symbols_there}
use Rattle.ix_expansion_laws.proofs.laws.expanded_is_planned.Goals as goal

pub returns : goal.returns
returns c = λ g plan first e numbered rules_fit slots_fit text_fits. record {
  numbered = numbered;
  first_named = omega (arith, names_count g plan.rules e, first);
  marked = omega (arith, names_count g plan.rules e, marks_count g plan.rules e);
  named = λ r h. let k = only_named g plan.rules e r h in (λ q. omega (arith, k.0 q, names_count g plan.rules e), λ o. k.1 (omega (arith, o, names_count g plan.rules e)));
  names_within = omega (arith, names_count g plan.rules e, names_first g plan.rules e);
  symbols = symbols_there g plan.rules e;
  rules_fit = rules_fit;
  slots_fit = slots_fit;
  text_fits = text_fits;
}
