-- The plan of the sample's grammar for a text.
use Rattle.std.proofs.Common.{refl, false, [], ◌∷◌, Some, None, codes, arith}
use Rattle.ix_model.specs.declared.grammar.Mark.TheVariants.{Attribute}
use Rattle.ix_model.specs.declared.grammar.TMark.TheVariants.{Deleted}
use Rattle.ix_model.specs.Expansion.Expanded as X
use Rattle.ix_model.specs.Expansion.Expanded.{HasSet, Expanded}
use Rattle.ix_model.specs.Expansion.Planned.{IsPlanned}
use Rattle.ix_model.specs.declared.rules.Sym.TheVariants as sym
use Rattle.ix_examples.specs.SmallGrammars.{digits}
use Rattle.ix_examples.specs.SmallRules.{helper, shown, range}
use Rattle.ix_examples.specs.SmallHelpers.{left_out}
use Rattle.ix_expansion_laws.proofs.Covering.{only_named, symbols_there}
use Rattle.ix_sample_laws.specs.SampleRules.{letters, sample_rules}
use Rattle.ix_sample_laws.specs.SamplePlan.{sample_numbered, sample_plan}
use Rattle.ix_sample_laws.specs.Laws.{SampleIsPlanned}
use Rattle.ix_sample_laws.proofs.SampleConforms.{unique_names}

set_of_digits : HasSet sample_numbered 2 false (digits ∷ [])
set_of_digits = (range 48 57 ∷ [], refl, λ x h. (λ k. k, λ k. k))

set_of_letters : HasSet sample_numbered 3 false (letters ∷ [])
set_of_letters = (range 97 122 ∷ [], refl, λ x h. (λ k. k, λ k. k))

expanded : Expanded sample_rules sample_numbered
expanded = record {
  end = record { rule = 8; terminal = 4; insert = 0 };
  names = refl;
  marks = refl;
  walk =
      X.and_rule _ _ _ _ _ _ ((helper 4 ∷ []) ∷ []) refl
      (X.and_alt _ _ _ _ _ _ _
      (X.and_term _ _ _ _ _ _ _ (X.star _ _ _ _ (helper 5) refl (X.repeated _ _ _ _ _ (helper 1) None refl (X.called _ None (codes "line") 1 (_, refl, refl)) (X.no_separator _)))
      (X.no_term _))
      (X.no_alt _))
      (X.and_rule _ _ _ _ _ _ ((sym.Rule 2 (Some Attribute) ∷ left_out 0 ∷ helper 3 ∷ left_out 1 ∷ []) ∷ []) refl
      (X.and_alt _ _ _ _ _ _ _
      (X.and_term _ _ _ _ _ _ _ (X.alone _ _ _ _ (X.called _ (Some Attribute) (codes "n") 2 (_, refl, refl)))
      (X.and_term _ _ _ _ _ _ _ (X.alone _ _ _ _ (X.literal _ (Some Deleted) _ refl))
      (X.and_term _ _ _ _ _ _ _ (X.alone _ _ _ _ (X.called _ None (codes "w") 3 (_, refl, refl)))
      (X.and_term _ _ _ _ _ _ _ (X.alone _ _ _ _ (X.literal _ (Some Deleted) _ refl))
      (X.no_term _)))))
      (X.no_alt _))
      (X.and_rule _ _ _ _ _ _ ((helper 6 ∷ []) ∷ []) refl
      (X.and_alt _ _ _ _ _ _ _
      (X.and_term _ _ _ _ _ _ _ (X.plus _ _ _ _ _ (X.repeated _ _ _ _ _ (shown 2) None refl (X.set _ None false _ set_of_digits) (X.no_separator _)))
      (X.no_term _))
      (X.no_alt _))
      (X.and_rule _ _ _ _ _ _ ((helper 7 ∷ []) ∷ []) refl
      (X.and_alt _ _ _ _ _ _ _
      (X.and_term _ _ _ _ _ _ _ (X.plus _ _ _ _ _ (X.repeated _ _ _ _ _ (shown 3) None refl (X.set _ None false _ set_of_letters) (X.no_separator _)))
      (X.no_term _))
      (X.no_alt _))
      (X.no_rule _ _))));
  rule_count = refl;
  terminal_count = refl;
  insert_count = refl;
}

pub sample_planned : SampleIsPlanned
sample_planned s scalars short = (record { text = scalars; unique = unique_names; first = omega arith; expanded = expanded }, planned)
  where
    planned : IsPlanned (sample_plan s)
    planned = record {
      numbered = refl;
      first_named = omega arith;
      marked = refl;
      named = only_named sample_rules sample_numbered expanded;
      names_within = omega arith;
      symbols = symbols_there sample_rules sample_numbered expanded;
      rules_fit = omega arith;
      slots_fit = omega arith;
      text_fits = short;
    }
