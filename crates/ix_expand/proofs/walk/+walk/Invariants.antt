use Rattle.std.proofs.Common.{◌+◌, ◌*◌, ◌≤◌, map, sum, length, take, drop}
use Rattle.std.specs.Prelude.{option_map}
use Rattle.std.specs.List.{AllByRecursion}
use Rattle.ix_model.specs.Expansion.Expanded.{TermsBecome, AltsBecome}
use Rattle.ix_model.specs.Grammars.Factors.{factors_of_term, factors_of_alt, joined}
use Rattle.ix_model.specs.Grammars.Size.{factor_size, term_size, alt_size, separator_size}
use Rattle.ix_model.specs.declared.rules.Line.{Line}
use Rattle.ix_expand.specs.Growth.{Makes, count_of}
use Rattle.ix_expand.specs.SlotCounts.{slots_of, lines_slots}
use Rattle.ix_expand.specs.Sound.{IsSound}
use Rattle.ix_expand.proofs.walk.+walk.Given as goal

-- ---- the sizes fall, and of two functions at one size the caller counts more

abbrev pub decreases-term_symbol : goal.decreases-term_symbol
decreases-term_symbol l = 10 * term_size l.term.now

abbrev pub decreases-option_symbol : goal.decreases-option_symbol
decreases-option_symbol l = 10 * factor_size l.item.now + 4

abbrev pub decreases-star_symbol : goal.decreases-star_symbol
decreases-star_symbol l = 10 * (factor_size l.item.now + separator_size (option_map factor_size l.sep.now)) + 5

abbrev pub decreases-list_symbol : goal.decreases-list_symbol
decreases-list_symbol l = 10 * (factor_size l.item.now + separator_size (option_map factor_size l.sep.now)) + 4

abbrev pub decreases-separator_symbol : goal.decreases-separator_symbol
decreases-separator_symbol l = 10 * separator_size (option_map factor_size l.sep.now)

abbrev pub decreases-factor_symbol : goal.decreases-factor_symbol
decreases-factor_symbol l = 10 * factor_size l.factor.now + 3

abbrev pub decreases-group_symbol : goal.decreases-group_symbol
decreases-group_symbol l = 10 * sum (map alt_size l.alts.now) + 2

abbrev pub decreases-alternative_lines : goal.decreases-alternative_lines
decreases-alternative_lines l = 10 * sum (map alt_size l.alts.now) + 1

abbrev pub decreases-alternative_symbols : goal.decreases-alternative_symbols
decreases-alternative_symbols l = 10 * alt_size l.alt.now

-- ---- what is done, and what is left

abbrev pub invariant-alternative_lines-loop-alt : goal.invariant-alternative_lines-loop-alt
invariant-alternative_lines-loop-alt l = record {
  made : Makes l.fn.made l.made (λ rules a b. AltsBecome l.source.grammar.now rules a (take l.alt-index l.alt-items) (map (λ (line : Line). line.syms) l.lines) b);
  sound : AllByRecursion (IsSound l.source.grammar.now) (joined (map factors_of_alt (drop l.alt-index l.alt-items)));
  left : sum (map alt_size (drop l.alt-index l.alt-items)) ≤ sum (map alt_size l.alt-items);
  numbers : count_of l.made + 3 * sum (map alt_size (drop l.alt-index l.alt-items)) ≤ count_of l.fn.made + 3 * sum (map alt_size l.alt-items);
  slots : slots_of l.made + lines_slots l.lines + 9 * sum (map alt_size (drop l.alt-index l.alt-items)) ≤ slots_of l.fn.made + 9 * sum (map alt_size l.alt-items);
}

abbrev pub invariant-alternative_symbols-loop-term : goal.invariant-alternative_symbols-loop-term
invariant-alternative_symbols-loop-term l = record {
  made : Makes l.fn.made l.made (λ rules a b. TermsBecome l.source.grammar.now rules a (take l.term-index l.term-items) l.syms b);
  sound : AllByRecursion (IsSound l.source.grammar.now) (joined (map factors_of_term (drop l.term-index l.term-items)));
  left : sum (map term_size (drop l.term-index l.term-items)) ≤ sum (map term_size l.term-items);
  numbers : count_of l.made + 3 * sum (map term_size (drop l.term-index l.term-items)) ≤ count_of l.fn.made + 3 * sum (map term_size l.term-items);
  slots : slots_of l.made + length l.syms + 9 * sum (map term_size (drop l.term-index l.term-items)) ≤ slots_of l.fn.made + 9 * sum (map term_size l.term-items);
}
