use Rattle.ix_choice.proofs.SmallChoices.{may_start_sooner, may_start_later, literal_may_start, nothing_leads_to_it, nothing_comes_of_it, too_high_before, too_high_itself}
use Rattle.ix_choice.proofs.laws.symbols_may_start_or_not.Goals as goal

pub returns-clause-sooner : goal.returns-clause-sooner
returns-clause-sooner c = may_start_sooner

pub returns-clause-later : goal.returns-clause-later
returns-clause-later c = may_start_later

pub returns-clause-literal : goal.returns-clause-literal
returns-clause-literal c = literal_may_start

pub returns-clause-before : goal.returns-clause-before
returns-clause-before c = nothing_leads_to_it

pub returns-clause-behind : goal.returns-clause-behind
returns-clause-behind c = nothing_comes_of_it

pub returns-clause-high_before : goal.returns-clause-high_before
returns-clause-high_before c = too_high_before

pub returns-clause-high : goal.returns-clause-high
returns-clause-high c = too_high_itself
