-- How many steps facts bring, as facts are recorded.
use Rattle.std.proofs.Common.{◌≡◌, ℕ, ◌+◌, ◌≤◌, List, [], ◌∷◌, ◌++◌, Some, slice_get, slice_set, arith}
use Rattle.std.specs.List.{sum_by}
use Rattle.std.proofs.lemmas.List.Sums.{sum_by-cons}
use Rattle.ix_cluster.specs.declared.fact.Fact.{Fact}
use Rattle.ix_cluster.specs.Banks.{is_descriptor, facts_of}
use Rattle.ix_cluster.specs.Handed.{meets, pair_count}
use Rattle.ix_cluster.specs.Seen.{Bank}
use Rattle.ix_cluster.proofs.CountBy.{count_append}
use Rattle.ix_closure.specs.Quantity.{is_claim, weight}
use Rattle.ix_closure.proofs.Lists.ListCounts.{sum_set}

-- two lists behind one another have the pairs of both, and those of one with the other
pub pairs_append : (xs ys : List Fact) → pair_count xs + pair_count ys ≤ pair_count (xs ++ ys)
pairs_append [] ys = omega arith
pairs_append (x ∷ xs) ys = omega (arith, pairs_append xs ys, count_append (meets x) xs ys)

pub weight_append : (xs ys : List Fact) → weight xs + weight ys ≤ weight (xs ++ ys)
weight_append xs ys = omega (arith, count_append is_descriptor xs ys, count_append is_claim xs ys, pairs_append xs ys)

-- ---- over all banks

-- the banks' weights together
abbrev pub weight_in : List Bank → ℕ
weight_in banks = sum_by (λ (bank : Bank). weight bank.log) banks

-- one bank changes the weight of all as its own
pub weight_set : (banks : List Bank) (m : ℕ) (old new : Bank) → slice_get banks m ≡ Some old → weight_in (slice_set banks m new) + weight old.log ≡ weight_in banks + weight new.log
weight_set banks m old new there = sum_set (λ (bank : Bank). weight bank.log) banks m old new there

-- the facts of all banks weigh no less
pub weight_of_facts : (banks : List Bank) → weight_in banks ≤ weight (facts_of banks)
weight_of_facts [] = omega arith
weight_of_facts (bank ∷ banks) = omega (arith, sum_by-cons (λ (bank : Bank). weight bank.log) bank banks, weight_of_facts banks, weight_append bank.log (facts_of banks))
