-- Facts of the closure, each once, weigh no more than the steps that a list of the whole closure can bring.
use Rattle.std.proofs.Common.{◌≡◌, ◌≤◌, true, List, Contains, refl, sym, ap, ◌∙◌, arith}
use Rattle.std.specs.List.{IsDistinct}
use Rattle.ix_model.specs.Expansion.Parts.{Parts}
use Rattle.ix_cluster.specs.declared.fact.Fact.{Fact}
use Rattle.ix_cluster.specs.declared.fact.Fact.TheVariants.{Desc, Claim}
use Rattle.ix_cluster.specs.Banks.{is_descriptor, facts_of}
use Rattle.ix_cluster.specs.ClosedFacts.{IsInClosed}
use Rattle.ix_cluster.specs.Facts.{same_fact}
use Rattle.ix_cluster.specs.Seen.{Bank}
use Rattle.ix_cluster.specs.Sound.{AreSound}
use Rattle.ix_closure.specs.Closure.{IsClosure}
use Rattle.ix_closure.specs.Quantity.{is_claim, weight, step_bound}
use Rattle.ix_closure.proofs.Weighing.FactsOnce.{facts_once}
use Rattle.ix_closure.proofs.Balancing.RecordedFacts.{recorded_closed}
use Rattle.ix_closure.proofs.Lists.Sublists.{fewer, fewer_by, fewer_pairs}
use Rattle.ix_closure.proofs.Weighing.Weights.{weight_in, weight_of_facts}

-- the descriptor that a claim is of
descriptor_fact : Fact → Fact
descriptor_fact (Claim s l p) = Desc s l p
descriptor_fact f = f

-- the claim of a descriptor
claim_fact : Fact → Fact
claim_fact (Desc s l p) = Claim s l p
claim_fact f = f

claim_again : (f : Fact) → is_claim f ≡ true → claim_fact (descriptor_fact f) ≡ f
unfolding descriptor_fact claim_fact
claim_again (Claim s l p) e = refl
claim_again f e = absurd (cc e)

-- no two claims are of one descriptor
one_claim : (a b : Fact) → is_claim a ≡ true → is_claim b ≡ true → descriptor_fact a ≡ descriptor_fact b → a ≡ b
one_claim a b e w same = sym (claim_again a e) ∙ ap claim_fact same ∙ claim_again b w

module _ (plan : Parts) (all : List Fact) (closure : IsClosure plan all) where
  -- a claim's descriptor is among all
  descriptor_there : (f : Fact) → IsInClosed plan f → is_claim f ≡ true → Contains all (descriptor_fact f) × (is_descriptor (descriptor_fact f) ≡ true)
  unfolding descriptor_fact
  descriptor_there (Claim s l p) h e = (closure.all (Desc s l p) h, refl)
  descriptor_there f h e = absurd (cc e)

  pub weight_within : (facts : List Fact) → IsDistinct same_fact facts → ((f : Fact) → Contains facts f → IsInClosed plan f) → weight facts ≤ step_bound all
  weight_within facts once closed =
      omega (
        arith,
        fewer is_descriptor facts all once (λ f h _. closure.all f (closed f h)),
        fewer_by is_claim is_descriptor descriptor_fact one_claim facts all once (λ f h e. descriptor_there f (closed f h) e),
        fewer_pairs facts all once (λ f h. closure.all f (closed f h)),
      )

-- what sound banks have recorded weighs no more than the steps that the closure can bring
pub weight_sound : (plan : Parts) (banks : List Bank) → AreSound plan banks → (all : List Fact) → IsClosure plan all → weight_in banks ≤ step_bound all
weight_sound plan banks sound all closure =
    omega (arith, weight_of_facts banks, weight_within plan all closure (facts_of banks) (facts_once plan banks sound) (recorded_closed plan banks sound))
