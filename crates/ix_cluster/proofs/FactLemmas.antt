-- When two facts are the same.
use Rattle.std.proofs.Common.{◌≡◌, true, List, [], ◌∷◌, refl, ap, ◌∙◌, rules, ◌||◌}
use Rattle.std.specs.List.{list_any}
use Rattle.ix_model.specs.declared.sub.Sub.{Sub}
use Rattle.ix_cluster.specs.declared.fact.Fact.{Fact}
use Rattle.ix_cluster.specs.declared.fact.Fact.TheVariants.{Called, Edge, End, Desc, Part, Claim}
use Rattle.ix_cluster.specs.contracts.fact.FactPartialEq.TheImpl.{eq-value}
use Rattle.ix_cluster.specs.Facts.{same_fact, same_sub, has}

-- the derived test of the program is the test of specs/
pub eq-same_fact : (a b : Fact) → eq-value.it a b ≡ same_fact a b
eq-same_fact (Called r k) (Called r' k') = refl
eq-same_fact (Edge r k s l) (Edge r' k' s' l') = refl
eq-same_fact (End r k e) (End r' k' e') = refl
eq-same_fact (Desc s l p) (Desc s' l' p') = refl
eq-same_fact (Part a) (Part b) = refl
eq-same_fact (Claim s l p) (Claim s' l' p') = refl
eq-same_fact a b = refl

same_sub-true : (a b : Sub) → same_sub a b ≡ true → a ≡ b
same_sub-true a b h = search rules

pub same_fact-true : (a b : Fact) → same_fact a b ≡ true → a ≡ b
same_fact-true (Called r k) (Called r' k') h = search rules
same_fact-true (Edge r k s l) (Edge r' k' s' l') h = search rules
same_fact-true (End r k e) (End r' k' e') h = search rules
same_fact-true (Desc s l p) (Desc s' l' p') h = search rules
same_fact-true (Part a) (Part b) h = ap Part (same_sub-true a b h)
same_fact-true (Claim s l p) (Claim s' l' p') h = search rules
same_fact-true a b h = cc

pub same_fact-refl : (a : Fact) → same_fact a a ≡ true
same_fact-refl (Called r k) = search rules
same_fact-refl (Edge r k s l) = search rules
same_fact-refl (End r k e) = search rules
same_fact-refl (Desc s l p) = search rules
same_fact-refl (Part a) = search rules
same_fact-refl (Claim s l p) = search rules

pub any-has : (log : List Fact) (f : Fact) → list_any (eq-value.it f) log ≡ has log f
any-has [] f = refl
any-has (g ∷ log) f = ap (λ b. b || list_any (eq-value.it f) log) (eq-same_fact f g) ∙ ap (λ b. same_fact f g || b) (any-has log f)
