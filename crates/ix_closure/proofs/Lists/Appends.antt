-- What the code of a step appends to the owed steps, one after the other.
use Rattle.std.proofs.Common.{◌≡◌, ℕ, ◌+◌, Bool, cond, List, [], ◌∷◌, ◌++◌, append_assoc, map, sym, ap, ◌∙◌, arith}
use Rattle.std.specs.List.{range_with_len}
use Rattle.std.proofs.lemmas.List.{map-append}
use Rattle.std.proofs.lemmas.List.FromFn.{map-range_with_len_more}
use Rattle.ix_model.specs.Expansion.Parts.{Parts}
use Rattle.ix_model.specs.Expansion.Planned.{IsPlanned}
use Rattle.ix_model.specs.Expansion.Slots.{IsSlot}
use Rattle.ix_cluster.specs.Firsts.{first_slot}
use Rattle.ix_cluster.proofs.Beginning.{first_is_slot}
use Rattle.ix_closure.specs.declared.owed.Owed.{Owed}
use Rattle.ix_closure.specs.declared.owed.Owed.TheVariants.{Claim}
use Rattle.ix_closure.specs.Follows.{claims_at}

module _ (plan : Parts) (planned : IsPlanned plan) where
  -- the claim of one more alternative
  pub claims_more : (r a s k : ℕ) (old before after : List Owed) → IsSlot plan s r a 0 → before ≡ old ++ claims_at k (map (first_slot plan r) (range_with_len 0 a)) → after ≡ before ++ Claim s k k ∷ [] → after ≡ old ++ claims_at k (map (first_slot plan r) (range_with_len 0 (a + 1)))
  claims_more r a s k old before after at e f =
      let firsts : List ℕ = map (first_slot plan r) (range_with_len 0 a) in
      let more : map (first_slot plan r) (range_with_len 0 (a + 1)) ≡ firsts ++ s ∷ [] = map-range_with_len_more (first_slot plan r) 0 a a (omega arith) ∙ ap (λ n. firsts ++ n ∷ []) (first_is_slot plan planned r a s at) in
      f ∙ ap (λ (xs : List Owed). xs ++ Claim s k k ∷ []) e ∙ append_assoc old (claims_at k firsts) (Claim s k k ∷ []) ∙
      ap (λ (xs : List Owed). old ++ xs) (sym (map-append (λ n. Claim n k k) firsts (s ∷ []))) ∙ ap (λ (xs : List ℕ). old ++ claims_at k xs) (sym more)

-- claims, where there are some, and then arrivals
pub two_appends : {X Y : Type 0} (new mid x x' : List X) (f f' : Bool) (cs : List X) (g : Y → X) (es es' : List Y) → new ≡ mid ++ map g es → mid ≡ x ++ cond f cs [] → x ≡ x' → f ≡ f' → es ≡ es' → new ≡ x' ++ (cond f' cs [] ++ map g es')
two_appends new mid x x' f f' cs g es es' e1 e2 ex ef ee =
    e1 ∙ ap (λ m. m ++ map g es) e2 ∙ append_assoc x (cond f cs []) (map g es) ∙ (λ i. ex i ++ (cond (ef i) cs [] ++ map g (ee i)))
