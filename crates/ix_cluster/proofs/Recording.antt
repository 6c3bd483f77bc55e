-- What holds where a fact is recorded, and what a call and a step keep that each fact they record does.
use Rattle.std.proofs.Common.{◌≡◌, ℕ, true, false, List, [], ◌∷◌, ◌++◌, refl, ◌∙◌}
use Rattle.std.proofs.lemmas.Bool.{cond_both}
use Rattle.ix_model.specs.Expansion.Parts.{Parts}
use Rattle.ix_cluster.specs.declared.fact.Fact.{Fact}
use Rattle.ix_cluster.specs.declared.fact.Fact.TheVariants.{Called, Edge, End, Desc, Part, Claim}
use Rattle.ix_cluster.specs.BankSteps.{Call, AddEdge, AddEnd, Arrive, MakeClaim}
use Rattle.ix_cluster.specs.Facts.{has, put}
use Rattle.ix_cluster.specs.Firsts.{is_at_end, firsts_of}
use Rattle.ix_cluster.specs.StepAnswers.{after_step}
use Rattle.ix_cluster.specs.Steps.{empty_sub, after_first, after_firsts, after_call, after_claim}

-- a fact that is there leaves the log, and one that is new goes behind it
pub put_both : (P : List Fact → Type 0) (log : List Fact) (f : Fact) → (has log f ≡ true → P log) → (has log f ≡ false → P (log ++ f ∷ [])) → P (put log f)
put_both P log f old new = cond_both (has log f) log (log ++ f ∷ []) P old new

-- a claim is put into the log, where its descriptor is there
pub claim_both : (P : List Fact → Type 0) (log : List Fact) (s l p : ℕ) → (has log (Desc s l p) ≡ true → P (put log (Claim s l p))) → P log → P (after_claim log s l p)
claim_both P log s l p made same = cond_both (has log (Desc s l p)) (put log (Claim s l p)) log P made (λ _. same)

-- a relation of each log to itself and, step by step, to further ones: it leads along a call where it does along each fact
module _ (R : List Fact → List Fact → Type 0) (itself : (log : List Fact) → R log log) (further : (a b c : List Fact) → R a b → R b c → R a c)
    (plan : Parts) (k : ℕ) (desc : (log : List Fact) (s : ℕ) → R log (put log (Desc s k k))) (part : (log : List Fact) (s : ℕ) → R log (put log (Part (empty_sub s k)))) where
  along_first : (log : List Fact) (s : ℕ) → R log (after_first plan k log s)
  along_first log s =
      let begun = put log (Desc s k k) in
      let ended = put begun (Part (empty_sub s k)) in
      cond_both (is_at_end plan s) ended begun (R log) (λ _. further log begun ended (desc log s) (part begun s)) (λ _. desc log s)

  pub along_firsts : (firsts : List ℕ) (log : List Fact) → R log (after_firsts plan k firsts log)
  along_firsts [] log = itself log
  along_firsts (s ∷ ss) log = further log (after_first plan k log s) (after_firsts plan k (s ∷ ss) log) (along_first log s) (along_firsts ss (after_first plan k log s))

  pub along_call : (r : ℕ) (called : (log : List Fact) → R log (put log (Called r k))) (log : List Fact) → R log (after_call plan log r k)
  along_call r called log =
      let begun = put log (Called r k) in
      let after = after_firsts plan k (firsts_of plan r) begun in
      cond_both (has log (Called r k)) log after (R log) (λ _. itself log) (λ _. further log begun after (called log) (along_firsts (firsts_of plan r) begun))

-- so what is told of a log stays
pub same_after_call : {X : Type 0} (told : List Fact → X) (plan : Parts) (r k : ℕ) → ((log : List Fact) (s : ℕ) → told (put log (Desc s k k)) ≡ told log) → ((log : List Fact) (s : ℕ) → told (put log (Part (empty_sub s k))) ≡ told log)
    → ((log : List Fact) → told (put log (Called r k)) ≡ told log) → (log : List Fact) → told (after_call plan log r k) ≡ told log
same_after_call told plan r k desc part called log = along_call (λ before after. told after ≡ told before) (λ _. refl) (λ _ _ _ e w. w ∙ e) plan k desc part r called log

-- a relation that leads along each recorded fact leads along each step
pub along_step : (R : List Fact → List Fact → Type 0) → ((log : List Fact) → R log log) → ((a b c : List Fact) → R a b → R b c → R a c) → ((log : List Fact) (f : Fact) → R log (put log f)) → (plan : Parts) (log : List Fact) (call : Call) → R log (after_step plan log call)
along_step R itself further puts plan log (AddEdge r k s l) =
    let called = after_call plan log r k in
    let new = put called (Edge r k s l) in
    cond_both (has log (Edge r k s l)) log new (R log) (λ _. itself log)
    (λ _. further log called new (along_call R itself further plan k (λ l t. puts l (Desc t k k)) (λ l t. puts l (Part (empty_sub t k))) r (λ l. puts l (Called r k)) log) (puts called (Edge r k s l)))
along_step R itself further puts plan log (AddEnd r k e) = puts log (End r k e)
along_step R itself further puts plan log (Arrive sub) =
    let recorded = put log (Part sub) in
    let desc = Desc sub.slot sub.left sub.right in
    further log recorded (put recorded desc) (puts log (Part sub)) (puts recorded desc)
along_step R itself further puts plan log (MakeClaim s l p) = claim_both (R log) log s l p (λ _. puts log (Claim s l p)) (itself log)
