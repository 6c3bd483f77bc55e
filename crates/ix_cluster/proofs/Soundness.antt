-- The steps of a bank keep it sound.
use Rattle.std.proofs.Common.{◌≡◌, ℕ, ◌+◌, ◌<◌, Bool, true, false, cond, List, [], ◌∷◌, ◌++◌, length, take, Contains, Some, slice_get, refl, sym, ap, ◌∙◌, arith, subst, ◌⊎◌, inl, inr}
use Rattle.std.proofs.lemmas.Bool.{cases_Bool}
use Rattle.std.specs.List.{IsDistinct}
use Rattle.std.proofs.lemmas.List.{take_at, take-append-le}
use Rattle.std.proofs.lemmas.List.Elements.{Contains-push_cases}
use Rattle.std.proofs.lemmas.Map.Keys.{IsDistinct-push}
use Rattle.std.proofs.lemmas.Option.{slice_get_within}
use Rattle.ix_model.specs.declared.sub.Sub.{Sub}
use Rattle.ix_model.specs.Expansion.Parts.{Parts}
use Rattle.ix_model.specs.Expansion.Planned.{IsPlanned}
use Rattle.ix_model.specs.Expansion.Slots.{info_at}
use Rattle.ix_model.specs.Expansion.SlotPlaces.{IsFirstSlot, IsLastSlot}
use Rattle.ix_model.specs.Closure.Closed as closed
use Rattle.ix_model.proofs.SlotReaders.{first_reads}
use Rattle.ix_cluster.specs.declared.limits.TheConstants.{FACT_LIMIT}
use Rattle.ix_cluster.specs.declared.cluster.Edge.{Edge as Arc}
use Rattle.ix_cluster.specs.declared.fact.Fact.{Fact}
use Rattle.ix_cluster.specs.declared.fact.Fact.TheVariants.{Called, Edge, End, Desc, Part, Claim}
use Rattle.ix_cluster.specs.ClosedFacts.{IsInClosed}
use Rattle.ix_cluster.specs.Facts.{same_fact, has, put}
use Rattle.ix_cluster.specs.Firsts.{firsts_of, is_at_end}
use Rattle.ix_cluster.specs.Handed.{pair_count}
use Rattle.ix_cluster.specs.Homes.{home, home_of}
use Rattle.ix_cluster.specs.Lists.{cluster}
use Rattle.ix_cluster.specs.Room.{unclaimed_in}
use Rattle.ix_cluster.specs.Seen.{Bank}
use Rattle.ix_cluster.specs.Sound.{AreTrue, HasCompanions, IsSoundBank}
use Rattle.ix_cluster.specs.Steps.{empty_sub, after_first, after_firsts, after_call, after_claim, after_arrival, after_edge, edges_in, ends_in, end_answer, edge_answer}
use Rattle.ix_cluster.proofs.Beginning.{firsts_have, firsts_are, ends_at_once, at_end_of}
use Rattle.ix_cluster.proofs.Calls.{IsBegun, call-keeps, call-there, call-from, call-desc, call-part}
use Rattle.ix_cluster.proofs.Counts.{put-old}
use Rattle.ix_cluster.proofs.Elements.{get-push}
use Rattle.ix_cluster.proofs.Handing.{handed-claim, handed-arrive, handed-after_end, handed-after_edge, handed-call}
use Rattle.ix_cluster.proofs.Members.{same_fact-equivalence, put-keeps, put-there, put-from, Contains-has, first_has, rest_has, none_has}
use Rattle.ix_cluster.proofs.Recording.{put_both}

-- ---- what holds fact by fact

module _ (plan : Parts) (count m : ℕ) where
  pub record IsGood (log : List Fact) : Type 0 where
    pub once : IsDistinct same_fact log
    pub at_home : (f : Fact) → Contains log f → home_of plan count f ≡ m
    pub true_facts : AreTrue plan log

  -- the fact may be put into the log
  pub record MayCome (log : List Fact) (f : Fact) : Type 0 where
    pub at_home : home_of plan count f ≡ m
    pub closed : IsInClosed plan f
    pub later : (s l p : ℕ) → f ≡ Claim s l p → Contains log (Desc s l p)

  good-push : (log : List Fact) (f : Fact) → has log f ≡ false → MayCome log f → IsGood log → IsGood (log ++ f ∷ [])
  good-push log f new may good = record {
    once = IsDistinct-push same_fact-equivalence log f good.once new;
    at_home = λ g c. elim (Contains-push_cases log f g c) [ inl o ↦ good.at_home g o | inr e ↦ subst (λ z. home_of plan count z ≡ m) e may.at_home ];
    true_facts = record {
      closed = λ g c. elim (Contains-push_cases log f g c) [ inl o ↦ good.true_facts.closed g o | inr e ↦ subst (IsInClosed plan) e may.closed ];
      later = λ n s l p e. by n s l p (get-push log f n (Claim s l p) e);
    };
  }
    where
      by : (n s l p : ℕ) → (slice_get log n ≡ Some (Claim s l p)) ⊎ ((n ≡ length log) × (f ≡ Claim s l p)) → Contains (take n (log ++ f ∷ [])) (Desc s l p)
      by n s l p (inl e) =
          subst (λ (xs : List Fact). Contains xs (Desc s l p)) (sym (take-append-le n log (f ∷ []) (omega (arith, slice_get_within log n (Claim s l p) e)))) (good.true_facts.later n s l p e)
      by n s l p (inr h) = subst (λ (xs : List Fact). Contains xs (Desc s l p)) (sym (take_at log (f ∷ []) n (omega (arith, h.0)))) (may.later s l p h.1)

  pub good-put : (log : List Fact) (f : Fact) → MayCome log f → IsGood log → IsGood (put log f)
  good-put log f may good = put_both IsGood log f (λ _. good) (λ e. good-push log f e may good)

  -- ---- a call

  module _ (planned : IsPlanned plan) (r k : ℕ) (here : home r k count ≡ m) (called : closed.Called plan r k) where
    desc-may : (log : List Fact) (s : ℕ) → IsFirstSlot plan s r → MayCome log (Desc s k k)
    desc-may log s first = record {
      at_home = ap (λ (n : ℕ). home n k count) (first_reads plan s r first).1 ∙ here;
      closed = closed.begun r k s called first;
      later = λ s' l p e. absurd (cc e);
    }

    part-may : (log : List Fact) (s : ℕ) → IsFirstSlot plan s r → is_at_end plan s ≡ true → MayCome log (Part (empty_sub s k))
    part-may log s first e = record {
      at_home = ap (λ (n : ℕ). home n k count) (first_reads plan s r first).1 ∙ here;
      closed = closed.empty r k s called first (ends_at_once plan planned r s first e);
      later = λ s' l p w. absurd (cc w);
    }

    good-first : (log : List Fact) (s : ℕ) → IsFirstSlot plan s r → IsGood log → IsGood (after_first plan k log s)
    good-first log s first good = by (is_at_end plan s) refl
      where
        begun : IsGood (put log (Desc s k k))
        begun = good-put log (Desc s k k) (desc-may log s first) good

        by : (b : Bool) → is_at_end plan s ≡ b → IsGood (cond b (put (put log (Desc s k k)) (Part (empty_sub s k))) (put log (Desc s k k)))
        by true e = good-put (put log (Desc s k k)) (Part (empty_sub s k)) (part-may (put log (Desc s k k)) s first e) begun
        by false e = begun

    good-firsts : (ss : List ℕ) (log : List Fact) → ((s : ℕ) → Contains ss s → IsFirstSlot plan s r) → IsGood log → IsGood (after_firsts plan k ss log)
    good-firsts [] log firsts good = good
    good-firsts (s ∷ ss) log firsts good = good-firsts ss (after_first plan k log s) (λ t h. firsts t (rest_has s ss t h)) (good-first log s (firsts s (first_has s ss)) good)

    pub good-call : (log : List Fact) → r < length plan.rules.flats → IsGood log → IsGood (after_call plan log r k)
    good-call log there good = by (has log (Called r k))
      where
        may : MayCome log (Called r k)
        may = record { at_home = here; closed = called; later = λ s l p e. absurd (cc e) }

        by : (b : Bool) → IsGood (cond b log (after_firsts plan k (firsts_of plan r) (put log (Called r k))))
        by true = good
        by false = good-firsts (firsts_of plan r) (put log (Called r k)) (λ s h. firsts_are plan planned r s there h) (good-put log (Called r k) may good)

-- ---- what must be there with a fact

-- what the log has to have with the fact
abbrev pub Wanted : Parts → List Fact → Fact → Type 0
Wanted plan log (Part sub) = Contains log (Desc sub.slot sub.left sub.right)
Wanted plan log (Called r k) = ((s : ℕ) → IsFirstSlot plan s r → Contains log (Desc s k k)) × ((s : ℕ) → IsFirstSlot plan s r → IsLastSlot plan s r → Contains log (Part (empty_sub s k)))
Wanted plan log (Edge r k s l) = Contains log (Called r k)
Wanted plan log _ = Unit {0}

module _ (plan : Parts) where
  wanted_of : (log : List Fact) → HasCompanions plan log → (f : Fact) → Contains log f → Wanted plan log f
  wanted_of log has (Part sub) h = has.parts sub h
  wanted_of log has (Called r k) h = (λ s first. has.alternatives r k s h first, λ s first last. has.empties r k s h first last)
  wanted_of log has (Edge r k s l) h = has.edges r k s l h
  wanted_of log has (End r k e) h = tt
  wanted_of log has (Desc s l p) h = tt
  wanted_of log has (Claim s l p) h = tt

  companions_of : (log : List Fact) → ((f : Fact) → Contains log f → Wanted plan log f) → HasCompanions plan log
  companions_of log wanted = record {
    parts = λ sub h. wanted (Part sub) h;
    alternatives = λ r k s h first. (wanted (Called r k) h).0 s first;
    empties = λ r k s h first last. (wanted (Called r k) h).1 s first last;
    edges = λ r k s l h. wanted (Edge r k s l) h;
  }

  wanted-keeps : (log new : List Fact) → ((f : Fact) → Contains log f → Contains new f) → (f : Fact) → Wanted plan log f → Wanted plan new f
  wanted-keeps log new keeps (Part sub) w = keeps (Desc sub.slot sub.left sub.right) w
  wanted-keeps log new keeps (Called r k) w = (λ s first. keeps (Desc s k k) (w.0 s first), λ s first last. keeps (Part (empty_sub s k)) (w.1 s first last))
  wanted-keeps log new keeps (Edge r k s l) w = keeps (Called r k) w
  wanted-keeps log new keeps (End r k e) w = tt
  wanted-keeps log new keeps (Desc s l p) w = tt
  wanted-keeps log new keeps (Claim s l p) w = tt

  -- a log that grows keeps companions, where each new fact has its own
  companions-grown : (log new : List Fact) → HasCompanions plan log → ((f : Fact) → Contains log f → Contains new f) → ((f : Fact) → Contains new f → Contains log f ⊎ Wanted plan new f) → HasCompanions plan new
  companions-grown log new has keeps from =
      companions_of new (λ f h. elim (from f h) [ inl o ↦ wanted-keeps log new keeps f (wanted_of log has f o) | inr w ↦ w ])

  -- a fact that wants nothing more
  pub companions-put : (log : List Fact) (f : Fact) → HasCompanions plan log → Wanted plan (put log f) f → HasCompanions plan (put log f)
  companions-put log f has wanted =
      companions-grown log (put log f) has (put-keeps log f) (λ g h. elim (put-from log f g h) [ inl o ↦ inl o | inr e ↦ inr (subst (Wanted plan (put log f)) e wanted) ])

  -- a subtree and its descriptor
  pub companions-arrival : (log : List Fact) (sub : Sub) → HasCompanions plan log → HasCompanions plan (after_arrival log sub)
  companions-arrival log sub has = companions-grown log (after_arrival log sub) has (λ f h. put-keeps (put log (Part sub)) desc f (put-keeps log (Part sub) f h)) from
    where
      desc : Fact
      desc = Desc sub.slot sub.left sub.right

      from : (f : Fact) → Contains (after_arrival log sub) f → Contains log f ⊎ Wanted plan (after_arrival log sub) f
      from f h =
          elim (put-from (put log (Part sub)) desc f h) [
            | inl o ↦ elim (put-from log (Part sub) f o) [ inl o' ↦ inl o' | inr e ↦ inr (subst (Wanted plan (after_arrival log sub)) e (put-there (put log (Part sub)) desc)) ]
            | inr e ↦ inr (subst (Wanted plan (after_arrival log sub)) e tt)
          ]

  pub companions-call : IsPlanned plan → (log : List Fact) (r k : ℕ) → HasCompanions plan log → HasCompanions plan (after_call plan log r k)
  unfolding IsBegun
  companions-call planned log r k companions = companions-grown log new companions (call-keeps plan log r k) from
    where
      new : List Fact
      new = after_call plan log r k

      -- where the call is new
      fresh : has log (Called r k) ≡ false → (f : Fact) → (Called r k ≡ f) ⊎ IsBegun plan k (firsts_of plan r) f → Wanted plan new f
      fresh e f (inl w) =
          subst (Wanted plan new) w
          (λ s first. call-desc plan log r k e s (firsts_have plan planned r s first), λ s first last. call-part plan log r k e s (firsts_have plan planned r s first) (at_end_of plan planned r s last))
      fresh e f (inr (s, h, inl w)) = subst (Wanted plan new) w tt
      fresh e f (inr (s, h, inr (z, w))) = subst (Wanted plan new) w (call-desc plan log r k e s h)

      from : (f : Fact) → Contains new f → Contains log f ⊎ Wanted plan new f
      from f h = elim (call-from plan log r k f h) [ inl o ↦ inl o | inr n ↦ inr (fresh n.0 f n.1) ]

-- ---- the four steps

-- the descriptor that a claim is of
abbrev desc_of : Fact → Fact
desc_of (Claim s l p) = Desc s l p
desc_of f = f

module _ (plan : Parts) (count m : ℕ) where
  good_of : (bank : Bank) → IsSoundBank plan count m bank → IsGood plan count m bank.log
  good_of bank sound = record { once = sound.once; at_home = sound.at_home; true_facts = sound.true_facts }

  sound_from : (old new : Bank) → IsSoundBank plan count m old → IsGood plan count m new.log → HasCompanions plan new.log → ((f : Fact) → Contains old.log f → Contains new.log f) → new.handed ≡ pair_count new.log → length new.log + unclaimed_in new.log < FACT_LIMIT → IsSoundBank plan count m new
  sound_from old new sound good companions keeps handed bounded = record {
    once = good.once;
    at_home = good.at_home;
    true_facts = good.true_facts;
    companions = companions;
    handed = handed;
    opened = λ e. keeps (Called 0 0) (sound.opened e);
    bounded = bounded;
  }

  -- a claim
  module _ (log : List Fact) (s l p : ℕ) where
    claim-good : IsGood plan count m log → IsGood plan count m (after_claim log s l p)
    claim-good good = by (has log (Desc s l p)) refl
      where
        by : (b : Bool) → has log (Desc s l p) ≡ b → IsGood plan count m (cond b (put log (Claim s l p)) log)
        by false e = good
        by true e =
            let there = Contains-has log (Desc s l p) e in
            good-put plan count m log (Claim s l p)
            (record { at_home = good.at_home (Desc s l p) there; closed = good.true_facts.closed (Desc s l p) there; later = λ s' l' p' w. subst (Contains log) (ap desc_of w) there })
            good

    claim-companions : HasCompanions plan log → HasCompanions plan (after_claim log s l p)
    claim-companions companions = by (has log (Desc s l p))
      where
        by : (b : Bool) → HasCompanions plan (cond b (put log (Claim s l p)) log)
        by false = companions
        by true = companions-put plan log (Claim s l p) companions tt

    claim-keeps : (f : Fact) → Contains log f → Contains (after_claim log s l p) f
    claim-keeps f h = by (has log (Desc s l p))
      where
        by : (b : Bool) → Contains (cond b (put log (Claim s l p)) log) f
        by false = h
        by true = put-keeps log (Claim s l p) f h

  pub sound-claim : (old new : Bank) (s l p : ℕ) → new.log ≡ after_claim old.log s l p → new.handed ≡ old.handed → length new.log + unclaimed_in new.log < FACT_LIMIT → IsSoundBank plan count m old → IsSoundBank plan count m new
  sound-claim old new s l p e h bounded sound =
      sound_from old new sound
      (subst (IsGood plan count m) (sym e) (claim-good old.log s l p (good_of old sound)))
      (subst (HasCompanions plan) (sym e) (claim-companions old.log s l p sound.companions))
      (λ f c. subst (λ (xs : List Fact). Contains xs f) (sym e) (claim-keeps old.log s l p f c))
      (h ∙ sound.handed ∙ sym (handed-claim old.log s l p) ∙ ap pair_count (sym e))
      bounded

  -- an arrival
  pub sound-arrival : (old new : Bank) (sub : Sub) → new.log ≡ after_arrival old.log sub → new.handed ≡ old.handed → length new.log + unclaimed_in new.log < FACT_LIMIT → home (info_at plan sub.slot).head sub.left count ≡ m → closed.Part plan sub.slot sub.left sub.pivot sub.right → IsSoundBank plan count m old → IsSoundBank plan count m new
  sound-arrival old new sub e h bounded here part sound =
      sound_from old new sound
      (subst (IsGood plan count m) (sym e) (good-put plan count m (put old.log (Part sub)) (Desc sub.slot sub.left sub.right) desc (good-put plan count m old.log (Part sub) itself (good_of old sound))))
      (subst (HasCompanions plan) (sym e) (companions-arrival plan old.log sub sound.companions))
      (λ f c. subst (λ (xs : List Fact). Contains xs f) (sym e) (put-keeps (put old.log (Part sub)) (Desc sub.slot sub.left sub.right) f (put-keeps old.log (Part sub) f c)))
      (h ∙ sound.handed ∙ sym (handed-arrive old.log sub) ∙ ap pair_count (sym e))
      bounded
    where
      itself : MayCome plan count m old.log (Part sub)
      itself = record { at_home = here; closed = part; later = λ s l p w. absurd (cc w) }

      desc : MayCome plan count m (put old.log (Part sub)) (Desc sub.slot sub.left sub.right)
      desc = record { at_home = here; closed = closed.arrived sub.slot sub.left sub.pivot sub.right part; later = λ s l p w. absurd (cc w) }

  -- an end
  end-handed : (log : List Fact) (r k e handed : ℕ) (edges : List Arc) → handed ≡ pair_count log → edges ≡ end_answer log r k e → handed + length edges ≡ pair_count (put log (End r k e))
  end-handed log r k e handed edges h a = by (cases_Bool (has log (End r k e)))
    where
      by : (has log (End r k e) ≡ true) ⊎ (has log (End r k e) ≡ false) → handed + length edges ≡ pair_count (put log (End r k e))
      by (inl w) = let none : edges ≡ [] = a ∙ ap (λ b. cond b [] (edges_in log (cluster r k))) w in omega (arith, h, ap length none, ap pair_count (put-old log (End r k e) w))
      by (inr w) = let all : edges ≡ edges_in log (cluster r k) = a ∙ ap (λ b. cond b [] (edges_in log (cluster r k))) w in handed-after_end log (put log (End r k e)) r k e handed (length edges) w refl h (ap length all)

  pub sound-end : (old new : Bank) (r k e : ℕ) (edges : List Arc) → new.log ≡ put old.log (End r k e) → edges ≡ end_answer old.log r k e → new.handed ≡ old.handed + length edges → length new.log + unclaimed_in new.log < FACT_LIMIT → home r k count ≡ m → closed.End plan r k e → IsSoundBank plan count m old → IsSoundBank plan count m new
  sound-end old new r k e edges w a h bounded here end sound =
      sound_from old new sound
      (subst (IsGood plan count m) (sym w) (good-put plan count m old.log (End r k e) (record { at_home = here; closed = end; later = λ s l p z. absurd (cc z) }) (good_of old sound)))
      (subst (HasCompanions plan) (sym w) (companions-put plan old.log (End r k e) sound.companions tt))
      (λ f c. subst (λ (xs : List Fact). Contains xs f) (sym w) (put-keeps old.log (End r k e) f c))
      (h ∙ end-handed old.log r k e old.handed edges sound.handed a ∙ ap pair_count (sym w))
      bounded

  -- an edge
  edge-handed : (log : List Fact) (r k s l handed : ℕ) (ends : List ℕ) → handed ≡ pair_count log → ends ≡ edge_answer log r k s l → handed + length ends ≡ pair_count (after_edge plan log r k s l)
  edge-handed log r k s l handed ends h a = by (cases_Bool (has log (Edge r k s l)))
    where
      by : (has log (Edge r k s l) ≡ true) ⊎ (has log (Edge r k s l) ≡ false) → handed + length ends ≡ pair_count (after_edge plan log r k s l)
      by (inl w) =
          let none : ends ≡ [] = a ∙ ap (λ b. cond b [] (ends_in log (cluster r k))) w in
          omega (arith, h, ap length none, ap (λ b. pair_count (cond b log (put (after_call plan log r k) (Edge r k s l)))) w)
      by (inr w) =
          let all : ends ≡ ends_in log (cluster r k) = a ∙ ap (λ b. cond b [] (ends_in log (cluster r k))) w in
          handed-after_edge plan log (put (after_call plan log r k) (Edge r k s l)) r k s l handed (length ends) w refl h (ap length all) ∙
          sym (ap (λ b. pair_count (cond b log (put (after_call plan log r k) (Edge r k s l)))) w)

  pub sound-edge : IsPlanned plan → (old new : Bank) (r k s l : ℕ) (ends : List ℕ) → r < length plan.rules.flats → new.log ≡ after_edge plan old.log r k s l → ends ≡ edge_answer old.log r k s l → new.handed ≡ old.handed + length ends → length new.log + unclaimed_in new.log < FACT_LIMIT → home r k count ≡ m → closed.Edge plan r k s l → IsSoundBank plan count m old → IsSoundBank plan count m new
  sound-edge planned old new r k s l ends there w a h bounded here edge sound =
      sound_from old new sound
      (subst (IsGood plan count m) (sym w) good)
      (subst (HasCompanions plan) (sym w) companions)
      (λ f c. subst (λ (xs : List Fact). Contains xs f) (sym w) (keeps f c))
      (h ∙ edge-handed old.log r k s l old.handed ends sound.handed a ∙ ap pair_count (sym w))
      bounded
    where
      called : List Fact
      called = after_call plan old.log r k

      may : MayCome plan count m called (Edge r k s l)
      may = record { at_home = here; closed = edge; later = λ s' l' p z. absurd (cc z) }

      good : IsGood plan count m (after_edge plan old.log r k s l)
      good = by (has old.log (Edge r k s l))
        where
          by : (b : Bool) → IsGood plan count m (cond b old.log (put called (Edge r k s l)))
          by true = good_of old sound
          by false = good-put plan count m called (Edge r k s l) may (good-call plan count m planned r k here (closed.by_edge r k s l edge) old.log there (good_of old sound))

      companions : HasCompanions plan (after_edge plan old.log r k s l)
      companions = by (has old.log (Edge r k s l))
        where
          by : (b : Bool) → HasCompanions plan (cond b old.log (put called (Edge r k s l)))
          by true = sound.companions
          by false = companions-put plan called (Edge r k s l) (companions-call plan planned old.log r k sound.companions) (put-keeps called (Edge r k s l) (Called r k) (call-there plan old.log r k))

      keeps : (f : Fact) → Contains old.log f → Contains (after_edge plan old.log r k s l) f
      keeps f c = by (has old.log (Edge r k s l))
        where
          by : (b : Bool) → Contains (cond b old.log (put called (Edge r k s l))) f
          by true = c
          by false = put-keeps called (Edge r k s l) f (call-keeps plan old.log r k f c)

  -- ---- the beginning

  nothing : (f : Fact) → Contains [] f → ⊥
  nothing f h = none_has f h

  good-nothing : IsGood plan count m []
  unfolding IsDistinct
  good-nothing = record {
    once = tt;
    at_home = λ f h. absurd (nothing f h);
    true_facts = record { closed = λ f h. absurd (nothing f h); later = λ n s l p e. absurd (cc e) };
  }

  companions-nothing : HasCompanions plan []
  companions-nothing = record {
    parts = λ sub h. absurd (nothing (Part sub) h);
    alternatives = λ r k s h first. absurd (nothing (Called r k) h);
    empties = λ r k s h first last. absurd (nothing (Called r k) h);
    edges = λ r k s l h. absurd (nothing (Edge r k s l) h);
  }

  -- a bank in which the first rule is called
  pub sound-begin : IsPlanned plan → home 0 0 count ≡ m → length (after_call plan [] 0 0) + unclaimed_in (after_call plan [] 0 0) < FACT_LIMIT → IsSoundBank plan count m (record { log = after_call plan [] 0 0; handed = 0 })
  sound-begin planned here bounded =
      let there : 0 < length plan.rules.flats = omega (arith, planned.first_named, planned.names_within) in
      let good = good-call plan count m planned 0 0 here closed.start [] there good-nothing in
      record {
        once = good.once;
        at_home = good.at_home;
        true_facts = good.true_facts;
        companions = companions-call plan planned [] 0 0 companions-nothing;
        handed = sym (handed-call plan [] 0 0);
        opened = λ e. call-there plan [] 0 0;
        bounded = bounded;
      }

  -- one more sound bank
  pub sound-push : (banks : List Bank) (bank : Bank) (n : ℕ) → length banks ≡ n → ((i : ℕ) (b : Bank) → slice_get banks i ≡ Some b → IsSoundBank plan count i b) → IsSoundBank plan count n bank → (i : ℕ) (b : Bank) → slice_get (banks ++ bank ∷ []) i ≡ Some b → IsSoundBank plan count i b
  sound-push banks bank n len each sound i b e = elim (get-push banks bank i b e) [
    | inl o ↦ each i b o
    | inr h ↦ subst (λ (j : ℕ). IsSoundBank plan count j b) (sym len ∙ sym h.0) (subst (IsSoundBank plan count n) h.1 sound)
  ]
