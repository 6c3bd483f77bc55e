-- The log as numbered facts with marks for claims, as facts are recorded and claimed.
use Rattle.std.proofs.Common.{◌≡◌, ℕ, ◌+◌, ◌-◌, ◌≤◌, ◌<◌, Bool, true, false, not, cond, ◌||◌, List, [], ◌∷◌, ◌++◌, length, length-append, filter, Some, Contains, slice_get, slice_set, slice_index_or, position, refl, sym, ap, ap₂, ◌∙◌, subst, arith, true≢false, ◌⊎◌, inl, inr}
use Rattle.std.specs.List.{IsDistinct}
use Rattle.std.specs.Option.{option_map}
use Rattle.std.proofs.lemmas.List.{get_or_append_left, append-nil, length-set, length-map, map-append}
use Rattle.std.proofs.lemmas.List.Quantifiers.{position-Some}
use Rattle.std.proofs.lemmas.List.Folds.{list_any-append}
use Rattle.std.proofs.lemmas.List.Elements.{filter-append, Contains-push_cases}
use Rattle.std.proofs.lemmas.Map.Keys.{apart_from_distinct, IsDistinct-push}
use Rattle.std.proofs.lemmas.Bool.{cases_Bool, cases_eq, cases_lt, false_from_ne_true}
use Rattle.std.proofs.lemmas.Option.{get_or_from_slice_get, slice_get_within, slice_get-map, slice_get_read, slice_get-get_or, same_Some}
use Rattle.std.proofs.Math.Seq.{get_or-append_seam}
use Rattle.ix_cluster.specs.declared.limits.TheConstants.{FACT_LIMIT}
use Rattle.ix_cluster.specs.declared.fact.Fact.{Fact}
use Rattle.ix_cluster.specs.declared.fact.Fact.TheVariants.{Called, Desc, Claim}
use Rattle.ix_cluster.specs.contracts.fact.FactPartialEq.TheImpl.{eq-value}
use Rattle.ix_cluster.specs.declared.log.Place.{Place}
use Rattle.ix_cluster.specs.declared.log.Place.TheVariants.{Came, Claimed}
use Rattle.ix_cluster.specs.declared.answers.Claimed.TheVariants.{Mine, Taken, Unknown}
use Rattle.ix_cluster.specs.Facts.{has, put, same_fact}
use Rattle.ix_cluster.specs.LogPlaces.{is_no_claim, as_claim, number_of, fact_at, log_of, AreMarked, IsLog}
use Rattle.ix_cluster.specs.Room.{is_unclaimed, unclaimed_in, HasRoom}
use Rattle.ix_cluster.specs.Steps.{claim_answer, after_claim}
use Rattle.ix_cluster.proofs.ButClaims.{has-but_claims, once-filter}
use Rattle.ix_cluster.proofs.Counts.{has-push_new, has-push_old, put-old, put-new, length-put, unclaimed-put_other, unclaimed-some, unclaimed-claim, HasRoom-put}
use Rattle.ix_cluster.proofs.Elements.{get-left, get-last, get-push, get-set_same, get-set_other}
use Rattle.ix_cluster.proofs.FactLemmas.{eq-same_fact, same_fact-true, same_fact-refl}
use Rattle.ix_cluster.proofs.Members.{first_has, rest_has, nth_has, none_has, has-Contains, same_fact-equivalence}

-- a fact stands at one place of a list that has each once
module _ (facts : List Fact) (f : Fact) (once : IsDistinct same_fact facts) where
  not_before : (i j : ℕ) → slice_get facts i ≡ Some f → slice_get facts j ≡ Some f → i < j → ⊥
  not_before i j hi hj less =
      true≢false (sym (same_fact-refl f) ∙ sym (ap₂ same_fact (get_or_from_slice_get facts i f f hi) (get_or_from_slice_get facts j f f hj)) ∙ apart_from_distinct same_fact facts i j f once less (slice_get_within facts j f hj))

  one_place : (i j : ℕ) → slice_get facts i ≡ Some f → slice_get facts j ≡ Some f → i ≡ j
  one_place i j hi hj = elim (cases_lt i j) [
    | inl less ↦ absurd (not_before i j hi hj less)
    | inr le ↦ elim (cases_lt j i) [ inl less ↦ absurd (not_before j i hj hi less) | inr ge ↦ omega (arith, le, ge) ]
  ]

-- where the test of the program finds a fact
pub found-at : (facts : List Fact) (n : ℕ) (f : Fact) → position (eq-value.it f) facts ≡ Some n → slice_get facts n ≡ Some f
found-at facts n f h =
    let found = position-Some (eq-value.it f) facts n f h in
    slice_get-get_or facts n f found.0 ∙ ap Some (sym (same_fact-true f (slice_index_or facts n f) (sym (eq-same_fact f (slice_index_or facts n f)) ∙ found.1)))

-- ---- the log, as facts and claims come

abbrev AreWithin : List Fact → List Place → Type 0
AreWithin facts places = (place : Place) → Contains places place → number_of place < length facts

fact_at-push : (facts : List Fact) (f : Fact) (place : Place) → number_of place < length facts → fact_at (facts ++ f ∷ []) place ≡ fact_at facts place
fact_at-push facts f (Came n) h = get_or_append_left facts (f ∷ []) (Called 0 0) n h
fact_at-push facts f (Claimed n) h = ap as_claim (get_or_append_left facts (f ∷ []) (Called 0 0) n h)

log_of-push : (facts : List Fact) (f : Fact) (places : List Place) → AreWithin facts places → log_of (facts ++ f ∷ []) places ≡ log_of facts places
log_of-push facts f [] within = refl
log_of-push facts f (p ∷ places) within = ap₂ ◌∷◌ (fact_at-push facts f p (within p (first_has p places))) (log_of-push facts f places (λ q h. within q (rest_has p places q h)))

log_of-came : (facts : List Fact) (f : Fact) (places : List Place) → AreWithin facts places → log_of (facts ++ f ∷ []) (places ++ Came (length facts) ∷ []) ≡ log_of facts places ++ f ∷ []
log_of-came facts f places within =
    map-append (fact_at (facts ++ f ∷ [])) places (Came (length facts) ∷ []) ∙
    ap₂ (λ l x. l ++ x ∷ []) (log_of-push facts f places within) (get_or-append_seam facts f [] (Called 0 0))

log_of-claimed : (facts : List Fact) (places : List Place) (n : ℕ) (f : Fact) → slice_get facts n ≡ Some f → log_of facts (places ++ Claimed n ∷ []) ≡ log_of facts places ++ as_claim f ∷ []
log_of-claimed facts places n f h = map-append (fact_at facts) places (Claimed n ∷ []) ∙ ap (λ x. log_of facts places ++ as_claim x ∷ []) (get_or_from_slice_get facts n f (Called 0 0) h)

within-push : (facts facts' : List Fact) (places : List Place) (p : Place) → length facts ≤ length facts' → AreWithin facts places → number_of p < length facts' → AreWithin facts' (places ++ p ∷ [])
within-push facts facts' places p longer within here q h = by (Contains-push_cases places p q h)
  where
    by : Contains places q ⊎ (p ≡ q) → number_of q < length facts'
    by (inl o) = omega (arith, within q o, longer)
    by (inr e) = subst (λ z. number_of z < length facts') e here

or_false : (b : Bool) → (b || false) ≡ b
or_false true = refl
or_false false = refl

-- what is read at a place
module _ (facts : List Fact) (marks : List Bool) (places : List Place) (is : AreMarked facts marks places) (n : ℕ) (p : Place) (seen : p ≡ slice_index_or places n p) (here : n < length (log_of facts places)) where
  inside : n < length places
  inside = omega (arith, here, length-map places (fact_at facts))

  pub read-number : number_of p < length facts
  read-number = is.within p (n, inside, sym seen)

  pub read-fact : slice_get (log_of facts places) n ≡ Some (fact_at facts p)
  read-fact = slice_get-map (fact_at facts) places n ∙ ap (option_map (fact_at facts)) (slice_get_read places (length places) n p refl inside seen)

-- what a fact that is no claim adds is no claim
push-claims : (log : List Fact) (f : Fact) (s l p : ℕ) → is_no_claim f ≡ true → has (log ++ f ∷ []) (Claim s l p) ≡ has log (Claim s l p)
push-claims log f s l p h = list_any-append (same_fact (Claim s l p)) log (f ∷ []) ∙ ap (λ b. has log (Claim s l p) || (b || false)) (apart f h) ∙ or_false (has log (Claim s l p))
  where
    apart : (g : Fact) → is_no_claim g ≡ true → same_fact (Claim s l p) g ≡ false
    apart (Claim s' l' p') e = absurd (true≢false (sym e))
    apart g e = refl

pub AreMarked-none : AreMarked [] [] []
unfolding IsDistinct
AreMarked-none = record {
  facts_are = refl;
  within = λ place h. absurd (none_has place h);
  once = tt;
  a_mark_each = refl;
  marked = λ n s l p h. absurd (cc h);
  claims = λ s l p h. absurd (true≢false (sym h));
}

module _ (facts : List Fact) (marks : List Bool) (places : List Place) (is : AreMarked facts marks places) where
  pub has-facts : (f : Fact) → is_no_claim f ≡ true → has facts f ≡ has (log_of facts places) f
  has-facts f h = ap (λ z. has z f) (sym is.facts_are) ∙ has-but_claims (log_of facts places) f h

  -- the facts but the claims stand once too
  facts-once : IsDistinct same_fact facts
  facts-once = subst (IsDistinct same_fact) is.facts_are (once-filter is_no_claim (log_of facts places) is.once)

  -- a new fact is numbered, and is not claimed
  module _ (f : Fact) (plain : is_no_claim f ≡ true) (new : has facts f ≡ false) where
    pub log_of-pushed : log_of (facts ++ f ∷ []) (places ++ Came (length facts) ∷ []) ≡ log_of facts places ++ f ∷ []
    log_of-pushed = log_of-came facts f places is.within

    claims-pushed : (s l p : ℕ) → has (log_of (facts ++ f ∷ []) (places ++ Came (length facts) ∷ [])) (Claim s l p) ≡ has (log_of facts places) (Claim s l p)
    claims-pushed s l p = ap (λ z. has z (Claim s l p)) log_of-pushed ∙ push-claims (log_of facts places) f s l p plain

    -- a descriptor that is new has no claim
    not_claimed : (s l p : ℕ) → f ≡ Desc s l p → has (log_of facts places) (Claim s l p) ≡ false
    not_claimed s l p e = false_from_ne_true (has (log_of facts places) (Claim s l p)) (λ t. true≢false (sym (is.claims s l p t) ∙ subst (λ z. has facts z ≡ false) e new))

    pub AreMarked-push : AreMarked (facts ++ f ∷ []) (marks ++ false ∷ []) (places ++ Came (length facts) ∷ [])
    AreMarked-push = record {
      facts_are = ap (filter is_no_claim) log_of-pushed ∙ filter-append is_no_claim (log_of facts places) (f ∷ []) ∙ ap₂ ◌++◌ is.facts_are (ap (λ b. cond b (f ∷ []) []) plain);
      within = within-push facts (facts ++ f ∷ []) places (Came (length facts)) (omega (arith, length-append facts (f ∷ []))) is.within (omega (arith, length-append facts (f ∷ [])));
      once = subst (IsDistinct same_fact) (sym log_of-pushed) (IsDistinct-push same_fact-equivalence (log_of facts places) f is.once (sym (has-facts f plain) ∙ new));
      a_mark_each = omega (arith, length-append marks (false ∷ []), length-append facts (f ∷ []), is.a_mark_each);
      marked = marked;
      claims = λ s l p h. has-push_old facts f (Desc s l p) (is.claims s l p (sym (claims-pushed s l p) ∙ h));
    }
      where
        marked : (n s l p : ℕ) → slice_get (facts ++ f ∷ []) n ≡ Some (Desc s l p) → slice_get (marks ++ false ∷ []) n ≡ Some (has (log_of (facts ++ f ∷ []) (places ++ Came (length facts) ∷ [])) (Claim s l p))
        marked n s l p h = by (get-push facts f n (Desc s l p) h)
          where
            by : (slice_get facts n ≡ Some (Desc s l p)) ⊎ ((n ≡ length facts) × (f ≡ Desc s l p)) → slice_get (marks ++ false ∷ []) n ≡ Some (has (log_of (facts ++ f ∷ []) (places ++ Came (length facts) ∷ [])) (Claim s l p))
            by (inl o) = get-left marks (false ∷ []) n _ (is.marked n s l p o) ∙ ap Some (sym (claims-pushed s l p))
            by (inr e) =
                ap (slice_get (marks ++ false ∷ [])) (e.0 ∙ sym is.a_mark_each) ∙ get-last marks false ∙ ap Some (sym (not_claimed s l p e.1) ∙ sym (claims-pushed s l p))

  -- a claim marks its descriptor
  module _ (n s l p : ℕ) (at : slice_get facts n ≡ Some (Desc s l p)) where
    pub log_of-claim : log_of facts (places ++ Claimed n ∷ []) ≡ log_of facts places ++ Claim s l p ∷ []
    log_of-claim = log_of-claimed facts places n (Desc s l p) at

    pub has-descriptor : has facts (Desc s l p) ≡ true
    has-descriptor = has-Contains facts (Desc s l p) (nth_has facts n (Desc s l p) at)

    pub AreMarked-claim : has (log_of facts places) (Claim s l p) ≡ false → AreMarked facts (slice_set marks n true) (places ++ Claimed n ∷ [])
    AreMarked-claim new = record {
      facts_are = ap (filter is_no_claim) log_of-claim ∙ filter-append is_no_claim (log_of facts places) (Claim s l p ∷ []) ∙ append-nil (filter is_no_claim (log_of facts places)) ∙ is.facts_are;
      within = within-push facts facts places (Claimed n) (omega arith) is.within (slice_get_within facts n (Desc s l p) at);
      once = subst (IsDistinct same_fact) (sym log_of-claim) (IsDistinct-push same_fact-equivalence (log_of facts places) (Claim s l p) is.once new);
      a_mark_each = length-set marks n true ∙ is.a_mark_each;
      marked = marked;
      claims = claims;
    }
      where
        has_now : (f : Fact) → has (log_of facts (places ++ Claimed n ∷ [])) f ≡ (has (log_of facts places) f || has (Claim s l p ∷ []) f)
        has_now f = ap (λ z. has z f) log_of-claim ∙ list_any-append (same_fact f) (log_of facts places) (Claim s l p ∷ [])

        marked : (m s' l' p' : ℕ) → slice_get facts m ≡ Some (Desc s' l' p') → slice_get (slice_set marks n true) m ≡ Some (has (log_of facts (places ++ Claimed n ∷ [])) (Claim s' l' p'))
        marked m s' l' p' h = by (cases_eq m n)
          where
            here : Claim s l p ≡ Claim s' l' p' → has (log_of facts (places ++ Claimed n ∷ [])) (Claim s' l' p') ≡ true
            here e = ap (λ z. has z (Claim s' l' p')) log_of-claim ∙ subst (λ z. has (log_of facts places ++ Claim s l p ∷ []) z ≡ true) e (has-push_new (log_of facts places) (Claim s l p))

            apart : (m ≡ n → ⊥) → same_fact (Desc s' l' p') (Desc s l p) ≡ false
            apart ne = false_from_ne_true (same_fact (Desc s' l' p') (Desc s l p)) (λ t. ne (one_place facts (Desc s l p) facts-once m n (h ∙ ap Some (same_fact-true (Desc s' l' p') (Desc s l p) t)) at))

            by : (m ≡ n) ⊎ (m ≡ n → ⊥) → slice_get (slice_set marks n true) m ≡ Some (has (log_of facts (places ++ Claimed n ∷ [])) (Claim s' l' p'))
            by (inl e) =
                let same : Desc s l p ≡ Desc s' l' p' = same_Some (Desc s l p) (Desc s' l' p') (sym at ∙ ap (slice_get facts) (sym e) ∙ h) in
                ap (slice_get (slice_set marks n true)) e ∙ get-set_same marks n _ true (is.marked n s l p at) ∙ ap Some (sym (here (ap as_claim same)))
            by (inr ne) =
                get-set_other marks n m true (λ e. ne (sym e)) ∙ is.marked m s' l' p' h ∙
                ap Some (sym (has_now (Claim s' l' p') ∙ ap (λ b. has (log_of facts places) (Claim s' l' p') || (b || false)) (apart ne) ∙ or_false (has (log_of facts places) (Claim s' l' p'))))

        claims : (s' l' p' : ℕ) → has (log_of facts (places ++ Claimed n ∷ [])) (Claim s' l' p') ≡ true → has facts (Desc s' l' p') ≡ true
        claims s' l' p' h = by (cases_Bool (has (log_of facts places) (Claim s' l' p'))) (cases_Bool (same_fact (Claim s' l' p') (Claim s l p)))
          where
            by : (has (log_of facts places) (Claim s' l' p') ≡ true) ⊎ (has (log_of facts places) (Claim s' l' p') ≡ false) → (same_fact (Claim s' l' p') (Claim s l p) ≡ true) ⊎ (same_fact (Claim s' l' p') (Claim s l p) ≡ false) → has facts (Desc s' l' p') ≡ true
            by (inl t) other = is.claims s' l' p' t
            by (inr f) (inl e) = let same : Desc s l p ≡ Desc s' l' p' = sym (same_fact-true (Desc s' l' p') (Desc s l p) e) in subst (λ z. has facts z ≡ true) same has-descriptor
            by (inr f) (inr e) = absurd (true≢false (sym h ∙ has_now (Claim s' l' p') ∙ ap₂ (λ a b. a || (b || false)) f e))

-- ---- what a claim answers and leaves

module _ (facts : List Fact) (marks : List Bool) (places : List Place) (is : AreMarked facts marks places) (s l p : ℕ) where
  abbrev log : List Fact
  log = log_of facts places

  answers : (d t : Bool) → has log (Desc s l p) ≡ d → has log (Claim s l p) ≡ t → claim_answer log s l p ≡ cond d (cond t Taken Mine) Unknown
  answers d t ed et = ap₂ (λ a b. cond a (cond b Taken Mine) Unknown) ed et

  leaves : (d t : Bool) → has log (Desc s l p) ≡ d → has log (Claim s l p) ≡ t → after_claim log s l p ≡ cond d (cond t log (log ++ Claim s l p ∷ [])) log
  leaves d t ed et = ap₂ (λ a b. cond a (cond b log (log ++ Claim s l p ∷ [])) log) ed et

  module _ (none : has facts (Desc s l p) ≡ false) where
    pub unknown-answer : Unknown ≡ claim_answer log s l p
    unknown-answer = sym (answers false (has log (Claim s l p)) (sym (has-facts facts marks places is (Desc s l p) refl) ∙ none) refl)

    pub unknown-log : log ≡ after_claim log s l p
    unknown-log = sym (leaves false (has log (Claim s l p)) (sym (has-facts facts marks places is (Desc s l p) refl) ∙ none) refl)

  module _ (n : ℕ) (at : slice_get facts n ≡ Some (Desc s l p)) where
    there : has log (Desc s l p) ≡ true
    there = sym (has-facts facts marks places is (Desc s l p) refl) ∙ has-descriptor facts marks places is n s l p at

    -- the mark says whether the descriptor is claimed
    pub read-mark : (mark : Bool) → mark ≡ slice_index_or marks n mark → has log (Claim s l p) ≡ mark
    read-mark mark seen = sym (seen ∙ get_or_from_slice_get marks n (has log (Claim s l p)) mark (is.marked n s l p at))

    pub taken-answer : has log (Claim s l p) ≡ true → Taken ≡ claim_answer log s l p
    taken-answer e = sym (answers true true there e)

    pub taken-log : has log (Claim s l p) ≡ true → log ≡ after_claim log s l p
    taken-log e = sym (leaves true true there e)

    module _ (new : has log (Claim s l p) ≡ false) where
      pub mine-answer : Mine ≡ claim_answer log s l p
      mine-answer = sym (answers true false there new)

      pub mine-log : (places' : List Place) → places' ≡ places ++ Claimed n ∷ [] → log_of facts places' ≡ after_claim log s l p
      mine-log places' e = ap (log_of facts) e ∙ log_of-claim facts marks places is n s l p at ∙ sym (leaves true false there new)

      pub mine-waits : 1 ≤ unclaimed_in log
      mine-waits = unclaimed-some log s l p there new

      mine-fewer : unclaimed_in (log ++ Claim s l p ∷ []) + 1 ≤ unclaimed_in log
      mine-fewer = unclaimed-claim log s l p there new

      pub IsLog-claim : (places' : List Place) (fact_room mark_room place_room place_room' unclaimed free : ℕ) → places' ≡ places ++ Claimed n ∷ [] → place_room ≤ place_room' + 1 → IsLog facts marks places fact_room mark_room place_room unclaimed free → IsLog facts (slice_set marks n true) places' fact_room mark_room place_room' (unclaimed - 1) free
      IsLog-claim places' fact_room mark_room place_room place_room' unclaimed free e less whole =
          subst (λ z. IsLog facts (slice_set marks n true) z fact_room mark_room place_room' (unclaimed - 1) free) (sym e)
          (record {
            are_marked = AreMarked-claim facts marks places is n s l p at new;
            room = subst (λ z. HasRoom z place_room' (unclaimed - 1) free) (sym (log_of-claim facts marks places is n s l p at)) (record {
              counted = omega (arith, whole.room.counted, mine-fewer);
              room = omega (arith, whole.room.counted, whole.room.room, mine-waits, less);
              small = omega (arith, whole.room.counted, whole.room.small, mine-waits, length-append log (Claim s l p ∷ []));
            });
            facts_fit = whole.facts_fit;
            marks_fit = whole.marks_fit;
            numbers = whole.numbers;
          })

-- ---- the fields of a log

add-zero : (n : ℕ) → n + 0 ≡ n
add-zero n = omega arith

module _ (facts : List Fact) (marks : List Bool) (places : List Place) (fact_room mark_room place_room unclaimed free : ℕ) (is : IsLog facts marks places fact_room mark_room place_room unclaimed free) where
  -- a fact that is no claim is put into it, with one more claim to come at most
  module _ (f : Fact) (plain : is_no_claim f ≡ true) (added : Bool) (facts' : List Fact) (marks' : List Bool) (places' : List Place) (said : added ≡ not (has facts f)) (facts_are : facts' ≡ put facts f) (marks_are : marks' ≡ cond added (marks ++ false ∷ []) marks) (places_are : places' ≡ cond added (places ++ Came (length facts) ∷ []) places) where
    pub added-log : added ≡ not (has (log_of facts places) f)
    added-log = said ∙ ap not (has-facts facts marks places is.are_marked f plain)

    -- the log is put, and the marks stay right
    abbrev Made : List Fact → List Bool → List Place → Type 0
    Made fs ms ps = AreMarked fs ms ps × (log_of fs ps ≡ put (log_of facts places) f)

    outcome : Made facts' marks' places'
    outcome = by (cases_Bool (has facts f))
      where
        moved : (fs : List Fact) (ms : List Bool) (ps : List Place) → facts' ≡ fs → marks' ≡ ms → places' ≡ ps → Made fs ms ps → Made facts' marks' places'
        moved fs ms ps a b c made = subst (λ z. Made z marks' places') (sym a) (subst (λ z. Made fs z places') (sym b) (subst (λ z. Made fs ms z) (sym c) made))

        by : (has facts f ≡ true) ⊎ (has facts f ≡ false) → Made facts' marks' places'
        by (inl e) =
            let there = sym (has-facts facts marks places is.are_marked f plain) ∙ e in
            moved facts marks places (facts_are ∙ put-old facts f e) (marks_are ∙ ap (λ b. cond b (marks ++ false ∷ []) marks) (said ∙ ap not e)) (places_are ∙ ap (λ b. cond b (places ++ Came (length facts) ∷ []) places) (said ∙ ap not e))
            (is.are_marked, sym (put-old (log_of facts places) f there))
        by (inr e) =
            let new = sym (has-facts facts marks places is.are_marked f plain) ∙ e in
            moved (facts ++ f ∷ []) (marks ++ false ∷ []) (places ++ Came (length facts) ∷ []) (facts_are ∙ put-new facts f e) (marks_are ∙ ap (λ b. cond b (marks ++ false ∷ []) marks) (said ∙ ap not e)) (places_are ∙ ap (λ b. cond b (places ++ Came (length facts) ∷ []) places) (said ∙ ap not e))
            (AreMarked-push facts marks places is.are_marked f plain e, log_of-pushed facts marks places is.are_marked f plain e ∙ sym (put-new (log_of facts places) f new))

    pub log_of-put : log_of facts' places' ≡ put (log_of facts places) f
    log_of-put = outcome.1

    pub IsLog-put : (fact_room' mark_room' place_room' more : ℕ) → fact_room ≤ fact_room' + 1 → mark_room ≤ mark_room' + 1 → place_room ≤ place_room' + 1 → 2 ≤ free → more ≤ 1 → unclaimed_in (put (log_of facts places) f) ≤ unclaimed_in (log_of facts places) + more → IsLog facts' marks' places' fact_room' mark_room' place_room' (unclaimed + more) (free - 2)
    IsLog-put fact_room' mark_room' place_room' more fr mr pr two one counted = record {
      are_marked = outcome.0;
      room = HasRoom-put (log_of facts places) (log_of facts' places') f place_room place_room' unclaimed free more is.room log_of-put two pr one counted;
      facts_fit = omega (arith, is.facts_fit);
      marks_fit = omega (arith, is.marks_fit);
      numbers = omega (arith, is.numbers, length-put facts f, ap length facts_are);
    }

    -- the same where no claim is to come
    pub IsLog-put_other : (fact_room' mark_room' place_room' : ℕ) → fact_room ≤ fact_room' + 1 → mark_room ≤ mark_room' + 1 → place_room ≤ place_room' + 1 → 2 ≤ free → ((log : List Fact) → is_unclaimed log f ≡ false) → IsLog facts' marks' places' fact_room' mark_room' place_room' unclaimed (free - 2)
    IsLog-put_other fact_room' mark_room' place_room' fr mr pr two other =
        subst (λ u. IsLog facts' marks' places' fact_room' mark_room' place_room' u (free - 2)) (add-zero unclaimed)
        (IsLog-put fact_room' mark_room' place_room' 0 fr mr pr two (omega arith) (omega (arith, unclaimed-put_other (log_of facts places) f other)))

  pub IsLog-bounded : length (log_of facts places) + unclaimed_in (log_of facts places) < FACT_LIMIT
  IsLog-bounded = omega (arith, is.room.counted, is.room.small)
