-- Each step keeps the rule of the row.
use Rattle.std.proofs.Common.{◌≡◌, ◌≢◌, ◌⊎◌, ℕ, zero, suc, ◌+◌, ◌-◌, ◌<◌, List, [], ◌∷◌, ◌++◌, map, length, get_or, set, replicate, Option, Some, None, Bool, true, false, refl, sym, ap, ◌∙◌, subst, ⊎_elim, inl, inr, arith, length-set, get_or-set_other, get_or-set_same}
use mathlib.Core.Logic.{dite}
use mathlib.Core.Option.{none, some, some-ne-none, some-injective}
use mathlib.Core.Option as maybe
use native.Mathlib.Decide.{ℕ_discrete}
use lib.ListN.{get_elem?, length-map, length-replicate}
use lib.Seq.{set-get_or}
use Rattle.std.proofs.lemmas.List.{get_or-replicate}
use Rattle.atomic_table.specs.Table.{State, Me, step, keeps, takes, gives, Allows, Splits, Joins, opening, Final, Seen}
use Rattle.atomic_table.proofs.Lists.{at_set, at_snoc, at_longer, at_map, set_here, set_else, set_again}
use Rattle.ix_rows.specs.declared.view.View.{View}
use Rattle.ix_rows.specs.Beginnings.{Begins}
use Rattle.ix_rows.specs.Facts.{AllKept}
use Rattle.ix_rows.specs.Logs.{log_at, put_at}
use Rattle.ix_rows.specs.Numbers.{times, run}
use Rattle.ix_rows.specs.Orderly.{Orderly, Fits}
use Rattle.ix_rows.specs.Steps.{tried, released, looked}
use Rattle.ix_rows.specs.Totals.{total}
use Rattle.ix_rows.specs.Views.{root_view, spent, left_of, right_of, both_of, merged, holding, giving, lent}
use Rattle.ix_rows.proofs.Counts.{some_is, some_none, held_is, only_one, total_set, total_snoc, total_has, total_one, each_set, set_there, at_one}
use Rattle.ix_rows.proofs.Logs.{begins_all, begins_none, begins_further, begins_length, longest_begins, put_here, put_else, updated, updated_here, updated_else, times_append, run_on, times_elsewhere}

module _ {T X E : Type 0} (fact : T → ℕ → X → Type 0) (log : X → List E) (topic : T) (first : List (List E)) where
  abbrev V : Type 0
  V = View T E

  abbrev St : Type 0
  St = State (Option X) V

  abbrev M : Type 0
  M = Me (Option X) V

  abbrev Rule : St → Type 0
  Rule = Orderly fact log topic first

  abbrev begun : List ℕ
  begun = map length first

  abbrev Live : V → Type 0
  Live v = ((v.root ≡ true) ⊎ (v.lent ≡ 1)) × ((t : T) × (v.topic ≡ Some t))

  abbrev Fit : (ℕ → List E) → List ℕ → ℕ → ℕ → V → Type 0
  Fit logs words out j v = Fits fact log topic begun logs words out j v

  abbrev mine : ℕ → ℕ → V → ℕ
  mine m k v = times m k v.own

  -- the total is as before where the view has as much
  as_much : (f : V → ℕ) (views : List V) (id : ℕ) (v w : V) → get_elem? views id ≡ some v → f w ≡ f v → total f (set views id w) ≡ total f views
  as_much f views id v w at same = let t = total_set f views id v w at in omega arith

  -- what the rule says of a view, after a step on a word, where the view holds another place or none
  fits_after : (logs logs' : ℕ → List E) (words : List ℕ) (word new : ℕ) (out j : ℕ) (v : V)
      → ((m : ℕ) → v.place ≡ Some m → ((m ≢ word) ⊎ (new ≡ 0)) × (logs' m ≡ logs m)) → ((m : ℕ) → Begins (logs' m) (logs m)) → word < length words → Fit logs words out j v → Fit logs' (set words word new) out j v
  fits_after logs logs' words word new out j v apart longer' near f = (
    (λ m p. let g = f.0 m p in let o = apart m p in (
      (let a : length (set words word new) ≡ length words = length-set words word new in let b = g.0 in omega arith),
      dite (ℕ_discrete m word)
          (λ e. ⊎_elim (λ (o : m ≢ word). absurd (o e)) (λ (z : new ≡ 0). ap (λ (y : ℕ). get_or (set words word new) y 0) e ∙ get_or-set_same words word new 0 near ∙ z) o.0)
          (λ o. get_or-set_other words word m new 0 o ∙ g.1),
      g.2,
      g.3 ∙ sym o.1,
    )),
    f.1,
    f.2,
    (λ m. (begins_further _ _ _ (longer' m) (f.3 m).0, begins_further _ _ _ (longer' m) (f.3 m).1)),
    f.4,
  )

  -- one view holds a place, where the view of the seat id goes over to a place that was free
  ones : (s : St) (r : Rule s) (id : ℕ) (v w : V) (word : ℕ) → get_elem? s.views id ≡ some v → w.place ≡ Some word → get_or s.words word 0 ≢ 0 → v.place ≡ None
      → (i j : ℕ) (d d' : V) (m : ℕ) → ((i ≡ id) × (w ≡ d)) ⊎ ((i ≢ id) × (get_elem? s.views i ≡ some d)) → ((j ≡ id) × (w ≡ d')) ⊎ ((j ≢ id) × (get_elem? s.views j ≡ some d')) → d.place ≡ Some m → d'.place ≡ Some m → i ≡ j
  ones s r id v w word at' wp idle empty i j d d' m (inl a) (inl b) p p' = a.0 ∙ sym b.0
  ones s r id v w word at' wp idle empty i j d d' m (inl a) (inr b) p p' =
      let is : word ≡ m = some_is word m (sym wp ∙ ap (λ (z : V). z.place) a.1 ∙ p) in absurd (idle (ap (λ (z : ℕ). get_or s.words z 0) is ∙ ((r.fits j d' b.1).0 m p').1))
  ones s r id v w word at' wp idle empty i j d d' m (inr a) (inl b) p p' =
      let is : word ≡ m = some_is word m (sym wp ∙ ap (λ (z : V). z.place) b.1 ∙ p') in absurd (idle (ap (λ (z : ℕ). get_or s.words z 0) is ∙ ((r.fits i d a.1).0 m p).1))
  ones s r id v w word at' wp idle empty i j d d' m (inr a) (inr b) p p' = r.one i j d d' m a.1 b.1 p p'

  pub tries : (slots id word : ℕ) (me : M) → word < slots → Live me.0 → me.0.place ≡ None → Allows Rule slots id me word (λ _. 0) (tried fact log (step slots word 0 0 none) me)
  tries slots id word me inside live empty s r wide at' _ =
      let n : ℕ = get_or s.words word 0 in let long : word < length s.words = (let a = r.as_many in omega arith) in let v : V = me.0 in
      dite (ℕ_discrete n 0)
      (λ busy. (
        v,
        keeps,
        tt,
        subst (λ (z : List ℕ × List V). Rule record { words = z.0; homes = s.homes; views = z.1 })
            (λ k. ((sym (set-get_or s.words word 0) ∙ ap (set s.words word) busy) k, sym (set_again s.views id v at') k)) r,
        ((λ idle. absurd (idle busy)), (λ _. refl)),
      ))
      (λ idle. let x = r.free word long idle in let w : V = holding v word (log x.0) in let words' : List ℕ = set s.words word 0 in let views' : List V = set s.views id w in
      let here : get_or words' word 0 ≡ 0 = get_or-set_same s.words word 0 0 long in
      let else' : (m : ℕ) → m ≢ word → get_or words' m 0 ≡ get_or s.words m 0 = λ m o. get_or-set_other s.words word m 0 0 o in
      let much : total lent views' ≡ total lent s.views = as_much lent s.views id v w at' refl in
      let longer' : length words' ≡ length s.words = length-set s.words word 0 in let f = r.fits id v at' in (
        w,
        takes word (Some x.0),
        x.1,
        record {
          logs = r.logs;
          as_many = longer' ∙ r.as_many ∙ sym (length-set s.homes word none);
          free = λ m near ne. let o : m ≢ word = λ e. ne (ap (λ (z : ℕ). get_or words' z 0) e ∙ here) in let h = r.free m (omega arith) (λ e. ne (else' m o ∙ e)) in (h.0, set_else s.homes word m none o ∙ h.1, h.2, h.3);
          taken = λ m near zero'. dite (ℕ_discrete m word) (λ e. (id, w, set_there s.views id v w at', ap Some (sym e)))
              (λ o. let h = r.taken m (omega arith) (sym (else' m o) ∙ zero') in
              dite (ℕ_discrete h.0 id) (λ e. some_none m (sym empty ∙ ap (λ (z : V). z.place) (at_one s.views id h.0 v h.1 at' e h.2) ∙ h.3))
              (λ apart. (h.0, h.1, set_else s.views id h.0 w apart ∙ h.2, h.3)));
          fits = λ j d e. subst (λ (z : ℕ). Fit r.logs words' z j d) (sym much)
              (each_set (λ (j : ℕ) (d : V). Fit r.logs words' (total lent s.views) j d) s.views id w
              (λ j d o e. fits_after r.logs r.logs s.words word 0 (total lent s.views) j d (λ m p. (inr refl, refl)) (λ m. begins_all (r.logs m)) long (r.fits j d e))
              ((λ m p. let is : word ≡ m = some_is word m p in ((let g : m < length words' = omega arith in g), ap (λ (z : ℕ). get_or words' z 0) (sym is) ∙ here, live.0, x.3 ∙ ap r.logs is)), f.1, f.2, f.3, f.4) j d e);
          one = λ i j d d' m e e' p p'. ones s r id v w word at' refl idle empty i j d d' m (at_set s.views id i w d e) (at_set s.views id j w d' e') p p';
          grown = r.grown;
          owned = λ m k. as_much (mine m k) s.views id v w at' refl ∙ r.owned m k;
        },
        ((λ _. let t = live.1 in (x.0, t.0, refl, refl, t.1, subst (λ (z : T). fact z word x.0) (sym (f.1 t.0 t.1).0) x.2, subst (λ (z : List E). Begins z (log_at v.known word)) (sym x.3) (f.3 word).0)), (λ busy. absurd (idle busy))),
      ))

  -- one view holds a place, where the view of the seat id goes over to none
  stays : (s : St) (r : Rule s) (id : ℕ) (w : V) → w.place ≡ None
      → (i j : ℕ) (d d' : V) (m : ℕ) → ((i ≡ id) × (w ≡ d)) ⊎ ((i ≢ id) × (get_elem? s.views i ≡ some d)) → ((j ≡ id) × (w ≡ d')) ⊎ ((j ≢ id) × (get_elem? s.views j ≡ some d')) → d.place ≡ Some m → d'.place ≡ Some m → i ≡ j
  stays s r id w none' i j d d' m (inl a) b p p' = some_none m (sym none' ∙ ap (λ (z : V). z.place) a.1 ∙ p)
  stays s r id w none' i j d d' m (inr a) (inl b) p p' = some_none m (sym none' ∙ ap (λ (z : V). z.place) b.1 ∙ p')
  stays s r id w none' i j d d' m (inr a) (inr b) p p' = r.one i j d d' m a.1 b.1 p p'

  pub releases : (slots id word new : ℕ) (v : V) (y : X) → new ≢ 0 → v.place ≡ Some word → ((t : T) × (v.topic ≡ Some t) × fact t word y) → Begins (log y) v.took → Live v
      → Allows Rule slots id (v, (word, Some y) ∷ []) word (λ _. new) (λ n. released log (step slots word new 0 none) (v, (word, Some y) ∷ []))
  releases slots id word new v y some_new mine' meets more live s r wide at' _ =
      let f = r.fits id v at' in let holds = f.0 word mine' in let w : V = giving v word (log y) in let words' : List ℕ = set s.words word new in let views' : List V = set s.views id w in
      let logs' : ℕ → List E = updated r.logs word (log y) in
      let homes' : List (maybe.Option (Option X)) = set s.homes word (some (Some y)) in let near : word < length s.words = holds.0 in let near' : word < length s.homes = (let a = r.as_many in omega arith) in
      let here : get_or words' word 0 ≡ new = get_or-set_same s.words word new 0 near in
      let longer' : length words' ≡ length s.words = length-set s.words word new in
      let was : v.took ≡ r.logs word = holds.3 in
      let further : (m : ℕ) → Begins (logs' m) (r.logs m) = λ m. dite (ℕ_discrete m word)
      (λ e. subst (λ (z : List E). Begins z (r.logs m)) (sym (updated_here r.logs word m (log y) e)) (subst (λ (z : List E). Begins (log y) z) (was ∙ ap r.logs (sym e)) more))
      (λ o. subst (λ (z : List E). Begins z (r.logs m)) (sym (updated_else r.logs word m (log y) o)) (begins_all (r.logs m))) in
      let much : total lent views' ≡ total lent s.views = as_much lent s.views id v w at' refl in (
        w,
        gives,
        tt,
        record {
          logs = logs';
          as_many = longer' ∙ r.as_many ∙ sym (length-set s.homes word (some (Some y)));
          free = λ m close ne. dite (ℕ_discrete m word)
              (λ e. (y, ap (get_elem? homes') e ∙ set_here s.homes word (some (Some y)) near', subst (λ (z : ℕ × T). fact z.1 z.0 y) (λ k. (sym e k, (f.1 meets.0 meets.1).0 k)) meets.2, sym (updated_here r.logs word m (log y) e)))
              (λ o. let h = r.free m (omega arith) (λ e. ne (get_or-set_other s.words word m new 0 o ∙ e)) in (h.0, set_else s.homes word m (some (Some y)) o ∙ h.1, h.2, h.3 ∙ sym (updated_else r.logs word m (log y) o)));
          taken = λ m close zero'. let o : m ≢ word = λ e. some_new (sym here ∙ ap (λ (z : ℕ). get_or words' z 0) (sym e) ∙ zero') in
              let h = r.taken m (omega arith) (sym (get_or-set_other s.words word m new 0 o) ∙ zero') in
              dite (ℕ_discrete h.0 id) (λ e. absurd (o (some_is m word (sym h.3 ∙ ap (λ (z : V). z.place) (sym (at_one s.views id h.0 v h.1 at' e h.2)) ∙ mine'))))
              (λ apart. (h.0, h.1, set_else s.views id h.0 w apart ∙ h.2, h.3));
          fits = λ j d e. subst (λ (z : ℕ). Fit logs' words' z j d) (sym much)
              (each_set (λ (j : ℕ) (d : V). Fit logs' words' (total lent s.views) j d) s.views id w
              (λ j d o e. fits_after r.logs logs' s.words word new (total lent s.views) j d
              (λ m p. let ne : m ≢ word = λ is. o (r.one j id d v word e at' (p ∙ ap Some is) mine') in (inl ne, updated_else r.logs word m (log y) ne)) further near (r.fits j d e)) (
                (λ m p. some_none m p),
                f.1,
                f.2,
                (λ m. (
                  dite (ℕ_discrete m word)
                      (λ e. subst (λ (z : List E × List E). Begins z.0 z.1) (λ k. (sym (updated_here r.logs word m (log y) e) k, sym (ap (log_at (put_at v.known word (log y))) e ∙ put_here v.known word (log y)) k)) (begins_all (log y)))
                      (λ o. subst (λ (z : List E). Begins (logs' m) z) (sym (put_else v.known word m (log y) o)) (begins_further _ _ _ (further m) (f.3 m).0)),
                  begins_further _ _ _ (further m) (f.3 m).1,
                )),
                (λ plain none'. ⊎_elim (λ (is : v.root ≡ true). absurd (cc)) (λ (is : v.lent ≡ 1). absurd (omega arith)) live.0),
              ) j d e);
          one = λ i j d d' m e e' p p'. stays s r id w refl i j d d' m (at_set s.views id i w d e) (at_set s.views id j w d' e') p p';
          grown = λ m. let a = r.grown m in let b = begins_length _ _ (further m) in omega arith;
          owned = λ m k. owns s r id v w word (log y) at' refl was more m k;
        },
        (λ y' e. λ k. (giving v word (log (held_is word y y' ((word, Some y) ∷ []) refl e k)), [])),
      )
    where
      owns : (s : St) (r : Rule s) (id : ℕ) (v w : V) (word : ℕ) (new : List E) → get_elem? s.views id ≡ some v → w ≡ giving v word new → v.took ≡ r.logs word → Begins new v.took
          → (m k : ℕ) → total (mine m k) (set s.views id w) ≡ times m k (run m (length (log_at first m)) (length (updated r.logs word new m) - length (log_at first m)))
      owns s r id v w word new at' is was more m k =
          let b : ℕ = length (log_at first m) in let l : ℕ = length (r.logs m) in let old : ℕ = length v.took in let d : ℕ = length new - old in
          let t = total_set (mine m k) s.views id v w at' in let h = r.owned m k in let g = r.grown m in let c = begins_length _ _ more in
          let own : mine m k w ≡ mine m k v + times m k (run word old d) = ap (mine m k) is ∙ times_append m k v.own (run word old d) in
          dite (ℕ_discrete m word)
          (λ e. let same : old ≡ l = ap length was ∙ ap (λ (z : ℕ). length (r.logs z)) (sym e) in
          let now : length (updated r.logs word new m) - b ≡ (l - b) + d = ap (λ (z : List E). length z - b) (updated_here r.logs word m new e) ∙ (omega arith) in
          let from : b + (l - b) ≡ old = omega arith in
          let parts : times m k (run m b (length (updated r.logs word new m) - b)) ≡ times m k (run m b (l - b)) + times m k (run m old d) =
          ap (λ (z : ℕ). times m k (run m b z)) now ∙ ap (times m k) (run_on m b (l - b) d) ∙ times_append m k (run m b (l - b)) (run m (b + (l - b)) d) ∙ ap (λ (z : ℕ). times m k (run m b (l - b)) + times m k (run m z d)) from in
          let there : times m k (run word old d) ≡ times m k (run m old d) = ap (λ (z : ℕ). times m k (run z old d)) (sym e) in
          omega arith)
          (λ o. let now : times m k (run m b (length (updated r.logs word new m) - b)) ≡ times m k (run m b (l - b)) = ap (λ (z : List E). times m k (run m b (length z - b))) (updated_else r.logs word m new o) in
          let none' = times_elsewhere word m k old d o in omega arith)

  pub releases_as : (slots id word new : ℕ) (me : M) (v : V) (y : X) → me ≡ (v, (word, Some y) ∷ []) → new ≢ 0 → v.place ≡ Some word → ((t : T) × (v.topic ≡ Some t) × fact t word y) → Begins (log y) v.took → Live v
      → Allows Rule slots id me word (λ _. new) (λ n. released log (step slots word new 0 none) me)
  releases_as slots id word new me v y is some_new mine' meets more live = subst (λ (me : M). Allows Rule slots id me word (λ _. new) (λ n. released log (step slots word new 0 none) me)) (sym is) (releases slots id word new v y some_new mine' meets more live)

  -- another count of the passes that are out matters to the root alone
  recount : (logs : ℕ → List E) (words : List ℕ) (out out' j : ℕ) (d : V) → (d.root ≡ true → ⊥) → Fit logs words out j d → Fit logs words out' j d
  recount logs words out out' j d plain' f = (f.0, f.1, (λ is. absurd (plain' is)), f.3, f.4)

  -- a seat other than the root's has no root's view
  plain : (s : St) (r : Rule s) (id : ℕ) (v : V) → get_elem? s.views id ≡ some v → v.root ≡ true → (j : ℕ) (d : V) → j ≢ id → get_elem? s.views j ≡ some d → d.root ≡ true → ⊥
  plain s r id v at' root j d o e is = o (((r.fits j d e).2 is).0 ∙ sym ((r.fits id v at').2 root).0)

  pub forks : (id : ℕ) (v : V) → v.root ≡ true → v.place ≡ None → Splits Rule id v (left_of v) (right_of v)
  forks id v root empty s r at' =
      let left : V = left_of v in let right : V = right_of v in let vs : List V = set s.views id left in
      let f = r.fits id v at' in let own = f.2 root in
      let more : total lent (vs ++ right ∷ []) ≡ total lent s.views + 1 = (let a = total_snoc lent vs right in let b = total_set lent s.views id v left at' in omega arith) in
      record {
        logs = r.logs;
        as_many = r.as_many;
        free = r.free;
        taken = λ m near z. let h = r.taken m near z in
            dite (ℕ_discrete h.0 id) (λ e. some_none m (sym empty ∙ ap (λ (z : V). z.place) (at_one s.views id h.0 v h.1 at' e h.2) ∙ h.3))
            (λ apart. (h.0, h.1, at_longer vs (right ∷ []) h.0 h.1 (set_else s.views id h.0 left apart ∙ h.2), h.3));
        fits = λ j d e. subst (λ (z : ℕ). Fit r.logs s.words z j d) (sym more) (⊎_elim
            (each_set (λ (j : ℕ) (d : V). Fit r.logs s.words (total lent s.views + 1) j d) s.views id left
            (λ j d o e. recount r.logs s.words (total lent s.views) (total lent s.views + 1) j d (plain s r id v at' root j d o e) (r.fits j d e))
            ((λ m p. some_none m (sym empty ∙ p)), f.1, (λ _. (own.0, own.1, ap (λ (z : ℕ). z + 1) own.2)), f.3, f.4) j d)
            (λ (is : right ≡ d). subst (λ (d : V). Fit r.logs s.words (total lent s.views + 1) j d) is
            ((λ m p. some_none m p), f.1, (λ p. absurd (cc)), (λ m. ((f.3 m).0, begins_none (r.logs m))), (λ _ _. refl)))
            (at_snoc vs right d j e));
        one = λ i j d d' m e e' p p'. ⊎_elim
            (λ (a : get_elem? vs i ≡ some d). ⊎_elim
            (λ (b : get_elem? vs j ≡ some d'). stays s r id left empty i j d d' m (at_set s.views id i left d a) (at_set s.views id j left d' b) p p')
            (λ (b : right ≡ d'). some_none m (ap (λ (z : V). z.place) b ∙ p')) (at_snoc vs right d' j e'))
            (λ (a : right ≡ d). some_none m (ap (λ (z : V). z.place) a ∙ p)) (at_snoc vs right d i e);
        grown = r.grown;
        owned = λ m k. let a = total_snoc (mine m k) vs right in let b = as_much (mine m k) s.views id v left at' refl in let c = r.owned m k in omega arith;
      }

  two_in : (s : St) (r : Rule s) (id : ℕ) (w : V) (other : ℕ) → w.place ≡ None
      → (i j : ℕ) (d d' : V) (m : ℕ) → ((i ≡ other) × (spent ≡ d)) ⊎ ((i ≢ other) × (get_elem? (set s.views id w) i ≡ some d)) → ((j ≡ other) × (spent ≡ d')) ⊎ ((j ≢ other) × (get_elem? (set s.views id w) j ≡ some d')) → d.place ≡ Some m → d'.place ≡ Some m → i ≡ j
  two_in s r id w other none' i j d d' m (inl a) b p p' = some_none m (ap (λ (z : V). z.place) a.1 ∙ p)
  two_in s r id w other none' i j d d' m (inr a) (inl b) p p' = some_none m (ap (λ (z : V). z.place) b.1 ∙ p')
  two_in s r id w other none' i j d d' m (inr a) (inr b) p p' = stays s r id w none' i j d d' m (at_set s.views id i w d a.1) (at_set s.views id j w d' b.1) p p'

  pub merges : (id : ℕ) (v : V) (other : ℕ) (w : V) → v.root ≡ true → v.place ≡ None → Live w → w.place ≡ None → Joins Rule id v other w (both_of v w) spent
  merges id v other w root empty live free' s r at' two atw =
      let both : V = both_of v w in let vs : List V = set s.views id both in let f = r.fits id v at' in let own = f.2 root in
      let atw' : get_elem? s.views other ≡ some w = sym (set_else s.views id other both two) ∙ atw in
      let lends : w.lent ≡ 1 = ⊎_elim (λ (is : w.root ≡ true). absurd (plain s r id v at' root other w two atw' is)) (λ (is : w.lent ≡ 1). is) live.0 in
      let less : total lent (set vs other spent) + 1 ≡ total lent s.views = (let a = total_set lent s.views id v both at' in let b = total_set lent vs other w spent atw in omega arith) in
      let n : ℕ = total lent (set vs other spent) in
      record {
        logs = r.logs;
        as_many = r.as_many;
        free = r.free;
        taken = λ m near z. let h = r.taken m near z in
            dite (ℕ_discrete h.0 id) (λ e. some_none m (sym empty ∙ ap (λ (z : V). z.place) (at_one s.views id h.0 v h.1 at' e h.2) ∙ h.3))
            (λ apart. dite (ℕ_discrete h.0 other) (λ e. some_none m (sym free' ∙ ap (λ (z : V). z.place) (at_one s.views other h.0 w h.1 atw' e h.2) ∙ h.3))
            (λ apart'. (h.0, h.1, set_else vs other h.0 spent apart' ∙ set_else s.views id h.0 both apart ∙ h.2, h.3)));
        fits = each_set (λ (j : ℕ) (d : V). Fit r.logs s.words n j d) vs other spent
            (λ j d _ e. each_set (λ (j : ℕ) (d : V). Fit r.logs s.words n j d) s.views id both
            (λ j d o e. recount r.logs s.words (total lent s.views) n j d (plain s r id v at' root j d o e) (r.fits j d e))
            ((λ m p. some_none m (sym empty ∙ p)), f.1, (λ _. (own.0, own.1, (let a = own.2 in omega arith))), (λ m. ((f.3 m).0, ((r.fits other w atw').3 m).0)), (λ never _. absurd (cc))) j d e)
            ((λ m p. some_none m p), (λ t p. some_none t p), (λ p. absurd (cc)), (λ m. (begins_none (r.logs m), begins_none (r.logs m))), (λ _ _. refl));
        one = λ i j d d' m e e' p p'. two_in s r id both other empty i j d d' m (at_set vs other i spent d e) (at_set vs other j spent d' e') p p';
        grown = r.grown;
        owned = λ m k. let a = total_set (mine m k) s.views id v both at' in let b = total_set (mine m k) vs other w spent atw in let c = times_append m k v.own w.own in let d = r.owned m k in omega arith;
      }

  pub looks : (slots id word : ℕ) (me : M) → Allows Rule slots id me word (λ n. n) (λ n. looked me)
  looks slots id word me s r wide at' _ =
      let v : V = me.0 in let w : V = merged v in let f = r.fits id v at' in let views' : List V = set s.views id w in
      let much : total lent views' ≡ total lent s.views = as_much lent s.views id v w at' refl in
      let known : (m : ℕ) → Begins (log_at w.known m) (log_at v.known m) × Begins (log_at w.known m) (log_at v.came m) × Begins (r.logs m) (log_at w.known m) =
      longest_begins r.logs v.known v.came (λ m. f.3 m) in (
        w,
        keeps,
        tt,
        subst (λ (z : List ℕ). Rule record { words = z; homes = s.homes; views = views' }) (sym (set-get_or s.words word 0)) record {
          logs = r.logs;
          as_many = r.as_many;
          free = r.free;
          taken = λ m near z. let h = r.taken m near z in
              dite (ℕ_discrete h.0 id) (λ e. (id, w, set_there s.views id v w at', ap (λ (z : V). z.place) (at_one s.views id h.0 v h.1 at' e h.2) ∙ h.3))
              (λ apart. (h.0, h.1, set_else s.views id h.0 w apart ∙ h.2, h.3));
          fits = λ j d e. subst (λ (z : ℕ). Fit r.logs s.words z j d) (sym much)
              (each_set (λ (j : ℕ) (d : V). Fit r.logs s.words (total lent s.views) j d) s.views id w (λ j d o e. r.fits j d e)
              (f.0, f.1, f.2, (λ m. ((known m).2, begins_none (r.logs m))), f.4) j d e);
          one = λ i j d d' m e e' p p'. as_one s r id v w at' refl i j d d' m (at_set s.views id i w d e) (at_set s.views id j w d' e') p p';
          grown = r.grown;
          owned = λ m k. as_much (mine m k) s.views id v w at' refl ∙ r.owned m k;
        },
        (refl, λ m. ((known m).0, (known m).1)),
      )
    where
      as_one : (s : St) (r : Rule s) (id : ℕ) (v w : V) → get_elem? s.views id ≡ some v → w.place ≡ v.place
          → (i j : ℕ) (d d' : V) (m : ℕ) → ((i ≡ id) × (w ≡ d)) ⊎ ((i ≢ id) × (get_elem? s.views i ≡ some d)) → ((j ≡ id) × (w ≡ d')) ⊎ ((j ≢ id) × (get_elem? s.views j ≡ some d')) → d.place ≡ Some m → d'.place ≡ Some m → i ≡ j
      as_one s r id v w at' same i j d d' m (inl a) (inl b) p p' = a.0 ∙ sym b.0
      as_one s r id v w at' same i j d d' m (inl a) (inr b) p p' = a.0 ∙ r.one id j v d' m at' b.1 (sym same ∙ ap (λ (z : V). z.place) a.1 ∙ p) p'
      as_one s r id v w at' same i j d d' m (inr a) (inl b) p p' = r.one i id d v m a.1 at' p (sym same ∙ ap (λ (z : V). z.place) b.1 ∙ p') ∙ sym b.0
      as_one s r id v w at' same i j d d' m (inr a) (inr b) p p' = r.one i j d d' m a.1 b.1 p p'

  -- at the end, where no pass is out, each value is at home, its log begins with what the root knows, and the root has the number of each entry since the start, once
  pub closes : (id : ℕ) (v : V) (t : T) (words : List ℕ) (slots : List (Option X)) → v.topic ≡ Some t → v.root ≡ true → v.place ≡ None → v.out ≡ 0 → Final (Seen Rule id v) words slots
      → (m : ℕ) → m < length slots → (x : X) × (get_elem? slots m ≡ some (Some x)) × fact t m x × Begins (log x) (log_at v.known m)
      × ((k : ℕ) → times m k v.own ≡ times m k (run m (get_or v.begun m 0) (length (log x) - get_or v.begun m 0)))
  closes id v t words slots names root empty whole (s, (r, at'), is, as_long, comes) m near =
      let f = r.fits id v at' in let own = f.2 root in let n : ℕ = get_or s.words m 0 in let near' : m < length s.words = (let a = r.as_many in omega arith) in
      let none_out : total lent s.views ≡ 0 = sym own.2 ∙ whole in
      let not_taken : n ≢ 0 = λ z. let h = r.taken m near' z in
      ⊎_elim (λ (root' : h.1.root ≡ true). let same : h.0 ≡ id = ((r.fits h.0 h.1 h.2).2 root').0 ∙ sym own.0 in some_none m (sym empty ∙ ap (λ (z : V). z.place) (at_one s.views id h.0 v h.1 at' same h.2) ∙ h.3))
      (λ (one' : h.1.lent ≡ 1). let le = total_has lent s.views h.0 h.1 h.2 in absurd (omega arith)) ((r.fits h.0 h.1 h.2).0 m h.3).2 in
      let h = r.free m near' not_taken in
      let begins' : get_or v.begun m 0 ≡ length (log_at first m) = ap (λ (z : List ℕ). get_or z m 0) (f.1 t names).1 ∙ lengths first m in (
        h.0,
        comes m (Some h.0) h.1,
        subst (λ (z : T). fact z m h.0) (sym (f.1 t names).0) h.2,
        subst (λ (z : List E). Begins z (log_at v.known m)) (sym h.3) (f.3 m).0,
        λ k. sym (total_one (mine m k) s.views id v at' (λ j d o e. let le = total_has lent s.views j d e in
            ap (λ (z : List (ℕ × ℕ)). times m k z) ((r.fits j d e).4 (no_root d.root (plain s r id v at' root j d o e)) (omega arith)))) ∙ r.owned m k
            ∙ (λ i. times m k (run m (sym begins' i) (length (sym h.3 i) - sym begins' i))),
      )
    where
      no_root : (b : Bool) → (b ≡ true → ⊥) → b ≡ false
      no_root true never = absurd (never refl)
      no_root false never = refl

      lengths : (logs : List (List E)) (m : ℕ) → get_or (map length logs) m 0 ≡ length (log_at logs m)
      lengths [] m = refl
      lengths (x ∷ xs) zero = refl
      lengths (x ∷ xs) (suc m) = lengths xs m

  -- at the start each value is at home, the root knows the logs, and no number stands in its own
  pub opens : (words : List ℕ) (slots : List (Option X)) (xs : List X) → words ≡ replicate (length xs) 1 → slots ≡ map Some xs → first ≡ map log xs → AllKept fact topic xs → Rule (opening words slots (root_view topic first))
  opens words slots xs ones' is starts kept = record {
    logs = log_at first;
    as_many = ap length ones' ∙ length-replicate (length xs) 1 ∙ sym (length-map slots some ∙ ap length is ∙ length-map xs Some);
    free = λ m near _. let x = inside xs m (let a = ap length ones' ∙ length-replicate (length xs) 1 in omega arith) in (
      x.0,
      ap (λ (z : List (Option X)). get_elem? (map some z) m) is ∙ at_map some (map Some xs) m (Some x.0) (at_map Some xs m x.0 x.1),
      kept m x.0 x.1,
      sym (ap (λ (z : List (List E)). log_at z m) starts ∙ logged xs m x.0 x.1),
    );
    taken = λ m near z. let n : ℕ = length xs in let ws : List ℕ = replicate n 1 in let long : length words ≡ n = ap length ones' ∙ length-replicate n 1 in let close : m < n = omega arith in
        let e : get_or ws m 0 ≡ 1 = get_or-replicate n m 1 0 close in let here : get_or words m 0 ≡ 1 = ap (λ (l : List ℕ). get_or l m 0) ones' ∙ e in absurd (omega arith);
    fits = λ j d e. only j d e (λ (j : ℕ) (d : V). Fit (log_at first) words 0 j d)
        ((λ m p. some_none m p), (λ t p. (sym (some_is topic t p), refl)), (λ _. (refl, refl, refl)), (λ m. (begins_all (log_at first m), begins_none (log_at first m))), (λ _ _. refl));
    one = λ i j d d' m e e' p p'. only i d e (λ (_ : ℕ) (d : V). i ≡ j) (some_none m (only i d e (λ (_ : ℕ) (d : V). None ≡ d.place) refl ∙ p));
    grown = λ m. omega arith;
    owned = λ m k. let b : ℕ = length (log_at first m) in let none' : b - b ≡ 0 = omega arith in sym (ap (λ (z : ℕ). times m k (run m b z)) none');
  }
    where
      inside : (xs : List X) (m : ℕ) → m < length xs → (x : X) × (get_elem? xs m ≡ some x)
      inside [] m near = absurd (omega arith)
      inside (x ∷ xs) zero near = (x, refl)
      inside (x ∷ xs) (suc m) near = inside xs m (omega arith)

      logged : (xs : List X) (m : ℕ) (x : X) → get_elem? xs m ≡ some x → log_at (map log xs) m ≡ log x
      logged [] m x e = absurd (some-ne-none x (sym e))
      logged (y ∷ ys) zero x e = ap log (some-injective y x e)
      logged (y ∷ ys) (suc m) x e = logged ys m x e

      only : (j : ℕ) (d : V) → get_elem? (root_view topic first ∷ []) j ≡ some d → (P : ℕ → V → Type 0) → P 0 (root_view topic first) → P j d
      only j d e P h = let is = only_one (root_view topic first) d j e in subst (λ (y : ℕ × V). P y.0 y.1) (λ i. (sym is.0 i, is.1 i)) h
