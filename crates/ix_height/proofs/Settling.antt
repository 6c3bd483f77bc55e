-- A node gets its height by an edge, and what then holds of the work.
use Rattle.std.proofs.Common.{◌≡◌, ◌≢◌, refl, sym, ap, subst, ◌∙◌, ◌⊎◌, ◌+◌, ◌<◌, ◌≤◌, ℕ, zero, suc, max, Bool, true, false, ◌&&◌, List, [], ◌∷◌, ◌++◌, length, get_or, set, Option, Some, None, arith, nat_le, length-append, length-set, if◌then◌else◌}
use Rattle.std.proofs.lemmas.List.{get_or-set_same, get_or-set_other}
use Rattle.std.proofs.lemmas.List.Elements.{Contains-append_left, Contains-push, Contains-push_cases}
use mathlib.Core.Logic.{inl, inr}
use Rattle.std.proofs.lemmas.Bool.Decides.{nat_tests}
use Rattle.ix_height.specs.declared.edge.Edge.{Edge}
use Rattle.ix_height.specs.Work.{Work, chosen, settled, up_to, low_enough, is_ready, fired}
use Rattle.ix_height.specs.Low.{raise, no_edge, Low, LowPart, by_edge, no_part, part}
use Rattle.ix_height.specs.Progress.{Has, PartOwed, Owed, missing, weight, Met, Progress}
use Rattle.std.specs.List.{Contains}

same_or : (v u : ℕ) → (u ≡ v) ⊎ (u ≢ v)
same_or v u = grind arith

-- ---- what remains once a node has a height

missing_set : (heights : List (Option ℕ)) (v x : ℕ) → v < length heights → get_or heights v None ≡ None → missing (set heights v (Some x)) + 1 ≡ missing heights
missing_set [] v x h e = absurd (omega (arith, h))
missing_set (None ∷ heights) zero x h e = refl
missing_set (Some y ∷ heights) zero x h e = absurd (cc e)
missing_set (None ∷ heights) (suc v) x h e = omega (arith, missing_set heights v x (omega (arith, h)) e)
missing_set (Some y ∷ heights) (suc v) x h e = omega (arith, missing_set heights v x (omega (arith, h)) e)

-- ---- a new height

keeps : (heights : List (Option ℕ)) (v u x h : ℕ) → get_or heights v None ≡ None → get_or heights u None ≡ Some h → get_or (set heights v (Some x)) u None ≡ Some h
keeps heights v u x h e k = go (same_or v u)
  where
    go : (u ≡ v) ⊎ (u ≢ v) → get_or (set heights v (Some x)) u None ≡ Some h
    go (inl q) = absurd (cc (q, e, k))
    go (inr q) = get_or-set_other heights v u (Some x) None q ∙ k

has_keeps : (heights : List (Option ℕ)) (v x : ℕ) (o : Option ℕ) (h : ℕ) → get_or heights v None ≡ None → Has heights o h → Has (set heights v (Some x)) o h
has_keeps heights v x None h e k = k
has_keeps heights v x (Some u) h e k = keeps heights v u x h e k

module _ (edges : List Edge) (raised : List Bool) where
  abbrev up : ℕ → Bool
  up v = get_or raised v false

  abbrev at : ℕ → Edge
  at n = get_or edges n no_edge

  met_keeps : (heights : List (Option ℕ)) (v x : ℕ) (e : Edge) → get_or heights v None ≡ None → Met edges raised heights e → Met edges raised (set heights v (Some x)) e
  met_keeps heights v x e n m = record {
    height = m.height;
    first = m.first;
    second = m.second;
    has_height = keeps heights v e.to x m.height n m.has_height;
    has_first = has_keeps heights v x e.one m.first n m.has_first;
    has_second = has_keeps heights v x e.two m.second n m.has_second;
    low = m.low;
  }

  -- the work with the new height x of v
  module _ (w : Work) (v x : ℕ) (none : get_or w.heights v None ≡ None) (current next : List ℕ) (in_cur : (u : ℕ) → Contains w.current u → Contains current u) (in_nxt : (u : ℕ) → Contains w.next u → Contains next u) (fresh : Contains current v ⊎ Contains next v) where
    abbrev grown : Work
    grown = record { heights = set w.heights v (Some x); current = current; next = next }

    part_owed : (o : Option ℕ) → PartOwed w o → PartOwed grown o
    part_owed None h = h
    part_owed (Some u) (inl h) = go (same_or v u)
      where
        go : (u ≡ v) ⊎ (u ≢ v) → PartOwed grown (Some u)
        go (inl q) = inr (subst (λ (z : ℕ). Contains current z ⊎ Contains next z) (sym q) fresh)
        go (inr q) = inl (get_or-set_other w.heights v u (Some x) None q ∙ h)
    part_owed (Some u) (inr (inl h)) = inr (inl (in_cur u h))
    part_owed (Some u) (inr (inr h)) = inr (inr (in_nxt u h))

    owed : (e : Edge) → Owed w e → Owed grown e
    owed e (inl h) = inl (part_owed e.one h)
    owed e (inr h) = inr (part_owed e.two h)

    met_grown : (Open : ℕ → Type 0) (n : ℕ) → Owed w (at n) ⊎ (Met edges raised w.heights (at n) ⊎ Open n) → Owed grown (at n) ⊎ (Met edges raised grown.heights (at n) ⊎ Open n)
    met_grown Open n (inl h) = inl (owed (at n) h)
    met_grown Open n (inr (inl h)) = inr (inl (met_keeps w.heights v x (at n) none h))
    met_grown Open n (inr (inr h)) = inr (inr h)

  module _ (level : ℕ) (Open : ℕ → Type 0) (w : Work) (p : Progress edges raised level Open w) where
    -- a node that has no height gets one
    grow : (v : ℕ) (b : Bool) → v < length w.heights → get_or w.heights v None ≡ None → up v ≡ b → Low edges raised v (raise b level) → Progress edges raised level Open (chosen None b v level w)
    grow v false h none is_up low = record {
      size = length-set w.heights v (Some level) ∙ p.size;
      low = lows;
      bound = bounds;
      current = curs;
      next = λ u k. keeps w.heights v u level (level + 1) none (p.next u k);
      met = λ n k. met_grown w v level none (w.current ++ v ∷ []) w.next (λ u. Contains-append_left w.current (v ∷ []) u) (λ u q. q) (inl (Contains-push w.current v)) Open n (p.met n k);
    }
      where
        old : (u x : ℕ) → u ≢ v → get_or (set w.heights v (Some level)) u None ≡ Some x → get_or w.heights u None ≡ Some x
        old u x q k = sym (get_or-set_other w.heights v u (Some level) None q) ∙ k

        here : (u x : ℕ) → u ≡ v → get_or (set w.heights v (Some level)) u None ≡ Some x → x ≡ level
        here u x q k = let z : get_or (set w.heights v (Some level)) v None ≡ Some level = get_or-set_same w.heights v (Some level) None h in cc (q, k, z)

        lows : (u x : ℕ) → get_or (set w.heights v (Some level)) u None ≡ Some x → Low edges raised u x
        lows u x k = go (same_or v u)
          where
            go : (u ≡ v) ⊎ (u ≢ v) → Low edges raised u x
            go (inl q) = subst (λ (z : ℕ). Low edges raised z x) (sym q) (subst (λ (z : ℕ). Low edges raised v z) (sym (here u x q k)) low)
            go (inr q) = p.low u x (old u x q k)

        bounds : (u x : ℕ) → get_or (set w.heights v (Some level)) u None ≡ Some x → (x ≤ level) ⊎ ((x ≡ level + 1) × (up u ≡ true) × Contains w.next u)
        bounds u x k = go (same_or v u)
          where
            go : (u ≡ v) ⊎ (u ≢ v) → (x ≤ level) ⊎ ((x ≡ level + 1) × (up u ≡ true) × Contains w.next u)
            go (inl q) = inl (omega (arith, here u x q k))
            go (inr q) = p.bound u x (old u x q k)

        curs : (u : ℕ) → Contains (w.current ++ v ∷ []) u → get_or (set w.heights v (Some level)) u None ≡ Some level
        curs u k = go (Contains-push_cases w.current v u k)
          where
            go : Contains w.current u ⊎ (v ≡ u) → get_or (set w.heights v (Some level)) u None ≡ Some level
            go (inl q) = keeps w.heights v u level level none (p.current u q)
            go (inr q) = subst (λ (z : ℕ). get_or (set w.heights v (Some level)) z None ≡ Some level) q (get_or-set_same w.heights v (Some level) None h)
    grow v true h none is_up low = record {
      size = length-set w.heights v (Some (level + 1)) ∙ p.size;
      low = lows;
      bound = bounds;
      current = λ u k. keeps w.heights v u (level + 1) level none (p.current u k);
      next = nxts;
      met = λ n k. met_grown w v (level + 1) none w.current (w.next ++ v ∷ []) (λ u q. q) (λ u. Contains-append_left w.next (v ∷ []) u) (inr (Contains-push w.next v)) Open n (p.met n k);
    }
      where
        old : (u x : ℕ) → u ≢ v → get_or (set w.heights v (Some (level + 1))) u None ≡ Some x → get_or w.heights u None ≡ Some x
        old u x q k = sym (get_or-set_other w.heights v u (Some (level + 1)) None q) ∙ k

        here : (u x : ℕ) → u ≡ v → get_or (set w.heights v (Some (level + 1))) u None ≡ Some x → x ≡ level + 1
        here u x q k = let z : get_or (set w.heights v (Some (level + 1))) v None ≡ Some (level + 1) = get_or-set_same w.heights v (Some (level + 1)) None h in cc (q, k, z)

        lows : (u x : ℕ) → get_or (set w.heights v (Some (level + 1))) u None ≡ Some x → Low edges raised u x
        lows u x k = go (same_or v u)
          where
            go : (u ≡ v) ⊎ (u ≢ v) → Low edges raised u x
            go (inl q) = subst (λ (z : ℕ). Low edges raised z x) (sym q) (subst (λ (z : ℕ). Low edges raised v z) (sym (here u x q k)) low)
            go (inr q) = p.low u x (old u x q k)

        bounds : (u x : ℕ) → get_or (set w.heights v (Some (level + 1))) u None ≡ Some x → (x ≤ level) ⊎ ((x ≡ level + 1) × (up u ≡ true) × Contains (w.next ++ v ∷ []) u)
        bounds u x k = go (same_or v u)
          where
            kept : (x ≤ level) ⊎ ((x ≡ level + 1) × (up u ≡ true) × Contains w.next u) → (x ≤ level) ⊎ ((x ≡ level + 1) × (up u ≡ true) × Contains (w.next ++ v ∷ []) u)
            kept (inl q) = inl q
            kept (inr q) = inr (q.0, q.1, Contains-append_left w.next (v ∷ []) u q.2)

            go : (u ≡ v) ⊎ (u ≢ v) → (x ≤ level) ⊎ ((x ≡ level + 1) × (up u ≡ true) × Contains (w.next ++ v ∷ []) u)
            go (inl q) = inr (here u x q k, subst (λ (z : ℕ). up z ≡ true) (sym q) is_up, subst (λ (z : ℕ). Contains (w.next ++ v ∷ []) z) (sym q) (Contains-push w.next v))
            go (inr q) = kept (p.bound u x (old u x q k))

        nxts : (u : ℕ) → Contains (w.next ++ v ∷ []) u → get_or (set w.heights v (Some (level + 1))) u None ≡ Some (level + 1)
        nxts u k = go (Contains-push_cases w.next v u k)
          where
            go : Contains w.next u ⊎ (v ≡ u) → get_or (set w.heights v (Some (level + 1))) u None ≡ Some (level + 1)
            go (inl q) = keeps w.heights v u (level + 1) (level + 1) none (p.next u q)
            go (inr q) = subst (λ (z : ℕ). get_or (set w.heights v (Some (level + 1))) z None ≡ Some (level + 1)) q (get_or-set_same w.heights v (Some (level + 1)) None h)

    -- an edge that was looked at
    close : (Less : ℕ → Type 0) (n : ℕ) → ((m : ℕ) → Open m → (m ≡ n) ⊎ Less m) → Owed w (at n) ⊎ Met edges raised w.heights (at n) → Progress edges raised level Less w
    close Less n fewer seen = record { size = p.size; low = p.low; bound = p.bound; current = p.current; next = p.next; met = λ m k. go m (p.met m k) }
      where
        this : (m : ℕ) → m ≡ n → Owed w (at n) ⊎ Met edges raised w.heights (at n) → Owed w (at m) ⊎ (Met edges raised w.heights (at m) ⊎ Less m)
        this m e (inl h) = inl (subst (λ (z : ℕ). Owed w (at z)) (sym e) h)
        this m e (inr h) = inr (inl (subst (λ (z : ℕ). Met edges raised w.heights (at z)) (sym e) h))

        still : (m : ℕ) → (m ≡ n) ⊎ Less m → Owed w (at m) ⊎ (Met edges raised w.heights (at m) ⊎ Less m)
        still m (inl e) = this m e seen
        still m (inr e) = inr (inr e)

        go : (m : ℕ) → Owed w (at m) ⊎ (Met edges raised w.heights (at m) ⊎ Open m) → Owed w (at m) ⊎ (Met edges raised w.heights (at m) ⊎ Less m)
        go m (inl h) = inl h
        go m (inr (inl h)) = inr (inl h)
        go m (inr (inr h)) = still m (fewer m h)

    not_low : (o : Option ℕ) → low_enough w.heights level o ≡ false → PartOwed w o
    not_low None e = absurd (cc e)
    not_low (Some u) e = go (get_or w.heights u None) refl
      where
        higher : (h : ℕ) → get_or w.heights u None ≡ Some h → nat_le h level ≡ false → (h ≤ level) ⊎ ((h ≡ level + 1) × (up u ≡ true) × Contains w.next u) → PartOwed w (Some u)
        higher h k q (inl r) = absurd (grind (arith, nat_tests, q, r))
        higher h k q (inr r) = inr (inr r.2)

        go : (x : Option ℕ) → get_or w.heights u None ≡ x → PartOwed w (Some u)
        go None k = inl k
        go (Some h) k = higher h k (sym (ap (up_to level) k) ∙ e) (p.bound u h k)

    is_low : (o : Option ℕ) → low_enough w.heights level o ≡ true → (h : ℕ) × Has w.heights o h × (h ≤ level) × LowPart edges raised o h
    is_low None e = (0, refl, omega arith, no_part None 0 refl refl)
    is_low (Some u) e = go (get_or w.heights u None) refl
      where
        go : (x : Option ℕ) → get_or w.heights u None ≡ x → (h : ℕ) × Has w.heights (Some u) h × (h ≤ level) × LowPart edges raised (Some u) h
        go None k = absurd (cc (sym (ap (up_to level) k) ∙ e))
        go (Some h) k = let q : nat_le h level ≡ true = sym (ap (up_to level) k) ∙ e in (h, k, grind (arith, nat_tests, q), part (Some u) u h refl (p.low u h k))

  -- ---- one edge

  -- it comes by a node of this level, or this level is the lowest
  abbrev pub Touches : ℕ → List (Option ℕ) → Edge → Type 0
  Touches level heights e = (level ≡ 0) ⊎ ((v : ℕ) × ((e.one ≡ Some v) ⊎ (e.two ≡ Some v)) × (get_or heights v None ≡ Some level))

  top : (level : ℕ) (heights : List (Option ℕ)) (e : Edge) (h1 h2 : ℕ) → Touches level heights e → Has heights e.one h1 → Has heights e.two h2 → level ≤ max h1 h2
  top level heights e h1 h2 (inl q) a b = omega (arith, q)
  top level heights e h1 h2 (inr (v, inl q, k)) a b =
      let z : get_or heights v None ≡ Some h1 = subst (λ (o : Option ℕ). Has heights o h1) q a in
      let y : h1 ≡ level = cc (z, k) in
      omega (arith, y)
  top level heights e h1 h2 (inr (v, inr q, k)) a b =
      let z : get_or heights v None ≡ Some h2 = subst (λ (o : Option ℕ). Has heights o h2) q b in
      let y : h2 ≡ level = cc (z, k) in
      omega (arith, y)

  chosen_keeps : (x : Option ℕ) (b : Bool) (v level u h : ℕ) (w : Work) → get_or w.heights v None ≡ x → get_or w.heights u None ≡ Some h → get_or (chosen x b v level w).heights u None ≡ Some h
  chosen_keeps (Some y) b v level u h w e k = k
  chosen_keeps None true v level u h w e k = keeps w.heights v u (level + 1) h e k
  chosen_keeps None false v level u h w e k = keeps w.heights v u level h e k

  pub fired_keeps : (level : ℕ) (e : Edge) (w : Work) (u h : ℕ) → get_or w.heights u None ≡ Some h → get_or (fired raised level e w).heights u None ≡ Some h
  fired_keeps level e w u h k = go (is_ready w.heights level e)
    where
      go : (b : Bool) → get_or (if b then settled (up e.to) e.to level w else w).heights u None ≡ Some h
      go true = chosen_keeps (get_or w.heights e.to None) (up e.to) e.to level u h w refl k
      go false = k

  pub touches_keeps : (level : ℕ) (e f : Edge) (w : Work) → Touches level w.heights f → Touches level (fired raised level e w).heights f
  touches_keeps level e f w (inl q) = inl q
  touches_keeps level e f w (inr (v, q, k)) = inr (v, q, fired_keeps level e w v level k)

  chosen_weight : (x : Option ℕ) (b : Bool) (v level : ℕ) (w : Work) → get_or w.heights v None ≡ x → v < length w.heights → weight (chosen x b v level w) ≤ weight w
  chosen_weight (Some y) b v level w e h = omega arith
  chosen_weight None true v level w e h = omega (arith, missing_set w.heights v (level + 1) h e, length-append w.next (v ∷ []))
  chosen_weight None false v level w e h = omega (arith, missing_set w.heights v level h e, length-append w.current (v ∷ []))

  pub fired_weight : (level : ℕ) (e : Edge) (w : Work) → e.to < length w.heights → weight (fired raised level e w) ≤ weight w
  fired_weight level e w h = go (is_ready w.heights level e)
    where
      go : (b : Bool) → weight (if b then settled (up e.to) e.to level w else w) ≤ weight w
      go true = chosen_weight (get_or w.heights e.to None) (up e.to) e.to level w refl h
      go false = omega arith

  and_true : (a b : Bool) → (a && b) ≡ true → (a ≡ true) × (b ≡ true)
  and_true true b e = (refl, e)
  and_true false b e = absurd (cc e)

  and_false : (a b : Bool) → (a && b) ≡ false → (a ≡ false) ⊎ (b ≡ false)
  and_false true b e = inr e
  and_false false b e = inl refl

  pub raise_le : (b : Bool) (m n : ℕ) → m ≤ n → raise b m ≤ raise b n
  raise_le true m n h = omega (arith, h)
  raise_le false m n h = h

  raise_up : (b : Bool) (n : ℕ) → n ≤ raise b n
  raise_up true n = omega arith
  raise_up false n = omega arith

  pub fire : (level : ℕ) (Open Less : ℕ → Type 0) (w : Work) (n : ℕ) → n < length edges → (at n).to < length raised → Touches level w.heights (at n) → ((m : ℕ) → Open m → (m ≡ n) ⊎ Less m) →
      Progress edges raised level Open w → Progress edges raised level Less (fired raised level (at n) w)
  fire level Open Less w n under inside touch fewer p = go (is_ready w.heights level (at n)) refl
    where
      e : Edge
      e = at n

      unready : (low_enough w.heights level (at n).one ≡ false) ⊎ (low_enough w.heights level (at n).two ≡ false) → Owed w (at n)
      unready (inl h) = inl (not_low level Open w p (at n).one h)
      unready (inr h) = inr (not_low level Open w p (at n).two h)

      ready : (h1 : ℕ) × Has w.heights (at n).one h1 × (h1 ≤ level) × LowPart edges raised (at n).one h1 → (h2 : ℕ) × Has w.heights (at n).two h2 × (h2 ≤ level) × LowPart edges raised (at n).two h2 →
          Progress edges raised level Less (settled (up (at n).to) (at n).to level w)
      ready (h1, a, l1, x) (h2, b, l2, y) = on (get_or w.heights (at n).to None) refl (up (at n).to) refl
        where
          full : level ≡ max h1 h2
          full = omega (arith, l1, l2, top level w.heights (at n) h1 h2 touch a b)

          reached : Low edges raised (at n).to (raise (up (at n).to) level)
          reached = by_edge (at n).to (raise (up (at n).to) level) n h1 h2 under refl x y (ap (raise (up (at n).to)) full)

          low_as : (h : ℕ) → (h ≤ level) ⊎ ((h ≡ level + 1) × (up (at n).to ≡ true) × Contains w.next (at n).to) → h ≤ raise (up (at n).to) (max h1 h2)
          low_as h (inl q) = omega (arith, q, full, raise_up (up (at n).to) (max h1 h2))
          low_as h (inr q) = let z : raise (up (at n).to) (max h1 h2) ≡ max h1 h2 + 1 = ap (λ (c : Bool). raise c (max h1 h2)) q.1 in omega (arith, q.0, full, z)

          on : (x : Option ℕ) → get_or w.heights (at n).to None ≡ x → (c : Bool) → up (at n).to ≡ c → Progress edges raised level Less (chosen x c (at n).to level w)
          on (Some h) k c r = close level Open w p Less n fewer (inr (record { height = h; first = h1; second = h2; has_height = k; has_first = a; has_second = b; low = low_as h (p.bound (at n).to h k) }))
          on None k c r =
              close level Open (chosen None c (at n).to level w) (grow level Open w p (at n).to c (subst (λ (z : ℕ). (at n).to < z) (sym p.size) inside) k r (subst (λ (z : Bool). Low edges raised (at n).to (raise z level)) r reached)) Less n fewer (inr (fresh c r))
            where
              bound : (at n).to < length w.heights
              bound = subst (λ (z : ℕ). (at n).to < z) (sym p.size) inside

              fresh : (c : Bool) → up (at n).to ≡ c → Met edges raised (chosen None c (at n).to level w).heights (at n)
              fresh true r = record {
                height = level + 1;
                first = h1;
                second = h2;
                has_height = get_or-set_same w.heights (at n).to (Some (level + 1)) None bound;
                has_first = has_keeps w.heights (at n).to (level + 1) (at n).one h1 k a;
                has_second = has_keeps w.heights (at n).to (level + 1) (at n).two h2 k b;
                low = let z : raise (up (at n).to) (max h1 h2) ≡ max h1 h2 + 1 = ap (λ (c : Bool). raise c (max h1 h2)) r in omega (arith, full, z);
              }
              fresh false r = record {
                height = level;
                first = h1;
                second = h2;
                has_height = get_or-set_same w.heights (at n).to (Some level) None bound;
                has_first = has_keeps w.heights (at n).to level (at n).one h1 k a;
                has_second = has_keeps w.heights (at n).to level (at n).two h2 k b;
                low = omega (arith, full, raise_up (up (at n).to) (max h1 h2));
              }

      go : (b : Bool) → is_ready w.heights level (at n) ≡ b → Progress edges raised level Less (if b then settled (up (at n).to) (at n).to level w else w)
      go false q = close level Open w p Less n fewer (inl (unready (and_false _ _ q)))
      go true q = let z = and_true _ _ q in ready (is_low level Open w p (at n).one z.0) (is_low level Open w p (at n).two z.1)
