-- Why the heights that are found level by level are the least: a node's turn, the next level, and the end.
use Rattle.std.proofs.Common.{◌≡◌, refl, sym, ap, subst, ◌∙◌, ◌⊎◌, ◌+◌, ◌*◌, ◌<◌, ◌≤◌, ℕ, zero, suc, max, Bool, true, false, List, [], ◌∷◌, ◌++◌, length, get_or, replicate, Option, Some, None, arith, length-append, length-set, if◌then◌else◌, ◌==◌}
use Rattle.std.proofs.lemmas.List.Elements.{Contains-append_left, Contains-push, Contains-push_cases, Contains-get_or}
use mathlib.Core.Logic.{inl, inr}
use Rattle.std.proofs.lemmas.Bool.Decides.{nat_tests}
use Rattle.ix_height.specs.declared.edge.Edge.{Edge}
use Rattle.ix_height.specs.Work.{Work, risen, chosen, settled, is_ready, fired, visited, AreWithin}
use Rattle.ix_height.proofs.Settling.{fire, fired_weight, Touches, touches_keeps, raise_le}
use Rattle.ix_height.specs.Index.{IsIndex, edges_by}
use Rattle.ix_height.specs.Low.{raise, no_edge, Low, LowPart, by_edge, no_part, part, AreLeast}
use Rattle.ix_height.specs.Progress.{Has, PartOwed, Owed, missing, weight, Met, Progress, No}
use Rattle.std.specs.List.{Contains}

-- the first of a list, and those behind it
front : (n : ℕ) (ns : List ℕ) → Contains (n ∷ ns) n
front n ns = (0, omega arith, refl)

behind : (n : ℕ) (ns : List ℕ) (m : ℕ) → Contains ns m → Contains (n ∷ ns) m
behind n ns m h = (suc h.0, omega (arith, h.1), h.2)

front_or_behind : (n : ℕ) (ns : List ℕ) (m : ℕ) → Contains (n ∷ ns) m → (m ≡ n) ⊎ Contains ns m
front_or_behind n ns m h = go h.0 h.1 h.2
  where
    go : (k : ℕ) → k < length (n ∷ ns) → get_or (n ∷ ns) k m ≡ m → (m ≡ n) ⊎ Contains ns m
    go zero b e = inl (sym e)
    go (suc k) b e = inr (k, omega (arith, b), e)

module _ (edges : List Edge) (raised : List Bool) where
  abbrev up : ℕ → Bool
  up v = get_or raised v false

  abbrev at : ℕ → Edge
  at n = get_or edges n no_edge

  -- ---- the edges of a node

  module _ (within : AreWithin edges (length raised)) where
    pub visit : (level : ℕ) (ns : List ℕ) (w : Work) → ((k : ℕ) → Contains ns k → (k < length edges) × Touches edges raised level w.heights (at k)) →
        Progress edges raised level (λ n. Contains ns n) w → Progress edges raised level No (visited edges raised level ns w)
    visit level [] w each p = record { size = p.size; low = p.low; bound = p.bound; current = p.current; next = p.next; met = λ n h. go n (p.met n h) }
      where
        go : (n : ℕ) → Owed w (at n) ⊎ (Met edges raised w.heights (at n) ⊎ Contains [] n) → Owed w (at n) ⊎ (Met edges raised w.heights (at n) ⊎ ⊥)
        go n (inl h) = inl h
        go n (inr (inl h)) = inr (inl h)
        go n (inr (inr h)) = absurd (omega (arith, h.1))
    visit level (n ∷ ns) w each p =
        visit level ns (fired raised level (at n) w) (λ k h. let z = each k (behind n ns k h) in (z.0, touches_keeps edges raised level (at n) (at k) w z.1))
        (fire edges raised level (λ m. Contains (n ∷ ns) m) (λ m. Contains ns m) w n (each n (front n ns)).0 (within.to n (each n (front n ns)).0) (each n (front n ns)).1 (front_or_behind n ns) p)

    pub visit_weight : (level : ℕ) (ns : List ℕ) (w : Work) → ((k : ℕ) → Contains ns k → k < length edges) → length w.heights ≡ length raised → weight (visited edges raised level ns w) ≤ weight w
    visit_weight level [] w each size = omega arith
    visit_weight level (n ∷ ns) w each size =
        let a : (at n).to < length w.heights = subst (λ (z : ℕ). (at n).to < z) (sym size) (within.to n (each n (front n ns))) in
        omega (arith, fired_weight edges raised level (at n) w a, visit_weight level ns (fired raised level (at n) w) (λ k h. each k (behind n ns k h)) (fired_size level (at n) w ∙ size))
      where
        chosen_size : (x : Option ℕ) (b : Bool) (v level : ℕ) (w : Work) → length (chosen x b v level w).heights ≡ length w.heights
        chosen_size (Some y) b v level w = refl
        chosen_size None true v level w = length-set w.heights v (Some (level + 1))
        chosen_size None false v level w = length-set w.heights v (Some level)

        fired_size : (level : ℕ) (e : Edge) (w : Work) → length (fired raised level e w).heights ≡ length w.heights
        fired_size level e w = go (is_ready w.heights level e)
          where
            go : (b : Bool) → length (if b then settled (up e.to) e.to level w else w).heights ≡ length w.heights
            go true = chosen_size (get_or w.heights e.to None) (up e.to) e.to level w
            go false = refl

    -- a node is taken, and its edges are looked at
    pub turn : (starts numbers : List ℕ) → IsIndex edges raised starts numbers → (level v : ℕ) (heights : List (Option ℕ)) (current next : List ℕ) → Progress edges raised level No (record { heights = heights; current = current ++ v ∷ []; next = next }) →
        Progress edges raised level No (visited edges raised level (edges_by starts numbers v) (record { heights = heights; current = current; next = next }))
    turn starts numbers index level v heights current next p = visit level (edges_by starts numbers v) w touched taken
      where
        w : Work
        w = record { heights = heights; current = current; next = next }

        part_left : (o : Option ℕ) → PartOwed (record { heights = heights; current = current ++ v ∷ []; next = next }) o → PartOwed (record { heights = heights; current = current; next = next }) o ⊎ (o ≡ Some v)
        part_left None h = absurd h
        part_left (Some u) (inl h) = inl (inl h)
        part_left (Some u) (inr (inr h)) = inl (inr (inr h))
        part_left (Some u) (inr (inl h)) = go (Contains-push_cases current v u h)
          where
            go : Contains current u ⊎ (v ≡ u) → PartOwed (record { heights = heights; current = current; next = next }) (Some u) ⊎ (Some u ≡ Some v)
            go (inl k) = inl (inr (inl k))
            go (inr k) = inr (ap Some (sym k))

        taken : Progress edges raised level (λ n. Contains (edges_by starts numbers v) n) (record { heights = heights; current = current; next = next })
        taken = record { size = p.size; low = p.low; bound = p.bound; current = λ u h. p.current u (Contains-append_left current (v ∷ []) u h); next = p.next; met = mets }
          where
            mets : (n : ℕ) → n < length edges → Owed (record { heights = heights; current = current; next = next }) (at n) ⊎ (Met edges raised heights (at n) ⊎ Contains (edges_by starts numbers v) n)
            mets n h = go (p.met n h)
              where
                one_left : PartOwed (record { heights = heights; current = current; next = next }) (at n).one ⊎ ((at n).one ≡ Some v) → Owed (record { heights = heights; current = current; next = next }) (at n) ⊎ (Met edges raised heights (at n) ⊎ Contains (edges_by starts numbers v) n)
                one_left (inl k) = inl (inl k)
                one_left (inr k) = inr (inr (index.complete n v h (inl k)))

                two_left : PartOwed (record { heights = heights; current = current; next = next }) (at n).two ⊎ ((at n).two ≡ Some v) → Owed (record { heights = heights; current = current; next = next }) (at n) ⊎ (Met edges raised heights (at n) ⊎ Contains (edges_by starts numbers v) n)
                two_left (inl k) = inl (inr k)
                two_left (inr k) = inr (inr (index.complete n v h (inr k)))

                go : Owed (record { heights = heights; current = current ++ v ∷ []; next = next }) (at n) ⊎ (Met edges raised heights (at n) ⊎ ⊥) → Owed (record { heights = heights; current = current; next = next }) (at n) ⊎ (Met edges raised heights (at n) ⊎ Contains (edges_by starts numbers v) n)
                go (inl (inl k)) = one_left (part_left (at n).one k)
                go (inl (inr k)) = two_left (part_left (at n).two k)
                go (inr (inl k)) = inr (inl k)
                go (inr (inr k)) = absurd k

        touched : (k : ℕ) → Contains (edges_by starts numbers v) k → (k < length edges) × Touches edges raised level heights (at k)
        touched k h = let z = index.only k v h in (z.0, inr (v, z.1, p.current v (Contains-push current v)))

  -- ---- levels

  pub next_level : (level : ℕ) (heights : List (Option ℕ)) (next : List ℕ) → Progress edges raised level No (record { heights = heights; current = []; next = next }) → Progress edges raised (level + 1) No (record { heights = heights; current = next; next = [] })
  next_level level heights next p = record { size = p.size; low = p.low; bound = bounds; current = p.next; next = λ u h. absurd (omega (arith, h.1)); met = mets }
    where
      bounds : (v h : ℕ) → get_or heights v None ≡ Some h → (h ≤ level + 1) ⊎ ((h ≡ level + 1 + 1) × (up v ≡ true) × Contains [] v)
      bounds v h k = go (p.bound v h k)
        where
          go : (h ≤ level) ⊎ ((h ≡ level + 1) × (up v ≡ true) × Contains next v) → (h ≤ level + 1) ⊎ ((h ≡ level + 1 + 1) × (up v ≡ true) × Contains [] v)
          go (inl q) = inl (omega (arith, q))
          go (inr q) = inl (omega (arith, q.0))

      part_up : (o : Option ℕ) → PartOwed (record { heights = heights; current = []; next = next }) o → PartOwed (record { heights = heights; current = next; next = [] }) o
      part_up None h = h
      part_up (Some u) (inl h) = inl h
      part_up (Some u) (inr (inl h)) = absurd (omega (arith, h.1))
      part_up (Some u) (inr (inr h)) = inr (inl h)

      mets : (n : ℕ) → n < length edges → Owed (record { heights = heights; current = next; next = [] }) (at n) ⊎ (Met edges raised heights (at n) ⊎ ⊥)
      mets n h = go (p.met n h)
        where
          go : Owed (record { heights = heights; current = []; next = next }) (at n) ⊎ (Met edges raised heights (at n) ⊎ ⊥) → Owed (record { heights = heights; current = next; next = [] }) (at n) ⊎ (Met edges raised heights (at n) ⊎ ⊥)
          go (inl (inl k)) = inl (inl (part_up (at n).one k))
          go (inl (inr k)) = inl (inr (part_up (at n).two k))
          go (inr k) = inr k

  -- ---- the end

  module _ (level : ℕ) (heights : List (Option ℕ)) (p : Progress edges raised level No (record { heights = heights; current = []; next = [] })) where
    unowed : (o : Option ℕ) (h : ℕ) → Has heights o h → PartOwed (record { heights = heights; current = []; next = [] }) o → ⊥
    unowed None h a b = b
    unowed (Some u) h a (inl k) = cc (sym k ∙ a)
    unowed (Some u) h a (inr (inl k)) = omega (arith, k.1)
    unowed (Some u) h a (inr (inr k)) = omega (arith, k.1)

    one_height : (o : Option ℕ) (h k : ℕ) → Has heights o h → Has heights o k → h ≡ k
    one_height None h k a b = omega (arith, a, b)
    one_height (Some u) h k a b = cc (sym a ∙ b)

    mutual
      least_of : (v m : ℕ) → Low edges raised v m → (h : ℕ) × (get_or heights v None ≡ Some h) × (h ≤ m)
      least_of v m (by_edge _ _ n h1 h2 under to x y e) = settle (least_part (at n).one h1 x) (least_part (at n).two h2 y)
        where
          settle : (a1 : ℕ) × Has heights (at n).one a1 × (a1 ≤ h1) → (a2 : ℕ) × Has heights (at n).two a2 × (a2 ≤ h2) → (h : ℕ) × (get_or heights v None ≡ Some h) × (h ≤ m)
          settle (a1, b1, l1) (a2, b2, l2) = go (p.met n under)
            where
              go : Owed (record { heights = heights; current = []; next = [] }) (at n) ⊎ (Met edges raised heights (at n) ⊎ ⊥) → (h : ℕ) × (get_or heights v None ≡ Some h) × (h ≤ m)
              go (inl (inl k)) = absurd (unowed (at n).one a1 b1 k)
              go (inl (inr k)) = absurd (unowed (at n).two a2 b2 k)
              go (inr (inr k)) = absurd k
              go (inr (inl k)) =
                  let q1 : a1 ≡ k.first = one_height (at n).one a1 k.first b1 k.has_first in
                  let q2 : a2 ≡ k.second = one_height (at n).two a2 k.second b2 k.has_second in
                  let r : max k.first k.second ≤ max h1 h2 = omega (arith, q1, q2, l1, l2) in
                  let s : k.height ≤ raise (up v) (max h1 h2) = subst (λ (z : ℕ). k.height ≤ raise (up z) (max h1 h2)) to (omega (arith, k.low, raise_le edges raised (up (at n).to) (max k.first k.second) (max h1 h2) r)) in
                  (k.height, subst (λ (z : ℕ). get_or heights z None ≡ Some k.height) to k.has_height, omega (arith, s, e))

      least_part : (o : Option ℕ) (h : ℕ) → LowPart edges raised o h → (a : ℕ) × Has heights o a × (a ≤ h)
      least_part o h (no_part _ _ e k) = (0, subst (λ (z : Option ℕ). Has heights z 0) (sym e) refl, omega arith)
      least_part o h (part _ v _ e k) = let z = least_of v h k in (z.0, subst (λ (y : Option ℕ). Has heights y z.0) (sym e) z.1, z.2)

    pub at_end : AreLeast edges raised heights
    at_end = record { reached = p.low; least = least_of }

abbrev pub nothings : ℕ → List (Option ℕ)
nothings n = replicate n None

none_there : (n v : ℕ) → get_or (nothings n) v None ≡ None
none_there zero v = refl
none_there (suc n) zero = refl
none_there (suc n) (suc v) = none_there n v

all_missing : (n : ℕ) → missing (nothings n) ≡ n
all_missing zero = refl
all_missing (suc n) = omega (arith, all_missing n)

length_nothings : (n : ℕ) → length (nothings n) ≡ n
length_nothings zero = refl
length_nothings (suc n) = ap suc (length_nothings n)

pub at_start : (edges : List Edge) (raised : List Bool) (k : ℕ) → k ≡ 0 → Progress edges raised 0 (λ n. k ≤ n) (record { heights = nothings (length raised); current = []; next = [] })
at_start edges raised k z = record {
  size = length_nothings (length raised);
  low = λ v h e. absurd (cc (sym (none_there (length raised) v) ∙ e));
  bound = λ v h e. absurd (cc (sym (none_there (length raised) v) ∙ e));
  current = λ v h. absurd (omega (arith, h.1));
  next = λ v h. absurd (omega (arith, h.1));
  met = λ n h. inr (inr (omega (arith, z)));
}

pub start_weight : (n : ℕ) → weight (record { heights = nothings n; current = []; next = [] }) ≤ 3 * n
start_weight n = omega (arith, all_missing n)

pub all_seen : (edges : List Edge) (raised : List Bool) (k : ℕ) (w : Work) → length edges ≤ k → Progress edges raised 0 (λ n. k ≤ n) w → Progress edges raised 0 No w
all_seen edges raised k w h p = record { size = p.size; low = p.low; bound = p.bound; current = p.current; next = p.next; met = λ n i. go n i (p.met n i) }
  where
    go : (n : ℕ) → n < length edges → Owed w (get_or edges n no_edge) ⊎ (Met edges raised w.heights (get_or edges n no_edge) ⊎ (k ≤ n)) → Owed w (get_or edges n no_edge) ⊎ (Met edges raised w.heights (get_or edges n no_edge) ⊎ ⊥)
    go n i (inl q) = inl q
    go n i (inr (inl q)) = inr (inl q)
    go n i (inr (inr q)) = absurd (omega (arith, h, i, q))

pub next_edge : (k m : ℕ) → k ≤ m → (m ≡ k) ⊎ (k + 1 ≤ m)
next_edge k m h = grind (arith, h)

pub first_edge : (edges : List Edge) (raised : List Bool) (w : Work) (k : ℕ) → k < length edges → AreWithin edges (length raised) → Progress edges raised 0 (λ n. k ≤ n) w → Progress edges raised 0 (λ n. k + 1 ≤ n) (fired raised 0 (get_or edges k no_edge) w)
first_edge edges raised w k h within p = fire edges raised 0 (λ n. k ≤ n) (λ n. k + 1 ≤ n) w k h (within.to k h) (inl refl) (next_edge k) p

inside_of : (heights : List (Option ℕ)) (v x : ℕ) → get_or heights v None ≡ Some x → v < length heights
inside_of [] v x e = absurd (cc e)
inside_of (h ∷ heights) zero x e = omega arith
inside_of (h ∷ heights) (suc v) x e = omega (arith, inside_of heights v x e)

-- one turn of the loop: the node v is taken
module _ (edges : List Edge) (raised : List Bool) (starts numbers : List ℕ) (within : AreWithin edges (length raised)) (index : IsIndex edges raised starts numbers) (level v : ℕ) (w x : Work) (took : w ≡ record { heights = x.heights; current = x.current ++ v ∷ []; next = x.next }) (p : Progress edges raised level No w) where
  before : Progress edges raised level No (record { heights = x.heights; current = x.current ++ v ∷ []; next = x.next })
  before = subst (λ z. Progress edges raised level No z) took p

  pub node_inside : v < length raised
  node_inside = omega (arith, before.size, inside_of x.heights v level (before.current v (Contains-push x.current v)))

  pub after_turn : Progress edges raised level No (visited edges raised level (edges_by starts numbers v) x)
  after_turn = turn edges raised within starts numbers index level v x.heights x.current x.next before

  pub less_weight : weight (visited edges raised level (edges_by starts numbers v) x) + 1 ≤ weight w
  less_weight =
      let a : weight w ≡ weight (record { heights = x.heights; current = x.current ++ v ∷ []; next = x.next }) = ap weight took in
      omega (arith, a, length-append x.current (v ∷ []), visit_weight edges raised within level (edges_by starts numbers v) x (λ k h. (index.only k v h).0) before.size)

  pub numbers_inside : (some : List ℕ) → some ≡ edges_by starts numbers v → (k : ℕ) → k < length some → get_or some k 0 < length edges
  numbers_inside some e k h = (index.only (get_or some k 0) v (subst (λ z. Contains z (get_or some k 0)) e (Contains-get_or some k 0 h))).0

abbrev work : List (Option ℕ) → List ℕ → List ℕ → Work
work a b c = record { heights = a; current = b; next = c }

same_work : (a a' : List (Option ℕ)) (b b' c c' : List ℕ) → a' ≡ a → b ≡ b' → c' ≡ c → work a b c ≡ work a' b' c'
same_work a a' b b' c c' x y z = cc (x, y, z)

pub taken_as : (w x : Work) (v : ℕ) → x.heights ≡ w.heights → w.current ≡ x.current ++ v ∷ [] → x.next ≡ w.next → w ≡ record { heights = x.heights; current = x.current ++ v ∷ []; next = x.next }
taken_as w x v a b e = same_work w.heights x.heights w.current (x.current ++ v ∷ []) w.next x.next a b e

-- the next level, once no node of this one is left
pub rises : (edges : List Edge) (raised : List Bool) (level : ℕ) (w x y : Work) → x ≡ w → w.current ≡ [] → y ≡ risen x → Progress edges raised level No w → Progress edges raised (level + 1) No y
rises edges raised level w x y e a f p =
    let q : w ≡ record { heights = w.heights; current = []; next = w.next } = same_work w.heights w.heights w.current [] w.next w.next refl a refl in
    let r : y ≡ record { heights = w.heights; current = w.next; next = [] } = f ∙ ap risen e ∙ same_work w.heights w.heights w.next w.next w.current [] refl refl (sym a) in
    subst (λ z. Progress edges raised (level + 1) No z) (sym r) (next_level edges raised level w.heights w.next (subst (λ z. Progress edges raised level No z) q p))

pub risen_weight : (w x y : Work) → x ≡ w → w.current ≡ [] → y ≡ risen x → weight y + length x.next ≡ weight w
risen_weight w x y e a f = omega (arith, ap weight f, ap weight e, ap (λ (z : Work). length z.current) e, ap (λ (z : List ℕ). length z) a)

pub end_of : (edges : List Edge) (raised : List Bool) (level : ℕ) (w x : Work) → x ≡ w → w.current ≡ [] → x.next ≡ [] → Progress edges raised level No w → AreLeast edges raised x.heights
end_of edges raised level w x e a b p =
    let q : w ≡ record { heights = x.heights; current = []; next = [] } = same_work w.heights x.heights w.current [] w.next [] (ap (λ (z : Work). z.heights) e) a (sym b ∙ ap (λ (z : Work). z.next) e) in
    at_end edges raised level x.heights (subst (λ z. Progress edges raised level No z) q p)

pub empty_of : (xs : List ℕ) → true ≡ (length xs == 0) → xs ≡ []
empty_of [] h = refl
empty_of (x ∷ xs) h = absurd (grind (arith, nat_tests, h))
