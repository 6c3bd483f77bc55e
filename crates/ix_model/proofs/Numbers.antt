-- Each slot is of a rule, an alternative and a dot that are there.
use Rattle.std.proofs.Common.{◌≡◌, refl, ap, sym, ◌∙◌, ◌⊎◌, ◌+◌, ◌≤◌, ◌<◌, ℕ, zero, suc, List, [], ◌∷◌, ◌++◌, length, Some, arith, slice_get}
use Rattle.std.proofs.lemmas.Option.{slice_get_within}
use mathlib.Core.Logic.{inl, inr}
use Rattle.ix_model.specs.declared.rules.Line.{Line}
use Rattle.ix_model.specs.declared.rules.Flat.{Flat}
use Rattle.ix_model.specs.declared.plan.SlotInfo.{SlotInfo}
use Rattle.ix_model.specs.Expansion.Numbering.{slot, dots_from, alts_from, rules_from}

-- what stands in two lists one behind the other stands in the first, or as far behind it in the second
pub get_split : {X : Type 0} (xs ys : List X) (n : ℕ) (x : X) → slice_get (xs ++ ys) n ≡ Some x → (slice_get xs n ≡ Some x) ⊎ ((m : ℕ) × (n ≡ length xs + m) × (slice_get ys m ≡ Some x))
get_split [] ys n x e = inr (n, omega arith, e)
get_split (y ∷ xs) ys zero x e = inl e
get_split (y ∷ xs) ys (suc n) x e = go (get_split xs ys n x e)
  where
    go : (slice_get xs n ≡ Some x) ⊎ ((m : ℕ) × (n ≡ length xs + m) × (slice_get ys m ≡ Some x)) → (slice_get xs n ≡ Some x) ⊎ ((m : ℕ) × (suc n ≡ length (y ∷ xs) + m) × (slice_get ys m ≡ Some x))
    go (inl h) = inl h
    go (inr h) = inr (h.0, omega (arith, h.1), h.2)

pub same_info : (x y : SlotInfo) → Some x ≡ Some y → x ≡ y
same_info x y e = cc e

-- a slot of an alternative
pub dots_in : (r a d n m : ℕ) (s : SlotInfo) → slice_get (dots_from r a d n) m ≡ Some s → (s.head ≡ r) × (s.alt ≡ a) × (s.dot ≡ d + m) × (m ≤ n)
dots_in r a d zero zero s e =
    let q = same_info (slot r a d) s e in
    (sym (ap (λ (z : SlotInfo). z.head) q), sym (ap (λ (z : SlotInfo). z.alt) q), omega (arith, ap (λ (z : SlotInfo). z.dot) q), omega arith)
dots_in r a d zero (suc m) s e = absurd (cc e)
dots_in r a d (suc n) zero s e =
    let q = same_info (slot r a d) s e in
    (sym (ap (λ (z : SlotInfo). z.head) q), sym (ap (λ (z : SlotInfo). z.alt) q), omega (arith, ap (λ (z : SlotInfo). z.dot) q), omega arith)
dots_in r a d (suc n) (suc m) s e =
    let h = dots_in r a (d + 1) n m s e in
    (h.0, h.1, omega (arith, h.2), omega (arith, h.3))

-- a slot of these alternatives
pub alts_in : (r a : ℕ) (xs : List Line) (m : ℕ) (s : SlotInfo) → slice_get (alts_from r a xs) m ≡ Some s → (k : ℕ) × (s.head ≡ r) × (s.alt ≡ a + k) × (line : Line) × (slice_get xs k ≡ Some line) × (s.dot ≤ length line.syms)
alts_in r a [] m s e = absurd (cc e)
alts_in r a (x ∷ xs) m s e = go (λ l h. alts_in r (a + 1) xs l s h) (get_split (dots_from r a 0 (length x.syms)) (alts_from r (a + 1) xs) m s e)
  where
    go : ((l : ℕ) → slice_get (alts_from r (a + 1) xs) l ≡ Some s → (k : ℕ) × (s.head ≡ r) × (s.alt ≡ a + 1 + k) × (line : Line) × (slice_get xs k ≡ Some line) × (s.dot ≤ length line.syms)) →
        (slice_get (dots_from r a 0 (length x.syms)) m ≡ Some s) ⊎ ((l : ℕ) × (m ≡ length (dots_from r a 0 (length x.syms)) + l) × (slice_get (alts_from r (a + 1) xs) l ≡ Some s)) → (k : ℕ) × (s.head ≡ r) × (s.alt ≡ a + k) × (line : Line) × (slice_get (x ∷ xs) k ≡ Some line) × (s.dot ≤ length line.syms)
    go more (inl h) =
        let d = dots_in r a 0 (length x.syms) m s h in
        (zero, d.0, omega (arith, d.1), x, refl, omega (arith, d.2, d.3))
    go more (inr h) =
        let d = more h.0 h.2 in
        (suc d.0, d.1, omega (arith, d.2), d.3, d.4, d.5)

-- a slot of these rules
pub rules_in : (r : ℕ) (fs : List Flat) (m : ℕ) (s : SlotInfo) → slice_get (rules_from r fs) m ≡ Some s → (k : ℕ) × (s.head ≡ r + k) × (flat : Flat) × (slice_get fs k ≡ Some flat) × (line : Line) × (slice_get flat.lines s.alt ≡ Some line) × (s.dot ≤ length line.syms)
rules_in r [] m s e = absurd (cc e)
rules_in r (f ∷ fs) m s e = go (λ l h. rules_in (r + 1) fs l s h) (get_split (alts_from r 0 f.lines) (rules_from (r + 1) fs) m s e)
  where
    go : ((l : ℕ) → slice_get (rules_from (r + 1) fs) l ≡ Some s → (k : ℕ) × (s.head ≡ r + 1 + k) × (flat : Flat) × (slice_get fs k ≡ Some flat) × (line : Line) × (slice_get flat.lines s.alt ≡ Some line) × (s.dot ≤ length line.syms)) →
        (slice_get (alts_from r 0 f.lines) m ≡ Some s) ⊎ ((l : ℕ) × (m ≡ length (alts_from r 0 f.lines) + l) × (slice_get (rules_from (r + 1) fs) l ≡ Some s)) → (k : ℕ) × (s.head ≡ r + k) × (flat : Flat) × (slice_get (f ∷ fs) k ≡ Some flat) × (line : Line) × (slice_get flat.lines s.alt ≡ Some line) × (s.dot ≤ length line.syms)
    go more (inl h) =
        let d = alts_in r 0 f.lines m s h in
        (zero, omega (arith, d.1), f, refl, d.3, ap (slice_get f.lines) (omega (arith, d.2)) ∙ d.4, d.5)
    go more (inr h) =
        let d = more h.0 h.2 in
        (suc d.0, omega (arith, d.1), d.2, d.3, d.4, d.5, d.6)

-- ---- places have slots

get_left : {X : Type 0} (xs ys : List X) (n : ℕ) (x : X) → slice_get xs n ≡ Some x → slice_get (xs ++ ys) n ≡ Some x
get_left [] ys n x e = absurd (cc e)
get_left (y ∷ xs) ys zero x e = e
get_left (y ∷ xs) ys (suc n) x e = get_left xs ys n x e

get_right : {X : Type 0} (xs ys : List X) (n : ℕ) (x : X) → slice_get ys n ≡ Some x → (m : ℕ) × (slice_get (xs ++ ys) m ≡ Some x)
get_right [] ys n x e = (n, e)
get_right (y ∷ xs) ys n x e = let r = get_right xs ys n x e in (suc r.0, r.1)

dots_there : (r a d n k : ℕ) → k ≤ n → (m : ℕ) × (slice_get (dots_from r a d n) m ≡ Some (slot r a (d + k)))
dots_there r a d zero k h = (zero, ap (λ (z : ℕ). Some (slot r a z)) (omega (arith, h)))
dots_there r a d (suc n) zero h = (zero, ap (λ (z : ℕ). Some (slot r a z)) (omega arith))
dots_there r a d (suc n) (suc k) h =
    let t = dots_there r a (d + 1) n k (omega (arith, h)) in
    (suc t.0, t.1 ∙ ap (λ (z : ℕ). Some (slot r a z)) (omega arith))

zero_on : (n : ℕ) → 0 + n ≡ n
zero_on n = omega arith

on_zero : (n : ℕ) → n + 0 ≡ n
on_zero n = omega arith

alts_there : (r a : ℕ) (xs : List Line) (i k : ℕ) (line : Line) → slice_get xs i ≡ Some line → k ≤ length line.syms → (m : ℕ) × (slice_get (alts_from r a xs) m ≡ Some (slot r (a + i) k))
alts_there r a [] i k line e h = absurd (cc e)
alts_there r a (x ∷ xs) zero k line e h =
    let q : x ≡ line = cc e in
    let t = dots_there r a 0 (length x.syms) k (omega (arith, h, ap (λ (z : Line). length z.syms) q)) in
    (t.0, get_left (dots_from r a 0 (length x.syms)) (alts_from r (a + 1) xs) t.0 (slot r (a + 0) k) (t.1 ∙ cc (zero_on k, on_zero a)))
alts_there r a (x ∷ xs) (suc i) k line e h =
    let t = alts_there r (a + 1) xs i k line e h in
    get_right (dots_from r a 0 (length x.syms)) (alts_from r (a + 1) xs) t.0 (slot r (a + suc i) k) (t.1 ∙ ap (λ (z : ℕ). Some (slot r z k)) (omega arith))

pub rules_there : (r : ℕ) (fs : List Flat) (i j k : ℕ) (flat : Flat) (line : Line) → slice_get fs i ≡ Some flat → slice_get flat.lines j ≡ Some line → k ≤ length line.syms → (m : ℕ) × (slice_get (rules_from r fs) m ≡ Some (slot (r + i) j k))
rules_there r [] i j k flat line e f h = absurd (cc e)
rules_there r (x ∷ xs) zero j k flat line e f h =
    let q : x ≡ flat = cc e in
    let t = alts_there r 0 x.lines j k line (ap (λ (z : Flat). slice_get z.lines j) q ∙ f) h in
    (t.0, get_left (alts_from r 0 x.lines) (rules_from (r + 1) xs) t.0 (slot (r + 0) j k) (t.1 ∙ cc (zero_on j, on_zero r)))
rules_there r (x ∷ xs) (suc i) j k flat line e f h =
    let t = rules_there (r + 1) xs i j k flat line e f h in
    get_right (alts_from r 0 x.lines) (rules_from (r + 1) xs) t.0 (slot (r + suc i) j k) (t.1 ∙ ap (λ (z : ℕ). Some (slot z j k)) (omega arith))

-- ---- slots stand in the order of their places

-- the lesser rule, then the lesser alternative, then the lesser dot
pub data IsEarlier (s t : SlotInfo) : Type 0 where
  by_rule : s.head < t.head → IsEarlier s t
  by_alt : s.head ≡ t.head → s.alt < t.alt → IsEarlier s t
  by_dot : s.head ≡ t.head → s.alt ≡ t.alt → s.dot < t.dot → IsEarlier s t

alts_order : (r a : ℕ) (xs : List Line) (m n : ℕ) (s t : SlotInfo) → m < n → slice_get (alts_from r a xs) m ≡ Some s → slice_get (alts_from r a xs) n ≡ Some t → IsEarlier s t
alts_order r a [] m n s t h e f = absurd (cc e)
alts_order r a (x ∷ xs) m n s t h e f =
    go (λ i j o. alts_order r (a + 1) xs i j s t o) (get_split (dots_from r a 0 (length x.syms)) (alts_from r (a + 1) xs) m s e) (get_split (dots_from r a 0 (length x.syms)) (alts_from r (a + 1) xs) n t f)
  where
    Here : ℕ → SlotInfo → Type 0
    Here i u = slice_get (dots_from r a 0 (length x.syms)) i ≡ Some u

    There : ℕ → SlotInfo → Type 0
    There i u = (j : ℕ) × (i ≡ length (dots_from r a 0 (length x.syms)) + j) × (slice_get (alts_from r (a + 1) xs) j ≡ Some u)

    go : ((i j : ℕ) → i < j → slice_get (alts_from r (a + 1) xs) i ≡ Some s → slice_get (alts_from r (a + 1) xs) j ≡ Some t → IsEarlier s t) → Here m s ⊎ There m s → Here n t ⊎ There n t → IsEarlier s t
    go more (inl k) (inl l) =
        let p = dots_in r a 0 (length x.syms) m s k in
        let q = dots_in r a 0 (length x.syms) n t l in
        by_dot (p.0 ∙ sym q.0) (p.1 ∙ sym q.1) (omega (arith, p.2, q.2))
    go more (inl k) (inr l) =
        let p = dots_in r a 0 (length x.syms) m s k in
        let q = alts_in r (a + 1) xs l.0 t l.2 in
        by_alt (p.0 ∙ sym q.1) (omega (arith, p.1, q.2))
    go more (inr k) (inl l) = absurd (omega (arith, k.1, slice_get_within (dots_from r a 0 (length x.syms)) n t l))
    go more (inr k) (inr l) = more k.0 l.0 (omega (arith, k.1, l.1)) k.2 l.2

rules_order : (r : ℕ) (fs : List Flat) (m n : ℕ) (s t : SlotInfo) → m < n → slice_get (rules_from r fs) m ≡ Some s → slice_get (rules_from r fs) n ≡ Some t → IsEarlier s t
rules_order r [] m n s t h e f = absurd (cc e)
rules_order r (x ∷ xs) m n s t h e f =
    go (λ i j o. rules_order (r + 1) xs i j s t o) (get_split (alts_from r 0 x.lines) (rules_from (r + 1) xs) m s e) (get_split (alts_from r 0 x.lines) (rules_from (r + 1) xs) n t f)
  where
    Here : ℕ → SlotInfo → Type 0
    Here i u = slice_get (alts_from r 0 x.lines) i ≡ Some u

    There : ℕ → SlotInfo → Type 0
    There i u = (j : ℕ) × (i ≡ length (alts_from r 0 x.lines) + j) × (slice_get (rules_from (r + 1) xs) j ≡ Some u)

    go : ((i j : ℕ) → i < j → slice_get (rules_from (r + 1) xs) i ≡ Some s → slice_get (rules_from (r + 1) xs) j ≡ Some t → IsEarlier s t) → Here m s ⊎ There m s → Here n t ⊎ There n t → IsEarlier s t
    go more (inl k) (inl l) = alts_order r 0 x.lines m n s t h k l
    go more (inl k) (inr l) =
        let p = alts_in r 0 x.lines m s k in
        let q = rules_in (r + 1) xs l.0 t l.2 in
        by_rule (omega (arith, p.1, q.1))
    go more (inr k) (inl l) = absurd (omega (arith, k.1, slice_get_within (alts_from r 0 x.lines) n t l))
    go more (inr k) (inr l) = more k.0 l.0 (omega (arith, k.1, l.1)) k.2 l.2

-- of the whole numbering
pub slots_order : (fs : List Flat) (m n : ℕ) (s t : SlotInfo) → m < n → slice_get (rules_from 0 fs) m ≡ Some s → slice_get (rules_from 0 fs) n ≡ Some t → IsEarlier s t
slots_order fs m n s t h e f = rules_order 0 fs m n s t h e f
