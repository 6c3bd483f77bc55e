-- How many slots there are, and how they come one alternative and one rule after the other.
use Rattle.std.proofs.Common.{◌≡◌, refl, ap, sym, ◌∙◌, ℕ, zero, suc, ◌+◌, ◌<◌, ◌≤◌, List, [], ◌∷◌, ◌++◌, length, drop, get_or, append_assoc, length-append, arith}
use Rattle.std.proofs.lemmas.List.{drop_more}
use Rattle.ix_model.specs.declared.rules.Line.{Line}
use Rattle.ix_model.specs.declared.rules.Flat.{Flat}
use Rattle.ix_model.specs.Expansion.Numbering.{dots_from, alts_from, rules_from}

length_dots : (r a dot n : ℕ) → length (dots_from r a dot n) ≡ n + 1
length_dots r a dot zero = refl
length_dots r a dot (suc n) = omega (arith, length_dots r a (dot + 1) n)

length_alts : (r a : ℕ) (x : Line) (xs : List Line) → length (alts_from r a (x ∷ xs)) ≡ length x.syms + 1 + length (alts_from r (a + 1) xs)
length_alts r a x xs = omega (arith, length-append (dots_from r a 0 (length x.syms)) (alts_from r (a + 1) xs), length_dots r a 0 (length x.syms))

-- the number of slots depends on no number of a rule or of an alternative
pub same_count : (r q a b : ℕ) (xs : List Line) → length (alts_from r a xs) ≡ length (alts_from q b xs)
same_count r q a b [] = refl
same_count r q a b (x ∷ xs) = omega (arith, length_alts r a x xs, length_alts q b x xs, same_count r q (a + 1) (b + 1) xs)

-- each alternative has a slot
pub at_least : (r a : ℕ) (xs : List Line) → length xs ≤ length (alts_from r a xs)
at_least r a [] = omega arith
at_least r a (x ∷ xs) = omega (arith, length_alts r a x xs, at_least r (a + 1) xs)

-- each alternative has more slots than symbols
pub more_than_symbols : (r a : ℕ) (xs : List Line) (x : Line) (n : ℕ) → n < length xs → x ≡ get_or xs n x → length x.syms < length (alts_from r a xs)
more_than_symbols r a [] x n h e = absurd (omega (arith, h))
more_than_symbols r a (y ∷ xs) x zero h e = omega (arith, length_alts r a y xs, ap (λ (z : Line). length z.syms) e)
more_than_symbols r a (y ∷ xs) x (suc n) h e = omega (arith, length_alts r a y xs, more_than_symbols r (a + 1) xs x n (omega (arith, h)) e)

-- ---- one alternative, and those behind it

rest_of : {X : Type 0} (xs : List X) (x : X) (n : ℕ) → n < length xs → x ≡ get_or xs n x → drop n xs ≡ x ∷ drop (n + 1) xs
rest_of xs x n h e = drop_more xs n x h ∙ ap (λ y. y ∷ drop (n + 1) xs) (sym e)

pub next_alt : (r a : ℕ) (xs : List Line) (x : Line) → a < length xs → x ≡ get_or xs a x →
    alts_from r a (drop a xs) ≡ dots_from r a 0 (length x.syms) ++ alts_from r (a + 1) (drop (a + 1) xs)
next_alt r a xs x h e = ap (alts_from r a) (rest_of xs x a h e)

pub next_alt_count : (r a : ℕ) (xs : List Line) (x : Line) → a < length xs → x ≡ get_or xs a x →
    length (alts_from r a (drop a xs)) ≡ length x.syms + 1 + length (alts_from r (a + 1) (drop (a + 1) xs))
next_alt_count r a xs x h e = ap (λ (z : List Line). length (alts_from r a z)) (rest_of xs x a h e) ∙ length_alts r a x (drop (a + 1) xs)

-- ---- one rule, and those behind it

pub next_rule : (r : ℕ) (fs : List Flat) (f : Flat) → r < length fs → f ≡ get_or fs r f →
    rules_from r (drop r fs) ≡ alts_from r 0 f.lines ++ rules_from (r + 1) (drop (r + 1) fs)
next_rule r fs f h e = ap (rules_from r) (rest_of fs f r h e)

pub next_rule_count : (r : ℕ) (fs : List Flat) (f : Flat) (lines : List Line) → r < length fs → f ≡ get_or fs r f → lines ≡ f.lines →
    length (rules_from r (drop r fs)) ≡ length (alts_from 0 0 lines) + length (rules_from (r + 1) (drop (r + 1) fs))
next_rule_count r fs f lines h e same =
    ap length (next_rule r fs f h e)
    ∙ length-append (alts_from r 0 f.lines) (rules_from (r + 1) (drop (r + 1) fs))
    ∙ ap (λ (n : ℕ). n + length (rules_from (r + 1) (drop (r + 1) fs))) (same_count r 0 0 0 f.lines ∙ ap (λ (z : List Line). length (alts_from 0 0 z)) (sym same))

-- ---- slots that are added

-- what was added came from the front of what was left
pub added : {X : Type 0} (old new left ys rest all : List X) → new ≡ old ++ ys → left ≡ ys ++ rest → old ++ left ≡ all → new ++ rest ≡ all
added old new left ys rest all e f g = ap (λ z. z ++ rest) e ∙ append_assoc old ys rest ∙ ap (λ z. old ++ z) (sym f) ∙ g
