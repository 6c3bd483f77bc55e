-- How many numbers and slots are taken.
use Rattle.std.proofs.Common.{◌≡◌, refl, ap, ◌∙◌, subst, ℕ, zero, suc, ◌+◌, ◌-◌, ◌<◌, ◌≤◌, List, [], ◌∷◌, ◌++◌, length, map, drop, Option, Some, None, arith}
use Rattle.std.specs.Prelude.{slice_index_or, slice_get, slice_set, sum}
use Rattle.std.proofs.lemmas.List.{length-append}
use Rattle.std.proofs.lemmas.List.Sums.{sum_by-cons, sum_by-append, sum_by_push, sum_by-set}
use Rattle.std.proofs.lemmas.Option.{get_or_from_slice_get}
use Rattle.ix_model.specs.declared.grammar.Rule.{Rule}
use Rattle.ix_model.specs.declared.rules.Kind.TheVariants.{Named}
use Rattle.ix_model.specs.declared.rules.Sym.{Sym}
use Rattle.ix_model.specs.declared.rules.Line.{Line}
use Rattle.ix_model.specs.declared.rules.Flat.{Flat}
use Rattle.ix_model.specs.Expansion.Numbering.{dots_from, alts_from, rules_from, numbering}
use Rattle.ix_model.specs.Grammars.Size.{rule_size}
use Rattle.ix_model.specs.Expansion.Expanded.{line, next_syms}
use Rattle.ix_expand.specs.declared.made.Made.{Made}
use Rattle.ix_expand.specs.Growth.{begun, finished, Extends}
use Rattle.ix_expand.specs.SlotCounts.{sep_symbols, line_slots, lines_slots, flats_slots, slots_of}
use Rattle.ix_expand.proofs.Places.{get_last}
use Rattle.ix_expand.proofs.Sequences.{drop_item}

pub sum-cons : (n : ℕ) (ns : List ℕ) → sum (n ∷ ns) ≡ n + sum ns
sum-cons n ns = sum_by-cons (λ x. x) n ns

-- the sum over what is left of a list is that of the next and of those behind it
pub sum_next : {X : Type 0} (f : X → ℕ) (xs : List X) (i : ℕ) (x : X) → i < length xs → x ≡ slice_index_or xs i x → sum (map f (drop i xs)) ≡ f x + sum (map f (drop (i + 1) xs))
sum_next f xs i x h e = ap (λ ys. sum (map f ys)) (drop_item xs i x h e) ∙ sum-cons (f x) (map f (drop (i + 1) xs))

-- an empty rule has no slot
pub begun_slots : (a b : Made) → b ≡ begun a → slots_of b ≡ slots_of a
begun_slots a b e =
    let s : slots_of (begun a) ≡ slots_of a + 0 = sum_by_push (λ (flat : Flat). lines_slots flat.lines) a.flats (record { kind = Named; lines = [] }) in
    let t : slots_of b ≡ slots_of (begun a) = ap slots_of e in
    omega (arith, s, t)

-- a helper in the place of an empty rule has the slots of its alternatives
pub helper_slots : (a b c d : Made) (number : ℕ) (flat : Flat) → b ≡ begun a → Extends b c → number ≡ a.first + length a.flats → d ≡ finished c number flat → slots_of d ≡ slots_of c + lines_slots flat.lines
helper_slots a b c d number flat begins extends numbered ends =
    let x : Extends (begun a) c = subst (λ (m : Made). Extends m c) begins extends in
    let empty : Flat = record { kind = Named; lines = [] } in
    let n : number - c.first ≡ length a.flats = omega (arith, x.first, numbered) in
    let l : length a.flats < length c.flats = omega (arith, x.flats.longer, length-append {A = Flat}) in
    let at : slice_get c.flats (length a.flats) ≡ Some empty = x.flats.same (length a.flats) (omega (arith, length-append {A = Flat})) ∙ get_last a.flats empty in
    let g : slice_index_or c.flats (length a.flats) flat ≡ empty = get_or_from_slice_get c.flats (length a.flats) empty flat at in
    let s : flats_slots (slice_set c.flats (length a.flats) flat) + lines_slots (slice_index_or c.flats (length a.flats) flat).lines ≡ flats_slots c.flats + lines_slots flat.lines = sum_by-set (λ (f : Flat). lines_slots f.lines) c.flats (length a.flats) flat flat l in
    let z : lines_slots (slice_index_or c.flats (length a.flats) flat).lines ≡ 0 = ap (λ (f : Flat). lines_slots f.lines) g in
    let e : slots_of d ≡ flats_slots (slice_set c.flats (length a.flats) flat) = ap slots_of ends ∙ ap (λ (k : ℕ). flats_slots (slice_set c.flats k flat)) n in
    omega (arith, s, z, e)

-- the slots of the two alternatives of a list
pub list_slots : (number : ℕ) (x : Sym) (sep : Option Sym) → lines_slots (line (x ∷ []) ∷ line (next_syms number x sep) ∷ []) ≡ 5 + sep_symbols sep
list_slots number x None = refl
list_slots number x (Some s) = refl

pub lines_slots_push : (lines more : List Line) (syms : List Sym) → more ≡ lines ++ line syms ∷ [] → lines_slots more ≡ lines_slots lines + (length syms + 1)
lines_slots_push lines more syms e = ap lines_slots e ∙ sum_by_push line_slots lines (line syms)

pub named_slots : (flats more : List Flat) (lines : List Line) → more ≡ flats ++ record { kind = Named; lines = lines } ∷ [] → flats_slots more ≡ flats_slots flats + lines_slots lines
named_slots flats more lines e = ap flats_slots e ∙ sum_by_push (λ (flat : Flat). lines_slots flat.lines) flats (record { kind = Named; lines = lines })

-- ---- the slots of all rules

length_dots : (r a dot n : ℕ) → length (dots_from r a dot n) ≡ n + 1
length_dots r a dot zero = refl
length_dots r a dot (suc n) = omega (arith, length_dots r a (dot + 1) n)

length_alts : (r a : ℕ) (lines : List Line) → length (alts_from r a lines) ≡ lines_slots lines
length_alts r a [] = refl
length_alts r a (l ∷ ls) =
    omega (arith, length-append (dots_from r a 0 (length l.syms)) (alts_from r (a + 1) ls), length_dots r a 0 (length l.syms), length_alts r (a + 1) ls, sum_by-cons line_slots l ls)

length_rules : (r : ℕ) (flats : List Flat) → length (rules_from r flats) ≡ flats_slots flats
length_rules r [] = refl
length_rules r (f ∷ fs) =
    omega (arith, length-append (alts_from r 0 f.lines) (rules_from (r + 1) fs), length_alts r 0 f.lines, length_rules (r + 1) fs, sum_by-cons (λ (flat : Flat). lines_slots flat.lines) f fs)

-- the slots of named rules and of helpers behind them
pub all_slots : (named helpers : List Flat) → length (numbering (named ++ helpers)) ≡ flats_slots named + flats_slots helpers
all_slots named helpers = length_rules 0 (named ++ helpers) ∙ sum_by-append (λ (flat : Flat). lines_slots flat.lines) named helpers

-- a grammar has no more rules than its size
pub rules_within : (rules : List Rule) → length rules ≤ sum (map rule_size rules)
rules_within [] = omega arith
rules_within (r ∷ rs) = omega (arith, rules_within rs, sum-cons (rule_size r) (map rule_size rs))
