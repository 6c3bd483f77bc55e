-- Two measures of what was read: its size, and its depth with the parentheses that are open around each part. A token adds
-- one to the size at most, and makes the depth at least the number of parentheses that are open behind it, and no more.
use Rattle.std.proofs.Common.{◌≡◌, refl, ap, ◌∙◌, subst, ℕ, suc, ◌+◌, ◌-◌, ◌≤◌, List, [], ◌∷◌, ◌++◌, length, Option, Some, None, arith}
use Rattle.std.specs.Prelude.{max, Bool, true, false, ◌&&◌, if◌then◌else◌, codes}
use Rattle.ix_model.specs.declared.grammar.Rule.{Rule}
use Rattle.ix_model.specs.declared.grammar.Mark.TheVariants.{Attribute}
use Rattle.ix_model.specs.declared.grammar.TMark.{TMark}
use Rattle.ix_model.specs.declared.grammar.Alt.{Alt}
use Rattle.ix_model.specs.declared.grammar.Chars.TheVariants as chars
use Rattle.ix_model.specs.declared.grammar.Bound.{Bound}
use Rattle.ix_model.specs.declared.grammar.Member.TheVariants as member
use Rattle.ix_model.specs.declared.grammar.Term.{Term, One, Opt, Star, Plus}
use Rattle.ix_model.specs.declared.grammar.Factor.{Factor, Lit, Set, Call, Insert, Group}
use Rattle.ix_model.specs.Spelling.Spells.{is_class}
use Rattle.ix_spelling_laws.specs.Reading.Lexing.{Lexeme, word, quote, hex, at, caret, dash, colon, equals, semi, bar, comma, stop, question, star, stars, plus, pluses, open_group, close_group, open_set, close_set, tilde}
use Rattle.ix_spelling_laws.specs.Reading.Machine as M
use Rattle.ix_spelling_laws.specs.Reading.Machine.{Phase, Hole, Frame, Work, State, Part, item, star_of, plus_of, begin, ixml, version_next, prolog_stop, rule_start, rule_next, rule_marked, rule_named, alt_start, want, marked, at_marked, inserting, excluding, set_start, member_next, bound_read, range_to, member_read, item_read, term_read}
use Rattle.ix_reader.specs.Parentheses.{turn}
use Rattle.ix_reader.proofs.Folded.{greatest_push, factor_depth, term_depth, terms_depth, alts_depth, rule_depth, rules_depth, depth_lit, depth_set, depth_call, depth_insert, depth_group, depth_one, depth_opt, depth_star, depth_star_by, depth_plus, depth_plus_by, depth_alt}
use Rattle.ix_model.specs.Grammars.Size.{factor_size, term_size}
use Rattle.ix_model.proofs.Sizes.{sum_push, terms_size, alts_size, rules_size, size_lit, size_set, size_call, size_insert, size_group, size_one, size_opt, size_star, size_star_by, size_plus, size_plus_by, size_alt}
use Rattle.ix_model.specs.Spelling.Depth as D
use Rattle.ix_model.specs.Grammars.Size as Z

-- ---- the measures

-- whether alternatives are open
abbrev pub is_inside : Phase → Bool
is_inside begin = false
is_inside ixml = false
is_inside version_next = false
is_inside prolog_stop = false
is_inside rule_start = false
is_inside rule_next = false
is_inside rule_marked = false
is_inside rule_named = false
is_inside _ = true

-- how many parentheses are open
abbrev pub height : Phase → Work → ℕ
height p w = if is_inside p then length w.below else 0

abbrev hole_depth : Hole → ℕ
hole_depth item = 0
hole_depth (star_of x) = factor_depth x
hole_depth (plus_of x) = factor_depth x

abbrev frame_depth : Frame → ℕ
frame_depth f = max (alts_depth f.alts) (max (terms_depth f.terms) (hole_depth f.hole))

-- in the top frame only that counts which is not left out by the next token
abbrev top_depth : Phase → Frame → ℕ
top_depth alt_start f = alts_depth f.alts
top_depth (item_read x) f = max (alts_depth f.alts) (max (terms_depth f.terms) (factor_depth x))
top_depth term_read f = max (alts_depth f.alts) (terms_depth f.terms)
top_depth _ f = frame_depth f

abbrev stack_depth : List Frame → ℕ
stack_depth [] = 0
stack_depth (f ∷ fs) = max (length fs + frame_depth f) (stack_depth fs)

-- of the rules, the frames below, and the top, around which n parentheses are open
abbrev deep : ℕ → ℕ → ℕ → ℕ → ℕ
deep rules below n top = max rules (max below (n + top))

abbrev pub depth_read : Phase → Work → ℕ
depth_read p w = if is_inside p then deep (rules_depth w.rules) (stack_depth w.below) (length w.below) (top_depth p w.top) else rules_depth w.rules

abbrev hole_size : Hole → ℕ
hole_size item = 0
hole_size (star_of x) = factor_size x + 1
hole_size (plus_of x) = factor_size x + 1

-- an open alternative counts
abbrev frame_size : Frame → ℕ
frame_size f = alts_size f.alts + terms_size f.terms + hole_size f.hole + 1

abbrev top_size : Phase → Frame → ℕ
top_size alt_start f = alts_size f.alts + 1
top_size (item_read x) f = alts_size f.alts + terms_size f.terms + 1 + (factor_size x + 1)
top_size term_read f = alts_size f.alts + terms_size f.terms + 1
top_size _ f = frame_size f

abbrev stack_size : List Frame → ℕ
stack_size [] = 0
stack_size (f ∷ fs) = frame_size f + stack_size fs

abbrev pub size_read : Phase → Work → ℕ
size_read p w = if is_inside p then rules_size w.rules + stack_size w.below + top_size p w.top else rules_size w.rules

-- behind a token that was read where the size was n and the depth d, h parentheses are open
abbrev pub Grows : ℕ → ℕ → ℕ → Option State → Type 0
Grows n d h None = Unit {0}
Grows n d h (Some s) = (size_read s.phase s.work ≤ n + 1) × (height s.phase s.work ≡ h) × (depth_read s.phase s.work ≡ max d h)

-- ---- numbers

deeper : (r s n t : ℕ) → deep r s n t ≡ max (deep r s n t) n
deeper r s n t = omega arith

same_top : (r s n t u : ℕ) → t ≡ u → deep r s n t ≡ max (deep r s n u) n
same_top r s n t u e = ap (deep r s n) e ∙ deeper r s n u

less_one : (n : ℕ) → n ≤ n + 1
less_one n = omega arith

-- ---- phases within alternatives that leave all as it is

abbrev inside_depth : Work → ℕ
inside_depth w = deep (rules_depth w.rules) (stack_depth w.below) (length w.below) (frame_depth w.top)

abbrev inside_size : Work → ℕ
inside_size w = rules_size w.rules + stack_size w.below + frame_size w.top

quiet : (w : Work) → (inside_size w ≤ inside_size w + 1) × (length w.below ≡ length w.below) × (inside_depth w ≡ max (inside_depth w) (length w.below))
quiet w = (less_one _, refl, deeper _ _ _ _)

outside : (w : Work) → (rules_size w.rules ≤ rules_size w.rules + 1) × (height begin w ≡ height begin w) × (rules_depth w.rules ≡ max (rules_depth w.rules) 0)
outside w = (less_one _, refl, omega arith)

-- ---- factors

depth_star_push : (ts : List Term) (x s : Factor) → terms_depth (ts ++ Star x (Some s) ∷ []) ≡ max (terms_depth ts) (max (factor_depth x) (factor_depth s))
depth_star_push ts x s = greatest_push term_depth ts (Star x (Some s)) ∙ ap (max (terms_depth ts)) (depth_star_by x s)

depth_plus_push : (ts : List Term) (x s : Factor) → terms_depth (ts ++ Plus x (Some s) ∷ []) ≡ max (terms_depth ts) (max (factor_depth x) (factor_depth s))
depth_plus_push ts x s = greatest_push term_depth ts (Plus x (Some s)) ∙ ap (max (terms_depth ts)) (depth_plus_by x s)

size_star_push : (ts : List Term) (x s : Factor) → terms_size (ts ++ Star x (Some s) ∷ []) ≡ terms_size ts + (factor_size x + (factor_size s + 1) + 1)
size_star_push ts x s = sum_push term_size ts (Star x (Some s)) ∙ ap (λ (n : ℕ). terms_size ts + n) (size_star_by x s)

size_plus_push : (ts : List Term) (x s : Factor) → terms_size (ts ++ Plus x (Some s) ∷ []) ≡ terms_size ts + (factor_size x + (factor_size s + 1) + 1)
size_plus_push ts x s = sum_push term_size ts (Plus x (Some s)) ∙ ap (λ (n : ℕ). terms_size ts + n) (size_plus_by x s)

-- the state behind a factor in this place of the frame
abbrev Done : Hole → Frame → Work → Factor → State → Type 0
Done h f w x s =
    (size_read s.phase s.work ≡ rules_size w.rules + stack_size w.below + (alts_size f.alts + terms_size f.terms + hole_size h + 1) + (factor_size x + 1))
    × (height s.phase s.work ≡ length w.below)
    × (depth_read s.phase s.work ≡ deep (rules_depth w.rules) (stack_depth w.below) (length w.below) (max (alts_depth f.alts) (max (terms_depth f.terms) (max (hole_depth h) (factor_depth x)))))

done : (h : Hole) (f : Frame) (w : Work) (x : Factor) → Done h f w x (M.after_factor h f w x)
done item f w x = (omega arith, refl, ap (λ (n : ℕ). deep (rules_depth w.rules) (stack_depth w.below) (length w.below) (max (alts_depth f.alts) (max (terms_depth f.terms) n))) (none_max (factor_depth x)))
  where
    none_max : (n : ℕ) → n ≡ max 0 n
    none_max n = omega arith
done (star_of i) f w x = (omega (arith, size_star_push f.terms i x), refl, ap (λ (n : ℕ). deep (rules_depth w.rules) (stack_depth w.below) (length w.below) (max (alts_depth f.alts) n)) (depth_star_push f.terms i x))
done (plus_of i) f w x = (omega (arith, size_plus_push f.terms i x), refl, ap (λ (n : ℕ). deep (rules_depth w.rules) (stack_depth w.below) (length w.below) (max (alts_depth f.alts) n)) (depth_plus_push f.terms i x))

-- a factor that no alternatives stand in
leaf : (w : Work) (x : Factor) → factor_size x ≡ 0 → factor_depth x ≡ 0 → Grows (inside_size w) (inside_depth w) (length w.below) (Some (M.factor_done w x))
leaf w x e f = let (n, h, d) = done w.top.hole w.top w x in (omega (arith, n, e), h, d ∙ same_top _ _ _ _ _ (no_more _ _ _ _ f))
  where
    no_more : (a t h x : ℕ) → x ≡ 0 → max a (max t (max h x)) ≡ max a (max t h)
    no_more a t h x e = omega (arith, e)

start_factor_grows : (w : Work) (k : Lexeme) → Grows (inside_size w) (inside_depth w) (turn (length w.below) k) (M.start_factor w k)
start_factor_grows w (word n) = leaf w (Call None n) (size_call None n) (depth_call None n)
start_factor_grows w (quote xs) = leaf w (Lit None (chars.Quoted xs)) (size_lit None (chars.Quoted xs)) (depth_lit None (chars.Quoted xs))
start_factor_grows w (hex ds) = leaf w (Lit None (chars.Code ds)) (size_lit None (chars.Code ds)) (depth_lit None (chars.Code ds))
start_factor_grows w at = quiet w
start_factor_grows w caret = quiet w
start_factor_grows w dash = quiet w
start_factor_grows w plus = quiet w
start_factor_grows w tilde = quiet w
start_factor_grows w open_set = quiet w
start_factor_grows w open_group = (omega arith, omega arith, around _ _ _ _)
  where
    around : (r s n t : ℕ) → deep r (max (n + t) s) (suc n) 0 ≡ max (deep r s n t) (n + 1)
    around r s n t = omega arith
start_factor_grows w _ = tt

marked_factor_grows : (m : TMark) (w : Work) (k : Lexeme) → Grows (inside_size w) (inside_depth w) (turn (length w.below) k) (M.marked_factor m w k)
marked_factor_grows m w (word n) = leaf w (Call (Some (M.mark_for m)) n) (size_call _ n) (depth_call _ n)
marked_factor_grows m w (quote xs) = leaf w (Lit (Some m) (chars.Quoted xs)) (size_lit (Some m) (chars.Quoted xs)) (depth_lit (Some m) (chars.Quoted xs))
marked_factor_grows m w (hex ds) = leaf w (Lit (Some m) (chars.Code ds)) (size_lit (Some m) (chars.Code ds)) (depth_lit (Some m) (chars.Code ds))
marked_factor_grows m w tilde = quiet w
marked_factor_grows m w open_set = quiet w
marked_factor_grows m w _ = tt

-- ---- alternatives

depth_complete : (f : Frame) → alts_depth (M.complete f) ≡ max (alts_depth f.alts) (terms_depth f.terms)
depth_complete f = greatest_push D.alt_depth f.alts (record { terms = f.terms }) ∙ ap (max (alts_depth f.alts)) (depth_alt (record { terms = f.terms }))

size_complete : (f : Frame) → alts_size (M.complete f) ≡ alts_size f.alts + (terms_size f.terms + 1)
size_complete f = sum_push Z.alt_size f.alts (record { terms = f.terms }) ∙ ap (λ (n : ℕ). alts_size f.alts + n) (size_alt (record { terms = f.terms }))

close_grows : (fs : List Frame) (w : Work) (alts : List Alt) → Grows (rules_size w.rules + stack_size fs + alts_size alts) (deep (rules_depth w.rules) (stack_depth fs) (length fs) (alts_depth alts)) (length fs - 1) (M.close fs w alts)
close_grows [] w alts = tt
close_grows (f ∷ fs) w alts =
    let (n, h, d) = done f.hole f (record w { below = fs }) (Group alts) in
    (omega (arith, n, size_group alts), h ∙ one_less (length fs), d ∙ within _ _ _ _ _ _ _ _ (depth_group alts))
  where
    one_less : (n : ℕ) → n ≡ suc n - 1
    one_less n = omega arith

    last_of : (a t h x : ℕ) → max a (max t (max h x)) ≡ max (max a (max t h)) x
    last_of a t h x = omega arith

    each : (n f x g : ℕ) → x ≡ g + 1 → n + max f x ≡ max (n + f) (suc n + g)
    each n f x g e = omega (arith, e)

    regroup : (s y z : ℕ) → max s (max y z) ≡ max (max y s) z
    regroup s y z = omega arith

    least : (n y s g : ℕ) → n ≤ max (max y s) (suc n + g)
    least n y s g = omega arith

    under : (r q n : ℕ) → n ≤ q → max r q ≡ max (max r q) (suc n - 1)
    under r q n l = omega (arith, l)

    within : (r s n a t h x g : ℕ) → x ≡ g + 1 → deep r s n (max a (max t (max h x))) ≡ max (deep r (max (n + max a (max t h)) s) (suc n) g) (suc n - 1)
    within r s n a t h x g e =
        ap (deep r s n) (last_of a t h x)
        ∙ ap (λ (z : ℕ). max r (max s z)) (each n (max a (max t h)) x g e)
        ∙ ap (max r) (regroup s (n + max a (max t h)) (suc n + g))
        ∙ under r _ n (least n (n + max a (max t h)) s g)

end_rule_grows : (fs : List Frame) (w : Work) (alts : List Alt) → Grows (rules_size w.rules + stack_size fs + alts_size alts) (deep (rules_depth w.rules) (stack_depth fs) (length fs) (alts_depth alts)) (length fs) (M.end_rule fs w alts)
end_rule_grows (f ∷ fs) w alts = tt
end_rule_grows [] w alts =
    let rule : Rule = record { mark = w.mark; name = w.name; alts = alts } in
    (omega (arith, sum_push Z.rule_size w.rules rule), refl, greatest_push rule_depth w.rules rule ∙ behind _ _)
  where
    behind : (r g : ℕ) → max r g ≡ max (deep r 0 0 g) 0
    behind r g = omega arith

same_measures : (n m d e h : ℕ) (o : Option State) → n ≡ m → d ≡ e → Grows n d h o → Grows m e h o
same_measures n m d e h o p q g = subst (λ (z : ℕ). Grows z e h o) p (subst (λ (z : ℕ). Grows n z h o) q g)

-- behind an alternative with the terms of f
end_alt_grows : (f : Frame) (w : Work) (k : Lexeme) → Grows (rules_size w.rules + stack_size w.below + (alts_size f.alts + terms_size f.terms + 1)) (deep (rules_depth w.rules) (stack_depth w.below) (length w.below) (max (alts_depth f.alts) (terms_depth f.terms))) (turn (length w.below) k) (M.end_alt f w k)
end_alt_grows f w semi = (omega (arith, size_complete f), refl, same_top _ _ _ _ _ (depth_complete f))
end_alt_grows f w bar = (omega (arith, size_complete f), refl, same_top _ _ _ _ _ (depth_complete f))
end_alt_grows f w close_group =
    same_measures _ _ _ _ _ _ (ap (λ (n : ℕ). rules_size w.rules + stack_size w.below + n) (size_complete f ∙ behind _ _)) (ap (deep (rules_depth w.rules) (stack_depth w.below) (length w.below)) (depth_complete f)) (close_grows w.below w (M.complete f))
  where
    behind : (a t : ℕ) → a + (t + 1) ≡ a + t + 1
    behind a t = omega arith
end_alt_grows f w stop =
    same_measures _ _ _ _ _ _ (ap (λ (n : ℕ). rules_size w.rules + stack_size w.below + n) (size_complete f ∙ behind _ _)) (ap (deep (rules_depth w.rules) (stack_depth w.below) (length w.below)) (depth_complete f)) (end_rule_grows w.below w (M.complete f))
  where
    behind : (a t : ℕ) → a + (t + 1) ≡ a + t + 1
    behind a t = omega arith
end_alt_grows f w _ = tt

-- ---- terms

-- behind a term, the last of f
end_term_grows : (f : Frame) (w : Work) (k : Lexeme) → Grows (rules_size w.rules + stack_size w.below + (alts_size f.alts + terms_size f.terms + 1)) (deep (rules_depth w.rules) (stack_depth w.below) (length w.below) (max (alts_depth f.alts) (terms_depth f.terms))) (turn (length w.below) k) (M.end_term f w k)
end_term_grows f w comma = (omega arith, refl, same_top _ _ _ _ _ (ap (max (alts_depth f.alts)) (max_none (terms_depth f.terms))))
  where
    max_none : (n : ℕ) → max n 0 ≡ n
    max_none n = omega arith
end_term_grows f w semi = end_alt_grows f w semi
end_term_grows f w bar = end_alt_grows f w bar
end_term_grows f w close_group = end_alt_grows f w close_group
end_term_grows f w stop = end_alt_grows f w stop
end_term_grows f w _ = tt

-- one more term, of an item
depth_push : (f : Frame) (t : Term) (n : ℕ) → term_depth t ≡ n → max (alts_depth f.alts) (terms_depth (f.terms ++ t ∷ [])) ≡ max (alts_depth f.alts) (max (terms_depth f.terms) n)
depth_push f t n e = ap (max (alts_depth f.alts)) (greatest_push term_depth f.terms t ∙ ap (max (terms_depth f.terms)) e)

max_none : (n : ℕ) → max n 0 ≡ n
max_none n = omega arith

-- the term ends behind the item
alone : (x : Factor) (f : Frame) (w : Work) (k : Lexeme) → Grows (rules_size w.rules + stack_size w.below + (alts_size f.alts + terms_size f.terms + 1 + (factor_size x + 1))) (deep (rules_depth w.rules) (stack_depth w.below) (length w.below) (max (alts_depth f.alts) (max (terms_depth f.terms) (factor_depth x)))) (turn (length w.below) k) (M.end_term (M.with_term f (One x)) w k)
alone x f w k =
    same_measures _ _ _ _ _ _
    (ap (λ (n : ℕ). rules_size w.rules + stack_size w.below + n) (one_more _ _ _ _ _ (sum_push term_size f.terms (One x)) (size_one x)))
    (ap (deep (rules_depth w.rules) (stack_depth w.below) (length w.below)) (depth_push f (One x) _ (depth_one x)))
    (end_term_grows (M.with_term f (One x)) w k)
  where
    one_more : (a t u n x : ℕ) → u ≡ t + n → n ≡ x + 1 → a + u + 1 ≡ a + t + 1 + (x + 1)
    one_more a t u n x e g = omega (arith, e, g)

-- behind an item
end_item_grows : (x : Factor) (f : Frame) (w : Work) (k : Lexeme) → Grows (rules_size w.rules + stack_size w.below + (alts_size f.alts + terms_size f.terms + 1 + (factor_size x + 1))) (deep (rules_depth w.rules) (stack_depth w.below) (length w.below) (max (alts_depth f.alts) (max (terms_depth f.terms) (factor_depth x)))) (turn (length w.below) k) (M.end_item x f w k)
end_item_grows x f w question = (omega (arith, sum_push term_size f.terms (Opt x), size_opt x), refl, same_top _ _ _ _ _ (depth_push f (Opt x) _ (depth_opt x)))
end_item_grows x f w star = (omega (arith, sum_push term_size f.terms (Star x None), size_star x), refl, same_top _ _ _ _ _ (depth_push f (Star x None) _ (depth_star x ∙ max_none _)))
end_item_grows x f w plus = (omega (arith, sum_push term_size f.terms (Plus x None), size_plus x), refl, same_top _ _ _ _ _ (depth_push f (Plus x None) _ (depth_plus x ∙ max_none _)))
end_item_grows x f w stars = (omega arith, refl, deeper _ _ _ _)
end_item_grows x f w pluses = (omega arith, refl, deeper _ _ _ _)
end_item_grows x f w k = alone x f w k

-- ---- sets

set_grows : (s : Part) (w : Work) → Grows (inside_size w) (inside_depth w) (length w.below) (Some (M.set_done s w))
set_grows s w = leaf w (Set s.tmark s.exclude s.members) (size_set s.tmark s.exclude s.members) (depth_set s.tmark s.exclude s.members)

end_member_grows : (s : Part) (w : Work) (k : Lexeme) → Grows (inside_size w) (inside_depth w) (turn (length w.below) k) (M.end_member s w k)
end_member_grows s w semi = quiet w
end_member_grows s w bar = quiet w
end_member_grows s w close_set = set_grows s w
end_member_grows s w _ = tt

quoted_member_grows : (s : Part) (w : Work) (xs : List ℕ) → Grows (inside_size w) (inside_depth w) (length w.below) (M.quoted_member s w xs)
quoted_member_grows s w (x ∷ []) = quiet w
quoted_member_grows s w [] = quiet w
quoted_member_grows s w (x ∷ y ∷ xs) = quiet w

quoted_bound_grows : (s : Part) (b : Bound) (w : Work) (xs : List ℕ) → Grows (inside_size w) (inside_depth w) (length w.below) (M.quoted_bound s b w xs)
quoted_bound_grows s b w (x ∷ []) = quiet w
quoted_bound_grows s b w _ = tt

start_member_grows : (s : Part) (w : Work) (k : Lexeme) → Grows (inside_size w) (inside_depth w) (turn (length w.below) k) (M.start_member s w k)
start_member_grows s w (quote xs) = quoted_member_grows s w xs
start_member_grows s w (hex ds) = quiet w
start_member_grows s w (word n) = class (is_class n)
  where
    class : (b : Bool) → Grows (inside_size w) (inside_depth w) (length w.below) (if b then M.goes (member_read (M.with_member s (member.Class n))) w else None)
    class true = quiet w
    class false = tt
start_member_grows s w _ = tt

-- ---- rules

start_rule_grows : (w : Work) (k : Lexeme) → Grows (rules_size w.rules) (rules_depth w.rules) (turn 0 k) (M.start_rule w k)
start_rule_grows w (word n) = outside w
start_rule_grows w at = outside w
start_rule_grows w caret = outside w
start_rule_grows w dash = outside w
start_rule_grows w _ = tt

open_rule_grows : (w : Work) (k : Lexeme) → Grows (rules_size w.rules) (rules_depth w.rules) (turn 0 k) (M.open_rule w k)
open_rule_grows w equals = (omega arith, refl, omega arith)
open_rule_grows w colon = (omega arith, refl, omega arith)
open_rule_grows w _ = tt

begin_rule_grows : (w : Work) (k : Lexeme) → Grows (rules_size w.rules) (rules_depth w.rules) (turn 0 k) (M.begin_rule w k)
begin_rule_grows w (word n) = first (M.is_text n (codes "ixml"))
  where
    first : (b : Bool) → Grows (rules_size w.rules) (rules_depth w.rules) 0 (if b then M.goes ixml (M.named w None n) else M.goes rule_named (M.named w None n))
    first true = outside w
    first false = outside w
begin_rule_grows w k = start_rule_grows w k

behind_ixml_grows : (w : Work) (gap : Bool) (k : Lexeme) → Grows (rules_size w.rules) (rules_depth w.rules) (turn 0 k) (M.behind_ixml w gap k)
behind_ixml_grows w gap (word n) = second (gap && M.is_text n (codes "version"))
  where
    second : (b : Bool) → Grows (rules_size w.rules) (rules_depth w.rules) 0 (if b then M.goes version_next w else None)
    second true = outside w
    second false = tt
behind_ixml_grows w gap k = open_rule_grows w k

-- ---- where an alternative begins

fresh_term : (w : Work) (k : Lexeme) → Grows (rules_size w.rules + stack_size w.below + (alts_size w.top.alts + 1)) (deep (rules_depth w.rules) (stack_depth w.below) (length w.below) (alts_depth w.top.alts)) (turn (length w.below) k) (M.end_alt (M.fresh w.top) w k)
fresh_term w k =
    same_measures _ _ _ _ _ _ (ap (λ (n : ℕ). rules_size w.rules + stack_size w.below + n) (no_term (alts_size w.top.alts))) (ap (deep (rules_depth w.rules) (stack_depth w.below) (length w.below)) (max_none (alts_depth w.top.alts))) (end_alt_grows (M.fresh w.top) w k)
  where
    no_term : (a : ℕ) → a + 0 + 1 ≡ a + 1
    no_term a = omega arith

fresh_factor : (w : Work) (k : Lexeme) → Grows (rules_size w.rules + stack_size w.below + (alts_size w.top.alts + 1)) (deep (rules_depth w.rules) (stack_depth w.below) (length w.below) (alts_depth w.top.alts)) (turn (length w.below) k) (M.start_factor (M.on_top w (M.fresh w.top)) k)
fresh_factor w k =
    same_measures _ _ _ _ _ _ (ap (λ (n : ℕ). rules_size w.rules + stack_size w.below + n) (no_term (alts_size w.top.alts))) (ap (deep (rules_depth w.rules) (stack_depth w.below) (length w.below)) (max_none (alts_depth w.top.alts))) (start_factor_grows (M.on_top w (M.fresh w.top)) k)
  where
    no_term : (a : ℕ) → a + 0 + 0 + 1 ≡ a + 1
    no_term a = omega arith

-- ---- a step

pub step_grows : (p : Phase) (w : Work) (gap : Bool) (k : Lexeme) → Grows (size_read p w) (depth_read p w) (turn (height p w) k) (M.step p w gap k)
step_grows begin w gap k = begin_rule_grows w k
step_grows ixml w gap k = behind_ixml_grows w gap k
step_grows version_next w true (quote xs) = outside w
step_grows version_next w _ _ = tt
step_grows prolog_stop w gap stop = outside w
step_grows prolog_stop w gap _ = tt
step_grows rule_start w gap k = start_rule_grows w k
step_grows rule_next w true k = start_rule_grows w k
step_grows rule_next w false k = tt
step_grows rule_marked w gap (word n) = outside w
step_grows rule_marked w gap _ = tt
step_grows rule_named w gap k = open_rule_grows w k
step_grows alt_start w gap semi = fresh_term w semi
step_grows alt_start w gap bar = fresh_term w bar
step_grows alt_start w gap close_group = fresh_term w close_group
step_grows alt_start w gap stop = fresh_term w stop
step_grows alt_start w gap k = fresh_factor w k
step_grows want w gap k = start_factor_grows w k
step_grows (marked m) w gap k = marked_factor_grows m w k
step_grows at_marked w gap (word n) = leaf w (Call (Some Attribute) n) (size_call (Some Attribute) n) (depth_call (Some Attribute) n)
step_grows at_marked w gap _ = tt
step_grows inserting w gap (quote xs) = leaf w (Insert (chars.Quoted xs)) (size_insert (chars.Quoted xs)) (depth_insert (chars.Quoted xs))
step_grows inserting w gap (hex ds) = leaf w (Insert (chars.Code ds)) (size_insert (chars.Code ds)) (depth_insert (chars.Code ds))
step_grows inserting w gap _ = tt
step_grows (excluding m) w gap open_set = quiet w
step_grows (excluding m) w gap _ = tt
step_grows (set_start s) w gap close_set = set_grows s w
step_grows (set_start s) w gap k = start_member_grows s w k
step_grows (member_next s) w gap k = start_member_grows s w k
step_grows (bound_read s b) w gap dash = quiet w
step_grows (bound_read s b) w gap k = end_member_grows (M.with_member s (M.member_of b)) w k
step_grows (range_to s b) w gap (quote xs) = quoted_bound_grows s b w xs
step_grows (range_to s b) w gap (hex ds) = quiet w
step_grows (range_to s b) w gap _ = tt
step_grows (member_read s) w gap k = end_member_grows s w k
step_grows (item_read x) w gap k = end_item_grows x w.top w k
step_grows term_read w gap k = end_term_grows w.top w k
