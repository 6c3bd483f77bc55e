-- Whether tokens are those of a grammar does not depend on the values that were read.
use Rattle.std.proofs.Common.{◌≡◌, refl, ap, ◌∙◌, sym, ℕ, List, [], ◌∷◌, Option, Some, None}
use Rattle.std.specs.Prelude.{Bool, true, false, ◌&&◌, if◌then◌else◌, codes, option_map}
use Rattle.ix_model.specs.declared.grammar.TMark.{TMark}
use Rattle.ix_model.specs.declared.grammar.TMark.TheVariants.{Shown, Deleted}
use Rattle.ix_model.specs.declared.grammar.Alt.{Alt}
use Rattle.ix_model.specs.declared.grammar.Bound.{Bound}
use Rattle.ix_model.specs.declared.grammar.Member.TheVariants as member
use Rattle.ix_model.specs.declared.grammar.Term.{One}
use Rattle.ix_model.specs.declared.grammar.Factor.{Factor, Group}
use Rattle.ix_model.specs.Spelling.Spells.{is_class}
use Rattle.ix_spelling_laws.specs.Reading.Lexing.{Token, Lexeme, word, quote, hex, at, caret, dash, colon, equals, semi, bar, comma, stop, question, star, stars, plus, pluses, open_group, close_group, open_set, close_set, tilde}
use Rattle.ix_spelling_laws.specs.Reading.Machine as M
use Rattle.ix_spelling_laws.specs.Reading.Machine.{Phase, Hole, Frame, Work, State, Part, item, star_of, plus_of, begin, ixml, version_next, prolog_stop, rule_start, rule_next, rule_marked, rule_named, alt_start, want, marked, at_marked, inserting, excluding, set_start, member_next, bound_read, range_to, member_read, item_read, term_read}
use Rattle.ix_reader.specs.Outline.{is_separator, separators, holes, bare, bare_hole, no_part, no_bound, no_factor, Outline, outline, whether}

-- the two go on alike
abbrev Alike : Option State → Option State → Type 0
Alike o u = option_map outline o ≡ option_map outline u

abbrev made : Phase → Bool → List Bool → Option Outline
made p b hs = Some (record { phase = p; holes = b ∷ hs })

same : (p : Phase) (b c : Bool) (xs ys : List Bool) → b ≡ c → xs ≡ ys → made p b xs ≡ made p c ys
same p b c xs ys e f = cc (e, f)

tops : (b c : Bool) (xs ys : List Bool) → b ∷ xs ≡ c ∷ ys → b ≡ c
tops b c xs ys e = cc e

rests : (b c : Bool) (xs ys : List Bool) → b ∷ xs ≡ c ∷ ys → xs ≡ ys
rests b c xs ys e = cc e

top_hole : (v w : Work) → holes v ≡ holes w → is_separator v.top.hole ≡ is_separator w.top.hole
top_hole v w e = tops _ _ _ _ e

below_holes : (v w : Work) → holes v ≡ holes w → separators v.below ≡ separators w.below
below_holes v w e = rests _ _ _ _ e

-- both go on in this phase
onward : (p : Phase) (v w : Work) → holes v ≡ holes w → Alike (M.goes p v) (M.goes p w)
onward p v w e = ap (λ (hs : List Bool). let o : Outline = record { phase = bare p; holes = hs } in Some o) e

-- ---- factors

after_alike : (h k : Hole) (f g : Frame) (v w : Work) (x y : Factor) → is_separator h ≡ is_separator k → is_separator f.hole ≡ is_separator g.hole → separators v.below ≡ separators w.below
    → Alike (Some (M.after_factor h f v x)) (Some (M.after_factor k g w y))
after_alike item item f g v w x y e q r = same (item_read no_factor) _ _ _ _ q r
after_alike item (star_of j) f g v w x y e q r = cc e
after_alike item (plus_of j) f g v w x y e q r = cc e
after_alike (star_of i) item f g v w x y e q r = cc e
after_alike (plus_of i) item f g v w x y e q r = cc e
after_alike _ _ f g v w x y e q r = same term_read false false _ _ refl r

done_alike : (v w : Work) (x y : Factor) → holes v ≡ holes w → Alike (Some (M.factor_done v x)) (Some (M.factor_done w y))
done_alike v w x y e = after_alike v.top.hole w.top.hole v.top w.top v w x y (top_hole v w e) (top_hole v w e) (below_holes v w e)

start_factor_alike : (v w : Work) (k : Lexeme) → holes v ≡ holes w → Alike (M.start_factor v k) (M.start_factor w k)
start_factor_alike v w (word n) e = done_alike v w _ _ e
start_factor_alike v w (quote xs) e = done_alike v w _ _ e
start_factor_alike v w (hex ds) e = done_alike v w _ _ e
start_factor_alike v w at e = onward at_marked v w e
start_factor_alike v w caret e = onward (marked Shown) v w e
start_factor_alike v w dash e = onward (marked Deleted) v w e
start_factor_alike v w plus e = onward inserting v w e
start_factor_alike v w tilde e = onward (excluding None) v w e
start_factor_alike v w open_set e = onward (set_start no_part) v w e
start_factor_alike v w open_group e = same alt_start false false _ _ refl e
start_factor_alike v w _ e = refl

marked_factor_alike : (m : TMark) (v w : Work) (k : Lexeme) → holes v ≡ holes w → Alike (M.marked_factor m v k) (M.marked_factor m w k)
marked_factor_alike m v w (word n) e = done_alike v w _ _ e
marked_factor_alike m v w (quote xs) e = done_alike v w _ _ e
marked_factor_alike m v w (hex ds) e = done_alike v w _ _ e
marked_factor_alike m v w tilde e = onward (excluding (Some m)) v w e
marked_factor_alike m v w open_set e = onward (set_start no_part) v w e
marked_factor_alike m v w _ e = refl

-- ---- terms and alternatives

close_alike : (fs gs : List Frame) (v w : Work) (al bl : List Alt) → separators fs ≡ separators gs → Alike (M.close fs v al) (M.close gs w bl)
close_alike [] [] v w al bl e = refl
close_alike [] (g ∷ gs) v w al bl e = cc e
close_alike (f ∷ fs) [] v w al bl e = cc e
close_alike (f ∷ fs) (g ∷ gs) v w al bl e =
    let h = tops _ _ _ _ e in
    after_alike f.hole g.hole f g (record v { below = fs }) (record w { below = gs }) (Group al) (Group bl) h h (rests _ _ _ _ e)

end_rule_alike : (fs gs : List Frame) (v w : Work) (al bl : List Alt) → separators fs ≡ separators gs → separators v.below ≡ separators w.below → Alike (M.end_rule fs v al) (M.end_rule gs w bl)
end_rule_alike [] [] v w al bl e r = same rule_next false false _ _ refl r
end_rule_alike [] (g ∷ gs) v w al bl e r = cc e
end_rule_alike (f ∷ fs) [] v w al bl e r = cc e
end_rule_alike (f ∷ fs) (g ∷ gs) v w al bl e r = refl

end_alt_alike : (f g : Frame) (v w : Work) (k : Lexeme) → separators v.below ≡ separators w.below → Alike (M.end_alt f v k) (M.end_alt g w k)
end_alt_alike f g v w semi r = same alt_start false false _ _ refl r
end_alt_alike f g v w bar r = same alt_start false false _ _ refl r
end_alt_alike f g v w close_group r = close_alike v.below w.below v w _ _ r
end_alt_alike f g v w stop r = end_rule_alike v.below w.below v w _ _ r r
end_alt_alike f g v w _ r = refl

end_term_alike : (f g : Frame) (v w : Work) (k : Lexeme) → separators v.below ≡ separators w.below → Alike (M.end_term f v k) (M.end_term g w k)
end_term_alike f g v w comma r = same want false false _ _ refl r
end_term_alike f g v w semi r = end_alt_alike f g v w semi r
end_term_alike f g v w bar r = end_alt_alike f g v w bar r
end_term_alike f g v w close_group r = end_alt_alike f g v w close_group r
end_term_alike f g v w stop r = end_alt_alike f g v w stop r
end_term_alike f g v w _ r = refl

end_item_alike : (x y : Factor) (f g : Frame) (v w : Work) (k : Lexeme) → separators v.below ≡ separators w.below → Alike (M.end_item x f v k) (M.end_item y g w k)
end_item_alike x y f g v w question r = same term_read false false _ _ refl r
end_item_alike x y f g v w star r = same term_read false false _ _ refl r
end_item_alike x y f g v w plus r = same term_read false false _ _ refl r
end_item_alike x y f g v w stars r = same want true true _ _ refl r
end_item_alike x y f g v w pluses r = same want true true _ _ refl r
end_item_alike x y f g v w k r = end_term_alike (M.with_term f (One x)) (M.with_term g (One y)) v w k r

-- ---- sets

end_member_alike : (s t : Part) (v w : Work) (k : Lexeme) → holes v ≡ holes w → Alike (M.end_member s v k) (M.end_member t w k)
end_member_alike s t v w semi e = onward (member_next no_part) v w e
end_member_alike s t v w bar e = onward (member_next no_part) v w e
end_member_alike s t v w close_set e = done_alike v w _ _ e
end_member_alike s t v w _ e = refl

quoted_member_alike : (s t : Part) (v w : Work) (xs : List ℕ) → holes v ≡ holes w → Alike (M.quoted_member s v xs) (M.quoted_member t w xs)
quoted_member_alike s t v w [] e = onward (member_read no_part) v w e
quoted_member_alike s t v w (x ∷ []) e = onward (bound_read no_part no_bound) v w e
quoted_member_alike s t v w (x ∷ y ∷ xs) e = onward (member_read no_part) v w e

quoted_bound_alike : (s t : Part) (b c : Bound) (v w : Work) (xs : List ℕ) → holes v ≡ holes w → Alike (M.quoted_bound s b v xs) (M.quoted_bound t c w xs)
quoted_bound_alike s t b c v w (x ∷ []) e = onward (member_read no_part) v w e
quoted_bound_alike s t b c v w _ e = refl

start_member_alike : (s t : Part) (v w : Work) (k : Lexeme) → holes v ≡ holes w → Alike (M.start_member s v k) (M.start_member t w k)
start_member_alike s t v w (quote xs) e = quoted_member_alike s t v w xs e
start_member_alike s t v w (hex ds) e = onward (bound_read no_part no_bound) v w e
start_member_alike s t v w (word n) e = class (is_class n)
  where
    class : (b : Bool) → Alike (if b then M.goes (member_read (M.with_member s (member.Class n))) v else None) (if b then M.goes (member_read (M.with_member t (member.Class n))) w else None)
    class true = onward (member_read no_part) v w e
    class false = refl
start_member_alike s t v w _ e = refl

-- ---- rules

start_rule_alike : (v w : Work) (k : Lexeme) → holes v ≡ holes w → Alike (M.start_rule v k) (M.start_rule w k)
start_rule_alike v w (word n) e = onward rule_named v w e
start_rule_alike v w at e = onward rule_marked v w e
start_rule_alike v w caret e = onward rule_marked v w e
start_rule_alike v w dash e = onward rule_marked v w e
start_rule_alike v w _ e = refl

open_rule_alike : (v w : Work) (k : Lexeme) → Alike (M.open_rule v k) (M.open_rule w k)
open_rule_alike v w equals = refl
open_rule_alike v w colon = refl
open_rule_alike v w _ = refl

begin_rule_alike : (v w : Work) (k : Lexeme) → holes v ≡ holes w → Alike (M.begin_rule v k) (M.begin_rule w k)
begin_rule_alike v w (word n) e = first (M.is_text n (codes "ixml"))
  where
    first : (b : Bool) → Alike (if b then M.goes ixml (M.named v None n) else M.goes rule_named (M.named v None n)) (if b then M.goes ixml (M.named w None n) else M.goes rule_named (M.named w None n))
    first true = onward ixml v w e
    first false = onward rule_named v w e
begin_rule_alike v w k e = start_rule_alike v w k e

behind_ixml_alike : (v w : Work) (gap : Bool) (k : Lexeme) → holes v ≡ holes w → Alike (M.behind_ixml v gap k) (M.behind_ixml w gap k)
behind_ixml_alike v w gap (word n) e = second (gap && M.is_text n (codes "version"))
  where
    second : (b : Bool) → Alike (if b then M.goes version_next v else None) (if b then M.goes version_next w else None)
    second true = onward version_next v w e
    second false = refl
behind_ixml_alike v w gap k e = open_rule_alike v w k

-- ---- a step, and all of them

fresh_holes : (v w : Work) → holes v ≡ holes w → holes (M.on_top v (M.fresh v.top)) ≡ holes (M.on_top w (M.fresh w.top))
fresh_holes v w e = ap (λ (hs : List Bool). false ∷ hs) (below_holes v w e)

step_alike : (p : Phase) (v w : Work) (gap : Bool) (k : Lexeme) → holes v ≡ holes w → Alike (M.step p v gap k) (M.step (bare p) w gap k)
step_alike begin v w gap k e = begin_rule_alike v w k e
step_alike ixml v w gap k e = behind_ixml_alike v w gap k e
step_alike version_next v w true (quote xs) e = onward prolog_stop v w e
step_alike version_next v w _ _ e = refl
step_alike prolog_stop v w gap stop e = onward rule_start v w e
step_alike prolog_stop v w gap _ e = refl
step_alike rule_start v w gap k e = start_rule_alike v w k e
step_alike rule_next v w true k e = start_rule_alike v w k e
step_alike rule_next v w false k e = refl
step_alike rule_marked v w gap (word n) e = onward rule_named v w e
step_alike rule_marked v w gap _ e = refl
step_alike rule_named v w gap k e = open_rule_alike v w k
step_alike alt_start v w gap semi e = end_alt_alike (M.fresh v.top) (M.fresh w.top) v w semi (below_holes v w e)
step_alike alt_start v w gap bar e = end_alt_alike (M.fresh v.top) (M.fresh w.top) v w bar (below_holes v w e)
step_alike alt_start v w gap close_group e = end_alt_alike (M.fresh v.top) (M.fresh w.top) v w close_group (below_holes v w e)
step_alike alt_start v w gap stop e = end_alt_alike (M.fresh v.top) (M.fresh w.top) v w stop (below_holes v w e)
step_alike alt_start v w gap k e = start_factor_alike (M.on_top v (M.fresh v.top)) (M.on_top w (M.fresh w.top)) k (fresh_holes v w e)
step_alike want v w gap k e = start_factor_alike v w k e
step_alike (marked m) v w gap k e = marked_factor_alike m v w k e
step_alike at_marked v w gap (word n) e = done_alike v w _ _ e
step_alike at_marked v w gap _ e = refl
step_alike inserting v w gap (quote xs) e = done_alike v w _ _ e
step_alike inserting v w gap (hex ds) e = done_alike v w _ _ e
step_alike inserting v w gap _ e = refl
step_alike (excluding m) v w gap open_set e = onward (set_start no_part) v w e
step_alike (excluding m) v w gap _ e = refl
step_alike (set_start s) v w gap close_set e = done_alike v w _ _ e
step_alike (set_start s) v w gap k e = start_member_alike s no_part v w k e
step_alike (member_next s) v w gap k e = start_member_alike s no_part v w k e
step_alike (bound_read s b) v w gap dash e = onward (range_to no_part no_bound) v w e
step_alike (bound_read s b) v w gap k e = end_member_alike (M.with_member s (M.member_of b)) (M.with_member no_part (M.member_of no_bound)) v w k e
step_alike (range_to s b) v w gap (quote xs) e = quoted_bound_alike s no_part b no_bound v w xs e
step_alike (range_to s b) v w gap (hex ds) e = onward (member_read no_part) v w e
step_alike (range_to s b) v w gap _ e = refl
step_alike (member_read s) v w gap k e = end_member_alike s no_part v w k e
step_alike (item_read x) v w gap k e = end_item_alike x no_factor v.top w.top v w k (below_holes v w e)
step_alike term_read v w gap k e = end_term_alike v.top w.top v w k (below_holes v w e)

-- what was left out once is not there to be left out again
pub bare_twice : (p : Phase) → bare (bare p) ≡ bare p
bare_twice begin = refl
bare_twice ixml = refl
bare_twice version_next = refl
bare_twice prolog_stop = refl
bare_twice rule_start = refl
bare_twice rule_next = refl
bare_twice rule_marked = refl
bare_twice rule_named = refl
bare_twice alt_start = refl
bare_twice want = refl
bare_twice (marked m) = refl
bare_twice at_marked = refl
bare_twice inserting = refl
bare_twice (excluding m) = refl
bare_twice (set_start s) = refl
bare_twice (member_next s) = refl
bare_twice (bound_read s b) = refl
bare_twice (range_to s b) = refl
bare_twice (member_read s) = refl
bare_twice (item_read x) = refl
bare_twice term_read = refl

pub hole_twice : (h : Hole) → bare_hole (bare_hole h) ≡ bare_hole h
hole_twice item = refl
hole_twice (star_of x) = refl
hole_twice (plus_of x) = refl

pub hole_separates : (h : Hole) → is_separator (bare_hole h) ≡ is_separator h
hole_separates item = refl
hole_separates (star_of x) = refl
hole_separates (plus_of x) = refl

final_alike : (p : Phase) (v w : Work) → whether (M.final p v) ≡ whether (M.final (bare p) w)
final_alike rule_next v w = refl
final_alike _ v w = refl

abbrev bared : State → Work → State
bared s w = record { phase = bare s.phase; work = w }

some_outline : (x y : Outline) → Some x ≡ Some y → x ≡ y
some_outline x y e = cc e

run_bare : (ts : List Token) (s : State) (w : Work) → holes s.work ≡ holes w → whether (M.run ts s) ≡ whether (M.run ts (bared s w))
run_bare [] s w e = final_alike s.phase s.work w
run_bare (t ∷ ts) s w e = go (M.step s.phase s.work t.gap t.lexeme) (M.step (bare s.phase) w t.gap t.lexeme) (step_alike s.phase s.work w t.gap t.lexeme e) (λ u x q. run_bare ts u x q)
  where
    go : (o u : Option State) → Alike o u → ((r : State) (x : Work) → holes r.work ≡ holes x → whether (M.run ts r) ≡ whether (M.run ts (bared r x)))
        → whether (M.then_run o (λ r. M.run ts r)) ≡ whether (M.then_run u (λ r. M.run ts r))
    go None None a f = refl
    go None (Some r) a f = cc a
    go (Some r) None a f = cc a
    go (Some r) (Some q) a f =
        let p = some_outline _ _ a in
        f r q.work (ap (λ (o : Outline). o.holes) p)
        ∙ ap (λ (z : Phase). let n : State = record { phase = z; work = q.work } in whether (M.run ts n)) (ap (λ (o : Outline). o.phase) p)
        ∙ sym (f q q.work refl)

-- what comes of the tokens is the same from two states of one outline
pub run_alike : (ts : List Token) (s u : State) → outline s ≡ outline u → whether (M.run ts s) ≡ whether (M.run ts u)
run_alike ts s u e =
    run_bare ts s u.work (ap (λ (o : Outline). o.holes) e)
    ∙ ap (λ (z : Phase). let n : State = record { phase = z; work = u.work } in whether (M.run ts n)) (ap (λ (o : Outline). o.phase) e)
    ∙ sym (run_bare ts u u.work refl)
