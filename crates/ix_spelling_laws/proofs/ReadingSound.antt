-- What is read is spelled so.
use Rattle.std.proofs.Common.{◌≡◌, refl, sym, ap, ap₂, ◌∙◌, subst, ℕ, List, [], ◌∷◌, ◌++◌, length, ◌⊎◌, inl, inr, arith, Option, Some, None, append_assoc}
use Rattle.std.proofs.lemmas.List.{append-nil}
use Rattle.std.proofs.lemmas.Bool.{ltb-true, eqb-true}
use Rattle.std.specs.Prelude.{Bool, true, false, ◌&&◌, ◌==◌, if◌then◌else◌, codes}
use Rattle.ix_model.specs.declared.grammar.Grammar.{Grammar}
use Rattle.ix_model.specs.declared.grammar.Rule.{Rule}
use Rattle.ix_model.specs.declared.grammar.Mark.{Mark}
use Rattle.ix_model.specs.declared.grammar.Mark.TheVariants.{Element, Attribute, Hidden}
use Rattle.ix_model.specs.declared.grammar.TMark.{TMark}
use Rattle.ix_model.specs.declared.grammar.TMark.TheVariants.{Shown, Deleted}
use Rattle.ix_model.specs.declared.grammar.Chars.TheVariants as chars
use Rattle.ix_model.specs.declared.grammar.Member.{Member}
use Rattle.ix_model.specs.declared.grammar.Member.TheVariants as member
use Rattle.ix_model.specs.declared.grammar.Bound.{Bound}
use Rattle.ix_model.specs.declared.grammar.Alt.{Alt}
use Rattle.ix_model.specs.declared.grammar.Term.{Term, One, Opt, Star, Plus}
use Rattle.ix_model.specs.declared.grammar.Factor.{Factor, Group}
use Rattle.ix_model.specs.Spelling.Spacing.{Takes, S, RS}
use Rattle.ix_model.specs.Spelling.Words.{NameAt}
use Rattle.ix_model.specs.Spelling.Spells as Sp
use Rattle.ix_model.specs.Spelling.Spells.{StringAt, MarkAt, BoundAt, MemberAt, MembersAt, SetAt, AltsAt, AltAt, TermsAt, TermAt, FactorAt, RuleAt, RulesAt, PrologAt, Spells, is_class}
use Rattle.ix_spelling_laws.specs.Reading.Lexing.{Lexeme, word, quote, hex, at, caret, dash, colon, equals, semi, bar, comma, stop, question, star, stars, plus, pluses, open_group, close_group, open_set, close_set, tilde, Token, after, has_gap, Lexes}
use Rattle.ix_spelling_laws.specs.Reading.Tokens.{TokenAt}
use Rattle.ix_spelling_laws.specs.Reading.Machine as M
use Rattle.ix_spelling_laws.proofs.ReadingRest as R
use Rattle.ix_spelling_laws.proofs.ReadingRest.{Tail, MoreTerms, MoreAlts, BoundTail, MoreMembers, SetInner, AfterMark, AltThen, TermThen, ItemThen, FactorThen, RulesThen, CloseThen, Closing, DoneThen, MembersThen, NamedThen, VersionThen, Rest, StepRest, head_of, Then}
use Rattle.ix_spelling_laws.proofs.SpacingFacts.{spacing_runs, spacing_to_after}
use Rattle.ix_spelling_laws.proofs.TokenFacts.{token_read, token_solid}

-- ---- factors

after_rest : (h : M.Hole) (f : M.Frame) (w : M.Work) (x : Factor) (r : List ℕ) (g : Grammar) → Rest (M.after_factor h f w x).phase (M.after_factor h f w x).work r g → (e : List ℕ) × S r e × FactorThen h f x e (Closing w g)
after_rest M.item f w x r g h = h
after_rest (M.star_of i) f w x r g h = h
after_rest (M.plus_of i) f w x r g h = h

done_rest : (w : M.Work) (x : Factor) (r : List ℕ) (g : Grammar) → Rest (M.factor_done w x).phase (M.factor_done w x).work r g → (e : List ℕ) × S r e × DoneThen w x e g
done_rest w x r g h = after_rest w.top.hole w.top w x r g h

-- a factor stands here, and then what is still to be spelled
abbrev FactorHere : M.Work → List ℕ → Grammar → Type 0
FactorHere w b g = (q : List ℕ) × (x : Factor) × FactorAt b q x × DoneThen w x q g

group_here : (w : M.Work) (b c d r : List ℕ) (al : List Alt) (g : Grammar) → Takes (codes "(") b c → S c d → AltsAt d r al → Closing (M.opened w) g al r → FactorHere w b g
group_here w b c d r al g t s h (e, f, u, v, k) = (f, Group al, Sp.grouped b c d r e f al t s h u v, k)

inner_set : (b r d e : List ℕ) (ms : List Member) → Takes (codes "[") b r → S r d → SetInner d e ms → SetAt b e false ms
inner_set b r d e ms t s (R.inner_none _ _ u) = Sp.empty_set b r d e t s u
inner_set b r d e ms t s (R.inner_some _ f _ _ m u) = Sp.members b r d f e ms t s m u

start_sound : (w : M.Work) (k : Lexeme) (b r : List ℕ) (g : Grammar) → TokenAt b r k → StepRest (M.start_factor w k) r g → FactorHere w b g
start_sound w (word n) b r g t h =
    let (e, s, k) = done_rest w _ r g h in (e, _, Sp.called b b r e None n (Sp.no_mark b) t s, k)
start_sound w (quote xs) b r g t h =
    let (e, s, k) = done_rest w _ r g h in (e, _, Sp.literal b b e None _ (Sp.no_tmark b) (Sp.by_string b r e xs t s), k)
start_sound w (hex ds) b r g t h =
    let (e, s, k) = done_rest w _ r g h in (e, _, Sp.literal b b e None _ (Sp.no_tmark b) (Sp.by_number b r e ds t s), k)
start_sound w at b r g t (d, e, q, n, s, a, u, k) = (q, _, Sp.called b d e q (Some Attribute) n (Sp.attribute b r d t s) a u, k)
start_sound w caret b r g t (d, q, x, s, a, k) = (q, x, shown_mark b r d q x t s a, k)
  where
    shown_mark : (b r d q : List ℕ) (x : Factor) → Takes (codes "^") b r → S r d → AfterMark Shown d q x → FactorAt b q x
    shown_mark b r d q x t s (R.mark_literal _ _ cs h) = Sp.literal b d q _ cs (Sp.shown b r d t s) h
    shown_mark b r d q x t s (R.mark_set _ e _ ex ms h u) = Sp.set b d e q _ ex ms (Sp.shown b r d t s) h u
    shown_mark b r d q x t s (R.mark_call _ e _ n h u) = Sp.called b d e q _ n (Sp.element b r d t s) h u
start_sound w dash b r g t (d, q, x, s, a, k) = (q, x, deleted_mark b r d q x t s a, k)
  where
    deleted_mark : (b r d q : List ℕ) (x : Factor) → Takes (codes "-") b r → S r d → AfterMark Deleted d q x → FactorAt b q x
    deleted_mark b r d q x t s (R.mark_literal _ _ cs h) = Sp.literal b d q _ cs (Sp.deleted b r d t s) h
    deleted_mark b r d q x t s (R.mark_set _ e _ ex ms h u) = Sp.set b d e q _ ex ms (Sp.deleted b r d t s) h u
    deleted_mark b r d q x t s (R.mark_call _ e _ n h u) = Sp.called b d e q _ n (Sp.hidden b r d t s) h u
start_sound w plus b r g t (d, q, cs, s, a, k) = (q, _, Sp.inserted b r d q cs t s a, k)
start_sound w tilde b r g t (d, e, q, ms, s, a, u, k) = (q, _, Sp.set b b e q None true ms (Sp.no_tmark b) (Sp.excluded b r d e ms t s a) u, k)
start_sound w open_set b r g t (d, e, ms, s, a, (q, u, k)) = (q, _, Sp.set b b e q None false ms (Sp.no_tmark b) (inner_set b r d e ms t s a) u, k)
start_sound w open_group b r g t (d, q, al, s, a, k) = group_here w b r d q al g t s a k
start_sound w _ b r g t h = absurd h

-- ---- terms and alternatives

term_of : (b c r : List ℕ) (x : Factor) (t : Term) → FactorAt b c x → Tail x c r t → TermAt b r t
term_of b c r x t h (R.tail_none _) = Sp.alone b r x h
term_of b c r x t h (R.tail_option _ d _ u s) = Sp.option b c d r x h u s
term_of b c r x t h (R.tail_star _ d _ u s) = Sp.star b c d r x h u s
term_of b c r x t h (R.tail_star_by _ d e _ y u s k) = Sp.star_by b c d e r x y h u s k
term_of b c r x t h (R.tail_plus _ d _ u s) = Sp.plus b c d r x h u s
term_of b c r x t h (R.tail_plus_by _ d e _ y u s k) = Sp.plus_by b c d e r x y h u s k

terms_of : (b c r : List ℕ) (t : Term) (ts : List Term) → TermAt b c t → MoreTerms c r ts → TermsAt b r t ts
terms_of b c r t ts h (R.no_more_terms _) = Sp.last_term b c t h
terms_of b c r t ts h (R.and_terms _ d e _ u us k s m) = Sp.more_terms b c d e r t u us h k s m

alts_of : (b c r : List ℕ) (a : Alt) (al : List Alt) → AltAt b c a.terms → MoreAlts c r al → AltsAt b r (a ∷ al)
alts_of b c r a al h (R.no_more_alts _) = Sp.last_alt b c a h
alts_of b c r a al h (R.and_alts _ d e _ _ k s m) = Sp.more_alts b c d e r a al h k s m

item_terms : (x : Factor) (f : M.Frame) (d r : List ℕ) (k : Then) → FactorAt d r x → ItemThen x f r k
    → (t : Term) × (ts : List Term) × (q : List ℕ) × TermsAt d q t ts × AltThen (record { alts = f.alts; terms = f.terms ++ t ∷ ts; hole = M.item }) q k
item_terms x f d r k h (t, e, u, (ts, q, m, a)) =
    (t, ts, q, terms_of d e q t ts (term_of d r e x t h u) m, subst (λ (z : List Term). AltThen (record { alts = f.alts; terms = z; hole = M.item }) q k) (append_assoc f.terms (t ∷ []) ts) a)

close_sound : (fs : List M.Frame) (w : M.Work) (al : List Alt) (b r : List ℕ) (g : Grammar) → Takes (codes ")") b r → StepRest (M.close fs w al) r g → CloseThen fs (head_of w) g al b
close_sound [] w al b r g t h = absurd h
close_sound (f ∷ fs) w al b r g t h = let (e, s, k) = after_rest f.hole f (record w { below = fs }) (Group al) r g h in (r, e, t, s, k)

end_rule_sound : (fs : List M.Frame) (w : M.Work) (al : List Alt) (b r : List ℕ) (g : Grammar) → Takes (codes ".") b r → StepRest (M.end_rule fs w al) r g → CloseThen fs (head_of w) g al b
end_rule_sound [] w al b r g t h = (r, t, h)
end_rule_sound (f ∷ fs) w al b r g t h = absurd h

next_alt : (f : M.Frame) (w : M.Work) (b r : List ℕ) (g : Grammar) → Takes (codes ";") b r ⊎ Takes (codes "|") b r → Rest M.alt_start (record w { top = record { alts = M.complete f; terms = []; hole = M.item } }) r g → AltThen f b (Closing w g)
next_alt f w b r g t (d, q, al, s, a, k) =
    (al, q, R.and_alts b r d q al t s a, subst (λ (z : List Alt). Closing w g z q) (append_assoc f.alts (record { terms = f.terms } ∷ []) al) k)

end_alt_sound : (f : M.Frame) (w : M.Work) (k : Lexeme) (b r : List ℕ) (g : Grammar) → TokenAt b r k → StepRest (M.end_alt f w k) r g → AltThen f b (Closing w g)
end_alt_sound f w semi b r g t h = next_alt f w b r g (inl t) h
end_alt_sound f w bar b r g t h = next_alt f w b r g (inr t) h
end_alt_sound f w close_group b r g t h = ([], b, R.no_more_alts b, close_sound w.below w (M.complete f) b r g t h)
end_alt_sound f w stop b r g t h = ([], b, R.no_more_alts b, end_rule_sound w.below w (M.complete f) b r g t h)
end_alt_sound f w _ b r g t h = absurd h

no_more : (f : M.Frame) (b : List ℕ) (k : Then) → AltThen f b k → TermThen f b k
no_more f b k a = ([], b, R.no_more_terms b, subst (λ (z : List Term). AltThen (record { alts = f.alts; terms = z; hole = M.item }) b k) (sym (append-nil f.terms)) a)

next_term : (f : M.Frame) (w : M.Work) (b r : List ℕ) (g : Grammar) → Takes (codes ",") b r → Rest M.want (record w { top = M.with_hole f M.item }) r g → TermThen f b (Closing w g)
next_term f w b r g u (d, q, x, s, h, i) =
    let (t, ts, e, m, a) = item_terms x f d q (Closing w g) h i in
    (t ∷ ts, e, R.and_terms b r d e t ts u s m, a)

end_term_sound : (f : M.Frame) (w : M.Work) (k : Lexeme) (b r : List ℕ) (g : Grammar) → TokenAt b r k → StepRest (M.end_term f w k) r g → TermThen f b (Closing w g)
end_term_sound f w comma b r g t h = next_term f w b r g t h
end_term_sound f w k b r g t h = no_more f b (Closing w g) (end_alt_sound f w k b r g t h)

end_item_sound : (x : Factor) (f : M.Frame) (w : M.Work) (k : Lexeme) (b r : List ℕ) (g : Grammar) → TokenAt b r k → StepRest (M.end_item x f w k) r g → ItemThen x f b (Closing w g)
end_item_sound x f w question b r g t (d, s, k) = (Opt x, d, R.tail_option b r d t s, k)
end_item_sound x f w star b r g t (d, s, k) = (Star x None, d, R.tail_star b r d t s, k)
end_item_sound x f w plus b r g t (d, s, k) = (Plus x None, d, R.tail_plus b r d t s, k)
end_item_sound x f w stars b r g t (d, q, y, s, h, k) = (Star x (Some y), q, R.tail_star_by b r d q y t s h, k)
end_item_sound x f w pluses b r g t (d, q, y, s, h, k) = (Plus x (Some y), q, R.tail_plus_by b r d q y t s h, k)
end_item_sound x f w k b r g t h = (One x, b, R.tail_none b, end_term_sound (M.with_term f (One x)) w k b r g t h)

-- alternatives begin here
abbrev AltsHere : M.Work → List ℕ → Grammar → Type 0
AltsHere w b g = (r : List ℕ) × (al : List Alt) × AltsAt b r al × Closing w g (w.top.alts ++ al) r

empty_here : (w : M.Work) (b : List ℕ) (g : Grammar) → AltThen (M.fresh w.top) b (Closing w g) → AltsHere w b g
empty_here w b g (al, r, m, k) = (r, record { terms = [] } ∷ al, alts_of b b r (record { terms = [] }) al (Sp.empty_alt b) m, k)

terms_here : (w : M.Work) (b : List ℕ) (g : Grammar) → FactorHere (M.on_top w (M.fresh w.top)) b g → AltsHere w b g
terms_here w b g (q, x, h, i) =
    let (t, ts, e, m, (al, r, n, k)) = item_terms x (M.fresh w.top) b q (Closing w g) h i in
    (r, record { terms = t ∷ ts } ∷ al, alts_of b e r (record { terms = t ∷ ts }) al (Sp.some_terms b e t ts m) n, k)

-- ---- sets

bound_member : (b c r : List ℕ) (x : Bound) (m : Member) → BoundAt b c x → BoundTail x c r m → MemberAt b r m
bound_member b c r x m (Sp.one_character y _ _ h) (R.bound_alone _) = Sp.string_member b c (y ∷ []) h
bound_member b c r x m (Sp.one_number _ _ ds h) (R.bound_alone _) = Sp.number_member b c ds h
bound_member b c r x m h (R.bound_range _ d e f _ high s t u k) = Sp.range_member b c d e f r x high h s t u k

members_of : (b d e f : List ℕ) (m : Member) (ms : List Member) → MemberAt b d m → S d e → MoreMembers e f ms → (q : List ℕ) × MembersAt b q (m ∷ ms) × Takes (codes "]") q f
members_of b d e f m ms h s (R.no_more_members _ _ t) = (e, Sp.last_member b d e m h s, t)
members_of b d e f m ms h s (R.and_members _ i j k _ _ t u n v) = (k, Sp.more_members b d e i j k m ms h s t u n, v)

abbrev MembersHere : M.Part → M.Work → List ℕ → Grammar → Type 0
MembersHere s w b g = (e f : List ℕ) × (ms : List Member) × MembersAt b e ms × Takes (codes "]") e f × MembersThen s w (s.members ++ ms) f g

abbrev MoreHere : M.Part → M.Work → List ℕ → Grammar → Type 0
MoreHere s w b g = (e : List ℕ) × (ms : List Member) × MoreMembers b e ms × MembersThen s w (s.members ++ ms) e g

bound_here : (s : M.Part) (w : M.Work) (x : Bound) (b r : List ℕ) (g : Grammar) → BoundAt b r x → Rest (M.bound_read s x) w r g → MembersHere s w b g
bound_here s w x b r g h (d, e, f, m, ms, t, u, n, k) =
    let (q, a, c) = members_of b d e f m ms (bound_member b r d x m h t) u n in (q, f, m ∷ ms, a, c, k)

member_here : (s : M.Part) (w : M.Work) (m : Member) (b r : List ℕ) (g : Grammar) → MemberAt b r m → Rest (M.member_read (M.with_member s m)) w r g → MembersHere s w b g
member_here s w m b r g h (d, e, ms, u, n, k) =
    let (q, a, c) = members_of b r d e m ms h u n in
    (q, e, m ∷ ms, a, c, subst (λ (z : List Member). MembersThen s w z e g) (append_assoc s.members (m ∷ []) ms) k)

quoted_here : (s : M.Part) (w : M.Work) (xs : List ℕ) (b r : List ℕ) (g : Grammar) → StringAt b r xs → StepRest (M.quoted_member s w xs) r g → MembersHere s w b g
quoted_here s w (x ∷ []) b r g t h = bound_here s w _ b r g (Sp.one_character x b r t) h
quoted_here s w [] b r g t h = member_here s w _ b r g (Sp.string_member b r [] t) h
quoted_here s w (x ∷ y ∷ xs) b r g t h = member_here s w _ b r g (Sp.string_member b r (x ∷ y ∷ xs) t) h

start_member_sound : (s : M.Part) (w : M.Work) (k : Lexeme) (b r : List ℕ) (g : Grammar) → TokenAt b r k → StepRest (M.start_member s w k) r g → MembersHere s w b g
start_member_sound s w (quote xs) b r g t h = quoted_here s w xs b r g t h
start_member_sound s w (hex ds) b r g t h = bound_here s w _ b r g (Sp.one_number b r ds t) h
start_member_sound s w (word n) b r g t h =
    elim (is_class n) as (λ v. is_class n ≡ v → StepRest (if v then M.goes (M.member_read (M.with_member s (member.Class n))) w else None) r g → MembersHere s w b g) [
      | true ↦ λ e k. member_here s w _ b r g (Sp.class_member b r n e t) k
      | false ↦ λ _ k. absurd k
    ] refl h
start_member_sound s w _ b r g t h = absurd h

end_member_sound : (s : M.Part) (w : M.Work) (k : Lexeme) (b r : List ℕ) (g : Grammar) → TokenAt b r k → StepRest (M.end_member s w k) r g → MoreHere s w b g
end_member_sound s w semi b r g t (d, e, f, ms, u, n, v, k) = (f, ms, R.and_members b r d e f ms (inl t) u n v, k)
end_member_sound s w bar b r g t (d, e, f, ms, u, n, v, k) = (f, ms, R.and_members b r d e f ms (inr t) u n v, k)
end_member_sound s w close_set b r g t h =
    let (e, u, k) = done_rest w _ r g h in
    (r, [], R.no_more_members b r t, subst (λ (z : List Member). MembersThen s w z r g) (sym (append-nil s.members)) (e, u, k))
end_member_sound s w _ b r g t h = absurd h

more_of_bound : (s : M.Part) (w : M.Work) (x : Bound) (c b : List ℕ) (g : Grammar) → S c b → MoreHere (M.with_member s (M.member_of x)) w b g → Rest (M.bound_read s x) w c g
more_of_bound s w x c b g u (e, ms, n, k) =
    (c, b, e, M.member_of x, ms, R.bound_alone c, u, n, subst (λ (z : List Member). MembersThen s w z e g) (append_assoc s.members (M.member_of x ∷ []) ms) k)

range_of_bound : (s : M.Part) (w : M.Work) (x : Bound) (c b r : List ℕ) (g : Grammar) → S c b → Takes (codes "-") b r → Rest (M.range_to s x) w r g → Rest (M.bound_read s x) w c g
range_of_bound s w x c b r g u t (d, e, f, h, high, ms, v, k, i, n, q) =
    (e, f, h, member.Range x high, ms, R.bound_range c b r d e high u t v k, i, n, q)

range_read : (s : M.Part) (w : M.Work) (low high : Bound) (c b r : List ℕ) (g : Grammar) → S c b → BoundAt b r high → Rest (M.member_read (M.with_member s (member.Range low high))) w r g → Rest (M.range_to s low) w c g
range_read s w low high c b r g u t (d, e, ms, v, n, k) =
    (b, r, d, e, high, ms, u, t, v, n, subst (λ (z : List Member). MembersThen s w z e g) (append_assoc s.members (member.Range low high ∷ []) ms) k)

quoted_range : (s : M.Part) (w : M.Work) (low : Bound) (xs : List ℕ) (c b r : List ℕ) (g : Grammar) → S c b → StringAt b r xs → StepRest (M.quoted_bound s low w xs) r g → Rest (M.range_to s low) w c g
quoted_range s w low (x ∷ []) c b r g u t h = range_read s w low _ c b r g u (Sp.one_character x b r t) h
quoted_range s w low [] c b r g u t h = absurd h
quoted_range s w low (x ∷ y ∷ xs) c b r g u t h = absurd h

marked_sound : (m : TMark) (w : M.Work) (k : Lexeme) (b r : List ℕ) (g : Grammar) → TokenAt b r k → StepRest (M.marked_factor m w k) r g → (q : List ℕ) × (x : Factor) × AfterMark m b q x × DoneThen w x q g
marked_sound m w (quote xs) b r g t h = let (e, s, k) = done_rest w _ r g h in (e, _, R.mark_literal b e _ (Sp.by_string b r e xs t s), k)
marked_sound m w (hex ds) b r g t h = let (e, s, k) = done_rest w _ r g h in (e, _, R.mark_literal b e _ (Sp.by_number b r e ds t s), k)
marked_sound m w (word n) b r g t h = let (e, s, k) = done_rest w _ r g h in (e, _, R.mark_call b r e n t s, k)
marked_sound m w tilde b r g t (d, e, q, ms, s, a, u, k) = (q, _, R.mark_set b e q true ms (Sp.excluded b r d e ms t s a) u, k)
marked_sound m w open_set b r g t (d, e, ms, s, a, (q, u, k)) = (q, _, R.mark_set b e q false ms (inner_set b r d e ms t s a) u, k)
marked_sound m w _ b r g t h = absurd h

-- ---- rules

abbrev RulesHere : M.Work → List ℕ → Grammar → Type 0
RulesHere w b g = (q : List ℕ) × (rs : List Rule) × RulesAt b q rs × S q [] × (g ≡ record { version = w.version; rules = w.rules ++ rs })

rules_of : (w : M.Work) (b i : List ℕ) (rule : Rule) (g : Grammar) → RuleAt b i rule → RulesThen w.version (w.rules ++ rule ∷ []) i g → RulesHere w b g
rules_of w b i rule g h (inl (s, e)) = (i, rule ∷ [], Sp.last_rule b i rule h, s, e)
rules_of w b i rule g h (inr (d, r, rs, a, k, s, e)) =
    (r, rule ∷ rs, Sp.more_rules b i d r rule rs h a k, s, e ∙ ap (λ (z : List Rule). record { version = w.version; rules = z }) (append_assoc w.rules (rule ∷ []) rs))

rule_here : (w : M.Work) (m : Option Mark) (n b c d : List ℕ) (g : Grammar) → MarkAt b c m → NameAt c d n → NamedThen (M.named w m n) d g → RulesHere w b g
rule_here w m n b c d g a t (e, f, h, i, al, s, u, v, k, (r, x, y)) =
    rules_of w b r (record { mark = m; name = n; alts = al }) g (Sp.a_rule b c d e f h i r (record { mark = m; name = n; alts = al }) a t s u v k x) y

start_rule_sound : (w : M.Work) (k : Lexeme) (b r : List ℕ) (g : Grammar) → TokenAt b r k → StepRest (M.start_rule w k) r g → RulesHere w b g
start_rule_sound w (word n) b r g t h = rule_here w None n b b r g (Sp.no_mark b) t h
start_rule_sound w at b r g t (d, e, n, s, a, k) = rule_here w (Some Attribute) n b d e g (Sp.attribute b r d t s) a k
start_rule_sound w caret b r g t (d, e, n, s, a, k) = rule_here w (Some Element) n b d e g (Sp.element b r d t s) a k
start_rule_sound w dash b r g t (d, e, n, s, a, k) = rule_here w (Some Hidden) n b d e g (Sp.hidden b r d t s) a k
start_rule_sound w _ b r g t h = absurd h

open_rule_sound : (w : M.Work) (k : Lexeme) (c b r : List ℕ) (g : Grammar) → S c b → TokenAt b r k → StepRest (M.open_rule w k) r g → NamedThen w c g
open_rule_sound w equals c b r g s t (d, q, al, u, a, k) = (b, r, d, q, al, s, inl t, u, a, k)
open_rule_sound w colon c b r g s t (d, q, al, u, a, k) = (b, r, d, q, al, s, inr t, u, a, k)
open_rule_sound w _ c b r g s t h = absurd h

spelled : (c b d q : List ℕ) (v : Option (List ℕ)) (rs : List Rule) (g : Grammar) → S c b → PrologAt b d v → RulesAt d q rs → S q [] → g ≡ record { version = v; rules = rs } → Spells c g
spelled c b d q v rs g s p h u e = subst (λ (z : Grammar). Spells c z) (sym e) (Sp.spells c b d q (record { version = v; rules = rs }) s p h u)

spelled_rules : (w : M.Work) (c b : List ℕ) (g : Grammar) → w ≡ M.start.work → S c b → RulesHere w b g → Spells c g
spelled_rules w c b g e s (q, rs, h, u, k) =
    let p : record { version = w.version; rules = w.rules ++ rs } ≡ record { version = None; rules = rs } = ap (λ (z : M.Work). let x : Grammar = record { version = z.version; rules = z.rules ++ rs } in x) e in
    spelled c b b q None rs g s (Sp.no_prolog b) h u (k ∙ p)

pub text_is : (xs ys : List ℕ) → M.is_text xs ys ≡ true → xs ≡ ys
text_is [] [] h = refl
text_is (x ∷ xs) (y ∷ ys) h =
    elim (x == y) as (λ b. (x == y) ≡ b → b && M.is_text xs ys ≡ true → x ∷ xs ≡ y ∷ ys) [
      | true ↦ λ e k. ap₂ (λ (a : ℕ) (z : List ℕ). a ∷ z) (eqb-true x y e) (text_is xs ys k)
      | false ↦ λ _ k. absurd (cc k)
    ] refl h
text_is [] (y ∷ ys) h = absurd (cc h)
text_is (x ∷ xs) [] h = absurd (cc h)

spelled_prolog : (w : M.Work) (n c b r : List ℕ) (g : Grammar) → w ≡ M.start.work → n ≡ codes "ixml" → S c b → NameAt b r n
    → NamedThen (M.named w None n) r g ⊎ ((d e : List ℕ) × RS r d × Takes (codes "version") d e × VersionThen (M.named w None n) e g) → Spells c g
spelled_prolog w n c b r g e i s t (inl h) = spelled_rules w c b g e s (rule_here w None n b b r g (Sp.no_mark b) t h)
spelled_prolog w n c b r g e i s t (inr (d, f, a, v, (h, j, xs, x, y, (k, l, u, z, (o, q, rs, aa, bb, cc0, dd))))) =
    let p : record { version = Some xs; rules = w.rules ++ rs } ≡ record { version = Some xs; rules = rs } = ap (λ (z : M.Work). let x : Grammar = record { version = Some xs; rules = z.rules ++ rs } in x) e in
    spelled c b o q (Some xs) rs g s (Sp.prolog b r d f h j k o xs (t.0 ∙ ap (λ (z : List ℕ). z ++ r) i) a v x y u l z aa) bb cc0 (dd ∙ p)

begin_sound : (w : M.Work) (k : Lexeme) (c b r : List ℕ) (g : Grammar) → S c b → TokenAt b r k → StepRest (M.begin_rule w k) r g → w ≡ M.start.work → Spells c g
begin_sound w (word n) c b r g s t h e =
    elim (M.is_text n (codes "ixml")) as (λ v. M.is_text n (codes "ixml") ≡ v → StepRest (if v then M.goes M.ixml (M.named w None n) else M.goes M.rule_named (M.named w None n)) r g → Spells c g) [
      | true ↦ λ i k. spelled_prolog w n c b r g e (text_is n (codes "ixml") i) s t k
      | false ↦ λ _ k. spelled_rules w c b g e s (rule_here w None n b b r g (Sp.no_mark b) t k)
    ] refl h
begin_sound w k c b r g s t h e = spelled_rules w c b g e s (start_rule_sound w k b r g t h)

gap_apart : (c b : List ℕ) → S c b → after b ≡ b → has_gap c ≡ true → RS c b
gap_apart c b s p h = (s, λ e. let q : length (after c) ≡ length c = ap length (spacing_runs c b s ∙ p ∙ sym e) in omega (arith, q, ltb-true _ _ h))

ixml_sound : (w : M.Work) (gap : Bool) (k : Lexeme) (c b r : List ℕ) (g : Grammar) → S c b → TokenAt b r k → gap ≡ has_gap c → StepRest (M.behind_ixml w gap k) r g → Rest M.ixml w c g
ixml_sound w true (word n) c b r g s t q h =
    elim (M.is_text n (codes "version")) as (λ v. M.is_text n (codes "version") ≡ v → StepRest (if v then M.goes M.version_next w else None) r g → Rest M.ixml w c g) [
      | true ↦ λ i k. inr (b, r, gap_apart c b s (token_solid b r (word n) t) (sym q), t.0 ∙ ap (λ (z : List ℕ). z ++ r) (text_is n (codes "version") i), k)
      | false ↦ λ _ k. absurd k
    ] refl h
ixml_sound w false (word n) c b r g s t q h = absurd h
ixml_sound w gap k c b r g s t q h = inl (open_rule_sound w k c b r g s t h)

next_rule_sound : (w : M.Work) (k : Lexeme) (c b r : List ℕ) (g : Grammar) → S c b → TokenAt b r k → true ≡ has_gap c → StepRest (M.start_rule w k) r g → RulesThen w.version w.rules c g
next_rule_sound w k c b r g s t q h =
    let (d, rs, a, u, e) = start_rule_sound w k b r g t h in
    inr (b, d, rs, gap_apart c b s (token_solid b r k t) (sym q), a, u, e)

-- ---- a step

step_sound : (p : M.Phase) (w : M.Work) (gap : Bool) (k : Lexeme) (c b r : List ℕ) (g : Grammar) → S c b → TokenAt b r k → gap ≡ has_gap c → StepRest (M.step p w gap k) r g → Rest p w c g
step_sound M.begin w gap k c b r g s t q h = begin_sound w k c b r g s t h
step_sound M.ixml w gap k c b r g s t q h = ixml_sound w gap k c b r g s t q h
step_sound M.version_next w true (quote xs) c b r g s t q h = (b, r, xs, gap_apart c b s (token_solid b r (quote xs) t) (sym q), t, h)
step_sound M.version_next w _ _ c b r g s t q h = absurd h
step_sound M.prolog_stop w gap stop c b r g s t q h = (b, r, s, t, h)
step_sound M.prolog_stop w gap _ c b r g s t q h = absurd h
step_sound M.rule_start w gap k c b r g s t q h =
    let (d, rs, a, u, e) = start_rule_sound w k b r g t h in (b, d, rs, s, a, u, e)
step_sound M.rule_next w true k c b r g s t q h = next_rule_sound w k c b r g s t q h
step_sound M.rule_next w false k c b r g s t q h = absurd h
step_sound M.rule_marked w gap (word n) c b r g s t q h = (b, r, n, s, t, h)
step_sound M.rule_marked w gap _ c b r g s t q h = absurd h
step_sound M.rule_named w gap k c b r g s t q h = open_rule_sound w k c b r g s t h
step_sound M.alt_start w gap semi c b r g s t q h = let (d, al, a, k) = empty_here w b g (end_alt_sound (M.fresh w.top) w semi b r g t h) in (b, d, al, s, a, k)
step_sound M.alt_start w gap bar c b r g s t q h = let (d, al, a, k) = empty_here w b g (end_alt_sound (M.fresh w.top) w bar b r g t h) in (b, d, al, s, a, k)
step_sound M.alt_start w gap close_group c b r g s t q h = let (d, al, a, k) = empty_here w b g (end_alt_sound (M.fresh w.top) w close_group b r g t h) in (b, d, al, s, a, k)
step_sound M.alt_start w gap stop c b r g s t q h = let (d, al, a, k) = empty_here w b g (end_alt_sound (M.fresh w.top) w stop b r g t h) in (b, d, al, s, a, k)
step_sound M.alt_start w gap k c b r g s t q h =
    let (d, al, a, i) = terms_here w b g (start_sound (M.on_top w (M.fresh w.top)) k b r g t h) in (b, d, al, s, a, i)
step_sound M.want w gap k c b r g s t q h = let (d, x, a, i) = start_sound w k b r g t h in (b, d, x, s, a, i)
step_sound (M.marked m) w gap k c b r g s t q h = let (d, x, a, i) = marked_sound m w k b r g t h in (b, d, x, s, a, i)
step_sound M.at_marked w gap (word n) c b r g s t q h = let (e, u, k) = done_rest w _ r g h in (b, r, e, n, s, t, u, k)
step_sound M.at_marked w gap _ c b r g s t q h = absurd h
step_sound M.inserting w gap (quote xs) c b r g s t q h = let (e, u, k) = done_rest w _ r g h in (b, e, chars.Quoted xs, s, Sp.by_string b r e xs t u, k)
step_sound M.inserting w gap (hex ds) c b r g s t q h = let (e, u, k) = done_rest w _ r g h in (b, e, chars.Code ds, s, Sp.by_number b r e ds t u, k)
step_sound M.inserting w gap _ c b r g s t q h = absurd h
step_sound (M.excluding m) w gap open_set c b r g s t q (d, e, ms, u, a, (f, v, k)) = (b, e, f, ms, s, inner_set b r d e ms t u a, v, k)
step_sound (M.excluding m) w gap _ c b r g s t q h = absurd h
step_sound (M.set_start p) w gap close_set c b r g s t q h =
    let (e, u, k) = done_rest w _ r g h in
    (b, r, [], s, R.inner_none b r t, subst (λ (z : List Member). MembersThen p w z r g) (sym (append-nil p.members)) (e, u, k))
step_sound (M.set_start p) w gap k c b r g s t q h =
    let (e, f, ms, a, u, i) = start_member_sound p w k b r g t h in (b, f, ms, s, R.inner_some b e f ms a u, i)
step_sound (M.member_next p) w gap k c b r g s t q h =
    let (e, f, ms, a, u, i) = start_member_sound p w k b r g t h in (b, e, f, ms, s, a, u, i)
step_sound (M.bound_read p x) w gap dash c b r g s t q h = range_of_bound p w x c b r g s t h
step_sound (M.bound_read p x) w gap k c b r g s t q h = more_of_bound p w x c b g s (end_member_sound (M.with_member p (M.member_of x)) w k b r g t h)
step_sound (M.range_to p x) w gap (quote xs) c b r g s t q h = quoted_range p w x xs c b r g s t h
step_sound (M.range_to p x) w gap (hex ds) c b r g s t q h = range_read p w x _ c b r g s (Sp.one_number b r ds t) h
step_sound (M.range_to p x) w gap _ c b r g s t q h = absurd h
step_sound (M.member_read p) w gap k c b r g s t q h = let (e, ms, a, i) = end_member_sound p w k b r g t h in (b, e, ms, s, a, i)
step_sound (M.item_read x) w gap k c b r g s t q h = (b, s, end_item_sound x w.top w k b r g t h)
step_sound M.term_read w gap k c b r g s t q h = (b, s, end_term_sound w.top w k b r g t h)

final_sound : (p : M.Phase) (w : M.Work) (c : List ℕ) (g : Grammar) → S c [] → M.final p w ≡ Some g → Rest p w c g
final_sound M.rule_next w c g s h = inl (s, sym (cc h))
final_sound _ w c g s h = absurd (cc h)

onward : (o : Option M.State) (ts : List Token) (r : List ℕ) (g : Grammar) → ((u : M.State) → M.run ts u ≡ Some g → Rest u.phase u.work r g) → M.then_run o (λ u. M.run ts u) ≡ Some g → StepRest o r g
onward None ts r g f k = absurd (cc k)
onward (Some u) ts r g f k = f u k

sound : (ts : List Token) (s : M.State) (c : List ℕ) (g : Grammar) → Lexes ts c → M.run ts s ≡ Some g → Rest s.phase s.work c g
sound [] s c g l h = final_sound s.phase s.work c g (subst (λ (z : List ℕ). S c z) l (spacing_to_after c)) h
sound (t ∷ ts) s c g (r, q, n, l) h =
    step_sound s.phase s.work t.gap t.lexeme c (after c) r g (spacing_to_after c) (token_read (after c) r t.lexeme n) q (onward (M.step s.phase s.work t.gap t.lexeme) ts r g (λ u k. sound ts u r g l k) h)

-- what the tokens read is spelled so
pub reads_spelled : (ts : List Token) (c : List ℕ) (g : Grammar) → Lexes ts c → M.run ts M.start ≡ Some g → Spells c g
reads_spelled ts c g l h = sound ts M.start c g l h refl
