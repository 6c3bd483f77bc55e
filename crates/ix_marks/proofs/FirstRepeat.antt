-- The repeated number is that of the first repeated name, where the names are distinct.
use Rattle.std.proofs.Common.{◌≡◌, ◌≤◌, ◌<◌, ◌⊎◌, inl, inr, refl, ap, sym, subst, ◌∙◌, ℕ, zero, suc, Bool, true, false, eqb, List, [], ◌∷◌, ◌++◌, length, map, get_or, Option, Some, None, slice_get, append_assoc, append-nil, length-append, arith}
use Rattle.std.specs.Prelude.{◌||◌, MatchOption}
use Rattle.std.specs.List.{flat_map}
use Rattle.std.specs.Option.{option_or}
use Rattle.std.proofs.Math.Bool.{or-true}
use Rattle.std.proofs.lemmas.Bool.{cond_both, eqb-true}
use Rattle.std.proofs.lemmas.Bool.Decides.{nat_tests}
use Rattle.std.proofs.lemmas.List.{map-append}
use Rattle.std.proofs.lemmas.Option.{slice_get_within}
use Rattle.ix_model.specs.Documents.Gives.{Givens}
use Rattle.ix_model.specs.Firsts.{IsFirstOf}
use Rattle.ix_model.specs.Documents.Dyn.{content_attributes, IsRepeat, HasRepeat, Holds, same_attribute}
use Rattle.ix_marks.specs.declared.item.Item.{Item}
use Rattle.ix_marks.specs.declared.item.Item.TheVariants.{Begin, Close, Chars}
use Rattle.ix_marks.specs.declared.item.Attr.{Attr}
use Rattle.ix_model.proofs.AllOf.{all_append}
use Rattle.ix_model.proofs.Firsts.{at_front, behind}
use Rattle.ix_marks.specs.InRange.{AreAttrsIn}
use Rattle.ix_marks.specs.Laws.{AreDistinct, RepeatTells}
use Rattle.ix_marks.specs.Meaning.{attribute_of, piece_of}
use Rattle.ix_marks.specs.Ranges.{range_of}
use Rattle.ix_marks.specs.Repeats.{numbers, repeat_behind, repeat_among}
use Rattle.ix_marks.specs.Telling.{names_of, piece_attributes}
use Rattle.ix_marks.proofs.RepeatInRange.{AreNumbers, range_numbers_in}
use Rattle.ix_marks.proofs.Repeating.{has}
use Rattle.ix_marks.proofs.Telling.{pieces_tell}

get_before : {X : Type 0} (xs ys : List X) (k : ℕ) → k < length xs → slice_get (xs ++ ys) k ≡ slice_get xs k
get_before [] ys k l = absurd (omega (arith, l))
get_before (x ∷ xs) ys zero l = refl
get_before (x ∷ xs) ys (suc k) l = get_before xs ys k (omega (arith, l))

get_at_seam : {X : Type 0} (xs : List X) (y : X) (ys : List X) → slice_get (xs ++ y ∷ ys) (length xs) ≡ Some y
get_at_seam [] y ys = refl
get_at_seam (x ∷ xs) y ys = get_at_seam xs y ys

-- no name stands at an earlier place too
abbrev Clean : List (List ℕ) → Type 0
Clean bs = (m : ℕ) (y : List ℕ) → slice_get bs m ≡ Some y → IsRepeat bs m y → ⊥

-- the option names the first repeated name of the list, or there is none
abbrev Answer : (ℕ → List ℕ) → List (List ℕ) → Option ℕ → Type 0
Answer named full None = HasRepeat full → ⊥
Answer named full (Some n) = IsFirstOf (IsRepeat full) full (named n)

-- the same of the first list that has one
abbrev AnswerAmong : (ℕ → List ℕ) → List (List (List ℕ)) → Option ℕ → Type 0
AnswerAmong named lists None = (k : ℕ) (ns : List (List ℕ)) → slice_get lists k ≡ Some ns → HasRepeat ns → ⊥
AnswerAmong named lists (Some n) = (ns : List (List ℕ)) × IsFirstOf (λ k others. HasRepeat others) lists ns × IsFirstOf (IsRepeat ns) ns (named n)

combine : (named : ℕ → List ℕ) (h : List (List ℕ)) (lists : List (List (List ℕ))) (r1 r2 : Option ℕ) → Answer named h r1 → AnswerAmong named lists r2 → AnswerAmong named (h ∷ lists) (option_or r1 r2)
combine named h lists (Some n) r2 a b = (h, at_front (λ k others. HasRepeat others) h lists (a.0, named n, a.1.0, a.1.1), a)
combine named h lists None None a b = none
  where
    none : (k : ℕ) (ns : List (List ℕ)) → slice_get (h ∷ lists) k ≡ Some ns → HasRepeat ns → ⊥
    none zero ns e p = a (subst HasRepeat (sym {a = h} {b = ns} (cc e)) p)
    none (suc k) ns e p = b k ns e p
combine named h lists None (Some n) a (ns, first, f) = (ns, behind (λ k others. HasRepeat others) h lists ns a first, f)

module _ (names : List (List ℕ)) (distinct : AreDistinct names) where
  abbrev named : ℕ → List ℕ
  named n = get_or names n []

  abbrev all_named : List ℕ → List (List ℕ)
  all_named ns = map named ns

  has_here : (x y : ℕ) (b : Bool) → y ≡ x → (eqb y x || b) ≡ true
  has_here x y b e = ap (λ z. z || b) yes
    where
      yes : eqb y x ≡ true
      yes = grind (arith, nat_tests)

  has_get : (before : List ℕ) (x j : ℕ) → AreNumbers names before → x < length names → slice_get (all_named before) j ≡ Some (named x) → has x before ≡ true
  has_get [] x j h l e = absurd (cc e)
  has_get (y ∷ ys) x zero h l e =
      let q : named y ≡ named x = cc e in
      has_here x y (has x ys) (distinct y x h.0 l q)
  has_get (y ∷ ys) x (suc j) h l e = ap (λ z. eqb y x || z) (has_get ys x j h.1 l e) ∙ or-true (eqb y x)

  get_has : (before : List ℕ) (x : ℕ) → has x before ≡ true → (j : ℕ) × (slice_get (all_named before) j ≡ Some (named x))
  get_has [] x e = absurd (cc)
  get_has (y ∷ ys) x e = by (λ f. get_has ys x f) (eqb y x) refl e
    where
      by : (has x ys ≡ true → (j : ℕ) × (slice_get (all_named ys) j ≡ Some (named x))) → (b : Bool) → eqb y x ≡ b → (b || has x ys) ≡ true → (j : ℕ) × (slice_get (all_named (y ∷ ys)) j ≡ Some (named x))
      by k true q f = (0, ap (λ z. Some (named z)) (eqb-true y x q))
      by k false q f = let r = k f in (suc r.0, r.1)

  repeat_left : (bs ys : List (List ℕ)) (m : ℕ) (y : List ℕ) → m ≤ length bs → IsRepeat (bs ++ ys) m y → IsRepeat bs m y
  repeat_left bs ys m y l (j, k, e) = (j, k, sym (get_before bs ys j (omega (arith, k, l))) ∙ e)

  walk : (before xs : List ℕ) → AreNumbers names before → AreNumbers names xs → Clean (all_named before) → Answer named (all_named before ++ all_named xs) (repeat_behind before xs)
  walk before [] hb hx c = subst (λ (z : List (List ℕ)). HasRepeat z → ⊥) (sym (append-nil (all_named before))) (λ h. c h.0 h.1 h.2 h.3)
  walk before (x ∷ xs) hb hx c =
      cond_both (has x before) (Some x) (repeat_behind (before ++ x ∷ []) xs) (Answer named (all_named before ++ (named x ∷ all_named xs))) here
      (λ e. further (walk (before ++ x ∷ []) xs (all_append (λ n. n < length names) before (x ∷ []) hb (hx.0, tt)) hx.1 (subst Clean (sym pushed) (clean e))))
    where
      here : has x before ≡ true → IsFirstOf (IsRepeat (all_named before ++ (named x ∷ all_named xs))) (all_named before ++ (named x ∷ all_named xs)) (named x)
      here e =
          let r = get_has before x e in
          let l = slice_get_within (all_named before) r.0 (named x) r.1 in (
            length (all_named before),
            (
              get_at_seam (all_named before) (named x) (all_named xs),
              (r.0, l, get_before (all_named before) (named x ∷ all_named xs) r.0 l ∙ r.1),
              λ m y k f p. c m y (sym (get_before (all_named before) (named x ∷ all_named xs) m k) ∙ f) (repeat_left (all_named before) (named x ∷ all_named xs) m y (omega (arith, k)) p),
            ),
          )

      clean : has x before ≡ false → Clean (all_named before ++ (named x ∷ []))
      clean e m y f p = by (grind arith)
        where
          by : (m < length (all_named before)) ⊎ (length (all_named before) ≤ m) → ⊥
          by (inl k) = c m y (sym (get_before (all_named before) (named x ∷ []) m k) ∙ f) (repeat_left (all_named before) (named x ∷ []) m y (omega (arith, k)) p)
          by (inr k) =
              let w : m < length (all_named before ++ (named x ∷ [])) = slice_get_within (all_named before ++ (named x ∷ [])) m y f in
              let q : m ≡ length (all_named before) = omega (arith, k, w, length-append (all_named before) (named x ∷ [])) in
              let g : Some y ≡ Some (named x) = sym f ∙ ap (slice_get (all_named before ++ (named x ∷ []))) q ∙ get_at_seam (all_named before) (named x) [] in
              let r = repeat_left (all_named before) (named x ∷ []) m y (omega (arith, q)) p in
              let s = has_get before x r.0 hb hx.0 (r.2 ∙ g) in
              absurd (cc (s, e))

      pushed : all_named (before ++ x ∷ []) ≡ all_named before ++ (named x ∷ [])
      pushed = map-append named before (x ∷ [])

      further : Answer named (all_named (before ++ x ∷ []) ++ all_named xs) (repeat_behind (before ++ x ∷ []) xs) → Answer named (all_named before ++ (named x ∷ all_named xs)) (repeat_behind (before ++ x ∷ []) xs)
      further h = subst (λ (z : List (List ℕ)). Answer named z (repeat_behind (before ++ x ∷ []) xs)) (ap (λ z. z ++ all_named xs) pushed ∙ append_assoc (all_named before) (named x ∷ []) (all_named xs)) h

  module _ (attrs : List Attr) (chars : List ℕ) (k : AreAttrsIn names chars attrs) where
    txt_is : (xs : List Attr) → names_of (map (attribute_of names chars) xs) ≡ all_named (numbers xs)
    txt_is [] = refl
    txt_is (x ∷ xs) = ap (λ z. named x.name ∷ z) (txt_is xs)

    among : (items : List Item) → AnswerAmong named (flat_map piece_attributes (map (piece_of names attrs chars) items)) (repeat_among attrs items)
    among [] = λ k ns e. absurd (cc e)
    among (Begin n low high ∷ items) =
        let own = range_of attrs low high in
        subst (λ (z : List (List ℕ)). AnswerAmong named (z ∷ flat_map piece_attributes (map (piece_of names attrs chars) items)) (option_or (repeat_behind [] (numbers own)) (repeat_among attrs items))) (sym (txt_is own))
        (combine named (all_named (numbers own)) (flat_map piece_attributes (map (piece_of names attrs chars) items)) (repeat_behind [] (numbers own)) (repeat_among attrs items)
        (walk [] (numbers own) tt (range_numbers_in names chars attrs low high k) (λ m y e. absurd (cc e))) (among items))
    among (Close n ∷ items) = among items
    among (Chars low high ∷ items) = among items

finish : (names : List (List ℕ)) (gs : Givens) (r : Option ℕ) → AnswerAmong (λ n. get_or names n []) (content_attributes gs) r → MatchOption r ((name : List ℕ) → Holds gs (same_attribute name) → ⊥) (λ n. Holds gs (same_attribute (get_or names n [])))
finish names gs None h = λ name p. h p.1.0 p.0 p.1.1.0 p.1.1.1
finish names gs (Some n) h = h

pub repeat_tells : RepeatTells
repeat_tells names m gs d i s =
    finish names gs (repeat_among m.attrs m.items)
    (subst (λ (z : List (List (List ℕ))). AnswerAmong (λ n. get_or names n []) z (repeat_among m.attrs m.items)) (ap (flat_map piece_attributes) s.items ∙ sym (pieces_tell gs).content_attributes)
    (among names d m.attrs m.chars i.attrs_in m.items))
