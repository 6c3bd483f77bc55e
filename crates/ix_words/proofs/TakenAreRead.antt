-- Words that `clap`'s walk takes to the end are read, and its rows have the operands and the values of the reading.
use Rattle.std.proofs.Common.{◌≡◌, refl, sym, ap, subst, ◌∙◌, true, false, List, [], ◌∷◌, ◌++◌, append-nil, fold, Some, None, codes, IsUtf8}
use Rattle.clap.specs.Walk.{Row, Text, Waiting, Walk, idle, option, positional, settled, used, walked}
use Rattle.clap.specs.Kinds.{or_else}
use Rattle.clap.specs.Faults.{settle_fault, turn_fault, walk_fault}
use Rattle.ix_model.specs.Answers.CommandLine.{Reads, no_word, end_of_options, next_value, joined_value, operand as one_operand}
use Rattle.ix_words.proofs.Gathered.{texts_at, texts_more, texts_stay}
use Rattle.ix_words.proofs.WordForms.{WordForm, ends, names, joins, strays, shorts, plains, form_of}
use Rattle.ix_words.proofs.Turns.{workers, rules, shape, Words, Pending, at, IsFree, Passes, settle, first_none, second_none, both_none, as_operand, Goes, trailing_goes, plain_goes, end_goes, waits_at, named_goes, joined_goes, value_goes, stray_fails, short_fails, waiting_pending, waiting_named_fails, waiting_joined_fails, trailing_fails, waiting_end_fails}

-- the rows have these operands and these values
abbrev pub Holds : (operands values : List Text) → List Row → Type 0
Holds operands values rows = (texts_at (codes "operand") rows ≡ operands) × (texts_at (codes "workers") rows ≡ values)

-- ---- all the words

abbrev pub AllTexts : Words → Type 0
AllTexts [] = Unit {0}
AllTexts (w ∷ ws) = IsUtf8 w × AllTexts ws

abbrev pub end_of : Walk → Words → Walk
end_of from words = fold (walked rules []) from words

abbrev pub rows_at_end : Walk → Words → List Row
rows_at_end from words = (settled rules (end_of from words).held).rows

-- the words are taken, to the end
abbrev pub Taken : Walk → Words → Type 0
Taken from words = (walk_fault shape [] from words ≡ []) × (settle_fault rules false (end_of from words).held ≡ [])

pub taken_on : (from to : Walk) (w : Text) (words : Words) → Goes from w to → Taken to words → Taken from (w ∷ words)
unfolding walk_fault
taken_on from to w words g t = (
  subst (λ W. or_else (turn_fault shape [] from w) (walk_fault shape [] W words) ≡ []) (sym g.0) (both_none (turn_fault shape [] from w) (walk_fault shape [] to words) g.1 t.0),
  subst (λ W. settle_fault rules false (end_of W words).held ≡ []) (sym g.0) t.1,
)

pub taken_off : (from to : Walk) (w : Text) (words : Words) → Goes from w to → Taken from (w ∷ words) → Taken to words
unfolding walk_fault
taken_off from to w words g t = (
  subst (λ W. walk_fault shape [] W words ≡ []) g.0 (second_none (turn_fault shape [] from w) (walk_fault shape [] (walked rules [] from w) words) t.0),
  subst (λ W. settle_fault rules false (end_of W words).held ≡ []) g.0 t.1,
)

pub taken_first : (from : Walk) (w : Text) (words : Words) → Taken from (w ∷ words) → turn_fault shape [] from w ≡ []
unfolding walk_fault
taken_first from w words t = first_none (turn_fault shape [] from w) (walk_fault shape [] (walked rules [] from w) words) t.0

pub end_on : (from to : Walk) (w : Text) (words : Words) → Goes from w to → rows_at_end from (w ∷ words) ≡ rows_at_end to words
end_on from to w words g = ap (λ W. rows_at_end W words) g.0

-- ---- uses

use_operand : (ops vals : Words) (rows : List Row) (w : Text) → Holds ops vals rows → Holds (ops ++ w ∷ []) vals (settle rows (Some (codes "operand", w ∷ [])))
use_operand ops vals rows w h = (
  texts_more (codes "operand") _ _ (w ∷ []) rows ∙ ap (λ t. t ++ w ∷ []) h.0,
  texts_stay (codes "operand") _ _ (w ∷ []) (codes "workers") refl rows ∙ h.1,
)

use_workers : (ops vals : Words) (rows : List Row) (w : Text) → Holds ops vals rows → Holds ops (vals ++ w ∷ []) (used workers (w ∷ []) rows)
use_workers ops vals rows w h = (
  texts_stay (codes "workers") _ _ (w ∷ []) (codes "operand") refl rows ∙ h.0,
  texts_more (codes "workers") _ _ (w ∷ []) rows ∙ ap (λ t. t ++ w ∷ []) h.1,
)

-- ---- words that are taken are read

abbrev pub Found : Words → (ops vals : Words) → List Row → Type 0
Found words ops vals rows = (o v : Words) × Reads words o v × Holds (ops ++ o) (vals ++ v) rows

abbrev pub FoundValue : Words → (ops vals : Words) → List Row → Type 0
FoundValue words ops vals rows = (val : Text) × (others o v : Words) × (words ≡ val ∷ others) × Reads others o v × Holds (ops ++ o) (vals ++ val ∷ v) rows

abbrev pub Sound : Words → Type 0
Sound words = (rows : List Row) (p : Pending) (waiting : Waiting) (ops vals : Words) → IsFree waiting → Passes rows p → Holds ops vals (settle rows p)
    → AllTexts words → Taken (at rows p waiting false) words → Found words ops vals (rows_at_end (at rows p waiting false) words)

abbrev pub SoundValue : Words → Type 0
SoundValue words = (rows : List Row) (ops vals : Words) → Holds ops vals rows → AllTexts words → Taken (waits_at rows) words → FoundValue words ops vals (rows_at_end (waits_at rows) words)

same_held : (ops vals ops' vals' : Words) (rows : List Row) → ops ≡ ops' → vals ≡ vals' → Holds ops vals rows → Holds ops' vals' rows
same_held ops vals ops' vals' rows a b h = (h.0 ∙ a, h.1 ∙ b)

back : (from to : Walk) (w : Text) (ws : Words) → Goes from w to → (ops vals ops' vals' : Words) → ops ≡ ops' → vals ≡ vals' → Holds ops vals (rows_at_end to ws) → Holds ops' vals' (rows_at_end from (w ∷ ws))
back from to w ws g ops vals ops' vals' a b h =
    (ap (texts_at (codes "operand")) (end_on from to w ws g) ∙ h.0 ∙ a, ap (texts_at (codes "workers")) (end_on from to w ws g) ∙ h.1 ∙ b)

pub one_more : (xs ys : Words) (w : Text) → (xs ++ w ∷ []) ++ ys ≡ xs ++ w ∷ ys
one_more [] ys w = refl
one_more (x ∷ xs) ys w = ap (λ t. x ∷ t) (one_more xs ys w)

sound_trailing : (words : Words) (rows : List Row) (p : Pending) (waiting : Waiting) (ops vals : Words) → Passes rows p → Holds ops vals (settle rows p)
    → Taken (at rows p waiting true) words → Holds (ops ++ words) vals (rows_at_end (at rows p waiting true) words)
sound_trailing [] rows p waiting ops vals s h t = same_held ops vals (ops ++ []) vals (settle rows p) (sym (append-nil ops)) refl h
sound_trailing (w ∷ ws) rows p waiting ops vals s h t =
    let g = trailing_goes rows p waiting w s in
    let from = at rows p waiting true in
    let to = as_operand rows p w true in
    let k = sound_trailing ws (settle rows p) (Some (codes "operand", w ∷ [])) positional (ops ++ w ∷ []) vals refl (use_operand ops vals (settle rows p) w h) (taken_off from to w ws g t) in
    back from to w ws g ((ops ++ w ∷ []) ++ ws) vals (ops ++ w ∷ ws) vals (one_more ops ws w) refl k

pub no_trailing : (words : Words) (rows : List Row) (waiting : Waiting) → Taken (at rows waiting_pending waiting true) words → ⊥
no_trailing [] rows waiting t = waiting_end_fails rows waiting true t.1
no_trailing (w ∷ ws) rows waiting t = trailing_fails rows waiting w (taken_first (at rows waiting_pending waiting true) w ws t)

sound_by : (w : Text) (ws : Words) → WordForm w → Sound ws → SoundValue ws → Sound (w ∷ ws)
sound_by w ws (ends _ e) rest valued rows p waiting ops vals f s h u t =
    let from = at rows p waiting false in
    let to = at rows p waiting true in
    let g = end_goes rows p waiting w e in
    let k = sound_trailing ws rows p waiting ops vals s h (taken_off from to w ws g t) in
    (ws, [], end_of_options w ws e, back from to w ws g (ops ++ ws) vals (ops ++ ws) (vals ++ []) refl (sym (append-nil vals)) k)
sound_by w ws (names _ e) rest valued rows p waiting ops vals f s h u t =
    let from = at rows p waiting false in
    let to = waits_at (settle rows p) in
    let g = named_goes rows p waiting w e s in
    let (val, others, o, v, q, r, k) = valued (settle rows p) ops vals h u.1 (taken_off from to w ws g t) in
    (o, val ∷ v, subst (λ x. Reads (w ∷ x) o (val ∷ v)) (sym q) (next_value w val others o v e r), back from to w ws g (ops ++ o) (vals ++ val ∷ v) (ops ++ o) (vals ++ val ∷ v) refl refl k)
sound_by w ws (joins _ val e) rest valued rows p waiting ops vals f s h u t =
    let from = at rows p waiting false in
    let more = used workers (val ∷ []) (settle rows p) in
    let to = at more None idle false in
    let g = joined_goes rows p waiting w val e s in
    let (o, v, r, k) = rest more None idle ops (vals ++ val ∷ []) tt refl (use_workers ops vals (settle rows p) val h) u.1 (taken_off from to w ws g t) in
    (o, val ∷ v, joined_value w val ws o v e r, back from to w ws g (ops ++ o) ((vals ++ val ∷ []) ++ v) (ops ++ o) (vals ++ val ∷ v) refl (one_more vals v val) k)
sound_by w ws (strays _ c cs e n) rest valued rows p waiting ops vals f s h u t =
    absurd (stray_fails rows p waiting w c cs e n (taken_first (at rows p waiting false) w ws t))
sound_by w ws (shorts _ c cs e n) rest valued rows p waiting ops vals f s h u t =
    absurd (short_fails rows p waiting w c cs e n u.0 (taken_first (at rows p waiting false) w ws t))
sound_by w ws (plains _ o) rest valued rows p waiting ops vals f s h u t =
    let from = at rows p waiting false in
    let to = as_operand rows p w false in
    let g = plain_goes rows p waiting w f o s in
    let (ops', v, r, k) = rest (settle rows p) (Some (codes "operand", w ∷ [])) positional (ops ++ w ∷ []) vals tt refl (use_operand ops vals (settle rows p) w h) u.1 (taken_off from to w ws g t) in
    (w ∷ ops', v, one_operand w ws ops' v o r, back from to w ws g ((ops ++ w ∷ []) ++ ops') (vals ++ v) (ops ++ w ∷ ops') (vals ++ v) (one_more ops ops' w) refl k)

value_by : (w : Text) (ws : Words) → WordForm w → Sound ws → SoundValue (w ∷ ws)
value_by w ws (ends _ e) rest rows ops vals h u t =
    let from = waits_at rows in
    let to = at rows waiting_pending (option (codes "workers")) true in
    absurd (no_trailing ws rows (option (codes "workers")) (taken_off from to w ws (end_goes rows waiting_pending (option (codes "workers")) w e) t))
value_by w ws (names _ e) rest rows ops vals h u t = absurd (waiting_named_fails rows w e (taken_first (waits_at rows) w ws t))
value_by w ws (joins _ val e) rest rows ops vals h u t = absurd (waiting_joined_fails rows w val e (taken_first (waits_at rows) w ws t))
value_by w ws (strays _ c cs e n) rest rows ops vals h u t =
    absurd (stray_fails rows waiting_pending (option (codes "workers")) w c cs e n (taken_first (waits_at rows) w ws t))
value_by w ws (shorts _ c cs e n) rest rows ops vals h u t =
    absurd (short_fails rows waiting_pending (option (codes "workers")) w c cs e n u.0 (taken_first (waits_at rows) w ws t))
value_by w ws (plains _ o) rest rows ops vals h u t =
    let from = waits_at rows in
    let to = at rows (Some (codes "workers", w ∷ [])) idle false in
    let g = value_goes rows w o in
    let (os, v, r, k) = rest rows (Some (codes "workers", w ∷ [])) idle ops (vals ++ w ∷ []) tt refl (use_workers ops vals rows w h) u.1 (taken_off from to w ws g t) in
    (w, ws, os, v, refl, r, back from to w ws g (ops ++ os) ((vals ++ w ∷ []) ++ v) (ops ++ os) (vals ++ w ∷ v) refl (one_more vals v w) k)

mutual
  pub sound : (words : Words) → Sound words
  sound [] = λ rows p waiting ops vals f s h u t. ([], [], no_word, same_held ops vals (ops ++ []) (vals ++ []) (settle rows p) (sym (append-nil ops)) (sym (append-nil vals)) h)
  sound (w ∷ ws) = sound_by w ws (form_of w) (sound ws) (sound_value ws)

  sound_value : (words : Words) → SoundValue words
  sound_value [] = λ rows ops vals h u t. absurd (waiting_end_fails rows (option (codes "workers")) false t.1)
  sound_value (w ∷ ws) = value_by w ws (form_of w) (sound ws)
