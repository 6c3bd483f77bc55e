-- What one turn of `clap`'s walk over the words behind the name makes of each form of word: where the walk goes on, and that the word is
-- taken, or that it is refused.
use Rattle.std.proofs.Common.{◌≡◌, refl, sym, ap, ap₂, subst, ◌∙◌, ℕ, Bool, true, false, cond, ◌&&◌, ◌||◌, ◌==◌, List, [], ◌∷◌, ◌++◌, length, Option, Some, None, slice_get, codes, chars, IsUtf8}
use Rattle.std.specs.Prelude.{if◌then◌else◌}
use Rattle.std.specs.Option.{option_map_or}
use Rattle.std.specs.List.{before_first}
use Rattle.std.specs.Str.{bytes_eq}
use Rattle.clap.specs.Lexer.{long_of, short_of, name_and_value}
use Rattle.clap.specs.Walk.{Held, Row, Rule, Step, Text, Waiting, Walk, after_step, arg_by_long, idle, is_pending, long_or_other, long_word, option, plain_word, positional, pushed, settled, settled_rows, short_or_plain, trailing, used, value, walked, word_met}
use Rattle.clap.specs.Simple.{Shape, new_shape}
use Rattle.clap.specs.Kinds.{Kinds, or_else}
use Rattle.clap.specs.Faults.{bundle_fault, flag_word_fault, flags_fault, bundle_step_fault, long_fault, settle_fault, step_fault, turn_fault, word_fault}
use Rattle.clap.specs.declared.builder.range.ValueRange.{ValueRange}
use Rattle.clap.specs.declared.builder.value_parser.ValueParser.TheVariants as vp
use Rattle.clap.specs.declared.error.kind.ErrorKind.TheVariants.{UnknownArgument, InvalidValue}
use Rattle.ix_model.specs.Answers.CommandLine.{IsOperand}
use Rattle.ix_words.specs.ReaderApp.{operand_rule, workers_rule}
use Rattle.ix_words.proofs.WordForms.{is_equals, Looks, looks_end, looks_named, looks_joined, looks_stray, looks_short, looks_plain, a_character}

-- ---- the command as it is built

abbrev pub one_value : Option ValueRange
one_value = Some (record { start_inclusive = 1; end_inclusive = 1 })

abbrev pub operand : Rule
operand = record operand_rule { index = Some 1; range = one_value; parser = Some vp.String }

abbrev pub workers : Rule
workers = record workers_rule { range = one_value; parser = Some vp.String }

abbrev pub rules : List Rule
rules = operand ∷ workers ∷ []

abbrev pub shape : Shape
shape = record (new_shape (codes "ixml")) { rules = rules; disable_help_flag = true; disable_help_subcommand = true; is_built = true }

-- ---- between two words

abbrev pub Words : Type 0
Words = List Text

abbrev pub Pending : Type 0
Pending = Option (Text × List Text)

abbrev pub held : List Row → Pending → Held
held rows p = record { rows = rows; pending = p; skip = 0 }

abbrev pub at : List Row → Pending → Waiting → Bool → Walk
at rows p waiting tr = record { held = held rows p; waiting = waiting; position = 1; is_trailing = tr; stopped = None }

-- no option waits for its value
abbrev pub IsFree : Waiting → Type 0
IsFree idle = Unit {0}
IsFree positional = Unit {0}
IsFree (option id) = ⊥

-- what is pending passes
abbrev pub Passes : List Row → Pending → Type 0
Passes rows p = settle_fault rules false (held rows p) ≡ []

abbrev pub settle : List Row → Pending → List Row
settle rows p = settled_rows rules p rows

-- ---- one word

pub first_none : (a b : Kinds) → or_else a b ≡ [] → a ≡ []
first_none [] b e = refl
first_none (k ∷ ks) b e = e

pub second_none : (a b : Kinds) → or_else a b ≡ [] → b ≡ []
second_none [] b e = e
second_none (k ∷ ks) b e = absurd (cc e)

pub both_none : (a b : Kinds) → a ≡ [] → b ≡ [] → or_else a b ≡ []
both_none a b e f = ap (λ x. or_else x b) e ∙ f

abbrev pub by_long : Waiting → Text → Option (Text × Option Text) → Option Text → Held → Held × Step
by_long waiting w (Some p) short h = long_word rules waiting w p.0 p.1 h
by_long waiting w None short h = short_or_plain rules waiting w short h

abbrev pub met_by : Bool → Waiting → Text → Option (Text × Option Text) → Option Text → Held → Held × Step
met_by is_end waiting w long short h = if is_end then (h, trailing 1) else by_long waiting w long short h

abbrev pub flag_fault : Option (Text × Option Text) → Option Text → Held → Kinds
flag_fault (Some p) short h = long_fault rules false (arg_by_long rules p.0) p.1 h
flag_fault None short h = option_map_or (λ flags. bundle_fault rules false flags h) short []

abbrev pub fault_by : Bool → Option (Text × Option Text) → Option Text → Held → Kinds
fault_by is_end long short h = if is_end then [] else flag_fault long short h

module _ (w : Text) (is_end : Bool) (long : Option (Text × Option Text)) (short : Option Text) (looks : Looks w is_end long short) where
  by_short : (waiting : Waiting) (l : Option (Text × Option Text)) (h : Held) → long_or_other rules waiting w l h ≡ by_long waiting w l (short_of w) h
  by_short waiting None h = refl
  by_short waiting (Some p) h = refl

  met_as : (waiting : Waiting) (h : Held) →
      (if bytes_eq w (45 ∷ 45 ∷ []) then (h, trailing 1) else long_or_other rules waiting w (long_of w) h) ≡ met_by is_end waiting w long short h
  met_as waiting h =
      ap (λ b. if b then (h, trailing 1) else long_or_other rules waiting w (long_of w) h) looks.end
      ∙ ap (λ l. if is_end then (h, trailing 1) else long_or_other rules waiting w l h) looks.long_is
      ∙ ap (λ x. if is_end then (h, trailing 1) else x) (by_short waiting long h)
      ∙ ap (λ s. met_by is_end waiting w long s h) looks.short_is

  met_is : (waiting : Waiting) (h : Held) → word_met rules [] false waiting 1 w h ≡ met_by is_end waiting w long short h
  met_is idle h = met_as idle h
  met_is (option id) h = met_as (option id) h
  met_is positional h = met_as positional h

  flag_is : (l : Option (Text × Option Text)) (h : Held) → flag_word_fault rules false l w h ≡ flag_fault l short h
  flag_is None h = ap (λ s. option_map_or (λ flags. bundle_fault rules false flags h) s []) looks.short_is
  flag_is (Some p) h = refl

  fault_as : (h : Held) → (if bytes_eq w (45 ∷ 45 ∷ []) then [] else flag_word_fault rules false (long_of w) w h) ≡ fault_by is_end long short h
  fault_as h =
      ap (λ b. if b then [] else flag_word_fault rules false (long_of w) w h) looks.end
      ∙ ap (λ l. if is_end then [] else flag_word_fault rules false l w h) looks.long_is
      ∙ ap (λ x. if is_end then [] else x) (flag_is long h)

  fault_is : (waiting : Waiting) (h : Held) → word_fault shape [] false waiting w h ≡ fault_by is_end long short h
  fault_is idle h = fault_as h
  fault_is (option id) h = fault_as h
  fault_is positional h = fault_as h

  module _ (rows : List Row) (p : Pending) (waiting : Waiting) where
    abbrev Met : Held × Step
    Met = met_by is_end waiting w long short (held rows p)

    walked_as : walked rules [] (at rows p waiting false) w ≡ after_step rules w (at rows p waiting false) Met.0 Met.1
    unfolding walked
    walked_as = ap (λ (m : Held × Step). after_step rules w (at rows p waiting false) m.0 m.1) (met_is waiting (held rows p))

    turn_as : turn_fault shape [] (at rows p waiting false) w ≡ or_else (fault_by is_end long short (held rows p)) (step_fault shape 1 Met.0 Met.1)
    turn_as = ap₂ (λ a (m : Held × Step). or_else a (step_fault shape 1 m.0 m.1)) (fault_is waiting (held rows p)) (met_is waiting (held rows p))

    turn_first : turn_fault shape [] (at rows p waiting false) w ≡ [] → fault_by is_end long short (held rows p) ≡ []
    turn_first z = first_none (fault_by is_end long short (held rows p)) (step_fault shape 1 Met.0 Met.1) (sym turn_as ∙ z)

-- a word that goes to the operands
abbrev pub as_operand : List Row → Pending → Text → Bool → Walk
as_operand rows p w tr = at (settle rows p) (Some (codes "operand", w ∷ [])) positional tr

pub value_walked : (rows : List Row) (p : Pending) (waiting : Waiting) (tr : Bool) (w : Text) → after_step rules w (at rows p waiting tr) (held rows p) value ≡ as_operand rows p w tr
value_walked rows p waiting tr w = go (is_pending operand p) tr
  where
    go : (b t : Bool) → record {
      held = pushed (codes "operand") w (if b && false then held rows p else settled rules (held rows p));
      waiting = positional;
      position = 1;
      is_trailing = t || false;
      stopped = None;
    } ≡ as_operand rows p w t
    go true true = refl
    go true false = refl
    go false true = refl
    go false false = refl

pub value_fault : (rows : List Row) (p : Pending) → Passes rows p → step_fault shape 1 (held rows p) value ≡ []
value_fault rows p s = go (is_pending operand p)
  where
    go : (b : Bool) → (if b && false then [] else settle_fault rules false (held rows p)) ≡ []
    go true = s
    go false = s

-- ---- what a word comes to

-- the walk goes on from there, and the word is taken
abbrev pub Goes : Walk → Text → Walk → Type 0
Goes from w to = (walked rules [] from w ≡ to) × (turn_fault shape [] from w ≡ [])

pub trailing_goes : (rows : List Row) (p : Pending) (waiting : Waiting) (w : Text) → Passes rows p → Goes (at rows p waiting true) w (as_operand rows p w true)
unfolding walked
trailing_goes rows p waiting w s = (value_walked rows p waiting true w, value_fault rows p s)

pub plain_met : (waiting : Waiting) (w : Text) (h : Held) → IsFree waiting → plain_word rules waiting w h ≡ (h, value)
plain_met idle w h f = refl
plain_met positional w h f = refl
plain_met (option id) w h f = absurd f

pub plain_goes : (rows : List Row) (p : Pending) (waiting : Waiting) (w : Text) → IsFree waiting → IsOperand w → Passes rows p → Goes (at rows p waiting false) w (as_operand rows p w false)
plain_goes rows p waiting w f o s =
    let l = looks_plain w o in
    let m = plain_met waiting w (held rows p) f in (
      walked_as w false None None l rows p waiting ∙ ap (λ (m : Held × Step). after_step rules w (at rows p waiting false) m.0 m.1) m ∙ value_walked rows p waiting false w,
      turn_as w false None None l rows p waiting ∙ ap (λ (m : Held × Step). step_fault shape 1 m.0 m.1) m ∙ value_fault rows p s,
    )

pub end_goes : (rows : List Row) (p : Pending) (waiting : Waiting) (w : Text) → w ≡ codes "--" → Goes (at rows p waiting false) w (at rows p waiting true)
end_goes rows p waiting w e =
    let l = looks_end w e in
    (walked_as w true None None l rows p waiting, turn_as w true None None l rows p waiting)

-- an option that waits for its value
abbrev pub waits_at : List Row → Walk
waits_at rows = at rows (Some (codes "workers", [])) (option (codes "workers")) false

pub named_goes : (rows : List Row) (p : Pending) (waiting : Waiting) (w : Text) → w ≡ codes "--workers" → Passes rows p → Goes (at rows p waiting false) w (waits_at (settle rows p))
named_goes rows p waiting w e s =
    let l = looks_named w e in
    (walked_as w false _ None l rows p waiting, turn_as w false _ None l rows p waiting ∙ ap (λ k. or_else k []) s)

pub joined_goes : (rows : List Row) (p : Pending) (waiting : Waiting) (w val : Text) → w ≡ codes "--workers=" ++ val → Passes rows p
    → Goes (at rows p waiting false) w (at (used workers (val ∷ []) (settle rows p)) None idle false)
joined_goes rows p waiting w val e s =
    let l = looks_joined w val e in
    (walked_as w false _ None l rows p waiting, turn_as w false _ None l rows p waiting ∙ ap (λ k. or_else (or_else k []) []) s)

pub value_goes : (rows : List Row) (w : Text) → IsOperand w → Goes (waits_at rows) w (at rows (Some (codes "workers", w ∷ [])) idle false)
value_goes rows w o =
    let l = looks_plain w o in
    (walked_as w false None None l rows (Some (codes "workers", [])) (option (codes "workers")), turn_as w false None None l rows (Some (codes "workers", [])) (option (codes "workers")))

-- ---- words that are refused

abbrev pub Fails : Walk → Text → Type 0
Fails from w = turn_fault shape [] from w ≡ [] → ⊥

pub stray_fails : (rows : List Row) (p : Pending) (waiting : Waiting) (w : Text) (c : ℕ) (cs : Text) → w ≡ 45 ∷ 45 ∷ c ∷ cs
    → bytes_eq (codes "workers") (before_first is_equals (c ∷ cs)) ≡ false → Fails (at rows p waiting false) w
stray_fails rows p waiting w c cs e n z =
    let none : arg_by_long rules (before_first is_equals (c ∷ cs)) ≡ None = ap (λ b. cond (b || false) (Some workers) None) n in
    let f = turn_first w false (Some (name_and_value (c ∷ cs))) None (looks_stray w c cs e) rows p waiting z in
    let g : UnknownArgument ∷ [] ≡ [] = sym (ap (λ o. long_fault rules false o (name_and_value (c ∷ cs)).1 (held rows p)) none) ∙ f in
    cc g

pub letter_fault : (rows : List Row) (p : Pending) (c : ℕ) (cs : Text) (x : ℕ) → slice_get (chars (c ∷ cs)) 0 ≡ Some x → bundle_fault rules false (c ∷ cs) (held rows p) ≡ UnknownArgument ∷ []
unfolding flags_fault
letter_fault rows p c cs x e = ap (λ o. bundle_step_fault rules false o (c ∷ cs) 0 (held rows p) (flags_fault rules false (length cs))) e

pub short_fails : (rows : List Row) (p : Pending) (waiting : Waiting) (w : Text) (c : ℕ) (cs : Text) → w ≡ 45 ∷ c ∷ cs → (c == 45) ≡ false → IsUtf8 w → Fails (at rows p waiting false) w
short_fails rows p waiting w c cs e n u z =
    let x = a_character c cs (subst IsUtf8 e u) in
    let f = turn_first w false None (Some (c ∷ cs)) (looks_short w c cs e n) rows p waiting z in
    let g : UnknownArgument ∷ [] ≡ [] = sym (letter_fault rows p c cs x.0 x.1) ∙ f in
    cc g

-- an option that waits takes no flag
abbrev pub waiting_pending : Pending
waiting_pending = Some (codes "workers", [])

pub waiting_named_fails : (rows : List Row) (w : Text) → w ≡ codes "--workers" → Fails (waits_at rows) w
waiting_named_fails rows w e z =
    let f : InvalidValue ∷ [] ≡ [] = turn_first w false (Some (codes "workers", None)) None (looks_named w e) rows waiting_pending (option (codes "workers")) z in
    cc f

pub waiting_joined_fails : (rows : List Row) (w val : Text) → w ≡ codes "--workers=" ++ val → Fails (waits_at rows) w
waiting_joined_fails rows w val e z =
    let f : InvalidValue ∷ [] ≡ [] = turn_first w false (Some (codes "workers", Some val)) None (looks_joined w val e) rows waiting_pending (option (codes "workers")) z in
    cc f

-- and none after `--`
pub trailing_fails : (rows : List Row) (waiting : Waiting) (w : Text) → Fails (at rows waiting_pending waiting true) w
trailing_fails rows waiting w z =
    let f : InvalidValue ∷ [] ≡ [] = z in
    cc f

pub waiting_end_fails : (rows : List Row) (waiting : Waiting) (tr : Bool) → settle_fault rules false (at rows waiting_pending waiting tr).held ≡ [] → ⊥
waiting_end_fails rows waiting tr z =
    let f : InvalidValue ∷ [] ≡ [] = z in
    cc f
