-- What a parse by `clap` that succeeds has read, and that words with a form are not refused.
use Rattle.std.proofs.Common.{◌≡◌, inl, refl, sym, ap, subst, ◌∙◌, ℕ, ◌<◌, Bool, true, false, true≢false, ◌||◌, List, [], ◌∷◌, ◌++◌, append-nil, map, fold, Some, None, is_some, codes, String, string_bytes, arith}
use Rattle.std.specs.Prelude.{if◌then◌else◌}
use Rattle.std.specs.Char.{digit_value}
use Rattle.std.specs.Str.{bytes_eq}
use Rattle.std.proofs.lemmas.Slice.Eq.{bytes_eq-Decides}
use Rattle.std.proofs.lemmas.Str.{IsUtf8-string_bytes}
use Rattle.clap.specs.Walk.{Held, Names, Row, Rule, Text, Walk, default_rows, finished, has_row, idle, is_empty, nothing_held, reading_by, rows_after, rows_of, settled, walked, with_default}
use Rattle.clap.specs.Simple.{App, HasMatchesOf, Shape, built, entered, is_simple, new_shape, subcommand_of, subcommand_rows_of}
use Rattle.clap.specs.Matches.{found_of}
use Rattle.clap.specs.Kinds.{IsAmong, Kinds, or_else}
use Rattle.clap.specs.Faults.{check_fault, default_fault, defaults_fault, entered_fault, fault_of, given_default_fault, is_simple_and_free, settle_fault, turn_fault, walk_fault}
use Rattle.clap.specs.declared.error.kind.ErrorKind.{ErrorKind}
use Rattle.clap.specs.declared.parser.matches.ArgMatches.{ArgMatches}
use Rattle.ix_model.specs.Answers.CommandLine.{Command, parse, check, sample, IsOperand, Reads, IsCount, IsWorkers, Asks, IsCommand, HasNoForm}
use Rattle.ix_words.specs.CommandNames.{names_command}
use Rattle.ix_words.specs.Given.{given}
use Rattle.ix_words.specs.NameAndParts.{IsRead}
use Rattle.ix_words.specs.ReaderApp.{reader_app}
use Rattle.ix_words.proofs.Gathered.{texts_at, given_is}
use Rattle.ix_words.proofs.Turns.{Words, at, both_none, first_none, operand, rules, second_none, shape, workers}
use Rattle.ix_words.proofs.TakenAreRead.{AllTexts, Taken, end_of, one_more, rows_at_end, sound}
use Rattle.ix_words.proofs.ReadAreTaken.{AllOperands, complete}

-- ---- the commands as they are built

abbrev named : Text → Shape
named name = record (new_shape name) { rules = rules; no_binary_name = true; disable_help_flag = true; disable_help_subcommand = true; is_built = true }

abbrev top : Shape
top = record (new_shape (codes "ixml")) { is_leaf = false; no_binary_name = true; disable_help_flag = true; disable_help_subcommand = true; is_built = true }

abbrev app : App
app = record { top = top; subs = named (codes "parse") ∷ named (codes "check") ∷ named (codes "sample") ∷ [] }

abbrev command_names : Names
command_names = (codes "parse", []) ∷ (codes "check", []) ∷ (codes "sample", []) ∷ []

built_is : built reader_app ≡ app
built_is = refl

pub reader_is_simple : is_simple reader_app ≡ true
reader_is_simple = refl

pub reader_is_free : is_simple_and_free reader_app ≡ true
reader_is_free = refl

abbrev start : Walk
start = at [] None idle false

-- ---- what is done after the walk refuses nothing

no_default : (rows : List Row) (a : Rule) → a.defaults ≡ [] → default_fault rows a ≡ []
no_default rows a e = ap (λ d. if has_row a.id rows || (is_empty d) then [] else given_default_fault a d) e ∙ go (has_row a.id rows)
  where
    go : (b : Bool) → (if b || true then [] else given_default_fault a []) ≡ []
    go true = refl
    go false = refl

no_defaults : (rows : List Row) → defaults_fault rows rules ≡ []
unfolding defaults_fault
no_defaults rows =
    both_none (default_fault rows operand) (defaults_fault (with_default rows operand) (workers ∷ [])) (no_default rows operand refl)
    (both_none (default_fault (with_default rows operand) workers) [] (no_default (with_default rows operand) workers refl) refl)

same_default : (rows : List Row) (a : Rule) → a.defaults ≡ [] → with_default rows a ≡ rows
same_default rows a e = ap (λ d. if has_row a.id rows then rows else default_rows a.id (reading_by a) d rows) e ∙ go (has_row a.id rows)
  where
    go : (b : Bool) → (if b then rows else rows) ≡ rows
    go true = refl
    go false = refl

same_finished : (h : Held) → finished rules h ≡ (settled rules h).rows
same_finished h =
    ap (λ rows. with_default rows workers) (same_default (settled rules h).rows operand refl) ∙ same_default (settled rules h).rows workers refl

-- ---- the words behind the name

walk_same : (name : Text) (from : Walk) (words : Words) → walk_fault (named name) [] from words ≡ walk_fault shape [] from words
unfolding walk_fault
walk_same name from [] = refl
walk_same name from (w ∷ words) = ap (or_else (turn_fault shape [] from w)) (walk_same name (walked rules [] from w) words)

abbrev end : Words → Held
end words = (end_of start words).held

abbrev last_fault : Text → Words → Kinds
last_fault name words = or_else (defaults_fault (settled rules (end words)).rows rules) (check_fault (named name) (finished rules (end words)) false)

-- the fault of a command on the words behind its name
abbrev below_fault : Text → Words → Kinds
below_fault name words = or_else (walk_fault (named name) [] start words) (or_else (settle_fault rules false (end words)) (last_fault name words))

taken_below : (name : Text) (words : Words) → below_fault name words ≡ [] → Taken start words
taken_below name words e =
    let rest = second_none (walk_fault (named name) [] start words) (or_else (settle_fault rules false (end words)) (last_fault name words)) e in (
      sym (walk_same name start words) ∙ first_none (walk_fault (named name) [] start words) (or_else (settle_fault rules false (end words)) (last_fault name words)) e,
      first_none (settle_fault rules false (end words)) (last_fault name words) rest,
    )

below_taken : (name : Text) (words : Words) → Taken start words → below_fault name words ≡ []
below_taken name words t =
    both_none (walk_fault (named name) [] start words) (or_else (settle_fault rules false (end words)) (last_fault name words)) (walk_same name start words ∙ t.0)
    (both_none (settle_fault rules false (end words)) (last_fault name words) t.1
    (both_none (defaults_fault (settled rules (end words)).rows rules) (check_fault (named name) (finished rules (end words)) false) (no_defaults (settled rules (end words)).rows) refl))

-- ---- the name

-- the walk has met the name of a command, and these words behind it
abbrev stopped_at : Text → Words → Walk
stopped_at name words = record { held = nothing_held; waiting = idle; position = 1; is_trailing = false; stopped = Some (name, words) }

stays : (name : Text) (before words : Words) → fold (walked [] command_names) (stopped_at name before) words ≡ stopped_at name (before ++ words)
unfolding walked
stays name before [] = ap (stopped_at name) (sym (append-nil before))
stays name before (w ∷ words) = stays name (before ++ w ∷ []) words ∙ ap (stopped_at name) (one_more before words w)

stays_passing : (name : Text) (before words : Words) → walk_fault top command_names (stopped_at name before) words ≡ []
unfolding walk_fault walked
stays_passing name before [] = refl
stays_passing name before (w ∷ words) = stays_passing name (before ++ w ∷ []) words

-- the name of a command
record IsName (name : Text) : Type 0 where
  pub met : walked [] command_names start name ≡ stopped_at name []
  pub passes : turn_fault top command_names start name ≡ []
  pub fault : (words : Words) → entered_fault app (Some (name, words)) ≡ below_fault name words
  pub rows : (words : Words) → entered app (Some (name, words)) ≡ Some (name, rows_after rules [] words)

is_parse : IsName (codes "parse")
unfolding walked
is_parse = record { met = refl; passes = refl; fault = λ words. refl; rows = λ words. refl }

is_check : IsName (codes "check")
unfolding walked
is_check = record { met = refl; passes = refl; fault = λ words. refl; rows = λ words. refl }

is_sample : IsName (codes "sample")
unfolding walked
is_sample = record { met = refl; passes = refl; fault = λ words. refl; rows = λ words. refl }

is_name : (word : Text) → (bytes_eq word (codes "parse") || (bytes_eq word (codes "check") || bytes_eq word (codes "sample"))) ≡ true → IsName word
is_name word e = go (bytes_eq word (codes "parse")) (bytes_eq word (codes "check")) (bytes_eq word (codes "sample")) refl refl refl e
  where
    go : (p c s : Bool) → bytes_eq word (codes "parse") ≡ p → bytes_eq word (codes "check") ≡ c → bytes_eq word (codes "sample") ≡ s → (p || (c || s)) ≡ true → IsName word
    go true c s f g h e = subst IsName (sym ((bytes_eq-Decides word (codes "parse")).0 f)) is_parse
    go false true s f g h e = subst IsName (sym ((bytes_eq-Decides word (codes "check")).0 g)) is_check
    go false false true f g h e = subst IsName (sym ((bytes_eq-Decides word (codes "sample")).0 h)) is_sample
    go false false false f g h e = absurd (true≢false (sym e))

-- ---- a parse

abbrev walk_end : Words → Walk
walk_end words = fold (walked [] command_names) start words

abbrev final_fault : Walk → Bool → Kinds
final_fault w has = or_else (settle_fault [] false w.held) (or_else (defaults_fault (settled [] w.held).rows []) (check_fault top (finished [] w.held) has))

abbrev parse_fault : Words → Kinds
parse_fault words = or_else (walk_fault top command_names start words) (or_else (entered_fault app (walk_end words).stopped) (final_fault (walk_end words) (is_some (entered app (walk_end words).stopped))))

fault_is : (words : Words) → fault_of reader_app words ≡ parse_fault words
fault_is words = refl

no_final : (name : Text) (words : Words) (has : Bool) → final_fault (stopped_at name words) has ≡ []
unfolding defaults_fault
no_final name words true = refl
no_final name words false = refl

module _ (name : Text) (is : IsName name) (words : Words) where
  ends : walk_end (name ∷ words) ≡ stopped_at name words
  ends = ap (λ w. fold (walked [] command_names) w words) is.met ∙ stays name [] words

  below : entered_fault app (walk_end (name ∷ words)).stopped ≡ below_fault name words
  below = ap (λ (w : Walk). entered_fault app w.stopped) ends ∙ is.fault words

  subcommand_is : subcommand_of reader_app (name ∷ words) ≡ Some (name, rows_after rules [] words)
  subcommand_is = ap (λ (w : Walk). entered app w.stopped) ends ∙ is.rows words

  walk_passing : walk_fault top command_names start (name ∷ words) ≡ []
  unfolding walk_fault
  walk_passing =
      both_none (turn_fault top command_names start name) (walk_fault top command_names (walked [] command_names start name) words) is.passes
      (ap (λ w. walk_fault top command_names w words) is.met ∙ stays_passing name [] words)

  taken_off_fault : fault_of reader_app (name ∷ words) ≡ [] → Taken start words
  taken_off_fault e =
      let after = or_else (entered_fault app (walk_end (name ∷ words)).stopped) (final_fault (walk_end (name ∷ words)) (is_some (entered app (walk_end (name ∷ words)).stopped))) in
      let rest = second_none (walk_fault top command_names start (name ∷ words)) after e in
      taken_below name words (sym below ∙ first_none (entered_fault app (walk_end (name ∷ words)).stopped) (final_fault (walk_end (name ∷ words)) (is_some (entered app (walk_end (name ∷ words)).stopped))) rest)

  fault_off_taken : Taken start words → fault_of reader_app (name ∷ words) ≡ []
  fault_off_taken t =
      let has = is_some (entered app (walk_end (name ∷ words)).stopped) in
      both_none (walk_fault top command_names start (name ∷ words)) (or_else (entered_fault app (walk_end (name ∷ words)).stopped) (final_fault (walk_end (name ∷ words)) has)) walk_passing
      (both_none (entered_fault app (walk_end (name ∷ words)).stopped) (final_fault (walk_end (name ∷ words)) has) (below ∙ below_taken name words t)
      (ap (λ w. final_fault w has) ends ∙ no_final name words has))

pub all_texts : {Z : Type 0} (words : List (String Z)) → AllTexts (map (λ s. string_bytes s) words)
all_texts [] = tt
all_texts (w ∷ ws) = (IsUtf8-string_bytes w, all_texts ws)

-- what was read
pub is_read : (words : Words) (m n : ArgMatches) (name : Text) → AllTexts words → names_command words ≡ true → fault_of reader_app words ≡ [] → HasMatchesOf reader_app words m
    → subcommand_rows_of m ≡ Some (name, rows_of (found_of n)) → IsRead words name (given (codes "operand") n) (given (codes "workers") n)
is_read [] m n name u c e h s = absurd (true≢false (sym c))
is_read (w ∷ words) m n name u c e h s =
    let is = is_name w c in
    let (o, v, r, k) = sound words [] None idle [] [] tt refl (refl, refl) u.1 (taken_off_fault w is words e) in
    let q : Some (name, rows_of (found_of n)) ≡ Some (w, rows_after rules [] words) = sym s ∙ (h reader_is_simple).1 ∙ subcommand_is w is words in
    let p : (name, rows_of (found_of n)) ≡ (w, rows_after rules [] words) = cc q in
    let same : name ≡ w = ap (λ (x : Text × List Row). x.0) p in
    let rows : rows_of (found_of n) ≡ rows_at_end start words = ap (λ (x : Text × List Row). x.1) p ∙ same_finished (end words) in
    let a : given (codes "operand") n ≡ o = given_is (codes "operand") n ∙ ap (texts_at (codes "operand")) rows ∙ k.0 in
    let b : given (codes "workers") n ≡ v = given_is (codes "workers") n ∙ ap (texts_at (codes "workers")) rows ∙ k.1 in
    (words, ap (λ x. x ∷ words) (sym same), subst (λ x. Reads words x (given (codes "workers") n)) (sym a) (subst (λ x. Reads words o x) (sym b) r))

-- a parse has a command
pub has_command : (words : Words) (m : ArgMatches) → names_command words ≡ true → HasMatchesOf reader_app words m → subcommand_rows_of m ≡ None → ⊥
has_command [] m c h s = true≢false (sym c)
has_command (w ∷ words) m c h s =
    let q : None ≡ Some (w, rows_after rules [] words) = sym s ∙ (h reader_is_simple).1 ∙ subcommand_is w (is_name w c) words in
    cc q

-- ---- words with a form

count_operand : (figures most : ℕ) (word : Text) (n : ℕ) → IsCount figures most word n → IsOperand word
count_operand figures most [] n h = tt
count_operand figures most (c ∷ cs) n h = inl (λ e. let k : digit_value 45 < 10 = subst (λ x. digit_value x < 10) e h.0.1.0 in omega (arith, k))

workers_operands : (values : Words) (n : ℕ) → IsWorkers values n → AllOperands values
workers_operands [] n h = tt
workers_operands (val ∷ []) n h = (count_operand 3 64 val n h, tt)
workers_operands (val ∷ other ∷ values) n h = absurd h

-- a word that asks for a command names it, and the values are numbers
asks_named : (word : Text) (operands values : Words) (command : Command) → Asks word operands values command → IsName word × AllOperands values
asks_named word operands values (parse g t n) h = (subst IsName (sym h.0) is_parse, workers_operands values n h.2)
asks_named word operands values (check g) h = (subst IsName (sym h.0) is_check, subst AllOperands (sym h.2) tt)
asks_named word operands values (sample k n) h = (subst IsName (sym h.0) is_sample, workers_operands values n h.4)

no_fault : (words : Words) (command : Command) → IsCommand words command → fault_of reader_app words ≡ []
no_fault words command (w, os, ops, vals, e, r, a) =
    let (is, plain) = asks_named w ops vals command a in
    subst (λ x. fault_of reader_app x ≡ []) (sym e) (fault_off_taken w is os (complete os ops vals r plain [] None idle tt refl))

-- words that are refused have no form
pub refused : (words : Words) (kind : ErrorKind) → IsAmong kind (fault_of reader_app words) → HasNoForm words
refused words kind h command is = subst (IsAmong kind) (no_fault words command is) h
