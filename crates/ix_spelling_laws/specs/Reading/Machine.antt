-- Reading a grammar from its tokens, one token after another: a machine with a stack of its own.
use Rattle.std.specs.Prelude.{ℕ, Bool, true, false, ◌&&◌, ◌==◌, if◌then◌else◌, List, [], ◌∷◌, ◌++◌, codes, Option, Some, None}
use Rattle.ix_model.specs.declared.grammar.Grammar.{Grammar}
use Rattle.ix_model.specs.declared.grammar.Rule.{Rule}
use Rattle.ix_model.specs.declared.grammar.Mark.{Mark}
use Rattle.ix_model.specs.declared.grammar.Mark.TheVariants.{Element, Attribute, Hidden}
use Rattle.ix_model.specs.declared.grammar.TMark.{TMark}
use Rattle.ix_model.specs.declared.grammar.TMark.TheVariants.{Shown, Deleted}
use Rattle.ix_model.specs.declared.grammar.Chars.TheVariants as chars
use Rattle.ix_model.specs.declared.grammar.Member.{Member}
use Rattle.ix_model.specs.declared.grammar.Member.TheVariants as member
use Rattle.ix_model.specs.declared.grammar.Bound.{Bound}
use Rattle.ix_model.specs.declared.grammar.Bound.TheVariants as bound
use Rattle.ix_model.specs.declared.grammar.Alt.{Alt}
use Rattle.ix_model.specs.declared.grammar.Term.{Term, One, Opt, Star, Plus}
use Rattle.ix_model.specs.declared.grammar.Factor.{Factor, Lit, Set, Call, Insert, Group}
use Rattle.ix_model.specs.Spelling.Spells.{is_class}
use Rattle.ix_spelling_laws.specs.Reading.Lexing.{Lexeme, word, quote, hex, at, caret, dash, colon, equals, semi, bar, comma, stop, question, star, stars, plus, pluses, open_group, close_group, open_set, close_set, tilde, Token}

-- what the factor that comes is: an item, or the separator behind an item
pub data Hole : Type 0 where
  item : Hole
  star_of : Factor → Hole
  plus_of : Factor → Hole

-- what was read of alternatives that are not complete
pub record Frame : Type 0 where
  pub alts : List Alt
  pub terms : List Term
  pub hole : Hole

-- what was read of the grammar: its complete rules, the rule that is open with its alternatives, and below
-- them those in which a parenthesis is open, the innermost first
pub record Work : Type 0 where
  pub version : Option (List ℕ)
  pub rules : List Rule
  pub mark : Option Mark
  pub name : List ℕ
  pub top : Frame
  pub below : List Frame

-- what was read of a set
pub record Part : Type 0 where
  pub tmark : Option TMark
  pub exclude : Bool
  pub members : List Member

-- what was read last
pub data Phase : Type 0 where
  begin : Phase
  ixml : Phase
  version_next : Phase
  prolog_stop : Phase
  rule_start : Phase
  rule_next : Phase
  rule_marked : Phase
  rule_named : Phase
  alt_start : Phase
  want : Phase
  marked : TMark → Phase
  at_marked : Phase
  inserting : Phase
  excluding : Option TMark → Phase
  set_start : Part → Phase
  member_next : Part → Phase
  bound_read : Part → Bound → Phase
  range_to : Part → Bound → Phase
  member_read : Part → Phase
  item_read : Factor → Phase
  term_read : Phase

pub record State : Type 0 where
  pub phase : Phase
  pub work : Work

abbrev pub goes : Phase → Work → Option State
goes p w = Some (record { phase = p; work = w })

abbrev pub is_text : List ℕ → List ℕ → Bool
is_text [] [] = true
is_text (x ∷ xs) (y ∷ ys) = (x == y) && is_text xs ys
is_text _ _ = false

abbrev pub no_frame : Frame
no_frame = record { alts = []; terms = []; hole = item }

abbrev pub with_term : Frame → Term → Frame
with_term f t = record { alts = f.alts; terms = f.terms ++ t ∷ []; hole = item }

-- the alternative is complete
abbrev pub complete : Frame → List Alt
complete f = f.alts ++ record { terms = f.terms } ∷ []

abbrev pub fresh : Frame → Frame
fresh f = record { alts = f.alts; terms = []; hole = item }

abbrev pub on_top : Work → Frame → Work
on_top w f = record w { top = f }

-- a factor is complete, in this place of the frame
abbrev pub after_factor : Hole → Frame → Work → Factor → State
after_factor item f w x = record { phase = item_read x; work = record w { top = f } }
after_factor (star_of i) f w x = record { phase = term_read; work = record w { top = with_term f (Star i (Some x)) } }
after_factor (plus_of i) f w x = record { phase = term_read; work = record w { top = with_term f (Plus i (Some x)) } }

abbrev pub factor_done : Work → Factor → State
factor_done w x = after_factor w.top.hole w.top w x

abbrev pub opened : Work → Work
opened w = record w { top = no_frame; below = w.top ∷ w.below }

abbrev pub start_factor : Work → Lexeme → Option State
start_factor w (word n) = Some (factor_done w (Call None n))
start_factor w (quote xs) = Some (factor_done w (Lit None (chars.Quoted xs)))
start_factor w (hex ds) = Some (factor_done w (Lit None (chars.Code ds)))
start_factor w at = goes at_marked w
start_factor w caret = goes (marked Shown) w
start_factor w dash = goes (marked Deleted) w
start_factor w plus = goes inserting w
start_factor w tilde = goes (excluding None) w
start_factor w open_set = goes (set_start (record { tmark = None; exclude = false; members = [] })) w
start_factor w open_group = goes alt_start (opened w)
start_factor w _ = None

-- a parenthesis closes around these alternatives
abbrev pub close : List Frame → Work → List Alt → Option State
close [] w alts = None
close (f ∷ fs) w alts = Some (after_factor f.hole f (record w { below = fs }) (Group alts))

-- a rule ends with these alternatives
abbrev pub end_rule : List Frame → Work → List Alt → Option State
end_rule [] w alts = goes rule_next (record w { rules = w.rules ++ record { mark = w.mark; name = w.name; alts = alts } ∷ []; top = no_frame })
end_rule (f ∷ fs) w alts = None

-- behind an alternative with the terms of f
abbrev pub end_alt : Frame → Work → Lexeme → Option State
end_alt f w semi = goes alt_start (record w { top = record { alts = complete f; terms = []; hole = item } })
end_alt f w bar = goes alt_start (record w { top = record { alts = complete f; terms = []; hole = item } })
end_alt f w close_group = close w.below w (complete f)
end_alt f w stop = end_rule w.below w (complete f)
end_alt f w _ = None

abbrev pub with_hole : Frame → Hole → Frame
with_hole f h = record { alts = f.alts; terms = f.terms; hole = h }

-- behind a term, the last of f
abbrev pub end_term : Frame → Work → Lexeme → Option State
end_term f w comma = goes want (record w { top = with_hole f item })
end_term f w k = end_alt f w k

abbrev pub end_item : Factor → Frame → Work → Lexeme → Option State
end_item x f w question = goes term_read (record w { top = with_term f (Opt x) })
end_item x f w star = goes term_read (record w { top = with_term f (Star x None) })
end_item x f w plus = goes term_read (record w { top = with_term f (Plus x None) })
end_item x f w stars = goes want (record w { top = with_hole f (star_of x) })
end_item x f w pluses = goes want (record w { top = with_hole f (plus_of x) })
end_item x f w k = end_term (with_term f (One x)) w k

-- ---- sets

abbrev pub with_member : Part → Member → Part
with_member s m = record { tmark = s.tmark; exclude = s.exclude; members = s.members ++ m ∷ [] }

abbrev pub member_of : Bound → Member
member_of (bound.Quoted x) = member.Quoted (x ∷ [])
member_of (bound.Code ds) = member.Code ds

abbrev pub set_done : Part → Work → State
set_done s w = factor_done w (Set s.tmark s.exclude s.members)

abbrev pub quoted_member : Part → Work → List ℕ → Option State
quoted_member s w (x ∷ []) = goes (bound_read s (bound.Quoted x)) w
quoted_member s w [] = goes (member_read (with_member s (member.Quoted []))) w
quoted_member s w (x ∷ y ∷ xs) = goes (member_read (with_member s (member.Quoted (x ∷ y ∷ xs)))) w

abbrev pub quoted_bound : Part → Bound → Work → List ℕ → Option State
quoted_bound s low w (x ∷ []) = goes (member_read (with_member s (member.Range low (bound.Quoted x)))) w
quoted_bound s low w _ = None

abbrev pub start_member : Part → Work → Lexeme → Option State
start_member s w (quote xs) = quoted_member s w xs
start_member s w (hex ds) = goes (bound_read s (bound.Code ds)) w
start_member s w (word n) = if is_class n then goes (member_read (with_member s (member.Class n))) w else None
start_member s w _ = None

abbrev pub end_member : Part → Work → Lexeme → Option State
end_member s w semi = goes (member_next s) w
end_member s w bar = goes (member_next s) w
end_member s w close_set = Some (set_done s w)
end_member s w _ = None

abbrev pub mark_for : TMark → Mark
mark_for Shown = Element
mark_for Deleted = Hidden

abbrev pub marked_factor : TMark → Work → Lexeme → Option State
marked_factor m w (quote xs) = Some (factor_done w (Lit (Some m) (chars.Quoted xs)))
marked_factor m w (hex ds) = Some (factor_done w (Lit (Some m) (chars.Code ds)))
marked_factor m w (word n) = Some (factor_done w (Call (Some (mark_for m)) n))
marked_factor m w tilde = goes (excluding (Some m)) w
marked_factor m w open_set = goes (set_start (record { tmark = Some m; exclude = false; members = [] })) w
marked_factor m w _ = None

-- ---- rules

abbrev pub named : Work → Option Mark → List ℕ → Work
named w m n = record w { mark = m; name = n }

abbrev pub start_rule : Work → Lexeme → Option State
start_rule w (word n) = goes rule_named (named w None n)
start_rule w at = goes rule_marked (named w (Some Attribute) [])
start_rule w caret = goes rule_marked (named w (Some Element) [])
start_rule w dash = goes rule_marked (named w (Some Hidden) [])
start_rule w _ = None

abbrev pub begin_rule : Work → Lexeme → Option State
begin_rule w (word n) = if is_text n (codes "ixml") then goes ixml (named w None n) else goes rule_named (named w None n)
begin_rule w k = start_rule w k

abbrev pub open_rule : Work → Lexeme → Option State
open_rule w equals = goes alt_start (record w { top = no_frame; below = [] })
open_rule w colon = goes alt_start (record w { top = no_frame; below = [] })
open_rule w _ = None

abbrev pub behind_ixml : Work → Bool → Lexeme → Option State
behind_ixml w gap (word n) = if gap && is_text n (codes "version") then goes version_next w else None
behind_ixml w gap k = open_rule w k

-- the state behind a token
abbrev pub step : Phase → Work → Bool → Lexeme → Option State
step begin w gap k = begin_rule w k
step ixml w gap k = behind_ixml w gap k
step version_next w true (quote xs) = goes prolog_stop (record w { version = Some xs })
step version_next w _ _ = None
step prolog_stop w gap stop = goes rule_start w
step prolog_stop w gap _ = None
step rule_start w gap k = start_rule w k
step rule_next w true k = start_rule w k
step rule_next w false k = None
step rule_marked w gap (word n) = goes rule_named (named w w.mark n)
step rule_marked w gap _ = None
step rule_named w gap k = open_rule w k
step alt_start w gap semi = end_alt (fresh w.top) w semi
step alt_start w gap bar = end_alt (fresh w.top) w bar
step alt_start w gap close_group = end_alt (fresh w.top) w close_group
step alt_start w gap stop = end_alt (fresh w.top) w stop
step alt_start w gap k = start_factor (on_top w (fresh w.top)) k
step want w gap k = start_factor w k
step (marked m) w gap k = marked_factor m w k
step at_marked w gap (word n) = Some (factor_done w (Call (Some Attribute) n))
step at_marked w gap _ = None
step inserting w gap (quote xs) = Some (factor_done w (Insert (chars.Quoted xs)))
step inserting w gap (hex ds) = Some (factor_done w (Insert (chars.Code ds)))
step inserting w gap _ = None
step (excluding m) w gap open_set = goes (set_start (record { tmark = m; exclude = true; members = [] })) w
step (excluding m) w gap _ = None
step (set_start s) w gap close_set = Some (set_done s w)
step (set_start s) w gap k = start_member s w k
step (member_next s) w gap k = start_member s w k
step (bound_read s b) w gap dash = goes (range_to s b) w
step (bound_read s b) w gap k = end_member (with_member s (member_of b)) w k
step (range_to s b) w gap (quote xs) = quoted_bound s b w xs
step (range_to s b) w gap (hex ds) = goes (member_read (with_member s (member.Range b (bound.Code ds)))) w
step (range_to s b) w gap _ = None
step (member_read s) w gap k = end_member s w k
step (item_read x) w gap k = end_item x w.top w k
step term_read w gap k = end_term w.top w k

abbrev pub final : Phase → Work → Option Grammar
final rule_next w = Some (record { version = w.version; rules = w.rules })
final _ w = None

abbrev pub then_run : Option State → (State → Option Grammar) → Option Grammar
then_run None f = None
then_run (Some s) f = f s

abbrev pub run : List Token → State → Option Grammar
run [] s = final s.phase s.work
run (t ∷ ts) s = then_run (step s.phase s.work t.gap t.lexeme) (λ u. run ts u)

abbrev pub start : State
start = record { phase = begin; work = record { version = None; rules = []; mark = None; name = []; top = no_frame; below = [] } }
