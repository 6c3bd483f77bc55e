-- What the reader's values stand for on the way of reading that is proved to find what is spelled.
use Rattle.std.specs.Prelude.{◌≡◌, List, map, reverse, Option, Some, None, Result, Ok, Err}
use Rattle.ix_reader.specs.declared.read_fault.ReadFault.{ReadFault}
use Rattle.ix_reader.specs.declared.read_fault.ReadFault.TheVariants.{Memory, NotIxml, TooDeep}
use Rattle.ix_reader.specs.declared.machine.Lexeme.{Lexeme}
use Rattle.ix_reader.specs.declared.machine.Lexeme.TheVariants as lexeme
use Rattle.ix_reader.specs.declared.machine.Hole.{Hole}
use Rattle.ix_reader.specs.declared.machine.Hole.TheVariants as hole
use Rattle.ix_reader.specs.declared.machine.Phase.{Phase}
use Rattle.ix_reader.specs.declared.machine.Phase.TheVariants as phase
use Rattle.ix_reader.specs.declared.machine.Frame.{Frame}
use Rattle.ix_reader.specs.declared.machine.Part.{Part}
use Rattle.ix_reader.specs.declared.machine.Work.{Work}
use Rattle.ix_reader.specs.declared.machine.State.{State}
use Rattle.ix_spelling_laws.specs.Reading.Lexing as L
use Rattle.ix_spelling_laws.specs.Reading.Machine as M

abbrev pub lexeme_of : Lexeme → L.Lexeme
lexeme_of (lexeme.Word name) = L.word name
lexeme_of (lexeme.Quote text) = L.quote text
lexeme_of (lexeme.Hex digits) = L.hex digits
lexeme_of lexeme.At = L.at
lexeme_of lexeme.Caret = L.caret
lexeme_of lexeme.Dash = L.dash
lexeme_of lexeme.Colon = L.colon
lexeme_of lexeme.Equals = L.equals
lexeme_of lexeme.Semi = L.semi
lexeme_of lexeme.Bar = L.bar
lexeme_of lexeme.Comma = L.comma
lexeme_of lexeme.Stop = L.stop
lexeme_of lexeme.Question = L.question
lexeme_of lexeme.Star = L.star
lexeme_of lexeme.Stars = L.stars
lexeme_of lexeme.Plus = L.plus
lexeme_of lexeme.Pluses = L.pluses
lexeme_of lexeme.OpenGroup = L.open_group
lexeme_of lexeme.CloseGroup = L.close_group
lexeme_of lexeme.OpenSet = L.open_set
lexeme_of lexeme.CloseSet = L.close_set
lexeme_of lexeme.Tilde = L.tilde

abbrev pub hole_of : Hole → M.Hole
hole_of hole.Item = M.item
hole_of (hole.StarOf f) = M.star_of f
hole_of (hole.PlusOf f) = M.plus_of f

abbrev pub frame_of : Frame → M.Frame
frame_of f = record { alts = f.alts; terms = f.terms; hole = hole_of f.hole }

-- the frames below the top, the innermost first
abbrev pub frames_of : List Frame → List M.Frame
frames_of fs = map frame_of (reverse fs)

abbrev pub part_of : Part → M.Part
part_of p = record { tmark = p.tmark; exclude = p.exclude; members = p.members }

abbrev pub work_of : Work → M.Work
work_of w = record { version = w.head.version; rules = w.head.rules; mark = w.head.mark; name = w.head.name; top = frame_of w.top; below = frames_of w.below }

abbrev pub phase_of : Phase → M.Phase
phase_of phase.Begin = M.begin
phase_of phase.Ixml = M.ixml
phase_of phase.VersionNext = M.version_next
phase_of phase.PrologStop = M.prolog_stop
phase_of phase.RuleStart = M.rule_start
phase_of phase.RuleNext = M.rule_next
phase_of phase.RuleMarked = M.rule_marked
phase_of phase.RuleNamed = M.rule_named
phase_of phase.AltStart = M.alt_start
phase_of phase.Want = M.want
phase_of (phase.Marked tmark) = M.marked tmark
phase_of phase.AtMarked = M.at_marked
phase_of phase.Inserting = M.inserting
phase_of (phase.Excluding tmark) = M.excluding tmark
phase_of (phase.SetStart p) = M.set_start (part_of p)
phase_of (phase.MemberNext p) = M.member_next (part_of p)
phase_of (phase.BoundRead p b) = M.bound_read (part_of p) b
phase_of (phase.RangeTo p b) = M.range_to (part_of p) b
phase_of (phase.MemberRead p) = M.member_read (part_of p)
phase_of (phase.ItemRead f) = M.item_read f
phase_of phase.TermRead = M.term_read

abbrev pub state_of : State → M.State
state_of s = record { phase = phase_of s.phase; work = work_of s.work }

-- what a fault says of what is given: there is nothing, or memory ran out
abbrev pub Fails : {Y : Type 0} → ReadFault → Option Y → Type 0
Fails Memory given = Unit {0}
Fails NotIxml given = given ≡ None
Fails TooDeep given = ⊥

-- what a function returned, seen by view, is what is given, unless memory ran out
abbrev pub Gives : {X Y : Type 0} → (X → Y) → Result X ReadFault → Option Y → Type 0
Gives view (Ok x) given = given ≡ Some (view x)
Gives view (Err e) given = Fails e given
