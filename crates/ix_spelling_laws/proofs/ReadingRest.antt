-- What is still to be spelled, behind each state.
use Rattle.std.proofs.Common.{◌≡◌, ℕ, List, [], ◌∷◌, ◌++◌, ◌⊎◌, Option, Some, None}
use Rattle.std.specs.Prelude.{Bool, true, false, codes}
use Rattle.ix_model.specs.declared.grammar.Grammar.{Grammar}
use Rattle.ix_model.specs.declared.grammar.Rule.{Rule}
use Rattle.ix_model.specs.declared.grammar.Mark.{Mark}
use Rattle.ix_model.specs.declared.grammar.Mark.TheVariants.{Attribute}
use Rattle.ix_model.specs.declared.grammar.TMark.{TMark}
use Rattle.ix_model.specs.declared.grammar.Chars.{Chars}
use Rattle.ix_model.specs.declared.grammar.Member.{Member}
use Rattle.ix_model.specs.declared.grammar.Member.TheVariants as member
use Rattle.ix_model.specs.declared.grammar.Bound.{Bound}
use Rattle.ix_model.specs.declared.grammar.Alt.{Alt}
use Rattle.ix_model.specs.declared.grammar.Term.{Term, One, Opt, Star, Plus}
use Rattle.ix_model.specs.declared.grammar.Factor.{Factor, Lit, Set, Call, Insert, Group}
use Rattle.ix_model.specs.Spelling.Spacing.{Takes, S, RS}
use Rattle.ix_model.specs.Spelling.Words.{NameAt}
use Rattle.ix_model.specs.Spelling.Spells.{StringAt, CharsAt, BoundAt, MembersAt, SetAt, AltsAt, TermsAt, FactorAt, RulesAt, Spells}
use Rattle.ix_spelling_laws.specs.Reading.Machine

-- ---- parts of a rule

pub data Tail (f : Factor) : List ℕ → List ℕ → Term → Type 0 where
  tail_none : (c : List ℕ) → Tail f c c (One f)
  tail_option : (c d r : List ℕ) → Takes (codes "?") c d → S d r → Tail f c r (Opt f)
  tail_star : (c d r : List ℕ) → Takes (codes "*") c d → S d r → Tail f c r (Star f None)
  tail_star_by : (c d e r : List ℕ) (s : Factor) → Takes (codes "**") c d → S d e → FactorAt e r s → Tail f c r (Star f (Some s))
  tail_plus : (c d r : List ℕ) → Takes (codes "+") c d → S d r → Tail f c r (Plus f None)
  tail_plus_by : (c d e r : List ℕ) (s : Factor) → Takes (codes "++") c d → S d e → FactorAt e r s → Tail f c r (Plus f (Some s))

pub data MoreTerms : List ℕ → List ℕ → List Term → Type 0 where
  no_more_terms : (c : List ℕ) → MoreTerms c c []
  and_terms : (c d e r : List ℕ) (t : Term) (ts : List Term) → Takes (codes ",") c d → S d e → TermsAt e r t ts → MoreTerms c r (t ∷ ts)

pub data MoreAlts : List ℕ → List ℕ → List Alt → Type 0 where
  no_more_alts : (c : List ℕ) → MoreAlts c c []
  and_alts : (c d e r : List ℕ) (al : List Alt) → Takes (codes ";") c d ⊎ Takes (codes "|") c d → S d e → AltsAt e r al → MoreAlts c r al

pub data BoundTail (b : Bound) : List ℕ → List ℕ → Member → Type 0 where
  bound_alone : (c : List ℕ) → BoundTail b c c (Machine.member_of b)
  bound_range : (c d e f r : List ℕ) (high : Bound) → S c d → Takes (codes "-") d e → S e f → BoundAt f r high → BoundTail b c r (member.Range b high)

-- behind a member, to the bracket that closes and past it
pub data MoreMembers : List ℕ → List ℕ → List Member → Type 0 where
  no_more_members : (c r : List ℕ) → Takes (codes "]") c r → MoreMembers c r []
  and_members : (c d e f r : List ℕ) (ms : List Member) → Takes (codes ";") c d ⊎ Takes (codes "|") c d → S d e → MembersAt e f ms → Takes (codes "]") f r → MoreMembers c r ms

-- behind the bracket that opens, past the one that closes
pub data SetInner : List ℕ → List ℕ → List Member → Type 0 where
  inner_none : (c r : List ℕ) → Takes (codes "]") c r → SetInner c r []
  inner_some : (c d r : List ℕ) (ms : List Member) → MembersAt c d ms → Takes (codes "]") d r → SetInner c r ms

-- behind a mark `^` or `-`
pub data AfterMark (m : TMark) : List ℕ → List ℕ → Factor → Type 0 where
  mark_literal : (c r : List ℕ) (cs : Chars) → CharsAt c r cs → AfterMark m c r (Lit (Some m) cs)
  mark_set : (c d r : List ℕ) (exclude : Bool) (ms : List Member) → SetAt c d exclude ms → S d r → AfterMark m c r (Set (Some m) exclude ms)
  mark_call : (c d r : List ℕ) (n : List ℕ) → NameAt c d n → S d r → AfterMark m c r (Call (Some (Machine.mark_for m)) n)

-- ---- what comes then

-- with the alternatives, at the characters behind them
abbrev pub Then : Type 1
Then = List Alt → List ℕ → Type 0

abbrev pub AltThen : Machine.Frame → List ℕ → Then → Type 0
AltThen f c k = (al : List Alt) × (r : List ℕ) × MoreAlts c r al × k (f.alts ++ record { terms = f.terms } ∷ al) r

abbrev pub TermThen : Machine.Frame → List ℕ → Then → Type 0
TermThen f c k = (ts : List Term) × (r : List ℕ) × MoreTerms c r ts × AltThen (record { alts = f.alts; terms = f.terms ++ ts; hole = Machine.item }) r k

abbrev pub ItemThen : Factor → Machine.Frame → List ℕ → Then → Type 0
ItemThen x f c k = (t : Term) × (r : List ℕ) × Tail x c r t × TermThen (Machine.with_term f t) r k

abbrev pub FactorThen : Machine.Hole → Machine.Frame → Factor → List ℕ → Then → Type 0
FactorThen Machine.item f x c k = ItemThen x f c k
FactorThen (Machine.star_of i) f x c k = TermThen (Machine.with_term f (Star i (Some x))) c k
FactorThen (Machine.plus_of i) f x c k = TermThen (Machine.with_term f (Plus i (Some x))) c k

-- behind a rule's full stop
abbrev pub RulesThen : Option (List ℕ) → List Rule → List ℕ → Grammar → Type 0
RulesThen version rules c g =
    (S c [] × (g ≡ record { version = version; rules = rules }))
    ⊎ ((d r : List ℕ) × (rs : List Rule) × RS c d × RulesAt d r rs × S r [] × (g ≡ record { version = version; rules = rules ++ rs }))

-- what the rest of the grammar wants of the work
pub record Head : Type 0 where
  pub version : Option (List ℕ)
  pub rules : List Rule
  pub mark : Option Mark
  pub name : List ℕ

abbrev pub head_of : Machine.Work → Head
head_of w = record { version = w.version; rules = w.rules; mark = w.mark; name = w.name }

abbrev pub EndThen : Head → Grammar → Then
EndThen w g alts c = (d : List ℕ) × Takes (codes ".") c d × RulesThen w.version (w.rules ++ record { mark = w.mark; name = w.name; alts = alts } ∷ []) d g

abbrev pub CloseThen : List Machine.Frame → Head → Grammar → Then
CloseThen [] w g alts c = EndThen w g alts c
CloseThen (f ∷ fs) w g alts c =
    (d e : List ℕ) × Takes (codes ")") c d × S d e × FactorThen f.hole f (Group alts) e (λ more r. CloseThen fs w g more r)

abbrev pub Closing : Machine.Work → Grammar → Then
Closing w g = CloseThen w.below (head_of w) g

abbrev pub DoneThen : Machine.Work → Factor → List ℕ → Grammar → Type 0
DoneThen w x c g = FactorThen w.top.hole w.top x c (Closing w g)

abbrev pub MembersThen : Machine.Part → Machine.Work → List Member → List ℕ → Grammar → Type 0
MembersThen s w ms d g = (r : List ℕ) × S d r × DoneThen w (Set s.tmark s.exclude ms) r g

-- behind a rule's name
abbrev pub NamedThen : Machine.Work → List ℕ → Grammar → Type 0
NamedThen w c g =
    (d e f h : List ℕ) × (alts : List Alt) × S c d × (Takes (codes "=") d e ⊎ Takes (codes ":") d e) × S e f × AltsAt f h alts × EndThen (head_of w) g alts h

abbrev pub StartThen : Machine.Work → List ℕ → Grammar → Type 0
StartThen w c g = (d r : List ℕ) × (rs : List Rule) × S c d × RulesAt d r rs × S r [] × (g ≡ record { version = w.version; rules = w.rules ++ rs })

abbrev pub StopThen : Machine.Work → List ℕ → Grammar → Type 0
StopThen w c g = (d e : List ℕ) × S c d × Takes (codes ".") d e × StartThen w e g

abbrev pub VersionThen : Machine.Work → List ℕ → Grammar → Type 0
VersionThen w c g = (d e xs : List ℕ) × RS c d × StringAt d e xs × StopThen (record w { version = Some xs }) e g

abbrev pub Rest : Machine.Phase → Machine.Work → List ℕ → Grammar → Type 0
Rest Machine.begin w c g = (w ≡ Machine.start.work) → Spells c g
Rest Machine.ixml w c g = NamedThen w c g ⊎ ((d e : List ℕ) × RS c d × Takes (codes "version") d e × VersionThen w e g)
Rest Machine.version_next w c g = VersionThen w c g
Rest Machine.prolog_stop w c g = StopThen w c g
Rest Machine.rule_start w c g = StartThen w c g
Rest Machine.rule_next w c g = RulesThen w.version w.rules c g
Rest Machine.rule_marked w c g = (d e n : List ℕ) × S c d × NameAt d e n × NamedThen (Machine.named w w.mark n) e g
Rest Machine.rule_named w c g = NamedThen w c g
Rest Machine.alt_start w c g = (d r : List ℕ) × (al : List Alt) × S c d × AltsAt d r al × Closing w g (w.top.alts ++ al) r
Rest Machine.want w c g = (d r : List ℕ) × (x : Factor) × S c d × FactorAt d r x × DoneThen w x r g
Rest (Machine.marked m) w c g = (d r : List ℕ) × (x : Factor) × S c d × AfterMark m d r x × DoneThen w x r g
Rest Machine.at_marked w c g = (d e r n : List ℕ) × S c d × NameAt d e n × S e r × DoneThen w (Call (Some Attribute) n) r g
Rest Machine.inserting w c g = (d r : List ℕ) × (cs : Chars) × S c d × CharsAt d r cs × DoneThen w (Insert cs) r g
Rest (Machine.excluding m) w c g = (d e r : List ℕ) × (ms : List Member) × S c d × SetAt d e false ms × S e r × DoneThen w (Set m true ms) r g
Rest (Machine.set_start s) w c g = (d e : List ℕ) × (ms : List Member) × S c d × SetInner d e ms × MembersThen s w (s.members ++ ms) e g
Rest (Machine.member_next s) w c g = (d e f : List ℕ) × (ms : List Member) × S c d × MembersAt d e ms × Takes (codes "]") e f × MembersThen s w (s.members ++ ms) f g
Rest (Machine.bound_read s b) w c g = (d e f : List ℕ) × (m : Member) × (ms : List Member) × BoundTail b c d m × S d e × MoreMembers e f ms × MembersThen s w (s.members ++ m ∷ ms) f g
Rest (Machine.range_to s b) w c g = (d e f h : List ℕ) × (high : Bound) × (ms : List Member) × S c d × BoundAt d e high × S e f × MoreMembers f h ms × MembersThen s w (s.members ++ member.Range b high ∷ ms) h g
Rest (Machine.member_read s) w c g = (d e : List ℕ) × (ms : List Member) × S c d × MoreMembers d e ms × MembersThen s w (s.members ++ ms) e g
Rest (Machine.item_read x) w c g = (d : List ℕ) × S c d × ItemThen x w.top d (Closing w g)
Rest Machine.term_read w c g = (d : List ℕ) × S c d × TermThen w.top d (Closing w g)

-- what is still to be spelled behind a step
abbrev pub StepRest : Option Machine.State → List ℕ → Grammar → Type 0
StepRest None c g = ⊥
StepRest (Some s) c g = Rest s.phase s.work c g
