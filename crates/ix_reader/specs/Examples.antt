-- Tokens and states of the worked examples.
use Rattle.std.specs.Prelude.{true, false, List, [], ◌∷◌, None, codes}
use Rattle.ix_spelling_laws.specs.Reading.Lexing.{Lexeme, Token, open_group, close_group}
use Rattle.ix_spelling_laws.specs.Reading.Machine.{State, rule_named, set_start, start}

abbrev pub alone : Lexeme → Token
alone lexeme = record { gap = false; lexeme = lexeme }

-- `()`
abbrev pub one_pair : List Token
one_pair = alone open_group ∷ alone close_group ∷ []

-- `(())()`
abbrev pub parenthesised : List Token
parenthesised = alone open_group ∷ alone open_group ∷ alone close_group ∷ alone close_group ∷ alone open_group ∷ alone close_group ∷ []

-- a rule's name was read
abbrev pub named : State
named = record { phase = rule_named; work = record start.work { name = codes "a" } }

-- the `~[` of a set was read
abbrev pub excluding_set : State
excluding_set = record { phase = set_start (record { tmark = None; exclude = true; members = [] }); work = start.work }
