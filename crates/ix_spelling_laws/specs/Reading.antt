-- One way to read a grammar: characters become tokens, and a machine with a stack of its own goes over them. The lexer
-- and the reader are proved to go this way, and the way is proved to find exactly what `Spells` says. It is no part of
-- that meaning.
pub mod Lexing
pub mod Machine
pub mod Tokens
