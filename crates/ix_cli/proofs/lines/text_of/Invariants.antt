use Rattle.std.proofs.Common.{◌≡◌, ◌++◌, drop, encode_utf8, string_bytes}
use Rattle.std.specs.List.{flat_map}
use Rattle.ix_model.specs.Documents.Xml.{name_bytes}
use Rattle.ix_cli.proofs.lines.text_of.Given as goal

abbrev pub invariant-loop-c : goal.invariant-loop-c
invariant-loop-c l = string_bytes l.text ++ flat_map encode_utf8 (drop l.c-index l.chars) ≡ name_bytes l.chars
