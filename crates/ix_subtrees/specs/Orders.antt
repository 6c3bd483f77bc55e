-- The derived orders, by names for clauses.
use Rattle.std.specs.declared.cmp.Ordering.{Ordering}
use Rattle.ix_subtrees.specs.declared.entry.Span.{Span}
use Rattle.ix_subtrees.specs.declared.entry.Entry.{Entry}
use Rattle.ix_subtrees.specs.declared.node.Key.{Key}
use Rattle.ix_subtrees.specs.contracts.entry.SpanOrd.TheImpl as of_spans
use Rattle.ix_subtrees.specs.contracts.entry.EntryOrd.TheImpl as of_entries
use Rattle.ix_subtrees.specs.contracts.node.KeyOrd.TheImpl as of_keys

-- by number, left end and right end
abbrev pub span_cmp : Span → Span → Ordering
span_cmp = (of_spans.ghosts).cmp

-- by span and choice
abbrev pub entry_cmp : Entry → Entry → Ordering
entry_cmp = (of_entries.ghosts).cmp

-- by owner, left end and right end
abbrev pub key_cmp : Key → Key → Ordering
key_cmp = (of_keys.ghosts).cmp
