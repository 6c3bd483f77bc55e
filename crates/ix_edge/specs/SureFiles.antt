-- Files in memory that never fail, as a list of entries.
use Rattle.std.specs.Prelude.{List}
use Rattle.ix_edge.specs.declared.entry.Entry.{Entry}
use Rattle.ix_edge.specs.declared.sure_files.SureFiles.{SureFiles}

-- the entries that the files were made of
abbrev pub entries_of : SureFiles → List Entry
entries_of f = f.entries.items
