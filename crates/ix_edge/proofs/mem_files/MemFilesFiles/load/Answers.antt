use Rattle.std.proofs.Common.{rules, ◌≡◌, Some, None, cond, ap, sym, ◌∙◌, find}
use Rattle.std.specs.Option.{option_copied}
use Rattle.ix_edge.specs.Entries.{is_named}
use Rattle.ix_edge.proofs.Held.{front_held, found_unless}
use Rattle.ix_edge.proofs.mem_files.MemFilesFiles.load.Goals as goal

-- the entry is the one that its name finds, unless the load is to fail
taken : (c : goal.After-self-1) → Some c.in-Some.entry.now ≡ cond c.contains-fails.result None (find (is_named c.args.name.now) c.args.self.now.entries.items)
taken c = ap option_copied (sym c.in-Some.is) ∙ (c.entry_to_load.ensures ∙ ap (λ es. cond c.contains-fails.result None (find (is_named c.args.name.now) es)) c.as_slice.ensures.value)

pub returns-in_ok-bytes-in-Some-clause-bytes : goal.returns-in_ok-bytes-in-Some-clause-bytes
returns-in_ok-bytes-in-Some-clause-bytes c =
    front_held c.args.self.now.entries.items c.args.name.now c.args.most c.in-Some.entry.now c.in_ok-bytes-in-Some.bytes (found_unless c.contains-fails.result (find (is_named c.args.name.now) c.args.self.now.entries.items) c.in-Some.entry.now (taken c)) (search rules)
