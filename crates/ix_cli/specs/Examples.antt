-- Words, files and counts that the worked examples speak of.
use Rattle.std.specs.Prelude.{Vec, ℕ, List, [], ◌∷◌, false, None, Some, codes, if◌then◌else◌}
use Rattle.std.specs.Str.{bytes_eq}
use Rattle.std.specs.declared.alloc.Global.{Global}
use Rattle.ix_model.specs.declared.state.State.TheVariants.{Single}
use Rattle.ix_examples.specs.SmallPlans.{only_a as a_plan}
use Rattle.ix_marks.specs.declared.item.Item.TheVariants.{Begin, Close, Chars}
use Rattle.ix_marks.specs.MarkedLists.{MarkedLists}
use Rattle.ix_edge.specs.Told.{Told}
use Rattle.ix_engine.specs.Examples.{a_marked}
use Rattle.ix_cli.specs.declared.output.Content.{Content}
use Rattle.ix_cli.specs.declared.output.Content.TheVariants.{Document}
use Rattle.ix_cli.specs.Runs.{Outside}

abbrev pub sample_1 : List (List ℕ)
sample_1 = codes "sample" ∷ codes "1" ∷ []

-- files that hold a grammar under `g` and a text under `t`, and no other name
abbrev pub holding : List ℕ → List ℕ → Told
holding grammar text = record { entries = (codes "g", grammar) ∷ (codes "t", text) ∷ []; others_empty = false }

-- files that hold a grammar under `g`, and no other name
abbrev pub without_text : List ℕ → Told
without_text grammar = record { entries = (codes "g", grammar) ∷ []; others_empty = false }

-- no load has failed
abbrev pub no_count : List ℕ → ℕ
no_count name = 0

-- a load of this name alone has failed
abbrev pub raised : List ℕ → List ℕ → ℕ
raised name other = if bytes_eq name other then 1 else 0

-- these files with these counts, a sink with these bytes and this count, and messages of which none has failed
abbrev pub outside : Told → (List ℕ → ℕ) → List ℕ → ℕ → List ℕ → Outside
outside files counts bytes count line = record { told = Some files; unread = counts; written = Some bytes; unwritten = count; said = Some line; unsaid = 0 }

-- an outside that tells nothing, and that has not failed
abbrev pub none_told : Outside
none_told = record { told = None; unread = no_count; written = None; unwritten = 0; said = None; unsaid = 0 }

-- ---- documents under `S: "a".`, with such a buffer

abbrev pub content_of : MarkedLists → Vec ℕ Global → Content
content_of marked buffer = Document (record { plan = a_plan (codes "a"); marked = marked; state = Single; buffer = buffer })

-- an element `S` with the character `a`
abbrev pub a_content : Vec ℕ Global → Content
a_content buffer = content_of a_marked buffer

-- an element with a name that is not there
abbrev pub unnamed_content : Vec ℕ Global → Content
unnamed_content buffer = content_of (record { items = Begin 1 0 0 ∷ Close 1 ∷ []; attrs = []; top = []; chars = [] }) buffer

-- the character `a` alone
abbrev pub bare_content : Vec ℕ Global → Content
bare_content buffer = content_of (record { items = Chars 0 1 ∷ []; attrs = []; top = []; chars = codes "a" }) buffer
