-- What goes to the output, as bytes: some that are there, or those of a document that is still to be written.
-- Source: this project's own.
use Rattle.std.specs.Prelude.{◌≡◌, ◌≤◌, ℕ, List, length}
use Rattle.ix_model.specs.Documents.Dyn.{HasNoRefusal}
use Rattle.ix_model.specs.Documents.Gives.{Givens}
use Rattle.ix_model.specs.Documents.Xml.{xml}
use Rattle.ix_marks.specs.InRange.{AreIn}
use Rattle.ix_marks.specs.Standing.{StandsFor}
use Rattle.ix_cli.specs.declared.output.Content.{Content}
use Rattle.ix_cli.specs.declared.output.Content.TheVariants.{Bytes, Document}

-- These are the bytes: those that are there, or those of a document that the marked tree stands for.
abbrev pub HasBytes : Content → List ℕ → Type 0
HasBytes (Bytes v) bytes = v.items ≡ bytes
HasBytes (Document d) bytes = (gs : Givens) × StandsFor d.plan.rules.names d.marked gs × HasNoRefusal gs × (bytes ≡ xml gs d.state)

-- What a document needs to be written is there: all that its marked tree names, something that it stands for and that is a document, and a
-- buffer of 16 bytes or more. Bytes need nothing.
abbrev pub IsWritable : Content → Type 0
IsWritable (Bytes v) = Unit {0}
IsWritable (Document d) =
    AreIn d.plan.rules.names d.marked × ((gs : Givens) × StandsFor d.plan.rules.names d.marked gs × HasNoRefusal gs) × (16 ≤ length d.buffer.items)
