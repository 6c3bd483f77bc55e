-- What the faults below are as refusals of a grammar.
use Rattle.ix_edge.specs.declared.fault.TextFault.{TextFault}
use Rattle.ix_edge.specs.declared.fault.TextFault.TheVariants as text
use Rattle.ix_errors.specs.declared.breach.Breach.{Breach}
use Rattle.ix_errors.specs.declared.breach.Breach.TheVariants as breach
use Rattle.ix_reader.specs.declared.read_fault.ReadFault.{ReadFault}
use Rattle.ix_reader.specs.declared.read_fault.ReadFault.TheVariants as reader
use Rattle.ix_engine.specs.declared.refusal.Refusal.{Refusal}
use Rattle.ix_engine.specs.declared.refusal.Refusal.TheVariants as refusal

abbrev pub of_text : TextFault → Refusal
of_text (text.NotUtf8 valid) = refusal.NotUtf8 valid
of_text text.Memory = refusal.Memory

abbrev pub of_reader : ReadFault → Refusal
of_reader reader.NotIxml = refusal.NotIxml
of_reader reader.TooDeep = refusal.TooDeep
of_reader reader.Memory = refusal.Memory

abbrev pub of_breach : Breach → Refusal
of_breach (breach.Version text) = refusal.Version text
of_breach (breach.CodePoint digits) = refusal.CodePoint digits
of_breach (breach.Range low high) = refusal.Range low high
of_breach (breach.Class name) = refusal.Class name
of_breach (breach.Undefined name) = refusal.Undefined name
of_breach (breach.Duplicate name) = refusal.Duplicate name
of_breach breach.Memory = refusal.Memory
