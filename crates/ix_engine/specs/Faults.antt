-- What the faults of bytes are as faults of a text.
use Rattle.ix_edge.specs.declared.fault.TextFault.{TextFault}
use Rattle.ix_edge.specs.declared.fault.TextFault.TheVariants as text
use Rattle.ix_engine.specs.declared.outcome.ParseFault.{ParseFault}
use Rattle.ix_engine.specs.declared.outcome.ParseFault.TheVariants as fault

abbrev pub of_text : TextFault → ParseFault
of_text (text.NotUtf8 valid) = fault.NotUtf8 valid
of_text text.Memory = fault.Memory
