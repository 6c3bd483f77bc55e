-- What comes of a text of which nothing comes, as an outcome of the table.
use Rattle.ix_model.specs.Answers.Outcome.{Outcome, no_form, text_too_long, text_not_utf8, refused}
use Rattle.ix_model.specs.Documents.Dyn.{Refusal, attribute_at_top, not_one_element, bad_name, attribute_xmlns, same_attribute, bad_character}
use Rattle.ix_engine.specs.declared.outcome.DynFault.{DynFault}
use Rattle.ix_engine.specs.declared.outcome.DynFault.TheVariants as code
use Rattle.ix_engine.specs.declared.outcome.ParseFault.{ParseFault}
use Rattle.ix_engine.specs.declared.outcome.ParseFault.TheVariants as fault

-- the reason why a derivation is no document, with its item
abbrev pub code_of : DynFault → Refusal
code_of (code.AttributeAtTop name) = attribute_at_top name
code_of (code.NotOneElement elements chars) = not_one_element elements chars
code_of (code.BadName name) = bad_name name
code_of code.Xmlns = attribute_xmlns
code_of (code.SameAttribute name) = same_attribute name
code_of (code.BadChar c) = bad_character c

-- what comes of the fault; want of memory is no outcome of the table
abbrev pub fault_outcome : ParseFault → Outcome
fault_outcome fault.TooLong = text_too_long
fault_outcome (fault.NotUtf8 valid) = text_not_utf8 valid
fault_outcome (fault.Dynamic code) = refused (code_of code)
fault_outcome fault.Memory = no_form
