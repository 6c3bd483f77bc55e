use Rattle.ix_offset_laws.proofs.EnteredTerms.{reached_desc}
use Rattle.ix_offset_laws.proofs.laws.reached_have_descriptors.Goals as goal

pub returns : goal.returns
returns c = λ g plan p k planned h. reached_desc g plan planned k.text k.expanded k.unique p h
