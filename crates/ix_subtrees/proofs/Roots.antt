-- A subtree is listed exactly where the text has a derivation.
use Rattle.std.proofs.Common.{◌<◌, List, length, arith}
use Rattle.std.proofs.lemmas.List.{get_or_default}
use Rattle.ix_model.specs.Expansion.Parts.{Parts}
use Rattle.ix_closure_laws.specs.UsefulLaws.{HasUseful}
use Rattle.ix_subtrees.specs.declared.entry.Entry.{Entry}
use Rattle.ix_subtrees.specs.Entries.{entry_at, entry_for}
use Rattle.ix_subtrees.specs.Sets.{sub_of_entry, AreWays}

module _ (plan : Parts) (ways : List Entry) (are : AreWays plan ways) where
  pub listed_useful : 0 < length ways → HasUseful plan
  listed_useful h =
      let e = entry_at ways 0 in
      (sub_of_entry e, (are e).0 (0, h, get_or_default ways 0 e (entry_for 0 0 0 0) h))

  pub useful_listed : HasUseful plan → 0 < length ways
  useful_listed h =
      let c = (are (entry_for h.0.slot h.0.left h.0.right h.0.pivot)).1 h.1 in
      omega (arith, c.1)
