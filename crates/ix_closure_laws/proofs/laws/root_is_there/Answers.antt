use Rattle.ix_closure_laws.proofs.Frames.{tree_end, end_derivation, tree_root, root_tree, root_useful, useful_tree}
use Rattle.ix_closure_laws.proofs.laws.root_is_there.Goals as goal

pub returns : goal.returns
returns c = λ plan planned. record {
  end = (tree_end plan planned, end_derivation plan planned);
  root = (tree_root plan planned, root_tree plan planned);
  useful = (λ h. root_useful plan planned (tree_root plan planned h), useful_tree plan planned);
}
