-- What a walk gives to the document: it is the walk of bare trees, and gives what they give.
use Rattle.std.specs.Prelude.{◌≡◌, ℕ, List, [], ◌∷◌, ◌++◌, Some, slice_get}
use Rattle.ix_model.specs.declared.rules.Rules.{Rules}
use Rattle.ix_model.specs.declared.step.Step.{Step}
use Rattle.ix_model.specs.declared.step.Step.TheVariants as step
use Rattle.ix_model.specs.Documents.Bare.{Bare, bare_text, bare_insertion, bare_node, Bares, none, more}
use Rattle.ix_model.specs.Documents.Gives.{Givens, gives_all}

module _ (rules : Rules) where
  abbrev mutual
    -- the steps are the walk of the bare tree: names and inserted texts are those of the rules
    pub IsWalk : Bare → List Step → Type 0
    IsWalk (bare_text low high shown) steps = steps ≡ step.Text low high shown ∷ []
    IsWalk (bare_insertion cs) steps = (n : ℕ) × (slice_get rules.inserts n ≡ Some cs) × (steps ≡ step.Insert n ∷ [])
    IsWalk (bare_node name mark bs) steps = (r : ℕ) × (inner : List Step) × (slice_get rules.names r ≡ Some name) × AreWalks bs inner × (steps ≡ step.Enter r mark ∷ inner ++ step.Leave ∷ [])

    -- the steps are the walks of the bare trees, one behind the other
    pub AreWalks : Bares → List Step → Type 0
    AreWalks none steps = steps ≡ []
    AreWalks (more b bs) steps = (front : List Step) × (rest : List Step) × IsWalk b front × AreWalks bs rest × (steps ≡ front ++ rest)

  -- over the text s, the steps give this
  abbrev pub WalkGives : List ℕ → List Step → Givens → Type 0
  WalkGives s steps gs = (bs : Bares) × AreWalks bs steps × (gs ≡ gives_all s bs)
