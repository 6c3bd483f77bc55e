-- What tasks stand for: steps of the walk, and a number of tasks.
use Rattle.std.specs.Prelude.{◌≡◌, ℕ, ◌+◌, ◌<◌, List, [], ◌∷◌, ◌++◌}
use Rattle.ix_model.specs.declared.step.Step.{Step}
use Rattle.ix_model.specs.declared.step.Step.TheVariants as step
use Rattle.ix_model.specs.Expansion.Parts.{Parts}
use Rattle.ix_model.specs.Expansion.Slots.{info_at}
use Rattle.ix_model.specs.Expansion.FlatTrees.{FlatTree, flat_text, flat_insertion, flat_node, FlatTrees, no_flat, flats_and}
use Rattle.ix_model.specs.Expansion.Walk.{walk, walk_all}
use Rattle.ix_first_laws.specs.Bounded.{IsBestTree}
use Rattle.ix_choice.specs.SlotTrees.{AreBestBefore, IsSymOfUse, IsSlotOfUse}
use Rattle.ix_choice.specs.declared.task.Task.{Task}
use Rattle.ix_choice.specs.declared.task.Task.TheVariants as task

-- how many tasks a tree makes
abbrev mutual
  pub tree_size : FlatTree → ℕ
  tree_size (flat_text i j) = 1
  tree_size flat_insertion = 1
  tree_size (flat_node r a ds) = trees_size ds + 2

  pub trees_size : FlatTrees → ℕ
  trees_size no_flat = 1
  trees_size (flats_and ds d) = trees_size ds + tree_size d + 1

module _ (plan : Parts) where
  -- the task's steps, and how many tasks it makes
  abbrev pub Gives : Task → List Step → ℕ → Type 0
  Gives task.Leave steps size = (steps ≡ step.Leave ∷ []) × (size ≡ 1)
  Gives (task.Tree x i j b) steps size = (d : FlatTree) × IsBestTree plan b x i j d × IsSymOfUse plan x i j × (steps ≡ walk plan.rules d x) × (size ≡ tree_size d)
  Gives (task.Before s i j b) steps size =
      (ds : FlatTrees) × AreBestBefore plan b s i j ds × IsSlotOfUse plan s i j × (steps ≡ walk_all plan.rules ds (info_at plan s).head (info_at plan s).alt) × (size ≡ trees_size ds)

  -- the last task comes first
  abbrev pub AllGive : List Task → List Step → ℕ → Type 0
  AllGive [] rest size = (rest ≡ []) × (size ≡ 0)
  AllGive (t ∷ ts) rest size = (mine : List Step) × (n : ℕ) × (theirs : List Step) × (m : ℕ) × Gives t mine n × AllGive ts theirs m × (rest ≡ theirs ++ mine) × (size ≡ m + n)

  -- the task is done by the steps that are given and the tasks that are put behind the others
  pub record Done (t : Task) (ts us : List Task) (out new : List Step) (steps : List Step) (size : ℕ) : Type 0 where
    pub given : List Step
    pub more : List Task
    pub rest : List Step
    pub count : ℕ
    pub tasks_are : us ≡ ts ++ more
    pub out_is : new ≡ out ++ given
    pub gives : AllGive more rest count
    pub steps_are : steps ≡ given ++ rest
    pub fewer : count < size

  -- whatever the task stands for, it is done
  abbrev pub Does : Task → List Task → List Task → List Step → List Step → Type 0
  Does t ts us out new = (steps : List Step) (size : ℕ) → Gives t steps size → Done t ts us out new steps size

  -- the task stands for some steps
  abbrev pub CanDo : Task → Type 0
  CanDo t = (steps : List Step) × (size : ℕ) × Gives t steps size
