-- Why the walk is that of the first tree, and ends.
use Rattle.std.proofs.Common.{◌≡◌, refl, sym, ap, subst, ◌∙◌, ◌+◌, ◌<◌, ℕ, List, [], ◌∷◌, ◌++◌, length, arith, None, append-nil, append_assoc}
use Rattle.ix_model.specs.declared.rules.Kind.TheVariants as kind
use Rattle.ix_model.specs.declared.rules.Sym.{Sym}
use Rattle.ix_model.specs.declared.rules.Sym.TheVariants as sy
use Rattle.ix_model.specs.declared.step.Step.{Step}
use Rattle.ix_model.specs.Expansion.Parts.{Parts}
use Rattle.ix_model.specs.Expansion.Numbered.{kind_at}
use Rattle.ix_model.specs.Expansion.Slots.{info_at}
use Rattle.ix_model.specs.Expansion.FlatTrees.{FlatTree}
use Rattle.ix_model.specs.Expansion.FlatOrder.{FlatFirst}
use Rattle.ix_model.specs.Expansion.Walk.{walk}
use Rattle.ix_first_laws.specs.Nested.{IsNested}
use Rattle.ix_first_laws.specs.Bounded.{IsBestTree}
use Rattle.ix_first_laws.specs.Least.{IsLeastHeight}
use Rattle.ix_first_laws.proofs.FirstTrees.{tree_of, tree_is_best, trees_of, trees_are_best}
use Rattle.ix_first_laws.proofs.FlatAsym.{one_tree, one_list}
use Rattle.ix_first_laws.proofs.FlatFirsts.{best_is_first}
use Rattle.ix_choice.specs.SlotTrees.{slot_syms, IsSymOfUse}
use Rattle.ix_choice.specs.Tasks.{tree_size, trees_size, Gives, AllGive, Done, Does, CanDo}
use Rattle.ix_choice.specs.declared.task.Task.{Task}
use Rattle.ix_choice.specs.declared.task.Task.TheVariants as task

module _ (plan : Parts) where
  -- the work that remains
  pub task_size : Task → ℕ
  task_size task.Leave = 1
  task_size (task.Tree x i j b) = tree_size (tree_of plan b x i j)
  task_size (task.Before s i j b) = trees_size (trees_of plan b (slot_syms plan s) (info_at plan s).dot i j)

  pub tasks_size : List Task → ℕ
  tasks_size [] = 0
  tasks_size (t ∷ ts) = tasks_size ts + task_size t

  same_size : IsNested plan.rules → (t : Task) (steps : List Step) (size : ℕ) → Gives plan t steps size → task_size t ≡ size
  unfolding task_size
  same_size nested task.Leave steps size h = sym h.1
  same_size nested (task.Tree x i j b) steps size (d, y, _, e, f) = ap tree_size (one_tree plan b x i j (tree_of plan b x i j) d (tree_is_best plan nested b x i j d y.within) y) ∙ sym f
  same_size nested (task.Before s i j b) steps size (ds, y, _, e, f) =
      ap trees_size (one_list plan b (slot_syms plan s) (info_at plan s).dot i j (trees_of plan b (slot_syms plan s) (info_at plan s).dot i j) ds (trees_are_best plan nested b (slot_syms plan s) (info_at plan s).dot i j ds y.within) y) ∙ sym f

  pub same_sizes : IsNested plan.rules → (ts : List Task) (rest : List Step) (size : ℕ) → AllGive plan ts rest size → tasks_size ts ≡ size
  unfolding tasks_size
  same_sizes nested [] rest size h = sym h.1
  same_sizes nested (t ∷ ts) rest size (mine, n, theirs, m, g, all, e, f) = omega (arith, same_size nested t mine n g, same_sizes nested ts theirs m all, f)

  -- the last task apart
  record Split (ts : List Task) (t : Task) (rest : List Step) (size : ℕ) : Type 0 where
    mine : List Step
    cost : ℕ
    theirs : List Step
    more : ℕ
    gives : Gives plan t mine cost
    all : AllGive plan ts theirs more
    rest_is : rest ≡ mine ++ theirs
    size_is : size ≡ more + cost

  split : (ts : List Task) (t : Task) (rest : List Step) (size : ℕ) → AllGive plan (ts ++ t ∷ []) rest size → Split ts t rest size
  split [] t rest size (mine, n, theirs, m, g, none, e, f) =
      record { mine = mine; cost = n; theirs = []; more = 0; gives = g; all = (refl, refl); rest_is = e ∙ ap (λ z. z ++ mine) none.0 ∙ sym (append-nil mine); size_is = omega (arith, f, none.1) }
  split (u ∷ us) t rest size (mine, n, theirs, m, g, all, e, f) =
      let s : Split us t theirs m = split us t theirs m all in
      record {
        mine = s.mine;
        cost = s.cost;
        theirs = s.theirs ++ mine;
        more = s.more + n;
        gives = s.gives;
        all = (mine, n, s.theirs, s.more, g, s.all, refl, refl);
        rest_is = e ∙ ap (λ z. z ++ mine) s.rest_is ∙ append_assoc s.mine s.theirs mine;
        size_is = omega (arith, f, s.size_is);
      }

  join : (ts us : List Task) (xs ys : List Step) (m n : ℕ) → AllGive plan ts xs m → AllGive plan us ys n → AllGive plan (ts ++ us) (ys ++ xs) (n + m)
  join [] us xs ys m n h k = subst (λ z. AllGive plan us z (n + m)) (sym (append-nil ys) ∙ ap (λ z. ys ++ z) (sym h.0)) (subst (λ (z : ℕ). AllGive plan us ys z) (omega (arith, h.1)) k)
  join (t ∷ ts) us xs ys m n (mine, c, theirs, d, g, all, e, f) k =
      (mine, c, ys ++ theirs, n + d, g, join ts us theirs ys d n all k, ap (λ z. ys ++ z) e ∙ sym (append_assoc ys theirs mine), omega (arith, f))

  -- what is written and what the tasks give are together the steps
  pub record Walking (steps : List Step) (ts : List Task) (out : List Step) : Type 0 where
    pub rest : List Step
    pub size : ℕ
    pub all : AllGive plan ts rest size
    pub whole : out ++ rest ≡ steps

  module _ (nested : IsNested plan.rules) (steps : List Step) (old ts us : List Task) (t : Task) (out new : List Step) (took : old ≡ ts ++ t ∷ []) (w : Walking steps old out) where
    apart : Split ts t w.rest w.size
    apart = split ts t w.rest w.size (subst (λ z. AllGive plan z w.rest w.size) took w.all)

    pub can_do : CanDo plan t
    can_do = (apart.mine, apart.cost, apart.gives)

    pub next : Does plan t ts us out new → Walking steps us new × (tasks_size us < tasks_size old)
    next does = by_done (does apart.mine apart.cost apart.gives)
      where
        by_done : Done plan t ts us out new apart.mine apart.cost → Walking steps us new × (tasks_size us < tasks_size old)
        by_done d =
            let both : AllGive plan us (d.rest ++ apart.theirs) (d.count + apart.more) = subst (λ z. AllGive plan z (d.rest ++ apart.theirs) (d.count + apart.more)) (sym d.tasks_are) (join ts d.more apart.theirs d.rest apart.more d.count apart.all d.gives) in (
              record {
                rest = d.rest ++ apart.theirs;
                size = d.count + apart.more;
                all = both;
                whole = ap (λ z. z ++ (d.rest ++ apart.theirs)) d.out_is ∙ append_assoc out d.given (d.rest ++ apart.theirs) ∙ ap (λ z. out ++ z) (sym (append_assoc d.given d.rest apart.theirs) ∙ ap (λ z. z ++ apart.theirs) (sym d.steps_are) ∙ sym apart.rest_is) ∙ w.whole;
              },
              omega (arith, same_sizes nested us (d.rest ++ apart.theirs) (d.count + apart.more) both, same_sizes nested old w.rest w.size w.all, d.fewer, apart.size_is),
            )

  -- at the end
  pub walked : (steps : List Step) (ts : List Task) (out : List Step) → ts ≡ [] → Walking steps ts out → out ≡ steps
  walked steps ts out e w = let z : AllGive plan [] w.rest w.size = subst (λ y. AllGive plan y w.rest w.size) e w.all in sym (append-nil out) ∙ ap (λ y. out ++ y) (sym z.0) ∙ w.whole

  -- at the start
  pub started : (b : ℕ) (x : Sym) (i j : ℕ) (d : FlatTree) → IsBestTree plan b x i j d → IsSymOfUse plan x i j → (ts : List Task) → ts ≡ task.Tree x i j b ∷ [] → (out : List Step) → out ≡ [] → Walking (walk plan.rules d x) ts out
  started b x i j d y u ts e out f = record {
    rest = walk plan.rules d x;
    size = 0 + tree_size d;
    all = subst (λ z. AllGive plan z (walk plan.rules d x) (0 + tree_size d)) (sym e) (walk plan.rules d x, tree_size d, [], 0, (d, y, u, refl, refl), (refl, refl), refl, refl);
    whole = ap (λ z. z ++ walk plan.rules d x) f;
  }

  -- the first tree within the least height is the first of all
  pub first_at : IsNested plan.rules → kind_at plan.rules 0 ≡ kind.Named → (end : ℕ) → length plan.text ≡ end → (h : ℕ) → IsLeastHeight plan 0 0 end h → FlatFirst plan (tree_of plan h (sy.Rule 0 None) 0 end) × IsBestTree plan h (sy.Rule 0 None) 0 end (tree_of plan h (sy.Rule 0 None) 0 end)
  first_at nested named end e h l =
      let y : IsBestTree plan h (sy.Rule 0 None) 0 end (tree_of plan h (sy.Rule 0 None) 0 end) = tree_is_best plan nested h (sy.Rule 0 None) 0 end l.tree (l.derived, omega (arith, l.height)) in
      (best_is_first plan named h _ (subst (λ (z : ℕ). IsBestTree plan h (sy.Rule 0 None) 0 z (tree_of plan h (sy.Rule 0 None) 0 end)) (sym e) y), y)
