-- The list of nodes, and what is kept of it.
use Rattle.std.proofs.Common.{◌≡◌, refl, ap, sym, subst, ◌∙◌, ◌+◌, ◌<◌, ℕ, zero, suc, Bool, true, false, List, [], ◌∷◌, ◌++◌, length, arith, get_or, drop, if◌then◌else◌, replicate}
use Rattle.std.proofs.lemmas.List.{append_assoc}
use Rattle.ix_model.specs.declared.sub.Sub.{Sub}
use Rattle.ix_subtrees.specs.declared.place.Place.{Place}
use Rattle.ix_subtrees.specs.declared.node.Key.{Key}
use Rattle.ix_subtrees.specs.declared.node.Node.{Node}
use Rattle.ix_subtrees.specs.Nodes.{Visited, no_node}
use Rattle.ix_subtrees.specs.Walks.{Walking}
use Rattle.ix_subtrees.specs.Subs.{sub_of, kept}
use Rattle.ix_subtrees.proofs.Walked.{walking_first}

pub kept_next : (nodes : List Node) (marks : List Bool) (at : ℕ) → at < length nodes → length marks ≡ length nodes →
    kept (drop at nodes) (drop at marks) ≡ (if get_or marks at false then sub_of (get_or nodes at no_node) ∷ [] else []) ++ kept (drop (at + 1) nodes) (drop (at + 1) marks)
kept_next [] marks at h l = absurd (omega (arith, h))
kept_next (n ∷ ns) [] at h l = absurd (omega (arith, l))
kept_next (n ∷ ns) (true ∷ bs) zero h l = refl
kept_next (n ∷ ns) (false ∷ bs) zero h l = refl
kept_next (n ∷ ns) (b ∷ bs) (suc at) h l =
    let e : suc at + 1 ≡ suc (at + 1) = omega arith in
    rw e (kept_next ns bs at (omega (arith, h)) (omega (arith, l)))

pub kept_more : (nodes : List Node) (marks : List Bool) (at : ℕ) (subs more : List Sub) → at < length nodes → length marks ≡ length nodes → subs ++ kept (drop at nodes) (drop at marks) ≡ kept nodes marks →
    more ≡ subs ++ (if get_or marks at false then sub_of (get_or nodes at no_node) ∷ [] else []) → more ++ kept (drop (at + 1) nodes) (drop (at + 1) marks) ≡ kept nodes marks
kept_more nodes marks at subs more h l e f = rw f (over (if get_or marks at false then sub_of (get_or nodes at no_node) ∷ [] else []) ∙ ap (λ (z : List Sub). subs ++ z) (sym (kept_next nodes marks at h l)) ∙ e)
  where
    over : (ys : List Sub) → (subs ++ ys) ++ kept (drop (at + 1) nodes) (drop (at + 1) marks) ≡ subs ++ (ys ++ kept (drop (at + 1) nodes) (drop (at + 1) marks))
    over ys = append_assoc subs ys (kept (drop (at + 1) nodes) (drop (at + 1) marks))

pub walking_begun : (places : List Place) (nodes : List Node) (root : Key) (n : ℕ) (before after marks : List Bool) (none todo : List ℕ) → before ≡ replicate n false → n ≡ length nodes → none ≡ [] → marks ≡ after → length after ≡ length nodes →
    Visited nodes (root ∷ []) before none after todo → Walking places nodes root marks todo
walking_begun places nodes root n before after marks none todo e l f g h v =
    subst (λ (z : List Bool). Walking places nodes root z todo) (sym g)
    (walking_first places nodes root n after todo h (subst (λ (z : List Bool). Visited nodes (root ∷ []) z [] after todo) e (subst (λ (z : List ℕ). Visited nodes (root ∷ []) before z after todo) f v)))
