-- A walk is the walk of no other bare trees: they are read off from it, from the last step to the first.
use Rattle.std.proofs.Common.{◌≡◌, refl, ap, sym, ◌∙◌, ℕ, List, [], ◌∷◌, ◌++◌, append_assoc}
use Rattle.std.proofs.lemmas.Option.{get_or_from_slice_get}
use Rattle.ix_model.specs.declared.grammar.Mark.{Mark}
use Rattle.ix_model.specs.declared.rules.Rules.{Rules}
use Rattle.ix_model.specs.declared.step.Step.{Step}
use Rattle.ix_model.specs.declared.step.Step.TheVariants as step
use Rattle.ix_model.specs.Documents.Bare.{Bare, bare_text, bare_insertion, bare_node, Bares, none, more, join}
use Rattle.ix_model.specs.Expansion.Numbered.{name_at, insert_at}
use Rattle.ix_model.specs.Documents.WalkGives.{IsWalk, AreWalks}

-- the bare trees that have been read, and those behind each node that has not begun yet
record Reading : Type 0 where
  trees : Bares
  behind : List Bares

-- a node begins: what has been read is within it
abbrev begun : List ℕ → Mark → Bares → List Bares → Reading
begun name mark bs [] = record { trees = more (bare_node name mark bs) none; behind = [] }
begun name mark bs (cs ∷ rest) = record { trees = more (bare_node name mark bs) cs; behind = rest }

-- the trees stand before what has been read
abbrev before : Bares → Reading → Reading
before bs r = record { trees = join bs r.trees; behind = r.behind }

join_none : (bs : Bares) → join bs none ≡ bs
join_none none = refl
join_none (more b bs) = ap (more b) (join_none bs)

module _ (rules : Rules) where
  abbrev reading : List Step → Reading
  reading [] = record { trees = none; behind = [] }
  reading (step.Text low high shown ∷ rest) = before (more (bare_text low high shown) none) (reading rest)
  reading (step.Insert n ∷ rest) = before (more (bare_insertion (insert_at rules n)) none) (reading rest)
  reading (step.Leave ∷ rest) = record { trees = none; behind = (reading rest).trees ∷ (reading rest).behind }
  reading (step.Enter r mark ∷ rest) = begun (name_at rules r) mark (reading rest).trees (reading rest).behind

  mutual
    read_one : (b : Bare) (xs rest : List Step) → IsWalk rules b xs → reading (xs ++ rest) ≡ before (more b none) (reading rest)
    read_one (bare_text low high shown) xs rest h = ap (λ (zs : List Step). reading (zs ++ rest)) h
    read_one (bare_insertion cs) xs rest h =
        ap (λ (zs : List Step). reading (zs ++ rest)) h.2 ∙ ap (λ (z : List ℕ). before (more (bare_insertion z) none) (reading rest)) (get_or_from_slice_get rules.inserts h.0 cs [] h.1)
    read_one (bare_node name mark bs) xs rest h =
        let inner = read_all bs h.1 (step.Leave ∷ rest) h.3 in
        let split = append_assoc h.1 (step.Leave ∷ []) rest in
        let whole : reading ((h.1 ++ step.Leave ∷ []) ++ rest) ≡ before bs (reading (step.Leave ∷ rest)) = ap reading split ∙ inner in
        ap (λ (zs : List Step). reading (zs ++ rest)) h.4
        ∙ ap (λ (z : Reading). begun (name_at rules h.0) mark z.trees z.behind) whole
        ∙ ap (λ (z : List ℕ). begun z mark (join bs none) ((reading rest).trees ∷ (reading rest).behind)) (get_or_from_slice_get rules.names h.0 name [] h.2)
        ∙ ap (λ (z : Bares). begun name mark z ((reading rest).trees ∷ (reading rest).behind)) (join_none bs)

    read_all : (bs : Bares) (xs rest : List Step) → AreWalks rules bs xs → reading (xs ++ rest) ≡ before bs (reading rest)
    read_all none xs rest h = ap (λ (zs : List Step). reading (zs ++ rest)) h
    read_all (more b bs) xs rest h =
        ap (λ (zs : List Step). reading (zs ++ rest)) h.4 ∙ ap reading (append_assoc h.0 h.1 rest) ∙ read_one b h.0 (h.1 ++ rest) h.2 ∙ ap (before (more b none)) (read_all bs h.1 rest h.3)

  -- the bare trees of a walk are what is read off from it
  pub one_reading : (bs cs : Bares) (xs : List Step) → AreWalks rules bs xs → AreWalks rules cs xs → bs ≡ cs
  one_reading bs cs xs h k = sym (join_none bs) ∙ ap (λ (z : Reading). z.trees) (sym (read_all bs xs [] h) ∙ read_all cs xs [] k) ∙ join_none cs
