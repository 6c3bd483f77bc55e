-- The characters of the steps of a walk are those that its bare trees show.
use Rattle.std.proofs.Common.{◌≡◌, ap, ◌∙◌, ℕ, List, [], ◌∷◌, ◌++◌, append-nil}
use Rattle.std.proofs.lemmas.List.Concat.{flat_map-append}
use Rattle.std.proofs.lemmas.Option.{get_or_from_slice_get}
use Rattle.ix_model.specs.declared.rules.Rules.{Rules}
use Rattle.ix_model.specs.declared.step.Step.{Step}
use Rattle.ix_model.specs.declared.step.Step.TheVariants as step
use Rattle.ix_model.specs.Documents.Bare.{Bare, bare_text, bare_insertion, bare_node, Bares, none, more}
use Rattle.ix_model.specs.Documents.Gives.{shown_text, value, values}
use Rattle.ix_model.specs.Documents.WalkGives.{IsWalk, AreWalks}
use Rattle.ix_marks.specs.Shown.{characters_of, shown_by_all}

module _ (rules : Rules) (s : List ℕ) where
  mutual
    walk_shows : (b : Bare) (xs : List Step) → IsWalk rules b xs → shown_by_all rules s xs ≡ value s b
    walk_shows (bare_text low high shown) xs h = ap (shown_by_all rules s) h ∙ append-nil (shown_text s shown low high)
    walk_shows (bare_insertion cs) xs h =
        ap (shown_by_all rules s) h.2 ∙ append-nil (characters_of rules s (step.Insert h.0)) ∙ get_or_from_slice_get rules.inserts h.0 cs [] h.1
    walk_shows (bare_node name mark bs) xs h =
        ap (shown_by_all rules s) h.4
        ∙ flat_map-append (characters_of rules s) h.1 (step.Leave ∷ [])
        ∙ append-nil (shown_by_all rules s h.1)
        ∙ walks_show bs h.1 h.3

    pub walks_show : (bs : Bares) (xs : List Step) → AreWalks rules bs xs → shown_by_all rules s xs ≡ values s bs
    walks_show none xs h = ap (shown_by_all rules s) h
    walks_show (more b bs) xs h =
        ap (shown_by_all rules s) h.4
        ∙ flat_map-append (characters_of rules s) h.0 h.1
        ∙ ap (λ zs. zs ++ shown_by_all rules s h.1) (walk_shows b h.0 h.2)
        ∙ ap (λ zs. value s b ++ zs) (walks_show bs h.1 h.3)
