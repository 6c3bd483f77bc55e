-- What the walk of a derivation names is there.
use Rattle.std.proofs.Common.{◌≡◌, ◌≤◌, ◌<◌, refl, ap, sym, subst, ◌∙◌, ℕ, List, [], ◌∷◌, length, slice_get, Some, arith}
use Rattle.std.proofs.lemmas.Option.{get_or_from_slice_get, slice_get_within}
use Rattle.ix_model.specs.declared.grammar.Mark.{Mark}
use Rattle.ix_model.specs.declared.rules.Kind.{Kind}
use Rattle.ix_model.specs.declared.rules.Kind.TheVariants as kind
use Rattle.ix_model.specs.declared.rules.Sym.{Sym}
use Rattle.ix_model.specs.declared.rules.Sym.TheVariants as sy
use Rattle.ix_model.specs.declared.rules.Terminal.{Terminal}
use Rattle.ix_model.specs.declared.rules.Terminal.TheVariants as terminal
use Rattle.ix_model.specs.declared.step.Step.{Step}
use Rattle.ix_model.specs.declared.step.Step.TheVariants as step
use Rattle.ix_model.specs.Expansion.Parts.{Parts}
use Rattle.ix_model.specs.Expansion.Planned.{IsPlanned, IsThere}
use Rattle.ix_model.specs.Expansion.Numbered.{kind_at, mark_at, syms_at, sym_at}
use Rattle.ix_model.specs.Expansion.FlatTrees.{FlatTree, flat_text, flat_insertion, flat_node, FlatTrees, no_flat, flats_and, flat_count}
use Rattle.ix_model.specs.Expansion.FlatDerives.{FlatDerives, FlatDerivesFirst, IsLine, TerminalMatches}
use Rattle.ix_model.specs.Expansion.Walk.{walk, walk_all, wrapped, mark_of}
use Rattle.ix_model.proofs.AllOf.{all_append}
use Rattle.ix_model.proofs.SlotReaders.{line_syms}
use Rattle.ix_marks.specs.Laws.{WalkIsIn}
use Rattle.ix_marks.specs.Steps.{IsStepIn, AreStepsIn}

matches_in : (s : List ℕ) (t : Terminal) (i j : ℕ) → TerminalMatches s t i j → (i ≤ j) × (j ≤ length s)
matches_in s (terminal.Lit cs) i j h = (omega (arith, h.0), h.1)
matches_in s (terminal.Set ranges) i j h = (omega (arith, h.2.0), h.2.1)

module _ (plan : Parts) (p : IsPlanned plan) where
  wrapped_in : (k : Kind) (r : ℕ) (mark : Mark) (inner : List Step) → (k ≡ kind.Named → r < length plan.rules.names) → AreStepsIn plan inner → AreStepsIn plan (wrapped k r mark inner)
  wrapped_in kind.Named r mark inner f h = (f refl, all_append (IsStepIn plan) inner (step.Leave ∷ []) h (tt, tt))
  wrapped_in kind.Group r mark inner f h = h
  wrapped_in kind.Opt r mark inner f h = h
  wrapped_in kind.Star r mark inner f h = h
  wrapped_in kind.List r mark inner f h = h

  mutual
    walk_in : (d : FlatTree) (x : Sym) (i j : ℕ) → IsThere plan.rules x → FlatDerives plan d x i j → AreStepsIn plan (walk plan.rules d x)
    walk_in (flat_text a b) x i j t (ea, eb, (n, shown, term, ex, et, m)) =
        let r = matches_in plan.text term i j m in
        ((omega (arith, ea, eb, r.0), omega (arith, eb, r.1)), tt)
    walk_in flat_insertion (sy.Insert n) i j t h = (t, tt)
    walk_in flat_insertion (sy.Term n shown) i j t h = absurd (cc (h.1))
    walk_in flat_insertion (sy.Rule r m) i j t h = absurd (cc (h.1))
    walk_in (flat_node r a ds) x i j t (mark, ex, syms, line, count, h) =
        wrapped_in (kind_at plan.rules r) r (mark_of x (mark_at plan.rules r)) (walk_all plan.rules ds r a) (λ e. (p.named r (slice_get_within plan.rules.flats r line.0 line.2)).0 e) (walks_in ds r a syms i j line h)

    walks_in : (ds : FlatTrees) (r a : ℕ) (syms : List Sym) (i j : ℕ) → IsLine plan r a syms → FlatDerivesFirst plan ds syms i j → AreStepsIn plan (walk_all plan.rules ds r a)
    walks_in no_flat r a syms i j line h = tt
    walks_in (flats_and ds d) r a syms i j line (k, x, hds, get, hd) =
        let q : slice_get (syms_at plan.rules r a) (flat_count ds) ≡ Some x = ap (λ (z : List Sym). slice_get z (flat_count ds)) (line_syms plan r a syms line) ∙ get in
        let s : sym_at plan.rules r a (flat_count ds) ≡ x = get_or_from_slice_get (syms_at plan.rules r a) (flat_count ds) x (sy.Insert 0) q in
        all_append (IsStepIn plan) (walk_all plan.rules ds r a) (walk plan.rules d (sym_at plan.rules r a (flat_count ds))) (walks_in ds r a syms i k line hds)
        (subst (λ (z : Sym). AreStepsIn plan (walk plan.rules d z)) (sym s) (walk_in d x k j (p.symbols r a (flat_count ds) x q) hd))

pub walk_is_in : WalkIsIn
walk_is_in plan d x i j p t h = walk_in plan p d x i j t h
