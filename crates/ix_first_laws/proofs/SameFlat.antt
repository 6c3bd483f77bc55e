-- Two trees over the numbered rules are the same, or they differ.
use Rattle.std.proofs.Common.{◌≡◌, refl, arith}
use mathlib.Core.Logic.{inl, inr}
use Rattle.ix_model.specs.Expansion.FlatTrees.{FlatTree, flat_text, flat_insertion, flat_node, FlatTrees, no_flat, flats_and}
use Rattle.ix_model.proofs.Decide.{Answered, both, all_three}

mutual
  pub same_flat : (d e : FlatTree) → Answered (d ≡ e)
  same_flat (flat_text a b) (flat_text c d) = by_parts (both (a ≡ c) (b ≡ d) (grind arith) (grind arith))
    where
      by_parts : Answered ((a ≡ c) × (b ≡ d)) → Answered (flat_text a b ≡ flat_text c d)
      by_parts (inl h) = inl (cc (h.0, h.1))
      by_parts (inr h) = inr (λ e. h (cc e, cc e))
  same_flat flat_insertion flat_insertion = inl refl
  same_flat (flat_node r a ds) (flat_node q b es) = by_parts (all_three (r ≡ q) (a ≡ b) (ds ≡ es) (grind arith) (grind arith) (same_flats ds es))
    where
      by_parts : Answered ((r ≡ q) × (a ≡ b) × (ds ≡ es)) → Answered (flat_node r a ds ≡ flat_node q b es)
      by_parts (inl h) = inl (cc (h.0, h.1, h.2))
      by_parts (inr h) = inr (λ e. h (cc e, cc e, cc e))
  same_flat _ _ = inr (λ e. cc e)

  pub same_flats : (ds es : FlatTrees) → Answered (ds ≡ es)
  same_flats no_flat no_flat = inl refl
  same_flats (flats_and ds d) (flats_and es e) = by_parts (both (ds ≡ es) (d ≡ e) (same_flats ds es) (same_flat d e))
    where
      by_parts : Answered ((ds ≡ es) × (d ≡ e)) → Answered (flats_and ds d ≡ flats_and es e)
      by_parts (inl h) = inl (cc (h.0, h.1))
      by_parts (inr h) = inr (λ e. h (cc e, cc e))
  same_flats _ _ = inr (λ e. cc e)
