-- The first tree of a named rule over a span: under the next bound on the height, from the first trees of its alternatives under this one.
use Rattle.std.proofs.Common.{◌≡◌, sym, ◌∙◌, ◌⊎◌, ◌+◌, ◌<◌, ◌≤◌, ℕ, suc, arith, Option}
use mathlib.Core.Logic.{inl, inr}
use Rattle.ix_model.specs.declared.grammar.Mark.{Mark}
use Rattle.ix_model.specs.declared.rules.Kind.TheVariants as kind
use Rattle.ix_model.specs.declared.rules.Sym.TheVariants as sy
use Rattle.ix_model.specs.Expansion.Parts.{Parts}
use Rattle.ix_model.specs.Expansion.Numbered.{kind_at}
use Rattle.ix_model.specs.Expansion.FlatTrees.{FlatTree, flat_node, FlatTrees}
use Rattle.ix_model.specs.Expansion.FlatDerives.{FlatDerives, FlatDerivesFirst}
use Rattle.ix_model.specs.Expansion.FlatHeights.{flat_height, flat_heights}
use Rattle.ix_model.specs.Expansion.FlatOrder.{FlatBefore}
use Rattle.ix_model.proofs.Decide.{Answered}
use Rattle.ix_tree_laws.proofs.Found.{FirstOf}
use Rattle.ix_first_laws.specs.Bounded.{TreeWithin}
use Rattle.ix_first_laws.specs.Nested.{IsNested}
use Rattle.ix_first_laws.proofs.Chains.{Chain}
use Rattle.ix_first_laws.proofs.Lines.{line_within}
use Rattle.ix_first_laws.proofs.NodeKinds.{raised_named, NodeOrSame, named_or_same, lower_named}
use Rattle.ix_first_laws.proofs.Symbols.{FoundTree}
use Rattle.ix_first_laws.proofs.Alternatives.{Nth, Late, to_chain, from_chain, AltOf, LeastAlt, by_alt}
use Rattle.ix_first_laws.proofs.Nodes.{IsNode, node_derives, by_node}

-- ---- trees of a named rule over one span

module _ (plan : Parts) (r i j : ℕ) (named : kind_at plan.rules r ≡ kind.Named) (m : Option Mark) where
  pub named_height : (d : FlatTree) → FlatDerives plan d (sy.Rule r m) i j → 0 < flat_height plan.rules d
  named_height d h = by_node plan r i j (λ y. 0 < flat_height plan.rules y) (λ a ds n. omega (arith, raised_named (kind_at plan.rules r) (flat_heights plan.rules ds) named)) d m h

  -- z is the tree d, or comes after it
  abbrev SameOrAfter : FlatTree → FlatTree → Type 0
  SameOrAfter d z = (z ≡ d) ⊎ FlatBefore plan.rules d z j

  -- a higher one comes after
  pub higher_after : (d e : FlatTree) → FlatDerives plan d (sy.Rule r m) i j → FlatDerives plan e (sy.Rule r m) i j → flat_height plan.rules d < flat_height plan.rules e → SameOrAfter d e
  higher_after d e h k = by_node plan r i j (λ y. flat_height plan.rules y < flat_height plan.rules e → SameOrAfter y e) (λ a ds n. after a ds) d m h
    where
      after : (a : ℕ) (ds : FlatTrees) → flat_height plan.rules (flat_node r a ds) < flat_height plan.rules e → SameOrAfter (flat_node r a ds) e
      after a ds = by_node plan r i j (λ z. flat_height plan.rules (flat_node r a ds) < flat_height plan.rules z → SameOrAfter (flat_node r a ds) z)
          (λ c es n l. lower_named plan.rules r a ds j named c es (omega (arith, l, raised_named (kind_at plan.rules r) (flat_heights plan.rules ds) named, raised_named (kind_at plan.rules r) (flat_heights plan.rules es) named))) e m k

module _ (plan : Parts) (nested : IsNested plan.rules) (b r i J : ℕ) (named : kind_at plan.rules r ≡ kind.Named) where
  height_is : (c : ℕ) (es : FlatTrees) → flat_height plan.rules (flat_node r c es) ≡ flat_heights plan.rules es + 1
  height_is c es = raised_named (kind_at plan.rules r) (flat_heights plan.rules es) named

  -- the trees of a node no higher than b + 1 are a chain, as only a list is late
  alt_of : (c : ℕ) (es : FlatTrees) → IsNode plan r i J c es → flat_heights plan.rules es ≤ b → AltOf plan b r i J c es
  alt_of c es n under = record { syms = n.syms; line = n.line; all = never_late (to_chain plan nested b r c n.syms n.line J es i J (omega arith) n.trees under); count = n.count }
    where
      never_late : Chain plan.rules (Nth plan b r n.syms J) es i J ⊎ Late plan b r n.syms J c es i → Chain plan.rules (Nth plan b r n.syms J) es i J
      never_late (inl h) = h
      never_late (inr h) = absurd (cc (named, h.1))

  module _ (m : Option Mark) where
    -- ---- where a tree is within b, the first of them is first within b + 1

    lower : (d : FlatTree) → FirstOf FlatTree (TreeWithin plan b (sy.Rule r m) i J) (λ d e. FlatBefore plan.rules d e J) d → FoundTree plan (suc b) (sy.Rule r m) i J
    lower d y = inl (d, record { holds = (y.holds.0, omega (arith, y.holds.1)); before = λ z h. by_height z h (grind arith) })
      where
        by_height : (z : FlatTree) → TreeWithin plan (suc b) (sy.Rule r m) i J z → Answered (flat_height plan.rules z ≤ b) → (z ≡ d) ⊎ FlatBefore plan.rules d z J
        by_height z h (inl k) = y.before z (h.0, k)
        by_height z h (inr k) = higher_after plan r i J named m d z y.holds.0 h.0 (grind (arith, k, y.holds.1))

    -- ---- where none is within b, all trees within b + 1 have that height, and the least alternative decides

    module _ (none : (z : FlatTree) → TreeWithin plan b (sy.Rule r m) i J z → ⊥) where
      this_high : LeastAlt plan b r i J → FoundTree plan (suc b) (sy.Rule r m) i J
      this_high (inr no_alt) = inr (λ z h. by_node plan r i J (λ y. flat_height plan.rules y ≤ suc b → ⊥) nowhere z m h.0 h.1)
        where
          nowhere : (c : ℕ) (es : FlatTrees) → IsNode plan r i J c es → flat_height plan.rules (flat_node r c es) ≤ suc b → ⊥
          nowhere c es n high = no_alt c (line_within plan r c n.syms n.line) es (alt_of c es n (omega (arith, high, height_is c es)))
      this_high (inl (a, _, (ds, x), less)) =
          inl (
            flat_node r a ds,
            record {
              holds = (node_derives plan r i J m a ds mine, omega (arith, first.1, height_is a ds));
              before = λ z h. by_node plan r i J (λ y. flat_height plan.rules y ≤ suc b → (y ≡ flat_node r a ds) ⊎ FlatBefore plan.rules (flat_node r a ds) y J) others z m h.0 h.1;
            },
          )
        where
          first : FlatDerivesFirst plan ds x.holds.syms i J × (flat_heights plan.rules ds ≤ b)
          first = from_chain plan b r x.holds.syms J ds i J x.holds.all

          mine : IsNode plan r i J a ds
          mine = record { syms = x.holds.syms; line = x.holds.line; count = x.holds.count; trees = first.0 }

          full : (c : ℕ) (es : FlatTrees) → IsNode plan r i J c es → flat_heights plan.rules es ≤ b → flat_heights plan.rules es ≡ b
          full c es n k = by_height (grind arith)
            where
              by_height : Answered (flat_height plan.rules (flat_node r c es) ≤ b) → flat_heights plan.rules es ≡ b
              by_height (inl q) = absurd (none (flat_node r c es) (node_derives plan r i J m c es n, q))
              by_height (inr q) = grind (arith, q, k, height_is c es)

          settled : (c : ℕ) (es : FlatTrees) → IsNode plan r i J c es → flat_heights plan.rules es ≤ b → NodeOrSame plan.rules r a ds J c es
          settled c es n under = named_or_same plan.rules r a ds J named c es (full a ds mine first.1 ∙ sym (full c es n under)) (by_alt plan b r i J a c ds es x less (alt_of c es n under))

          others : (c : ℕ) (es : FlatTrees) → IsNode plan r i J c es → flat_height plan.rules (flat_node r c es) ≤ suc b → NodeOrSame plan.rules r a ds J c es
          others c es n high = settled c es n (omega (arith, high, height_is c es))

    pub named_found : FoundTree plan b (sy.Rule r m) i J → LeastAlt plan b r i J → FoundTree plan (suc b) (sy.Rule r m) i J
    named_found (inl (d, y)) l = lower d y
    named_found (inr none) l = this_high none l

    -- no tree of a named rule has the height 0
    pub named_zero : b ≡ 0 → FoundTree plan b (sy.Rule r m) i J
    named_zero z = inr (λ e h. omega (arith, z, h.1, named_height plan r i J named m e h.0))
