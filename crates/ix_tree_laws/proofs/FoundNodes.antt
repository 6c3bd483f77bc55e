-- The first tree of bounded height of a group and of a call, from the first trees of each alternative: the earliest
-- alternative that has any. A call's tree is one higher than the trees in it, and the lower it is the sooner it comes:
-- what is first under a bound stays so under the next one; where there is none, all trees under the next bound have one
-- height.
use Rattle.std.proofs.Common.{◌≡◌, refl, sym, ap, subst, ◌∙◌, ◌⊎◌, ◌<◌, ◌≤◌, ℕ, suc, List, length, arith, slice_get, Some, None, Option}
use Rattle.std.proofs.lemmas.Bool.{cases_order}
use Rattle.std.proofs.lemmas.Option.{slice_get_within}
use mathlib.Core.Logic.{inl, inr}
use Rattle.ix_model.specs.declared.grammar.Grammar.{Grammar}
use Rattle.ix_model.specs.declared.grammar.Rule.{Rule}
use Rattle.ix_model.specs.declared.grammar.Mark.{Mark}
use Rattle.ix_model.specs.declared.grammar.Alt.{Alt}
use Rattle.ix_model.specs.declared.grammar.Term.{Term, One, out-Term}
use Rattle.ix_model.specs.declared.grammar.Factor.{Call, Group}
use Rattle.ix_model.specs.Grammars.Written.{IsNamed, IsAlternative}
use Rattle.ix_model.specs.Derivations.Trees.{Tree, node, group, Trees, tree_count}
use Rattle.ix_model.specs.Derivations.Heights.{height, heights}
use Rattle.ix_model.specs.Derivations.Derives.{Derives, DerivesFirst, Calls}
use Rattle.ix_model.specs.Derivations.Order.{Before, AllBefore}
use Rattle.ix_model.specs.Grammars.Names.{HasUniqueNames}
use Rattle.ix_model.proofs.Decide.{Answered, Least, least}
use Rattle.ix_model.proofs.Standing.{named}
use Rattle.ix_model.proofs.Forms.{term_form, factor_form, one_form, out_call, out_group, same_groups, derived_form}
use Rattle.ix_tree_laws.proofs.Found.{FirstOf, Found, InSomeOrder, Within, FirstTree, FoundTree, AllWithin, FoundAll}

pub call_form : (m : Option Mark) (name : List ℕ) → term_form (out-Term (One (Call m name))) ≡ 2
call_form m name = one_form _ _ 2 refl (ap factor_form (out_call m name))

group_form : (alts : List Alt) → term_form (out-Term (One (Group alts))) ≡ 3
group_form alts = one_form _ _ 3 refl (ap factor_form (out_group alts))

-- of two trees of one call the lower is before the other
pub lower_is_before : (g : Grammar) (s : List ℕ) (i j : ℕ) (m : Option Mark) (name : List ℕ) (d e : Tree) → Derives g s d (One (Call m name)) i j → Derives g s e (One (Call m name)) i j → height d < height e → Before d e j
lower_is_before g s i j m name (node r a ds) (node q c es) h k l = inl (omega (arith, l))
lower_is_before g s i j m name (node r a ds) z h k l = absurd (omega (arith, sym (call_form m name) ∙ derived_form g s z (One (Call m name)) i j k))
lower_is_before g s i j m name z e h k l = absurd (omega (arith, sym (call_form m name) ∙ derived_form g s z (One (Call m name)) i j h))

module _ (g : Grammar) (s : List ℕ) (b i j : ℕ) where
  -- ---- alternatives

  -- the trees derive the span from alternative a
  abbrev AltWithin : List Alt → ℕ → Trees → Type 0
  AltWithin alts a ds = (alt : Alt) × (slice_get alts a ≡ Some alt) × AllWithin g s b alt.terms (length alt.terms) i j ds

  abbrev FoundAlt : List Alt → ℕ → Type 0
  FoundAlt alts a = Found Trees (AltWithin alts a) (λ ds es. AllBefore ds es j)

  abbrev FirstOfAlt : List Alt → ℕ → Type 0
  FirstOfAlt alts a = (ds : Trees) × FirstOf Trees (AltWithin alts a) (λ ds es. AllBefore ds es j) ds

  abbrev NoAlt : List Alt → ℕ → Type 0
  NoAlt alts a = (ds : Trees) → AltWithin alts a ds → ⊥

  -- the earliest alternative that has trees, and the first of its trees; or none has any
  abbrev pub LeastAlt : List Alt → Type 0
  LeastAlt alts = Least (FirstOfAlt alts) (NoAlt alts) (length alts)

  found_alt : (alts : List Alt) (a : ℕ) → ((alt : Alt) → slice_get alts a ≡ Some alt → FoundAll g s b alt.terms (length alt.terms) i j) → FoundAlt alts a
  found_alt alts a each = by_place (slice_get alts a) refl
    where
      by_place : (x : Option Alt) → slice_get alts a ≡ x → FoundAlt alts a
      by_place None e = inr (λ ds h. cc (sym e ∙ h.1))
      by_place (Some alt) e = by_trees (each alt e)
        where
          this : (es : Trees) → AltWithin alts a es → AllWithin g s b alt.terms (length alt.terms) i j es
          this es h = let q : h.0 ≡ alt = cc (e, h.1) in subst (λ (z : Alt). AllWithin g s b z.terms (length z.terms) i j es) q h.2

          by_trees : FoundAll g s b alt.terms (length alt.terms) i j → FoundAlt alts a
          by_trees (inl (ds, x)) = inl (ds, record { holds = (alt, e, x.holds); before = λ es h. x.before es (this es h) })
          by_trees (inr none) = inr (λ es h. none es (this es h))

  pub least_alt : (alts : List Alt) → ((a : ℕ) (alt : Alt) → slice_get alts a ≡ Some alt → FoundAll g s b alt.terms (length alt.terms) i j) → LeastAlt alts
  least_alt alts each = least (FirstOfAlt alts) (NoAlt alts) (length alts) (λ a h. found_alt alts a (each a))

  -- the trees of a derivation by alternative a
  to_alt : (alts : List Alt) (a : ℕ) (terms : List Term) (ds : Trees) → IsAlternative alts a terms → tree_count ds ≡ length terms → DerivesFirst g s ds terms i j → heights ds ≤ b → AltWithin alts a ds
  to_alt alts a terms ds (alt, e, same) c h high =
      (alt, e, subst (λ ts. AllWithin g s b ts (length ts) i j ds) (sym same) (h, c, high))

  -- the first trees of the earliest alternative are the same as others, or before them
  by_alt : (alts : List Alt) (a c : ℕ) (ds es : Trees) → FirstOf Trees (AltWithin alts a) (λ ds es. AllBefore ds es j) ds → ((m : ℕ) → m < a → NoAlt alts m) → AltWithin alts c es → ((a ≡ c) × (es ≡ ds)) ⊎ ((a < c) ⊎ (a ≡ c) × AllBefore ds es j)
  by_alt alts a c ds es x less h = by_number (cases_order a c)
    where
      ends : a ≡ c → (es ≡ ds) ⊎ AllBefore ds es j → ((a ≡ c) × (es ≡ ds)) ⊎ ((a < c) ⊎ (a ≡ c) × AllBefore ds es j)
      ends e (inl p) = inl (e, p)
      ends e (inr p) = inr (inr (e, p))

      by_number : InSomeOrder a c → ((a ≡ c) × (es ≡ ds)) ⊎ ((a < c) ⊎ (a ≡ c) × AllBefore ds es j)
      by_number (inr (inl k)) = inr (inl k)
      by_number (inr (inr k)) = absurd (less c k es h)
      by_number (inl k) = ends k (x.before es (subst (λ (z : ℕ). AltWithin alts z es) (sym k) h))

  -- ---- groups

  pub found_group : (alts : List Alt) → LeastAlt alts → FoundTree g s b (One (Group alts)) i j
  found_group alts found = by_least found
    where
      of_group : (c : ℕ) (es : Trees) → Within g s b (One (Group alts)) i j (group c es) → AltWithin alts c es
      of_group c es ((terms, (alts', same, k), count, h), high) =
          let e : Group alts ≡ Group alts' = cc same in
          let x : alts ≡ alts' = same_groups alts alts' e in
          to_alt alts c terms es (subst (λ z. IsAlternative z c terms) (sym x) k) count h high

      by_least : LeastAlt alts → FoundTree g s b (One (Group alts)) i j
      by_least (inl (a, _, (ds, x), less)) = inl (group a ds, record { holds = ((x.holds.0.terms, (alts, refl, (x.holds.0, x.holds.1, refl)), x.holds.2.1, x.holds.2.0), x.holds.2.2); before = others })
        where
          ends : (c : ℕ) (es : Trees) → ((a ≡ c) × (es ≡ ds)) ⊎ ((a < c) ⊎ (a ≡ c) × AllBefore ds es j) → (group c es ≡ group a ds) ⊎ Before (group a ds) (group c es) j
          ends c es (inl (p, q)) = inl (cc (p, q))
          ends c es (inr h) = inr h

          others : (z : Tree) → Within g s b (One (Group alts)) i j z → (z ≡ group a ds) ⊎ Before (group a ds) z j
          others (group c es) h = ends c es (by_alt alts a c ds es x less (of_group c es h))
          others z h = absurd (omega (arith, sym (group_form alts) ∙ derived_form g s z (One (Group alts)) i j h.0))
      by_least (inr none) = inr nothing
        where
          nothing : (z : Tree) → Within g s b (One (Group alts)) i j z → ⊥
          nothing (group c es) h = let x : AltWithin alts c es = of_group c es h in none c (slice_get_within alts c x.0 x.1) es x
          nothing z h = absurd (omega (arith, sym (group_form alts) ∙ derived_form g s z (One (Group alts)) i j h.0))

  -- ---- calls

  -- no node has height 0
  pub no_call : (m : Option Mark) (name : List ℕ) → b ≡ 0 → FoundTree g s b (One (Call m name)) i j
  no_call m name e = inr nothing
    where
      nothing : (z : Tree) → Within g s b (One (Call m name)) i j z → ⊥
      nothing (node r a ds) h = omega (arith, e, h.1)
      nothing z h = absurd (omega (arith, sym (call_form m name) ∙ derived_form g s z (One (Call m name)) i j h.0))

  module _ (unique : HasUniqueNames g) (m : Option Mark) (name : List ℕ) where
    abbrev called : Term
    called = One (Call m name)

    is_named : (q : ℕ) → Calls g called q → IsNamed g q name
    is_named q (m', name', same, h) = let e : name' ≡ name = cc same in subst (λ z. IsNamed g q z) e h

    -- what is first under the bound is first under the next one
    stays_first : (d : Tree) → FirstTree g s b called i j d → FoundTree g s (suc b) called i j
    stays_first d y = inl (d, record { holds = (y.holds.0, omega (arith, y.holds.1)); before = λ z h. by_height z h (grind arith) })
      where
        by_height : (z : Tree) → Within g s (suc b) called i j z → Answered (height z ≤ b) → (z ≡ d) ⊎ Before d z j
        by_height z h (inl k) = y.before z (h.0, k)
        by_height z h (inr k) = inr (lower_is_before g s i j m name d z y.holds.0 h.0 (grind (arith, k, y.holds.1)))

    no_rule : ((r : ℕ) → IsNamed g r name → ⊥) → FoundTree g s (suc b) called i j
    no_rule none = inr nothing
      where
        nothing : (z : Tree) → Within g s (suc b) called i j z → ⊥
        nothing (node r a ds) h = none r (is_named r h.0.0)
        nothing z h = absurd (omega (arith, sym (call_form m name) ∙ derived_form g s z called i j h.0))

    -- there is no tree under the bound
    module _ (none : (z : Tree) → Within g s b called i j z → ⊥) (r : ℕ) (rule : Rule) (at : slice_get g.rules r ≡ Some rule) (is_name : rule.name ≡ name) where
      one_height : (q c : ℕ) (es : Trees) → Within g s (suc b) called i j (node q c es) → heights es ≡ b
      one_height q c es (h, high) = by_height (grind arith)
        where
          by_height : Answered (height (node q c es) ≤ b) → heights es ≡ b
          by_height (inl k) = absurd (none (node q c es) (h, k))
          by_height (inr k) = grind (arith, k, high)

      of_node : (q c : ℕ) (es : Trees) → Within g s (suc b) called i j (node q c es) → (q ≡ r) × AltWithin rule.alts c es
      of_node q c es ((calls, terms, (rule', at', k), count, h), high) =
          let e : q ≡ r = unique q r name (is_named q calls) (rule, at, is_name) in
          let x : rule' ≡ rule = cc (e, at, at') in
          (e, to_alt rule.alts c terms es (subst (λ (z : Rule). IsAlternative z.alts c terms) x k) count h (omega (arith, high)))

      this_rule : LeastAlt rule.alts → FoundTree g s (suc b) called i j
      this_rule (inr nowhere) = inr nothing
        where
          nothing : (z : Tree) → Within g s (suc b) called i j z → ⊥
          nothing (node q c es) h = let x = of_node q c es h in nowhere c (slice_get_within rule.alts c x.1.0 x.1.1) es x.1
          nothing z h = absurd (omega (arith, sym (call_form m name) ∙ derived_form g s z called i j h.0))
      this_rule (inl (a, _, (ds, x), less)) = inl (node r a ds, record { holds = mine; before = others })
        where
          mine : Within g s (suc b) called i j (node r a ds)
          mine = (((m, name, refl, (rule, at, is_name)), x.holds.0.terms, (rule, at, (x.holds.0, x.holds.1, refl)), x.holds.2.1, x.holds.2.0), omega (arith, x.holds.2.2))

          ends : (q c : ℕ) (es : Trees) → q ≡ r → heights ds ≡ heights es → ((a ≡ c) × (es ≡ ds)) ⊎ ((a < c) ⊎ (a ≡ c) × AllBefore ds es j) → (node q c es ≡ node r a ds) ⊎ Before (node r a ds) (node q c es) j
          ends q c es e n (inl (p, w)) = inl (cc (e, p, w))
          ends q c es e n (inr h) = inr (inr (n, h))

          others : (z : Tree) → Within g s (suc b) called i j z → (z ≡ node r a ds) ⊎ Before (node r a ds) z j
          others (node q c es) h =
              let k = of_node q c es h in
              ends q c es k.0 (one_height r a ds mine ∙ sym (one_height q c es h)) (by_alt rule.alts a c ds es x less k.1)
          others z h = absurd (omega (arith, sym (call_form m name) ∙ derived_form g s z called i j h.0))

    -- under the next bound, from what is found under this one
    pub found_call : FoundTree g s b called i j → ((alts : List Alt) → LeastAlt alts) → FoundTree g s (suc b) called i j
    found_call (inl (d, y)) each = stays_first d y
    found_call (inr none) each = by_name (named g name)
      where
        by_name : ((r : ℕ) × IsNamed g r name) ⊎ ((r : ℕ) → IsNamed g r name → ⊥) → FoundTree g s (suc b) called i j
        by_name (inl (r, (rule, at, is_name))) = this_rule none r rule at is_name (each rule.alts)
        by_name (inr q) = no_rule q
