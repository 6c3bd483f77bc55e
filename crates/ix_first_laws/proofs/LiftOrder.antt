-- The order of two written trees of one helper, from that of the trees in them.
use Rattle.std.proofs.Common.{◌≡◌, refl, ap, ◌⊎◌, ◌-◌, ◌<◌, ℕ, arith}
use mathlib.Core.Logic.{inl, inr}
use Rattle.ix_model.specs.declared.rules.Kind.{Kind}
use Rattle.ix_model.specs.declared.rules.Kind.TheVariants as kind
use Rattle.ix_model.specs.Derivations.Trees.{Tree, list, Trees, no_tree, and, Repeated, again, again_after, tree_count, width, widths}
use Rattle.ix_model.specs.Derivations.Heights.{heights}
use Rattle.ix_model.specs.Derivations.Order.{Before, AllBefore, RepeatedBefore}
use Rattle.ix_model.specs.Expansion.Lift.{lifted}
use Rattle.ix_first_laws.proofs.Fits.{OptionFits, StarFits, ListFits, held, not_there, no_items, items, only_item, next_item, item_after, Fits}

-- by the numbers of alternatives, and then by the trees in them
abbrev pub LineBefore : ℕ → ℕ → Trees → Trees → ℕ → Type 0
LineBefore a c ts us j = (a < c) ⊎ (a ≡ c) × AllBefore ts us j

-- of single trees of one width
single : (d e : Tree) (j : ℕ) → width d ≡ width e → AllBefore (and no_tree d) (and no_tree e) j → Before d e j
single d e j w (inl h) = absurd (omega (arith, h, w))
single d e j w (inr (v, inl h)) = absurd h
single d e j w (inr (v, inr h)) = h.1

-- of lists and their last items
again_order : (rs ss : Repeated) (d e : Tree) (j : ℕ) → widths (and (and no_tree (list rs)) d) ≡ widths (and (and no_tree (list ss)) e) → AllBefore (and (and no_tree (list rs)) d) (and (and no_tree (list ss)) e) j →
    RepeatedBefore (again rs d) (again ss e) j
again_order rs ss d e j w (inl h) = inl h
again_order rs ss d e j w (inr (v, inl h)) = inr (v, inl (single (list rs) (list ss) (j - width d) (omega (arith, w, v)) h))
again_order rs ss d e j w (inr (v, inr h)) =
    let q : list rs ≡ list ss = cc h.0 in
    let x : rs ≡ ss = cc q in
    inr (v, inr (x, h.1))

-- of lists, the separators behind them and their last items
after_order : (rs ss : Repeated) (p q d e : Tree) (j : ℕ) → widths (and (and (and no_tree (list rs)) p) d) ≡ widths (and (and (and no_tree (list ss)) q) e) →
    AllBefore (and (and (and no_tree (list rs)) p) d) (and (and (and no_tree (list ss)) q) e) j → RepeatedBefore (again_after rs p d) (again_after ss q e) j
after_order rs ss p q d e j w (inl h) = inl h
after_order rs ss p q d e j w (inr (v, inl (inl h))) = inr (v, inl h)
after_order rs ss p q d e j w (inr (v, inl (inr (u, inl h)))) = inr (v, inr (u, inl (single (list rs) (list ss) (j - width d - width p) (omega (arith, w, v, u)) h)))
after_order rs ss p q d e j w (inr (v, inl (inr (u, inr h)))) =
    let y : list rs ≡ list ss = cc h.0 in
    let x : rs ≡ ss = cc y in
    inr (v, inr (u, inr (x, inl h.1)))
after_order rs ss p q d e j w (inr (v, inr h)) =
    let a : list rs ≡ list ss = cc h.0 in
    let x : rs ≡ ss = cc a in
    let y : p ≡ q = cc h.0 in
    inr (v, inr (ap width y, inr (x, inr (y, h.1))))

-- ---- helpers, kind by kind

option_order : (r a c : ℕ) (ts us : Trees) (j : ℕ) → OptionFits a ts → OptionFits c us → widths ts ≡ widths us → LineBefore a c ts us j → Before (lifted kind.Opt r a ts) (lifted kind.Opt r c us) j
option_order r a c ts us j (held d) (held e) w (inl h) = absurd (omega (arith, h))
option_order r a c ts us j (held d) (held e) w (inr h) = single d e j (omega (arith, w)) h.1
option_order r a c ts us j (held d) not_there w h = tt
option_order r a c ts us j not_there (held e) w (inl h) = absurd (omega (arith, h))
option_order r a c ts us j not_there (held e) w (inr h) = absurd h.1
option_order r a c ts us j not_there not_there w (inl h) = absurd (omega (arith, h))
option_order r a c ts us j not_there not_there w (inr h) = absurd h.1

star_order : (r a c : ℕ) (ts us : Trees) (j : ℕ) → StarFits a ts → StarFits c us → widths ts ≡ widths us → LineBefore a c ts us j → Before (lifted kind.Star r a ts) (lifted kind.Star r c us) j
star_order r a c ts us j no_items no_items w (inl h) = absurd (omega (arith, h))
star_order r a c ts us j no_items no_items w (inr h) = absurd h.1
star_order r a c ts us j no_items (items ss) w h = tt
star_order r a c ts us j (items rs) no_items w (inl h) = absurd (omega (arith, h))
star_order r a c ts us j (items rs) no_items w (inr h) = absurd h.1
star_order r a c ts us j (items rs) (items ss) w (inl h) = absurd (omega (arith, h))
star_order r a c ts us j (items rs) (items ss) w (inr h) = single (list rs) (list ss) j (omega (arith, w)) h.1

list_order : (r a c : ℕ) (ts us : Trees) (j : ℕ) → ListFits a ts → ListFits c us → (a ≡ c → tree_count ts ≡ tree_count us) → widths ts ≡ widths us → LineBefore a c ts us j →
    Before (lifted kind.List r a ts) (lifted kind.List r c us) j
list_order r a c ts us j (only_item d) (only_item e) n w (inl h) = absurd (omega (arith, h))
list_order r a c ts us j (only_item d) (only_item e) n w (inr h) = single d e j (omega (arith, w)) h.1
list_order r a c ts us j (only_item d) (next_item ss e) n w h = tt
list_order r a c ts us j (only_item d) (item_after ss q e) n w h = tt
list_order r a c ts us j (next_item rs d) (only_item e) n w (inl h) = absurd (omega (arith, h))
list_order r a c ts us j (next_item rs d) (only_item e) n w (inr h) = absurd (omega (arith, h.0))
list_order r a c ts us j (next_item rs d) (next_item ss e) n w (inl h) = absurd (omega (arith, h))
list_order r a c ts us j (next_item rs d) (next_item ss e) n w (inr h) = again_order rs ss d e j w h.1
list_order r a c ts us j (next_item rs d) (item_after ss q e) n w h = absurd (omega (arith, n refl))
list_order r a c ts us j (item_after rs p d) (only_item e) n w (inl h) = absurd (omega (arith, h))
list_order r a c ts us j (item_after rs p d) (only_item e) n w (inr h) = absurd (omega (arith, h.0))
list_order r a c ts us j (item_after rs p d) (next_item ss e) n w h = absurd (omega (arith, n refl))
list_order r a c ts us j (item_after rs p d) (item_after ss q e) n w (inl h) = absurd (omega (arith, h))
list_order r a c ts us j (item_after rs p d) (item_after ss q e) n w (inr h) = after_order rs ss p q d e j w h.1

-- nodes of one rule
pub lifted_order : (k : Kind) (r a c : ℕ) (ts us : Trees) (j : ℕ) → Fits k a ts → Fits k c us → (a ≡ c → tree_count ts ≡ tree_count us) → widths ts ≡ widths us →
    (k ≡ kind.Named → (heights ts < heights us) ⊎ (heights ts ≡ heights us) × LineBefore a c ts us j) → ((k ≡ kind.Named → ⊥) → LineBefore a c ts us j) → Before (lifted k r a ts) (lifted k r c us) j
lifted_order kind.Named r a c ts us j f g n w h i = h refl
lifted_order kind.Group r a c ts us j f g n w h i = i (λ e. cc e)
lifted_order kind.Opt r a c ts us j f g n w h i = option_order r a c ts us j f g w (i (λ e. cc e))
lifted_order kind.Star r a c ts us j f g n w h i = star_order r a c ts us j f g w (i (λ e. cc e))
lifted_order kind.List r a c ts us j f g n w h i = list_order r a c ts us j f g n w (i (λ e. cc e))
