-- What each task does.
use Rattle.std.proofs.Common.{◌≡◌, refl, sym, ap, subst, ◌∙◌, ◌+◌, ◌-◌, ◌<◌, ◌≤◌, ℕ, suc, Bool, List, [], ◌∷◌, ◌++◌, length, arith, Some, None, Option, append-nil, unwrap_or}
use Rattle.std.proofs.lemmas.Option.{get_or_from_slice_get}
use mathlib.Core.Logic.{inr}
use Rattle.ix_model.specs.declared.grammar.Mark.{Mark}
use Rattle.ix_model.specs.declared.plan.SlotInfo.{SlotInfo}
use Rattle.ix_model.specs.declared.rules.Kind.{Kind}
use Rattle.ix_model.specs.declared.rules.Kind.TheVariants as kind
use Rattle.ix_model.specs.declared.rules.Sym.{Sym}
use Rattle.ix_model.specs.declared.rules.Sym.TheVariants as sy
use Rattle.ix_model.specs.declared.step.Step.{Step}
use Rattle.ix_model.specs.declared.step.Step.TheVariants as step
use Rattle.ix_model.specs.Expansion.Parts.{Parts}
use Rattle.ix_model.specs.Expansion.Planned.{IsPlanned}
use Rattle.ix_model.specs.Expansion.Numbered.{kind_at, lines_at, mark_at, sym_at, syms_at}
use Rattle.ix_model.specs.Expansion.Slots.{IsSlot, info_at}
use Rattle.ix_model.specs.Expansion.SlotPlaces.{HasNext}
use Rattle.ix_model.specs.Expansion.FlatTrees.{FlatTree, flat_text, flat_insertion, flat_node, FlatTrees, no_flat, flats_and, flat_count}
use Rattle.ix_model.specs.Expansion.FlatDerives.{FlatDerives, IsLine}
use Rattle.ix_model.specs.Expansion.FlatHeights.{flat_height, flat_heights}
use Rattle.ix_model.specs.Expansion.Walk.{walk, walk_all, wrapped, mark_of}
use Rattle.ix_first_laws.specs.Nested.{IsNested}
use Rattle.ix_first_laws.specs.Bounded.{TreesWithin, IsBestTree, IsBestTrees}
use Rattle.ix_first_laws.specs.Least.{AltWithin, IsLeastHeight, IsLeastAlt}
use Rattle.ix_first_laws.proofs.Composing.{longer, helper_node, named_node}
use Rattle.ix_first_laws.proofs.FirstTrees.{tree_of, tree_is_best, trees_of, trees_are_best}
use Rattle.ix_first_laws.proofs.FlatAsym.{one_tree, one_list}
use Rattle.ix_first_laws.proofs.Lines.{line_syms, line_within}
use Rattle.ix_first_laws.proofs.NodeKinds.{Helper, raised_helper, raised_named}
use Rattle.ix_height.specs.Spans.{of_slot, of_rule, IsOfUse}
use Rattle.ix_choice.specs.SlotTrees.{slot_syms, IsLeastStart, EndsLeastAlt}
use Rattle.ix_choice.specs.Tasks.{tree_size, trees_size, Gives, Done, Does, CanDo}
use Rattle.ix_choice.specs.declared.task.Task.{Task}
use Rattle.ix_choice.specs.declared.task.Task.TheVariants as task
use Rattle.ix_choice.proofs.SlotFacts.{info_is, slot_there, next_info, best_at_end, symbol_at, child_used, before_used, slot_used, end_used}

module _ (plan : Parts) where
  pub leave_done : (ts : List Task) (out : List Step) → Does plan task.Leave ts ts out (out ++ step.Leave ∷ [])
  leave_done ts out steps size h = record { given = step.Leave ∷ []; more = []; rest = []; count = 0; tasks_are = sym (append-nil ts); out_is = refl; gives = (refl, refl); steps_are = h.0; fewer = omega (arith, h.1) }

  pub text_done : (ts : List Task) (out : List Step) (t i j b : ℕ) (shown : Bool) → Does plan (task.Tree (sy.Term t shown) i j b) ts ts out (out ++ step.Text i j shown ∷ [])
  text_done ts out t i j b shown steps size (d, y, _, e, f) = by_tree d y.within.0 e f
    where
      by_tree : (d : FlatTree) → FlatDerives plan d (sy.Term t shown) i j → steps ≡ walk plan.rules d (sy.Term t shown) → size ≡ tree_size d → Done plan (task.Tree (sy.Term t shown) i j b) ts ts out (out ++ step.Text i j shown ∷ []) steps size
      by_tree (flat_text x y) h e f = record { given = step.Text i j shown ∷ []; more = []; rest = []; count = 0; tasks_are = sym (append-nil ts); out_is = refl; gives = (refl, refl); steps_are = cc (e, h.0, h.1); fewer = omega (arith, f) }
      by_tree flat_insertion h e f = absurd (cc h.1)
      by_tree (flat_node r a ds) h e f = absurd (cc h.1)

  pub insert_done : (ts : List Task) (out : List Step) (n i j b : ℕ) → Does plan (task.Tree (sy.Insert n) i j b) ts ts out (out ++ step.Insert n ∷ [])
  insert_done ts out n i j b steps size (d, y, _, e, f) = by_tree d y.within.0 e f
    where
      by_tree : (d : FlatTree) → FlatDerives plan d (sy.Insert n) i j → steps ≡ walk plan.rules d (sy.Insert n) → size ≡ tree_size d → Done plan (task.Tree (sy.Insert n) i j b) ts ts out (out ++ step.Insert n ∷ []) steps size
      by_tree (flat_text x y) h e f = absurd (cc h.2.3)
      by_tree flat_insertion h e f = record { given = step.Insert n ∷ []; more = []; rest = []; count = 0; tasks_are = sym (append-nil ts); out_is = refl; gives = (refl, refl); steps_are = e; fewer = omega (arith, f) }
      by_tree (flat_node r a ds) h e f = absurd (cc h.1)

  -- no symbol is before the dot
  pub nothing_done : (ts : List Task) (out : List Step) (s i j b : ℕ) → (info_at plan s).dot ≡ 0 → Does plan (task.Before s i j b) ts ts out out
  nothing_done ts out s i j b zero_dot steps size (ds, y, _, e, f) = by_trees ds (y.within.1 ∙ zero_dot) e f
    where
      by_trees : (ds : FlatTrees) → flat_count ds ≡ 0 → steps ≡ walk_all plan.rules ds (info_at plan s).head (info_at plan s).alt → size ≡ trees_size ds → Done plan (task.Before s i j b) ts ts out out steps size
      by_trees no_flat c e f = record { given = []; more = []; rest = []; count = 0; tasks_are = sym (append-nil ts); out_is = sym (append-nil out); gives = (refl, refl); steps_are = e; fewer = omega (arith, f) }
      by_trees (flats_and ds d) c e f = absurd (omega (arith, c))

  wrapped_helper : (k : Kind) (r : ℕ) (m : Mark) (inner : List Step) → Helper k → wrapped k r m inner ≡ inner
  wrapped_helper kind.Named r m inner h = absurd (h refl)
  wrapped_helper kind.Group r m inner h = refl
  wrapped_helper kind.Opt r m inner h = refl
  wrapped_helper kind.Star r m inner h = refl
  wrapped_helper kind.List r m inner h = refl

  wrapped_named : (k : Kind) (r : ℕ) (m : Mark) (inner : List Step) → k ≡ kind.Named → wrapped k r m inner ≡ step.Enter r m ∷ inner ++ step.Leave ∷ []
  wrapped_named k r m inner h = rw h refl

  mark_is : (r : ℕ) (m : Option Mark) (d : Mark) → unwrap_or m d ≡ mark_of (sy.Rule r m) d
  mark_is r None d = refl
  mark_is r (Some k) d = refl

  -- a tree of the rule, whatever mark its call has
  pub unmarked : (d : FlatTree) (r i j : ℕ) (m : Option Mark) → FlatDerives plan d (sy.Rule r m) i j → FlatDerives plan d (sy.Rule r None) i j
  unmarked (flat_text x y) r i j m k = absurd (cc k.2.3)
  unmarked flat_insertion r i j m k = absurd (cc k.1)
  unmarked (flat_node q c fs) r i j m k = let z : q ≡ r = cc k.1 in (None, ap (λ (v : ℕ). sy.Rule v None) (sym z), k.2, k.3, k.4, k.5)

  -- some alternative of the rule has trees over the span, no higher than b
  abbrev pub SomeWithin : ℕ → ℕ → ℕ → ℕ → Type 0
  SomeWithin b r i j = (a : ℕ) × (ds : FlatTrees) × (a < length (lines_at plan.rules r)) × AltWithin plan b r i j a ds

  -- the alternative of a node
  node_line : (r i j q c : ℕ) (es : FlatTrees) (m : Option Mark) (b : ℕ) → FlatDerives plan (flat_node q c es) (sy.Rule r m) i j → flat_heights plan.rules es ≤ b → SomeWithin b r i j
  node_line r i j q c es m b h low =
      let e : q ≡ r = cc h.1 in
      let line : IsLine plan r c h.2 = subst (λ (z : ℕ). IsLine plan z c h.2) e h.3 in
      let s : h.2 ≡ syms_at plan.rules r c = sym (line_syms plan r c h.2 line) in
      (c, es, line_within plan r c h.2 line, subst (λ z. TreesWithin plan b z (length z) i j es) s (h.5, h.4, low))

  -- some alternative of a helper fits its bound
  pub helper_there : (r i j b : ℕ) (m : Option Mark) → CanDo plan (task.Tree (sy.Rule r m) i j b) → Helper (kind_at plan.rules r) → SomeWithin b r i j
  helper_there r i j b m (steps, size, (d, y, _, _, _)) helper = by_tree d y.within.0 y.within.1
    where
      by_tree : (d : FlatTree) → FlatDerives plan d (sy.Rule r m) i j → flat_height plan.rules d ≤ b → SomeWithin b r i j
      by_tree (flat_text x y) h l = absurd (cc h.2.3)
      by_tree flat_insertion h l = absurd (cc h.1)
      by_tree (flat_node q c es) h l =
          let e : q ≡ r = cc h.1 in
          node_line r i j q c es m b h (omega (arith, l, raised_helper (kind_at plan.rules q) (flat_heights plan.rules es) (λ k. helper (sym (ap (kind_at plan.rules) e) ∙ k))))

  -- the least height of a named rule is one more than that of some alternative
  pub named_tree : (r i j h : ℕ) → kind_at plan.rules r ≡ kind.Named → IsLeastHeight plan r i j h → (1 ≤ h) × SomeWithin (h - 1) r i j
  named_tree r i j h named l = by_tree l.tree l.derived l.height
    where
      by_tree : (d : FlatTree) → FlatDerives plan d (sy.Rule r None) i j → flat_height plan.rules d ≡ h → (1 ≤ h) × SomeWithin (h - 1) r i j
      by_tree (flat_text x y) k e = absurd (cc k.2.3)
      by_tree flat_insertion k e = absurd (cc k.1)
      by_tree (flat_node q c es) k e =
          let z : q ≡ r = cc k.1 in
          let n : flat_heights plan.rules es + 1 ≡ h = sym (raised_named (kind_at plan.rules q) (flat_heights plan.rules es) (ap (kind_at plan.rules) z ∙ named)) ∙ e in
          (omega (arith, n), node_line r i j q c es None (h - 1) k (omega (arith, n)))

module _ (plan : Parts) (planned : IsPlanned plan) (nested : IsNested plan.rules) where
  -- the last symbol before the dot, from its least start
  pub start_done : (ts : List Task) (out : List Step) (v s i j b k : ℕ) (x : Sym) → HasNext plan v s x → IsLeastStart plan b v x i j k →
      Does plan (task.Before s i j b) ts (ts ++ task.Tree x k j b ∷ task.Before v i k b ∷ []) out out
  start_done ts out v s i j b k x n p steps size (ds, y, used, e, f) =
      record {
        given = [];
        more = task.Tree x k j b ∷ task.Before v i k b ∷ [];
        rest = walk_all plan.rules es head alt ++ walk plan.rules d x;
        count = 0 + trees_size es + tree_size d;
        tasks_are = refl;
        out_is = sym (append-nil out);
        gives = (
          walk plan.rules d x,
          tree_size d,
          walk_all plan.rules es head alt,
          0 + trees_size es,
          (d, z, child_used plan planned v s x n i k j p.trees p.tree u (p.fit.0, p.fit.1) p.fits.0, refl, refl),
          (walk_all plan.rules es head alt, trees_size es, [], 0, (es, w, before_used plan planned v s x n i k j p.trees p.tree u (p.fit.0, p.fit.1) p.fits.0, refl, refl), (refl, refl), refl, refl),
          refl,
          refl,
        );
        steps_are = e ∙ ap (λ (q : SlotInfo). walk_all plan.rules ds q.head q.alt) (next_info plan v s x n) ∙ ap (λ q. walk_all plan.rules q head alt) same ∙ ap (λ q. walk_all plan.rules es head alt ++ walk plan.rules d q) symbol;
        fewer = omega (arith, f, ap trees_size same);
      }
    where
      head : ℕ
      head = (info_at plan v).head

      alt : ℕ
      alt = (info_at plan v).alt

      dot : ℕ
      dot = (info_at plan v).dot

      u : IsOfUse plan (of_slot s i j)
      u = slot_used plan planned v s x n i j used

      es : FlatTrees
      es = trees_of plan b (slot_syms plan v) dot i k

      d : FlatTree
      d = tree_of plan b x k j

      w : IsBestTrees plan b (slot_syms plan v) dot i k es
      w = trees_are_best plan nested b (slot_syms plan v) dot i k p.trees p.fit

      z : IsBestTree plan b x k j d
      z = tree_is_best plan nested b x k j p.tree p.fits

      all : IsBestTrees plan b (slot_syms plan v) (suc dot) i j ds
      all = subst (λ (m : ℕ). IsBestTrees plan b (slot_syms plan v) m i j ds) (omega arith) (subst (λ (q : SlotInfo). IsBestTrees plan b (syms_at plan.rules q.head q.alt) q.dot i j ds) (next_info plan v s x n) y)

      same : ds ≡ flats_and es d
      same = one_list plan b (slot_syms plan v) (suc dot) i j ds (flats_and es d) all (longer plan b (slot_syms plan v) dot x i j k es d (symbol_at plan planned v s x n) w z p.least)

      symbol : sym_at plan.rules head alt (flat_count es) ≡ x
      symbol = ap (sym_at plan.rules head alt) w.within.1 ∙ get_or_from_slice_get (slot_syms plan v) dot x (sy.Insert 0) (symbol_at plan planned v s x n)

  -- ---- nodes of alternative a of rule r, which slot s ends

  module _ (r i j b s a : ℕ) (p : IsLeastAlt plan b r i j a) (at : IsSlot plan s r a (length (syms_at plan.rules r a))) where
    abbrev line : List Sym
    line = syms_at plan.rules r a

    abbrev es : FlatTrees
    es = trees_of plan b line (length line) i j

    w : IsBestTrees plan b line (length line) i j es
    w = trees_are_best plan nested b line (length line) i j p.trees p.fit

    -- the task of the slot gives the steps of the alternative's first trees
    inner : IsOfUse plan (of_rule r i j) → Gives plan (task.Before s i j b) (walk_all plan.rules es r a) (trees_size es)
    inner u = (
      es,
      best_at_end plan b s r a i j es at w,
      (slot_there plan s r a (length line) at, inr (end_used plan planned r a s i j p.trees u at p.inside p.fit.0 p.fit.1)),
      ap (λ (q : SlotInfo). walk_all plan.rules es q.head q.alt) (sym (info_is plan s r a (length line) at)),
      refl,
    )

    -- a helper leaves its bound to its symbols
    pub helper_done : (ts : List Task) (out : List Step) (m : Option Mark) → Helper (kind_at plan.rules r) → Does plan (task.Tree (sy.Rule r m) i j b) ts (ts ++ task.Before s i j b ∷ []) out out
    helper_done ts out m helper steps size (d, y, u, e, f) =
        record {
          given = [];
          more = task.Before s i j b ∷ [];
          rest = walk_all plan.rules es r a;
          count = 0 + trees_size es;
          tasks_are = refl;
          out_is = sym (append-nil out);
          gives = (walk_all plan.rules es r a, trees_size es, [], 0, inner u, (refl, refl), refl, refl);
          steps_are = e ∙ ap (λ v. walk plan.rules v (sy.Rule r m)) same ∙ wrapped_helper plan (kind_at plan.rules r) r _ (walk_all plan.rules es r a) helper;
          fewer = omega (arith, f, ap tree_size same);
        }
      where
        same : d ≡ flat_node r a es
        same = one_tree plan b (sy.Rule r m) i j d (flat_node r a es) y (helper_node plan b r i j a es p.inside w p.least m helper)

    -- a node of a named rule has the least height, and its symbols one less
    pub named_done : (ts : List Task) (out : List Step) (high : ℕ) (m : Option Mark) (mark : Mark) → kind_at plan.rules r ≡ kind.Named → IsLeastHeight plan r i j (b + 1) → mark ≡ mark_of (sy.Rule r m) (mark_at plan.rules r) →
        Does plan (task.Tree (sy.Rule r m) i j high) ts (ts ++ task.Leave ∷ task.Before s i j b ∷ []) out (out ++ step.Enter r mark ∷ [])
    named_done ts out high m mark named l is steps size (d, y, u, e, f) =
        record {
          given = step.Enter r mark ∷ [];
          more = task.Leave ∷ task.Before s i j b ∷ [];
          rest = walk_all plan.rules es r a ++ step.Leave ∷ [];
          count = 0 + trees_size es + 1;
          tasks_are = refl;
          out_is = refl;
          gives = (step.Leave ∷ [], 1, walk_all plan.rules es r a, 0 + trees_size es, (refl, refl), (walk_all plan.rules es r a, trees_size es, [], 0, inner u, (refl, refl), refl, refl), refl, refl);
          steps_are = e ∙ ap (λ v. walk plan.rules v (sy.Rule r m)) same ∙ wrapped_named plan (kind_at plan.rules r) r _ (walk_all plan.rules es r a) named ∙ ap (λ v. step.Enter r v ∷ walk_all plan.rules es r a ++ step.Leave ∷ []) (sym is);
          fewer = omega (arith, f, ap tree_size same);
        }
      where
        over : b < high
        over = omega (arith, l.least d (unmarked plan d r i j m y.within.0), y.within.1)

        more : (c : ℕ) (fs : FlatTrees) → FlatDerives plan (flat_node r c fs) (sy.Rule r m) i j → b ≤ flat_heights plan.rules fs
        more c fs k = omega (arith, l.least (flat_node r c fs) (unmarked plan (flat_node r c fs) r i j m k), raised_named (kind_at plan.rules r) (flat_heights plan.rules fs) named)

        same : d ≡ flat_node r a es
        same = one_tree plan high (sy.Rule r m) i j d (flat_node r a es) y (named_node plan b r i j a es p.inside w p.least m high over named more)

  -- ---- the same, as the code puts the tasks

  pub start_does : (ts us : List Task) (out : List Step) (v s i j b k : ℕ) (x : Sym) → HasNext plan v s x → IsLeastStart plan b v x i j k → us ≡ ts ++ task.Tree x k j b ∷ task.Before v i k b ∷ [] → Does plan (task.Before s i j b) ts us out out
  start_does ts us out v s i j b k x n p e = subst (λ z. Does plan (task.Before s i j b) ts z out out) (sym e) (start_done ts out v s i j b k x n p)

  pub helper_does : (ts us : List Task) (out : List Step) (r i j b s : ℕ) (m : Option Mark) → Helper (kind_at plan.rules r) → EndsLeastAlt plan b r i j s → us ≡ ts ++ task.Before s i j b ∷ [] → Does plan (task.Tree (sy.Rule r m) i j b) ts us out out
  helper_does ts us out r i j b s m helper (a, p, at) e = subst (λ z. Does plan (task.Tree (sy.Rule r m) i j b) ts z out out) (sym e) (helper_done r i j b s a p at ts out m helper)

  pub named_does : (ts us : List Task) (out new : List Step) (r i j h s : ℕ) (m : Option Mark) (mark : Mark) → kind_at plan.rules r ≡ kind.Named → IsLeastHeight plan r i j h → EndsLeastAlt plan (h - 1) r i j s → mark ≡ unwrap_or m (mark_at plan.rules r) →
      new ≡ out ++ step.Enter r mark ∷ [] → us ≡ ts ++ task.Leave ∷ task.Before s i j (h - 1) ∷ [] → (b : ℕ) → Does plan (task.Tree (sy.Rule r m) i j b) ts us out new
  named_does ts us out new r i j h s m mark named l (a, p, at) is e f b =
      let up : h ≡ (h - 1) + 1 = omega (arith, (named_tree plan r i j h named l).0) in
      subst (λ z. Does plan (task.Tree (sy.Rule r m) i j b) ts us out z) (sym e)
      (subst (λ z. Does plan (task.Tree (sy.Rule r m) i j b) ts z out (out ++ step.Enter r mark ∷ [])) (sym f)
      (named_done r i j (h - 1) s a p at ts out b m mark named (subst (λ (z : ℕ). IsLeastHeight plan r i j z) up l) (is ∙ mark_is plan r m _)))
