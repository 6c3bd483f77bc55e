-- What is derived over the written grammar is derived over the numbered rules.
use Rattle.std.proofs.Common.{◌≡◌, refl, ap, sym, subst, ◌∙◌, ◌+◌, ℕ, zero, suc, List, [], ◌∷◌, map, length, Option, Some, None, arith, slice_get, Bool}
use Rattle.std.specs.List.{AllByRecursion}
use Rattle.std.specs.Char.{IsScalar}
use mathlib.Core.Logic.{inl, inr}
use Rattle.ix_model.specs.declared.grammar.Grammar.{Grammar}
use Rattle.ix_model.specs.declared.grammar.Mark.{Mark}
use Rattle.ix_model.specs.declared.grammar.TMark.{TMark}
use Rattle.ix_model.specs.declared.grammar.Chars.{Chars}
use Rattle.ix_model.specs.declared.grammar.Member.{Member}
use Rattle.ix_model.specs.declared.grammar.Alt.{Alt}
use Rattle.ix_model.specs.declared.grammar.Term.{Term, One, Opt, Star, Plus}
use Rattle.ix_model.specs.declared.grammar.Factor.{Factor, Lit, Set, Call, Insert, Group}
use Rattle.ix_model.specs.declared.rules.Kind.{Kind}
use Rattle.ix_model.specs.declared.rules.Kind.TheVariants as kind
use Rattle.ix_model.specs.declared.rules.Sym.{Sym}
use Rattle.ix_model.specs.declared.rules.Sym.TheVariants as sy
use Rattle.ix_model.specs.declared.rules.Rules.{Rules}
use Rattle.ix_model.specs.declared.plan.SlotInfo.{SlotInfo}
use Rattle.ix_model.specs.declared.rules.Terminal.TheVariants as terminal
use Rattle.ix_model.specs.Expansion.Parts.{Parts}
use Rattle.ix_model.specs.Matching.Codes.{characters}
use Rattle.ix_model.specs.Grammars.Written.{IsNamed}
use Rattle.ix_model.specs.Grammars.Names.{HasUniqueNames}
use Rattle.ix_model.specs.Derivations.Trees.{Tree, text, insertion, node, group, present, absent, no_item, list, Trees, no_tree, and, Repeated, one, again, again_after, tree_count}
use Rattle.ix_model.specs.Derivations.Derives.{Derives, DerivesFirst, Repeats, DerivesAll, IsDerivation}
use Rattle.ix_model.specs.Expansion.FlatTrees.{flat_node, no_flat, flats_and, flat_count}
use Rattle.ix_model.specs.Expansion.FlatDerives.{FlatDerives, FlatDerivesFirst, IsLine}
use Rattle.ix_model.specs.Expansion.Expanded as X
use Rattle.ix_model.specs.Expansion.Expanded.{Next, line, next_syms, HasFlat, HasSet, TermBecomes, RepeatBecomes, SeparatorBecomes, FactorBecomes, AltsBecome, TermsBecome, Expanded}
use Rattle.ix_model.specs.Documents.Bare.{is_shown_by}
use Rattle.ix_model.specs.Expansion.Numbered.{sym_at}
use Rattle.ix_model.specs.Expansion.Lower.{lower, lower_all, lower_repeated, rule_in, starred}
use Rattle.ix_model.proofs.Forms.{same_groups, same_star, same_plus, star_no_plus}
use Rattle.std.proofs.lemmas.Option.{get_or_from_slice_get}
use Rattle.ix_expansion_laws.proofs.Lifting.{kind_is, as_many, rules_at, stands_char}

-- what stands in a list stands mapped in the mapped list
pub map_get : {A B : Type 0} (f : A → B) (xs : List A) (n : ℕ) (x : A) → slice_get xs n ≡ Some x → slice_get (map f xs) n ≡ Some (f x)
map_get f [] n x e = absurd (cc e)
map_get f (y ∷ xs) zero x e =
    let q : y ≡ x = cc e in
    ap (λ z. Some (f z)) q
map_get f (y ∷ xs) (suc n) x e = map_get f xs n x e

-- as many trees
pub lower_count : (rules : Rules) (ds : Trees) (r a : ℕ) → flat_count (lower_all rules ds r a) ≡ tree_count ds
lower_count rules no_tree r a = refl
lower_count rules (and ds d) r a = ap (λ (n : ℕ). n + 1) (lower_count rules ds r a)

module _ (g : Grammar) (rules : Rules) where
  -- ---- what stands at a place of what a list becomes

  pub to_alt : (a b : Next) (alts : List Alt) (lines : List (List Sym)) → AltsBecome g rules a alts lines b → (n : ℕ) (alt : Alt) → slice_get alts n ≡ Some alt →
      (syms : List Sym) × (c : Next) × (d : Next) × (slice_get lines n ≡ Some syms) × TermsBecome g rules c alt.terms syms d
  to_alt a b alts lines (X.no_alt _) n alt e = absurd (cc e)
  to_alt a b alts lines (X.and_alt _ c _ x more xs ys h k) zero alt e =
      let q : x ≡ alt = cc e in
      (xs, a, c, refl, subst (λ (z : Alt). TermsBecome g rules a z.terms xs c) q h)
  to_alt a b alts lines (X.and_alt _ c _ x more xs ys h k) (suc n) alt e = to_alt c b more ys k n alt e

  pub to_term : (a b : Next) (ts : List Term) (xs : List Sym) → TermsBecome g rules a ts xs b → (n : ℕ) (t : Term) → slice_get ts n ≡ Some t →
      (x : Sym) × (c : Next) × (d : Next) × (slice_get xs n ≡ Some x) × TermBecomes g rules c t x d
  to_term a b ts xs (X.no_term _) n t e = absurd (cc e)
  to_term a b ts xs (X.and_term _ c _ u us y ys h k) zero t e =
      let q : u ≡ t = cc e in
      (y, a, c, refl, subst (λ z. TermBecomes g rules a z y c) q h)
  to_term a b ts xs (X.and_term _ c _ u us y ys h k) (suc n) t e = to_term c b us ys k n t e

  -- the symbol at a place of a rule
  pub sym_is : (r a n : ℕ) (k : Kind) (lines : List (List Sym)) (syms : List Sym) (y : Sym) → HasFlat rules r k lines → slice_get lines a ≡ Some syms → slice_get syms n ≡ Some y → sym_at rules r a n ≡ y
  sym_is r a n k lines syms y f e h = rw (f, map_get line lines a syms e) (get_or_from_slice_get syms n y (sy.Insert 0) h)

  -- ---- what a term of one form becomes

  pub of_one : (a b : Next) (t : Term) (x : Sym) → TermBecomes g rules a t x b → (f : Factor) → t ≡ One f → FactorBecomes g rules a f x b
  of_one a b t x (X.alone _ _ h y k) f e =
      let q : h ≡ f = cc e in
      subst (λ z. FactorBecomes g rules a z x b) q k
  of_one a b t x (X.option _ _ h y f' k) f e = absurd (cc e)
  of_one a b t x (X.plus _ _ h sep p k) f e = absurd (cc e)
  of_one a b t x (X.star _ _ h sep p f' k) f e = absurd (cc e)

  abbrev pub IsOption : Next → Factor → Sym → Next → Type 0
  IsOption a f x b = (y : Sym) × (x ≡ sy.Rule a.rule None) × HasFlat rules a.rule kind.Opt ((y ∷ []) ∷ [] ∷ []) × FactorBecomes g rules (record a { rule = a.rule + 1 }) f y b

  pub of_option : (a b : Next) (t : Term) (x : Sym) → TermBecomes g rules a t x b → (f : Factor) → t ≡ Opt f → IsOption a f x b
  of_option a b t x (X.alone _ _ h y k) f e = absurd (cc e)
  of_option a b t x (X.option _ _ h y f' k) f e =
      let q : h ≡ f = cc e in
      (y, refl, f', subst (λ z. FactorBecomes g rules (record a { rule = a.rule + 1 }) z y b) q k)
  of_option a b t x (X.plus _ _ h sep p k) f e = absurd (cc e)
  of_option a b t x (X.star _ _ h sep p f' k) f e = absurd (cc e)

  pub of_plus : (a b : Next) (t : Term) (x : Sym) → TermBecomes g rules a t x b → (f : Factor) (sep : Option Factor) → t ≡ Plus f sep → RepeatBecomes g rules a f sep x b
  of_plus a b t x (X.alone _ _ h y k) f sep e = absurd (cc e)
  of_plus a b t x (X.option _ _ h y f' k) f sep e = absurd (cc e)
  of_plus a b t x (X.plus _ _ h p z k) f sep e =
      let q = same_plus h f p sep e in
      subst (λ v. RepeatBecomes g rules a v sep x b) q.0 (subst (λ v. RepeatBecomes g rules a h v x b) q.1 k)
  of_plus a b t x (X.star _ _ h p z f' k) f sep e = absurd (star_no_plus h f p sep e)

  abbrev pub IsStarred : Next → Factor → Option Factor → Sym → Next → Type 0
  IsStarred a f sep x b = (p : Sym) × (x ≡ sy.Rule a.rule None) × HasFlat rules a.rule kind.Star ([] ∷ (p ∷ []) ∷ []) × RepeatBecomes g rules (record a { rule = a.rule + 1 }) f sep p b

  pub of_star : (a b : Next) (t : Term) (x : Sym) → TermBecomes g rules a t x b → (f : Factor) (sep : Option Factor) → t ≡ Star f sep → IsStarred a f sep x b
  of_star a b t x (X.alone _ _ h y k) f sep e = absurd (cc e)
  of_star a b t x (X.option _ _ h y f' k) f sep e = absurd (cc e)
  of_star a b t x (X.plus _ _ h p z k) f sep e = absurd (star_no_plus f h sep p (sym e))
  of_star a b t x (X.star _ _ h p z f' k) f sep e =
      let q = same_star h f p sep e in
      (z, refl, f', subst (λ v. RepeatBecomes g rules (record a { rule = a.rule + 1 }) v sep z b) q.0 (subst (λ v. RepeatBecomes g rules (record a { rule = a.rule + 1 }) h v z b) q.1 k))

  -- ---- what a factor of one form becomes

  pub of_insert : (a b : Next) (f : Factor) (x : Sym) → FactorBecomes g rules a f x b → (cs : Chars) → f ≡ Insert cs → (x ≡ sy.Insert a.insert) × (slice_get rules.inserts a.insert ≡ Some (characters cs))
  of_insert a b f x (X.inserted _ c e) cs q =
      let p : c ≡ cs = cc q in
      (refl, e ∙ ap (λ z. Some (characters z)) p)
  of_insert a b f x (X.literal _ m c e) cs q = absurd (cc q)
  of_insert a b f x (X.set _ m ex ms e) cs q = absurd (cc q)
  of_insert a b f x (X.called _ m n r e) cs q = absurd (cc q)
  of_insert a b f x (X.grouped _ _ alts lines e h) cs q = absurd (cc q)

  pub of_literal : (a b : Next) (f : Factor) (x : Sym) → FactorBecomes g rules a f x b → (m : Option TMark) (cs : Chars) → f ≡ Lit m cs → (x ≡ sy.Term a.terminal (is_shown_by m)) × (slice_get rules.terminals a.terminal ≡ Some (terminal.Lit (characters cs)))
  of_literal a b f x (X.literal _ m c e) m' cs q =
      let o : m ≡ m' = cc q in
      let p : c ≡ cs = cc q in
      (ap (λ z. sy.Term a.terminal (is_shown_by z)) o, e ∙ ap (λ z. Some (terminal.Lit (characters z))) p)
  of_literal a b f x (X.inserted _ c e) m' cs q = absurd (cc q)
  of_literal a b f x (X.set _ m ex ms e) m' cs q = absurd (cc q)
  of_literal a b f x (X.called _ m n r e) m' cs q = absurd (cc q)
  of_literal a b f x (X.grouped _ _ alts lines e h) m' cs q = absurd (cc q)

  pub of_set : (a b : Next) (f : Factor) (x : Sym) → FactorBecomes g rules a f x b → (m : Option TMark) (ex : Bool) (ms : List Member) → f ≡ Set m ex ms → (x ≡ sy.Term a.terminal (is_shown_by m)) × HasSet rules a.terminal ex ms
  of_set a b f x (X.set _ m ex ms e) m' ex' ms' q =
      let o : m ≡ m' = cc q in
      let p : ex ≡ ex' = cc q in
      let r : ms ≡ ms' = cc q in
      (ap (λ z. sy.Term a.terminal (is_shown_by z)) o, subst (λ z. HasSet rules a.terminal z ms') p (subst (λ z. HasSet rules a.terminal ex z) r e))
  of_set a b f x (X.inserted _ c e) m' ex' ms' q = absurd (cc q)
  of_set a b f x (X.literal _ m c e) m' ex' ms' q = absurd (cc q)
  of_set a b f x (X.called _ m n r e) m' ex' ms' q = absurd (cc q)
  of_set a b f x (X.grouped _ _ alts lines e h) m' ex' ms' q = absurd (cc q)

  pub of_call : (a b : Next) (f : Factor) (x : Sym) → FactorBecomes g rules a f x b → (m : Option Mark) (name : List ℕ) → f ≡ Call m name → (r : ℕ) × (x ≡ sy.Rule r m) × IsNamed g r name
  of_call a b f x (X.called _ m n r e) m' name q =
      let o : m ≡ m' = cc q in
      let p : n ≡ name = cc q in
      (r, ap (λ z. sy.Rule r z) o, subst (λ z. IsNamed g r z) p e)
  of_call a b f x (X.inserted _ c e) m' name q = absurd (cc q)
  of_call a b f x (X.literal _ m c e) m' name q = absurd (cc q)
  of_call a b f x (X.set _ m ex ms e) m' name q = absurd (cc q)
  of_call a b f x (X.grouped _ _ alts lines e h) m' name q = absurd (cc q)

  abbrev pub IsGrouped : Next → List Alt → Sym → Next → Type 0
  IsGrouped a alts x b = (lines : List (List Sym)) × (x ≡ sy.Rule a.rule None) × HasFlat rules a.rule kind.Group lines × AltsBecome g rules (record a { rule = a.rule + 1 }) alts lines b

  pub of_group : (a b : Next) (f : Factor) (x : Sym) → FactorBecomes g rules a f x b → (alts : List Alt) → f ≡ Group alts → IsGrouped a alts x b
  of_group a b f x (X.grouped _ _ xs lines e h) alts q =
      let o = same_groups xs alts q in
      (lines, refl, e, subst (λ z. AltsBecome g rules (record a { rule = a.rule + 1 }) z lines b) o h)
  of_group a b f x (X.inserted _ c e) alts q = absurd (cc q)
  of_group a b f x (X.literal _ m c e) alts q = absurd (cc q)
  of_group a b f x (X.set _ m ex ms e) alts q = absurd (cc q)
  of_group a b f x (X.called _ m n r e) alts q = absurd (cc q)

  -- ---- repetitions and separators

  abbrev pub IsRepeated : Next → Factor → Option Factor → Sym → Next → Type 0
  IsRepeated a f sep x b =
      (y : Sym) × (sp : Option Sym) × (c : Next) × (x ≡ sy.Rule a.rule None) × HasFlat rules a.rule kind.List ((y ∷ []) ∷ next_syms a.rule y sp ∷ [])
      × FactorBecomes g rules (record a { rule = a.rule + 1 }) f y c × SeparatorBecomes g rules c sep sp b

  pub of_repeat : (a b : Next) (f : Factor) (sep : Option Factor) (x : Sym) → RepeatBecomes g rules a f sep x b → IsRepeated a f sep x b
  of_repeat a b f sep x (X.repeated _ c _ _ _ y sp e h k) = (y, sp, c, refl, e, h, k)

  pub of_none : (a b : Next) (sep : Option Factor) (sp : Option Sym) → SeparatorBecomes g rules a sep sp b → sep ≡ None → sp ≡ None
  of_none a b sep sp (X.no_separator _) e = refl
  of_none a b sep sp (X.separator _ _ f x h) e = absurd (cc e)

  pub of_some : (a b : Next) (sep : Option Factor) (sp : Option Sym) → SeparatorBecomes g rules a sep sp b → (p : Factor) → sep ≡ Some p → (z : Sym) × (sp ≡ Some z) × FactorBecomes g rules a p z b
  of_some a b sep sp (X.no_separator _) p e = absurd (cc e)
  of_some a b sep sp (X.separator _ _ f x h) p e =
      let q : f ≡ p = cc e in
      (x, refl, subst (λ v. FactorBecomes g rules a v x b) q h)

  module _ (slots : List SlotInfo) (s : List ℕ) where
    abbrev plan : Parts
    plan = record { rules = rules; slots = slots; text = s }

    line_at : (r a : ℕ) (k : Kind) (lines : List (List Sym)) (syms : List Sym) → HasFlat rules r k lines → slice_get lines a ≡ Some syms → IsLine plan r a syms
    line_at r a k lines syms f e = (record { kind = k; lines = map line lines }, line syms, f, map_get line lines a syms e, refl)

    abbrev Lowers : Tree → Type 0
    Lowers d = (a b : Next) (t : Term) (x : Sym) (i j : ℕ) → TermBecomes g rules a t x b → Derives g s d t i j → FlatDerives plan (lower rules d x) x i j

    abbrev AllLower : Trees → Type 0
    AllLower no_tree = Unit {0}
    AllLower (and ds d) = AllLower ds × Lowers d

    abbrev LowersRepeated : Repeated → Type 0
    LowersRepeated ds = (a b : Next) (f : Factor) (sep : Option Factor) (x : Sym) (i j : ℕ) → RepeatBecomes g rules a f sep x b → Repeats g s ds f sep i j → FlatDerives plan (lower_repeated rules ds (rule_in x)) x i j

    lower_seq : (ds : Trees) → AllLower ds → (r n : ℕ) (k : Kind) (lines : List (List Sym)) (syms : List Sym) → HasFlat rules r k lines → slice_get lines n ≡ Some syms →
        (c d : Next) (ts : List Term) → TermsBecome g rules c ts syms d → (i j : ℕ) → DerivesFirst g s ds ts i j → FlatDerivesFirst plan (lower_all rules ds r n) syms i j
    lower_seq no_tree l r n k lines syms f e c d ts b i j h = h
    lower_seq (and ds x) l r n k lines syms f e c d ts b i j h =
        let m = to_term c d ts syms b (tree_count ds) h.1 h.3 in (
          h.0,
          m.0,
          lower_seq ds l.0 r n k lines syms f e c d ts b i h.0 h.2,
          ap (slice_get syms) (lower_count rules ds r n) ∙ m.3,
          subst (λ z. FlatDerives plan (lower rules x z) m.0 h.0 j) (sym (sym_is r n (tree_count ds) k lines syms m.0 f e m.3)) (l.1 m.1 m.2 h.1 m.0 h.0 j m.4 h.4),
        )

    lower_line : (ds : Trees) → AllLower ds → (r n : ℕ) (mark : Option Mark) (k : Kind) (lines : List (List Sym)) → HasFlat rules r k lines → (c d : Next) (alts : List Alt) → AltsBecome g rules c alts lines d →
        (alt : Alt) → slice_get alts n ≡ Some alt → (i j : ℕ) → DerivesAll g s ds alt.terms i j → FlatDerives plan (flat_node r n (lower_all rules ds r n)) (sy.Rule r mark) i j
    lower_line ds l r n mark k lines f c d alts b alt e i j h =
        let m = to_alt c d alts lines b n alt e in
        (mark, refl, m.0, line_at r n k lines m.0 f m.3, lower_count rules ds r n ∙ h.0 ∙ as_many g rules m.1 m.2 alt.terms m.0 m.4, lower_seq ds l r n k lines m.0 f m.3 m.1 m.2 alt.terms m.4 i j h.1)

    -- one symbol's tree, under a line of that symbol alone
    lower_only : (d : Tree) → Lowers d → (r n : ℕ) (k : Kind) (lines : List (List Sym)) (c e : Next) (f : Factor) (y : Sym) (i j : ℕ) → HasFlat rules r k lines → slice_get lines n ≡ Some (y ∷ []) → FactorBecomes g rules c f y e → Derives g s d (One f) i j →
        FlatDerives plan (flat_node r n (flats_and no_flat (lower rules d (sym_at rules r n 0)))) (sy.Rule r None) i j
    lower_only d l r n k lines c e f y i j p q b h = (
      None,
      refl,
      y ∷ [],
      line_at r n k lines (y ∷ []) p q,
      refl,
      (
        i,
        y,
        refl,
        refl,
        subst (λ z. FlatDerives plan (lower rules d z) y i j) (sym (sym_is r n 0 k lines (y ∷ []) y p q refl)) (l c e (One f) y i j (X.alone c e f y b) h),
      ),
    )

    module _ (chars : AllByRecursion IsScalar s) (x : Expanded g rules) (u : HasUniqueNames g) where
      text_lowers : (p q : ℕ) → Lowers (text p q)
      text_lowers p q a b t z i j k (h, h', inl m) =
          let f = of_literal a b (Lit m.0 m.1) z (of_one a b t z k (Lit m.0 m.1) m.2) m.0 m.1 refl in
          (h, h', (a.terminal, is_shown_by m.0, terminal.Lit (characters m.1), f.0, f.1, m.3))
      text_lowers p q a b t z i j k (h, h', inr m) =
          let f = of_set a b (Set m.0 m.1 m.2) z (of_one a b t z k (Set m.0 m.1 m.2) m.4) m.0 m.1 m.2 refl in
          (h, h', (a.terminal, is_shown_by m.0, terminal.Set f.1.0, f.0, f.1.1, (m.3, (f.1.2 m.3 (stands_char s i m.3 chars m.6.2)).1 m.5, m.6)))

      insertion_lowers : Lowers insertion
      insertion_lowers a b t z i j k h = (a.insert, (of_insert a b (Insert h.1.0) z (of_one a b t z k (Insert h.1.0) h.1.1) h.1.0 refl).0, h.0)

      node_lowers : (q n : ℕ) (ds : Trees) → AllLower ds → Lowers (node q n ds)
      node_lowers q n ds l a b t z i j k h =
          let c = of_call a b (Call h.0.0 h.0.1) z (of_one a b t z k (Call h.0.0 h.0.1) h.0.2) h.0.0 h.0.1 refl in
          let e : q ≡ c.0 = u q c.0 h.0.1 h.0.3 c.2 in
          let at : slice_get g.rules c.0 ≡ Some h.2.0 = ap (slice_get g.rules) (sym e) ∙ h.2.1 in
          let w = rules_at g rules 0 _ _ g.rules x.walk c.0 h.2.0 at in
          let f : HasFlat rules c.0 kind.Named w.0 = subst (λ (y : ℕ). HasFlat rules y kind.Named w.0) (omega arith) w.3 in
          subst (λ y. FlatDerives plan (lower rules (node q n ds) y) y i j) (sym c.1)
          (lower_line ds l c.0 n h.0.0 kind.Named w.0 f w.1 w.2 h.2.0.alts w.4 h.2.2.0 h.2.2.1 i j
          (subst (λ ts. DerivesAll g s ds ts i j) (sym h.2.2.2) (h.3, h.4)))

      group_lowers : (n : ℕ) (ds : Trees) → AllLower ds → Lowers (group n ds)
      group_lowers n ds l a b t z i j k h =
          let c = of_group a b (Group h.1.0) z (of_one a b t z k (Group h.1.0) h.1.1) h.1.0 refl in
          subst (λ y. FlatDerives plan (lower rules (group n ds) y) y i j) (sym c.1)
          (lower_line ds l a.rule n None kind.Group c.0 c.2 _ b h.1.0 c.3 h.1.2.0 h.1.2.1 i j
          (subst (λ ts. DerivesAll g s ds ts i j) (sym h.1.2.2) (h.2, h.3)))

      present_lowers : (d : Tree) → Lowers d → Lowers (present d)
      present_lowers d l a b t z i j k h =
          let c = of_option a b t z k h.0 h.1 in
          subst (λ y. FlatDerives plan (lower rules (present d) y) y i j) (sym c.1)
          (lower_only d l a.rule 0 kind.Opt ((c.0 ∷ []) ∷ [] ∷ []) _ b h.0 c.0 i j c.2 refl c.3 h.2)

      absent_lowers : Lowers absent
      absent_lowers a b t z i j k h =
          let c = of_option a b t z k h.0 h.1 in
          subst (λ y. FlatDerives plan (lower rules absent y) y i j) (sym c.1) (None, refl, [], line_at a.rule 1 kind.Opt ((c.0 ∷ []) ∷ [] ∷ []) [] c.2 refl, refl, h.2)

      no_item_lowers : Lowers no_item
      no_item_lowers a b t z i j k h =
          let c = of_star a b t z k h.0 h.1 h.2 in
          subst (λ y. FlatDerives plan (lower rules no_item y) y i j) (sym c.1) (None, refl, [], line_at a.rule 0 kind.Star ([] ∷ (c.0 ∷ []) ∷ []) [] c.2 refl, refl, h.3)

      -- ---- repetitions

      one_lowers : (d : Tree) → Lowers d → LowersRepeated (one d)
      one_lowers d l a b f sep z i j k h =
          let c = of_repeat a b f sep z k in
          subst (λ y. FlatDerives plan (lower_repeated rules (one d) (rule_in y)) y i j) (sym c.3)
          (lower_only d l a.rule 0 kind.List ((c.0 ∷ []) ∷ next_syms a.rule c.0 c.1 ∷ []) _ c.2 f c.0 i j c.4 refl c.5 h)

      again_lowers : (ds : Repeated) (d : Tree) → LowersRepeated ds → Lowers d → LowersRepeated (again ds d)
      again_lowers ds d m l a b f sep z i j k h =
          let c = of_repeat a b f sep z k in
          let o = of_none c.2 b sep c.1 c.6 h.0 in
          let syms : slice_get ((c.0 ∷ []) ∷ next_syms a.rule c.0 c.1 ∷ []) 1 ≡ Some (sy.Rule a.rule None ∷ c.0 ∷ []) = ap (λ v. Some (next_syms a.rule c.0 v)) o in
          let y = sym_is a.rule 1 1 kind.List ((c.0 ∷ []) ∷ next_syms a.rule c.0 c.1 ∷ []) (sy.Rule a.rule None ∷ c.0 ∷ []) c.0 c.4 syms refl in
          let inner = m a b f sep z i h.1 k h.2 in
          subst (λ v. FlatDerives plan (lower_repeated rules (again ds d) (rule_in v)) v i j) (sym c.3) (
            None,
            refl,
            sy.Rule a.rule None ∷ c.0 ∷ [],
            line_at a.rule 1 kind.List ((c.0 ∷ []) ∷ next_syms a.rule c.0 c.1 ∷ []) _ c.4 syms,
            refl,
            (
              h.1,
              c.0,
              (i, sy.Rule a.rule None, refl, refl, subst (λ v. FlatDerives plan (lower_repeated rules ds (rule_in v)) v i h.1) c.3 inner),
              refl,
              subst (λ v. FlatDerives plan (lower rules d v) c.0 h.1 j) (sym y) (l _ c.2 (One f) c.0 h.1 j (X.alone _ c.2 f c.0 c.5) h.3),
            ),
          )

      again_after_lowers : (ds : Repeated) (e d : Tree) → LowersRepeated ds → Lowers e → Lowers d → LowersRepeated (again_after ds e d)
      again_after_lowers ds e d m le l a b f sep z i j k h =
          let c = of_repeat a b f sep z k in
          let o = of_some c.2 b sep c.1 c.6 h.0 h.1 in
          let syms : slice_get ((c.0 ∷ []) ∷ next_syms a.rule c.0 c.1 ∷ []) 1 ≡ Some (sy.Rule a.rule None ∷ o.0 ∷ c.0 ∷ []) = ap (λ v. Some (next_syms a.rule c.0 v)) o.1 in
          let y1 = sym_is a.rule 1 1 kind.List ((c.0 ∷ []) ∷ next_syms a.rule c.0 c.1 ∷ []) (sy.Rule a.rule None ∷ o.0 ∷ c.0 ∷ []) o.0 c.4 syms refl in
          let y2 = sym_is a.rule 1 2 kind.List ((c.0 ∷ []) ∷ next_syms a.rule c.0 c.1 ∷ []) (sy.Rule a.rule None ∷ o.0 ∷ c.0 ∷ []) c.0 c.4 syms refl in
          let inner = m a b f sep z i h.2 k h.4 in
          subst (λ v. FlatDerives plan (lower_repeated rules (again_after ds e d) (rule_in v)) v i j) (sym c.3) (
            None,
            refl,
            sy.Rule a.rule None ∷ o.0 ∷ c.0 ∷ [],
            line_at a.rule 1 kind.List ((c.0 ∷ []) ∷ next_syms a.rule c.0 c.1 ∷ []) _ c.4 syms,
            refl,
            (
              h.3,
              c.0,
              (
                h.2,
                o.0,
                (i, sy.Rule a.rule None, refl, refl, subst (λ v. FlatDerives plan (lower_repeated rules ds (rule_in v)) v i h.2) c.3 inner),
                refl,
                subst (λ v. FlatDerives plan (lower rules e v) o.0 h.2 h.3) (sym y1) (le c.2 b (One h.0) o.0 h.2 h.3 (X.alone c.2 b h.0 o.0 o.2) h.5),
              ),
              refl,
              subst (λ v. FlatDerives plan (lower rules d v) c.0 h.3 j) (sym y2) (l _ c.2 (One f) c.0 h.3 j (X.alone _ c.2 f c.0 c.5) h.6),
            ),
          )

      -- a list under its helper
      plus_lowers : (ds : Repeated) → LowersRepeated ds → (a b : Next) (f : Factor) (sep : Option Factor) (z : Sym) (i j : ℕ) → RepeatBecomes g rules a f sep z b → Repeats g s ds f sep i j → FlatDerives plan (lower rules (list ds) z) z i j
      plus_lowers ds m a b f sep z i j k h =
          let c = of_repeat a b f sep z k in
          let inner = m a b f sep z i j k h in
          subst (λ v. FlatDerives plan (lower rules (list ds) v) v i j) (sym c.3)
          (subst (λ v. FlatDerives plan (starred rules v a.rule (λ p. lower_repeated rules ds p)) (sy.Rule a.rule None) i j) (sym (kind_is g rules a.rule kind.List ((c.0 ∷ []) ∷ next_syms a.rule c.0 c.1 ∷ []) c.4))
          (subst (λ v. FlatDerives plan (lower_repeated rules ds (rule_in v)) v i j) c.3 inner))

      star_lowers : (ds : Repeated) → LowersRepeated ds → (a b : Next) (f : Factor) (sep : Option Factor) (z : Sym) (i j : ℕ) → IsStarred a f sep z b → Repeats g s ds f sep i j → FlatDerives plan (lower rules (list ds) z) z i j
      star_lowers ds m a b f sep z i j c h =
          let inner = m _ b f sep c.0 i j c.3 h in
          let y = sym_is a.rule 1 0 kind.Star ([] ∷ (c.0 ∷ []) ∷ []) (c.0 ∷ []) c.0 c.2 refl refl in
          subst (λ v. FlatDerives plan (lower rules (list ds) v) v i j) (sym c.1)
          (subst (λ v. FlatDerives plan (starred rules v a.rule (λ p. lower_repeated rules ds p)) (sy.Rule a.rule None) i j) (sym (kind_is g rules a.rule kind.Star ([] ∷ (c.0 ∷ []) ∷ []) c.2)) (
            None,
            refl,
            c.0 ∷ [],
            line_at a.rule 1 kind.Star ([] ∷ (c.0 ∷ []) ∷ []) (c.0 ∷ []) c.2 refl,
            refl,
            (i, c.0, refl, refl, subst (λ v. FlatDerives plan (lower_repeated rules ds (rule_in v)) c.0 i j) (sym y) inner),
          ))

      list_lowers : (ds : Repeated) → LowersRepeated ds → Lowers (list ds)
      list_lowers ds m a b t z i j k (f, sep, inl p, h) = plus_lowers ds m a b f sep z i j (of_plus a b t z k f sep p) h
      list_lowers ds m a b t z i j k (f, sep, inr p, h) = star_lowers ds m a b f sep z i j (of_star a b t z k f sep p) h

      mutual
        pub lowers : (d : Tree) → Lowers d
        lowers (text p q) = text_lowers p q
        lowers insertion = insertion_lowers
        lowers (node q n ds) = node_lowers q n ds (all_lower ds)
        lowers (group n ds) = group_lowers n ds (all_lower ds)
        lowers (present d) = present_lowers d (lowers d)
        lowers absent = absent_lowers
        lowers no_item = no_item_lowers
        lowers (list ds) = list_lowers ds (repeated_lower ds)

        pub all_lower : (ds : Trees) → AllLower ds
        all_lower no_tree = tt
        all_lower (and ds d) = (all_lower ds, lowers d)

        pub repeated_lower : (ds : Repeated) → LowersRepeated ds
        repeated_lower (one d) = one_lowers d (lowers d)
        repeated_lower (again ds d) = again_lowers ds d (repeated_lower ds) (lowers d)
        repeated_lower (again_after ds e d) = again_after_lowers ds e d (repeated_lower ds) (lowers e) (lowers d)

      -- a derivation of the text is derived over the numbered rules
      pub lower_derives : (d : Tree) → IsDerivation g s d → FlatDerives plan (lower rules d (sy.Rule 0 None)) (sy.Rule 0 None) 0 (length s)
      lower_derives d (n, terms, ds, e, (rule, at, (alt, at_alt, same)), h) =
          let w = rules_at g rules 0 _ _ g.rules x.walk 0 rule at in
          let f : HasFlat rules 0 kind.Named w.0 = subst (λ (y : ℕ). HasFlat rules y kind.Named w.0) (omega arith) w.3 in
          subst (λ y. FlatDerives plan (lower rules y (sy.Rule 0 None)) (sy.Rule 0 None) 0 (length s)) (sym e)
          (lower_line ds (all_lower ds) 0 n None kind.Named w.0 f w.1 w.2 rule.alts w.4 alt at_alt 0 (length s) (subst (λ ts. DerivesAll g s ds ts 0 (length s)) (sym same) h))
