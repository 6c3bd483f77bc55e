-- Bare trees: derivations without groups, options and repetitions, which stand for their parts.
-- Source: Invisible XML 1.0, "Parsing" (marks of rules and of their calls).
use Rattle.std.specs.Prelude.{ℕ, Bool, true, false, List, [], Option, Some, None, slice_get, get_or, unwrap_or, option_and_then, option_map}
use Rattle.ix_model.specs.declared.grammar.Grammar.{Grammar}
use Rattle.ix_model.specs.declared.grammar.Rule.{Rule}
use Rattle.ix_model.specs.declared.grammar.Mark.{Mark}
use Rattle.ix_model.specs.declared.grammar.Mark.TheVariants.{Element}
use Rattle.ix_model.specs.declared.grammar.TMark.{TMark}
use Rattle.ix_model.specs.declared.grammar.TMark.TheVariants.{Deleted}
use Rattle.ix_model.specs.declared.grammar.Alt.{Alt}
use Rattle.ix_model.specs.declared.grammar.Term.{Term, One, out-Term}
use Rattle.ix_model.specs.declared.grammar.Factor.{Factor, out-Factor, Insert}
use Rattle.ix_model.specs.declared.grammar.Chars.TheVariants.{Quoted}
use Rattle.ix_model.specs.declared.grammar.Factor.TheOpen.{Factor-F, Term-F}
use Rattle.ix_model.specs.Matching.Codes.{characters}
use Rattle.ix_model.specs.Derivations.Trees.{Tree, text, insertion, node, group, present, absent, no_item, list, Trees, no_tree, and, Repeated, one, again, again_after, tree_count}

mutual
  pub data Bare : Type 0 where
    -- the characters of a literal or set by their span, and whether they are shown
    bare_text : (low high : ℕ) (shown : Bool) → Bare
    -- an insertion by the characters that it gives
    bare_insertion : List ℕ → Bare
    -- a node by its name and its effective mark
    bare_node : (name : List ℕ) (mark : Mark) → Bares → Bare

  pub data Bares : Type 0 where
    none : Bares
    more : Bare → Bares → Bares

-- those of the first, then those of the second
abbrev pub join : Bares → Bares → Bares
join none bs = bs
join (more a xs) bs = more a (join xs bs)

-- ---- what a term says, one layer deep

abbrev pub FactorLayer : Type 0
FactorLayer = Factor-F Factor Term Alt

abbrev pub TermLayer : Type 0
TermLayer = Term-F Factor Term Alt

-- what stands where a term has no factor or separator; no derivation comes there
abbrev pub no_factor : Factor
no_factor = Insert (Quoted [])

abbrev pub no_term : Term
no_term = One no_factor

-- the factor that a term is, that an option holds, or that a repetition has as its item
abbrev pub factor_in : TermLayer → Factor
factor_in (Term-F.One f) = f
factor_in (Term-F.Opt f) = f
factor_in (Term-F.Star f sep) = f
factor_in (Term-F.Plus f sep) = f

-- the separator of a repetition
abbrev pub separator_in : TermLayer → Option Factor
separator_in (Term-F.One f) = None
separator_in (Term-F.Opt f) = None
separator_in (Term-F.Star f sep) = sep
separator_in (Term-F.Plus f sep) = sep

unfoldable pub factor_of : Term → Factor
factor_of t = factor_in (out-Term t)

unfoldable pub separator_of : Term → Option Factor
separator_of t = separator_in (out-Term t)

-- a terminal is shown unless its mark is `-`
abbrev pub is_shown_by : Option TMark → Bool
is_shown_by None = true
is_shown_by (Some Deleted) = false
is_shown_by (Some _) = true

abbrev pub is_shown_in : FactorLayer → Bool
is_shown_in (Factor-F.Lit tmark chars) = is_shown_by tmark
is_shown_in (Factor-F.Set tmark exclude members) = is_shown_by tmark
is_shown_in _ = true

-- the characters that an insertion gives
abbrev pub inserted_in : FactorLayer → List ℕ
inserted_in (Factor-F.Insert chars) = characters chars
inserted_in _ = []

-- the mark that a call has of its own
abbrev pub call_mark_in : FactorLayer → Option Mark
call_mark_in (Factor-F.Call mark name) = mark
call_mark_in _ = None

abbrev pub alts_in : FactorLayer → List Alt
alts_in (Factor-F.Group alts) = alts
alts_in _ = []

-- the terms of alternative a
abbrev pub terms_at : List Alt → ℕ → List Term
terms_at alts a = unwrap_or (option_map (λ (alt : Alt). alt.terms) (slice_get alts a)) []

-- the mark of the call, else that of the rule, else an element
abbrev pub effective : Option Mark → Option Mark → Mark
effective (Some mark) rule_mark = mark
effective None (Some mark) = mark
effective None None = Element

module _ (g : Grammar) where
  abbrev pub rule_alts : ℕ → List Alt
  rule_alts r = unwrap_or (option_map (λ (rule : Rule). rule.alts) (slice_get g.rules r)) []

  abbrev pub rule_name : ℕ → List ℕ
  rule_name r = unwrap_or (option_map (λ (rule : Rule). rule.name) (slice_get g.rules r)) []

  abbrev pub rule_mark : ℕ → Option Mark
  rule_mark r = option_and_then (λ (rule : Rule). rule.mark) (slice_get g.rules r)

  abbrev mutual
    -- the bare trees of a tree of the term
    pub bare : Tree → Term → Bares
    bare (text low high) t = more (bare_text low high (is_shown_in (out-Factor (factor_of t)))) none
    bare insertion t = more (bare_insertion (inserted_in (out-Factor (factor_of t)))) none
    bare (node r a ds) t = more (bare_node (rule_name r) (effective (call_mark_in (out-Factor (factor_of t))) (rule_mark r)) (bare_all ds (terms_at (rule_alts r) a))) none
    bare (group a ds) t = bare_all ds (terms_at (alts_in (out-Factor (factor_of t))) a)
    bare (present d) t = bare d (One (factor_of t))
    bare absent t = none
    bare no_item t = none
    bare (list ds) t = bare_repeated ds t

    -- the bare trees of one tree for each of the first terms
    pub bare_all : Trees → List Term → Bares
    bare_all no_tree terms = none
    bare_all (and ds d) terms = join (bare_all ds terms) (bare d (get_or terms (tree_count ds) no_term))

    -- the bare trees of the items and separators of the repetition t
    pub bare_repeated : Repeated → Term → Bares
    bare_repeated (one d) t = bare d (One (factor_of t))
    bare_repeated (again ds d) t = join (bare_repeated ds t) (bare d (One (factor_of t)))
    bare_repeated (again_after ds e d) t = join (bare_repeated ds t) (join (bare e (One (unwrap_or (separator_of t) no_factor))) (bare d (One (factor_of t))))

  -- the bare tree of a derivation of the text: a node of the first rule with the mark of that rule
  abbrev pub bare_root : Tree → Bares
  bare_root (node r a ds) = more (bare_node (rule_name r) (effective None (rule_mark r)) (bare_all ds (terms_at (rule_alts r) a))) none
  bare_root _ = none
