-- The numbered rules of small grammars, for the worked examples.
use Rattle.std.proofs.Common.{◌≡◌, refl, sym, ap, ◌∙◌, ℕ, [], ◌∷◌, Option, Some, None, arith, slice_get}
use Rattle.std.specs.Prelude as S
use Rattle.ix_model.specs.declared.grammar.Term.{Term, One}
use Rattle.ix_model.specs.declared.grammar.Factor.{Insert}
use Rattle.ix_model.specs.declared.grammar.Chars.TheVariants.{Quoted}
use Rattle.ix_model.specs.declared.rules.Kind.TheVariants as kind
use Rattle.ix_model.specs.declared.rules.Sym.{Sym}
use Rattle.ix_model.specs.declared.rules.Sym.TheVariants as sy
use Rattle.ix_model.specs.declared.rules.Rules.{Rules}
use Rattle.ix_model.specs.Expansion.Numbered.{kind_at, syms_at, sym_at}
use Rattle.ix_model.specs.Expansion.Expanded as X
use Rattle.ix_model.specs.Expansion.Expanded.{Next, line, TermBecomes, Expanded}
use Rattle.ix_examples.specs.SmallGrammars.{literal, quoted, inserted, only_a, of_term, a_or_b, alternative, rule}
use Rattle.ix_examples.specs.SmallRules.{shown, helper, a_rules, a_plan, insert_rules, a_option, option_rules, group_rules, a_list, list_rules, never_empty}
use Rattle.ix_model.specs.Expansion.Planned.{IsPlanOf}
use Rattle.ix_examples.proofs.Inversions.{only_rule}
use Rattle.ix_examples.proofs.SmallTexts.{first}
use Rattle.ix_expansion_laws.proofs.Lifting.{kind_is, rules_at}
use Rattle.ix_expansion_laws.proofs.Lowering.{to_alt, to_term, sym_is, of_one, of_literal, of_insert, of_option, of_star, of_group}
use Rattle.ix_model.proofs.Readers.{syms_is}

-- ---- what the rules of a grammar of one term are

-- the first symbol of the first rule is what the term becomes
pub record Becomes (t : Term) (rules : Rules) : Type 0 where
  pub symbol : Sym
  pub start : Next
  pub end : Next
  pub at : sym_at rules 0 0 0 ≡ symbol
  pub becomes : TermBecomes (of_term t) rules start t symbol end

of_only : (t : Term) (rules : Rules) → Expanded (of_term t) rules → Becomes t rules
of_only t rules e =
    let w = rules_at (of_term t) rules 0 _ _ _ e.walk 0 (rule (S.codes "S") (alternative (t ∷ []) ∷ [])) refl in
    let alt = to_alt (of_term t) rules w.1 w.2 _ w.0 w.4 0 (alternative (t ∷ [])) refl in
    let term = to_term (of_term t) rules alt.1 alt.2 (t ∷ []) alt.0 alt.4 0 t refl in
    record { symbol = term.0; start = term.1; end = term.2; at = sym_is (of_term t) rules 0 0 0 kind.Named w.0 alt.0 term.0 w.3 alt.3 term.3; becomes = term.4 }

same_rule : (r q : ℕ) (m n : Option Rattle.ix_model.specs.declared.grammar.Mark.Mark) → sy.Rule r m ≡ sy.Rule q n → r ≡ q
same_rule r q m n e = cc e

-- ---- what is the expansion

pub expands_a : Expanded only_a a_rules
expands_a = record {
  end = record { rule = 1; terminal = 1; insert = 0 };
  names = refl;
  marks = refl;
  walk = X.and_rule _ _ _ _ _ _ ((shown 0 ∷ []) ∷ []) refl (X.and_alt _ _ _ _ _ _ _ (X.and_term _ _ _ _ _ _ _ (X.alone _ _ _ _ (X.literal _ _ _ refl)) (X.no_term _)) (X.no_alt _)) (X.no_rule _ _);
  rule_count = refl;
  terminal_count = refl;
  insert_count = refl;
}

pub expands_option : Expanded (of_term a_option) option_rules
expands_option = record {
  end = record { rule = 2; terminal = 1; insert = 0 };
  names = refl;
  marks = refl;
  walk = X.and_rule _ _ _ _ _ _ ((helper 1 ∷ []) ∷ []) refl (X.and_alt _ _ _ _ _ _ _ (X.and_term _ _ _ _ _ _ _ (X.option _ _ _ (shown 0) refl (X.literal _ _ _ refl)) (X.no_term _)) (X.no_alt _)) (X.no_rule _ _);
  rule_count = refl;
  terminal_count = refl;
  insert_count = refl;
}

pub expands_group : Expanded (of_term (One a_or_b)) group_rules
expands_group = record {
  end = record { rule = 2; terminal = 2; insert = 0 };
  names = refl;
  marks = refl;
  walk = X.and_rule _ _ _ _ _ _ ((helper 1 ∷ []) ∷ []) refl
      (X.and_alt _ _ _ _ _ _ _ (X.and_term _ _ _ _ _ _ _ (X.alone _ _ _ _ (X.grouped _ _ _ ((shown 0 ∷ []) ∷ (shown 1 ∷ []) ∷ []) refl
      (X.and_alt _ _ _ _ _ _ _ (X.and_term _ _ _ _ _ _ _ (X.alone _ _ _ _ (X.literal _ _ _ refl)) (X.no_term _))
      (X.and_alt _ _ _ _ _ _ _ (X.and_term _ _ _ _ _ _ _ (X.alone _ _ _ _ (X.literal _ _ _ refl)) (X.no_term _)) (X.no_alt _))))) (X.no_term _)) (X.no_alt _))
      (X.no_rule _ _);
  rule_count = refl;
  terminal_count = refl;
  insert_count = refl;
}

pub expands_list : Expanded (of_term a_list) list_rules
expands_list = record {
  end = record { rule = 3; terminal = 2; insert = 0 };
  names = refl;
  marks = refl;
  walk = X.and_rule _ _ _ _ _ _ ((helper 1 ∷ []) ∷ []) refl
      (X.and_alt _ _ _ _ _ _ _ (X.and_term _ _ _ _ _ _ _ (X.star _ _ _ _ (helper 2) refl
      (X.repeated _ _ _ _ _ (shown 0) (Some (shown 1)) refl (X.literal _ _ _ refl) (X.separator _ _ _ _ (X.literal _ _ _ refl)))) (X.no_term _)) (X.no_alt _))
      (X.no_rule _ _);
  rule_count = refl;
  terminal_count = refl;
  insert_count = refl;
}

pub expands_insertion : Expanded (of_term (inserted (S.codes "x"))) insert_rules
expands_insertion = record {
  end = record { rule = 1; terminal = 0; insert = 1 };
  names = refl;
  marks = refl;
  walk = X.and_rule _ _ _ _ _ _ ((sy.Insert 0 ∷ []) ∷ []) refl (X.and_alt _ _ _ _ _ _ _ (X.and_term _ _ _ _ _ _ _ (X.alone _ _ _ _ (X.inserted _ _ refl)) (X.no_term _)) (X.no_alt _)) (X.no_rule _ _);
  rule_count = refl;
  terminal_count = refl;
  insert_count = refl;
}

-- a plan of S: "a".
pub plan_of_a : IsPlanOf only_a (a_plan (S.codes "a"))
plan_of_a = record {
  text = (refl, tt);
  unique = λ r q name h k. only_rule _ r name h ∙ sym (only_rule _ q name k);
  first = omega arith;
  expanded = expands_a;
}

-- ---- what is not

pub option_has_helper : Expanded (of_term a_option) a_rules → ⊥
option_has_helper e =
    let b = of_only a_option a_rules e in
    let o = of_option (of_term a_option) a_rules b.start b.end a_option b.symbol b.becomes (literal (S.codes "a")) refl in
    cc (b.at, o.1)

pub insertion_of_y : Expanded (of_term (inserted (S.codes "y"))) insert_rules → ⊥
insertion_of_y e =
    let t = inserted (S.codes "y") in
    let b = of_only t insert_rules e in
    let f = of_one (of_term t) insert_rules b.start b.end t b.symbol b.becomes (Insert (Quoted (S.codes "y"))) refl in
    let o = of_insert (of_term t) insert_rules b.start b.end (Insert (Quoted (S.codes "y"))) b.symbol f (Quoted (S.codes "y")) refl in
    let n : sy.Insert 0 ≡ sy.Insert b.start.insert = b.at ∙ o.0 in
    let r : 0 ≡ b.start.insert = cc n in
    let q : Some (S.codes "x") ≡ Some (S.codes "y") = ap (slice_get (S.codes "x" ∷ [])) r ∙ o.1 in
    let w : S.codes "x" ≡ S.codes "y" = cc q in
    omega (arith, ap first w)

pub literal_has_no_helper : Expanded only_a option_rules → ⊥
literal_has_no_helper e =
    let b = of_only (quoted (S.codes "a")) option_rules e in
    let f = of_one only_a option_rules b.start b.end (quoted (S.codes "a")) b.symbol b.becomes (literal (S.codes "a")) refl in
    let l = of_literal only_a option_rules b.start b.end (literal (S.codes "a")) b.symbol f None (Quoted (S.codes "a")) refl in
    cc (b.at, l.0)

pub option_is_no_group : Expanded (of_term a_option) group_rules → ⊥
option_is_no_group e =
    let b = of_only a_option group_rules e in
    let o = of_option (of_term a_option) group_rules b.start b.end a_option b.symbol b.becomes (literal (S.codes "a")) refl in
    let r : 1 ≡ b.start.rule = same_rule 1 b.start.rule None None (b.at ∙ o.1) in
    let k : kind.Group ≡ kind.Opt = ap (kind_at group_rules) r ∙ kind_is (of_term a_option) group_rules b.start.rule kind.Opt ((o.0 ∷ []) ∷ [] ∷ []) o.2 in
    cc k

pub group_is_no_option : Expanded (of_term (One a_or_b)) option_rules → ⊥
group_is_no_option e =
    let b = of_only (One a_or_b) option_rules e in
    let f = of_one (of_term (One a_or_b)) option_rules b.start b.end (One a_or_b) b.symbol b.becomes a_or_b refl in
    let o = of_group (of_term (One a_or_b)) option_rules b.start b.end a_or_b b.symbol f _ refl in
    let r : 1 ≡ b.start.rule = same_rule 1 b.start.rule None None (b.at ∙ o.1) in
    let k : kind.Opt ≡ kind.Group = ap (kind_at option_rules) r ∙ kind_is (of_term (One a_or_b)) option_rules b.start.rule kind.Group o.0 o.2 in
    cc k

pub star_may_be_empty : Expanded (of_term a_list) never_empty → ⊥
star_may_be_empty e =
    let b = of_only a_list never_empty e in
    let o = of_star (of_term a_list) never_empty b.start b.end a_list b.symbol b.becomes (literal (S.codes "a")) (Some (literal (S.codes ","))) refl in
    let r : 1 ≡ b.start.rule = same_rule 1 b.start.rule None None (b.at ∙ o.1) in
    let k : helper 2 ∷ [] ≡ [] = ap (λ (n : ℕ). syms_at never_empty n 0) r ∙ syms_is never_empty b.start.rule 0 (record { kind = kind.Star; lines = line [] ∷ line (o.0 ∷ []) ∷ [] }) (line []) o.2 refl in
    cc k
