-- What characters spell has a rule, and its numbers are written in hexadecimal digits.
use Rattle.std.proofs.Common.{sym, subst, ℕ, ◌<◌, List, [], ◌∷◌, ◌++◌, length, map, Some, None, arith}
use Rattle.std.specs.Prelude.{Bool}
use Rattle.std.specs.List.{AllByRecursion, flat_map}
use Rattle.ix_model.specs.declared.grammar.Grammar.{Grammar}
use Rattle.ix_model.specs.declared.grammar.Rule.{Rule}
use Rattle.ix_model.specs.declared.grammar.Chars.{Chars}
use Rattle.ix_model.specs.declared.grammar.Member.{Member}
use Rattle.ix_model.specs.declared.grammar.Bound.{Bound}
use Rattle.ix_model.specs.declared.grammar.Alt.{Alt}
use Rattle.ix_model.specs.declared.grammar.Term.{Term}
use Rattle.ix_model.specs.declared.grammar.Factor.{Factor, Group}
use Rattle.ix_model.specs.Spelling.Spells as Sp
use Rattle.ix_model.specs.Spelling.Spells.{IsHex, CharsAt, BoundAt, MemberAt, MembersAt, SetAt, AltsAt, AltAt, TermsAt, TermAt, FactorAt, RuleAt, RulesAt, Spells}
use Rattle.ix_model.specs.Grammars.Factors.{joined, factor_step, term_step, alt_step, factors_of_factor, factors_of_term, factors_of_alt, codes_of_chars, codes_of_bound, codes_of_member, codes_of_factor, codes_of}
use Rattle.ix_model.proofs.AllOf.{all_append, all_flat}
use Rattle.ix_model.proofs.Folds.{fold_lit, fold_set, fold_call, fold_insert, fold_group, fold_one, fold_opt, fold_star, fold_plus, fold_alt}

-- ---- lists of which something holds of each

all_map : {X A : Type 0} (P : A → Type 0) (image : X → A) (xs : List X) → AllByRecursion (λ x. P (image x)) xs → AllByRecursion P (map image xs)
all_map P image [] h = tt
all_map P image (x ∷ xs) h = (h.0, all_map P image xs h.1)

-- ---- what stands in a factor

chars_hex : (b r : List ℕ) (cs : Chars) → CharsAt b r cs → AllByRecursion IsHex (codes_of_chars cs)
chars_hex b r cs (Sp.by_string _ c _ xs h s) = tt
chars_hex b r cs (Sp.by_number _ c _ ds h s) = (h.1, tt)

bound_hex : (b r : List ℕ) (x : Bound) → BoundAt b r x → AllByRecursion IsHex (codes_of_bound x)
bound_hex b r x (Sp.one_character y _ _ h) = tt
bound_hex b r x (Sp.one_number _ _ ds h) = (h.1, tt)

member_hex : (b r : List ℕ) (m : Member) → MemberAt b r m → AllByRecursion IsHex (codes_of_member m)
member_hex b r m (Sp.string_member _ _ xs h) = tt
member_hex b r m (Sp.number_member _ _ ds h) = (h.1, tt)
member_hex b r m (Sp.range_member _ c d e f _ low high h s t u k) = all_append IsHex (codes_of_bound low) (codes_of_bound high) (bound_hex b c low h) (bound_hex f r high k)
member_hex b r m (Sp.class_member _ _ name h k) = tt

members_hex : (b r : List ℕ) (ms : List Member) → MembersAt b r ms → AllByRecursion IsHex (flat_map codes_of_member ms)
members_hex b r ms (Sp.last_member _ c _ m h s) = all_append IsHex (codes_of_member m) [] (member_hex b c m h) tt
members_hex b r ms (Sp.more_members _ c d e f _ m more h s t u k) = all_append IsHex (codes_of_member m) (flat_map codes_of_member more) (member_hex b c m h) (members_hex f r more k)

set_hex : (b r : List ℕ) (exclude : Bool) (ms : List Member) → SetAt b r exclude ms → AllByRecursion IsHex (flat_map codes_of_member ms)
set_hex b r exclude ms (Sp.empty_set _ c d _ t s u) = tt
set_hex b r exclude ms (Sp.members _ c d e _ _ t s h u) = members_hex d e ms h
set_hex b r exclude ms (Sp.excluded _ c d _ _ t s (Sp.empty_set _ _ _ _ _ _ _)) = tt
set_hex b r exclude ms (Sp.excluded _ c d _ _ t s (Sp.members _ _ e f _ _ _ _ h _)) = members_hex e f ms h

-- ---- what stands in alternatives

abbrev FactorHex : Factor → Type 0
FactorHex f = AllByRecursion IsHex (codes_of_factor f)

abbrev AllHex : List Factor → Type 0
AllHex fs = AllByRecursion FactorHex fs

abbrev Fs : Type 0
Fs = List Factor

of_joined : (fss : List Fs) → AllByRecursion AllHex fss → AllHex (joined fss)
of_joined fss h = all_flat FactorHex (λ fs. fs) fss h

of_group : (al : List Alt) → AllByRecursion (λ a. AllHex (factors_of_alt a)) al → AllHex (factors_of_factor (Group al))
of_group al h = subst AllHex (sym (fold_group Fs Fs Fs factor_step term_step alt_step al)) (of_joined (map factors_of_alt al) (all_map AllHex factors_of_alt al h))

of_terms : (a : Alt) → AllByRecursion (λ t. AllHex (factors_of_term t)) a.terms → AllHex (factors_of_alt a)
of_terms a h = subst AllHex (sym (fold_alt Fs Fs Fs factor_step term_step alt_step a)) (of_joined (map factors_of_term a.terms) (all_map AllHex factors_of_term a.terms h))

of_pair : (f s : Factor) → AllHex (factors_of_factor f) → AllHex (factors_of_factor s) → AllHex (factors_of_factor f ++ factors_of_factor s)
of_pair f s h k = all_append FactorHex (factors_of_factor f) (factors_of_factor s) h k

of_alone : (f : Factor) → AllHex (factors_of_factor f) → AllHex (factors_of_factor f ++ [])
of_alone f h = all_append FactorHex (factors_of_factor f) [] h tt

mutual
  alts_hex : (b r : List ℕ) (al : List Alt) → AltsAt b r al → AllByRecursion (λ a. AllHex (factors_of_alt a)) al
  alts_hex b r al (Sp.last_alt _ _ a h) = (of_terms a (alt_hex b r a.terms h), tt)
  alts_hex b r al (Sp.more_alts _ c d e _ a rest h t s k) = (of_terms a (alt_hex b c a.terms h), alts_hex e r rest k)

  alt_hex : (b r : List ℕ) (ts : List Term) → AltAt b r ts → AllByRecursion (λ t. AllHex (factors_of_term t)) ts
  alt_hex b r ts (Sp.empty_alt _) = tt
  alt_hex b r ts (Sp.some_terms _ _ t us h) = terms_hex b r t us h

  terms_hex : (b r : List ℕ) (t : Term) (us : List Term) → TermsAt b r t us → AllHex (factors_of_term t) × AllByRecursion (λ u. AllHex (factors_of_term u)) us
  terms_hex b r t us (Sp.last_term _ _ _ h) = (term_hex b r t h, tt)
  terms_hex b r t us (Sp.more_terms _ c d e _ _ u more h k s m) = (term_hex b c t h, terms_hex e r u more m)

  term_hex : (b r : List ℕ) (t : Term) → TermAt b r t → AllHex (factors_of_term t)
  term_hex b r t (Sp.alone _ _ f h) = subst AllHex (sym (fold_one Fs Fs Fs factor_step term_step alt_step f)) (factor_hex b r f h)
  term_hex b r t (Sp.option _ c d _ f h k s) = subst AllHex (sym (fold_opt Fs Fs Fs factor_step term_step alt_step f)) (factor_hex b c f h)
  term_hex b r t (Sp.star _ c d _ f h k s) = subst AllHex (sym (fold_star Fs Fs Fs factor_step term_step alt_step f None)) (of_alone f (factor_hex b c f h))
  term_hex b r t (Sp.star_by _ c d e _ f s h k u m) = subst AllHex (sym (fold_star Fs Fs Fs factor_step term_step alt_step f (Some s))) (of_pair f s (factor_hex b c f h) (factor_hex e r s m))
  term_hex b r t (Sp.plus _ c d _ f h k s) = subst AllHex (sym (fold_plus Fs Fs Fs factor_step term_step alt_step f None)) (of_alone f (factor_hex b c f h))
  term_hex b r t (Sp.plus_by _ c d e _ f s h k u m) = subst AllHex (sym (fold_plus Fs Fs Fs factor_step term_step alt_step f (Some s))) (of_pair f s (factor_hex b c f h) (factor_hex e r s m))

  factor_hex : (b r : List ℕ) (f : Factor) → FactorAt b r f → AllHex (factors_of_factor f)
  factor_hex b r f (Sp.literal _ c _ m cs t h) = subst AllHex (sym (fold_lit Fs Fs Fs factor_step term_step alt_step m cs)) (chars_hex c r cs h, tt)
  factor_hex b r f (Sp.set _ c d _ m exclude ms t h s) = subst AllHex (sym (fold_set Fs Fs Fs factor_step term_step alt_step m exclude ms)) (set_hex c d exclude ms h, tt)
  factor_hex b r f (Sp.called _ c d _ m name t h s) = subst AllHex (sym (fold_call Fs Fs Fs factor_step term_step alt_step m name)) (tt, tt)
  factor_hex b r f (Sp.inserted _ c d _ cs t s h) = subst AllHex (sym (fold_insert Fs Fs Fs factor_step term_step alt_step cs)) (chars_hex d r cs h, tt)
  factor_hex b r f (Sp.grouped _ c d e g _ al t s h u k) = of_group al (alts_hex d e al h)

-- ---- rules

abbrev of_rule : Rule → List Factor
of_rule rule = flat_map factors_of_alt rule.alts

rule_hex : (b r : List ℕ) (rule : Rule) → RuleAt b r rule → AllHex (of_rule rule)
rule_hex b r rule (Sp.a_rule _ c d e f h i _ _ m n s t u k l) = all_flat FactorHex factors_of_alt rule.alts (alts_hex h i rule.alts k)

rules_hex : (b r : List ℕ) (rules : List Rule) → RulesAt b r rules → (0 < length rules) × AllByRecursion (λ rule. AllHex (of_rule rule)) rules
rules_hex b r rules (Sp.last_rule _ _ rule h) = (omega arith, (rule_hex b r rule h, tt))
rules_hex b r rules (Sp.more_rules _ c d _ rule rest h s k) = (omega arith, (rule_hex b c rule h, (rules_hex d r rest k).1))

pub spelled_hex : (c : List ℕ) (g : Grammar) → Spells c g → (0 < length g.rules) × AllByRecursion IsHex (codes_of g)
spelled_hex c g (Sp.spells _ b d e _ s p h u) =
    let (some, all) = rules_hex d e g.rules h in
    (some, all_flat IsHex codes_of_factor (flat_map of_rule g.rules) (all_flat FactorHex of_rule g.rules all))
