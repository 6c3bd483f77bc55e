use Rattle.std.proofs.Common.{◌≡◌, sym as symm, ap, ◌∙◌, subst, ℕ, List, [], ◌∷◌, ◌++◌, length, Option, map, take, sum, Some, None, arith}
use Rattle.std.specs.List.{AllByRecursion}
use Rattle.std.proofs.lemmas.List.{length-append, take_all}
use Rattle.std.proofs.lemmas.Result.{IfOk-weaker}
use Rattle.ix_model.specs.declared.grammar.Alt.{Alt}
use Rattle.ix_model.specs.declared.grammar.Term.{Term, Opt, Star}
use Rattle.ix_model.specs.declared.grammar.Factor.{Factor, Call, Group}
use Rattle.ix_model.specs.declared.rules.Kind.TheVariants as kind
use Rattle.ix_model.specs.declared.rules.Line.{Line}
use Rattle.ix_model.specs.declared.rules.Sym.{Sym}
use Rattle.ix_model.specs.Grammars.Factors.{factor_step, term_step, alt_step, factors_of_term, factors_of_alt, joined}
use Rattle.ix_model.specs.Grammars.Written.{IsNamed}
use Rattle.ix_model.specs.Grammars.Size.{term_size, alt_size}
use Rattle.ix_model.specs.Expansion.Expanded as X
use Rattle.ix_model.specs.Expansion.Expanded.{Next, line, next_syms, TermBecomes, RepeatBecomes, SeparatorBecomes, FactorBecomes, AltsBecome, TermsBecome}
use Rattle.ix_model.proofs.Folds.{the_folds, fold_alt}
use Rattle.ix_model.proofs.Sizes.{size_alt}
use Rattle.ix_expand.specs.Growth.{next, Makes}
use Rattle.ix_expand.specs.SlotCounts.{lines_slots}
use Rattle.ix_expand.specs.Sound.{IsSound}
use Rattle.ix_expand.proofs.Bounds.{sum_next, begun_slots, helper_slots, list_slots, lines_slots_push}
use Rattle.ix_expand.proofs.Growing.{extends_trans, makes_as, makes_both, makes_nothing, helper_becomes}
use Rattle.ix_expand.proofs.Lists.{list_becomes}
use Rattle.ix_expand.proofs.Sequences.{terms_more, alts_more, lines_of_syms}
use Rattle.ix_expand.proofs.Sounds.{all_of_star, all_of_plus, all_next, all_behind}
use Rattle.ix_expand.proofs.walk.+walk.Goals as goal

-- ---- options and repetitions

pub option_symbol-returns-clause-made : goal.option_symbol-returns-clause-made
option_symbol-returns-clause-made t c =
    let g = c.args.source.now.grammar.now in
    let f = c.args.item.now in
    let x = c.in_ok-symbol.symbol in
    helper_becomes (λ rules y z. FactorBecomes g rules y f x z) (λ s rules y z. TermBecomes g rules y (Opt f) s z) kind.Opt
    (line (x ∷ []) ∷ line [] ∷ []) _ c.args.made.now c.begin.new.self c.factor_symbol.new.made c.finish.new.self c.in_ok-option.option c.helper.result
    (λ rules y z h k. X.option y z f x h k)
    c.in_ok-option.ensures.begun c.in_ok-symbol.ensures.made c.in_ok-option.ensures.number c.finish.ensures c.in_ok-lines.ensures c.helper.ensures

pub option_symbol-returns-clause-slots : goal.option_symbol-returns-clause-slots
option_symbol-returns-clause-slots t c =
    let s = helper_slots c.args.made.now c.begin.new.self c.factor_symbol.new.made c.finish.new.self c.in_ok-option.option _ c.in_ok-option.ensures.begun c.in_ok-symbol.ensures.made.extends c.in_ok-option.ensures.number c.finish.ensures in
    omega (arith, s, begun_slots _ _ c.in_ok-option.ensures.begun, c.in_ok-symbol.ensures.slots, ap lines_slots c.in_ok-lines.ensures)

pub star_symbol-returns-clause-made : goal.star_symbol-returns-clause-made
star_symbol-returns-clause-made t c =
    let g = c.args.source.now.grammar.now in
    let f = c.args.item.now in
    let sep = c.args.sep.now in
    let x = c.in_ok-list.list in
    helper_becomes (λ rules y z. RepeatBecomes g rules y f sep x z) (λ s rules y z. TermBecomes g rules y (Star f sep) s z) kind.Star
    (line [] ∷ line (x ∷ []) ∷ []) _ c.args.made.now c.begin.new.self c.list_symbol.new.made c.finish.new.self c.in_ok-star.star c.helper.result
    (λ rules y z h k. X.star y z f sep x h k)
    c.in_ok-star.ensures.begun c.in_ok-list.ensures.made c.in_ok-star.ensures.number c.finish.ensures c.in_ok-lines.ensures c.helper.ensures

pub star_symbol-returns-clause-slots : goal.star_symbol-returns-clause-slots
star_symbol-returns-clause-slots t c =
    let s = helper_slots c.args.made.now c.begin.new.self c.list_symbol.new.made c.finish.new.self c.in_ok-star.star _ c.in_ok-star.ensures.begun c.in_ok-list.ensures.made.extends c.in_ok-star.ensures.number c.finish.ensures in
    omega (arith, s, begun_slots _ _ c.in_ok-star.ensures.begun, c.in_ok-list.ensures.slots, ap lines_slots c.in_ok-lines.ensures)

pub list_symbol-returns-clause-made : goal.list_symbol-returns-clause-made
list_symbol-returns-clause-made t c =
    let g = c.args.source.now.grammar.now in
    let f = c.args.item.now in
    let sep = c.args.sep.now in
    let x = c.in_ok-item.item in
    let s = c.in_ok-sep.sep in
    let b = c.begin.new.self in
    let m = c.factor_symbol.new.made in
    let n = c.separator_symbol.new.made in
    let number = c.in_ok-number.number in
    -- the item and then the separator
    let both : Makes b n (λ rules y z. (w : Next) × FactorBecomes g rules y f x w × SeparatorBecomes g rules w sep s z) =
    makes_both (λ rules y z. FactorBecomes g rules y f x z) (λ rules y z. SeparatorBecomes g rules y sep s z) (λ rules y z. (w : Next) × FactorBecomes g rules y f x w × SeparatorBecomes g rules w sep s z) b m n
    (λ rules h k. (next m, h, k)) c.in_ok-item.ensures.made c.in_ok-sep.ensures.made in
    list_becomes g f sep x s c.args.made.now b n c.finish.new.self number c.helper.result c.in_ok-lines.lines
    c.in_ok-number.ensures.begun both c.in_ok-number.ensures.number c.finish.ensures c.in_ok-lines.ensures c.helper.ensures

pub list_symbol-returns-clause-slots : goal.list_symbol-returns-clause-slots
list_symbol-returns-clause-slots t c =
    let x = extends_trans _ _ _ c.in_ok-item.ensures.made.extends c.in_ok-sep.ensures.made.extends in
    let s = helper_slots c.args.made.now c.begin.new.self c.separator_symbol.new.made c.finish.new.self c.in_ok-number.number _ c.in_ok-number.ensures.begun x c.in_ok-number.ensures.number c.finish.ensures in
    omega (arith, s, begun_slots _ _ c.in_ok-number.ensures.begun, c.in_ok-item.ensures.slots, c.in_ok-sep.ensures.slots, ap lines_slots c.in_ok-lines.ensures, list_slots c.in_ok-number.number c.in_ok-item.item c.in_ok-sep.sep)

pub separator_symbol-returns-in-None-clause-made : goal.separator_symbol-returns-in-None-clause-made
separator_symbol-returns-in-None-clause-made t c =
    let g = c.args.source.now.grammar.now in
    makes_nothing (λ rules y z. SeparatorBecomes g rules y c.args.sep.now None z) _
    (λ rules y. subst (λ (o : Option Factor). SeparatorBecomes g rules y o None y) (symm c.in-None.is) (X.no_separator y))

pub separator_symbol-returns-in_ok-factor_symbol-in-Some-clause-made : goal.separator_symbol-returns-in_ok-factor_symbol-in-Some-clause-made
separator_symbol-returns-in_ok-factor_symbol-in-Some-clause-made t c =
    let g = c.args.source.now.grammar.now in
    let f = c.in-Some.sep in
    let x = c.in_ok-factor_symbol-in-Some.field-0 in
    makes_as (λ rules y z. FactorBecomes g rules y f x z) (λ rules y z. SeparatorBecomes g rules y c.args.sep.now (Some x) z) _ _
    (λ rules h. subst (λ (o : Option Factor). SeparatorBecomes g rules (next c.args.made.now) o (Some x) (next c.factor_symbol.new.made)) (symm c.in-Some.is) (X.separator _ _ f x h))
    c.in_ok-factor_symbol-in-Some.ensures.made

-- ---- terms

pub term_symbol-star_symbol-requires : goal.term_symbol-star_symbol-requires
term_symbol-star_symbol-requires t c =
    let h = all_of_star (IsSound c.args.source.now.grammar.now) c.in-Star.item c.in-Star.sep (subst (λ (u : Term). AllByRecursion (IsSound c.args.source.now.grammar.now) (factors_of_term u)) c.in-Star.is c.requires.sound) in
    grind (arith, h.0, h.1, the_folds)

pub term_symbol-list_symbol-requires : goal.term_symbol-list_symbol-requires
term_symbol-list_symbol-requires t c =
    let h = all_of_plus (IsSound c.args.source.now.grammar.now) c.in-Plus.item c.in-Plus.sep (subst (λ (u : Term). AllByRecursion (IsSound c.args.source.now.grammar.now) (factors_of_term u)) c.in-Plus.is c.requires.sound) in
    grind (arith, h.0, h.1, the_folds)

pub term_symbol-returns-in-One-clause-made : goal.term_symbol-returns-in-One-clause-made
term_symbol-returns-in-One-clause-made t c =
    let g = c.args.source.now.grammar.now in
    let f = c.in-One.item in
    IfOk-weaker c.factor_symbol.result _ _ (λ x m. makes_as (λ rules y z. FactorBecomes g rules y f x z) (λ rules y z. TermBecomes g rules y c.args.term.now x z) _ _
    (λ rules h. subst (λ (u : Term). TermBecomes g rules (next c.args.made.now) u x (next c.factor_symbol.new.made)) (symm c.in-One.is) (X.alone _ _ f x h)) m) c.factor_symbol.ensures.made

pub term_symbol-returns-in-Plus-clause-made : goal.term_symbol-returns-in-Plus-clause-made
term_symbol-returns-in-Plus-clause-made t c =
    let g = c.args.source.now.grammar.now in
    let f = c.in-Plus.item in
    let sep = c.in-Plus.sep in
    IfOk-weaker c.list_symbol.result _ _ (λ x m. makes_as (λ rules y z. RepeatBecomes g rules y f sep x z) (λ rules y z. TermBecomes g rules y c.args.term.now x z) _ _
    (λ rules h. subst (λ (u : Term). TermBecomes g rules (next c.args.made.now) u x (next c.list_symbol.new.made)) (symm c.in-Plus.is) (X.plus _ _ f sep x h)) m) c.list_symbol.ensures.made

-- ---- factors

pub factor_symbol-returns-in-Lit-clause-made : goal.factor_symbol-returns-in-Lit-clause-made
factor_symbol-returns-in-Lit-clause-made t c =
    let g = c.args.source.now.grammar.now in
    IfOk-weaker c.literal.result _ _ (λ x m. subst (λ (f : Factor). Makes c.args.made.now c.literal.new.made (λ rules y z. FactorBecomes g rules y f x z)) (symm c.in-Lit.is) (m g)) c.literal.ensures.made

pub factor_symbol-returns-in-Set-clause-made : goal.factor_symbol-returns-in-Set-clause-made
factor_symbol-returns-in-Set-clause-made t c = IfOk-weaker c.set.result _ _ (λ x m. m c.args.source.now.grammar.now) c.set.ensures.made

pub factor_symbol-returns-in-Insert-clause-made : goal.factor_symbol-returns-in-Insert-clause-made
factor_symbol-returns-in-Insert-clause-made t c =
    let g = c.args.source.now.grammar.now in
    IfOk-weaker c.inserted.result _ _ (λ x m. subst (λ (f : Factor). Makes c.args.made.now c.inserted.new.made (λ rules y z. FactorBecomes g rules y f x z)) (symm c.in-Insert.is) (m g)) c.inserted.ensures.made

pub factor_symbol-returns-in-Call-clause-made : goal.factor_symbol-returns-in-Call-clause-made
factor_symbol-returns-in-Call-clause-made t c =
    let g = c.args.source.now.grammar.now in
    let (r, named, is) = c.called.ensures in
    let name : c.as_slice.result.now ≡ c.in-Call.name = c.as_slice.ensures in
    makes_nothing (λ rules y z. FactorBecomes g rules y c.args.factor.now c.called.result z) _
    (λ rules y. subst (λ (f : Factor). FactorBecomes g rules y f c.called.result y) (symm c.in-Call.is)
    (subst (λ (x : Sym). FactorBecomes g rules y (Call c.in-Call.mark c.in-Call.name) x y) (symm is) (X.called y c.in-Call.mark c.in-Call.name r (subst (λ (n : List ℕ). IsNamed g r n) name named))))

pub group_symbol-returns-clause-made : goal.group_symbol-returns-clause-made
group_symbol-returns-clause-made t c =
    let g = c.args.source.now.grammar.now in
    let alts = c.args.alts.now in
    let lines = c.in_ok-lines.lines in
    let syms : List (List Sym) = map (λ (l : Line). l.syms) lines in
    helper_becomes (λ rules y z. AltsBecome g rules y alts syms z) (λ s rules y z. FactorBecomes g rules y (Group alts) s z) kind.Group
    (map line syms) lines c.args.made.now c.begin.new.self c.alternative_lines.new.made c.finish.new.self c.in_ok-group.group c.helper.result
    (λ rules y z h k. X.grouped y z alts syms h k)
    c.in_ok-group.ensures.begun c.in_ok-lines.ensures.made c.in_ok-group.ensures.number c.finish.ensures (symm (lines_of_syms lines)) c.helper.ensures

pub group_symbol-returns-clause-slots : goal.group_symbol-returns-clause-slots
group_symbol-returns-clause-slots t c =
    let s = helper_slots c.args.made.now c.begin.new.self c.alternative_lines.new.made c.finish.new.self c.in_ok-group.group _ c.in_ok-group.ensures.begun c.in_ok-lines.ensures.made.extends c.in_ok-group.ensures.number c.finish.ensures in
    omega (arith, s, begun_slots _ _ c.in_ok-group.ensures.begun, c.in_ok-lines.ensures.slots)

-- ---- alternatives, one after the other

pub alternative_lines-loop-alt-init : goal.alternative_lines-loop-alt-init
alternative_lines-loop-alt-init t c = record {
  made = makes_nothing _ _ (λ rules y. subst (λ (ls : List Line). AltsBecome c.args.source.now.grammar.now rules y [] (map (λ (l : Line). l.syms) ls) y) (symm c.new-lines.ensures) (X.no_alt y));
  sound = subst (λ (alts : List Alt). AllByRecursion (IsSound c.args.source.now.grammar.now) (joined (map factors_of_alt alts))) (symm c.as_slice-alt-items.ensures) c.requires.sound;
  left = omega arith;
  numbers = omega arith;
  slots = omega (arith, ap lines_slots c.new-lines.ensures);
}

pub alternative_lines-alternative_symbols-requires : goal.alternative_lines-alternative_symbols-requires
alternative_lines-alternative_symbols-requires t c =
    let items = c.as_slice-alt-items.result.now in
    let s = sum_next alt_size items c.loop-alt.alt-index c.alt-item.result c.loop-alt-test.true c.alt-item.is in
    let e = ap (λ (alts : List Alt). sum (map alt_size alts)) c.as_slice-alt-items.ensures in (
      omega (arith, s, e),
      (
        all_next (IsSound c.args.source.now.grammar.now) factors_of_alt items c.loop-alt.alt-index c.alt-item.result c.loop-alt-test.true c.alt-item.is c.loop-alt.invariant.sound,
        omega (arith, s, e),
      ),
    )

pub alternative_lines-loop-alt-preserved : goal.alternative_lines-loop-alt-preserved
alternative_lines-loop-alt-preserved t c =
    let g = c.args.source.now.grammar.now in
    let items = c.as_slice-alt-items.result.now in
    let at = c.loop-alt.alt-index in
    let alt = c.alt-item.result in
    let s = sum_next alt_size items at alt c.loop-alt-test.true c.alt-item.is in
    let more : c.push.new.self ≡ c.loop-alt.lines ++ line c.in_ok-alternative_symbols.field-0 ∷ [] = c.in_ok-push.ensures.ok in
    record {
      made = alts_more g c.args.made.now c.loop-alt.made c.alternative_symbols.new.made items at alt c.loop-alt.lines c.push.new.self c.in_ok-alternative_symbols.field-0 c.loop-alt-test.true c.alt-item.is c.loop-alt.invariant.made c.in_ok-alternative_symbols.ensures.made more;
      sound = all_behind (IsSound g) factors_of_alt items at alt c.loop-alt-test.true c.alt-item.is c.loop-alt.invariant.sound;
      left = omega (arith, s);
      numbers = omega (arith, s, c.in_ok-alternative_symbols.ensures.numbers);
      slots = omega (arith, s, c.in_ok-alternative_symbols.ensures.slots, lines_slots_push _ _ _ more);
    }

pub alternative_lines-returns-clause-made : goal.alternative_lines-returns-clause-made
alternative_lines-returns-clause-made t c =
    let g = c.args.source.now.grammar.now in
    let lines = c.loop-alt.lines in
    let all : take c.loop-alt.alt-index c.as_slice-alt-items.result.now ≡ c.args.alts.now = take_all _ _ c.loop-alt-test.false ∙ c.as_slice-alt-items.ensures in
    subst (λ (alts : List Alt). Makes c.args.made.now c.loop-alt.made (λ rules a b. AltsBecome g rules a alts (map (λ (l : Line). l.syms) lines) b)) all c.loop-alt.invariant.made

-- ---- terms, one after the other

pub alternative_symbols-loop-term-init : goal.alternative_symbols-loop-term-init
alternative_symbols-loop-term-init t c =
    let g = c.args.source.now.grammar.now in
    let of_alt = fold_alt (List Factor) (List Factor) (List Factor) factor_step term_step alt_step c.args.alt.now in
    record {
      made = makes_nothing _ _ (λ rules y. subst (λ (xs : List Sym). TermsBecome g rules y [] xs y) (symm c.new-syms.ensures) (X.no_term y));
      sound = subst (λ (ts : List Term). AllByRecursion (IsSound g) (joined (map factors_of_term ts))) (symm c.as_slice-term-items.ensures) (subst (AllByRecursion (IsSound g)) of_alt c.requires.sound);
      left = omega arith;
      numbers = omega arith;
      slots = omega (arith, ap (λ (xs : List Sym). length xs) c.new-syms.ensures);
    }

pub alternative_symbols-term_symbol-requires : goal.alternative_symbols-term_symbol-requires
alternative_symbols-term_symbol-requires t c =
    let items = c.as_slice-term-items.result.now in
    let s = sum_next term_size items c.loop-term.term-index c.term-item.result c.loop-term-test.true c.term-item.is in
    let e = ap (λ (terms : List Term). sum (map term_size terms)) c.as_slice-term-items.ensures in
    let a = size_alt c.args.alt.now in (
      omega (arith, s, e, a),
      (
        all_next (IsSound c.args.source.now.grammar.now) factors_of_term items c.loop-term.term-index c.term-item.result c.loop-term-test.true c.term-item.is c.loop-term.invariant.sound,
        omega (arith, s, e, a),
      ),
    )

pub alternative_symbols-loop-term-preserved : goal.alternative_symbols-loop-term-preserved
alternative_symbols-loop-term-preserved t c =
    let g = c.args.source.now.grammar.now in
    let items = c.as_slice-term-items.result.now in
    let at = c.loop-term.term-index in
    let term = c.term-item.result in
    let s = sum_next term_size items at term c.loop-term-test.true c.term-item.is in
    let more : c.push.new.self ≡ c.loop-term.syms ++ c.in_ok-term_symbol.field-0 ∷ [] = c.in_ok-push.ensures.ok in
    record {
      made = terms_more g c.args.made.now c.loop-term.made c.term_symbol.new.made items at term c.loop-term.syms c.push.new.self c.in_ok-term_symbol.field-0 c.loop-term-test.true c.term-item.is c.loop-term.invariant.made c.in_ok-term_symbol.ensures.made more;
      sound = all_behind (IsSound g) factors_of_term items at term c.loop-term-test.true c.term-item.is c.loop-term.invariant.sound;
      left = omega (arith, s);
      numbers = omega (arith, s, c.in_ok-term_symbol.ensures.numbers);
      slots = omega (arith, s, c.in_ok-term_symbol.ensures.slots, ap (λ (xs : List Sym). length xs) more, length-append {A = Sym});
    }

pub alternative_symbols-returns-clause-made : goal.alternative_symbols-returns-clause-made
alternative_symbols-returns-clause-made t c =
    let g = c.args.source.now.grammar.now in
    let all : take c.loop-term.term-index c.as_slice-term-items.result.now ≡ c.args.alt.now.terms = take_all _ _ c.loop-term-test.false ∙ c.as_slice-term-items.ensures in
    subst (λ (ts : List Term). Makes c.args.made.now c.loop-term.made (λ rules a b. TermsBecome g rules a ts c.loop-term.syms b)) all c.loop-term.invariant.made
