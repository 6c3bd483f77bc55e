-- Alternatives, terms and rules one after the other, with one more at the end.
use Rattle.std.proofs.Common.{◌≡◌, refl, sym as symm, ap, ◌∙◌, subst, ℕ, ◌+◌, ◌<◌, List, [], ◌∷◌, ◌++◌, length, map, take, drop, Some, add-zero, arith}
use Rattle.std.specs.Prelude.{slice_index_or, slice_get}
use Rattle.std.proofs.lemmas.List.{take_more, drop_more, map_push, length-append, length-take-le}
use Rattle.ix_model.specs.declared.grammar.Grammar.{Grammar}
use Rattle.ix_model.specs.declared.grammar.Alt.{Alt}
use Rattle.ix_model.specs.declared.grammar.Term.{Term}
use Rattle.ix_model.specs.declared.grammar.Rule.{Rule}
use Rattle.ix_model.specs.declared.rules.Kind.TheVariants as kind
use Rattle.ix_model.specs.declared.rules.Flat.{Flat}
use Rattle.ix_model.specs.declared.rules.Line.{Line}
use Rattle.ix_model.specs.declared.rules.Rules.{Rules}
use Rattle.ix_model.specs.declared.rules.Sym.{Sym}
use Rattle.ix_model.specs.Expansion.Expanded.{Next, line, HasFlat, TermBecomes, TermsBecome, AltsBecome, RulesBecome, no_term, and_term, no_alt, and_alt, no_rule, and_rule}
use Rattle.ix_expand.specs.declared.made.Made.{Made}
use Rattle.ix_expand.specs.Growth.{next, BeginsWith, Makes}
use Rattle.ix_expand.proofs.Growing.{makes_both}
use Rattle.ix_expand.proofs.Places.{get_last, begins_push, begins_trans}

-- ---- the element at a place, and those behind it

pub drop_item : {X : Type 0} (xs : List X) (i : ℕ) (x : X) → i < length xs → x ≡ slice_index_or xs i x → drop i xs ≡ x ∷ drop (i + 1) xs
drop_item xs i x h e = drop_more xs i x h ∙ ap (λ y. y ∷ drop (i + 1) xs) (symm e)

pub take_item : {X : Type 0} (xs : List X) (i : ℕ) (x : X) → i < length xs → x ≡ slice_index_or xs i x → take (i + 1) xs ≡ take i xs ++ x ∷ []
take_item xs i x h e = take_more xs i x h ∙ ap (λ y. take i xs ++ y ∷ []) (symm e)

-- ---- one more at the end

module _ (g : Grammar) (rules : Rules) where
  pub terms_push : (a b c : Next) (ts : List Term) (xs : List Sym) (t : Term) (x : Sym) → TermsBecome g rules a ts xs b → TermBecomes g rules b t x c → TermsBecome g rules a (ts ++ t ∷ []) (xs ++ x ∷ []) c
  terms_push _ _ c _ _ t x (no_term a) h = and_term _ _ _ _ _ _ _ h (no_term c)
  terms_push _ _ c _ _ t x (and_term a b d u us y ys k m) h = and_term _ _ _ _ _ _ _ k (terms_push b d c us ys t x m h)

  pub alts_push : (a b c : Next) (alts : List Alt) (lines : List (List Sym)) (alt : Alt) (syms : List Sym) → AltsBecome g rules a alts lines b → TermsBecome g rules b alt.terms syms c → AltsBecome g rules a (alts ++ alt ∷ []) (lines ++ syms ∷ []) c
  alts_push _ _ c _ _ alt syms (no_alt a) h = and_alt _ _ _ _ _ _ _ h (no_alt c)
  alts_push _ _ c _ _ alt syms (and_alt a b d u us ys zs k m) h = and_alt _ _ _ _ _ _ _ k (alts_push b d c us zs alt syms m h)

-- ---- one turn of a loop

module _ (g : Grammar) (a b c : Made) where
  pub terms_more : (ts : List Term) (i : ℕ) (t : Term) (xs ys : List Sym) (x : Sym) → i < length ts → t ≡ slice_index_or ts i t →
      Makes a b (λ rules y z. TermsBecome g rules y (take i ts) xs z) → Makes b c (λ rules y z. TermBecomes g rules y t x z) → ys ≡ xs ++ x ∷ [] →
      Makes a c (λ rules y z. TermsBecome g rules y (take (i + 1) ts) ys z)
  terms_more ts i t xs ys x h e m n said =
      makes_both (λ rules y z. TermsBecome g rules y (take i ts) xs z) (λ rules y z. TermBecomes g rules y t x z) (λ rules y z. TermsBecome g rules y (take (i + 1) ts) ys z) a b c
      (λ rules p q. subst (λ (us : List Term). TermsBecome g rules (next a) us ys (next c)) (symm (take_item ts i t h e))
      (subst (λ (zs : List Sym). TermsBecome g rules (next a) (take i ts ++ t ∷ []) zs (next c)) (symm said) (terms_push g rules (next a) (next b) (next c) (take i ts) xs t x p q)))
      m n

  pub alts_more : (alts : List Alt) (i : ℕ) (alt : Alt) (lines more : List Line) (syms : List Sym) → i < length alts → alt ≡ slice_index_or alts i alt →
      Makes a b (λ rules y z. AltsBecome g rules y (take i alts) (map (λ (l : Line). l.syms) lines) z) → Makes b c (λ rules y z. TermsBecome g rules y alt.terms syms z) → more ≡ lines ++ line syms ∷ [] →
      Makes a c (λ rules y z. AltsBecome g rules y (take (i + 1) alts) (map (λ (l : Line). l.syms) more) z)
  alts_more alts i alt lines more syms h e m n said =
      makes_both (λ rules y z. AltsBecome g rules y (take i alts) (map (λ (l : Line). l.syms) lines) z) (λ rules y z. TermsBecome g rules y alt.terms syms z) (λ rules y z. AltsBecome g rules y (take (i + 1) alts) (map (λ (l : Line). l.syms) more) z) a b c
      (λ rules p q. subst (λ (us : List Alt). AltsBecome g rules (next a) us (map (λ (l : Line). l.syms) more) (next c)) (symm (take_item alts i alt h e))
      (subst (λ (zs : List (List Sym)). AltsBecome g rules (next a) (take i alts ++ alt ∷ []) zs (next c)) (symm (lines_are said)) (alts_push g rules (next a) (next b) (next c) (take i alts) (map (λ (l : Line). l.syms) lines) alt syms p q)))
      m n
    where
      lines_are : more ≡ lines ++ line syms ∷ [] → map (λ (l : Line). l.syms) more ≡ map (λ (l : Line). l.syms) lines ++ syms ∷ []
      lines_are s = ap (map (λ (l : Line). l.syms)) s ∙ map_push (λ (l : Line). l.syms) lines (line syms)

-- ---- the symbols of alternatives, and the alternatives of symbols

pub lines_of_syms : (lines : List Line) → map line (map (λ (l : Line). l.syms) lines) ≡ lines
lines_of_syms [] = refl
lines_of_syms (l ∷ ls) = ap (λ (ks : List Line). l ∷ ks) (lines_of_syms ls)

-- ---- rules, one after the other

module _ (g : Grammar) (rules : Rules) where
  pub rules_push : (n k : ℕ) (a b c : Next) (written : List Rule) (rule : Rule) (lines : List (List Sym)) → RulesBecome g rules n a written b → k ≡ n + length written → HasFlat rules k kind.Named lines → AltsBecome g rules b rule.alts lines c → RulesBecome g rules n a (written ++ rule ∷ []) c
  rules_push _ k _ _ c _ rule lines (no_rule n a) e f h = and_rule n a c c rule [] lines (subst (λ (m : ℕ). HasFlat rules m kind.Named lines) (e ∙ add-zero n) f) h (no_rule (n + 1) c)
  rules_push _ k _ _ c _ rule lines (and_rule n a b d one more other f h m) e u v = and_rule n a b c one (more ++ rule ∷ []) other f h (rules_push (n + 1) k b d c more rule lines m (omega (arith, e)) u v)

module _ (g : Grammar) (a b c : Made) where
  pub rules_more : (written : List Rule) (i : ℕ) (rule : Rule) (flats more : List Flat) (lines : List Line) → i < length written → rule ≡ slice_index_or written i rule → length flats ≡ i →
      Makes a b (λ rules y z. BeginsWith rules.flats flats → RulesBecome g rules 0 y (take i written) z) → Makes b c (λ rules y z. AltsBecome g rules y rule.alts (map (λ (l : Line). l.syms) lines) z) → more ≡ flats ++ record { kind = kind.Named; lines = lines } ∷ [] →
      Makes a c (λ rules y z. BeginsWith rules.flats more → RulesBecome g rules 0 y (take (i + 1) written) z)
  rules_more written i rule flats more lines h e count m n said =
      makes_both (λ rules y z. BeginsWith rules.flats flats → RulesBecome g rules 0 y (take i written) z) (λ rules y z. AltsBecome g rules y rule.alts (map (λ (l : Line). l.syms) lines) z) (λ rules y z. BeginsWith rules.flats more → RulesBecome g rules 0 y (take (i + 1) written) z) a b c
      (λ rules p q w. both rules p q (subst (λ (fs : List Flat). BeginsWith rules.flats fs) said w)) m n
    where
      flat : Flat
      flat = record { kind = kind.Named; lines = lines }

      both : (rules : Rules) → (BeginsWith rules.flats flats → RulesBecome g rules 0 (next a) (take i written) (next b)) → AltsBecome g rules (next b) rule.alts (map (λ (l : Line). l.syms) lines) (next c) → BeginsWith rules.flats (flats ++ flat ∷ []) → RulesBecome g rules 0 (next a) (take (i + 1) written) (next c)
      both rules p q w =
          let at : slice_get rules.flats (length flats) ≡ Some flat = w.same (length flats) (omega (arith, length-append {A = Flat})) ∙ get_last flats flat in
          let has : HasFlat rules (length flats) kind.Named (map (λ (l : Line). l.syms) lines) = at ∙ ap (λ (ls : List Line). Some (record { kind = kind.Named; lines = ls })) (symm (lines_of_syms lines)) in
          let numbered : length flats ≡ 0 + length (take i written) = omega (arith, count, length-take-le i written (omega (arith, h))) in
          subst (λ (rs : List Rule). RulesBecome g rules 0 (next a) rs (next c)) (symm (take_item written i rule h e))
          (rules_push g rules 0 (length flats) (next a) (next b) (next c) (take i written) rule (map (λ (l : Line). l.syms) lines) (p (begins_trans _ _ _ (begins_push flats flat) w)) numbered has q)
