-- What the items of a repetition become, with their separator.
use Rattle.std.proofs.Common.{◌≡◌, sym as symm, ap, ◌∙◌, subst, ℕ, ◌+◌, List, [], ◌∷◌, length, Option, None}
use Rattle.ix_model.specs.declared.grammar.Grammar.{Grammar}
use Rattle.ix_model.specs.declared.grammar.Factor.{Factor}
use Rattle.ix_model.specs.declared.rules.Kind.TheVariants as kind
use Rattle.ix_model.specs.declared.rules.Line.{Line}
use Rattle.ix_model.specs.declared.rules.Sym.{Sym}
use Rattle.ix_model.specs.declared.rules.Sym.TheVariants as sym
use Rattle.ix_model.specs.Expansion.Expanded as X
use Rattle.ix_model.specs.Expansion.Expanded.{Next, line, next_syms, FactorBecomes, SeparatorBecomes, RepeatBecomes}
use Rattle.ix_expand.specs.declared.made.Made.{Made}
use Rattle.ix_expand.specs.Growth.{next, begun, finished, Makes}
use Rattle.ix_expand.proofs.Growing.{Claim, NewHelper, makes_as, helper_made}

module _ (g : Grammar) (f : Factor) (sep : Option Factor) (x : Sym) (s : Option Sym) where
  -- the item and then the separator
  abbrev pub Parts : Claim
  Parts rules y z = (w : Next) × FactorBecomes g rules y f x w × SeparatorBecomes g rules w sep s z

  pub list_becomes : (a b c d : Made) (number : ℕ) (symbol : Sym) (lines : List Line) →
      b ≡ begun a → Makes b c Parts → number ≡ a.first + length a.flats → d ≡ finished c number (record { kind = kind.List; lines = lines }) →
      lines ≡ line (x ∷ []) ∷ line (next_syms number x s) ∷ [] → symbol ≡ sym.Rule number None →
      Makes a d (λ rules y z. RepeatBecomes g rules y f sep symbol z)
  list_becomes a b c d number symbol lines begins made numbered ends said helps =
      let n : ℕ = a.first + length a.flats in
      let two : List Line = line (x ∷ []) ∷ line (next_syms n x s) ∷ [] in
      let l : lines ≡ two = said ∙ ap (λ (k : ℕ). line (x ∷ []) ∷ line (next_syms k x s) ∷ []) numbered in
      let e : d ≡ finished c number (record { kind = kind.List; lines = two }) = ends ∙ ap (λ (ls : List Line). finished c number (record { kind = kind.List; lines = ls })) l in
      let h : sym.Rule n None ≡ symbol = ap (λ (k : ℕ). sym.Rule k None) (symm numbered) ∙ symm helps in
      subst (λ (y : Sym). Makes a d (λ rules p q. RepeatBecomes g rules p f sep y q)) h
      (makes_as (NewHelper (record { kind = kind.List; lines = two }) Parts) (λ rules p q. RepeatBecomes g rules p f sep (sym.Rule n None) q) a d
      (λ rules k. X.repeated (next a) k.1.0 (next d) f sep x s k.0 k.1.1 k.1.2)
      (helper_made Parts a b c d number (record { kind = kind.List; lines = two }) begins made numbered e))
