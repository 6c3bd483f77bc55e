-- What a fold of the grammar gives at each form of factor and term.
use Rattle.std.proofs.Common.{◌≡◌, ap, sym, ◌∙◌, ℕ, List, Option, Some, None, map}
use Rattle.std.specs.Prelude.{Bool, option_map}
use Rattle.ix_model.specs.declared.grammar.Mark.{Mark}
use Rattle.ix_model.specs.declared.grammar.TMark.{TMark}
use Rattle.ix_model.specs.declared.grammar.Chars.{Chars}
use Rattle.ix_model.specs.declared.grammar.Member.{Member}
use Rattle.ix_model.specs.declared.grammar.Alt.{Alt}
use Rattle.ix_model.specs.declared.grammar.Term.{One, Opt, Star, Plus}
use Rattle.ix_model.specs.declared.grammar.Term.TheVariants as tv
use Rattle.ix_model.specs.declared.grammar.Factor.{Factor, Lit, Set, Call, Insert, Group}
use Rattle.ix_model.specs.declared.grammar.Factor.TheVariants as fv
use Rattle.ix_model.specs.declared.grammar.Factor.TheFolds as F
use Rattle.ix_model.specs.declared.grammar.Factor.TheFolds.{fold-Factor, fold-Term, fold-Alt}
use Rattle.ix_model.specs.declared.grammar.Factor.TheOpen.{Factor-F, Term-F, Alt-F}

module _ (A B C : Type 0) (f : Factor-F A B C → A) (t : Term-F A B C → B) (a : Alt-F A B C → C) where
  pub fold_lit : (m : Option TMark) (cs : Chars) → fold-Factor A B C f t a (Lit m cs) ≡ f (Factor-F.Lit m cs)
  fold_lit m cs = ap (fold-Factor A B C f t a) (sym (fv.rolls-Lit m cs)) ∙ F.fold-roll-Factor A B C f t a (Factor-F.Lit m cs)

  pub fold_set : (m : Option TMark) (exclude : Bool) (ms : List Member) → fold-Factor A B C f t a (Set m exclude ms) ≡ f (Factor-F.Set m exclude ms)
  fold_set m exclude ms = ap (fold-Factor A B C f t a) (sym (fv.rolls-Set m exclude ms)) ∙ F.fold-roll-Factor A B C f t a (Factor-F.Set m exclude ms)

  pub fold_call : (m : Option Mark) (name : List ℕ) → fold-Factor A B C f t a (Call m name) ≡ f (Factor-F.Call m name)
  fold_call m name = ap (fold-Factor A B C f t a) (sym (fv.rolls-Call m name)) ∙ F.fold-roll-Factor A B C f t a (Factor-F.Call m name)

  pub fold_insert : (cs : Chars) → fold-Factor A B C f t a (Insert cs) ≡ f (Factor-F.Insert cs)
  fold_insert cs = ap (fold-Factor A B C f t a) (sym (fv.rolls-Insert cs)) ∙ F.fold-roll-Factor A B C f t a (Factor-F.Insert cs)

  pub fold_group : (alts : List Alt) → fold-Factor A B C f t a (Group alts) ≡ f (Factor-F.Group (map (fold-Alt A B C f t a) alts))
  fold_group alts = ap (fold-Factor A B C f t a) (sym (fv.rolls-Group alts)) ∙ F.fold-roll-Factor A B C f t a (Factor-F.Group alts)

  pub fold_one : (x : Factor) → fold-Term A B C f t a (One x) ≡ t (Term-F.One (fold-Factor A B C f t a x))
  fold_one x = ap (fold-Term A B C f t a) (sym (tv.rolls-One x)) ∙ F.fold-roll-Term A B C f t a (Term-F.One x)

  pub fold_opt : (x : Factor) → fold-Term A B C f t a (Opt x) ≡ t (Term-F.Opt (fold-Factor A B C f t a x))
  fold_opt x = ap (fold-Term A B C f t a) (sym (tv.rolls-Opt x)) ∙ F.fold-roll-Term A B C f t a (Term-F.Opt x)

  pub fold_star : (x : Factor) (sep : Option Factor) → fold-Term A B C f t a (Star x sep) ≡ t (Term-F.Star (fold-Factor A B C f t a x) (option_map (fold-Factor A B C f t a) sep))
  fold_star x None = ap (fold-Term A B C f t a) (sym (tv.rolls-Star x None)) ∙ F.fold-roll-Term A B C f t a (Term-F.Star x None)
  fold_star x (Some s) = ap (fold-Term A B C f t a) (sym (tv.rolls-Star x (Some s))) ∙ F.fold-roll-Term A B C f t a (Term-F.Star x (Some s))

  pub fold_plus : (x : Factor) (sep : Option Factor) → fold-Term A B C f t a (Plus x sep) ≡ t (Term-F.Plus (fold-Factor A B C f t a x) (option_map (fold-Factor A B C f t a) sep))
  fold_plus x None = ap (fold-Term A B C f t a) (sym (tv.rolls-Plus x None)) ∙ F.fold-roll-Term A B C f t a (Term-F.Plus x None)
  fold_plus x (Some s) = ap (fold-Term A B C f t a) (sym (tv.rolls-Plus x (Some s))) ∙ F.fold-roll-Term A B C f t a (Term-F.Plus x (Some s))

  pub fold_alt : (alt : Alt) → fold-Alt A B C f t a alt ≡ a (record { terms = map (fold-Term A B C f t a) alt.terms })
  fold_alt alt = F.fold_out-Alt A B C f t a alt

pub ruleset the_folds = (fold_lit, fold_set, fold_call, fold_insert, fold_group, fold_one, fold_opt, fold_star, fold_plus, fold_alt)
