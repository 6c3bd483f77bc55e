-- The factors of each form of factor and term, and of an alternative.
use Rattle.std.proofs.Common.{◌≡◌, ◌∙◌, ℕ, List, [], ◌∷◌, ◌++◌, Option}
use Rattle.std.specs.Prelude.{Bool, option_map}
use Rattle.std.specs.List.{flat_map}
use Rattle.std.proofs.lemmas.List.Folds.{flat_map-map}
use Rattle.ix_model.specs.declared.grammar.Mark.{Mark}
use Rattle.ix_model.specs.declared.grammar.TMark.{TMark}
use Rattle.ix_model.specs.declared.grammar.Chars.{Chars}
use Rattle.ix_model.specs.declared.grammar.Member.{Member}
use Rattle.ix_model.specs.declared.grammar.Alt.{Alt}
use Rattle.ix_model.specs.declared.grammar.Term.{One, Opt, Star, Plus}
use Rattle.ix_model.specs.declared.grammar.Factor.{Factor, Lit, Set, Call, Insert, Group}
use Rattle.ix_model.specs.Grammars.Factors.{factor_step, term_step, alt_step, of_separator, factors_of_factor, factors_of_term, factors_of_alt}
use Rattle.ix_model.proofs.Folds.{fold_lit, fold_set, fold_call, fold_insert, fold_group, fold_one, fold_opt, fold_star, fold_plus, fold_alt}

abbrev Fs : Type 0
Fs = List Factor

pub of_lit : (m : Option TMark) (cs : Chars) → factors_of_factor (Lit m cs) ≡ Lit m cs ∷ []
of_lit m cs = fold_lit Fs Fs Fs factor_step term_step alt_step m cs

pub of_set : (m : Option TMark) (exclude : Bool) (ms : List Member) → factors_of_factor (Set m exclude ms) ≡ Set m exclude ms ∷ []
of_set m exclude ms = fold_set Fs Fs Fs factor_step term_step alt_step m exclude ms

pub of_call : (m : Option Mark) (name : List ℕ) → factors_of_factor (Call m name) ≡ Call m name ∷ []
of_call m name = fold_call Fs Fs Fs factor_step term_step alt_step m name

pub of_insert : (cs : Chars) → factors_of_factor (Insert cs) ≡ Insert cs ∷ []
of_insert cs = fold_insert Fs Fs Fs factor_step term_step alt_step cs

pub of_group : (alts : List Alt) → factors_of_factor (Group alts) ≡ flat_map factors_of_alt alts
of_group alts = fold_group Fs Fs Fs factor_step term_step alt_step alts ∙ flat_map-map (λ fs. fs) factors_of_alt alts

pub of_one : (f : Factor) → factors_of_term (One f) ≡ factors_of_factor f
of_one f = fold_one Fs Fs Fs factor_step term_step alt_step f

pub of_opt : (f : Factor) → factors_of_term (Opt f) ≡ factors_of_factor f
of_opt f = fold_opt Fs Fs Fs factor_step term_step alt_step f

pub of_star : (f : Factor) (sep : Option Factor) → factors_of_term (Star f sep) ≡ factors_of_factor f ++ of_separator (option_map factors_of_factor sep)
of_star f sep = fold_star Fs Fs Fs factor_step term_step alt_step f sep

pub of_plus : (f : Factor) (sep : Option Factor) → factors_of_term (Plus f sep) ≡ factors_of_factor f ++ of_separator (option_map factors_of_factor sep)
of_plus f sep = fold_plus Fs Fs Fs factor_step term_step alt_step f sep

pub of_alt : (alt : Alt) → factors_of_alt alt ≡ flat_map factors_of_term alt.terms
of_alt alt = fold_alt Fs Fs Fs factor_step term_step alt_step alt ∙ flat_map-map (λ fs. fs) factors_of_term alt.terms
