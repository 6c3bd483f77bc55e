-- The size of each form of factor and term, and of lists that grow at their end.
use Rattle.std.proofs.Common.{◌≡◌, ap, ◌∙◌, ℕ, ◌+◌, List, [], ◌∷◌, ◌++◌, Option, Some, None, map}
use Rattle.std.proofs.lemmas.List.{map-append}
use Rattle.std.proofs.lemmas.List.Sums.{fold_push}
use Rattle.std.specs.Prelude.{sum, Bool}
use Rattle.ix_model.specs.declared.grammar.Rule.{Rule}
use Rattle.ix_model.specs.declared.grammar.Mark.{Mark}
use Rattle.ix_model.specs.declared.grammar.TMark.{TMark}
use Rattle.ix_model.specs.declared.grammar.Chars.{Chars}
use Rattle.ix_model.specs.declared.grammar.Member.{Member}
use Rattle.ix_model.specs.declared.grammar.Alt.{Alt}
use Rattle.ix_model.specs.declared.grammar.Term.{Term, One, Opt, Star, Plus}
use Rattle.ix_model.specs.declared.grammar.Factor.{Factor, Lit, Set, Call, Insert, Group}
use Rattle.ix_model.specs.Grammars.Size.{factor_size, term_size, alt_size, rule_size}
use Rattle.ix_model.specs.Grammars.Size as Z
use Rattle.ix_model.proofs.Folds as F

pub sum_push : {X : Type 0} (f : X → ℕ) (xs : List X) (x : X) → sum (map f (xs ++ x ∷ [])) ≡ sum (map f xs) + f x
sum_push f xs x = ap sum (map-append f xs (x ∷ [])) ∙ fold_push (λ (s n : ℕ). s + n) 0 (map f xs) (f x)

abbrev pub terms_size : List Term → ℕ
terms_size ts = sum (map term_size ts)

abbrev pub alts_size : List Alt → ℕ
alts_size alts = sum (map alt_size alts)

abbrev pub rules_size : List Rule → ℕ
rules_size rules = sum (map rule_size rules)

pub size_lit : (m : Option TMark) (cs : Chars) → factor_size (Lit m cs) ≡ 0
size_lit m cs = F.fold_lit ℕ ℕ ℕ Z.factor_step Z.term_step Z.alt_step m cs

pub size_set : (m : Option TMark) (exclude : Bool) (ms : List Member) → factor_size (Set m exclude ms) ≡ 0
size_set m exclude ms = F.fold_set ℕ ℕ ℕ Z.factor_step Z.term_step Z.alt_step m exclude ms

pub size_call : (m : Option Mark) (name : List ℕ) → factor_size (Call m name) ≡ 0
size_call m name = F.fold_call ℕ ℕ ℕ Z.factor_step Z.term_step Z.alt_step m name

pub size_insert : (cs : Chars) → factor_size (Insert cs) ≡ 0
size_insert cs = F.fold_insert ℕ ℕ ℕ Z.factor_step Z.term_step Z.alt_step cs

pub size_group : (alts : List Alt) → factor_size (Group alts) ≡ alts_size alts
size_group alts = F.fold_group ℕ ℕ ℕ Z.factor_step Z.term_step Z.alt_step alts

pub size_one : (x : Factor) → term_size (One x) ≡ factor_size x + 1
size_one x = F.fold_one ℕ ℕ ℕ Z.factor_step Z.term_step Z.alt_step x

pub size_opt : (x : Factor) → term_size (Opt x) ≡ factor_size x + 1
size_opt x = F.fold_opt ℕ ℕ ℕ Z.factor_step Z.term_step Z.alt_step x

pub size_star : (x : Factor) → term_size (Star x None) ≡ factor_size x + 0 + 1
size_star x = F.fold_star ℕ ℕ ℕ Z.factor_step Z.term_step Z.alt_step x None

pub size_star_by : (x s : Factor) → term_size (Star x (Some s)) ≡ factor_size x + (factor_size s + 1) + 1
size_star_by x s = F.fold_star ℕ ℕ ℕ Z.factor_step Z.term_step Z.alt_step x (Some s)

pub size_plus : (x : Factor) → term_size (Plus x None) ≡ factor_size x + 0 + 1
size_plus x = F.fold_plus ℕ ℕ ℕ Z.factor_step Z.term_step Z.alt_step x None

pub size_plus_by : (x s : Factor) → term_size (Plus x (Some s)) ≡ factor_size x + (factor_size s + 1) + 1
size_plus_by x s = F.fold_plus ℕ ℕ ℕ Z.factor_step Z.term_step Z.alt_step x (Some s)

pub size_alt : (a : Alt) → alt_size a ≡ terms_size a.terms + 1
size_alt a = F.fold_alt ℕ ℕ ℕ Z.factor_step Z.term_step Z.alt_step a
