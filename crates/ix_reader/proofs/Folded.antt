-- The depth of what is read, for each form of it and for lists that grow at their end.
use Rattle.std.proofs.Common.{◌≡◌, ℕ, ◌+◌, List, [], ◌∷◌, ◌++◌, Option, Some, None, map, arith}
use Rattle.std.specs.Prelude.{max, Bool}
use Rattle.ix_model.specs.declared.grammar.Rule.{Rule}
use Rattle.ix_model.specs.declared.grammar.Mark.{Mark}
use Rattle.ix_model.specs.declared.grammar.TMark.{TMark}
use Rattle.ix_model.specs.declared.grammar.Chars.{Chars}
use Rattle.ix_model.specs.declared.grammar.Member.{Member}
use Rattle.ix_model.specs.declared.grammar.Alt.{Alt}
use Rattle.ix_model.specs.declared.grammar.Term.{Term, One, Opt, Star, Plus}
use Rattle.ix_model.specs.declared.grammar.Factor.{Factor, Lit, Set, Call, Insert, Group}
use Rattle.ix_model.specs.declared.grammar.Factor.TheFolds.{fold-Factor, fold-Term}
use Rattle.ix_model.specs.Spelling.Depth as D
use Rattle.ix_model.proofs.Folds as F

pub greatest_push : {X : Type 0} (f : X → ℕ) (xs : List X) (x : X) → D.greatest (map f (xs ++ x ∷ [])) ≡ max (D.greatest (map f xs)) (f x)
greatest_push f [] x = omega arith
greatest_push f (y ∷ xs) x = omega (arith, greatest_push f xs x)

abbrev pub factor_depth : Factor → ℕ
factor_depth = fold-Factor ℕ ℕ ℕ D.factor_step D.term_step D.alt_step

abbrev pub term_depth : Term → ℕ
term_depth = fold-Term ℕ ℕ ℕ D.factor_step D.term_step D.alt_step

abbrev pub terms_depth : List Term → ℕ
terms_depth ts = D.greatest (map term_depth ts)

abbrev pub alts_depth : List Alt → ℕ
alts_depth alts = D.greatest (map D.alt_depth alts)

abbrev pub rule_depth : Rule → ℕ
rule_depth rule = alts_depth rule.alts

abbrev pub rules_depth : List Rule → ℕ
rules_depth rules = D.greatest (map rule_depth rules)

pub depth_lit : (m : Option TMark) (cs : Chars) → factor_depth (Lit m cs) ≡ 0
depth_lit m cs = F.fold_lit ℕ ℕ ℕ D.factor_step D.term_step D.alt_step m cs

pub depth_set : (m : Option TMark) (exclude : Bool) (ms : List Member) → factor_depth (Set m exclude ms) ≡ 0
depth_set m exclude ms = F.fold_set ℕ ℕ ℕ D.factor_step D.term_step D.alt_step m exclude ms

pub depth_call : (m : Option Mark) (name : List ℕ) → factor_depth (Call m name) ≡ 0
depth_call m name = F.fold_call ℕ ℕ ℕ D.factor_step D.term_step D.alt_step m name

pub depth_insert : (cs : Chars) → factor_depth (Insert cs) ≡ 0
depth_insert cs = F.fold_insert ℕ ℕ ℕ D.factor_step D.term_step D.alt_step cs

pub depth_group : (alts : List Alt) → factor_depth (Group alts) ≡ alts_depth alts + 1
depth_group alts = F.fold_group ℕ ℕ ℕ D.factor_step D.term_step D.alt_step alts

pub depth_one : (x : Factor) → term_depth (One x) ≡ factor_depth x
depth_one x = F.fold_one ℕ ℕ ℕ D.factor_step D.term_step D.alt_step x

pub depth_opt : (x : Factor) → term_depth (Opt x) ≡ factor_depth x
depth_opt x = F.fold_opt ℕ ℕ ℕ D.factor_step D.term_step D.alt_step x

pub depth_star : (x : Factor) → term_depth (Star x None) ≡ max (factor_depth x) 0
depth_star x = F.fold_star ℕ ℕ ℕ D.factor_step D.term_step D.alt_step x None

pub depth_star_by : (x s : Factor) → term_depth (Star x (Some s)) ≡ max (factor_depth x) (factor_depth s)
depth_star_by x s = F.fold_star ℕ ℕ ℕ D.factor_step D.term_step D.alt_step x (Some s)

pub depth_plus : (x : Factor) → term_depth (Plus x None) ≡ max (factor_depth x) 0
depth_plus x = F.fold_plus ℕ ℕ ℕ D.factor_step D.term_step D.alt_step x None

pub depth_plus_by : (x s : Factor) → term_depth (Plus x (Some s)) ≡ max (factor_depth x) (factor_depth s)
depth_plus_by x s = F.fold_plus ℕ ℕ ℕ D.factor_step D.term_step D.alt_step x (Some s)

pub depth_alt : (a : Alt) → D.alt_depth a ≡ terms_depth a.terms
depth_alt a = F.fold_alt ℕ ℕ ℕ D.factor_step D.term_step D.alt_step a
