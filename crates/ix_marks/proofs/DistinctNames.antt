-- The names of an expanded grammar are distinct.
use Rattle.std.proofs.Common.{◌≡◌, ◌<◌, sym, subst, ℕ, List, [], length, map, get_or, None}
use Rattle.std.proofs.lemmas.List.{get_or-map, length-map}
use Rattle.std.proofs.lemmas.Option.{slice_get-get_or}
use Rattle.ix_model.specs.declared.grammar.Grammar.{Grammar}
use Rattle.ix_model.specs.declared.grammar.Rule.{Rule}
use Rattle.ix_model.specs.Grammars.Written.{IsNamed}
use Rattle.ix_marks.specs.Laws.{AreDistinct, NamesAreDistinct}

named_at : (g : Grammar) (i : ℕ) (d : Rule) → i < length g.rules → IsNamed g i (get_or (map (λ (rule : Rule). rule.name) g.rules) i [])
named_at g i d l = (get_or g.rules i d, slice_get-get_or g.rules i d l, sym (get_or-map (λ (rule : Rule). rule.name) g.rules i d [] l))

no_rule : Rule
no_rule = record { mark = None; name = []; alts = [] }

distinct : (g : Grammar) (rules : List (List ℕ)) → ((r q : ℕ) (name : List ℕ) → IsNamed g r name → IsNamed g q name → r ≡ q) → rules ≡ map (λ (rule : Rule). rule.name) g.rules → AreDistinct rules
distinct g names u e = subst AreDistinct (sym e) all
  where
    all : AreDistinct (map (λ (rule : Rule). rule.name) g.rules)
    all i j li lj q =
        let ki : i < length g.rules = subst (λ n. i < n) (length-map g.rules (λ (rule : Rule). rule.name)) li in
        let kj : j < length g.rules = subst (λ n. j < n) (length-map g.rules (λ (rule : Rule). rule.name)) lj in
        u i j (get_or (map (λ (rule : Rule). rule.name) g.rules) i []) (named_at g i no_rule ki) (subst (λ name. IsNamed g j name) (sym q) (named_at g j no_rule kj))

pub names_are_distinct : NamesAreDistinct
names_are_distinct g rules u x = distinct g rules.names u x.names
