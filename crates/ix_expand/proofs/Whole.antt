-- The named rules with the helpers behind them are the rules of the grammar.
use Rattle.std.proofs.Common.{◌≡◌, refl, ap, ◌∙◌, subst, ℕ, ◌+◌, List, [], ◌++◌, length, map, None, arith}
use Rattle.std.specs.Prelude.{slice_get}
use Rattle.std.proofs.lemmas.List.{length-append}
use Rattle.ix_model.specs.declared.grammar.Grammar.{Grammar}
use Rattle.ix_model.specs.declared.grammar.Mark.{Mark}
use Rattle.ix_model.specs.declared.grammar.Rule.{Rule}
use Rattle.ix_model.specs.declared.rules.Flat.{Flat}
use Rattle.ix_model.specs.declared.rules.Rules.{Rules}
use Rattle.ix_model.specs.Documents.Bare.{effective}
use Rattle.ix_model.specs.Expansion.Expanded.{Next, RulesBecome, Expanded}
use Rattle.ix_expand.specs.declared.made.Made.{Made}
use Rattle.ix_expand.specs.Growth.{next, BeginsWith, Between, Makes}
use Rattle.ix_expand.proofs.Places.{get_before, get_behind}

-- nothing is made yet, where so many rules have names
abbrev pub nothing : ℕ → Made
nothing first = record { first = first; flats = []; terminals = []; inserts = [] }

module _ (g : Grammar) (made : Made) (named : List Flat) (names : List (List ℕ)) (marks : List Mark) where
  -- the rules that are put together
  abbrev pub together : Rules
  together = record { names = names; marks = marks; flats = named ++ made.flats; terminals = made.terminals; inserts = made.inserts }

  pub whole : names ≡ map (λ (rule : Rule). rule.name) g.rules → marks ≡ map (λ (rule : Rule). effective None rule.mark) g.rules → length named ≡ length g.rules →
      Makes (nothing (length g.rules)) made (λ all a b. BeginsWith all.flats named → RulesBecome g all 0 a g.rules b) → Expanded g together
  whole are_names are_marks count makes = record {
    end = next made;
    names = are_names;
    marks = are_marks;
    walk = subst (λ (n : Next). RulesBecome g together 0 n g.rules (next made)) start (makes.becomes together between begins);
    rule_count = omega (arith, length-append named made.flats, first_is, count);
    terminal_count = refl;
    insert_count = refl;
  }
    where
      first_is : made.first ≡ length g.rules
      first_is = makes.extends.first

      start : next (nothing (length g.rules)) ≡ record { rule = length g.rules; terminal = 0; insert = 0 }
      start = ap (λ (n : ℕ). record { rule = n; terminal = 0; insert = 0 }) (omega arith)

      begins : BeginsWith (named ++ made.flats) named
      begins = record { longer = omega (arith, length-append named made.flats); same = λ n h. get_before named made.flats n h }

      between : Between (nothing (length g.rules)) made together
      between = record {
        flats = λ n l h. let e : made.first + n ≡ length named + n = omega (arith, first_is, count) in ap (slice_get (named ++ made.flats)) e ∙ get_behind named made.flats n;
        terminals = λ n l h. ap (slice_get made.terminals) (omega arith);
        inserts = λ n l h. ap (slice_get made.inserts) (omega arith);
      }
