-- What a call derives where a function tells the rules by their names.
use Rattle.std.proofs.Common.{◌≡◌, ap, sym, subst, ◌∙◌, ℕ, zero, suc, ◌+◌, List, [], ◌∷◌, Some, None, slice_get, arith}
use Rattle.std.specs.Prelude.{unwrap_or}
use Rattle.std.specs.List.{position_from}
use Rattle.std.specs.Str.{bytes_eq}
use Rattle.ix_model.specs.declared.grammar.Grammar.{Grammar}
use Rattle.ix_model.specs.declared.grammar.Rule.{Rule}
use Rattle.ix_model.specs.declared.grammar.Term.{Term}
use Rattle.ix_model.specs.Grammars.Written.{IsNamed, IsAlternative}
use Rattle.ix_model.specs.Grammars.Names.{HasUniqueNames, names_of}
use Rattle.ix_model.specs.Derivations.Trees.{Tree}
use Rattle.ix_model.specs.Derivations.Derives.{Derives, DerivesAll}
use Rattle.ix_examples.specs.SmallGrammars.{alternative, rule, call}
use Rattle.ix_examples.specs.SmallTrees.{node_of}
use Rattle.ix_examples.proofs.Inversions.{one_alternative, one_derived}
use Rattle.ix_model.proofs.Forms.{call_is_node}

-- the place of the first rule with the name
abbrev pub place_of : Grammar → List ℕ → ℕ
place_of g name = unwrap_or (position_from (bytes_eq name) 0 (names_of g.rules)) 0

-- the places of the names of these rules are k and the numbers after it
abbrev StandFrom : Grammar → ℕ → List Rule → Type 0
StandFrom g k [] = Unit {0}
StandFrom g k (x ∷ xs) = (place_of g x.name ≡ k) × StandFrom g (suc k) xs

-- each rule is the first with its name
abbrev pub AreApart : Grammar → Type 0
AreApart g = StandFrom g 0 g.rules

module _ (g : Grammar) where
  stands_at : (k q : ℕ) (xs : List Rule) (x : Rule) → StandFrom g k xs → slice_get xs q ≡ Some x → place_of g x.name ≡ k + q
  stands_at k zero [] x h at = absurd (cc at)
  stands_at k (suc q) [] x h at = absurd (cc at)
  stands_at k zero (y ∷ ys) x h at =
      let e : y ≡ x = cc at in
      omega (arith, h.0, ap (λ (z : Rule). place_of g z.name) e)
  stands_at k (suc q) (y ∷ ys) x h at = omega (arith, stands_at (suc k) q ys x h.1 at)

  -- a rule with the name stands at its place
  pub named_at : AreApart g → (r : ℕ) (name : List ℕ) → IsNamed g r name → r ≡ place_of g name
  named_at h r name (x, at, e) = omega (arith, stands_at 0 r g.rules x h at, ap (place_of g) e)

  pub unique_names : AreApart g → HasUniqueNames g
  unique_names h r q name x y = named_at h r name x ∙ sym (named_at h q name y)

  -- a call of a rule of one term derives a node with one tree
  pub call_of_term : AreApart g → (s : List ℕ) (d : Tree) (r : ℕ) (name other : List ℕ) (t : Term) (i j : ℕ) → place_of g name ≡ r →
      slice_get g.rules r ≡ Some (rule other (alternative (t ∷ []) ∷ [])) → Derives g s d (call name) i j → (e : Tree) × (d ≡ node_of r 0 e) × Derives g s e t i j
  call_of_term apart s d r name other t i j at is h =
      let (q, a, ds, terms, p, named, (x, of_q, o), all) = call_is_node g s d None name i j h in
      let same : q ≡ r = named_at apart q name named ∙ at in
      let e : x ≡ rule other (alternative (t ∷ []) ∷ []) = cc (of_q, same, is) in
      let y = one_alternative (t ∷ []) a terms (subst (λ (z : Rule). IsAlternative z.alts a terms) e o) in
      let z = one_derived g s ds t i j (subst (λ ts. DerivesAll g s ds ts i j) (sym y.1) all) in
      (z.0, cc (p, same, y.0, z.1), z.2)
