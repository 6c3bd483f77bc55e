-- The derivations of a text are the trees that derive it from a call of the first rule.
use Rattle.std.proofs.Common.{◌≡◌, refl, sym, subst, ℕ, List, length, None}
use Rattle.ix_model.specs.declared.grammar.Grammar.{Grammar}
use Rattle.ix_model.specs.declared.grammar.Term.{One}
use Rattle.ix_model.specs.declared.grammar.Factor.{Call}
use Rattle.ix_model.specs.Grammars.Written.{IsNamed, IsOfRule}
use Rattle.ix_model.specs.Derivations.Trees.{Tree, node}
use Rattle.ix_model.specs.Derivations.Derives.{Derives, IsDerivation}
use Rattle.ix_model.specs.Grammars.Names.{HasUniqueNames}
use Rattle.ix_model.proofs.Forms.{call_is_node}

module _ (g : Grammar) (s name : List ℕ) where
  -- a derivation derives the text from the call
  pub from_call : (d : Tree) → IsNamed g 0 name → IsDerivation g s d → Derives g s d (One (Call None name)) 0 (length s)
  from_call d named (a, terms, ds, p, o, all) =
      let whole : Derives g s (node 0 a ds) (One (Call None name)) 0 (length s) = ((None, name, refl, named), terms, o, all.0, all.1) in
      subst (λ t. Derives g s t (One (Call None name)) 0 (length s)) (sym p) whole

  -- what derives the text from the call is a derivation, as the name is that of the first rule alone
  pub from_first_rule : (d : Tree) → HasUniqueNames g → IsNamed g 0 name → Derives g s d (One (Call None name)) 0 (length s) → IsDerivation g s d
  from_first_rule d unique named h =
      let x = call_is_node g s d None name 0 (length s) h in
      let r : x.0 ≡ 0 = unique x.0 0 name x.5 named in
      (x.1, x.3, x.2, cc (x.4, r), subst (λ (n : ℕ). IsOfRule g n x.1 x.3) r x.6, x.7)
