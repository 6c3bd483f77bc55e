-- The rules of many alternatives of one literal can be planned.
use Rattle.std.proofs.Common.{◌≡◌, refl, subst, ℕ, zero, suc, ◌+◌, ◌*◌, ◌<◌, ◌^◌, List, [], ◌∷◌, length, replicate, Some, slice_get, length-append, arith}
use Rattle.std.specs.Prelude.{◌↔◌, unwrap_or, option_map}
use Rattle.ix_model.specs.declared.rules.Kind.TheVariants.{Named}
use Rattle.ix_model.specs.declared.rules.Sym.{Sym}
use Rattle.ix_model.specs.declared.rules.Line.{Line}
use Rattle.ix_model.specs.Expansion.Expanded.{line}
use Rattle.ix_examples.specs.SmallRules.{shown}
use Rattle.ix_model.specs.Expansion.Numbered.{kind_at}
use Rattle.ix_model.specs.Expansion.Numbering.{alts_from, numbering}
use Rattle.ix_model.specs.Expansion.Planned.{IsThere, AreThere}
use Rattle.ix_slots.specs.Examples.{many_rules}
use Rattle.ix_slots.specs.Plannable.{IsPlannable}

abbrev one_literal : Line
one_literal = line (shown 0 ∷ [])

many_alts : (a n : ℕ) → length (alts_from 0 a (replicate n one_literal)) ≡ 2 * n
many_alts a zero = refl
many_alts a (suc n) = omega (arith, many_alts (a + 1) n)

pub many_slots : (n : ℕ) → length (numbering (many_rules n).flats) ≡ 2 * n
many_slots n = omega (arith, length-append (alts_from 0 0 (replicate n one_literal)) [], many_alts 0 n)

one_of_many : (n m a k : ℕ) (x : Sym) → slice_get (unwrap_or (option_map (λ (l : Line). l.syms) (slice_get (replicate m one_literal) a)) []) k ≡ Some x → IsThere (many_rules n) x
one_of_many n zero a k x e = absurd (cc e)
one_of_many n (suc m) zero zero x e = let same : shown 0 ≡ x = cc e in subst (IsThere (many_rules n)) same (omega arith)
one_of_many n (suc m) zero (suc k) x e = absurd (cc e)
one_of_many n (suc m) (suc a) k x e = one_of_many n m a k x e

many_there : (n : ℕ) → AreThere (many_rules n)
many_there n zero a k x e = one_of_many n n a k x e
many_there n (suc r) a k x e = absurd (cc e)

only_first : (n r : ℕ) → r < 1 → (kind_at (many_rules n) r ≡ Named) ↔ (r < 1)
only_first n zero h = ((λ _. h), λ _. refl)
only_first n (suc r) h = absurd (omega (arith, h))

pub many_plannable : (n : ℕ) (text : List ℕ) → n < 2 ^ 31 → length text < 2 ^ 32 → IsPlannable (many_rules n) text
many_plannable n text h k = record {
  numbered = refl;
  first_named = omega arith;
  marked = refl;
  named = only_first n;
  names_within = omega arith;
  symbols = many_there n;
  rules_fit = omega arith;
  slots_fit = omega (arith, many_slots n, h);
  text_fits = k;
}
