-- Facts about small grammars that come down to one computation.
use Rattle.std.proofs.Common.{◌≡◌, ◌≢◌, refl, ap, sym, ◌∙◌, ℕ, zero, suc, ◌<◌, List, [], ◌∷◌, length, take, Some, None, codes, arith}
use Rattle.std.specs.Prelude.{Bool, true, false, not, ◌&&◌, ◌||◌, slice_get}
use Rattle.std.specs.List.{list_any}
use Rattle.std.specs.Str.{bytes_eq}
use Rattle.std.proofs.lemmas.Slice.Eq.{bytes_eq-Decides}
use Rattle.ix_model.specs.declared.grammar.Grammar.{Grammar}
use Rattle.ix_model.specs.declared.grammar.Rule.{Rule}
use Rattle.ix_model.specs.Grammars.Names.{HasUniqueNames}
use Rattle.ix_model.specs.Grammars.Breach.{IsDefined, IsRepeated}
use Rattle.ix_conformance_laws.proofs.Judging.{unique_where_none_repeats}
use Rattle.ix_model.proofs.Booleans.{both, not_false}

-- a grammar without a version has none but 1.0
pub no_version : (g : Grammar) → g.version ≡ None → (text : List ℕ) → g.version ≡ Some text → text ≡ codes "1.0"
no_version g e text f = let p : None ≡ Some text = sym e ∙ f in absurd (cc p)

-- whether some rule has the name
abbrev pub is_among : List Rule → List ℕ → Bool
is_among rules name = list_any (λ (rule : Rule). bytes_eq rule.name name) rules

not_among : (rules : List Rule) (name : List ℕ) (r : ℕ) (rule : Rule) → is_among rules name ≡ false → slice_get rules r ≡ Some rule → rule.name ≢ name
not_among [] name r rule h e n = cc e
not_among (x ∷ rules) name zero rule h e n =
    let d : x ≡ rule = cc e in
    let t : bytes_eq x.name name ≡ true = (bytes_eq-Decides x.name name).1 (ap (λ (z : Rule). z.name) d ∙ n) in
    let k : true ≡ false = sym (ap (λ (b : Bool). b || is_among rules name) t) ∙ h in
    cc k
not_among (x ∷ rules) name (suc r) rule h e n = not_among rules name r rule (second (bytes_eq x.name name) (is_among rules name) h) e n
  where
    second : (a b : Bool) → a || b ≡ false → b ≡ false
    second true b h = absurd (cc h)
    second false b h = h

-- a name that no rule has is not defined
pub not_defined : (g : Grammar) (name : List ℕ) → is_among g.rules name ≡ false → ¬ (IsDefined g name)
not_defined g name h (r, (rule, e, n)) = not_among g.rules name r rule h e n

-- whether the names of the rules differ
abbrev pub are_apart : List Rule → Bool
are_apart [] = true
are_apart (rule ∷ rules) = not (is_among rules rule.name) && are_apart rules

apart : (n : ℕ) (rules : List Rule) (q r : ℕ) (x y : Rule) → are_apart (take n rules) ≡ true → q < r → r < n → slice_get rules q ≡ Some x → slice_get rules r ≡ Some y → y.name ≢ x.name
apart zero rules q r x y h l m e f k = absurd (omega (arith, m))
apart (suc n) [] q r x y h l m e f k = cc e
apart (suc n) (z ∷ rules) q zero x y h l m e f k = absurd (omega (arith, l))
apart (suc n) (z ∷ rules) zero (suc r) x y h l m e f k =
    let d : z ≡ x = cc e in
    let a = both (not (is_among (take n rules) z.name)) (are_apart (take n rules)) h in
    not_among (take n rules) z.name r y (not_false (is_among (take n rules) z.name) a.0) (taken n rules r (omega (arith, m)) ∙ f) (k ∙ sym (ap (λ (w : Rule). w.name) d))
  where
    taken : (n : ℕ) (rules : List Rule) (r : ℕ) → r < n → slice_get (take n rules) r ≡ slice_get rules r
    taken zero rules r h = absurd (omega (arith, h))
    taken (suc n) [] r h = refl
    taken (suc n) (x ∷ rules) zero h = refl
    taken (suc n) (x ∷ rules) (suc r) h = taken n rules r (omega (arith, h))
apart (suc n) (z ∷ rules) (suc q) (suc r) x y h l m e f k =
    apart n rules q r x y (both (not (is_among (take n rules) z.name)) (are_apart (take n rules)) h).1 (omega (arith, l)) (omega (arith, m)) e f k

-- where the names of the first n rules differ, none of them has the name of an earlier one
pub none_repeated : (g : Grammar) (n : ℕ) → are_apart (take n g.rules) ≡ true → (p : ℕ) (name : List ℕ) → p < n → ¬ (IsRepeated g p name)
none_repeated g n h p name l ((y, f, b), q, m, (x, e, a)) = apart n g.rules q p x y h m l e f (b ∙ sym a)

-- where the names of all rules differ, they are unique
pub unique : (g : Grammar) → are_apart (take (length g.rules) g.rules) ≡ true → HasUniqueNames g
unique g h = unique_where_none_repeats g (λ r l k. none_repeated g (length g.rules) h r k.0 l k.1)
