-- The sample's text has a derivation: line by line, and a number digit by digit.
use Rattle.std.proofs.Common.{◌≡◌, refl, ap, sym, subst, ◌∙◌, ◌+◌, ◌^◌, ◌<◌, ◌≤◌, ℕ, zero, suc, false, List, [], ◌∷◌, ◌++◌, None, Some, length, take, drop, codes, arith}
use mathlib.Core.Logic.{inl, inr}
use Rattle.std.specs.Prelude.{decimal}
use Rattle.std.specs.List.{AllByRecursion}
use Rattle.std.specs.Str.Parse.{AllDigits}
use Rattle.std.proofs.Math.Seq.{drop-append_seam, take-append_seam}
use Rattle.std.proofs.lemmas.List.{append_assoc, append-nil, length-append}
use Rattle.std.proofs.lemmas.Fmt.{decimal_is_IsNumeral}
use Rattle.std.proofs.lemmas.Str.Parse.{digit_from_value}
use Rattle.ix_model.specs.declared.grammar.Mark.TheVariants.{Attribute}
use Rattle.ix_model.specs.declared.grammar.Member.{Member}
use Rattle.ix_model.specs.declared.grammar.TMark.TheVariants.{Deleted}
use Rattle.ix_model.specs.declared.grammar.Chars.TheVariants.{Code}
use Rattle.ix_model.specs.declared.grammar.Term.{One}
use Rattle.ix_model.specs.declared.grammar.Factor.{Lit, Set, Call}
use Rattle.ix_model.specs.Matching.Sets.{IsOfSome}
use Rattle.ix_model.specs.Matching.Terminals.{StandsAt}
use Rattle.ix_model.specs.Derivations.Trees.{Tree, text, node, no_item, list, no_tree, and, Repeated, one, again}
use Rattle.ix_model.specs.Derivations.Derives.{Derives, Repeats, IsDerivation}
use Rattle.ix_model.specs.Answers.Decoding.{decoded}
use Rattle.ix_model.specs.Answers.Sample.{sample_line, sample_text}
use Rattle.ix_examples.specs.SmallGrammars.{deleted, call, marked_call, digits}
use Rattle.ix_sample.proofs.TextForm.{text_decoded}
use Rattle.ix_sample_laws.specs.SampleRules.{letters, sample_rules}

-- characters stand behind what is before them
stands : (s front cs rest : List ℕ) (i j : ℕ) → s ≡ front ++ (cs ++ rest) → i ≡ length front → i + length cs ≡ j → StandsAt s cs i j
stands s front cs rest i j e p q = (q, bound, here)
  where
    bound : j ≤ length s
    bound = omega (arith, ap length e, length-append front (cs ++ rest), length-append cs rest, p, q)

    here : take (length cs) (drop i s) ≡ cs
    here = ap (λ (n : ℕ). take (length cs) (drop n s)) p ∙ ap (λ x. take (length cs) (drop (length front) x)) e ∙ ap (take (length cs)) (drop-append_seam front (cs ++ rest)) ∙ take-append_seam cs rest

-- what stands behind the characters
behind : (s front cs rest : List ℕ) → s ≡ front ++ (cs ++ rest) → s ≡ (front ++ cs) ++ rest
behind s front cs rest e = e ∙ sym (append_assoc front cs rest)

module _ (s : List ℕ) (ms : List Member) where
  abbrev IsRun : Repeated → ℕ → ℕ → Type 0
  IsRun ds i j = Repeats sample_rules s ds (Set None false ms) None i j

  item : (front : List ℕ) (c : ℕ) (rest : List ℕ) (i j : ℕ) → s ≡ front ++ (c ∷ rest) → i ≡ length front → i + 1 ≡ j → IsOfSome c ms → Derives sample_rules s (text i j) (One (Set None false ms)) i j
  item front c rest i j e p q h = (refl, refl, inr (None, false, ms, c, refl, h, stands s front (c ∷ []) rest i j e p q))

  -- a run goes on over further characters of the set
  further_run : (cs front rest : List ℕ) (i k j : ℕ) (ds : Repeated) → s ≡ front ++ (cs ++ rest) → k ≡ length front → k + length cs ≡ j → AllByRecursion (λ c. IsOfSome c ms) cs → IsRun ds i k →
      (es : Repeated) × IsRun es i j
  further_run [] front rest i k j ds e p q h r = (ds, subst (λ (n : ℕ). IsRun ds i n) (omega (arith, q)) r)
  further_run (c ∷ cs) front rest i k j ds e p q h r =
      further_run cs (front ++ (c ∷ [])) rest i (k + 1) j (again ds (text k (k + 1))) (behind s front (c ∷ []) (cs ++ rest) e) (omega (arith, p, length-append front (c ∷ []))) (omega (arith, q)) h.1
      (refl, k, r, item front c (cs ++ rest) k (k + 1) e p refl h.0)

  -- characters of the set, one or more, are a run
  run : (cs front rest : List ℕ) (i j : ℕ) → s ≡ front ++ (cs ++ rest) → i ≡ length front → i + length cs ≡ j → 0 < length cs → AllByRecursion (λ c. IsOfSome c ms) cs → (ds : Repeated) × IsRun ds i j
  run [] front rest i j e p q some h = absurd (omega (arith, some))
  run (c ∷ cs) front rest i j e p q some h =
      further_run cs (front ++ (c ∷ [])) rest i (i + 1) j (one (text i (i + 1))) (behind s front (c ∷ []) (cs ++ rest) e) (omega (arith, p, length-append front (c ∷ []))) (omega (arith, q)) h.1
      (item front c (cs ++ rest) i (i + 1) e p refl h.0)

are_digits : (cs : List ℕ) → AllDigits 10 cs → AllByRecursion (λ c. IsOfSome c (digits ∷ [])) cs
are_digits [] h = tt
are_digits (c ∷ cs) h = let k = digit_from_value c h.0 in (inl (omega (arith, k), omega (arith, k)), are_digits cs h.1)

module _ (s : List ℕ) where
  -- the number of a line
  number : (m : ℕ) (front rest : List ℕ) (i j : ℕ) → m < 2 ^ 64 → s ≡ front ++ (decimal m ++ rest) → i ≡ length front → i + length (decimal m) ≡ j → (d : Tree) × Derives sample_rules s d (marked_call Attribute (codes "n")) i j
  number m front rest i j small e p q =
      let k = decimal_is_IsNumeral m small in
      let x = run s (digits ∷ []) (decimal m) front rest i j e p q k.0.0 (are_digits (decimal m) k.0.1) in
      (node 2 0 (and no_tree (list x.0)), ((_, _, refl, (_, refl, refl)), _, (_, refl, (_, refl, refl)), refl, (i, _, refl, refl, (_, _, inl refl, x.1))))

  -- its word
  word : (front rest : List ℕ) (i j : ℕ) → s ≡ front ++ (codes "ab" ++ rest) → i ≡ length front → i + 2 ≡ j → (d : Tree) × Derives sample_rules s d (call (codes "w")) i j
  word front rest i j e p q =
      let x = run s (letters ∷ []) (codes "ab") front rest i j e p q (omega arith) (inl (omega arith, omega arith), (inl (omega arith, omega arith), tt)) in
      (node 3 0 (and no_tree (list x.0)), ((_, _, refl, (_, refl, refl)), _, (_, refl, (_, refl, refl)), refl, (i, _, refl, refl, (_, _, inl refl, x.1))))

  -- a line
  line : (m : ℕ) (front rest : List ℕ) (i j : ℕ) → m < 2 ^ 64 → s ≡ front ++ (sample_line m ++ rest) → i ≡ length front → i + length (sample_line m) ≡ j → (d : Tree) × Derives sample_rules s d (call (codes "line")) i j
  line m front rest i j small e p q =
      let ds : List ℕ = decimal m in
      let a : ℕ = i + length ds in
      let e0 : s ≡ front ++ (ds ++ (codes ":ab\n" ++ rest)) = e ∙ ap (λ x. front ++ x) (append_assoc ds (codes ":ab\n") rest) in
      let e1 : s ≡ (front ++ ds) ++ (codes ":" ++ (codes "ab\n" ++ rest)) = behind s front ds (codes ":ab\n" ++ rest) e0 in
      let e2 : s ≡ ((front ++ ds) ++ codes ":") ++ (codes "ab" ++ (codes "\n" ++ rest)) = behind s (front ++ ds) (codes ":") (codes "ab\n" ++ rest) e1 in
      let e3 : s ≡ (((front ++ ds) ++ codes ":") ++ codes "ab") ++ (codes "\n" ++ rest) = behind s ((front ++ ds) ++ codes ":") (codes "ab") (codes "\n" ++ rest) e2 in
      let p1 : a ≡ length (front ++ ds) = omega (arith, p, length-append front ds) in
      let p2 : a + 1 ≡ length ((front ++ ds) ++ codes ":") = omega (arith, p1, length-append (front ++ ds) (codes ":")) in
      let p3 : a + 3 ≡ length (((front ++ ds) ++ codes ":") ++ codes "ab") = omega (arith, p2, length-append ((front ++ ds) ++ codes ":") (codes "ab")) in
      let n = number m front (codes ":ab\n" ++ rest) i a small e0 p refl in
      let w = word ((front ++ ds) ++ codes ":") (codes "\n" ++ rest) (a + 1) (a + 3) e2 p2 (omega arith) in
      let colon : Derives sample_rules s (text a (a + 1)) (One (deleted (codes ":"))) a (a + 1) = (refl, refl, inl (_, _, refl, stands s (front ++ ds) (codes ":") (codes "ab\n" ++ rest) a (a + 1) e1 p1 refl)) in
      let feed : Derives sample_rules s (text (a + 3) j) (One (Lit (Some Deleted) (Code (codes "a")))) (a + 3) j =
      (refl, refl, inl (_, _, refl, stands s (((front ++ ds) ++ codes ":") ++ codes "ab") (codes "\n") rest (a + 3) j e3 p3 (omega (arith, q, length-append ds (codes ":ab\n"))))) in (
        node 1 0 (and (and (and (and no_tree n.0) (text a (a + 1))) w.0) (text (a + 3) j)),
        ((_, _, refl, (_, refl, refl)), _, (_, refl, (_, refl, refl)), refl, (a + 3, _, (a + 1, _, (a, _, (i, _, refl, refl, n.1), refl, colon), refl, w.1), refl, feed)),
      )

  -- the lines from 1 to this number
  lines : (n : ℕ) (rest : List ℕ) → n < 2 ^ 32 → s ≡ sample_text (suc n) ++ rest → (ds : Repeated) × Repeats sample_rules s ds (Call None (codes "line")) None 0 (length (sample_text (suc n)))
  lines zero rest small e =
      let x = line 1 [] rest 0 (length (sample_line 1)) (omega arith) e refl (omega arith) in
      (one x.0, x.1)
  lines (suc n) rest small e =
      let e1 : s ≡ sample_text (suc n) ++ (sample_line (suc (suc n)) ++ rest) = e ∙ append_assoc (sample_text (suc n)) (sample_line (suc (suc n))) rest in
      let k : ℕ = length (sample_text (suc n)) in
      let x = lines n (sample_line (suc (suc n)) ++ rest) (omega (arith, small)) e1 in
      let y = line (suc (suc n)) (sample_text (suc n)) rest k (length (sample_text (suc (suc n)))) (omega (arith, small)) e1 refl (sym (length-append (sample_text (suc n)) (sample_line (suc (suc n))))) in
      (again x.0 y.0, (refl, k, x.1, y.1))

-- a text of lines has a derivation
text_is_derived : (n : ℕ) → n ≤ 10000 → (d : Tree) × IsDerivation sample_rules (sample_text n) d
text_is_derived zero small = (node 0 0 (and no_tree no_item), (0, _, _, refl, (_, refl, (_, refl, refl)), (refl, (0, _, refl, refl, (_, None, refl, refl)))))
text_is_derived (suc n) small =
    let x = lines (sample_text (suc n)) n [] (omega (arith, small)) (sym (append-nil (sample_text (suc n)))) in
    (node 0 0 (and no_tree (list x.0)), (0, _, _, refl, (_, refl, (_, refl, refl)), (refl, (0, _, refl, refl, (_, _, inr refl, x.1)))))

pub sample_derived : (n : ℕ) → n ≤ 10000 → (d : Tree) × IsDerivation sample_rules (decoded (sample_text n)) d
sample_derived n small = subst (λ s. (d : Tree) × IsDerivation sample_rules s d) (sym (text_decoded n small)) (text_is_derived n small)
