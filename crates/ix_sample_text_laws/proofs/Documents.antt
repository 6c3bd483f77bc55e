-- Each derivation of the sample's text gives a document.
use Rattle.std.proofs.Common.{◌≡◌, refl, sym, subst, ◌⊎◌, ◌^◌, ◌<◌, ◌≤◌, ℕ, zero, suc, List, [], ◌∷◌, None, codes, arith}
use mathlib.Core.Logic.{inl, inr}
use Rattle.std.specs.Prelude.{decimal}
use Rattle.std.specs.List.{AllByRecursion}
use Rattle.std.specs.Str.Parse.{AllDigits}
use Rattle.std.proofs.lemmas.Bool.Decides.{nat_tests}
use Rattle.std.proofs.lemmas.Fmt.{decimal_is_IsNumeral}
use Rattle.std.proofs.lemmas.Str.Parse.{digit_from_value}
use Rattle.ix_model.specs.declared.grammar.Term.{Star}
use Rattle.ix_model.specs.declared.grammar.Factor.{Call}
use Rattle.ix_model.specs.Derivations.Trees.{Tree, node, no_item, list, no_tree, and, Repeated}
use Rattle.ix_model.specs.Derivations.Derives.{IsDerivation}
use Rattle.ix_model.specs.Documents.Bare.{bare_repeated}
use Rattle.ix_model.specs.Documents.Gives.{Givens, element, nothing, followed, gives_all, gives_root}
use Rattle.ix_model.specs.Documents.XmlNames.{is_xml_char}
use Rattle.ix_model.specs.Documents.Dyn.{HasNoRefusal}
use Rattle.ix_model.specs.Answers.Decoding.{decoded}
use Rattle.ix_model.specs.Answers.Sample.{sample_line, sample_text}
use Rattle.ix_model.proofs.AllOf.{all_append}
use Rattle.ix_sample.proofs.TextForm.{text_decoded}
use Rattle.ix_sample_laws.specs.SampleRules.{sample_rules}
use Rattle.ix_sample_text_laws.proofs.NoRefusal.{IsCharacter, no_refusal}
use Rattle.ix_sample_text_laws.proofs.LineTrees.{AreLines, root_derived}
use Rattle.ix_sample_text_laws.proofs.LineGivens.{Fits, nothing_fits, more_fits, lines_fit, bare_lines, name_log}

-- an element with what fits, alone at the top, is a document
log_alone : (inner : Givens) → Fits inner → HasNoRefusal (followed (element (codes "log") inner) nothing)
log_alone inner h =
    let k = more_fits (codes "log") inner nothing name_log h nothing_fits in
    no_refusal (followed (element (codes "log") inner) nothing) refl refl refl k.names k.attributes k.characters

module _ (s : List ℕ) (fit : AllByRecursion IsCharacter s) where
  of_root : (e : Tree) → (e ≡ no_item) ⊎ ((ds : Repeated) × (e ≡ list ds) × AreLines ds) → HasNoRefusal (gives_root s sample_rules (node 0 0 (and no_tree e)))
  of_root e (inl p) = subst (λ x. HasNoRefusal (gives_root s sample_rules (node 0 0 (and no_tree x)))) (sym p) (log_alone nothing nothing_fits)
  of_root e (inr (ds, p, h)) =
      subst (λ x. HasNoRefusal (gives_root s sample_rules (node 0 0 (and no_tree x)))) (sym p)
      (log_alone (gives_all s (bare_repeated sample_rules ds (Star (Call None (codes "line")) None))) (lines_fit s fit (bare_repeated sample_rules ds (Star (Call None (codes "line")) None)) (bare_lines ds h)))

  -- a derivation of characters of XML gives a document
  derivation_gives : (d : Tree) → IsDerivation sample_rules s d → HasNoRefusal (gives_root s sample_rules d)
  derivation_gives d h =
      let x = root_derived s d h in
      subst (λ t. HasNoRefusal (gives_root s sample_rules t)) (sym x.1) (of_root x.0 x.2)

-- ---- the characters of the text

printed : (c : ℕ) → 32 ≤ c → c ≤ 126 → IsCharacter c
unfolding is_xml_char
printed c low high = grind (arith, nat_tests)

line_feed : IsCharacter 10
unfolding is_xml_char
line_feed = refl

digits_fit : (cs : List ℕ) → AllDigits 10 cs → AllByRecursion IsCharacter cs
digits_fit [] h = tt
digits_fit (c ∷ cs) h = let k = digit_from_value c h.0 in (printed c (omega (arith, k)) (omega (arith, k)), digits_fit cs h.1)

text_fits : (n : ℕ) → n < 2 ^ 64 → AllByRecursion IsCharacter (sample_text n)
text_fits zero small = tt
text_fits (suc n) small =
    all_append IsCharacter (sample_text n) (sample_line (suc n)) (text_fits n (omega (arith, small)))
    (all_append IsCharacter (decimal (suc n)) (codes ":ab\n") (digits_fit (decimal (suc n)) (decimal_is_IsNumeral (suc n) small).0.1)
    (printed 58 (omega arith) (omega arith), (printed 97 (omega arith) (omega arith), (printed 98 (omega arith) (omega arith), (line_feed, tt)))))

pub sample_document : (n : ℕ) → n ≤ 10000 → (d : Tree) → IsDerivation sample_rules (decoded (sample_text n)) d → HasNoRefusal (gives_root (decoded (sample_text n)) sample_rules d)
sample_document n small =
    subst (λ s. (d : Tree) → IsDerivation sample_rules s d → HasNoRefusal (gives_root s sample_rules d)) (sym (text_decoded n small)) (derivation_gives (sample_text n) (text_fits n (omega (arith, small))))
