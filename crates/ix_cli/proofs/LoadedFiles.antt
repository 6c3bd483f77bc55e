-- What a load says of the files that tell what they hold.
use Rattle.std.proofs.Common.{◌≡◌, refl, sym, ap, ◌∙◌, subst, ℕ, List, length, take, Option, None, Some, Ok, Vec, Global, IfSome, ◌≤◌, ◌+◌, arith}
use Rattle.std.proofs.lemmas.List.{length-take, take_all}
use Rattle.ix_edge.specs.declared.fault.LoadFault.{LoadFault}
use Rattle.ix_edge.specs.Told.{Told, held, Loads}
use Rattle.ix_model.specs.declared.grammar.Grammar.{Grammar}
use Rattle.ix_engine.specs.declared.refusal.Refusal.{Refusal}
use Rattle.ix_engine.specs.declared.refusal.Refusal.TheVariants as refusal
use Rattle.ix_model.specs.Answers.Answer.{HoldsConforming, GrammarRefused, TextAnswered}
use Rattle.ix_model.specs.Answers.Outcome.{Outcome, grammar_too_long, grammar_not_utf8, no_grammar, too_deep, not_conforming, text_too_long, text_not_utf8}
use Rattle.ix_engine.specs.Compiled.{outcome_of, IsRefusalOf}
use Rattle.ix_cli.specs.Loaded.{Holds, IsGrammarFault}
use Rattle.ix_cli.specs.Means.{of_refusal}

module _ (name : List ℕ) (most : ℕ) (v : Vec ℕ Global) where
  -- a load that gave bytes gave those of a name that is there
  loaded_from : (told : Told) (h : Option (List ℕ)) → held told name ≡ h → Loads {E = LoadFault} told name most (Ok v) → (bytes : List ℕ) × (held told name ≡ Some bytes) × (v.items ≡ take most bytes)
  loaded_from told None e l = absurd (cc (l.lacking e))
  loaded_from told (Some bytes) e l = (bytes, e, subst (λ o. IfSome o (λ bs. v.items ≡ take most bs)) e l.bytes)

  pub loaded_is : (told : Option Told) → IfSome told (λ files. Loads {E = LoadFault} files name most (Ok v)) → IfSome told (λ files. (bytes : List ℕ) × (held files name ≡ Some bytes) × (v.items ≡ take most bytes))
  loaded_is None l = tt
  loaded_is (Some files) l = loaded_from files (held files name) refl l

-- a file that is found short was loaded whole
pub short_whole : (most : ℕ) (bytes : List ℕ) → length (take (most + 1) bytes) ≤ most → take (most + 1) bytes ≡ bytes
short_whole most bytes h = take_all (most + 1) bytes (omega (arith, h, length-take (most + 1) bytes))

-- what holds of the bytes of a name, where more follows from what was known of them
pub holds_more : (told : Option Told) (name : List ℕ) (P Q : List ℕ → Type 0) → ((bytes : List ℕ) → P bytes → Q bytes) → Holds told name P → Holds told name Q
holds_more None name P Q f h = tt
holds_more (Some files) name P Q f h = (h.0, h.1, f h.0 h.2)

module _ (most : ℕ) (Q : List ℕ → Type 0) (short : (bytes : List ℕ) → Q bytes → length bytes ≤ most) where
  -- what is true of short files alone, and of what was loaded, is true of the whole file
  pub whole_is : (v bytes : List ℕ) → v ≡ take (most + 1) bytes → Q v → (bytes ≡ v) × Q bytes
  whole_is v bytes e q =
      let same : take (most + 1) bytes ≡ bytes = short_whole most bytes (subst (λ (l : List ℕ). length l ≤ most) e (short v q)) in
      (sym (e ∙ same), subst Q (e ∙ same) q)

-- a conforming grammar that was loaded is that of the whole file
pub compiled_whole : (g : Grammar) (v bytes : List ℕ) → v ≡ take 1048577 bytes → HoldsConforming v g → HoldsConforming bytes g
compiled_whole g v bytes e h = (whole_is 1048576 (λ b. HoldsConforming b g) (λ b k. k.0.0.0) v bytes e h).1

-- and so is why there is none
outcome_whole : (o : Outcome) (v bytes : List ℕ) → v ≡ take 1048577 bytes → GrammarRefused v o → GrammarRefused bytes o
outcome_whole grammar_too_long v bytes e h = omega (arith, h, ap length e, length-take 1048577 bytes)
outcome_whole (grammar_not_utf8 valid) v bytes e h = (whole_is 1048576 (λ b. GrammarRefused b (grammar_not_utf8 valid)) (λ b k. k.0) v bytes e h).1
outcome_whole no_grammar v bytes e h = (whole_is 1048576 (λ b. GrammarRefused b no_grammar) (λ b k. k.0.0) v bytes e h).1
outcome_whole too_deep v bytes e h = (whole_is 1048576 (λ b. GrammarRefused b too_deep) (λ b k. k.0.0) v bytes e h).1
outcome_whole (not_conforming fault) v bytes e h = (whole_is 1048576 (λ b. GrammarRefused b (not_conforming fault)) (λ b k. k.1.0.0) v bytes e h).1
outcome_whole o v bytes e h = absurd h

pub refused_whole : (r : Refusal) (v bytes : List ℕ) → v ≡ take 1048577 bytes → IsRefusalOf v r → IsRefusalOf bytes r
refused_whole refusal.FileTooLong v bytes e h = outcome_whole (outcome_of refusal.FileTooLong) v bytes e h
refused_whole (refusal.NotUtf8 valid) v bytes e h = outcome_whole (outcome_of (refusal.NotUtf8 valid)) v bytes e h
refused_whole refusal.NotIxml v bytes e h = outcome_whole (outcome_of refusal.NotIxml) v bytes e h
refused_whole refusal.TooDeep v bytes e h = outcome_whole (outcome_of refusal.TooDeep) v bytes e h
refused_whole (refusal.Version text) v bytes e h = outcome_whole (outcome_of (refusal.Version text)) v bytes e h
refused_whole (refusal.CodePoint digits) v bytes e h = outcome_whole (outcome_of (refusal.CodePoint digits)) v bytes e h
refused_whole (refusal.Range low high) v bytes e h = outcome_whole (outcome_of (refusal.Range low high)) v bytes e h
refused_whole (refusal.Class name) v bytes e h = outcome_whole (outcome_of (refusal.Class name)) v bytes e h
refused_whole (refusal.Undefined name) v bytes e h = outcome_whole (outcome_of (refusal.Undefined name)) v bytes e h
refused_whole (refusal.Duplicate name) v bytes e h = outcome_whole (outcome_of (refusal.Duplicate name)) v bytes e h
refused_whole refusal.Memory v bytes e h = tt

-- the answer that a refused grammar is has its cause
pub refusal_caused : (told : Option Told) (old new : List ℕ → ℕ) (name : List ℕ) (r : Refusal) → Holds told name (λ bytes. IsRefusalOf bytes r) → IsGrammarFault told old new name (of_refusal r)
refusal_caused told old new name refusal.FileTooLong h = ((λ e. cc e), h)
refusal_caused told old new name (refusal.NotUtf8 valid) h = ((λ e. cc e), h)
refusal_caused told old new name refusal.NotIxml h = ((λ e. cc e), h)
refusal_caused told old new name refusal.TooDeep h = ((λ e. cc e), h)
refusal_caused told old new name (refusal.Version text) h = ((λ e. cc e), h)
refusal_caused told old new name (refusal.CodePoint digits) h = ((λ e. cc e), h)
refusal_caused told old new name (refusal.Range low high) h = ((λ e. cc e), h)
refusal_caused told old new name (refusal.Class called) h = ((λ e. cc e), h)
refusal_caused told old new name (refusal.Undefined called) h = ((λ e. cc e), h)
refusal_caused told old new name (refusal.Duplicate called) h = ((λ e. cc e), h)
refusal_caused told old new name refusal.Memory h = tt

-- what comes of a text that was loaded comes of the whole file
pub text_whole : (g : Grammar) (o : Outcome) (v bytes : List ℕ) → v ≡ take 16777217 bytes → TextAnswered g v o → TextAnswered g bytes o
text_whole g text_too_long v bytes e h = omega (arith, h, ap length e, length-take 16777217 bytes)
text_whole g (text_not_utf8 valid) v bytes e h = (whole_is 16777216 (λ b. TextAnswered g b (text_not_utf8 valid)) (λ b k. k.0) v bytes e h).1
text_whole g o v bytes e h = (whole_is 16777216 (λ b. TextAnswered g b o) (λ b k. k.0.0) v bytes e h).1
