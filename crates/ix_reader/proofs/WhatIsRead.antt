-- What comes of the tokens, and what is spelled.
use Rattle.std.proofs.Common.{◌≡◌, refl, ap, sym, ◌∙◌, subst, ℕ, ◌<◌, ◌≤◌, List, length, Option, Some, None, Result, Ok, Err, arith}
use Rattle.std.specs.Prelude.{IfOk}
use Rattle.ix_model.specs.declared.grammar.Grammar.{Grammar}
use Rattle.ix_model.specs.Spelling.Spells.{Spells}
use Rattle.ix_model.specs.Spelling.Depth.{depth}
use Rattle.ix_spelling_laws.specs.Reading.Lexing.{Token, Lexes}
use Rattle.ix_spelling_laws.specs.Reading.Machine as M
use Rattle.ix_spelling_laws.proofs.ReadingSound.{reads_spelled}
use Rattle.ix_spelling_laws.proofs.ReadingComplete.{spelled_reads, lexes_once}
use Rattle.ix_lex.specs.declared.token.Token as lex
use Rattle.ix_lex.specs.Spans.{AreTokens, lexed}
use Rattle.ix_lex.proofs.Standing.{stand_for}
use Rattle.ix_reader.specs.declared.read_fault.ReadFault.{ReadFault}
use Rattle.ix_reader.specs.declared.read_fault.ReadFault.TheVariants.{NotIxml}
use Rattle.ix_reader.specs.Outline.{whether}
use Rattle.ix_reader.specs.Parentheses.{deepest}
use Rattle.ix_model.specs.Grammars.Size.{size}
use Rattle.ix_reader.specs.Views.{Gives}
use Rattle.ix_reader.proofs.Measured.{run_measures}
use Rattle.ix_reader.proofs.Turns.{few_tokens, as_many}

-- characters that are no tokens spell nothing
pub no_tokens : (c : List ℕ) → ((ts : List Token) → Lexes ts c → ⊥) → (g : Grammar) → Spells c g → ⊥
no_tokens c h g s = let (ts, l, e) = spelled_reads c g s in h ts l

-- tokens of no grammar are those of characters that spell nothing
none_spelled : (c : List ℕ) (ts : List Token) → Lexes ts c → M.run ts M.start ≡ None → (g : Grammar) → Spells c g → ⊥
none_spelled c ts l n g s = go (spelled_reads c g s)
  where
    go : (us : List Token) × Lexes us c × (M.run us M.start ≡ Some g) → ⊥
    go (us, k, f) = let q : None ≡ Some g = sym n ∙ ap (λ (z : List Token). M.run z M.start) (lexes_once ts us c l k) ∙ f in cc q

-- the same fault, of whatever kind of call
pub same_fault : (e f : ReadFault) → ◌≡◌ {A = Result Grammar ReadFault} (Err e) (Err f) → e ≡ f
same_fault e f p = cc p

module _ (c : List ℕ) (ts : List lex.Token) (tokens : AreTokens c 0 ts) where
  lexes : Lexes (lexed c 0 ts) c
  lexes = stand_for c 0 ts tokens

  pub parsed : (r : Result Grammar ReadFault) → Gives (λ g. g) r (M.run (lexed c 0 ts) M.start) → deepest 0 (lexed c 0 ts) ≤ 100 → IfOk r (λ g. Spells c g × (depth g ≤ 100))
  parsed (Ok g) h l = (reads_spelled (lexed c 0 ts) c g lexes h, omega (arith, (run_measures (lexed c 0 ts) g h).1, l))
  parsed (Err e) h l = tt

  pub parsed_size : (r : Result Grammar ReadFault) → Gives (λ g. g) r (M.run (lexed c 0 ts) M.start) → IfOk r (λ g. size g ≤ length c)
  parsed_size (Ok g) h = omega (arith, (run_measures (lexed c 0 ts) g h).0, as_many c 0 ts, few_tokens c ts tokens)
  parsed_size (Err e) h = tt

  pub not_parsed : (r : Result Grammar ReadFault) → Gives (λ g. g) r (M.run (lexed c 0 ts) M.start) → r ≡ Err NotIxml → (g : Grammar) → Spells c g → ⊥
  not_parsed r h e = none_spelled c (lexed c 0 ts) lexes (subst (λ (z : Result Grammar ReadFault). Gives (λ g. g) z (M.run (lexed c 0 ts) M.start)) e h)

  no_grammar : (o : Option Grammar) → whether o ≡ None → o ≡ None
  no_grammar None e = refl
  no_grammar (Some g) e = cc e

  a_grammar : (o : Option Grammar) → whether o ≡ Some tt → (g : Grammar) × (o ≡ Some g)
  a_grammar None e = cc e
  a_grammar (Some g) e = (g, refl)

  pub not_recognised : (r : Result (Unit {0}) ReadFault) (f : ReadFault) → Gives (λ u. u) r (whether (M.run (lexed c 0 ts) M.start)) → r ≡ Err f → f ≡ NotIxml → (g : Grammar) → Spells c g → ⊥
  not_recognised r f h e n =
      let k : whether (M.run (lexed c 0 ts) M.start) ≡ None = subst (λ (z : Result (Unit {0}) ReadFault). Gives (λ u. u) z (whether (M.run (lexed c 0 ts) M.start))) (e ∙ ap (λ (z : ReadFault). Err z) n) h in
      none_spelled c (lexed c 0 ts) lexes (no_grammar _ k)

  pub recognised : whether (M.run (lexed c 0 ts) M.start) ≡ Some tt → 100 < deepest 0 (lexed c 0 ts) → (g : Grammar) × Spells c g × (100 < depth g)
  recognised h l = let (g, e) = a_grammar _ h in (g, reads_spelled (lexed c 0 ts) c g lexes e, omega (arith, (run_measures (lexed c 0 ts) g e).1, l))
