-- What given characters spell, found by reading them: each question comes down to one computation.
use Rattle.std.proofs.Common.{◌≡◌, ◌≢◌, refl, sym, ap, ◌∙◌, subst, ℕ, List, [], ◌∷◌, ◌++◌, length, Option, Some, None}
use Rattle.std.specs.Prelude.{Bool, true, false, ◌==◌}
use Rattle.std.proofs.lemmas.Bool.{eq-eqb}
use Rattle.ix_model.specs.declared.grammar.Grammar.{Grammar}
use Rattle.ix_model.specs.Spelling.Characters.{is_name_start}
use Rattle.ix_model.specs.Spelling.Words.{IsWord, NameAt}
use Rattle.ix_model.specs.Spelling.Spells.{Spells}
use Rattle.ix_spelling_laws.specs.Reading.Lexing.{Lexeme, Token, after, has_gap, next, Lexes, Read, word_of}
use Rattle.ix_spelling_laws.specs.Reading.Machine as M
use Rattle.ix_spelling_laws.proofs.CharacterFacts.{start_is_part}
use Rattle.ix_spelling_laws.proofs.LexemeFacts.{word_reads, WordRead, word_read}
use Rattle.ix_spelling_laws.proofs.ReadingSound.{reads_spelled}
use Rattle.ix_spelling_laws.proofs.ReadingComplete.{spelled_reads, lexes_once, same_some}

-- what was found of the tokens
pub data Found : Type 0 where
  no_time : Found
  no_tokens : Found
  tokens : List Token → Found

abbrev with_token : Token → Found → Found
with_token t no_time = no_time
with_token t no_tokens = no_tokens
with_token t (tokens ts) = tokens (t ∷ ts)

abbrev on_token : Bool → Option (Lexeme × List ℕ) → (List ℕ → Found) → Found
on_token gap None f = no_tokens
on_token gap (Some (k, r)) f = with_token (record { gap = gap; lexeme = k }) (f r)

abbrev on_rest : List ℕ → List ℕ → (List ℕ → Found) → Found
on_rest c [] f = tokens []
on_rest c (x ∷ r) f = on_token (has_gap c) (next (x ∷ r)) f

-- the tokens, in at most as many steps as the first list is long
abbrev pub find_tokens : List ℕ → List ℕ → Found
find_tokens [] c = no_time
find_tokens (x ∷ steps) c = on_rest c (after c) (λ r. find_tokens steps r)

abbrev Fits : List ℕ → Found → Type 0
Fits c no_time = Unit {0}
Fits c no_tokens = (ts : List Token) → ¬ (Lexes ts c)
Fits c (tokens ts) = Lexes ts c

token_fits : (c d r : List ℕ) (k : Lexeme) → after c ≡ d → next d ≡ Some (k, r) → (f : Found) → Fits r f → Fits c (with_token (record { gap = has_gap c; lexeme = k }) f)
token_fits c d r k e n no_time h = tt
token_fits c d r k e n (tokens ts) h = (r, refl, ap next e ∙ n, h)
token_fits c d r k e n no_tokens h = λ us l. refused us l
  where
    refused : (us : List Token) → ¬ (Lexes us c)
    refused [] l = let q : None ≡ Some (k, r) = ap next (sym l ∙ e) ∙ n in absurd (cc q)
    refused (u ∷ us) (q, g, m, l) =
        let p : (u.lexeme, q) ≡ (k, r) = same_some (u.lexeme, q) (k, r) (sym m ∙ ap next e ∙ n) in
        h us (subst (λ (z : List ℕ). Lexes us z) (ap (λ (v : Lexeme × List ℕ). v.1) p) l)

next_fits : (c d : List ℕ) → after c ≡ d → d ≢ [] → (o : Option (Lexeme × List ℕ)) → next d ≡ o → (f : List ℕ → Found) → ((r : List ℕ) → Fits r (f r)) → Fits c (on_token (has_gap c) o f)
next_fits c d e s None n f h = λ us l. refused us l
  where
    refused : (us : List Token) → ¬ (Lexes us c)
    refused [] l = s (sym e ∙ l)
    refused (u ∷ us) (q, g, m, l) = let p : None ≡ Some (u.lexeme, q) = sym n ∙ ap next (sym e) ∙ m in absurd (cc p)
next_fits c d e s (Some (k, r)) n f h = token_fits c d r k e n (f r) (h r)

rest_fits : (c d : List ℕ) → after c ≡ d → (f : List ℕ → Found) → ((r : List ℕ) → Fits r (f r)) → Fits c (on_rest c d f)
rest_fits c [] e f h = e
rest_fits c (x ∷ d) e f h = next_fits c (x ∷ d) e (λ q. cc q) (next (x ∷ d)) refl f h

found_fits : (steps c : List ℕ) → Fits c (find_tokens steps c)
found_fits [] c = tt
found_fits (x ∷ steps) c = rest_fits c (after c) refl (λ r. find_tokens steps r) (λ r. found_fits steps r)

-- what was found of the grammar: nothing, or that there is none, or it
abbrev grammar_of : Found → Option (Option Grammar)
grammar_of no_time = None
grammar_of no_tokens = Some None
grammar_of (tokens ts) = Some (M.run ts M.start)

abbrev pub reading : List ℕ → Option (Option Grammar)
reading c = grammar_of (find_tokens (0 ∷ c) c)

abbrev Tells : List ℕ → Option (Option Grammar) → Type 0
Tells c None = Unit {0}
Tells c (Some None) = (g : Grammar) → ¬ (Spells c g)
Tells c (Some (Some g)) = Spells c g

run_tells : (c : List ℕ) (ts : List Token) → Lexes ts c → (o : Option Grammar) → M.run ts M.start ≡ o → Tells c (Some o)
run_tells c ts l None e = λ g h. refused g (spelled_reads c g h)
  where
    refused : (g : Grammar) → (us : List Token) × Lexes us c × (M.run us M.start ≡ Some g) → ⊥
    refused g (us, k, f) = let q : None ≡ Some g = sym e ∙ ap (λ (z : List Token). M.run z M.start) (lexes_once ts us c l k) ∙ f in cc q
run_tells c ts l (Some g) e = reads_spelled ts c g l e

found_tells : (c : List ℕ) (f : Found) → Fits c f → Tells c (grammar_of f)
found_tells c no_time h = tt
found_tells c no_tokens h = λ g s. let (ts, l, e) = spelled_reads c g s in h ts l
found_tells c (tokens ts) h = run_tells c ts h (M.run ts M.start) refl

-- characters that are read as a grammar spell it
pub reads : (c : List ℕ) (g : Grammar) → reading c ≡ Some (Some g) → Spells c g
reads c g e = subst (Tells c) e (found_tells c (find_tokens (0 ∷ c) c) (found_fits (0 ∷ c) c))

-- characters that are read as none spell none
pub reads_none : (c : List ℕ) → reading c ≡ Some None → (g : Grammar) → ¬ (Spells c g)
reads_none c e = subst (Tells c) e (found_tells c (find_tokens (0 ∷ c) c) (found_fits (0 ∷ c) c))

-- a word that is read and begins as a name does is a name
pub names : (c r : List ℕ) (x : ℕ) (xs : List ℕ) → is_name_start x ≡ true → word_of c ≡ (x ∷ xs, r) → NameAt c r (x ∷ xs)
names c r x xs h e =
    let w : WordRead c (x ∷ xs) r = subst (λ (v : Read). WordRead c v.0 v.1) e (word_read c) in
    (w.text, (x, xs, refl, h, w.run.1), w.word)

-- a name is the word that is read
pub name_is_read : (c r name : List ℕ) → NameAt c r name → word_of c ≡ (name, r)
name_is_read c r name (e, (x, xs, f, h, run), w) =
    let k : word_of ((x ∷ xs) ++ r) ≡ (x ∷ xs, r) = word_reads (x ∷ xs) r (start_is_part x h, run) (subst (λ (z : List ℕ). IsWord z r) f w) in
    ap word_of (e ∙ ap (λ (z : List ℕ). z ++ r) f) ∙ k ∙ ap (λ (z : List ℕ). let v : Read = (z, r) in v) (sym f)

-- a name that is longer or shorter than the word that is read stands nowhere
pub no_name : (c r name : List ℕ) → (length (word_of c).0 == length name) ≡ false → ¬ (NameAt c r name)
no_name c r name e h =
    let p : length (word_of c).0 ≡ length name = ap (λ (v : Read). length v.0) (name_is_read c r name h) in
    cc (e, eq-eqb _ _ p)
