-- One token after the other.
use Rattle.std.proofs.Common.{◌≡◌, refl, ap, ◌∙◌, subst, ℕ, ◌+◌, ◌<◌, ◌≤◌, List, [], ◌∷◌, length, drop, Option, Some, arith, slice_index_or}
use Rattle.std.proofs.lemmas.List.{drop_more}
use Rattle.std.specs.Prelude.{max, nat_lt}
use Rattle.ix_spelling_laws.specs.Reading.Lexing as L
use Rattle.ix_lex.specs.declared.token.Token.{Token}
use Rattle.ix_lex.specs.declared.token.Tok.TheVariants.{Quote}
use Rattle.ix_lex.specs.Spans.{AreTokens, chars_of, lexeme_of, lexed}
use Rattle.ix_lex.specs.Strings.{IsString}
use Rattle.ix_lex.proofs.Standing.{quotes_whole}
use Rattle.ix_reader.specs.Parentheses.{turn, deepest}
use Rattle.ix_spelling_laws.specs.Reading.Machine as M

module _ (c : List ℕ) (ts : List Token) (d : Token) where
  -- the token that comes, before those behind it
  pub next_tokens : (from i : ℕ) → i < length ts → AreTokens c from (drop i ts) → AreTokens c from (slice_index_or ts i d ∷ drop (i + 1) ts)
  next_tokens from i l h = subst (AreTokens c from) (drop_more ts i d l) h

  pub next_string : (from i : ℕ) → i < length ts → AreTokens c from (drop i ts) → (slice_index_or ts i d).kind ≡ Quote → IsString (chars_of c (slice_index_or ts i d))
  next_string from i l h = quotes_whole c from (slice_index_or ts i d) (drop (i + 1) ts) (next_tokens from i l h)

  pub next_lexed : (from i : ℕ) → i < length ts → lexed c from (drop i ts) ≡ record { gap = nat_lt from (slice_index_or ts i d).low; lexeme = lexeme_of c (slice_index_or ts i d) } ∷ lexed c (slice_index_or ts i d).high (drop (i + 1) ts)
  next_lexed from i l = ap (lexed c from) (drop_more ts i d l)

  -- the state behind the token goes on with those behind it
  pub next_run : (from i : ℕ) (s u : M.State) → i < length ts → M.step s.phase s.work (nat_lt from (slice_index_or ts i d).low) (lexeme_of c (slice_index_or ts i d)) ≡ Some u
      → M.run (lexed c from (drop i ts)) s ≡ M.run (lexed c (slice_index_or ts i d).high (drop (i + 1) ts)) u
  next_run from i s u l e = ap (λ (z : List L.Token). M.run z s) (next_lexed from i l) ∙ ap (λ (z : Option M.State). M.then_run z (λ v. M.run (lexed c (slice_index_or ts i d).high (drop (i + 1) ts)) v)) e

  -- behind the token r parentheses are open, and x are the most so far
  pub next_deepest : (from i n m r x most : ℕ) → i < length ts → AreTokens c from (drop i ts) → r ≡ turn n (lexeme_of c (slice_index_or ts i d)) → x ≡ max r m → max m (deepest n (lexed c from (drop i ts))) ≡ most
      → (to : ℕ) × AreTokens c to (drop (i + 1) ts) × (max x (deepest r (lexed c to (drop (i + 1) ts))) ≡ most)
  next_deepest from i n m r x most l h p q e =
      let rest = lexed c (slice_index_or ts i d).high (drop (i + 1) ts) in
      let k : ℕ = turn n (lexeme_of c (slice_index_or ts i d)) in
      let f : deepest n (lexed c from (drop i ts)) ≡ max k (deepest k rest) = ap (deepest n) (next_lexed from i l) in
      let g : deepest r rest ≡ deepest k rest = ap (λ (z : ℕ). deepest z rest) p in
      ((slice_index_or ts i d).high, (next_tokens from i l h).5, omega (arith, p, q, e, f, g))

-- each token has one character or more
tokens_within : (c : List ℕ) (from : ℕ) (ts : List Token) → from ≤ length c → AreTokens c from ts → from + length ts ≤ length c
tokens_within c from [] l h = omega (arith, l)
tokens_within c from (t ∷ ts) l (o, m, w, e, n, h) = omega (arith, o, m, tokens_within c t.high ts w h)

pub few_tokens : (c : List ℕ) (ts : List Token) → AreTokens c 0 ts → length ts ≤ length c
few_tokens c ts h = omega (arith, tokens_within c 0 ts (omega arith) h)

pub as_many : (c : List ℕ) (from : ℕ) (ts : List Token) → length (lexed c from ts) ≡ length ts
as_many c from [] = refl
as_many c from (t ∷ ts) = omega (arith, as_many c t.high ts)

turn_little : (n : ℕ) (k : L.Lexeme) → turn n k ≤ n + 1
turn_little n L.open_group = omega arith
turn_little n L.close_group = omega arith
turn_little n _ = omega arith

pub turned_little : (n r : ℕ) (k : L.Lexeme) → r ≡ turn n k → r ≤ n + 1
turned_little n r k e = omega (arith, e, turn_little n k)
