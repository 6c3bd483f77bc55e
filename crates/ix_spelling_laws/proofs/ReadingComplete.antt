-- What is spelled is read.
use Rattle.std.proofs.Common.{◌≡◌, ◌≢◌, refl, sym, ap, ap₂, ◌∙◌, subst, ℕ, List, [], ◌∷◌, ◌++◌, length, ◌<◌, ◌⊎◌, inl, inr, arith, Option, Some, None, append_assoc}
use Rattle.std.proofs.lemmas.Bool.{lt-ltb}
use Rattle.std.specs.Prelude.{Bool, true, false, ◌&&◌, if◌then◌else◌, IsTrue, codes}
use Rattle.std.specs.Char.{char_set_contains}
use Rattle.ix_model.specs.declared.grammar.Grammar.{Grammar}
use Rattle.ix_model.specs.declared.grammar.Rule.{Rule}
use Rattle.ix_model.specs.declared.grammar.Mark.{Mark}
use Rattle.ix_model.specs.declared.grammar.Mark.TheVariants.{Element, Attribute, Hidden}
use Rattle.ix_model.specs.declared.grammar.TMark.{TMark}
use Rattle.ix_model.specs.declared.grammar.TMark.TheVariants.{Shown, Deleted}
use Rattle.ix_model.specs.declared.grammar.Chars.{Chars}
use Rattle.ix_model.specs.declared.grammar.Chars.TheVariants as chars
use Rattle.ix_model.specs.declared.grammar.Member.{Member}
use Rattle.ix_model.specs.declared.grammar.Member.TheVariants as member
use Rattle.ix_model.specs.declared.grammar.Bound.{Bound}
use Rattle.ix_model.specs.declared.grammar.Bound.TheVariants as bound
use Rattle.ix_model.specs.declared.grammar.Alt.{Alt}
use Rattle.ix_model.specs.declared.grammar.Term.{Term, One, Opt, Star, Plus}
use Rattle.ix_model.specs.declared.grammar.Factor.{Factor, Lit, Set, Call, Insert, Group}
use Rattle.ix_model.specs.Spelling.Characters.{is_name_start, is_name_part}
use Rattle.ix_model.specs.Spelling.Spacing.{Takes, S, RS}
use Rattle.ix_model.specs.Spelling.Words.{NameAt, ends_run}
use Rattle.ix_model.specs.Spelling.Spacing as Sg
use Rattle.ix_model.specs.Spelling.Spells as Sp
use Rattle.ix_model.specs.Spelling.Spells.{StringAt, MarkAt, TMarkAt, CharsAt, BoundAt, MemberAt, MembersAt, SetAt, AltsAt, AltAt, TermsAt, TermAt, FactorAt, RuleAt, RulesAt, PrologAt, Spells, is_class}
use Rattle.ix_spelling_laws.specs.Reading.Lexing.{Lexeme, word, quote, hex, at, caret, dash, colon, equals, semi, bar, comma, stop, question, star, stars, plus, pluses, open_group, close_group, open_set, close_set, tilde, Token, after, has_gap, Lexes, next}
use Rattle.ix_spelling_laws.specs.Reading.Tokens.{TokenAt}
use Rattle.ix_spelling_laws.specs.Reading.Machine as M
use Rattle.ix_spelling_laws.proofs.CharacterFacts.{blank_no_part, brace_no_part, letters}
use Rattle.ix_model.proofs.Booleans.{in_all, both, false_not}
use Rattle.ix_spelling_laws.proofs.SpacingFacts.{after_is_all, spacing_runs, spacing_less, spacing_to_after}
use Rattle.ix_spelling_laws.proofs.TokenFacts.{token_solid, Fits}
use Rattle.ix_spelling_laws.proofs.ReadingAccepts.{Accepts, AcceptsFrom, token_accepts, reads, spaced, gap_true, no_quote, no_digit, no_star, no_plus, behind_factor}

module _ (g : Grammar) where
  -- ---- behind a factor

  done_spaced : (w : M.Work) (x : Factor) (c b : List ℕ) → S c b → AcceptsFrom (M.factor_done w x) b g → AcceptsFrom (M.factor_done w x) c g
  done_spaced w x c b s h = spaced _ _ c b g (behind_factor w x).is_quiet s h

  -- a phase that takes a literal to a factor
  pub record TakesChars (p : M.Phase) (w : M.Work) (make : Chars → Factor) : Type 0 where
    pub by_quote : (xs : List ℕ) → M.step p w false (quote xs) ≡ Some (M.factor_done w (make (chars.Quoted xs)))
    pub by_hex : (ds : List ℕ) → M.step p w false (hex ds) ≡ Some (M.factor_done w (make (chars.Code ds)))

  chars_read : (p : M.Phase) (w : M.Work) (make : Chars → Factor) (b r : List ℕ) (cs : Chars) → TakesChars p w make → CharsAt b r cs → AcceptsFrom (M.factor_done w (make cs)) r g → Accepts p w b g
  chars_read p w make b r cs t (Sp.by_string _ c _ xs h s) a =
      let x = make (chars.Quoted xs) in
      let k = done_spaced w x c r s a in
      reads p w b c (quote xs) _ g h (no_quote _ _ c g (behind_factor w x).no_quotes k) (t.by_quote xs) k
  chars_read p w make b r cs t (Sp.by_number _ c _ ds h s) a =
      let x = make (chars.Code ds) in
      let k = done_spaced w x c r s a in
      reads p w b c (hex ds) _ g h (no_digit _ _ c g (behind_factor w x).no_words k) (t.by_hex ds) k

  -- ---- sets

  -- a phase that begins a member
  pub record TakesMember (p : M.Phase) (s : M.Part) (w : M.Work) : Type 0 where
    pub by_quote : (xs : List ℕ) → M.step p w false (quote xs) ≡ M.quoted_member s w xs
    pub by_hex : (ds : List ℕ) → M.step p w false (hex ds) ≡ M.goes (M.bound_read s (bound.Code ds)) w
    pub by_word : (n : List ℕ) → M.step p w false (word n) ≡ (if is_class n then M.goes (M.member_read (M.with_member s (member.Class n))) w else None)

  -- a bound that is a member
  bound_as_member : (s : M.Part) (w : M.Work) (x : Bound) (c : List ℕ) → Accepts (M.member_read (M.with_member s (M.member_of x))) w c g → Accepts (M.bound_read s x) w c g
  bound_as_member s w x c ([], l, h) = ([], l, h)
  bound_as_member s w x c (t ∷ ts, l, h) = (t ∷ ts, l, same t.lexeme h)
    where
      same : (k : Lexeme) → M.then_run (M.step (M.member_read (M.with_member s (M.member_of x))) w t.gap k) (λ u. M.run ts u) ≡ Some g → M.then_run (M.step (M.bound_read s x) w t.gap k) (λ u. M.run ts u) ≡ Some g
      same dash h = absurd (cc h)
      same k h = h

  bound_read_here : (p : M.Phase) (s : M.Part) (w : M.Work) (b c : List ℕ) (x : Bound) → TakesMember p s w → BoundAt b c x → Accepts (M.bound_read s x) w c g → Accepts p w b g
  bound_read_here p s w b c x t (Sp.one_character y _ _ h) a = reads p w b c (quote (y ∷ [])) _ g h (no_quote _ _ c g (λ xs a. refl) a) (t.by_quote (y ∷ [])) a
  bound_read_here p s w b c x t (Sp.one_number _ _ ds h) a = reads p w b c (hex ds) _ g h (no_digit _ _ c g (λ n a. refl) a) (t.by_hex ds) a

  high_read : (s : M.Part) (w : M.Work) (b c : List ℕ) (low x : Bound) → BoundAt b c x → Accepts (M.member_read (M.with_member s (member.Range low x))) w c g → Accepts (M.range_to s low) w b g
  high_read s w b c low x (Sp.one_character y _ _ h) a = reads (M.range_to s low) w b c (quote (y ∷ [])) _ g h (no_quote _ _ c g (λ xs a. refl) a) refl a
  high_read s w b c low x (Sp.one_number _ _ ds h) a = reads (M.range_to s low) w b c (hex ds) _ g h (no_digit _ _ c g (λ n a. refl) a) refl a

  string_read : (p : M.Phase) (s : M.Part) (w : M.Work) (b c xs : List ℕ) → TakesMember p s w → StringAt b c xs → Accepts (M.member_read (M.with_member s (member.Quoted xs))) w c g → Accepts p w b g
  string_read p s w b c [] t h a = reads p w b c (quote []) _ g h (no_quote _ _ c g (λ xs a. refl) a) (t.by_quote []) a
  string_read p s w b c (x ∷ y ∷ xs) t h a = reads p w b c (quote (x ∷ y ∷ xs)) _ g h (no_quote _ _ c g (λ xs a. refl) a) (t.by_quote (x ∷ y ∷ xs)) a
  string_read p s w b c (x ∷ []) t h a = bound_read_here p s w b c (bound.Quoted x) t (Sp.one_character x b c h) (bound_as_member s w (bound.Quoted x) c a)

  member_complete : (p : M.Phase) (s : M.Part) (w : M.Work) (b c : List ℕ) (m : Member) → TakesMember p s w → MemberAt b c m → Accepts (M.member_read (M.with_member s m)) w c g → Accepts p w b g
  member_complete p s w b c m t (Sp.string_member _ _ xs h) a = string_read p s w b c xs t h a
  member_complete p s w b c m t (Sp.number_member _ _ ds h) a = bound_read_here p s w b c (bound.Code ds) t (Sp.one_number b c ds h) (bound_as_member s w (bound.Code ds) c a)
  member_complete p s w b c m t (Sp.range_member _ d e f h _ low high i j k l n) a =
      let h1 = high_read s w h c low high n a in
      let h2 = spaced (M.range_to s low) w f h g tt l h1 in
      let h3 = reads (M.bound_read s low) w e f dash _ g k tt refl h2 in
      bound_read_here p s w b d low t i (spaced (M.bound_read s low) w d e g tt j h3)
  member_complete p s w b c m t (Sp.class_member _ _ n i h) a =
      reads p w b c (word n) (record { phase = M.member_read (M.with_member s (member.Class n)); work = w }) g h tt (t.by_word n ∙ rw i refl) a

  members_complete : (p : M.Phase) (s : M.Part) (w : M.Work) (b c r : List ℕ) (ms : List Member) → TakesMember p s w → MembersAt b c ms → Takes (codes "]") c r
      → AcceptsFrom (M.factor_done w (Set s.tmark s.exclude (s.members ++ ms))) r g → Accepts p w b g
  members_complete p s w b c r ms t (Sp.last_member _ d _ m h u) k a =
      member_complete p s w b d m t h (spaced _ w d c g tt u (reads (M.member_read (M.with_member s m)) w c r close_set _ g k tt refl a))
  members_complete p s w b c r ms t (Sp.more_members _ d e f h _ m ns i u j v n) k a =
      let s2 = M.with_member s m in
      let a2 = subst (λ (z : List Member). AcceptsFrom (M.factor_done w (Set s.tmark s.exclude z)) r g) (sym (append_assoc s.members (m ∷ []) ns)) a in
      let k2 = members_complete (M.member_next s2) s2 w h c r ns (record { by_quote = λ xs. refl; by_hex = λ ds. refl; by_word = λ n. refl }) n k a2 in
      let k3 = spaced (M.member_next s2) w f h g tt v k2 in
      member_complete p s w b d m t i (spaced (M.member_read s2) w d e g tt u (go s2 j k3))
    where
      go : (s2 : M.Part) → Takes (codes ";") e f ⊎ Takes (codes "|") e f → Accepts (M.member_next s2) w f g → Accepts (M.member_read s2) w e g
      go s2 (inl q) a = reads (M.member_read s2) w e f semi _ g q tt refl a
      go s2 (inr q) a = reads (M.member_read s2) w e f bar _ g q tt refl a

  -- the brackets of a set
  bracket_complete : (p : M.Phase) (w : M.Work) (m : Option TMark) (exclude x : Bool) (b r : List ℕ) (ms : List Member) → M.step p w false open_set ≡ M.goes (M.set_start (record { tmark = m; exclude = exclude; members = [] })) w
      → x ≡ false → SetAt b r x ms → AcceptsFrom (M.factor_done w (Set m exclude ms)) r g → Accepts p w b g
  bracket_complete p w m exclude x b r ms t e (Sp.empty_set _ c d _ h s k) a =
      reads p w b c open_set _ g h tt t (spaced _ w c d g tt s (reads (M.set_start (record { tmark = m; exclude = exclude; members = [] })) w d r close_set _ g k tt refl a))
  bracket_complete p w m exclude x b r ms t e (Sp.members _ c d f _ _ h s n k) a =
      let part : M.Part = record { tmark = m; exclude = exclude; members = [] } in
      reads p w b c open_set _ g h tt t (spaced (M.set_start part) w c d g tt s (members_complete (M.set_start part) part w d f r ms (record { by_quote = λ xs. refl; by_hex = λ ds. refl; by_word = λ n. refl }) n k a))
  bracket_complete p w m exclude x b r ms t e (Sp.excluded _ c d _ _ h s k) a = absurd (cc e)

  set_complete : (p : M.Phase) (w : M.Work) (m : Option TMark) (x : Bool) (b r : List ℕ) (ms : List Member) → M.step p w false open_set ≡ M.goes (M.set_start (record { tmark = m; exclude = false; members = [] })) w
      → M.step p w false tilde ≡ M.goes (M.excluding m) w → SetAt b r x ms → AcceptsFrom (M.factor_done w (Set m x ms)) r g → Accepts p w b g
  set_complete p w m x b r ms t u (Sp.empty_set _ c d _ h s k) a = bracket_complete p w m false false b r ms t refl (Sp.empty_set _ c d _ h s k) a
  set_complete p w m x b r ms t u (Sp.members _ c d f _ _ h s n k) a = bracket_complete p w m false false b r ms t refl (Sp.members _ c d f _ _ h s n k) a
  set_complete p w m x b r ms t u (Sp.excluded _ c d _ _ h s k) a =
      reads p w b c tilde _ g h tt u (spaced (M.excluding m) w c d g tt s (bracket_complete (M.excluding m) w m true false d r ms refl refl k a))

  -- ---- factors without parentheses

  literal_complete : (w : M.Work) (m : Option TMark) (cs : Chars) (b c r : List ℕ) → TMarkAt b c m → CharsAt c r cs → AcceptsFrom (M.factor_done w (Lit m cs)) r g → Accepts M.want w b g
  literal_complete w m cs b c r (Sp.no_tmark _) h a = chars_read M.want w (Lit None) c r cs (record { by_quote = λ xs. refl; by_hex = λ ds. refl }) h a
  literal_complete w m cs b c r (Sp.shown _ d _ t s) h a =
      reads M.want w b d caret _ g t tt refl (spaced (M.marked Shown) w d c g tt s (chars_read (M.marked Shown) w (Lit (Some Shown)) c r cs (record { by_quote = λ xs. refl; by_hex = λ ds. refl }) h a))
  literal_complete w m cs b c r (Sp.deleted _ d _ t s) h a =
      reads M.want w b d dash _ g t tt refl (spaced (M.marked Deleted) w d c g tt s (chars_read (M.marked Deleted) w (Lit (Some Deleted)) c r cs (record { by_quote = λ xs. refl; by_hex = λ ds. refl }) h a))

  marked_set : (w : M.Work) (m : Option TMark) (x : Bool) (ms : List Member) (b c d r : List ℕ) → TMarkAt b c m → SetAt c d x ms → S d r → AcceptsFrom (M.factor_done w (Set m x ms)) r g → Accepts M.want w b g
  marked_set w m x ms b c d r (Sp.no_tmark _) h u a = set_complete M.want w None x c d ms refl refl h (done_spaced w _ d r u a)
  marked_set w m x ms b c d r (Sp.shown _ e _ t s) h u a =
      reads M.want w b e caret _ g t tt refl (spaced (M.marked Shown) w e c g tt s (set_complete (M.marked Shown) w (Some Shown) x c d ms refl refl h (done_spaced w _ d r u a)))
  marked_set w m x ms b c d r (Sp.deleted _ e _ t s) h u a =
      reads M.want w b e dash _ g t tt refl (spaced (M.marked Deleted) w e c g tt s (set_complete (M.marked Deleted) w (Some Deleted) x c d ms refl refl h (done_spaced w _ d r u a)))

  call_complete : (w : M.Work) (m : Option Mark) (n b c d r : List ℕ) → MarkAt b c m → NameAt c d n → S d r → AcceptsFrom (M.factor_done w (Call m n)) r g → Accepts M.want w b g
  call_complete w m n b c d r (Sp.no_mark _) h u a = reads M.want w c d (word n) _ g h tt refl (done_spaced w _ d r u a)
  call_complete w m n b c d r (Sp.attribute _ e _ t s) h u a =
      reads M.want w b e at _ g t tt refl (spaced M.at_marked w e c g tt s (reads M.at_marked w c d (word n) _ g h tt refl (done_spaced w _ d r u a)))
  call_complete w m n b c d r (Sp.element _ e _ t s) h u a =
      reads M.want w b e caret _ g t tt refl (spaced (M.marked Shown) w e c g tt s (reads (M.marked Shown) w c d (word n) _ g h tt refl (done_spaced w _ d r u a)))
  call_complete w m n b c d r (Sp.hidden _ e _ t s) h u a =
      reads M.want w b e dash _ g t tt refl (spaced (M.marked Deleted) w e c g tt s (reads (M.marked Deleted) w c d (word n) _ g h tt refl (done_spaced w _ d r u a)))

  insert_complete : (w : M.Work) (cs : Chars) (b c d r : List ℕ) → Takes (codes "+") b c → S c d → CharsAt d r cs → AcceptsFrom (M.factor_done w (Insert cs)) r g → Accepts M.want w b g
  insert_complete w cs b c d r t s h a =
      let k = spaced M.inserting w c d g tt s (chars_read M.inserting w Insert d r cs (record { by_quote = λ xs. refl; by_hex = λ ds. refl }) h a) in
      reads M.want w b c plus _ g t (no_plus M.inserting w c g (λ a. (refl, refl)) k) refl k

  -- ---- terms and alternatives

  alt_as_want : (w : M.Work) (c : List ℕ) → Accepts M.want (M.on_top w (M.fresh w.top)) c g → Accepts M.alt_start w c g
  alt_as_want w c ([], l, h) = absurd (cc h)
  alt_as_want w c (t ∷ ts, l, h) = (t ∷ ts, l, same t.lexeme h)
    where
      same : (k : Lexeme) → M.then_run (M.step M.want (M.on_top w (M.fresh w.top)) t.gap k) (λ u. M.run ts u) ≡ Some g → M.then_run (M.step M.alt_start w t.gap k) (λ u. M.run ts u) ≡ Some g
      same semi h = absurd (cc h)
      same bar h = absurd (cc h)
      same close_group h = absurd (cc h)
      same stop h = absurd (cc h)
      same k h = h

  abbrev IsEnd : Lexeme → Type 0
  IsEnd close_group = Unit {0}
  IsEnd stop = Unit {0}
  IsEnd _ = ⊥

  abbrev IsAltEnd : Lexeme → Type 0
  IsAltEnd semi = Unit {0}
  IsAltEnd bar = Unit {0}
  IsAltEnd k = IsEnd k

  abbrev IsTermEnd : Lexeme → Type 0
  IsTermEnd comma = Unit {0}
  IsTermEnd k = IsAltEnd k

  -- behind complete alternatives
  record Ending (w : M.Work) (al : List Alt) (r : List ℕ) : Type 0 where
    lexeme : Lexeme
    rest : List ℕ
    state : M.State
    is_end : IsEnd lexeme
    token : TokenAt r rest lexeme
    ends : (f top : M.Frame) → M.complete f ≡ al → M.end_alt f (M.on_top w top) lexeme ≡ Some state
    accepts : AcceptsFrom state rest g

  -- behind an alternative
  record AltEnding (w : M.Work) (f : M.Frame) (r : List ℕ) : Type 0 where
    lexeme : Lexeme
    rest : List ℕ
    state : M.State
    is_end : IsAltEnd lexeme
    token : TokenAt r rest lexeme
    ends : (top : M.Frame) → M.end_alt f (M.on_top w top) lexeme ≡ Some state
    accepts : AcceptsFrom state rest g

  -- behind a term
  record TermEnding (w : M.Work) (f : M.Frame) (r : List ℕ) : Type 0 where
    lexeme : Lexeme
    rest : List ℕ
    state : M.State
    is_end : IsTermEnd lexeme
    token : TokenAt r rest lexeme
    ends : (top : M.Frame) → M.end_term f (M.on_top w top) lexeme ≡ Some state
    accepts : AcceptsFrom state rest g

  alt_of_end : (k : Lexeme) → IsEnd k → IsAltEnd k
  alt_of_end close_group h = tt
  alt_of_end stop h = tt
  alt_of_end _ h = absurd h

  term_of_alt : (k : Lexeme) → IsAltEnd k → IsTermEnd k
  term_of_alt semi h = tt
  term_of_alt bar h = tt
  term_of_alt close_group h = tt
  term_of_alt stop h = tt
  term_of_alt _ h = absurd h

  end_term_of_alt : (k : Lexeme) → IsAltEnd k → (f : M.Frame) (w : M.Work) → M.end_term f w k ≡ M.end_alt f w k
  end_term_of_alt semi h f w = refl
  end_term_of_alt bar h f w = refl
  end_term_of_alt close_group h f w = refl
  end_term_of_alt stop h f w = refl
  end_term_of_alt _ h f w = absurd h

  end_item_of_term : (k : Lexeme) → IsTermEnd k → (x : Factor) (f : M.Frame) (w : M.Work) → M.end_item x f w k ≡ M.end_term (M.with_term f (One x)) w k
  end_item_of_term comma h x f w = refl
  end_item_of_term semi h x f w = refl
  end_item_of_term bar h x f w = refl
  end_item_of_term close_group h x f w = refl
  end_item_of_term stop h x f w = refl
  end_item_of_term _ h x f w = absurd h

  end_fits : (k : Lexeme) → IsTermEnd k → (r : List ℕ) → Fits k r
  end_fits comma h r = tt
  end_fits semi h r = tt
  end_fits bar h r = tt
  end_fits close_group h r = tt
  end_fits stop h r = tt
  end_fits _ h r = absurd h

  empty_alt_step : (k : Lexeme) → IsAltEnd k → (w : M.Work) → M.step M.alt_start w false k ≡ M.end_alt (M.fresh w.top) w k
  empty_alt_step semi h w = refl
  empty_alt_step bar h w = refl
  empty_alt_step close_group h w = refl
  empty_alt_step stop h w = refl
  empty_alt_step _ h w = absurd h

  term_ending : (w : M.Work) (f : M.Frame) (r : List ℕ) → AltEnding w f r → TermEnding w f r
  term_ending w f r a = record {
    lexeme = a.lexeme;
    rest = a.rest;
    state = a.state;
    is_end = term_of_alt a.lexeme a.is_end;
    token = a.token;
    ends = λ top. end_term_of_alt a.lexeme a.is_end f (M.on_top w top) ∙ a.ends top;
    accepts = a.accepts;
  }

  alt_ending : (w : M.Work) (al : List Alt) (f : M.Frame) (r : List ℕ) → M.complete f ≡ al → Ending w al r → AltEnding w f r
  alt_ending w al f r e a = record {
    lexeme = a.lexeme;
    rest = a.rest;
    state = a.state;
    is_end = alt_of_end a.lexeme a.is_end;
    token = a.token;
    ends = λ top. a.ends f top e;
    accepts = a.accepts;
  }

  -- a term is complete
  term_done : (w : M.Work) (f : M.Frame) (r : List ℕ) → TermEnding w f r → Accepts M.term_read (M.on_top w f) r g
  term_done w f r a = reads M.term_read (M.on_top w f) r a.rest a.lexeme a.state g a.token (end_fits a.lexeme a.is_end a.rest) (a.ends f) a.accepts

  item_done : (w : M.Work) (f : M.Frame) (x : Factor) (r : List ℕ) → TermEnding w (M.with_term f (One x)) r → Accepts (M.item_read x) (M.on_top w f) r g
  item_done w f x r a = reads (M.item_read x) (M.on_top w f) r a.rest a.lexeme a.state g a.token (end_fits a.lexeme a.is_end a.rest) (end_item_of_term a.lexeme a.is_end x f (M.on_top w f) ∙ a.ends f) a.accepts

  same_after : (h : M.Hole) (f top : M.Frame) (w : M.Work) (x : Factor) → M.after_factor h f (M.on_top w top) x ≡ M.after_factor h f w x
  same_after M.item f top w x = refl
  same_after (M.star_of i) f top w x = refl
  same_after (M.plus_of i) f top w x = refl

  group_ending : (w : M.Work) (al : List Alt) (c d r : List ℕ) → Takes (codes ")") c d → S d r → AcceptsFrom (M.factor_done w (Group al)) r g → Ending (M.opened w) al c
  group_ending w al c d r t s a = record {
    lexeme = close_group;
    rest = d;
    state = M.factor_done w (Group al);
    is_end = tt;
    token = t;
    ends = λ f top e. ap Some (same_after w.top.hole w.top top w (Group (M.complete f)) ∙ ap (λ (z : List Alt). M.factor_done w (Group z)) e);
    accepts = done_spaced w (Group al) d r s a;
  }

  next_alt : (w : M.Work) (done : List Alt) (x : Alt) (c d : List ℕ) → Takes (codes ";") c d ⊎ Takes (codes "|") c d → Accepts M.alt_start (M.on_top w (record { alts = done ++ x ∷ []; terms = []; hole = M.item })) d g → AltEnding w (record { alts = done; terms = x.terms; hole = M.item }) c
  next_alt w done x c d (inl t) a = record { lexeme = semi; rest = d; state = record { phase = M.alt_start; work = M.on_top w (record { alts = done ++ x ∷ []; terms = []; hole = M.item }) }; is_end = tt; token = t; ends = λ top. refl; accepts = a }
  next_alt w done x c d (inr t) a = record { lexeme = bar; rest = d; state = record { phase = M.alt_start; work = M.on_top w (record { alts = done ++ x ∷ []; terms = []; hole = M.item }) }; is_end = tt; token = t; ends = λ top. refl; accepts = a }

  mutual
    factor_complete : (b r : List ℕ) (x : Factor) → FactorAt b r x → (w : M.Work) → AcceptsFrom (M.factor_done w x) r g → Accepts M.want w b g
    factor_complete b r x (Sp.literal _ c _ m cs t h) w a = literal_complete w m cs b c r t h a
    factor_complete b r x (Sp.set _ c d _ m ex ms t h s) w a = marked_set w m ex ms b c d r t h s a
    factor_complete b r x (Sp.called _ c d _ m n t h s) w a = call_complete w m n b c d r t h s a
    factor_complete b r x (Sp.inserted _ c d _ cs t s h) w a = insert_complete w cs b c d r t s h a
    factor_complete b r x (Sp.grouped _ c d e f _ al t s h u v) w a =
        reads M.want w b c open_group (record { phase = M.alt_start; work = M.opened w }) g t tt refl (spaced M.alt_start (M.opened w) c d g tt s (alts_complete d e al h (M.opened w) [] (group_ending w al e f r u v a)))

    term_complete : (b r : List ℕ) (t : Term) → TermAt b r t → (w : M.Work) (f : M.Frame) → TermEnding w (M.with_term f t) r → Accepts M.want (M.on_top w (M.with_hole f M.item)) b g
    term_complete b r t (Sp.alone _ _ x h) w f a = factor_complete b r x h (M.on_top w (M.with_hole f M.item)) (item_done w (M.with_hole f M.item) x r a)
    term_complete b r t (Sp.option _ c d _ x h u s) w f a =
        factor_complete b c x h (M.on_top w (M.with_hole f M.item))
        (reads (M.item_read x) (M.on_top w (M.with_hole f M.item)) c d question _ g u tt refl (spaced M.term_read (M.on_top w (M.with_term f (Opt x))) d r g tt s (term_done w (M.with_term f (Opt x)) r a)))
    term_complete b r t (Sp.star _ c d _ x h u s) w f a =
        let k = spaced M.term_read (M.on_top w (M.with_term f (Star x None))) d r g tt s (term_done w (M.with_term f (Star x None)) r a) in
        factor_complete b c x h (M.on_top w (M.with_hole f M.item))
        (reads (M.item_read x) (M.on_top w (M.with_hole f M.item)) c d star _ g u (no_star _ _ d g (λ a. (refl, refl)) k) refl k)
    term_complete b r t (Sp.star_by _ c d e _ x y h u s i) w f a =
        factor_complete b c x h (M.on_top w (M.with_hole f M.item))
        (reads (M.item_read x) (M.on_top w (M.with_hole f M.item)) c d stars _ g u tt refl
        (spaced M.want (M.on_top w (M.with_hole f (M.star_of x))) d e g tt s (factor_complete e r y i (M.on_top w (M.with_hole f (M.star_of x))) (term_done w (M.with_term f (Star x (Some y))) r a))))
    term_complete b r t (Sp.plus _ c d _ x h u s) w f a =
        let k = spaced M.term_read (M.on_top w (M.with_term f (Plus x None))) d r g tt s (term_done w (M.with_term f (Plus x None)) r a) in
        factor_complete b c x h (M.on_top w (M.with_hole f M.item))
        (reads (M.item_read x) (M.on_top w (M.with_hole f M.item)) c d plus _ g u (no_plus _ _ d g (λ a. (refl, refl)) k) refl k)
    term_complete b r t (Sp.plus_by _ c d e _ x y h u s i) w f a =
        factor_complete b c x h (M.on_top w (M.with_hole f M.item))
        (reads (M.item_read x) (M.on_top w (M.with_hole f M.item)) c d pluses _ g u tt refl
        (spaced M.want (M.on_top w (M.with_hole f (M.plus_of x))) d e g tt s (factor_complete e r y i (M.on_top w (M.with_hole f (M.plus_of x))) (term_done w (M.with_term f (Plus x (Some y))) r a))))

    terms_complete : (b r : List ℕ) (t : Term) (ts : List Term) → TermsAt b r t ts → (w : M.Work) (f : M.Frame) → AltEnding w (record { alts = f.alts; terms = f.terms ++ t ∷ ts; hole = M.item }) r → Accepts M.want (M.on_top w (M.with_hole f M.item)) b g
    terms_complete b r t ts (Sp.last_term _ _ _ h) w f a = term_complete b r t h w f (term_ending w (M.with_term f t) r a)
    terms_complete b r t ts (Sp.more_terms _ c d e _ _ v us h k s m) w f a =
        let a2 = subst (λ (z : List Term). AltEnding w (record { alts = f.alts; terms = z; hole = M.item }) r) (sym (append_assoc f.terms (t ∷ []) (v ∷ us))) a in
        term_complete b c t h w f (record {
          lexeme = comma;
          rest = d;
          state = record { phase = M.want; work = M.on_top w (M.with_hole (M.with_term f t) M.item) };
          is_end = tt;
          token = k;
          ends = λ top. refl;
          accepts = spaced M.want (M.on_top w (M.with_hole (M.with_term f t) M.item)) d e g tt s (terms_complete e r v us m w (M.with_term f t) a2);
        })

    alt_complete : (b r : List ℕ) (ts : List Term) → AltAt b r ts → (w : M.Work) (done : List Alt) → AltEnding w (record { alts = done; terms = ts; hole = M.item }) r → Accepts M.alt_start (M.on_top w (record { alts = done; terms = []; hole = M.item })) b g
    alt_complete b r ts (Sp.empty_alt _) w done a =
        let top : M.Frame = record { alts = done; terms = []; hole = M.item } in
        reads M.alt_start (M.on_top w top) b a.rest a.lexeme a.state g a.token (end_fits a.lexeme (term_of_alt a.lexeme a.is_end) a.rest) (empty_alt_step a.lexeme a.is_end (M.on_top w top) ∙ a.ends top) a.accepts
    alt_complete b r ts (Sp.some_terms _ _ t us h) w done a =
        alt_as_want (M.on_top w (record { alts = done; terms = []; hole = M.item })) b (terms_complete b r t us h w (record { alts = done; terms = []; hole = M.item }) a)

    alts_complete : (b r : List ℕ) (al : List Alt) → AltsAt b r al → (w : M.Work) (done : List Alt) → Ending w (done ++ al) r → Accepts M.alt_start (M.on_top w (record { alts = done; terms = []; hole = M.item })) b g
    alts_complete b r al (Sp.last_alt _ _ x h) w done a = alt_complete b r x.terms h w done (alt_ending w (done ++ x ∷ []) (record { alts = done; terms = x.terms; hole = M.item }) r refl a)
    alts_complete b r al (Sp.more_alts _ c d e _ x rest h k s m) w done a =
        let a2 = subst (λ (z : List Alt). Ending w z r) (sym (append_assoc done (x ∷ []) rest)) a in
        alt_complete b c x.terms h w done (next_alt w done x c d k (spaced M.alt_start (M.on_top w (record { alts = done ++ x ∷ []; terms = []; hole = M.item })) d e g tt s (alts_complete e r rest m w (done ++ x ∷ []) a2)))

  -- ---- rules

  -- the work behind a rule
  abbrev and_rule : M.Work → Rule → M.Work
  and_rule w rule = record { version = w.version; rules = w.rules ++ rule ∷ []; mark = rule.mark; name = rule.name; top = M.no_frame; below = [] }

  rule_ending : (w : M.Work) (m : Option Mark) (n : List ℕ) (al : List Alt) (c r : List ℕ) → Takes (codes ".") c r → Accepts M.rule_next (and_rule w (record { mark = m; name = n; alts = al })) r g
      → Ending (record { version = w.version; rules = w.rules; mark = m; name = n; top = M.no_frame; below = [] }) al c
  rule_ending w m n al c r t a = record {
    lexeme = stop;
    rest = r;
    state = record { phase = M.rule_next; work = and_rule w (record { mark = m; name = n; alts = al }) };
    is_end = tt;
    token = t;
    ends = λ f top e. ap (λ (z : List Alt). M.goes M.rule_next (and_rule w (record { mark = m; name = n; alts = z }))) e;
    accepts = a;
  }

  named_complete : (w : M.Work) (m : Option Mark) (n : List ℕ) (al : List Alt) (d e f h i r : List ℕ) → S d e → Takes (codes "=") e f ⊎ Takes (codes ":") e f → S f h → AltsAt h i al → Takes (codes ".") i r
      → Accepts M.rule_next (and_rule w (record { mark = m; name = n; alts = al })) r g → Accepts M.rule_named (M.named w m n) d g
  named_complete w m n al d e f h i r s t u k l a =
      let v : M.Work = record { version = w.version; rules = w.rules; mark = m; name = n; top = M.no_frame; below = [] } in
      spaced M.rule_named (M.named w m n) d e g tt s (go t (spaced M.alt_start v f h g tt u (alts_complete h i al k v [] (rule_ending w m n al i r l a))))
    where
      go : Takes (codes "=") e f ⊎ Takes (codes ":") e f → Accepts M.alt_start (record { version = w.version; rules = w.rules; mark = m; name = n; top = M.no_frame; below = [] }) f g → Accepts M.rule_named (M.named w m n) e g
      go (inl q) b = reads M.rule_named (M.named w m n) e f equals _ g q tt refl b
      go (inr q) b = reads M.rule_named (M.named w m n) e f colon _ g q tt refl b

  name_complete : (w : M.Work) (m : Option Mark) (n b c d : List ℕ) → MarkAt b c m → NameAt c d n → Accepts M.rule_named (M.named w m n) d g → Accepts M.rule_start w b g
  name_complete w m n b c d (Sp.no_mark _) h a = reads M.rule_start w c d (word n) _ g h tt refl a
  name_complete w m n b c d (Sp.attribute _ e _ t s) h a =
      reads M.rule_start w b e at _ g t tt refl (spaced M.rule_marked (M.named w (Some Attribute) []) e c g tt s (reads M.rule_marked (M.named w (Some Attribute) []) c d (word n) _ g h tt refl a))
  name_complete w m n b c d (Sp.element _ e _ t s) h a =
      reads M.rule_start w b e caret _ g t tt refl (spaced M.rule_marked (M.named w (Some Element) []) e c g tt s (reads M.rule_marked (M.named w (Some Element) []) c d (word n) _ g h tt refl a))
  name_complete w m n b c d (Sp.hidden _ e _ t s) h a =
      reads M.rule_start w b e dash _ g t tt refl (spaced M.rule_marked (M.named w (Some Hidden) []) e c g tt s (reads M.rule_marked (M.named w (Some Hidden) []) c d (word n) _ g h tt refl a))

  rule_complete : (w : M.Work) (b r : List ℕ) (rule : Rule) → RuleAt b r rule → Accepts M.rule_next (and_rule w rule) r g → Accepts M.rule_start w b g
  rule_complete w b r rule (Sp.a_rule _ c d e f h i _ _ m n s t u k l) a =
      name_complete w rule.mark rule.name b c d m n (named_complete w rule.mark rule.name rule.alts d e f h i r s t u k l a)

  next_as_start : (w : M.Work) (c d : List ℕ) → RS c d → Accepts M.rule_start w d g → Accepts M.rule_next w c g
  next_as_start w c d s ([], l, h) = absurd (cc h)
  next_as_start w c d s (t ∷ ts, (r, e, n, l), h) =
      let a : after c ≡ after d = spacing_runs c d s.0 in
      let n2 = ap next a ∙ n in
      let gap : has_gap c ≡ true = go (spacing_less c d s.0) (spacing_less d (after d) (spacing_to_after d)) a in
      (record { gap = true; lexeme = t.lexeme } ∷ ts, (r, sym gap, n2, l), h)
    where
      go : (c ≡ d) ⊎ (length d < length c) → (d ≡ after d) ⊎ (length (after d) < length d) → after c ≡ after d → has_gap c ≡ true
      go (inl k) _ _ = absurd (s.1 k)
      go (inr k) (inl q) a = lt-ltb _ _ (omega (arith, k, ap length q, ap length a))
      go (inr k) (inr q) a = lt-ltb _ _ (omega (arith, k, q, ap length a))

  end_complete : (w : M.Work) (c : List ℕ) → S c [] → g ≡ record { version = w.version; rules = w.rules } → Accepts M.rule_next w c g
  end_complete w c s e = ([], spacing_runs c [] s, ap Some (sym e))

  rules_complete : (b r : List ℕ) (rs : List Rule) → RulesAt b r rs → (w : M.Work) → S r [] → g ≡ record { version = w.version; rules = w.rules ++ rs } → Accepts M.rule_start w b g
  rules_complete b r rs (Sp.last_rule _ _ rule h) w s e = rule_complete w b r rule h (end_complete (and_rule w rule) r s e)
  rules_complete b r rs (Sp.more_rules _ c d _ rule rest h u m) w s e =
      let e2 : g ≡ record { version = w.version; rules = (w.rules ++ rule ∷ []) ++ rest } = e ∙ ap (λ (z : List Rule). let x : Grammar = record { version = w.version; rules = z } in x) (sym (append_assoc w.rules (rule ∷ []) rest)) in
      rule_complete w b c rule h (next_as_start (and_rule w rule) c d u (rules_complete d r rest m (and_rule w rule) s e2))

  -- ---- the prolog

  ixml_as_named : (w : M.Work) (c : List ℕ) → Accepts M.rule_named w c g → Accepts M.ixml w c g
  ixml_as_named w c ([], l, h) = ([], l, h)
  ixml_as_named w c (t ∷ ts, l, h) = (t ∷ ts, l, same t.lexeme h)
    where
      same : (k : Lexeme) → M.then_run (M.step M.rule_named w t.gap k) (λ u. M.run ts u) ≡ Some g → M.then_run (M.step M.ixml w t.gap k) (λ u. M.run ts u) ≡ Some g
      same (word n) h = absurd (cc h)
      same k h = h

  begin_as_start : (w : M.Work) (c : List ℕ) → Accepts M.rule_start w c g → Accepts M.begin w c g
  begin_as_start w c ([], l, h) = ([], l, h)
  begin_as_start w c (t ∷ ts, (r, e, n, l), h) = same t.lexeme n h
    where
      same : (k : Lexeme) → next (after c) ≡ Some (k, r) → M.then_run (M.step M.rule_start w t.gap k) (λ u. M.run ts u) ≡ Some g → Accepts M.begin w c g
      same (word n2) q h =
          elim (M.is_text n2 (codes "ixml")) as (λ b. M.is_text n2 (codes "ixml") ≡ b → Accepts M.begin w c g) [
            | true ↦ λ i.
                let (us, l2, h2) = ixml_as_named (M.named w None n2) r (ts, l, h) in
                (record { gap = t.gap; lexeme = word n2 } ∷ us, (r, e, q, l2), rw i h2)
            | false ↦ λ i. (record { gap = t.gap; lexeme = word n2 } ∷ ts, (r, e, q, l), rw i h)
          ] refl
      same k q h = (record { gap = t.gap; lexeme = k } ∷ ts, (r, e, q, l), h)

  -- a name of the prolog's, with spacing behind it
  ends_behind : (c d : List ℕ) → S c d → c ≢ d → IsTrue (ends_run c)
  ends_behind c d (Sg.no_spacing _) n = absurd (n refl)
  ends_behind c d (Sg.blank x _ _ h s) n = false_not _ (blank_no_part x h)
  ends_behind c d (Sg.comment _ _ _ (Sg.braces _ e f _ h i j) s) n = subst (λ (z : List ℕ). IsTrue (ends_run z)) (sym h) (false_not _ brace_no_part)

  letter : (x : ℕ) → char_set_contains (codes "ixmlversion") x ≡ true → (is_name_start x ≡ true) × (is_name_part x ≡ true)
  letter x h = both (is_name_start x) (is_name_part x) (in_all (λ x. is_name_start x && is_name_part x) (codes "ixmlversion") x letters h)

  ixml_name : (b c d : List ℕ) → Takes (codes "ixml") b c → RS c d → NameAt b c (codes "ixml")
  ixml_name b c d t (s, n) = (
    t,
    (105, codes "xml", refl, (letter 105 refl).0, ((letter 120 refl).1, ((letter 109 refl).1, ((letter 108 refl).1, tt)))),
    inl (after c, ends_behind c d s n, after_is_all c, refl),
  )

  version_name : (b c d : List ℕ) → Takes (codes "version") b c → RS c d → NameAt b c (codes "version")
  version_name b c d t (s, n) = (
    t,
    (118, codes "ersion", refl, (letter 118 refl).0, ((letter 101 refl).1, ((letter 114 refl).1, ((letter 115 refl).1, ((letter 105 refl).1, ((letter 111 refl).1, ((letter 110 refl).1, tt))))))),
    inl (after c, ends_behind c d s n, after_is_all c, refl),
  )

  -- the work behind a prolog
  abbrev prolog_work : Option (List ℕ) → M.Work
  prolog_work v = record { version = v; rules = []; mark = None; name = codes "ixml"; top = M.no_frame; below = [] }

  spelled_read : (b c : List ℕ) (v : Option (List ℕ)) → PrologAt b c v → (d : List ℕ) (rs : List Rule) → RulesAt c d rs → S d [] → g ≡ record { version = v; rules = rs } → Accepts M.begin M.start.work b g
  spelled_read b c v (Sp.no_prolog _) q rs h s e = begin_as_start M.start.work b (rules_complete b q rs h M.start.work s e)
  spelled_read b c v (Sp.prolog _ c0 d e f h i _ xs t u k l m n j o y) q rs r s z =
      let a1 = rules_complete c q rs r (prolog_work (Some xs)) s z in
      let a2 = reads M.prolog_stop (prolog_work (Some xs)) i j stop _ g o tt refl (spaced M.rule_start (prolog_work (Some xs)) j c g tt y a1) in
      let a3 = spaced M.prolog_stop (prolog_work (Some xs)) h i g tt n a2 in
      let gap2 : has_gap e ≡ true = gap_true e f l (token_solid f h (quote xs) m) in
      let a4 = token_accepts M.version_next (prolog_work None) e f h (quote xs) (record { phase = M.prolog_stop; work = prolog_work (Some xs) }) g l.0 m (no_quote M.prolog_stop (prolog_work (Some xs)) h g (λ xs a. refl) a3) (ap (λ (z : Bool). M.step M.version_next (prolog_work None) z (quote xs)) gap2) a3 in
      let name2 = version_name d e f k l in
      let gap1 : has_gap c0 ≡ true = gap_true c0 d u (token_solid d e (word (codes "version")) name2) in
      let a5 = token_accepts M.ixml (prolog_work None) c0 d e (word (codes "version")) (record { phase = M.version_next; work = prolog_work None }) g u.0 name2 tt (ap (λ (z : Bool). M.step M.ixml (prolog_work None) z (word (codes "version"))) gap1) a4 in
      reads M.begin M.start.work b c0 (word (codes "ixml")) (record { phase = M.ixml; work = prolog_work None }) g (ixml_name b c0 d t u) tt refl a5

  spells_read : (c : List ℕ) → Spells c g → Accepts M.begin M.start.work c g
  spells_read c (Sp.spells _ b d q _ s p r e) = spaced M.begin M.start.work c b g tt s (spelled_read b d g.version p q g.rules r e refl)

-- what is spelled is what the tokens read
pub spelled_reads : (c : List ℕ) (g : Grammar) → Spells c g → (ts : List Token) × Lexes ts c × (M.run ts M.start ≡ Some g)
spelled_reads c g h = spells_read g c h

-- ---- one reading

same_token : (t u : Token) → t.gap ≡ u.gap → t.lexeme ≡ u.lexeme → t ≡ u
same_token t u p q = ap₂ (λ (a : Bool) (k : Lexeme). let x : Token = record { gap = a; lexeme = k } in x) p q

pub same_some : (a b : Lexeme × List ℕ) → Some a ≡ Some b → a ≡ b
same_some a b e = cc e

token_solid_next : (c : List ℕ) (v : Lexeme × List ℕ) → next c ≡ Some v → c ≡ [] → ⊥
token_solid_next c v e h = let k : None ≡ Some v = ap next (sym h) ∙ e in absurd (cc k)

pub lexes_once : (ts us : List Token) (c : List ℕ) → Lexes ts c → Lexes us c → ts ≡ us
lexes_once [] [] c h k = refl
lexes_once [] (u ∷ us) c h (r, e, n, l) = absurd (token_solid_next (after c) (u.lexeme, r) n h)
lexes_once (t ∷ ts) [] c (r, e, n, l) k = absurd (token_solid_next (after c) (t.lexeme, r) n k)
lexes_once (t ∷ ts) (u ∷ us) c (r, e, n, l) (q, f, m, k) =
    let p : (t.lexeme, r) ≡ (u.lexeme, q) = same_some (t.lexeme, r) (u.lexeme, q) (sym n ∙ m) in
    let d : ts ≡ us = lexes_once ts us q (subst (λ (z : List ℕ). Lexes ts z) (ap (λ (v : Lexeme × List ℕ). v.1) p) l) k in
    ap₂ (λ (x : Token) (z : List Token). x ∷ z) (same_token t u (e ∙ sym f) (ap (λ (v : Lexeme × List ℕ). v.0) p)) d

-- at most one grammar has the spelling
pub spelled_once : (c : List ℕ) (g h : Grammar) → Spells c g → Spells c h → g ≡ h
spelled_once c g h p q = go (spelled_reads c g p) (spelled_reads c h q)
  where
    go : (ts : List Token) × Lexes ts c × (M.run ts M.start ≡ Some g) → (us : List Token) × Lexes us c × (M.run us M.start ≡ Some h) → g ≡ h
    go (ts, l, e) (us, k, f) = let d : Some g ≡ Some h = sym e ∙ ap (λ (z : List Token). M.run z M.start) (lexes_once ts us c l k) ∙ f in cc d
