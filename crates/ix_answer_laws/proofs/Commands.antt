-- Words are read in one way, and that way can be computed; so they ask for one command, or have no form.
use Rattle.std.proofs.Common.{◌≡◌, ◌≢◌, refl, ap, ap₂, sym, subst, ◌∙◌, ◌⊎◌, ℕ, ◌<◌, ◌≤◌, Bool, true, false, if◌then◌else◌, List, [], ◌∷◌, ◌++◌, length, Option, None, Some, option_map, codes, arith}
use mathlib.Core.Logic.{inl, inr}
use Rattle.std.specs.Prelude.{not, ◌||◌, ◌==◌}
use Rattle.std.specs.Str.{bytes_eq}
use Rattle.std.specs.Char.{digit_value}
use Rattle.std.specs.Str.Parse.{AllDigits, digits_value}
use Rattle.std.proofs.lemmas.Slice.Eq.{bytes_eq-Decides}
use Rattle.std.proofs.lemmas.Bool.Decides.{Decides-eqb}
use Rattle.ix_model.specs.Answers.CommandLine.{Command, parse, check, sample, IsOperand, Reads, no_word, end_of_options, next_value, joined_value, operand, IsCount, IsWorkers, Asks, IsCommand, HasNoForm}
use Rattle.ix_answer_laws.proofs.Firsts.{in_order, same_list}

abbrev Words : Type 0
Words = List (List ℕ)

-- what stands behind a prefix
abbrev after : List ℕ → List ℕ → Option (List ℕ)
after [] w = Some w
after (p ∷ ps) [] = None
after (p ∷ ps) (c ∷ cs) = if c == p then after ps cs else None

abbrev is_operand : List ℕ → Bool
is_operand [] = true
is_operand (c ∷ cs) = not (c == 45) || bytes_eq cs []

abbrev with_value : List ℕ → Option (Words × Words) → Option (Words × Words)
with_value val rest = option_map (λ read. (read.0, val ∷ read.1)) rest

abbrev with_operand : List ℕ → Option (Words × Words) → Option (Words × Words)
with_operand w rest = option_map (λ read. (w ∷ read.0, read.1)) rest

-- one word more, by the tests of it
abbrev step : (ends takes_next : Bool) → Option (List ℕ) → Bool → List ℕ → Words → (rest next : Option (Words × Words)) → Option (Words × Words)
step true b joined op w words rest next = Some (words, [])
step false true joined op w words rest next = next
step false false (Some val) op w words rest next = with_value val rest
step false false None true w words rest next = with_operand w rest
step false false None false w words rest next = None

abbrev mutual
  -- the operands and the values of the words
  pub read_of : Words → Option (Words × Words)
  read_of [] = Some ([], [])
  read_of (w ∷ words) = step (bytes_eq w (codes "--")) (bytes_eq w (codes "--workers")) (after (codes "--workers=") w) (is_operand w) w words (read_of words) (value_of words)

  -- the same where the first word is a value
  value_of : Words → Option (Words × Words)
  value_of [] = None
  value_of (val ∷ words) = with_value val (read_of words)

-- ---- what is read is computed

not_hyphen : (c : ℕ) → c ≢ 45 → (c == 45) ≡ false
not_hyphen c h = by_test (c == 45) refl
  where
    by_test : (b : Bool) → (c == 45) ≡ b → (c == 45) ≡ false
    by_test true e = absurd (h ((Decides-eqb c 45).0 e))
    by_test false e = e

operand_read : (w : List ℕ) (words : Words) → IsOperand w → read_of (w ∷ words) ≡ with_operand w (read_of words)
operand_read [] words h = refl
operand_read (c ∷ cs) words h = by_first (in_order c 45) h
  where
    unlike : c ≢ 45 → read_of ((c ∷ cs) ∷ words) ≡ with_operand (c ∷ cs) (read_of words)
    unlike n = simp (not_hyphen c n) refl

    by_first : (c < 45) ⊎ ((c ≡ 45) ⊎ (45 < c)) → (c ≢ 45) ⊎ (cs ≡ []) → read_of ((c ∷ cs) ∷ words) ≡ with_operand (c ∷ cs) (read_of words)
    by_first p (inl n) = unlike n
    by_first (inl l) q = unlike (λ e. omega (arith, l, e))
    by_first (inr (inr l)) q = unlike (λ e. omega (arith, l, e))
    by_first (inr (inl e)) (inr f) =
        let p : codes "-" ≡ c ∷ cs = cc (e, f) in
        subst (λ w. read_of (w ∷ words) ≡ with_operand w (read_of words)) p refl

pub read_is : (words operands values : Words) → Reads words operands values → read_of words ≡ Some (operands, values)
read_is _ _ _ no_word = refl
read_is _ _ _ (end_of_options w words e) = subst (λ x. read_of (x ∷ words) ≡ Some (words, [])) (sym e) refl
read_is _ _ _ (next_value w val words operands values e h) =
    subst (λ x. read_of (x ∷ val ∷ words) ≡ Some (operands, val ∷ values)) (sym e) (ap (with_value val) (read_is words operands values h))
read_is _ _ _ (joined_value w val words operands values e h) =
    subst (λ x. read_of (x ∷ words) ≡ Some (operands, val ∷ values)) (sym e) (ap (with_value val) (read_is words operands values h))
read_is _ _ _ (operand w words operands values o h) = operand_read w words o ∙ ap (with_operand w) (read_is words operands values h)

-- ---- at most one command

count_is_one : (figures most : ℕ) (word : List ℕ) (n m : ℕ) → IsCount figures most word n → IsCount figures most word m → n ≡ m
count_is_one figures most word n m h k = h.2 ∙ sym k.2

workers_are_one : (values : Words) (n m : ℕ) → IsWorkers values n → IsWorkers values m → n ≡ m
workers_are_one [] n m h k = h ∙ sym k
workers_are_one (val ∷ []) n m h k = count_is_one _ _ val n m h k
workers_are_one (val ∷ other ∷ values) n m h k = absurd h

-- the first letter
abbrev letter : List ℕ → ℕ
letter [] = 0
letter (c ∷ cs) = c

asks_one : (word : List ℕ) (operands values : Words) (command other : Command) → Asks word operands values command → Asks word operands values other → command ≡ other
asks_one word operands values (parse g t n) (parse g' t' m) (e, f, w) (e', f', w') =
    let p : g ∷ t ∷ [] ≡ g' ∷ t' ∷ [] = sym f ∙ f' in
    cc (p, workers_are_one values n m w w')
asks_one word operands values (check g) (check g') (e, f, w) (e', f', w') =
    let p : g ∷ [] ≡ g' ∷ [] = sym f ∙ f' in
    cc p
asks_one word operands values (sample k n) (sample l m) (e, number, f, c, w) (e', number', f', c', w') =
    let p : number ∷ [] ≡ number' ∷ [] = sym f ∙ f' in
    let q : number' ≡ number = cc p in
    cc (count_is_one 5 10000 number k l c (subst (λ x. IsCount 5 10000 x l) q c'), workers_are_one values n m w w')
asks_one word operands values (parse g t n) (check g') h k = absurd (omega (arith, ap letter (sym h.0 ∙ k.0)))
asks_one word operands values (parse g t n) (sample l m) h k = absurd (omega (arith, ap letter (sym h.0 ∙ k.0)))
asks_one word operands values (check g) (parse g' t' m) h k = absurd (omega (arith, ap letter (sym h.0 ∙ k.0)))
asks_one word operands values (check g) (sample l m) h k = absurd (omega (arith, ap letter (sym h.0 ∙ k.0)))
asks_one word operands values (sample l m) (parse g' t' n) h k = absurd (omega (arith, ap letter (sym h.0 ∙ k.0)))
asks_one word operands values (sample l m) (check g) h k = absurd (omega (arith, ap letter (sym h.0 ∙ k.0)))

-- what a command is made of, where its words are known
pub parts_are : (word : List ℕ) (others operands values : Words) (command : Command) → read_of others ≡ Some (operands, values) → IsCommand (word ∷ others) command → Asks word operands values command
parts_are word others operands values command r (w, os, ops, vals, e, h, a) =
    let f : w ≡ word = cc e in
    let g : os ≡ others = cc e in
    let s : Some (ops, vals) ≡ Some (operands, values) = sym (read_is os ops vals h) ∙ ap read_of g ∙ r in
    let t : (ops, vals) ≡ (operands, values) = cc s in
    let p : ops ≡ operands = ap (λ (x : Words × Words). x.0) t in
    let q : vals ≡ values = ap (λ (x : Words × Words). x.1) t in
    subst (λ x. Asks word operands x command) q (subst (λ x. Asks word x vals command) p (subst (λ x. Asks x ops vals command) f a))

-- words that are not read have no form
pub unread : (word : List ℕ) (others : Words) → read_of others ≡ None → HasNoForm (word ∷ others)
unread word others r command (w, os, ops, vals, e, h, a) =
    let g : os ≡ others = cc e in
    let s : Some (ops, vals) ≡ None = sym (read_is os ops vals h) ∙ ap read_of g ∙ r in
    cc s

pub no_words : HasNoForm []
no_words command (w, os, ops, vals, e, h, a) = cc e

pub command_is_one : (words : Words) (command other : Command) → IsCommand words command → IsCommand words other → command ≡ other
command_is_one words command other (w, os, ops, vals, e, h, a) k =
    asks_one w ops vals command other a (parts_are w os ops vals other (read_is os ops vals h) (subst (λ ws. IsCommand ws other) e k))

-- ---- what is computed is read

mapped : (f : Words × Words → Words × Words) (rest : Option (Words × Words)) (y : Words × Words) → option_map f rest ≡ Some y → (x : Words × Words) × (rest ≡ Some x) × (f x ≡ y)
mapped f None y e = absurd (cc e)
mapped f (Some x) y e = (x, refl, cc e)

behind : (prefix w val : List ℕ) → after prefix w ≡ Some val → w ≡ prefix ++ val
behind [] w val e = cc e
behind (p ∷ ps) [] val e = absurd (cc e)
behind (p ∷ ps) (c ∷ cs) val e = by_test (c == p) refl (behind ps cs val) e
  where
    by_test : (b : Bool) → (c == p) ≡ b → (after ps cs ≡ Some val → cs ≡ ps ++ val) → (if b then after ps cs else None) ≡ Some val → c ∷ cs ≡ p ∷ (ps ++ val)
    by_test true t rest h = ap₂ (λ (x : ℕ) xs. x ∷ xs) ((Decides-eqb c p).0 t) (rest h)
    by_test false t rest h = absurd (cc h)

operand_is : (w : List ℕ) → is_operand w ≡ true → IsOperand w
operand_is [] e = tt
operand_is (c ∷ cs) e = by_test (c == 45) refl e
  where
    by_test : (b : Bool) → (c == 45) ≡ b → (not b || bytes_eq cs []) ≡ true → (c ≢ 45) ⊎ (cs ≡ [])
    by_test true t h = inr ((bytes_eq-Decides cs []).0 h)
    by_test false t h = inl (λ f. let x : false ≡ true = sym t ∙ (Decides-eqb c 45).1 f in cc x)

-- what a value and the words behind it are
abbrev IsValued : Words → Words → Words → Type 0
IsValued words operands values = (val : List ℕ) × (others vals : Words) × (words ≡ val ∷ others) × (values ≡ val ∷ vals) × Reads others operands vals

of_step : (ends next : Bool) (joined : Option (List ℕ)) (op : Bool) (w : List ℕ) (words operands values : Words) →
    bytes_eq w (codes "--") ≡ ends → bytes_eq w (codes "--workers") ≡ next → after (codes "--workers=") w ≡ joined → is_operand w ≡ op →
    ((ops vals : Words) → read_of words ≡ Some (ops, vals) → Reads words ops vals) →
    ((ops vals : Words) → value_of words ≡ Some (ops, vals) → IsValued words ops vals) →
    step ends next joined op w words (read_of words) (value_of words) ≡ Some (operands, values) → Reads (w ∷ words) operands values
of_step true next joined op w words operands values a b c d rest valued e =
    let t : (words, []) ≡ (operands, values) = cc e in
    subst (λ x. Reads (w ∷ words) x values) (ap (λ (x : Words × Words). x.0) t) (subst (λ x. Reads (w ∷ words) words x) (ap (λ (x : Words × Words). x.1) t) (end_of_options w words ((bytes_eq-Decides w (codes "--")).0 a)))
of_step false true joined op w words operands values a b c d rest valued e =
    let v = valued operands values e in
    subst (λ x. Reads (w ∷ x) operands values) (sym v.3) (subst (λ x. Reads (w ∷ v.0 ∷ v.1) operands x) (sym v.4) (next_value w v.0 v.1 operands v.2 ((bytes_eq-Decides w (codes "--workers")).0 b) v.5))
of_step false false (Some val) op w words operands values a b c d rest valued e =
    let m = mapped (λ read. (read.0, val ∷ read.1)) (read_of words) (operands, values) e in
    let h : Reads words m.0.0 m.0.1 = rest m.0.0 m.0.1 m.1 in
    subst (λ x. Reads (w ∷ words) x values) (ap (λ (x : Words × Words). x.0) m.2) (subst (λ x. Reads (w ∷ words) m.0.0 x) (ap (λ (x : Words × Words). x.1) m.2) (joined_value w val words m.0.0 m.0.1 (behind (codes "--workers=") w val c) h))
of_step false false None true w words operands values a b c d rest valued e =
    let m = mapped (λ read. (w ∷ read.0, read.1)) (read_of words) (operands, values) e in
    let h : Reads words m.0.0 m.0.1 = rest m.0.0 m.0.1 m.1 in
    subst (λ x. Reads (w ∷ words) x values) (ap (λ (x : Words × Words). x.0) m.2) (subst (λ x. Reads (w ∷ words) (w ∷ m.0.0) x) (ap (λ (x : Words × Words). x.1) m.2) (operand w words m.0.0 m.0.1 (operand_is w d) h))
of_step false false None false w words operands values a b c d rest valued e = absurd (cc e)

mutual
  pub of_read : (words operands values : Words) → read_of words ≡ Some (operands, values) → Reads words operands values
  of_read [] operands values e =
      let t : ([], []) ≡ (operands, values) = cc e in
      subst (λ x. Reads [] x values) (ap (λ (x : Words × Words). x.0) t) (subst (λ x. Reads [] [] x) (ap (λ (x : Words × Words). x.1) t) no_word)
  of_read (w ∷ words) operands values e = of_step _ _ _ _ w words operands values refl refl refl refl (of_read words) (of_value words) e

  of_value : (words operands values : Words) → value_of words ≡ Some (operands, values) → IsValued words operands values
  of_value [] operands values e = absurd (cc e)
  of_value (val ∷ words) operands values e =
      let m = mapped (λ read. (read.0, val ∷ read.1)) (read_of words) (operands, values) e in
      let h : Reads words m.0.0 m.0.1 = of_read words m.0.0 m.0.1 m.1 in
      (val, words, m.0.1, refl, sym (ap (λ (x : Words × Words). x.1) m.2), subst (λ x. Reads words x m.0.1) (ap (λ (x : Words × Words). x.0) m.2) h)

-- ---- one command or none

all_digits : (word : List ℕ) → AllDigits 10 word ⊎ ¬ (AllDigits 10 word)
all_digits [] = inl tt
all_digits (c ∷ cs) = by_both (in_order (digit_value c) 10) (all_digits cs)
  where
    by_both : (digit_value c < 10) ⊎ ((digit_value c ≡ 10) ⊎ (10 < digit_value c)) → AllDigits 10 cs ⊎ ¬ (AllDigits 10 cs) → AllDigits 10 (c ∷ cs) ⊎ ¬ (AllDigits 10 (c ∷ cs))
    by_both (inl l) (inl a) = inl (l, a)
    by_both p (inr n) = inr (λ h. n h.1)
    by_both (inr (inl e)) (inl a) = inr (λ h. omega (arith, e, h.0))
    by_both (inr (inr l)) (inl a) = inr (λ h. omega (arith, l, h.0))

at_most : (a b : ℕ) → (a ≤ b) ⊎ ¬ (a ≤ b)
at_most a b = by_order (in_order a b)
  where
    by_order : (a < b) ⊎ ((a ≡ b) ⊎ (b < a)) → (a ≤ b) ⊎ ¬ (a ≤ b)
    by_order (inl l) = inl (omega (arith, l))
    by_order (inr (inl e)) = inl (omega (arith, e))
    by_order (inr (inr l)) = inr (λ h. omega (arith, l, h))

count_or_none : (figures most : ℕ) (word : List ℕ) → ((n : ℕ) × IsCount figures most word n) ⊎ ((n : ℕ) → ¬ (IsCount figures most word n))
count_or_none figures most word = by_all (at_most 1 (length word)) (all_digits word) (at_most (length word) figures) (at_most 1 (digits_value 10 word)) (at_most (digits_value 10 word) most)
  where
    by_all : (1 ≤ length word) ⊎ ¬ (1 ≤ length word) → AllDigits 10 word ⊎ ¬ (AllDigits 10 word) → (length word ≤ figures) ⊎ ¬ (length word ≤ figures) →
        (1 ≤ digits_value 10 word) ⊎ ¬ (1 ≤ digits_value 10 word) → (digits_value 10 word ≤ most) ⊎ ¬ (digits_value 10 word ≤ most) →
        ((n : ℕ) × IsCount figures most word n) ⊎ ((n : ℕ) → ¬ (IsCount figures most word n))
    by_all (inl a) (inl b) (inl c) (inl d) (inl e) = inl (digits_value 10 word, ((omega (arith, a), b), c, refl, d, e))
    by_all (inr a) b c d e = inr (λ n h. a (omega (arith, h.0.0)))
    by_all (inl a) (inr b) c d e = inr (λ n h. b h.0.1)
    by_all (inl a) (inl b) (inr c) d e = inr (λ n h. c h.1)
    by_all (inl a) (inl b) (inl c) (inr d) e = inr (λ n h. d (omega (arith, h.2, h.3)))
    by_all (inl a) (inl b) (inl c) (inl d) (inr e) = inr (λ n h. e (omega (arith, h.2, h.4)))

workers_or_none : (values : Words) → ((n : ℕ) × IsWorkers values n) ⊎ ((n : ℕ) → ¬ (IsWorkers values n))
workers_or_none [] = inl (2, refl)
workers_or_none (val ∷ []) = count_or_none _ _ val
workers_or_none (val ∷ other ∷ values) = inr (λ n h. h)

module _ (word : List ℕ) (operands values : Words) where
  abbrev Asked : Type 0
  Asked = ((command : Command) × Asks word operands values command) ⊎ ((command : Command) → ¬ (Asks word operands values command))

  -- each command has its word
  none_of : word ≢ codes "parse" → word ≢ codes "check" → word ≢ codes "sample" → (command : Command) → ¬ (Asks word operands values command)
  none_of p c s (parse g t n) h = p h.0
  none_of p c s (check g) h = c h.0
  none_of p c s (sample k n) h = s h.0

  only_parse : word ≡ codes "parse" → ((g t : List ℕ) (n : ℕ) → ¬ (Asks word operands values (parse g t n))) → (command : Command) → ¬ (Asks word operands values command)
  only_parse e none (parse g t n) h = none g t n h
  only_parse e none (check g) h = omega (arith, ap letter (sym e ∙ h.0))
  only_parse e none (sample k n) h = omega (arith, ap letter (sym e ∙ h.0))

  only_check : word ≡ codes "check" → ((g : List ℕ) → ¬ (Asks word operands values (check g))) → (command : Command) → ¬ (Asks word operands values command)
  only_check e none (parse g t n) h = omega (arith, ap letter (sym e ∙ h.0))
  only_check e none (check g) h = none g h
  only_check e none (sample k n) h = omega (arith, ap letter (sym e ∙ h.0))

  only_sample : word ≡ codes "sample" → ((k n : ℕ) → ¬ (Asks word operands values (sample k n))) → (command : Command) → ¬ (Asks word operands values command)
  only_sample e none (parse g t n) h = omega (arith, ap letter (sym e ∙ h.0))
  only_sample e none (check g) h = omega (arith, ap letter (sym e ∙ h.0))
  only_sample e none (sample k n) h = none k n h

asks_parse : (word : List ℕ) (operands values : Words) → word ≡ codes "parse" → Asked word operands values
asks_parse word (g ∷ t ∷ []) values e = by_workers (workers_or_none values)
  where
    by_workers : ((n : ℕ) × IsWorkers values n) ⊎ ((n : ℕ) → ¬ (IsWorkers values n)) → Asked word (g ∷ t ∷ []) values
    by_workers (inl (n, h)) = inl (parse g t n, (e, refl, h))
    by_workers (inr none) = inr (only_parse word _ values e (λ g t n h. none n h.2))
asks_parse word [] values e = inr (only_parse word _ values e (λ g t n h. cc h.1))
asks_parse word (g ∷ []) values e = inr (only_parse word _ values e (λ g t n h. cc h.1))
asks_parse word (g ∷ t ∷ u ∷ us) values e = inr (only_parse word _ values e (λ g t n h. cc h.1))

asks_check : (word : List ℕ) (operands values : Words) → word ≡ codes "check" → Asked word operands values
asks_check word (g ∷ []) [] e = inl (check g, (e, refl, refl))
asks_check word (g ∷ []) (v ∷ vs) e = inr (only_check word (g ∷ []) (v ∷ vs) e (λ other h. cc h.2))
asks_check word [] values e = inr (only_check word _ values e (λ g h. cc h.1))
asks_check word (g ∷ t ∷ us) values e = inr (only_check word _ values e (λ g h. cc h.1))

asks_sample : (word : List ℕ) (operands values : Words) → word ≡ codes "sample" → Asked word operands values
asks_sample word (number ∷ []) values e = by_both (count_or_none 5 10000 number) (workers_or_none values)
  where
    same : (other : List ℕ) → number ∷ [] ≡ other ∷ [] → other ≡ number
    same other p = cc p

    by_both : ((k : ℕ) × IsCount 5 10000 number k) ⊎ ((k : ℕ) → ¬ (IsCount 5 10000 number k)) → ((n : ℕ) × IsWorkers values n) ⊎ ((n : ℕ) → ¬ (IsWorkers values n)) → Asked word (number ∷ []) values
    by_both (inl (k, h)) (inl (n, w)) = inl (sample k n, (e, number, refl, h, w))
    by_both (inr none) w = inr (only_sample word _ values e (λ k n h. none k (subst (λ x. IsCount 5 10000 x k) (same h.1 h.2) h.3)))
    by_both (inl k) (inr none) = inr (only_sample word _ values e (λ k n h. none n h.4))
asks_sample word [] values e = inr (only_sample word _ values e (λ k n h. cc h.2))
asks_sample word (g ∷ t ∷ us) values e = inr (only_sample word _ values e (λ k n h. cc h.2))

asks_or_not : (word : List ℕ) (operands values : Words) → Asked word operands values
asks_or_not word operands values = by_word (same_list word (codes "parse")) (same_list word (codes "check")) (same_list word (codes "sample"))
  where
    by_word : (word ≡ codes "parse") ⊎ (word ≢ codes "parse") → (word ≡ codes "check") ⊎ (word ≢ codes "check") → (word ≡ codes "sample") ⊎ (word ≢ codes "sample") → Asked word operands values
    by_word (inl e) c s = asks_parse word operands values e
    by_word (inr p) (inl e) s = asks_check word operands values e
    by_word (inr p) (inr c) (inl e) = asks_sample word operands values e
    by_word (inr p) (inr c) (inr s) = inr (none_of word operands values p c s)

pub command_or_none : (words : Words) → ((command : Command) × IsCommand words command) ⊎ HasNoForm words
command_or_none [] = inr no_words
command_or_none (word ∷ others) = by_read (read_of others) refl
  where
    by_read : (r : Option (Words × Words)) → read_of others ≡ r → ((command : Command) × IsCommand (word ∷ others) command) ⊎ HasNoForm (word ∷ others)
    by_read None e = inr (unread word others e)
    by_read (Some (operands, values)) e = by_asked (asks_or_not word operands values)
      where
        by_asked : Asked word operands values → ((command : Command) × IsCommand (word ∷ others) command) ⊎ HasNoForm (word ∷ others)
        by_asked (inl (command, h)) = inl (command, (word, others, operands, values, refl, of_read others operands values e, h))
        by_asked (inr none) = inr (λ command h. none command (parts_are word others operands values command e h))

-- `parse` with values that are no number of workers has no form
pub no_workers : (others operands values : Words) → read_of others ≡ Some (operands, values) → ((n : ℕ) → ¬ (IsWorkers values n)) → HasNoForm (codes "parse" ∷ others)
no_workers others operands values r none command h =
    only_parse (codes "parse") operands values refl (λ g t n a. none n a.2) command (parts_are (codes "parse") others operands values command r h)

-- `parse` with three operands has no form
pub three_operands : (others : Words) (g t u : List ℕ) → read_of others ≡ Some (g ∷ t ∷ u ∷ [], []) → HasNoForm (codes "parse" ∷ others)
three_operands others g t u r command h =
    only_parse (codes "parse") (g ∷ t ∷ u ∷ []) [] refl (λ g t n a. cc a.1) command (parts_are (codes "parse") others (g ∷ t ∷ u ∷ []) [] command r h)
