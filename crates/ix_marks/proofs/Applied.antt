-- The steps of a walk of bare trees leave what the bare trees give.
use Rattle.std.proofs.Common.{◌≡◌, refl, ap, sym, ◌∙◌, ℕ, suc, List, [], ◌∷◌, ◌++◌, append_assoc, append-nil, Some, slice_get}
use Rattle.std.proofs.lemmas.Option.{get_or_from_slice_get}
use Rattle.ix_model.specs.declared.grammar.Mark.TheVariants as mark
use Rattle.ix_model.specs.declared.rules.Rules.{Rules}
use Rattle.ix_model.specs.declared.step.Step.{Step}
use Rattle.ix_model.specs.declared.step.Step.TheVariants as step
use Rattle.ix_model.specs.Expansion.Numbered.{name_at}
use Rattle.ix_model.specs.Documents.Bare.{Bare, bare_text, bare_insertion, bare_node, Bares, none, more}
use Rattle.ix_model.specs.Documents.WalkGives.{IsWalk, AreWalks}
use Rattle.ix_model.specs.Documents.Gives.{attribute, element, run, Givens, nothing, followed, put_run, join_given, shown_text, value, values, gives, gives_all}
use Rattle.ix_marks.specs.Pieces.{Attribute, attribute_is, Piece, start_tag, end_tag, characters, attributes, pieces}
use Rattle.ix_marks.specs.Levels.{Level, hidden, of_element, State, outside, inside, flush, leave, after, after_all}

-- ---- what is given behind some pieces and a run

-- the run that is open at the end
abbrev pub run_after : Givens → List ℕ → List ℕ
run_after nothing cs = cs
run_after (followed (attribute name val) gs) cs = run_after gs []
run_after (followed (element name inner) gs) cs = run_after gs []
run_after (followed (run ds) gs) cs = run_after gs (cs ++ ds)

-- the pieces before that run
abbrev pub pieces_after : Givens → List Piece → List ℕ → List Piece
pieces_after nothing ps cs = ps
pieces_after (followed (attribute name val) gs) ps cs = pieces_after gs (flush ps cs) []
pieces_after (followed (element name inner) gs) ps cs = pieces_after gs (flush ps cs ++ (start_tag name (attributes inner) ∷ (pieces inner ++ (end_tag name ∷ [])))) []
pieces_after (followed (run ds) gs) ps cs = pieces_after gs ps (cs ++ ds)

-- the state in which they are given, and attributes behind those that were there
abbrev pub state_after : List Level → List Piece → List ℕ → List Attribute → Givens → State
state_after ls ps cs ats gs = outside ls (pieces_after gs ps cs) (run_after gs cs) (ats ++ attributes gs)

-- characters in front of what is given go behind the run
put_after : (ds : List ℕ) (gs : Givens) (cs : List ℕ) → run_after (put_run ds gs) cs ≡ run_after gs (cs ++ ds)
put_after [] gs cs = ap (run_after gs) (sym (append-nil cs))
put_after (d ∷ ds) nothing cs = refl
put_after (d ∷ ds) (followed (attribute name val) gs) cs = refl
put_after (d ∷ ds) (followed (element name inner) gs) cs = refl
put_after (d ∷ ds) (followed (run es) gs) cs = ap (run_after gs) (sym (append_assoc cs (d ∷ ds) es))

put_pieces : (ds : List ℕ) (gs : Givens) (ps : List Piece) (cs : List ℕ) → pieces_after (put_run ds gs) ps cs ≡ pieces_after gs ps (cs ++ ds)
put_pieces [] gs ps cs = ap (pieces_after gs ps) (sym (append-nil cs))
put_pieces (d ∷ ds) nothing ps cs = refl
put_pieces (d ∷ ds) (followed (attribute name val) gs) ps cs = refl
put_pieces (d ∷ ds) (followed (element name inner) gs) ps cs = refl
put_pieces (d ∷ ds) (followed (run es) gs) ps cs = ap (pieces_after gs ps) (sym (append_assoc cs (d ∷ ds) es))

put_attributes : (ds : List ℕ) (gs : Givens) → attributes (put_run ds gs) ≡ attributes gs
put_attributes [] gs = refl
put_attributes (d ∷ ds) nothing = refl
put_attributes (d ∷ ds) (followed (attribute name val) gs) = refl
put_attributes (d ∷ ds) (followed (element name inner) gs) = refl
put_attributes (d ∷ ds) (followed (run es) gs) = refl

-- what is given first comes before what is given then
join_after : (gs hs : Givens) (cs : List ℕ) → run_after (join_given gs hs) cs ≡ run_after hs (run_after gs cs)
join_after nothing hs cs = refl
join_after (followed (attribute name val) gs) hs cs = join_after gs hs []
join_after (followed (element name inner) gs) hs cs = join_after gs hs []
join_after (followed (run ds) nothing) hs cs = put_after ds hs cs
join_after (followed (run ds) (followed g gs)) hs cs = join_after (followed g gs) hs (cs ++ ds)

join_pieces : (gs hs : Givens) (ps : List Piece) (cs : List ℕ) → pieces_after (join_given gs hs) ps cs ≡ pieces_after hs (pieces_after gs ps cs) (run_after gs cs)
join_pieces nothing hs ps cs = refl
join_pieces (followed (attribute name val) gs) hs ps cs = join_pieces gs hs (flush ps cs) []
join_pieces (followed (element name inner) gs) hs ps cs = join_pieces gs hs (flush ps cs ++ (start_tag name (attributes inner) ∷ (pieces inner ++ (end_tag name ∷ [])))) []
join_pieces (followed (run ds) nothing) hs ps cs = put_pieces ds hs ps cs
join_pieces (followed (run ds) (followed g gs)) hs ps cs = join_pieces (followed g gs) hs ps (cs ++ ds)

join_attributes : (gs hs : Givens) → attributes (join_given gs hs) ≡ attributes gs ++ attributes hs
join_attributes nothing hs = refl
join_attributes (followed (attribute name val) gs) hs = ap (λ ats. attribute_is name val ∷ ats) (join_attributes gs hs)
join_attributes (followed (element name inner) gs) hs = join_attributes gs hs
join_attributes (followed (run ds) nothing) hs = put_attributes ds hs
join_attributes (followed (run ds) (followed g gs)) hs = join_attributes (followed g gs) hs

-- ---- runs have characters and stand apart

-- no run begins it
abbrev BeginsApart : Givens → Type 0
BeginsApart nothing = Unit {0}
BeginsApart (followed (attribute name val) gs) = Unit {0}
BeginsApart (followed (element name inner) gs) = Unit {0}
BeginsApart (followed (run cs) gs) = ⊥

-- each run has a character, and none stands beside another
abbrev pub AreApart : Givens → Type 0
AreApart nothing = Unit {0}
AreApart (followed (attribute name val) gs) = AreApart gs
AreApart (followed (element name inner) gs) = AreApart gs
AreApart (followed (run []) gs) = ⊥
AreApart (followed (run (c ∷ cs)) gs) = BeginsApart gs × AreApart gs

put_apart : (cs : List ℕ) (gs : Givens) → AreApart gs → AreApart (put_run cs gs)
put_apart [] gs h = h
put_apart (c ∷ cs) nothing h = (tt, tt)
put_apart (c ∷ cs) (followed (attribute name val) gs) h = (tt, h)
put_apart (c ∷ cs) (followed (element name inner) gs) h = (tt, h)
put_apart (c ∷ cs) (followed (run []) gs) h = absurd h
put_apart (c ∷ cs) (followed (run (d ∷ ds)) gs) h = h

join_apart : (gs hs : Givens) → AreApart gs → AreApart hs → AreApart (join_given gs hs)
join_apart nothing hs h k = k
join_apart (followed (attribute name val) gs) hs h k = join_apart gs hs h k
join_apart (followed (element name inner) gs) hs h k = join_apart gs hs h k
join_apart (followed (run []) gs) hs h k = absurd h
join_apart (followed (run (c ∷ cs)) nothing) hs h k = put_apart (c ∷ cs) hs k
join_apart (followed (run (c ∷ cs)) (followed (attribute name val) gs)) hs h k = (tt, join_apart gs hs h.1 k)
join_apart (followed (run (c ∷ cs)) (followed (element name inner) gs)) hs h k = (tt, join_apart gs hs h.1 k)
join_apart (followed (run (c ∷ cs)) (followed (run ds) gs)) hs h k = absurd h.0

-- so are the runs that bare trees give
mutual
  gives_apart : (s : List ℕ) (b : Bare) → AreApart (gives s b)
  gives_apart s (bare_text low high shown) = put_apart (shown_text s shown low high) nothing tt
  gives_apart s (bare_insertion cs) = put_apart cs nothing tt
  gives_apart s (bare_node name mark.Element bs) = tt
  gives_apart s (bare_node name mark.Attribute bs) = tt
  gives_apart s (bare_node name mark.Hidden bs) = all_apart s bs

  pub all_apart : (s : List ℕ) (bs : Bares) → AreApart (gives_all s bs)
  all_apart s none = tt
  all_apart s (more b bs) = join_apart (gives s b) (gives_all s bs) (gives_apart s b) (all_apart s bs)

-- where all is apart, each run becomes a piece
mutual
  pub settled : (gs : Givens) (ps : List Piece) → AreApart gs → flush (pieces_after gs ps []) (run_after gs []) ≡ ps ++ pieces gs
  settled nothing ps h = sym (append-nil ps)
  settled (followed (attribute name val) gs) ps h = settled gs ps h
  settled (followed (element name inner) gs) ps h =
      settled gs (ps ++ (start_tag name (attributes inner) ∷ (pieces inner ++ (end_tag name ∷ [])))) h
      ∙ append_assoc ps (start_tag name (attributes inner) ∷ (pieces inner ++ (end_tag name ∷ []))) (pieces gs)
      ∙ ap (λ zs. ps ++ (start_tag name (attributes inner) ∷ zs)) (append_assoc (pieces inner) (end_tag name ∷ []) (pieces gs))
  settled (followed (run []) gs) ps h = absurd h
  settled (followed (run (c ∷ cs)) gs) ps h =
      settled_run gs ps c cs h.0 h.1 ∙ append_assoc ps (characters (c ∷ cs) ∷ []) (pieces gs)

  settled_run : (gs : Givens) (ps : List Piece) (c : ℕ) (cs : List ℕ) → BeginsApart gs → AreApart gs → flush (pieces_after gs ps (c ∷ cs)) (run_after gs (c ∷ cs)) ≡ (ps ++ characters (c ∷ cs) ∷ []) ++ pieces gs
  settled_run nothing ps c cs b h = sym (append-nil (ps ++ characters (c ∷ cs) ∷ []))
  settled_run (followed (attribute name val) gs) ps c cs b h = settled gs (ps ++ characters (c ∷ cs) ∷ []) h
  settled_run (followed (element name inner) gs) ps c cs b h =
      settled gs ((ps ++ characters (c ∷ cs) ∷ []) ++ (start_tag name (attributes inner) ∷ (pieces inner ++ (end_tag name ∷ [])))) h
      ∙ append_assoc (ps ++ characters (c ∷ cs) ∷ []) (start_tag name (attributes inner) ∷ (pieces inner ++ (end_tag name ∷ []))) (pieces gs)
      ∙ ap (λ zs. (ps ++ characters (c ∷ cs) ∷ []) ++ (start_tag name (attributes inner) ∷ zs)) (append_assoc (pieces inner) (end_tag name ∷ []) (pieces gs))
  settled_run (followed (run ds) gs) ps c cs b h = absurd b

-- ---- the steps

module _ (rules : Rules) (s : List ℕ) where
  -- steps behind steps
  pub after_append : (st : State) (xs ys : List Step) → after_all rules s st (xs ++ ys) ≡ after_all rules s (after_all rules s st xs) ys
  after_append st [] ys = refl
  after_append st (x ∷ xs) ys = after_append (after rules s st x) xs ys

  name_is : (r : ℕ) (name : List ℕ) → slice_get rules.names r ≡ Some name → name_at rules r ≡ name
  name_is r name h = get_or_from_slice_get rules.names r name [] h

  mutual
    -- within an attribute the text counts, and nothing else
    inside_walk : (b : Bare) (xs : List Step) → IsWalk rules b xs → (d : ℕ) (n v : List ℕ) (ls : List Level) (ps : List Piece) (ats : List Attribute) →
        after_all rules s (inside d n v ls ps ats) xs ≡ inside d n (v ++ value s b) ls ps ats
    inside_walk (bare_text low high shown) xs h d n v ls ps ats = ap (after_all rules s (inside d n v ls ps ats)) h
    inside_walk (bare_insertion cs) xs h d n v ls ps ats =
        ap (after_all rules s (inside d n v ls ps ats)) h.2 ∙ ap (λ z. inside d n (v ++ z) ls ps ats) (get_or_from_slice_get rules.inserts h.0 cs [] h.1)
    inside_walk (bare_node name m bs) xs h d n v ls ps ats =
        ap (after_all rules s (inside d n v ls ps ats)) h.4
        ∙ after_append (inside (suc d) n v ls ps ats) h.1 (step.Leave ∷ [])
        ∙ ap leave (inside_walks bs h.1 h.3 (suc d) n v ls ps ats)

    inside_walks : (bs : Bares) (xs : List Step) → AreWalks rules bs xs → (d : ℕ) (n v : List ℕ) (ls : List Level) (ps : List Piece) (ats : List Attribute) →
        after_all rules s (inside d n v ls ps ats) xs ≡ inside d n (v ++ values s bs) ls ps ats
    inside_walks none xs h d n v ls ps ats = ap (after_all rules s (inside d n v ls ps ats)) h ∙ ap (λ z. inside d n z ls ps ats) (sym (append-nil v))
    inside_walks (more b bs) xs h d n v ls ps ats =
        ap (after_all rules s (inside d n v ls ps ats)) h.4
        ∙ after_append (inside d n v ls ps ats) h.0 h.1
        ∙ ap (λ st. after_all rules s st h.1) (inside_walk b h.0 h.2 d n v ls ps ats)
        ∙ inside_walks bs h.1 h.3 d n (v ++ value s b) ls ps ats
        ∙ ap (λ z. inside d n z ls ps ats) (append_assoc v (value s b) (values s bs))

  run_behind : (ds : List ℕ) (ls : List Level) (ps : List Piece) (cs : List ℕ) (ats : List Attribute) → outside ls ps (cs ++ ds) ats ≡ state_after ls ps cs ats (put_run ds nothing)
  run_behind ds ls ps cs ats = cc (put_pieces ds nothing ps cs, put_after ds nothing cs, ap (λ zs. ats ++ zs) (put_attributes ds nothing), append-nil ats)

  join_behind : (gs hs : Givens) (ls : List Level) (ps : List Piece) (cs : List ℕ) (ats : List Attribute) →
      state_after ls (pieces_after gs ps cs) (run_after gs cs) (ats ++ attributes gs) hs ≡ state_after ls ps cs ats (join_given gs hs)
  join_behind gs hs ls ps cs ats = cc (join_pieces gs hs ps cs, join_after gs hs cs, ap (λ zs. ats ++ zs) (join_attributes gs hs), append_assoc ats (attributes gs) (attributes hs))

  mutual
    outside_walk : (b : Bare) (xs : List Step) → IsWalk rules b xs → (ls : List Level) (ps : List Piece) (cs : List ℕ) (ats : List Attribute) →
        after_all rules s (outside ls ps cs ats) xs ≡ state_after ls ps cs ats (gives s b)
    outside_walk (bare_text low high shown) xs h ls ps cs ats = ap (after_all rules s (outside ls ps cs ats)) h ∙ run_behind (shown_text s shown low high) ls ps cs ats
    outside_walk (bare_insertion ds) xs h ls ps cs ats =
        ap (after_all rules s (outside ls ps cs ats)) h.2 ∙ ap (λ z. outside ls ps (cs ++ z) ats) (get_or_from_slice_get rules.inserts h.0 ds [] h.1) ∙ run_behind ds ls ps cs ats
    outside_walk (bare_node name mark.Element bs) xs h ls ps cs ats =
        ap (after_all rules s (outside ls ps cs ats)) h.4
        ∙ after_append (outside (of_element (name_at rules h.0) (flush ps cs) ats ∷ ls) [] [] []) h.1 (step.Leave ∷ [])
        ∙ ap leave (outside_walks bs h.1 h.3 (of_element (name_at rules h.0) (flush ps cs) ats ∷ ls) [] [] [])
        ∙ ap (λ z. outside ls (flush ps cs ++ (start_tag (name_at rules h.0) (attributes (gives_all s bs)) ∷ (z ++ (end_tag (name_at rules h.0) ∷ [])))) [] ats) (settled (gives_all s bs) [] (all_apart s bs))
        ∙ ap (λ z. outside ls (flush ps cs ++ (start_tag z (attributes (gives_all s bs)) ∷ (pieces (gives_all s bs) ++ (end_tag z ∷ [])))) [] ats) (name_is h.0 name h.2)
        ∙ ap (λ z. outside ls (flush ps cs ++ (start_tag name (attributes (gives_all s bs)) ∷ (pieces (gives_all s bs) ++ (end_tag name ∷ [])))) [] z) (sym (append-nil ats))
    outside_walk (bare_node name mark.Attribute bs) xs h ls ps cs ats =
        ap (after_all rules s (outside ls ps cs ats)) h.4
        ∙ after_append (inside 0 (name_at rules h.0) [] ls (flush ps cs) ats) h.1 (step.Leave ∷ [])
        ∙ ap leave (inside_walks bs h.1 h.3 0 (name_at rules h.0) [] ls (flush ps cs) ats)
        ∙ ap (λ z. outside ls (flush ps cs) [] (ats ++ (attribute_is z (values s bs) ∷ []))) (name_is h.0 name h.2)
    outside_walk (bare_node name mark.Hidden bs) xs h ls ps cs ats =
        ap (after_all rules s (outside ls ps cs ats)) h.4
        ∙ after_append (outside (hidden ∷ ls) ps cs ats) h.1 (step.Leave ∷ [])
        ∙ ap leave (outside_walks bs h.1 h.3 (hidden ∷ ls) ps cs ats)

    pub outside_walks : (bs : Bares) (xs : List Step) → AreWalks rules bs xs → (ls : List Level) (ps : List Piece) (cs : List ℕ) (ats : List Attribute) →
        after_all rules s (outside ls ps cs ats) xs ≡ state_after ls ps cs ats (gives_all s bs)
    outside_walks none xs h ls ps cs ats = ap (after_all rules s (outside ls ps cs ats)) h ∙ ap (outside ls ps cs) (sym (append-nil ats))
    outside_walks (more b bs) xs h ls ps cs ats =
        ap (after_all rules s (outside ls ps cs ats)) h.4
        ∙ after_append (outside ls ps cs ats) h.0 h.1
        ∙ ap (λ st. after_all rules s st h.1) (outside_walk b h.0 h.2 ls ps cs ats)
        ∙ outside_walks bs h.1 h.3 ls (pieces_after (gives s b) ps cs) (run_after (gives s b) cs) (ats ++ attributes (gives s b))
        ∙ join_behind (gives s b) (gives_all s bs) ls ps cs ats
