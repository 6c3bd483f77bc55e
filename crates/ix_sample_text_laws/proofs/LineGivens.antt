-- What lines give to the document: elements, each with an attribute, and in it an element with a run of characters or nothing.
use Rattle.std.proofs.Common.{◌≡◌, ◌≢◌, refl, ap, sym, subst, ◌∙◌, ◌⊎◌, ◌-◌, ℕ, zero, suc, Bool, true, false, List, [], ◌∷◌, ◌++◌, None, take, drop, codes}
use mathlib.Core.Logic.{inl, inr}
use Rattle.std.specs.List.{AllByRecursion}
use Rattle.ix_model.specs.declared.grammar.Mark.TheVariants.{Element, Attribute}
use Rattle.ix_model.specs.declared.grammar.Term.{Term, One, Star}
use Rattle.ix_model.specs.declared.grammar.Factor.{Call}
use Rattle.ix_model.specs.Derivations.Trees.{Tree, text, Repeated, one, again, again_after}
use Rattle.ix_model.specs.Documents.Bare.{bare_text, bare_node, Bares, none, more, join, bare, bare_repeated}
use Rattle.ix_model.specs.Documents.Gives.{attribute, element, run, Givens, nothing, followed, put_run, join_given, shown_text, values, gives_all}
use Rattle.ix_model.specs.Documents.XmlNames.{is_xml_name, is_xml_name_start, is_xml_name_char}
use Rattle.ix_model.specs.Documents.Dyn.{attribute_names, value_characters, content_names, content_characters, content_attributes}
use Rattle.ix_model.proofs.AllOf.{all_append}
use Rattle.ix_model.proofs.Forming.{factor_of_one, factor_of_star}
use Rattle.ix_model.proofs.Forms.{out_lit, out_call}
use Rattle.ix_examples.specs.SmallGrammars.{digits, call}
use Rattle.ix_sample_laws.specs.SampleRules.{letters, some_of, sample_rules}
use Rattle.ix_sample_text_laws.proofs.LineTrees.{AreTexts, line_tree, IsLine, AreLines}
use Rattle.ix_sample_text_laws.proofs.NoRefusal.{IsName, IsCharacter, AreFit, no_names_fit, one_name_fits}

-- ---- bare trees

-- bare texts alone
abbrev pub AreBareTexts : Bares → Type 0
AreBareTexts none = Unit {0}
AreBareTexts (more (bare_text a b shown) bs) = AreBareTexts bs
AreBareTexts _ = ⊥

-- the bare trees of a line: a number, a colon, a word and a line feed
abbrev line_bares : (ns ws : Bares) (a b c d : ℕ) → Bares
line_bares ns ws a b c d =
    more (bare_node (codes "n") Attribute ns) (more (bare_text a b false) (more (bare_node (codes "w") Element ws) (more (bare_text c d false) none)))

abbrev IsBareLine : Bares → Type 0
IsBareLine bs = (ns ws : Bares) × (a b c d : ℕ) × (bs ≡ line_bares ns ws a b c d) × AreBareTexts ns × AreBareTexts ws

abbrev pub AreBareLines : Bares → Type 0
AreBareLines none = Unit {0}
AreBareLines (more (bare_node name mark bs) rest) = (name ≡ codes "line") × (mark ≡ Element) × IsBareLine bs × AreBareLines rest
AreBareLines _ = ⊥

join_texts : (xs ys : Bares) → AreBareTexts xs → AreBareTexts ys → AreBareTexts (join xs ys)
join_texts none ys h k = k
join_texts (more (bare_text a b shown) xs) ys h k = join_texts xs ys h k
join_texts (more x xs) ys h k = absurd h

join_lines : (xs ys : Bares) → AreBareLines xs → AreBareLines ys → AreBareLines (join xs ys)
join_lines none ys h k = k
join_lines (more (bare_node name mark x) xs) ys h k = (h.0, h.1, h.2, join_lines xs ys h.3 k)
join_lines (more x xs) ys h k = absurd h

bare_texts : (t : Term) (ds : Repeated) → AreTexts ds → AreBareTexts (bare_repeated sample_rules ds t)
bare_texts t (one (text a b)) h = tt
bare_texts t (again ds (text a b)) h = join_texts (bare_repeated sample_rules ds t) _ (bare_texts t ds h) tt
bare_texts t (one d) h = absurd h
bare_texts t (again ds d) h = absurd h
bare_texts t (again_after ds p d) h = absurd h

bare_of_line : (ns ws : Repeated) (a b c d : ℕ) →
    bare sample_rules (line_tree ns ws a b c d) (call (codes "line"))
    ≡ more (bare_node (codes "line") Element (line_bares (bare_repeated sample_rules ns (some_of digits)) (bare_repeated sample_rules ws (some_of letters)) a b c d)) none
bare_of_line ns ws a b c d = simp (factor_of_one, out_lit, out_call) refl

bare_line : (d : Tree) → IsLine d → AreBareLines (bare sample_rules d (call (codes "line")))
bare_line d (ns, ws, a, b, c, e, p, hn, hw) =
    subst AreBareLines (sym (ap (λ x. bare sample_rules x (call (codes "line"))) p ∙ bare_of_line ns ws a b c e))
    (refl, refl, (_, _, a, b, c, e, refl, bare_texts (some_of digits) ns hn, bare_texts (some_of letters) ws hw), tt)

-- the bare trees of lines
pub bare_lines : (ds : Repeated) → AreLines ds → AreBareLines (bare_repeated sample_rules ds (Star (Call None (codes "line")) None))
bare_lines (one d) h = subst (λ f. AreBareLines (bare sample_rules d (One f))) (sym (factor_of_star (Call None (codes "line")) None)) (bare_line d h)
bare_lines (again ds d) h =
    join_lines (bare_repeated sample_rules ds (Star (Call None (codes "line")) None)) _ (bare_lines ds h.0)
    (subst (λ f. AreBareLines (bare sample_rules d (One f))) (sym (factor_of_star (Call None (codes "line")) None)) (bare_line d h.1))
bare_lines (again_after ds p d) h = absurd h

-- ---- what they give

all_take : (P : ℕ → Type 0) (n : ℕ) (cs : List ℕ) → AllByRecursion P cs → AllByRecursion P (take n cs)
all_take P zero cs h = tt
all_take P (suc n) [] h = tt
all_take P (suc n) (c ∷ cs) h = (h.0, all_take P n cs h.1)

all_drop : (P : ℕ → Type 0) (n : ℕ) (cs : List ℕ) → AllByRecursion P cs → AllByRecursion P (drop n cs)
all_drop P zero cs h = h
all_drop P (suc n) [] h = tt
all_drop P (suc n) (c ∷ cs) h = all_drop P n cs h.1

-- nothing, or a run of characters of XML
abbrev IsRun : Givens → Type 0
IsRun gs = (gs ≡ nothing) ⊎ ((cs : List ℕ) × (gs ≡ followed (run cs) nothing) × AllByRecursion IsCharacter cs)

-- fit for the content of an element
pub record Fits (gs : Givens) : Type 0 where
  pub own : AreFit (attribute_names gs)
  pub own_names : AllByRecursion IsName (attribute_names gs)
  pub own_values : AllByRecursion IsCharacter (value_characters gs)
  pub names : AllByRecursion IsName (content_names gs)
  pub attributes : AllByRecursion AreFit (content_attributes gs)
  pub characters : AllByRecursion IsCharacter (content_characters gs)

put_run_is_run : (cs : List ℕ) (gs : Givens) → AllByRecursion IsCharacter cs → IsRun gs → IsRun (put_run cs gs)
put_run_is_run [] gs h r = r
put_run_is_run (c ∷ cs) gs h (inl e) = inr (c ∷ cs, ap (put_run (c ∷ cs)) e, h)
put_run_is_run (c ∷ cs) gs h (inr (ds, e, k)) = inr ((c ∷ cs) ++ ds, ap (put_run (c ∷ cs)) e, all_append IsCharacter (c ∷ cs) ds h k)

join_put : (cs : List ℕ) (gs : Givens) → join_given (put_run cs nothing) gs ≡ put_run cs gs
join_put [] gs = refl
join_put (c ∷ cs) gs = refl

name_n : is_xml_name (codes "n") ≡ true
unfolding is_xml_name_start is_xml_name_char
name_n = refl

name_w : is_xml_name (codes "w") ≡ true
unfolding is_xml_name_start is_xml_name_char
name_w = refl

pub name_line : is_xml_name (codes "line") ≡ true
unfolding is_xml_name_start is_xml_name_char
name_line = refl

pub name_log : is_xml_name (codes "log") ≡ true
unfolding is_xml_name_start is_xml_name_char
name_log = refl

not_xmlns : codes "n" ≢ codes "xmlns"
not_xmlns e = cc e

pub nothing_fits : Fits nothing
nothing_fits = record { own = no_names_fit; own_names = tt; own_values = tt; names = tt; attributes = tt; characters = tt }

-- an element that fits, before what fits
pub more_fits : (name : List ℕ) (inner gs : Givens) → IsName name → Fits inner → Fits gs → Fits (followed (element name inner) gs)
more_fits name inner gs n h k = record {
  own = k.own;
  own_names = k.own_names;
  own_values = k.own_values;
  names = (n, all_append IsName (attribute_names inner ++ content_names inner) (content_names gs) (all_append IsName (attribute_names inner) (content_names inner) h.own_names h.names) k.names);
  attributes = (h.own, all_append AreFit (content_attributes inner) (content_attributes gs) h.attributes k.attributes);
  characters = all_append IsCharacter (value_characters inner ++ content_characters inner) (content_characters gs) (all_append IsCharacter (value_characters inner) (content_characters inner) h.own_values h.characters) k.characters;
}

run_fits : (gs : Givens) → IsRun gs → Fits gs
run_fits gs (inl e) = subst Fits (sym e) nothing_fits
run_fits gs (inr (cs, e, k)) = subst Fits (sym e) (record { own = no_names_fit; own_names = tt; own_values = tt; names = tt; attributes = tt; characters = all_append IsCharacter cs [] k tt })

-- what a line gives within its element
abbrev line_content : List ℕ → Givens → Givens
line_content number word = followed (attribute (codes "n") number) (followed (element (codes "w") word) nothing)

line_fits : (number : List ℕ) (word : Givens) → AllByRecursion IsCharacter number → IsRun word → Fits (line_content number word)
line_fits number word h r =
    let k = more_fits (codes "w") word nothing name_w (run_fits word r) nothing_fits in
    record {
      own = one_name_fits (codes "n") not_xmlns;
      own_names = (name_n, tt);
      own_values = all_append IsCharacter number [] h tt;
      names = k.names;
      attributes = k.attributes;
      characters = k.characters;
    }

module _ (s : List ℕ) (fit : AllByRecursion IsCharacter s) where
  shown : (sh : Bool) (a b : ℕ) → AllByRecursion IsCharacter (shown_text s sh a b)
  shown true a b = all_take IsCharacter (b - a) (drop a s) (all_drop IsCharacter a s fit)
  shown false a b = tt

  texts_give : (bs : Bares) → AreBareTexts bs → IsRun (gives_all s bs)
  texts_give none h = inl refl
  texts_give (more (bare_text a b sh) bs) h =
      subst IsRun (sym (join_put (shown_text s sh a b) (gives_all s bs))) (put_run_is_run (shown_text s sh a b) (gives_all s bs) (shown sh a b) (texts_give bs h))
  texts_give (more x bs) h = absurd h

  texts_value : (bs : Bares) → AreBareTexts bs → AllByRecursion IsCharacter (values s bs)
  texts_value none h = tt
  texts_value (more (bare_text a b sh) bs) h = all_append IsCharacter (shown_text s sh a b) (values s bs) (shown sh a b) (texts_value bs h)
  texts_value (more x bs) h = absurd h

  bare_line_fits : (bs : Bares) → IsBareLine bs → Fits (gives_all s bs)
  bare_line_fits bs (ns, ws, a, b, c, d, e, hn, hw) =
      subst (λ x. Fits (gives_all s x)) (sym e) (line_fits (values s ns) (gives_all s ws) (texts_value ns hn) (texts_give ws hw))

  -- what lines give fits
  pub lines_fit : (bs : Bares) → AreBareLines bs → Fits (gives_all s bs)
  lines_fit none h = nothing_fits
  lines_fit (more (bare_node name mark bs) rest) (p, q, l, h) =
      subst (λ x. Fits (gives_all s (more (bare_node x mark bs) rest))) (sym p)
      (subst (λ m. Fits (gives_all s (more (bare_node (codes "line") m bs) rest))) (sym q)
      (more_fits (codes "line") (gives_all s bs) (gives_all s rest) name_line (bare_line_fits bs l) (lines_fit rest h)))
  lines_fit (more x rest) h = absurd h
