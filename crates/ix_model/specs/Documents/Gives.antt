-- What a bare tree gives to the element around it: attributes, elements and runs of characters.
-- Source: Invisible XML 1.0, "Parsing" (serialisation); that the text of an attribute within an attribute counts
-- in the outer value is this project's own.
use Rattle.std.specs.Prelude.{ℕ, ◌-◌, Bool, true, false, List, [], ◌∷◌, ◌++◌, take, drop}
use Rattle.ix_model.specs.declared.grammar.Grammar.{Grammar}
use Rattle.ix_model.specs.declared.grammar.Mark.{Mark}
use Rattle.ix_model.specs.declared.grammar.Mark.TheVariants.{Element, Attribute, Hidden}
use Rattle.ix_model.specs.Derivations.Trees.{Tree}
use Rattle.ix_model.specs.Documents.Bare.{Bare, bare_text, bare_insertion, bare_node, Bares, none, more, bare_root}

mutual
  pub data Given : Type 0 where
    attribute : (name value : List ℕ) → Given
    element : (name : List ℕ) → Givens → Given
    run : List ℕ → Given

  pub data Givens : Type 0 where
    nothing : Givens
    followed : Given → Givens → Givens

-- the characters, in front of what follows: neighbouring characters make one run
abbrev pub put_run : List ℕ → Givens → Givens
put_run [] gs = gs
put_run (c ∷ cs) (followed (run ds) gs) = followed (run ((c ∷ cs) ++ ds)) gs
put_run (c ∷ cs) gs = followed (run (c ∷ cs)) gs

-- what the first gives, then what the second gives
abbrev pub join_given : Givens → Givens → Givens
join_given nothing hs = hs
join_given (followed (run cs) nothing) hs = put_run cs hs
join_given (followed g gs) hs = followed g (join_given gs hs)

-- what a node of this name, value and content gives under its mark
abbrev pub of_mark : Mark → List ℕ → List ℕ → Givens → Givens
of_mark Element name val inner = followed (element name inner) nothing
of_mark Attribute name val inner = followed (attribute name val) nothing
of_mark Hidden name val inner = inner

module _ (s : List ℕ) where
  -- the characters from low to high where they are shown
  abbrev pub shown_text : Bool → ℕ → ℕ → List ℕ
  shown_text true low high = take (high - low) (drop low s)
  shown_text false low high = []

  abbrev mutual
    -- all shown text and all insertions, at any depth, in order, whatever the marks between
    pub value : Bare → List ℕ
    value (bare_text low high shown) = shown_text shown low high
    value (bare_insertion cs) = cs
    value (bare_node name mark bs) = values bs

    pub values : Bares → List ℕ
    values none = []
    values (more b bs) = value b ++ values bs

  abbrev mutual
    -- what one bare tree gives
    pub gives : Bare → Givens
    gives (bare_text low high shown) = put_run (shown_text shown low high) nothing
    gives (bare_insertion cs) = put_run cs nothing
    gives (bare_node name mark bs) = of_mark mark name (values bs) (gives_all bs)

    -- what they give, in order
    pub gives_all : Bares → Givens
    gives_all none = nothing
    gives_all (more b bs) = join_given (gives b) (gives_all bs)

  -- what a derivation of the text gives to the document
  abbrev pub gives_root : Grammar → Tree → Givens
  gives_root g d = gives_all (bare_root g d)
