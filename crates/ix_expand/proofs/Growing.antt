-- What is made of the parts of a grammar one after the other, and in a helper.
use Rattle.std.proofs.Common.{◌≡◌, refl, sym as symm, ap, ◌∙◌, subst, ℕ, ◌+◌, ◌-◌, ◌<◌, ◌≤◌, List, [], ◌∷◌, length, Some, None, arith}
use Rattle.std.specs.Prelude.{slice_get, slice_set}
use Rattle.std.proofs.lemmas.List.{length-append, length-set}
use Rattle.ix_model.specs.declared.rules.Kind.{Kind}
use Rattle.ix_model.specs.declared.rules.Sym.{Sym}
use Rattle.ix_model.specs.declared.rules.Sym.TheVariants as sym
use Rattle.ix_model.specs.declared.rules.Line.{Line}
use Rattle.ix_model.specs.declared.rules.Flat.{Flat}
use Rattle.ix_model.specs.declared.rules.Terminal.{Terminal}
use Rattle.ix_model.specs.declared.rules.Rules.{Rules}
use Rattle.ix_model.specs.Expansion.Expanded.{Next}
use Rattle.ix_expand.specs.declared.made.Made.{Made}
use Rattle.ix_expand.specs.Growth.{next, begun, finished, with_terminal, with_insert, HasBehind, Extends, Between, Makes}
use Rattle.ix_expand.proofs.Places.{get_before, get_last, get_set_same, get_set_other, begins_refl, begins_trans, begins_push, behind_first, behind_last}

abbrev pub Claim : Type 1
Claim = Rules → Next → Next → Type 0

-- ---- one after the other

pub extends_refl : (m : Made) → Extends m m
extends_refl m = record { first = refl; flats = begins_refl _; terminals = begins_refl _; inserts = begins_refl _ }

pub extends_trans : (a b c : Made) → Extends a b → Extends b c → Extends a c
extends_trans a b c h k = record {
  first = k.first ∙ h.first;
  flats = begins_trans _ _ _ h.flats k.flats;
  terminals = begins_trans _ _ _ h.terminals k.terminals;
  inserts = begins_trans _ _ _ h.inserts k.inserts;
}

pub between_first : (a b c : Made) (rules : Rules) → Extends b c → Between a c rules → Between a b rules
between_first a b c rules k w = record {
  flats = subst (λ (f : ℕ). HasBehind f a.flats b.flats rules.flats) k.first (behind_first c.first _ _ _ _ k.flats w.flats);
  terminals = behind_first 0 _ _ _ _ k.terminals w.terminals;
  inserts = behind_first 0 _ _ _ _ k.inserts w.inserts;
}

pub between_last : (a b c : Made) (rules : Rules) → Extends a b → Between a c rules → Between b c rules
between_last a b c rules h w = record {
  flats = behind_last c.first _ _ _ _ h.flats w.flats;
  terminals = behind_last 0 _ _ _ _ h.terminals w.terminals;
  inserts = behind_last 0 _ _ _ _ h.inserts w.inserts;
}

-- another claim that follows
pub makes_as : (P Q : Claim) (a b : Made) → ((rules : Rules) → P rules (next a) (next b) → Q rules (next a) (next b)) → Makes a b P → Makes a b Q
makes_as P Q a b f m = record { extends = m.extends; becomes = λ rules w. f rules (m.becomes rules w) }

pub makes_both : (P Q R : Claim) (a b c : Made) → ((rules : Rules) → P rules (next a) (next b) → Q rules (next b) (next c) → R rules (next a) (next c)) → Makes a b P → Makes b c Q → Makes a c R
makes_both P Q R a b c f m n = record {
  extends = extends_trans a b c m.extends n.extends;
  becomes = λ rules w. f rules (m.becomes rules (between_first a b c rules n.extends w)) (n.becomes rules (between_last a b c rules m.extends w));
}

pub makes_nothing : (P : Claim) (a : Made) → ((rules : Rules) (x : Next) → P rules x x) → Makes a a P
makes_nothing P a f = record { extends = extends_refl a; becomes = λ rules w. f rules _ }

-- ---- terminals and insertions

abbrev pub NewTerminal : Terminal → Claim
NewTerminal terminal rules x y = (slice_get rules.terminals x.terminal ≡ Some terminal) × (y ≡ record x { terminal = x.terminal + 1 })

pub terminal_made : (a b : Made) (terminal : Terminal) → b ≡ with_terminal a terminal → Makes a b (NewTerminal terminal)
terminal_made a b terminal e = subst (λ (m : Made). Makes a m (NewTerminal terminal)) (symm e) (record {
  extends = record { first = refl; flats = begins_refl _; terminals = begins_push _ _; inserts = begins_refl _ };
  becomes = λ rules w. (at rules w, ap (λ (n : ℕ). record (next a) { terminal = n }) (length-append a.terminals (terminal ∷ [])));
})
  where
    at : (rules : Rules) → Between a (with_terminal a terminal) rules → slice_get rules.terminals (length a.terminals) ≡ Some terminal
    at rules w =
        let z : 0 + length a.terminals ≡ length a.terminals = omega arith in
        ap (slice_get rules.terminals) (symm z) ∙ w.terminals (length a.terminals) (omega arith) (omega (arith, length-append a.terminals (terminal ∷ []))) ∙ get_last a.terminals terminal

abbrev pub NewInsert : List ℕ → Claim
NewInsert text rules x y = (slice_get rules.inserts x.insert ≡ Some text) × (y ≡ record x { insert = x.insert + 1 })

pub insert_made : (a b : Made) (text : List ℕ) → b ≡ with_insert a text → Makes a b (NewInsert text)
insert_made a b text e = subst (λ (m : Made). Makes a m (NewInsert text)) (symm e) (record {
  extends = record { first = refl; flats = begins_refl _; terminals = begins_refl _; inserts = begins_push _ _ };
  becomes = λ rules w. (at rules w, ap (λ (n : ℕ). record (next a) { insert = n }) (length-append a.inserts (text ∷ [])));
})
  where
    at : (rules : Rules) → Between a (with_insert a text) rules → slice_get rules.inserts (length a.inserts) ≡ Some text
    at rules w =
        let z : 0 + length a.inserts ≡ length a.inserts = omega arith in
        ap (slice_get rules.inserts) (symm z) ∙ w.inserts (length a.inserts) (omega arith) (omega (arith, length-append a.inserts (text ∷ []))) ∙ get_last a.inserts text

-- ---- helpers

-- the helper stands at the number, and P holds from the next number on
abbrev pub NewHelper : Flat → Claim → Claim
NewHelper flat P rules x y = (slice_get rules.flats x.rule ≡ Some flat) × P rules (record x { rule = x.rule + 1 }) y

-- the flats of c with the helper in the place behind those of a
abbrev placed : Made → Made → Flat → Made
placed a c flat = record c { flats = slice_set c.flats (length a.flats) flat }

placed_made : (P : Claim) (a c : Made) (flat : Flat) → Makes (begun a) c P → Makes a (placed a c flat) (NewHelper flat P)
placed_made P a c flat made = record {
  extends = record { first = made.extends.first; flats = record { longer = omega (arith, room, same_length); same = below }; terminals = made.extends.terminals; inserts = made.extends.inserts };
  becomes = λ rules w. (at rules w, subst (λ (n : Next). P rules n (next (placed a c flat))) begins (subst (λ (n : Next). P rules (next (begun a)) n) ends (made.becomes rules (inside rules w))));
}
  where
    room : length a.flats + 1 ≤ length c.flats
    room = omega (arith, made.extends.flats.longer, length-append {A = Flat})

    same_length : length (placed a c flat).flats ≡ length c.flats
    same_length = length-set c.flats (length a.flats) flat

    below : (n : ℕ) → n < length a.flats → slice_get (placed a c flat).flats n ≡ slice_get a.flats n
    below n h = get_set_other c.flats (length a.flats) n flat (omega arith) ∙ made.extends.flats.same n (omega (arith, h, length-append {A = Flat})) ∙ get_before a.flats _ n h

    at : (rules : Rules) → Between a (placed a c flat) rules → slice_get rules.flats (a.first + length a.flats) ≡ Some flat
    at rules w =
        ap (λ (f : ℕ). slice_get rules.flats (f + length a.flats)) (symm made.extends.first)
        ∙ w.flats (length a.flats) (omega arith) (omega (arith, room, same_length))
        ∙ get_set_same c.flats (length a.flats) flat (omega (arith, room))

    inside : (rules : Rules) → Between a (placed a c flat) rules → Between (begun a) c rules
    inside rules w = record {
      flats = λ n l h. w.flats n (omega (arith, l, length-append {A = Flat})) (omega (arith, h, same_length)) ∙ get_set_other c.flats (length a.flats) n flat (omega (arith, l, length-append {A = Flat}));
      terminals = w.terminals;
      inserts = w.inserts;
    }

    begins : next (begun a) ≡ record (next a) { rule = a.first + length a.flats + 1 }
    begins = ap (λ (n : ℕ). record (next a) { rule = n }) (omega (arith, length-append {A = Flat}))

    ends : next c ≡ next (placed a c flat)
    ends = ap (λ (n : ℕ). record (next c) { rule = c.first + n }) (symm same_length)

-- what a helper is made of is made between the taking of its number and its end
pub helper_made : (P : Claim) (a b c d : Made) (number : ℕ) (flat : Flat) → b ≡ begun a → Makes b c P → number ≡ a.first + length a.flats → d ≡ finished c number flat → Makes a d (NewHelper flat P)
helper_made P a b c d number flat begins made numbered ends =
    let m : Makes (begun a) c P = subst (λ (m : Made). Makes m c P) begins made in
    let n : number - c.first ≡ length a.flats = omega (arith, m.extends.first, numbered) in
    let e : d ≡ placed a c flat = ends ∙ ap (λ (n : ℕ). record c { flats = slice_set c.flats n flat }) n in
    subst (λ (m : Made). Makes a m (NewHelper flat P)) (symm e) (placed_made P a c flat m)

-- ---- what a part of a grammar becomes that takes a helper

pub helper_becomes :
    (P : Claim) (Q : Sym → Claim) (kind : Kind) (lines given : List Line) (a b c d : Made) (number : ℕ) (symbol : Sym) →
    ((rules : Rules) (x y : Next) → slice_get rules.flats x.rule ≡ Some (record { kind = kind; lines = lines }) → P rules (record x { rule = x.rule + 1 }) y → Q (sym.Rule x.rule None) rules x y) →
    b ≡ begun a → Makes b c P → number ≡ a.first + length a.flats → d ≡ finished c number (record { kind = kind; lines = given }) → given ≡ lines → symbol ≡ sym.Rule number None →
    Makes a d (Q symbol)
helper_becomes P Q kind lines given a b c d number symbol f begins made numbered ends said helps =
    let flat : List Line → Flat = λ ls. record { kind = kind; lines = ls } in
    let e : d ≡ finished c number (flat lines) = ends ∙ ap (λ (ls : List Line). finished c number (flat ls)) said in
    let s : sym.Rule (a.first + length a.flats) None ≡ symbol = ap (λ (n : ℕ). sym.Rule n None) (symm numbered) ∙ symm helps in
    subst (λ (x : Sym). Makes a d (Q x)) s
    (makes_as (NewHelper (flat lines) P) (Q (sym.Rule (a.first + length a.flats) None)) a d (λ rules h. f rules (next a) (next d) h.0 h.1)
    (helper_made P a b c d number (flat lines) begins made numbered e))
