-- Mentions added one after the other.
use Rattle.std.proofs.Common.{◌≡◌, refl, ap, sym, ◌∙◌, subst, ℕ, ◌+◌, ◌<◌, List, [], ◌∷◌, ◌++◌, length, get_or, take, append_assoc, append-nil}
use Rattle.std.specs.List.{flat_map}
use Rattle.std.proofs.lemmas.Grind.{flat_map-append}
use Rattle.std.proofs.lemmas.List.{take_more}
use Rattle.ix_model.specs.declared.grammar.Member.{Member}
use Rattle.ix_model.specs.declared.grammar.Factor.{Factor}
use Rattle.ix_model.specs.Grammars.Factors.{codes_of_member, ranges_of_member, classes_of_member, codes_of_factor, ranges_of_factor, classes_of_factor, calls_of_factor}
use Rattle.ix_errors.specs.declared.mention.Mention.{Mention}
use Rattle.ix_errors.specs.Mentions.{code_in, range_in, class_in, call_in, Adds, AddsMembers, AddsFactors}

-- ---- lists

module _ {X A : Type 0} (f : X → List A) where
  one : (old : List X) (x : X) → flat_map f (old ++ x ∷ []) ≡ flat_map f old ++ f x
  one old x = flat_map-append f old (x ∷ []) ∙ ap (λ ys. flat_map f old ++ ys) (append-nil (f x))

  -- what one more element of a list gives
  one_of_more : (xs : List X) (i : ℕ) (x : X) → i < length xs → x ≡ get_or xs i x → flat_map f (take i xs) ++ f x ≡ flat_map f (take (i + 1) xs)
  one_of_more xs i x l e = sym (one (take i xs) x) ∙ ap (flat_map f) (ap (λ y. take i xs ++ y ∷ []) e ∙ sym (take_more xs i x l))

both : {A : Type 0} (old mid new xs ys : List A) → mid ≡ old ++ xs → new ≡ mid ++ ys → new ≡ old ++ (xs ++ ys)
both old mid new xs ys e h = h ∙ ap (λ zs. zs ++ ys) e ∙ append_assoc old xs ys

-- ---- mentions

-- one more mention
pub added : (old : List Mention) (m : Mention) → Adds old (old ++ m ∷ []) (code_in m) (range_in m) (class_in m) (call_in m)
added old m = record {
  codes_are = one code_in old m;
  ranges_are = one range_in old m;
  classes_are = one class_in old m;
  calls_are = one call_in old m;
}

-- no more mention
pub none_added : (old : List Mention) → Adds old old [] [] [] []
none_added old = record {
  codes_are = sym (append-nil (flat_map code_in old));
  ranges_are = sym (append-nil (flat_map range_in old));
  classes_are = sym (append-nil (flat_map class_in old));
  calls_are = sym (append-nil (flat_map call_in old));
}

-- some mentions and then others
pub then_added : (old mid new : List Mention) (c d : List (List ℕ)) (r s : List (ℕ × ℕ)) (k l n o : List (List ℕ)) → Adds old mid c r k n → Adds mid new d s l o → Adds old new (c ++ d) (r ++ s) (k ++ l) (n ++ o)
then_added old mid new c d r s k l n o h i = record {
  codes_are = both (flat_map code_in old) (flat_map code_in mid) (flat_map code_in new) c d h.codes_are i.codes_are;
  ranges_are = both (flat_map range_in old) (flat_map range_in mid) (flat_map range_in new) r s h.ranges_are i.ranges_are;
  classes_are = both (flat_map class_in old) (flat_map class_in mid) (flat_map class_in new) k l h.classes_are i.classes_are;
  calls_are = both (flat_map call_in old) (flat_map call_in mid) (flat_map call_in new) n o h.calls_are i.calls_are;
}

-- the same lists in other words
same_added : (old new : List Mention) (c d : List (List ℕ)) (r s : List (ℕ × ℕ)) (k l n o : List (List ℕ)) → c ≡ d → r ≡ s → k ≡ l → n ≡ o → Adds old new c r k n → Adds old new d s l o
same_added old new c d r s k l n o a b e f h = record {
  codes_are = h.codes_are ∙ ap (λ xs. flat_map code_in old ++ xs) a;
  ranges_are = h.ranges_are ∙ ap (λ xs. flat_map range_in old ++ xs) b;
  classes_are = h.classes_are ∙ ap (λ xs. flat_map class_in old ++ xs) e;
  calls_are = h.calls_are ∙ ap (λ xs. flat_map call_in old ++ xs) f;
}

-- ---- members

-- one more member
pub one_more_member : (old mid new : List Mention) (ms : List Member) (i : ℕ) (m : Member) → i < length ms → m ≡ get_or ms i m → AddsMembers old mid (take i ms) → Adds mid new (codes_of_member m) (ranges_of_member m) (classes_of_member m) [] → AddsMembers old new (take (i + 1) ms)
one_more_member old mid new ms i m l e h k =
    same_added old new _ _ _ _ _ _ _ _ (one_of_more codes_of_member ms i m l e) (one_of_more ranges_of_member ms i m l e) (one_of_more classes_of_member ms i m l e) refl
    (then_added old mid new _ _ _ _ _ _ _ _ h k)

-- ---- factors

-- some factors and then others
pub then_factors : (old mid new : List Mention) (fs gs : List Factor) → AddsFactors old mid fs → AddsFactors mid new gs → AddsFactors old new (fs ++ gs)
then_factors old mid new fs gs h k =
    same_added old new _ _ _ _ _ _ _ _ (sym (flat_map-append codes_of_factor fs gs)) (sym (flat_map-append ranges_of_factor fs gs)) (sym (flat_map-append classes_of_factor fs gs)) (sym (flat_map-append calls_of_factor fs gs))
    (then_added old mid new _ _ _ _ _ _ _ _ h k)

-- one factor alone
pub one_factor : (old new : List Mention) (f : Factor) → Adds old new (codes_of_factor f) (ranges_of_factor f) (classes_of_factor f) (calls_of_factor f) → AddsFactors old new (f ∷ [])
one_factor old new f h =
    same_added old new _ _ _ _ _ _ _ _ (sym (append-nil (codes_of_factor f))) (sym (append-nil (ranges_of_factor f))) (sym (append-nil (classes_of_factor f))) (sym (append-nil (calls_of_factor f))) h

-- the factors of one more element of a list
pub one_more : {X : Type 0} (F : X → List Factor) (old mid new : List Mention) (xs : List X) (i : ℕ) (x : X) → i < length xs → x ≡ get_or xs i x → AddsFactors old mid (flat_map F (take i xs)) → AddsFactors mid new (F x) → AddsFactors old new (flat_map F (take (i + 1) xs))
one_more F old mid new xs i x l e h k = subst (AddsFactors old new) (one_of_more F xs i x l e) (then_factors old mid new (flat_map F (take i xs)) (F x) h k)
