-- Where the names differ, each entry is the one that its name finds.
use Rattle.std.proofs.Common.{◌≡◌, ◌∙◌, ap, refl, sym, arith, ℕ, suc, zero, Bool, true, false, cond, not, ◌<◌, ◌&&◌, get_or, length, List, [], ◌∷◌, Some, find}
use Rattle.std.specs.List.{list_any}
use Rattle.std.specs.Str.{bytes_eq}
use Rattle.std.proofs.lemmas.List.Folds.{list_any_at}
use Rattle.std.proofs.lemmas.Slice.Eq.{bytes_eq-Decides}
use Rattle.ix_edge.specs.Entries.{name_of, is_named, names_differ, FindsEach}
use Rattle.ix_edge.specs.declared.entry.Entry.{Entry}
use Rattle.ix_edge.proofs.Raised.{bytes_eq_same}

both_hold : (a b : Bool) → (a && b) ≡ true → (a ≡ true) × (b ≡ true)
both_hold true b both = (refl, both)
both_hold false b both = absurd cc

-- an entry whose name none of the others has is not named as one of them
other_name : (e : Entry) (es : List Entry) (k : ℕ) (d : Entry) → not (list_any (is_named (name_of e)) es) ≡ true → k < length es →
    is_named (name_of (get_or es k d)) e ≡ false
other_name e es k d none inside = by (bytes_eq (name_of e) (name_of (get_or es k d))) refl
  where
    by : (b : Bool) → bytes_eq (name_of e) (name_of (get_or es k d)) ≡ b → bytes_eq (name_of e) (name_of (get_or es k d)) ≡ false
    by true same =
        let equal : name_of e ≡ name_of (get_or es k d) = (bytes_eq-Decides (name_of e) (name_of (get_or es k d))).0 same in
        let back : is_named (name_of e) (get_or es k d) ≡ true = (bytes_eq-Decides (name_of (get_or es k d)) (name_of e)).1 (sym equal) in
        let any : list_any (is_named (name_of e)) es ≡ true = list_any_at (is_named (name_of e)) es k d inside back in
        let lost : false ≡ true = sym (ap not any) ∙ none in
        absurd cc
    by false apart = apart

pub finds_each : (es : List Entry) → names_differ es ≡ true → FindsEach es
finds_each [] differ k d inside = absurd (omega arith)
finds_each (e ∷ es) differ zero d inside = ap (λ b. cond b (Some e) (find (is_named (name_of e)) es)) (bytes_eq_same (name_of e))
finds_each (e ∷ es) differ (suc k) d inside =
    let parts = both_hold (not (list_any (is_named (name_of e)) es)) (names_differ es) differ in
    let there : k < length es = omega arith in
    ap (λ b. cond b (Some e) (find (is_named (name_of (get_or es k d))) es)) (other_name e es k d parts.0 there) ∙ finds_each es parts.1 k d there
