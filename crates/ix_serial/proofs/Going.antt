-- What goes through a lent buffer, step after step.
use Rattle.std.proofs.Common.{◌+◌, ap, sym, ◌∙◌, subst, ℕ, List, [], ◌++◌, append_assoc, append-nil, arith, length, take, min, Option, None, Some, Result, Ok, Err}
use Rattle.std.specs.Prelude.{IsErr}
use Rattle.std.specs.Io.KnownBytes.{Appends}
use Rattle.std.proofs.KnownBytes.{Appends-nil}
use Rattle.std.proofs.lemmas.List.{take_min, take-append-le}
use Rattle.std.proofs.Math.Seq.{take-append-add}
use Rattle.ix_edge.specs.Puts.{Puts}
use Rattle.ix_serial.specs.Lent.{Goes, Stops, Passes}

-- what is appended twice is appended together
pub appends_more : (a b c : Option (List ℕ)) (xs ys : List ℕ) → Appends a b xs → Appends b c ys → Appends a c (xs ++ ys)
appends_more None b c xs ys h k = tt
appends_more (Some known) None c xs ys h k = absurd h
appends_more (Some known) (Some bs) None xs ys h k = absurd k
appends_more (Some known) (Some bs) (Some cs) xs ys h k = k ∙ ap (λ z. z ++ ys) h ∙ append_assoc known xs ys

-- no byte comes
pub goes_nothing : (a : Option (List ℕ)) (waiting : List ℕ) → Goes a a waiting [] waiting
goes_nothing a waiting = ([], Appends-nil a, append-nil waiting)

-- bytes and then more of them
pub goes_more : (a b c : Option (List ℕ)) (waiting xs between ys left : List ℕ) → Goes a b waiting xs between → Goes b c between ys left → Goes a c waiting (xs ++ ys) left
goes_more a b c waiting xs between ys left (s, h, e) (t, k, f) = (
  s ++ t,
  appends_more a b c s t h k,
  sym (append_assoc waiting xs ys) ∙ ap (λ z. z ++ ys) e ∙ append_assoc s between ys ∙ ap (λ z. s ++ z) f ∙ sym (append_assoc s t left),
)

-- it stops behind bytes that went
pub goes_and_stops : (a b c : Option (List ℕ)) (waiting xs between ys : List ℕ) → Goes a b waiting xs between → Stops b c between ys → Stops a c waiting (xs ++ ys)
goes_and_stops a b c waiting xs between ys (s, h, e) (n, k) = (
  length s + n,
  subst (Appends a c)
      (sym (take-append-add s (between ++ ys) n) ∙ ap (take (length s + n)) (sym (append_assoc s between ys) ∙ ap (λ z. z ++ ys) (sym e) ∙ append_assoc waiting xs ys))
      (appends_more a b c s (take n (between ++ ys)) h k),
)

-- it stops before bytes that never come
pub stops_early : (a b : Option (List ℕ)) (waiting xs ys : List ℕ) → Stops a b waiting xs → Stops a b waiting (xs ++ ys)
stops_early a b waiting xs ys (n, h) =
    let m = min n (length (waiting ++ xs)) in (
      m,
      subst (Appends a b)
          (sym (take_min n (waiting ++ xs)) ∙ sym (take-append-le m (waiting ++ xs) ys (omega arith)) ∙ ap (take m) (append_assoc waiting xs ys))
          h,
    )

module _ {E : Type 0} where
  -- an error stops
  pub stopped : (a b : Option (List ℕ)) (waiting buffer bytes : List ℕ) (r : Result ℕ E) → IsErr r → Stops a b waiting bytes → Passes a b waiting buffer bytes r
  stopped a b waiting buffer bytes (Ok v) e h = cc e
  stopped a b waiting buffer bytes (Err v) e h = h

module _ {E V : Type 0} where
  pub cut_off : (a b : Option (List ℕ)) (bytes : List ℕ) (r : Result V E) → IsErr r → Stops a b [] bytes → Puts a b bytes r
  cut_off a b bytes (Ok v) e h = cc e
  cut_off a b bytes (Err v) e h = h

  -- what is left is put
  pub flushed : (a b c : Option (List ℕ)) (bytes left : List ℕ) (r : Result V E) → Goes a b [] bytes left → Puts b c left r → Puts a c bytes r
  flushed a b c bytes left (Ok v) (s, h, e) k = subst (Appends a c) (sym e) (appends_more a b c s left h k)
  flushed a b c bytes left (Err v) (s, h, e) (n, k) =
      (length s + n, subst (Appends a c) (sym (take-append-add s left n) ∙ ap (take (length s + n)) (sym e)) (appends_more a b c s (take n left) h k))
