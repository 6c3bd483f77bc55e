-- One deck between two rows of equal ones.
use Rattle.std.proofs.Common.{◌≡◌, ℕ, suc, ◌+◌, ◌-◌, ◌<◌, List, [], ◌∷◌, ◌++◌, map, replicate, ap, ◌∙◌, arith}
use Rattle.std.proofs.lemmas.List.{map_push, append_assoc, replicate-append-replicate}

-- what a row shows that was made of nothing, equal ones, one more, and equal ones again
pub one_between : {X Y : Type 0} (f : X → Y) {xs ws : List X} {x : X} {p q : ℕ} {v : Y} (ys zs : List X) (b : Y) (own n : ℕ) → xs ≡ [] → map f ys ≡ map f xs ++ replicate p b → ws ≡ ys ++ x ∷ [] → map f zs ≡ map f ws ++ replicate q b → p ≡ own → q ≡ n - own - 1 → f x ≡ v → map f zs ≡ replicate own b ++ v ∷ replicate (n - own - 1) b
one_between f {xs} {ws} {x} {p} {q} {v} ys zs b own n none front pushed back is_own is_rest is_v =
    let first : map f ys ≡ replicate own b = front ∙ ap (λ (l : List _). map f l ++ replicate p b) none ∙ ap (λ (k : ℕ). replicate k b) is_own in
    let middle : map f ws ≡ replicate own b ++ f x ∷ [] = ap (map f) pushed ∙ map_push f ys x ∙ ap (λ (l : List _). l ++ f x ∷ []) first in
    back ∙ ap (λ (l : List _). l ++ replicate q b) middle ∙ append_assoc (replicate own b) (f x ∷ []) (replicate q b)
    ∙ ap (λ (k : ℕ). replicate own b ++ f x ∷ replicate k b) is_rest ∙ ap (λ (y : _). replicate own b ++ y ∷ replicate (n - own - 1) b) is_v

-- where the one is equal to the others, all are
pub all_equal : {Y : Type 0} (b : Y) (own n : ℕ) → own < n → replicate own b ++ b ∷ replicate (n - own - 1) b ≡ replicate n b
all_equal b own n near = let total : own + suc (n - own - 1) ≡ n = omega arith in
    replicate-append-replicate own (suc (n - own - 1)) b ∙ ap (λ (k : ℕ). replicate k b) total
