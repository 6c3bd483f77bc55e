use Rattle.std.proofs.Common.{◌≡◌, ap, ◌∙◌, false, [], ◌∷◌, codes}
use Rattle.std.specs.Str.{bytes_eq}
use Rattle.ix_words.proofs.Gathered.{given_is, texts_at, texts_behind, texts_first}
use Rattle.ix_words.proofs.laws.texts_of_an_id.Goals as goal

pub returns-clause-first : goal.returns-clause-first
returns-clause-first c = λ m o w h. given_is (codes "operand") m ∙ ap (texts_at (codes "operand")) h.0 ∙ texts_first (codes "operand") o (w ∷ []) h.1

pub returns-clause-second : goal.returns-clause-second
returns-clause-second c = λ m o w h.
    let passed : bytes_eq o.id (codes "workers") ≡ false = ap (λ t. bytes_eq t (codes "workers")) h.1 in
    given_is (codes "workers") m ∙ ap (texts_at (codes "workers")) h.0 ∙ texts_behind (codes "workers") o (w ∷ []) passed ∙ texts_first (codes "workers") w [] h.2

pub returns-clause-other : goal.returns-clause-other
returns-clause-other c = λ m o w h.
    let passed : bytes_eq o.id (codes "worker") ≡ false = ap (λ t. bytes_eq t (codes "worker")) h.1 in
    let passed_too : bytes_eq w.id (codes "worker") ≡ false = ap (λ t. bytes_eq t (codes "worker")) h.2 in
    given_is (codes "worker") m ∙ ap (texts_at (codes "worker")) h.0 ∙ texts_behind (codes "worker") o (w ∷ []) passed ∙ texts_behind (codes "worker") w [] passed_too
