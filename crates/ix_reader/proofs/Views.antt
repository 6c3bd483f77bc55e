-- What the reader's values stand for, under the functions that change them, and the last cases of the steps.
use Rattle.std.proofs.Common.{◌≡◌, refl, ap, List, [], ◌∷◌, ◌++◌}
use Rattle.std.specs.Prelude.{map, ℕ, Bool, ◌==◌, ◌&&◌}
use Rattle.std.specs.Cmp.Lexicographic.{pointwise}
use Rattle.std.proofs.lemmas.List.{reverse-append}
use Rattle.ix_spelling_laws.specs.Reading.Machine as M
use Rattle.ix_model.specs.declared.grammar.Bound.{Bound}
use Rattle.ix_model.specs.declared.grammar.Factor.{Factor}
use Rattle.ix_model.specs.declared.grammar.Term.{One}
use Rattle.ix_reader.specs.declared.machine.Lexeme.{Lexeme}
use Rattle.ix_reader.specs.declared.machine.Lexeme.TheVariants as lexeme
use Rattle.ix_reader.specs.declared.machine.Frame.{Frame}
use Rattle.ix_reader.specs.Views.{lexeme_of, frame_of, frames_of}

-- the frame that was put last is the innermost
pub frames_push : (fs : List Frame) (f : Frame) → frames_of (fs ++ f ∷ []) ≡ frame_of f ∷ frames_of fs
frames_push fs f = ap (map frame_of) (reverse-append fs (f ∷ []))

pub text_pointwise : (xs ys : List ℕ) → M.is_text xs ys ≡ pointwise ◌==◌ xs ys
text_pointwise [] [] = refl
text_pointwise (x ∷ xs) (y ∷ ys) = ap (λ (b : Bool). (x == y) && b) (text_pointwise xs ys)
text_pointwise [] (y ∷ ys) = refl
text_pointwise (x ∷ xs) [] = refl

pub end_term_else : (f : M.Frame) (w : M.Work) (k : Lexeme) → (k ≡ lexeme.Comma → ⊥) → M.end_term f w (lexeme_of k) ≡ M.end_alt f w (lexeme_of k)
end_term_else f w lexeme.Comma n = absurd (n refl)
end_term_else f w _ n = refl

pub end_item_else : (x : Factor) (f : M.Frame) (w : M.Work) (k : Lexeme) → (k ≡ lexeme.Question → ⊥) → (k ≡ lexeme.Star → ⊥) → (k ≡ lexeme.Plus → ⊥) → (k ≡ lexeme.Stars → ⊥) → (k ≡ lexeme.Pluses → ⊥) → M.end_item x f w (lexeme_of k) ≡ M.end_term (M.with_term f (One x)) w (lexeme_of k)
end_item_else x f w lexeme.Question a b c d e = absurd (a refl)
end_item_else x f w lexeme.Star a b c d e = absurd (b refl)
end_item_else x f w lexeme.Plus a b c d e = absurd (c refl)
end_item_else x f w lexeme.Stars a b c d e = absurd (d refl)
end_item_else x f w lexeme.Pluses a b c d e = absurd (e refl)
end_item_else x f w _ a b c d e = refl

pub begin_else : (w : M.Work) (k : Lexeme) → ((n : List ℕ) → k ≡ lexeme.Word n → ⊥) → M.begin_rule w (lexeme_of k) ≡ M.start_rule w (lexeme_of k)
begin_else w (lexeme.Word n) a = absurd (a n refl)
begin_else w _ a = refl

pub ixml_else : (w : M.Work) (gap : Bool) (k : Lexeme) → ((n : List ℕ) → k ≡ lexeme.Word n → ⊥) → M.behind_ixml w gap (lexeme_of k) ≡ M.open_rule w (lexeme_of k)
ixml_else w gap (lexeme.Word n) a = absurd (a n refl)
ixml_else w gap _ a = refl

pub alt_start_else : (w : M.Work) (gap : Bool) (k : Lexeme) → (k ≡ lexeme.Semi → ⊥) → (k ≡ lexeme.Bar → ⊥) → (k ≡ lexeme.CloseGroup → ⊥) → (k ≡ lexeme.Stop → ⊥) → M.step M.alt_start w gap (lexeme_of k) ≡ M.start_factor (M.on_top w (M.fresh w.top)) (lexeme_of k)
alt_start_else w gap lexeme.Semi a b c d = absurd (a refl)
alt_start_else w gap lexeme.Bar a b c d = absurd (b refl)
alt_start_else w gap lexeme.CloseGroup a b c d = absurd (c refl)
alt_start_else w gap lexeme.Stop a b c d = absurd (d refl)
alt_start_else w gap _ a b c d = refl

pub set_start_else : (p : M.Part) (w : M.Work) (gap : Bool) (k : Lexeme) → (k ≡ lexeme.CloseSet → ⊥) → M.step (M.set_start p) w gap (lexeme_of k) ≡ M.start_member p w (lexeme_of k)
set_start_else p w gap lexeme.CloseSet a = absurd (a refl)
set_start_else p w gap _ a = refl

pub bound_read_else : (p : M.Part) (x : Bound) (w : M.Work) (gap : Bool) (k : Lexeme) → (k ≡ lexeme.Dash → ⊥) → M.step (M.bound_read p x) w gap (lexeme_of k) ≡ M.end_member (M.with_member p (M.member_of x)) w (lexeme_of k)
bound_read_else p x w gap lexeme.Dash a = absurd (a refl)
bound_read_else p x w gap _ a = refl
