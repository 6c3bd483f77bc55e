-- The size and the depth of a grammar that is read, by its tokens.
use Rattle.std.proofs.Common.{◌≡◌, ap, ◌∙◌, subst, ℕ, suc, ◌+◌, ◌≤◌, List, [], ◌∷◌, length, Option, Some, None, arith}
use Rattle.std.specs.Prelude.{max}
use Rattle.ix_model.specs.declared.grammar.Grammar.{Grammar}
use Rattle.ix_model.specs.Spelling.Depth.{depth}
use Rattle.ix_spelling_laws.specs.Reading.Lexing.{Token}
use Rattle.ix_spelling_laws.specs.Reading.Machine as M
use Rattle.ix_reader.specs.Parentheses.{turn, deepest}
use Rattle.ix_model.specs.Grammars.Size.{size}
use Rattle.ix_reader.proofs.Measures.{height, size_read, depth_read, Grows, step_grows}

-- what the measures where m tokens are left say of the grammar: d is the most parentheses that are open behind one of them
abbrev Ends : ℕ → ℕ → ℕ → ℕ → Option Grammar → Type 0
Ends n e m d None = Unit {0}
Ends n e m d (Some g) = (size g ≤ n + m) × (depth g ≡ max e d)

final_ends : (p : M.Phase) (w : M.Work) → Ends (size_read p w) (depth_read p w) 0 0 (M.final p w)
final_ends M.rule_next w = (omega arith, omega arith)
final_ends _ w = tt

one_more : (n u e h d m x : ℕ) (o : Option Grammar) → n ≤ u + 1 → e ≡ max x h → Ends n e m d o → Ends u x (suc m) (max h d) o
one_more n u e h d m x None l q r = tt
one_more n u e h d m x (Some g) l q (s, t) = (omega (arith, l, s), t ∙ ap (λ (z : ℕ). max z d) q ∙ regroup x h d)
  where
    regroup : (x h d : ℕ) → max (max x h) d ≡ max x (max h d)
    regroup x h d = omega arith

run_ends : (ts : List Token) (s : M.State) → Ends (size_read s.phase s.work) (depth_read s.phase s.work) (length ts) (deepest (height s.phase s.work) ts) (M.run ts s)
run_ends [] s = final_ends s.phase s.work
run_ends (t ∷ ts) s = go (M.step s.phase s.work t.gap t.lexeme) (step_grows s.phase s.work t.gap t.lexeme) (λ u. run_ends ts u)
  where
    h : ℕ
    h = turn (height s.phase s.work) t.lexeme

    go : (o : Option M.State) → Grows (size_read s.phase s.work) (depth_read s.phase s.work) h o
        → ((u : M.State) → Ends (size_read u.phase u.work) (depth_read u.phase u.work) (length ts) (deepest (height u.phase u.work) ts) (M.run ts u))
        → Ends (size_read s.phase s.work) (depth_read s.phase s.work) (suc (length ts)) (max h (deepest h ts)) (M.then_run o (λ u. M.run ts u))
    go None g f = tt
    go (Some u) (l, e, d) f = one_more _ _ _ _ _ _ _ (M.run ts u) l d (subst (λ (z : ℕ). Ends (size_read u.phase u.work) (depth_read u.phase u.work) (length ts) (deepest z ts) (M.run ts u)) e (f u))

-- tokens that give a grammar are as many as its size, or more, and its depth is the most parentheses that are open at once among them
pub run_measures : (ts : List Token) (g : Grammar) → M.run ts M.start ≡ Some g → (size g ≤ length ts) × (depth g ≡ deepest 0 ts)
run_measures ts g e = let (l, d) = subst (Ends 0 0 (length ts) (deepest 0 ts)) e (run_ends ts M.start) in (omega (arith, l), d ∙ none_max (deepest 0 ts))
  where
    none_max : (n : ℕ) → max 0 n ≡ n
    none_max n = omega arith
