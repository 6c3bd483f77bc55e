-- The sample: a grammar of numbered lines, a text of so many of them, and the summary that is written of it.
-- It is this project's own.
use Rattle.std.specs.Prelude.{ℕ, zero, suc, List, [], ◌++◌, codes, decimal}
use Rattle.ix_model.specs.declared.counts.Counts.{Counts}

-- the bytes of the grammar
abbrev pub sample_grammar : List ℕ
sample_grammar = codes "log: line*.\nline: @n, -\":\", w, -#a.\nn: [\"0\"-\"9\"]+.\nw: [\"a\"-\"z\"]+.\n"

-- the line with this number
abbrev pub sample_line : ℕ → List ℕ
sample_line number = decimal number ++ codes ":ab\n"

-- the bytes of the lines from 1 to this number
abbrev pub sample_text : ℕ → List ℕ
sample_text zero = []
sample_text (suc n) = sample_text n ++ sample_line (suc n)

-- a line of the summary: what is counted, and how many there are
abbrev pub figure_line : List ℕ → ℕ → List ℕ
figure_line counted number = counted ++ (codes " " ++ (decimal number ++ codes "\n"))

-- the bytes of the summary: of so many bytes of text, these figures, and so many bytes of output
abbrev pub summary_of : (text : ℕ) (counts : Counts) (output : ℕ) → List ℕ
summary_of text counts output =
    figure_line (codes "text") text ++ (figure_line (codes "descriptors") counts.descriptors
    ++ (figure_line (codes "subtrees") counts.subtrees ++ figure_line (codes "output") output))
