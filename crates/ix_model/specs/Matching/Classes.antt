-- The characters of a class: those of a general category, or of all categories with one first letter.
-- Source: Invisible XML 1.0, "Character sets"; the codes are those of the Unicode Standard.
use Rattle.std.specs.Prelude.{ℕ, nat_lt, Bool, ◌&&◌, List, length, take, codes}
use Rattle.std.specs.Str.{bytes_eq}
use Rattle.unicode.specs.GeneralCategory.{general_category}
use Rattle.ucd_category.specs.declared.GeneralCategory.{GeneralCategory}
use Rattle.ucd_category.specs.declared.GeneralCategory.TheVariants as category

-- the two letters that name a category
abbrev pub code_of : GeneralCategory → List ℕ
code_of category.UppercaseLetter = codes "Lu"
code_of category.LowercaseLetter = codes "Ll"
code_of category.TitlecaseLetter = codes "Lt"
code_of category.ModifierLetter = codes "Lm"
code_of category.OtherLetter = codes "Lo"
code_of category.NonspacingMark = codes "Mn"
code_of category.SpacingMark = codes "Mc"
code_of category.EnclosingMark = codes "Me"
code_of category.DecimalNumber = codes "Nd"
code_of category.LetterNumber = codes "Nl"
code_of category.OtherNumber = codes "No"
code_of category.ConnectorPunctuation = codes "Pc"
code_of category.DashPunctuation = codes "Pd"
code_of category.OpenPunctuation = codes "Ps"
code_of category.ClosePunctuation = codes "Pe"
code_of category.InitialPunctuation = codes "Pi"
code_of category.FinalPunctuation = codes "Pf"
code_of category.OtherPunctuation = codes "Po"
code_of category.MathSymbol = codes "Sm"
code_of category.CurrencySymbol = codes "Sc"
code_of category.ModifierSymbol = codes "Sk"
code_of category.OtherSymbol = codes "So"
code_of category.SpaceSeparator = codes "Zs"
code_of category.LineSeparator = codes "Zl"
code_of category.ParagraphSeparator = codes "Zp"
code_of category.Control = codes "Cc"
code_of category.Format = codes "Cf"
code_of category.Surrogate = codes "Cs"
code_of category.PrivateUse = codes "Co"
code_of category.Unassigned = codes "Cn"

-- whether the class has a character of this category: its code is the class, or begins with it
abbrev pub is_code_in_class : List ℕ → List ℕ → Bool
is_code_in_class class code = nat_lt 0 (length class) && bytes_eq (take (length class) code) class

-- whether the class has the character c
abbrev pub in_class : List ℕ → ℕ → Bool
in_class class c = is_code_in_class class (code_of (general_category c))
