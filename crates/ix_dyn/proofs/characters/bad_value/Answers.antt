use Rattle.std.proofs.Common.{sym, ◌∙◌, refl}
use Rattle.ix_dyn.specs.Items.{is_bad_character, value_of}
use Rattle.ix_dyn.proofs.Finding.{found_next, none_next}
use Rattle.ix_dyn.proofs.characters.bad_value.Goals as goal

pub returns-then-is_some : goal.returns-then-is_some
returns-then-is_some c =
    found_next (is_bad_character) (value_of c.args.chars.now) c.args.attrs.now c.args.attrs.now refl c.loop-attr.attr-index (record { name = 0; low = 0; high = 0 }) c.loop-attr-test.true c.bad_char-found.result c.bad_char-found.ensures (sym c.is_some.ensures ∙ c.if-is_some.true) c.loop-attr.invariant

pub loop-attr-preserved : goal.loop-attr-preserved
loop-attr-preserved c =
    none_next (is_bad_character) (value_of c.args.chars.now) c.args.attrs.now c.args.attrs.now refl c.loop-attr.attr-index (record { name = 0; low = 0; high = 0 }) c.loop-attr-test.true c.bad_char-found.result c.bad_char-found.ensures (sym c.is_some.ensures ∙ c.if-is_some.false) c.loop-attr.invariant
