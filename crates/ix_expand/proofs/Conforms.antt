-- The grammars of the tests conform, and are small.
use Rattle.std.proofs.Common.{◌≡◌, refl, arith}
use Rattle.ix_model.specs.Grammars.Breach.{Conforming}
use Rattle.ix_model.specs.Grammars.Size.{size}
use Rattle.ix_model.proofs.Folds.{the_folds}
use Rattle.ix_conformance_laws.proofs.Judging.{unrefused}
use Rattle.ix_conformance_laws.proofs.ByTests.{no_version, unique}
use Rattle.ix_expand.specs.Examples.{sample, separated_groups, each_form}

pub sample_conforms : Conforming sample
sample_conforms = record {
  has_rule = omega arith;
  numbers = simp the_folds ((λ e. cc e, (refl, tt)), tt);
  no_breach = unrefused sample (record { version = no_version sample refl; code_points = simp the_folds (refl, tt); ranges = simp the_folds (omega arith, (omega arith, tt)); classes = simp the_folds tt; calls = simp the_folds ((1, (_, refl, refl)), ((2, (_, refl, refl)), ((3, (_, refl, refl)), tt))); names = unique sample refl });
}

pub sample_size : size sample ≡ 15
sample_size = simp the_folds refl

pub groups_conform : Conforming separated_groups
groups_conform = record {
  has_rule = omega arith;
  numbers = simp the_folds tt;
  no_breach = unrefused separated_groups (record { version = no_version separated_groups refl; code_points = simp the_folds tt; ranges = simp the_folds tt; classes = simp the_folds tt; calls = simp the_folds ((1, (_, refl, refl)), ((2, (_, refl, refl)), ((3, (_, refl, refl)), tt))); names = unique separated_groups refl });
}

pub groups_size : size separated_groups ≡ 17
groups_size = simp the_folds refl

pub forms_conform : Conforming each_form
forms_conform = record {
  has_rule = omega arith;
  numbers = simp the_folds tt;
  no_breach = unrefused each_form (record { version = no_version each_form refl; code_points = simp the_folds tt; ranges = simp the_folds tt; classes = simp the_folds tt; calls = simp the_folds ((1, (_, refl, refl)), ((1, (_, refl, refl)), tt)); names = unique each_form refl });
}

pub forms_size : size each_form ≡ 22
forms_size = simp the_folds refl
