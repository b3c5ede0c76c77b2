-- Warnings of two achievements, computed from the definitions.
use Rattle.std.proofs.Common.{◌≡◌, [], ◌∷◌, None, refl}
use Rattle.ra_operand.specs.declared.kind.Kind.TheVariants.{Mem}
use Rattle.ra_operand.specs.declared.size.Size.TheVariants.{Byte, Bit0, Low, High}
use Rattle.ra_operand.specs.declared.op.Op.TheVariants.{Eq, Lt, Gt}
use Rattle.ra_operand.specs.declared.operand.Operand.TheVariants.{Cell, Const}
use Rattle.ra_condition.specs.declared.flag.Flag.TheVariants.{Plain, AddHits}
use Rattle.ra_set.specs.Contents.{Unlocks, SetContents}
use Rattle.ra_lint.specs.declared.warning.Place.TheVariants.{Trigger}
use Rattle.ra_lint.specs.declared.warning.Word.TheVariants.{Never, Always, Unreachable, NoUnlock}
use Rattle.ra_lint.specs.Warnings.{warnings_of, warning}

-- `A 1 0xH0010=256`
abbrev never_equal : SetContents
never_equal = record {
  items = Unlocks 1 (record {
    core = record {
      flag = Plain;
      left = Cell Mem Byte 16;
      op = Eq;
      right = Const 256;
      target = 0;
    } ∷ [];
    alts = [];
  }) ∷ [];
  script = None;
  digest = [];
  item_names = [];
  script_name = None;
}

never_equal_row : warnings_of never_equal ≡ warning 0 Trigger 0 0 Never ∷ warning 0 Trigger 0 0 NoUnlock ∷ []
never_equal_row = refl

-- `A 2 0xL0010<16.5._C:0xM0010>1_0xU0011>15.3.`
abbrev nibbles : SetContents
nibbles = record {
  items = Unlocks 2 (record {
    core = record { flag = Plain; left = Cell Mem Low 16; op = Lt; right = Const 16; target = 5 }
        ∷ record { flag = AddHits; left = Cell Mem Bit0 16; op = Gt; right = Const 1; target = 0 }
        ∷ record { flag = Plain; left = Cell Mem High 17; op = Gt; right = Const 15; target = 3 } ∷ [];
    alts = [];
  }) ∷ [];
  script = None;
  digest = [];
  item_names = [];
  script_name = None;
}

nibbles_row : warnings_of nibbles ≡ warning 0 Trigger 0 0 Always ∷ warning 0 Trigger 0 1 Never ∷ warning 0 Trigger 0
    2 Never ∷ warning 0 Trigger 0 2 Unreachable ∷ warning 0 Trigger 0 0 NoUnlock ∷ []
nibbles_row = refl
