-- Normal texts, computed from the definitions.
use Rattle.std.proofs.Common.{◌≡◌, [], ◌∷◌, None, Some, true, codes, refl}
use Rattle.std.specs.Fmt.{digits}
use Rattle.ra_operand.specs.declared.kind.Kind.TheVariants.{Mem}
use Rattle.ra_operand.specs.declared.op.Op.TheVariants.{Eq}
use Rattle.ra_operand.specs.declared.operand.Operand.TheVariants.{Cell, Const}
use Rattle.ra_operand.specs.declared.size.Size.TheVariants.{Byte}
use Rattle.ra_condition.specs.declared.flag.Flag.TheVariants.{Plain, ResetIf}
use Rattle.ra_condition.specs.Contents.{TriggerContents, Legacy}
use Rattle.ra_leaderboard.specs.Contents.{BoardContents}
use Rattle.ra_value_format.specs.declared.format.Format.TheVariants.{Score}
use Rattle.ra_set.specs.Contents.{Unlocks, Ranks}
use Rattle.ra_normal.specs.Text.{item_text, script_from}

-- what stands from the line "P" on
script_line : script_from true (codes "#P\n# P\nA 1 0=1\nP\r\nDisplay:\nP\n") ≡ codes "P\r\nDisplay:\nP\n"
script_line = refl

no_script : script_from true (codes "#P\nA 1 0=1\nPP") ≡ []
no_script = refl

-- the trigger 0=1
abbrev never : TriggerContents
never = record { core = record { flag = Plain; left = Const 0; op = Eq; right = Const 1; target = 0 } ∷ []; alts = [] }

-- an achievement
abbrev resets : TriggerContents
resets = record
    { core = record { flag = ResetIf; left = Cell Mem Byte 16; op = Eq; right = Const 5; target = 3 } ∷ []; alts = [] }

-- a leaderboard with a legacy part of two terms, one of which has a factor
abbrev sums : BoardContents
sums = record {
  start = never;
  cancel = never;
  submit = never;
  value = Legacy (record { operand = Cell Mem Byte 16; factor = Some (Const 3) }
      ∷ record { operand = Const 2; factor = None } ∷ []) ∷ [];
  progress = None;
}

achievement_line : item_text (Unlocks 1 resets) ≡ codes "A 1 R:0xH0010=5.3.\n"
unfolding digits
achievement_line = refl

leaderboard_line : item_text (Ranks 2 Score sums)
    ≡ codes "L 2 SCORE STA:0=1::CAN:0=1::SUB:0=1::VAL:A:0xH0010*3_A:2_M:0\n"
unfolding digits
leaderboard_line = refl
