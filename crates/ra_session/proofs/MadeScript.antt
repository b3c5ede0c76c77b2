-- The presence script of a workload.
use Rattle.std.proofs.Common.{◌≡◌, ℕ, List, [], ◌∷◌, None, Some, refl, subst, codes, lit<, inr}
use Rattle.std.specs.Fmt.{digits}
use Rattle.std.proofs.lemmas.List.Elements.{All-from_recursion}
use Rattle.ra_condition.specs.Canonical.{value_text}
use Rattle.ra_condition.specs.Contents.{PartContents, Legacy}
use Rattle.ra_condition.specs.Spelled.{IsValue, IsPart, IsTerm}
use Rattle.ra_condition.specs.Values.{value}
use Rattle.ra_condition.proofs.Spelling.{value-spelled}
use Rattle.ra_operand.specs.declared.kind.Kind.TheVariants.{Mem}
use Rattle.ra_operand.specs.declared.operand.Operand.TheVariants.{Cell}
use Rattle.ra_operand.specs.declared.size.Size.TheVariants.{Four}
use Rattle.ra_richpresence.specs.Contents.{Shows, LineContents, ScriptContents}
use Rattle.ra_richpresence.specs.Grammar.{many, name, macro, pieces, display, other_than}
use Rattle.ra_text.specs.Form.{One}
use Rattle.ra_text.proofs.Spelled.{then-spelled, none-spelled, one-spelled}

-- the 32 bits at the front of the memory
abbrev pub front_number : List PartContents
front_number = Legacy (record { operand = Cell Mem Four 0; factor = None } ∷ []) ∷ []

-- the line of the display: the number
abbrev pub number_line : LineContents
number_line = record { test = None; pieces = Shows (codes "Number") front_number ∷ [] }

-- the script: one line, and no lookup or format of its own
abbrev pub made_script : ScriptContents
made_script = record { lookups = []; formats = []; lines = number_line ∷ [] }

-- the text of the script
abbrev pub script_text : List ℕ
script_text = codes "Display:\n@Number(0xX0000)\n"

value_written : value_text front_number ≡ codes "0xX0000"
unfolding digits
value_written = refl

is_value : IsValue front_number
is_value = record {
  some = lit< tt;
  each = All-from_recursion IsPart front_number (
    (
      lit< tt,
      All-from_recursion IsTerm (record { operand = Cell Mem Four 0; factor = None } ∷ [])
          (record { operand = lit< tt; factor = tt }, tt),
    ),
    tt,
  );
}

number_spelled : value (codes "0xX0000") front_number
number_spelled = subst (λ t. value t front_number) value_written (value-spelled front_number is_value)

-- one more byte of a name
named_more : (byte : ℕ) (behind others : List ℕ) → One (other_than (codes "()@\\")) (byte ∷ []) byte
    → many (One (other_than (codes "()@\\"))) behind others
    → many (One (other_than (codes "()@\\"))) (byte ∷ behind) (byte ∷ others)
named_more byte behind others is h =
    record { front = byte ∷ []; behind = behind; parts = refl; of_item = is; of_others = h }

in_name : (byte : ℕ) → other_than (codes "()@\\") byte ≡ Some byte → One (other_than (codes "()@\\")) (byte ∷ []) byte
in_name byte is = one-spelled byte is

name_spelled : name (codes "Number") (codes "Number")
name_spelled = then-spelled (codes "N") (codes "umber") 78 refl (in_name 78 refl)
    (then-spelled (codes "umber") [] (codes "umber") refl
    (named_more 117 (codes "mber") (codes "mber") (in_name 117 refl)
    (named_more 109 (codes "ber") (codes "ber") (in_name 109 refl)
    (named_more 98 (codes "er") (codes "er") (in_name 98 refl) (named_more 101 (codes "r")
    (codes "r") (in_name 101 refl) (named_more 114 [] [] (in_name 114 refl) refl))))) none-spelled)

macro_spelled : macro (codes "@Number(0xX0000)") (Shows (codes "Number") front_number)
macro_spelled = then-spelled (codes "@") (codes "Number(0xX0000)") tt refl (one-spelled 64 refl)
    (then-spelled (codes "Number") (codes "(0xX0000)") (codes "Number") refl name_spelled
    (then-spelled (codes "(") (codes "0xX0000)") tt refl (one-spelled 40 refl)
    (then-spelled (codes "0xX0000") (codes ")") front_number refl number_spelled
    (then-spelled (codes ")") [] tt refl (one-spelled 41 refl) none-spelled))))

pieces_spelled : pieces (codes "@Number(0xX0000)") (Shows (codes "Number") front_number ∷ [])
pieces_spelled = then-spelled (codes "@Number(0xX0000)") []
    (Shows (codes "Number") front_number ∷ []) refl
    (then-spelled (codes "@Number(0xX0000)") [] (Shows (codes "Number") front_number ∷ []) refl
    (record {
      front = codes "@Number(0xX0000)";
      behind = [];
      parts = refl;
      of_item = inr macro_spelled;
      of_others = refl;
    }) (then-spelled [] [] [] refl (inr none-spelled) none-spelled)) none-spelled

-- the lines of the script are those of a display
pub display_spelled : display (codes "Display:" ∷ codes "@Number(0xX0000)" ∷ []) (number_line ∷ [])
display_spelled = then-spelled (codes "Display:" ∷ []) (codes "@Number(0xX0000)" ∷ []) tt refl
    (record { line = codes "Display:"; alone = refl; left = refl; of_form = record { is = refl } })
    (then-spelled [] (codes "@Number(0xX0000)" ∷ []) [] refl refl
    (then-spelled (codes "@Number(0xX0000)" ∷ []) [] number_line refl (record {
      line = codes "@Number(0xX0000)";
      alone = refl;
      left = refl;
      of_form = (
        refl,
        then-spelled (codes "@Number(0xX0000)") []
            (Shows (codes "Number") front_number ∷ []) refl pieces_spelled none-spelled,
      );
    }) none-spelled))
