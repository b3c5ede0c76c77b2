-- The items of a workload, and their texts.
use Rattle.std.proofs.Common.{◌≡◌, ℕ, ◌<◌, ◌^◌, [], ◌∷◌, ◌++◌, None, refl, ap, arith, append_assoc, codes, false}
use Rattle.std.proofs.Common.{if◌then◌else◌, ne_eqb, lit<}
use Rattle.std.specs.Prelude.{All}
use Rattle.std.specs.Fmt.{decimal, digits}
use Rattle.std.proofs.lemmas.List.Elements.{All-from_recursion}
use Rattle.ra_condition.specs.declared.condition.Condition.{Condition}
use Rattle.ra_condition.specs.declared.flag.Flag.{Flag}
use Rattle.ra_condition.specs.declared.flag.Flag.TheVariants.{Plain, ResetIf, AddAddress}
use Rattle.ra_condition.specs.declared.part.Term.{Term}
use Rattle.ra_condition.specs.declared.setting.Setting.TheVariants.{InTrigger}
use Rattle.ra_condition.specs.Canonical.{trigger_text, target_text}
use Rattle.ra_condition.specs.Contents.{TriggerContents, Legacy}
use Rattle.ra_condition.specs.Flags.{hands_on}
use Rattle.ra_condition.specs.Spelled.{IsCondition, IsTriggerGroup, IsTrigger, IsPart, IsTerm}
use Rattle.ra_leaderboard.specs.Contents.{BoardContents}
use Rattle.ra_leaderboard.specs.Spelled.{IsBoard}
use Rattle.ra_leaderboard.proofs.BoardStructure.{board_text}
use Rattle.ra_operand.specs.declared.kind.Kind.TheVariants.{Mem, Delta}
use Rattle.ra_operand.specs.declared.op.Op.TheVariants.{Bare, Eq, Gt}
use Rattle.ra_operand.specs.declared.operand.Operand.TheVariants.{Cell, Const}
use Rattle.ra_operand.specs.declared.size.Size.TheVariants.{Byte, Two}
use Rattle.ra_trace.specs.Workload.{hex4}
use Rattle.ra_session.proofs.MadeDigits.{four_address}

-- I:0x AAAA
abbrev pub points_at : ℕ → Condition
points_at a = record { flag = AddAddress; left = Cell Mem Two a; op = Bare; right = Const 0; target = 0 }

-- 0xHBBBB>d0xHBBBB, with a target
abbrev pub grows : ℕ → ℕ → Condition
grows b target = record { flag = Plain; left = Cell Mem Byte b; op = Gt; right = Cell Delta Byte b; target = target }

-- R:0xHCCCC=255
abbrev pub resets : ℕ → Condition
resets c = record { flag = ResetIf; left = Cell Mem Byte c; op = Eq; right = Const 255; target = 0 }

-- the trigger of an achievement
abbrev pub made_trigger : (a b c target : ℕ) → TriggerContents
made_trigger a b c target = record { core = points_at a ∷ grows b target ∷ resets c ∷ []; alts = [] }

-- a trigger of one condition
abbrev lone : Condition → TriggerContents
lone c = record { core = c ∷ []; alts = [] }

-- a term of one operand
abbrev pub shown_cell : Term
shown_cell = record { operand = Cell Mem Two 0; factor = None }

-- the board
abbrev pub made_board : BoardContents
made_board = record {
  start = lone (grows 0 0);
  cancel = lone (record { flag = Plain; left = Cell Mem Byte 1; op = Eq; right = Const 0; target = 0 });
  submit = lone (grows 2 0);
  value = Legacy (shown_cell ∷ []) ∷ [];
  progress = None;
}

-- ---- their texts

some_target : (n : ℕ) → 0 < n → target_text n ≡ codes "." ++ (decimal n ++ codes ".")
some_target n some = ap (λ b. if b then [] else codes "." ++ (decimal n ++ codes ".")) (ne_eqb n 0 (λ z. omega arith))

three_digits : decimal 255 ≡ codes "255"
unfolding digits
three_digits = refl

-- the text of the trigger
pub made_trigger_text : (a b c target : ℕ) → a < 65536 → b < 65536 → c < 65536 → 0 < target
    → trigger_text (made_trigger a b c target) ≡ codes "I:0x "
    ++ (hex4 a ++ (codes "_0xH" ++ (hex4 b ++ (codes ">d0xH" ++ (hex4 b
    ++ (codes "." ++ (decimal target ++ (codes "._R:0xH" ++ (hex4 c ++ codes "=255")))))))))
made_trigger_text a b c target small_a small_b small_c some =
    let behind = codes "_R:0xH" ++ (hex4 c ++ codes "=255") in
    rw (
      four_address a small_a,
      four_address b small_b,
      four_address c small_c,
      some_target target some,
      three_digits,
      append_assoc (decimal target ++ codes ".") behind [],
      append_assoc (decimal target) (codes ".") behind,
    )

-- the text of the board
pub made_board_text : board_text made_board
    ≡ codes "STA:0xH0000>d0xH0000::CAN:0xH0001=0::SUB:0xH0002>d0xH0002::VAL:0x 0000"
unfolding digits
made_board_text = refl

-- ---- they are of those that some text spells

small : (n : ℕ) → n < 65536 → n < 2 ^ 32
small n h = omega arith

is_grows : (b target : ℕ) → b < 2 ^ 32 → target < 2 ^ 32 → IsCondition InTrigger (grows b target)
is_grows b target small_b small_target = record {
  op = refl;
  left = small_b;
  right = small_b;
  target = small_target;
  bare_right = λ bare. cc bare;
  bare_target = λ bare. cc bare;
  handed_target = λ handed. cc handed;
}

is_equal : (flag : Flag) (b n : ℕ) → hands_on flag ≡ false → b < 2 ^ 32 → n < 2 ^ 32 → IsCondition
    InTrigger (record { flag = flag; left = Cell Mem Byte b; op = Eq; right = Const n; target = 0 })
is_equal flag b n counts small_b small_n = record {
  op = rw counts;
  left = small_b;
  right = small_n;
  target = lit< tt;
  bare_right = λ bare. cc bare;
  bare_target = λ bare. refl;
  handed_target = λ handed. refl;
}

is_address : (a : ℕ) → a < 2 ^ 32 → IsCondition InTrigger (points_at a)
is_address a small_a =
    record {
      op = refl;
      left = small_a;
      right = lit< tt;
      target = lit< tt;
      bare_right = λ bare. refl;
      bare_target = λ bare. refl;
      handed_target = λ handed. refl;
    }

no_alts : All IsTriggerGroup []
no_alts = All-from_recursion IsTriggerGroup [] tt

-- the trigger of an achievement is one that some text spells
pub is_made_trigger : (a b c target : ℕ) → a < 65536 → b < 65536 → c < 65536 → target < 65536
    → IsTrigger (made_trigger a b c target)
is_made_trigger a b c target small_a small_b small_c small_target = record {
  core = All-from_recursion (IsCondition InTrigger) (points_at a ∷ grows b target ∷ resets c ∷ []) (
    is_address a (small a small_a),
    (
      is_grows b target (small b small_b) (small target small_target),
      (is_equal ResetIf c 255 refl (small c small_c) (lit< tt), tt),
    ),
  );
  alts = no_alts;
}

is_lone : (c : Condition) → IsCondition InTrigger c → IsTrigger (lone c)
is_lone c is = record { core = All-from_recursion (IsCondition InTrigger) (c ∷ []) (is, tt); alts = no_alts }

-- the board is one that some text spells
pub is_made_board : IsBoard made_board
is_made_board = record {
  start = is_lone (grows 0 0) (is_grows 0 0 (lit< tt) (lit< tt));
  cancel = is_lone
      (record { flag = Plain; left = Cell Mem Byte 1; op = Eq; right = Const 0; target = 0 })
      (is_equal Plain 1 0 refl (lit< tt) (lit< tt));
  submit = is_lone (grows 2 0) (is_grows 2 0 (lit< tt) (lit< tt));
  value = record {
    some = lit< tt;
    each = All-from_recursion IsPart (Legacy (shown_cell ∷ []) ∷ [])
        ((lit< tt, All-from_recursion IsTerm (shown_cell ∷ []) (record { operand = lit< tt; factor = tt }, tt)), tt);
  };
  progress = tt;
}
