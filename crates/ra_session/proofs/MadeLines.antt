-- The lines of a workload's set, and the items that they spell.
use Rattle.std.proofs.Common.{◌≡◌, ℕ, zero, suc, ◌+◌, ◌*◌, ◌%◌, ◌<◌, ◌^◌, List, [], ◌∷◌, ◌++◌, map, Some, refl, sym}
use Rattle.std.proofs.Common.{subst, arith, lit<, codes, append_assoc, mod-lt, inl, inr}
use Rattle.std.specs.Fmt.{decimal, digits}
use Rattle.ra_condition.specs.Canonical.{trigger_text}
use Rattle.ra_condition.specs.Contents.{TriggerContents}
use Rattle.ra_condition.specs.Grammar.{trigger}
use Rattle.ra_condition.specs.Spelled.{IsTrigger}
use Rattle.ra_condition.proofs.Spelling.{trigger-spelled}
use Rattle.ra_leaderboard.specs.Grammar.{board}
use Rattle.ra_leaderboard.proofs.BoardStructure.{board_text, board-spelled}
use Rattle.ra_value_format.specs.declared.format.Format.TheVariants.{Value}
use Rattle.ra_set.specs.Contents.{ItemContents, Unlocks, Ranks}
use Rattle.ra_set.specs.Grammar.{Line, format_name, line, ended_line}
use Rattle.ra_set.specs.Runs.{many}
use Rattle.ra_set.proofs.SetSpelling.{head_text, head-spelled, run-spelled, with-end}
use Rattle.ra_text.proofs.Items.{changed, one-byte}
use Rattle.ra_trace.specs.Workload.{drawn, given, drawn_times, hex4, achievement_line, drawn_line, achievement_lines}
use Rattle.ra_session.proofs.MadeItems.{made_trigger, made_board, made_trigger_text, is_made_trigger, is_made_board}
use Rattle.ra_text.proofs.Spelled.{then-spelled, none-spelled, one-spelled}

unlocks_spelled : (id : ℕ) (t : TriggerContents) → id < 2 ^ 32 → IsTrigger t
    → line (head_text 65 id ++ trigger_text t) (Some (Unlocks id t))
unlocks_spelled id t small is = inr (inl (then-spelled (head_text 65 id) (trigger_text t) id refl
    (head-spelled 65 id refl small)
    (changed trigger (λ t. Some (Unlocks id t)) (trigger_text t) t (trigger-spelled t is))))

-- the item of an achievement from the next four draws
abbrev pub drawn_item : ℕ → ℕ → ItemContents
drawn_item id x = Unlocks id (made_trigger (given (drawn x)) (given (drawn_times 2 x))
    (given (drawn_times 3 x)) (1 + given (drawn_times 4 x) % 8))

given_small : (x : ℕ) → given (drawn x) < 65536
unfolding drawn
given_small x = let low : (x * 1664525 + 1013904223) % 2 ^ 32 < 2 ^ 32 =
    mod-lt (x * 1664525 + 1013904223) (lit< tt) in omega (arith, low)

line_text : (id a b c target : ℕ) → a < 65536 → b < 65536 → c < 65536 → 0 < target
    → achievement_line id a b c target ≡ (head_text 65 id ++ trigger_text (made_trigger a b c target)) ++ codes "\n"
line_text id a b c target small_a small_b small_c some =
    let text = codes "I:0x " ++ (hex4 a ++ (codes "_0xH" ++ (hex4 b ++ (codes ">d0xH" ++ (hex4 b ++ codes "."))))) in
    let behind = codes "._R:0xH" ++ (hex4 c ++ codes "=255") in
    rw (
      made_trigger_text a b c target small_a small_b small_c some,
      append_assoc (decimal id) (codes " ") (text ++ (decimal target ++ behind)),
      append_assoc (decimal id) (codes " " ++ (text ++ (decimal target ++ behind))) (codes "\n"),
      append_assoc (decimal target) behind (codes "\n"),
    )

-- the line of an achievement spells its item
pub drawn_line_spelled : (id x : ℕ) → 0 < id → id < 2 ^ 32 → ended_line (drawn_line id x) (Some (drawn_item id x))
unfolding drawn_line
drawn_line_spelled id x some small =
    let a = given (drawn x) in let b = given (drawn_times 2 x) in let c = given (drawn_times 3 x) in
    let target = 1 + given (drawn_times 4 x) % 8 in
    subst (λ t. ended_line t (Some (drawn_item id x))) (sym (line_text id a b c target
    (given_small x) (given_small (drawn x)) (given_small (drawn_times 2 x)) (omega arith)))
    (with-end (head_text 65 id ++ trigger_text (made_trigger a b c target)) (Some (drawn_item id x))
    (unlocks_spelled id (made_trigger a b c target) small (is_made_trigger a b c target
    (given_small x) (given_small (drawn x)) (given_small (drawn_times 2 x)) (let low : given
    (drawn_times 4 x) % 8 < 8 = mod-lt (given (drawn_times 4 x)) (lit< tt) in omega (arith, low)))))

-- the items of so many achievements, from an id on
abbrev pub drawn_items : ℕ → ℕ → ℕ → List ItemContents
drawn_items zero id x = []
drawn_items (suc more) id x = drawn_item id x ∷ drawn_items more (id + 1) (drawn_times 4 x)

-- the item of the board
abbrev pub board_item : ItemContents
board_item = Ranks 1 Value made_board

-- the line of the board
abbrev pub board_line : List ℕ
board_line = codes "L 1 VALUE STA:0xH0000>d0xH0000::CAN:0xH0001=0::SUB:0xH0002>d0xH0002::VAL:0x 0000\n"

-- all items
abbrev pub made_items : ℕ → List ItemContents
made_items number = drawn_items 256 1 number ++ board_item ∷ []

value_named : format_name (codes "VALUE") Value
value_named = then-spelled (codes "V") (codes "ALUE") 86 refl (one-spelled 86 refl) (then-spelled
    (codes "ALUE") [] (codes "ALUE") refl (run-spelled (codes "ALUE") refl) none-spelled)

ranks_spelled : line (head_text 76 1 ++ (codes "VALUE " ++ board_text made_board)) (Some board_item)
ranks_spelled = inr (inr (inl (then-spelled (head_text 76 1)
    (codes "VALUE " ++ board_text made_board) 1 refl (head-spelled 76 1 refl (lit< tt))
    (then-spelled (codes "VALUE") (32 ∷ board_text made_board) Value refl value_named
    (then-spelled (codes " ") (board_text made_board) tt refl (one-byte 32 refl)
    (changed board (λ b. Some (Ranks 1 Value b)) (board_text made_board) made_board
    (board-spelled made_board is_made_board)))))))

board_line_text : (head_text 76 1 ++ (codes "VALUE " ++ board_text made_board)) ++ codes "\n" ≡ board_line
unfolding digits
board_line_text = refl

-- the line of the board spells its item
pub board_line_spelled : ended_line board_line (Some board_item)
board_line_spelled = subst (λ t. ended_line t (Some board_item)) board_line_text (with-end
    (head_text 76 1 ++ (codes "VALUE " ++ board_text made_board)) (Some board_item) ranks_spelled)

-- the lines spell the items, and behind them what spells others
lines_spelled : (count id x : ℕ) → 0 < id → id + count < 2 ^ 32
    → (behind : List ℕ) (others : List Line) → many ended_line behind others
    → many ended_line (achievement_lines count id x ++ behind) (map Some (drawn_items count id x) ++ others)
unfolding achievement_lines
lines_spelled zero id x some small behind others h = h
lines_spelled (suc more) id x some small behind others h = record {
  front = drawn_line id x;
  behind = achievement_lines more (id + 1) (drawn_times 4 x) ++ behind;
  parts = append_assoc (drawn_line id x) (achievement_lines more (id + 1) (drawn_times 4 x)) behind;
  of_first = drawn_line_spelled id x some (omega arith);
  of_next = lines_spelled more (id + 1) (drawn_times 4 x) (omega arith) (omega arith) behind others h;
}

-- the lines of a set, up to the board's
pub made_lines_spelled : (number : ℕ) → many ended_line (achievement_lines 256 1 number
    ++ board_line) (map Some (drawn_items 256 1 number) ++ Some board_item ∷ [])
made_lines_spelled number = lines_spelled 256 1 number (lit< tt) (lit< tt) board_line
    (Some board_item ∷ [])
    (record { front = board_line; behind = []; parts = refl; of_first = board_line_spelled; of_next = refl })
