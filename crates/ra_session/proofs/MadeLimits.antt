-- A workload's set keeps each limit.
use Rattle.std.proofs.Common.{◌≡◌, ℕ, zero, suc, ◌+◌, ◌*◌, ◌%◌, ◌<◌, ◌≤◌, false, [], ◌∷◌, ◌++◌, length, map, Some}
use Rattle.std.proofs.Common.{option_map, refl, arith, lit<, lit≤, codes, length-append, mod-lt, ne_eqb}
use Rattle.std.specs.List.{IsDistinct, AllByRecursion, sum_by}
use Rattle.std.specs.Fmt.{decimal}
use Rattle.std.proofs.lemmas.Fmt.{length-decimal-le}
use Rattle.std.proofs.lemmas.List.Sums.{sum_by-append}
use Rattle.md5.specs.Md5.{md5}
use Rattle.ra_set.specs.Accepted.{repeats}
use Rattle.ra_set.specs.Contents.{SetContents}
use Rattle.ra_set.specs.Limits.{item_conditions, ScriptFits, IsWithinLimits}
use Rattle.ra_set.specs.Texts.{item_texts, script_text}
use Rattle.ra_trace.specs.Workload.{drawn, given, drawn_times, hex4, achievement_line, drawn_line, achievement_lines}
use Rattle.ra_trace.specs.Workload.{made_set, lines_after}
use Rattle.ra_session.proofs.MadeLines.{drawn_item, drawn_items, board_item, made_items}
use Rattle.ra_session.proofs.MadeScript.{made_script}

-- ---- no id of one letter stands twice

other_ids : (count id x first y : ℕ) → first < id → AllByRecursion
    (λ item. repeats (drawn_item first y) item ≡ false) (drawn_items count id x ++ board_item ∷ [])
other_ids zero id x first y before = (refl, tt)
other_ids (suc more) id x first y before =
    (ne_eqb first id (λ same. omega (arith, same)), other_ids more (id + 1) (drawn_times 4 x) first y (omega arith))

distinct_from : (count id x : ℕ) → IsDistinct repeats (drawn_items count id x ++ board_item ∷ [])
unfolding IsDistinct
distinct_from zero id x = (tt, tt)
distinct_from (suc more) id x =
    (other_ids more (id + 1) (drawn_times 4 x) id x (omega arith), distinct_from more (id + 1) (drawn_times 4 x))

pub made_items_distinct : (number : ℕ) → IsDistinct repeats (made_items number)
made_items_distinct number = distinct_from 256 1 number

-- ---- how many items and conditions

count_items : (count id x : ℕ) → length (drawn_items count id x) ≡ count
count_items zero id x = refl
count_items (suc more) id x = let others = count_items more (id + 1) (drawn_times 4 x) in omega (arith, others)

count_conditions : (count id x : ℕ) → sum_by item_conditions (drawn_items count id x) ≡ 3 * count
count_conditions zero id x = refl
count_conditions (suc more) id x =
    let here : sum_by item_conditions (drawn_items (suc more) id x)
    ≡ 3 + sum_by item_conditions (drawn_items more (id + 1) (drawn_times 4 x))
    = sum_by-append item_conditions (drawn_item id x ∷ []) (drawn_items more (id + 1) (drawn_times 4 x)) in
    let others = count_conditions more (id + 1) (drawn_times 4 x) in
    omega (arith, here, others)

-- what a workload's set contains
abbrev pub made_contents : ℕ → SetContents
made_contents number = record {
  items = made_items number;
  script = Some made_script;
  digest = md5 (made_set number);
  item_names = map md5 (item_texts (made_set number));
  script_name = option_map md5 (script_text (made_set number));
}

script_fits : ScriptFits made_script
script_fits = record { macros = (lit≤ tt, tt); texts = tt }

pub within_limits : (number : ℕ) → IsWithinLimits (made_contents number)
within_limits number = record {
  items = (let all = length-append (drawn_items 256 1 number) (board_item ∷ []) in
      let count = count_items 256 1 number in omega (arith, all, count));
  conditions = (let all = sum_by-append item_conditions (drawn_items 256 1 number)
      (board_item ∷ []) in let count = count_conditions 256 1 number in omega (arith, all, count));
  script = script_fits;
}

-- ---- how many bytes

achievement_length : (id a b c target : ℕ) → id < 1000 → target < 10 → length (achievement_line id a b c target) ≤ 100
achievement_length id a b c target small digit =
    let behind = codes "._R:0xH" ++ (hex4 c ++ codes "=255\n") in
    let middle = codes " I:0x " ++ (hex4 a ++ (codes "_0xH"
    ++ (hex4 b ++ (codes ">d0xH" ++ (hex4 b ++ (codes "." ++ (decimal target ++ behind))))))) in
    let front = length-append (decimal id) middle in
    let back = length-append (decimal target) behind in
    let short_id : length (decimal id) ≤ 3 = length-decimal-le 3 id (lit< tt) (omega arith) (omega arith) in
    let short_target : length (decimal target) ≤ 1 = length-decimal-le 1 target (lit< tt) (omega arith) (omega arith) in
    omega (arith, front, back, short_id, short_target)

line_length : (id x : ℕ) → id < 1000 → length (drawn_line id x) ≤ 100
unfolding drawn_line
line_length id x small = achievement_length id (given (drawn x)) (given (drawn_times 2 x))
    (given (drawn_times 3 x)) (1 + given (drawn_times 4 x) % 8) small
    (let low : given (drawn_times 4 x) % 8 < 8 = mod-lt (given (drawn_times 4 x)) (lit< tt) in omega (arith, low))

lines_length : (count id x : ℕ) → id + count < 1000 → length (achievement_lines count id x) ≤ 100 * count
unfolding achievement_lines
lines_length zero id x small = lit≤ tt
lines_length (suc more) id x small =
    let first = line_length id x (omega arith) in
    let others = lines_length more (id + 1) (drawn_times 4 x) (omega arith) in
    let all = length-append (drawn_line id x) (achievement_lines more (id + 1) (drawn_times 4 x)) in
    omega (arith, first, others, all)

pub made_set_length : (number : ℕ) → length (made_set number) ≤ 4194304
unfolding made_set
made_set_length number =
    let lines = lines_length 256 1 number (lit< tt) in
    let all = length-append (achievement_lines 256 1 number) lines_after in
    omega (arith, lines, all)
