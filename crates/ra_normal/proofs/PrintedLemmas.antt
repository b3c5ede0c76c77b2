-- A set and its normal set print the same over every trace from their plain openings.
use Rattle.std.proofs.Common.{◌≡◌, ◌∙◌, ℕ, zero, suc, Bool, true, false, if◌then◌else◌, List, [], ◌∷◌, ◌++◌, length}
use Rattle.std.proofs.Common.{map, replicate, zip, refl, sym, ap, ap₂}
use Rattle.std.specs.List.{AllByRecursion, concat, flat_map}
use Rattle.ra_memory.specs.Image.{History}
use Rattle.ra_indirect.specs.Trees.{Cell, Tracked, same_cell, same_tracked}
use Rattle.ra_memref.specs.Values.{Start}
use Rattle.ra_set.specs.Contents.{ItemContents, Unlocks, Ranks, SetContents}
use Rattle.ra_set.specs.Spelled.{IsItem}
use Rattle.ra_trace.specs.Entries.{Entry, Written, Framed, Saved, Restored, Shown, Ended}
use Rattle.ra_meaning.specs.Boards.{opened_board}
use Rattle.ra_meaning.specs.Openings.{number_beside, prior_beside, start_of, frames_after, plain_opening}
use Rattle.ra_progress.specs.Contents.{plain_item}
use Rattle.ra_meaning.specs.Lines.{event_lines}
use Rattle.ra_meaning.specs.Order.{set_cells, set_tracked, item_shape, shape_of}
use Rattle.ra_meaning.specs.Earned.{Earned, both_earned}
use Rattle.ra_meaning.specs.Play.{item_events, unless_earned, lines, unlocks, earns, shown_by, shown, Moment, moved}
use Rattle.ra_meaning.specs.Play.{printed, earned_next, first_moment, pieces_from, text_of}
use Rattle.ra_normal.specs.Contents.{normal_board, normal_item}
use Rattle.ra_normal.proofs.AcceptedLemmas.{normal_set}
use Rattle.ra_normal.proofs.BoardsAlike.{board_alike, same_events, plain_match}

-- ---- the start

if_zero : (same : Bool) (n : ℕ) → n ≡ 0 → (if same then 0 else n) ≡ 0
if_zero true n is = refl
if_zero false n is = is

-- each cell has the number 0 among zeros
no_number : (cells : List Cell) (n : ℕ) (c : Cell) → number_beside cells (replicate n 0) c ≡ 0
no_number [] n c = refl
no_number (d ∷ cells) zero c = if_zero (same_cell d c) (number_beside cells [] c) (no_number cells 0 c)
no_number (d ∷ cells) (suc n) c = if_zero (same_cell d c) (number_beside cells (replicate n 0) c) (no_number cells n c)

no_prior : (tracked : List Tracked) (n : ℕ) (t : Tracked) → prior_beside tracked (replicate n 0) t ≡ 0
no_prior [] n t = refl
no_prior (s ∷ tracked) zero t = if_zero (same_tracked s t) (prior_beside tracked [] t) (no_prior tracked 0 t)
no_prior (s ∷ tracked) (suc n) t =
    if_zero (same_tracked s t) (prior_beside tracked (replicate n 0) t) (no_prior tracked n t)

-- two sets that were never played start alike
same_start : (set other : SetContents) → start_of set (plain_opening set) ≡ start_of other (plain_opening other)
same_start set other =
    let number = λ (c : Cell). no_number (set_cells set) (length (shape_of set).cells) c
    ∙ sym (no_number (set_cells other) (length (shape_of other).cells) c) in
    let prior = λ (t : Tracked). no_prior (set_tracked set) (length (shape_of set).priors) t
    ∙ sym (no_prior (set_tracked other) (length (shape_of other).priors) t) in
    (λ i. record { number = λ c. number c i; prior = λ t. prior t i })

-- ---- events

item_alike : (start : Start) (image : List ℕ) (earlier : History) (x : ItemContents) → IsItem x
    → item_events start image earlier (x, plain_item (item_shape x))
    ≡ item_events start image earlier (normal_item x, plain_item (item_shape (normal_item x)))
item_alike start image earlier (Unlocks id t) is = refl
item_alike start image earlier (Ranks id format b) is =
    let kept = opened_board b (plain_item (item_shape (Ranks id format b))) in
    let other = opened_board (normal_board b) (plain_item (item_shape (Ranks id format (normal_board b)))) in
    let alike = board_alike start b is.0 kept other (plain_match id format b) in
    same_events b id format _ _ _ _ (alike earlier) (alike (image ∷ earlier))

-- the same, unless it is earned
told_alike : (start : Start) (image : List ℕ) (earlier : History) (earned : Bool) (x : ItemContents) → IsItem x
    → unless_earned (item_events start image earlier)
    (earned, (normal_item x, plain_item (item_shape (normal_item x))))
    ≡ unless_earned (item_events start image earlier) (earned, (x, plain_item (item_shape x)))
told_alike start image earlier true x is = refl
told_alike start image earlier false x is = sym (item_alike start image earlier x is)

items_alike : (start : Start) (image : List ℕ) (earlier : History) (earned : Earned)
    (items : List ItemContents) → AllByRecursion IsItem items
    → flat_map (unless_earned (item_events start image earlier))
    (zip earned (zip (map normal_item items) (map plain_item
    (map item_shape (map normal_item items))))) ≡ flat_map (unless_earned (item_events start image
    earlier)) (zip earned (zip items (map plain_item (map item_shape items))))
items_alike start image earlier [] items each = refl
items_alike start image earlier (e ∷ earned) [] each = refl
items_alike start image earlier (e ∷ earned) (x ∷ items) each = ap₂ (λ s t. s ++ t) (told_alike
    start image earlier e x each.0) (items_alike start image earlier earned items each.1)

-- an item and its normal item unlock alike
unlock_alike : (start : Start) (image : List ℕ) (earlier : History) (x : ItemContents)
    → unlocks start image earlier (normal_item x, plain_item (item_shape (normal_item x)))
    ≡ unlocks start image earlier (x, plain_item (item_shape x))
unlock_alike start image earlier (Unlocks id t) = refl
unlock_alike start image earlier (Ranks id format b) = refl

unlocks_alike : (start : Start) (image : List ℕ) (earlier : History) (items : List ItemContents)
    → map (unlocks start image earlier) (zip (map normal_item items)
    (map plain_item (map item_shape (map normal_item items))))
    ≡ map (unlocks start image earlier) (zip items (map plain_item (map item_shape items)))
unlocks_alike start image earlier [] = refl
unlocks_alike start image earlier (x ∷ items) = ap₂ (λ u us. u ∷ us)
    (unlock_alike start image earlier x) (unlocks_alike start image earlier items)

-- ---- a trace

module _ (set : SetContents) (text : List ℕ) (each : AllByRecursion IsItem set.items) where
  abbrev normal : SetContents
  normal = normal_set set text

  lines_alike : (history : History) (earned : Earned) → lines normal
      (plain_opening normal) history earned ≡ lines set (plain_opening set) history earned
  lines_alike [] earned = refl
  lines_alike (image ∷ earlier) earned =
      ap (event_lines (frames_after 0 (length earlier)))
      (ap (λ start. flat_map (unless_earned (item_events start image earlier))
      (zip earned (zip normal.items (plain_opening normal).items))) (same_start normal set)
      ∙ items_alike (start_of set (plain_opening set)) image earlier earned set.items each)

  earns_alike : (history : History) (earned : Earned) → earns normal
      (plain_opening normal) history earned ≡ earns set (plain_opening set) history earned
  earns_alike [] earned = refl
  earns_alike (image ∷ earlier) earned =
      ap (both_earned earned)
      (ap (λ start. map (unlocks start image earlier)
      (zip normal.items (plain_opening normal).items)) (same_start normal set)
      ∙ unlocks_alike (start_of set (plain_opening set)) image earlier set.items)

  shown_alike : (history : History) → shown normal (plain_opening normal) history
      ≡ shown set (plain_opening set) history
  shown_alike history = ap (λ start. shown_by start (frames_after 0 (length history)) history
      set.script (plain_opening set).presence) (same_start normal set)

  printed_alike : (entry : Entry) (m : Moment) (earned : Earned) → printed normal
      (plain_opening normal) entry m earned ≡ printed set (plain_opening set) entry m earned
  printed_alike (Written at bytes) m earned = refl
  printed_alike Framed m earned = lines_alike m.behind earned
  printed_alike (Saved slot) m earned = refl
  printed_alike (Restored slot) m earned = refl
  printed_alike Shown m earned = shown_alike m.behind
  printed_alike Ended m earned = refl

  next_alike : (entry : Entry) (m : Moment) (earned : Earned) → earned_next normal
      (plain_opening normal) entry m earned ≡ earned_next set (plain_opening set) entry m earned
  next_alike (Written at bytes) m earned = refl
  next_alike Framed m earned = earns_alike m.behind earned
  next_alike (Saved slot) m earned = refl
  next_alike (Restored slot) m earned = refl
  next_alike Shown m earned = refl
  next_alike Ended m earned = refl

  pieces_alike : (m : Moment) (earned : Earned) (entries : List Entry) → pieces_from normal
      (plain_opening normal) m earned entries ≡ pieces_from set (plain_opening set) m earned entries
  pieces_alike m earned [] = refl
  pieces_alike m earned (entry ∷ entries) =
      ap₂ (λ piece pieces. piece ∷ pieces) (printed_alike entry (moved entry m) earned)
      (ap (λ next. pieces_from normal (plain_opening normal) (moved entry m) next entries)
      (next_alike entry (moved entry m) earned)
      ∙ pieces_alike (moved entry m) (earned_next set (plain_opening set) entry (moved entry m) earned) entries)

  -- the text over a trace, whatever frames lie before it and whatever is earned
  pub text_alike : (behind : History) (earned : Earned) (size : ℕ) (entries : List Entry)
      → text_of normal (plain_opening normal) behind earned size entries
      ≡ text_of set (plain_opening set) behind earned size entries
  text_alike behind earned size entries = ap concat (pieces_alike (first_moment size behind) earned entries)
