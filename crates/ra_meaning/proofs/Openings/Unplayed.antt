-- What a set keeps after no frame at all is what the opening keeps.
use Rattle.std.proofs.Common.{◌≡◌, ℕ, zero, suc, ◌≤◌, ◌||◌, Bool, true, false, sym, ◌∙◌, Option, None, Some, option_map}
use Rattle.std.proofs.Common.{List, [], ◌∷◌, map, zip, refl, ap₂, arith}
use Rattle.std.specs.List.{flat_map}
use Rattle.ra_indirect.specs.Trees.{same_cell, same_tracked, cells_in, tracked_in}
use Rattle.ra_memref.specs.Names.{cell_name, tracked_name}
use Rattle.ra_memref.specs.Values.{Start, cell_number, tracked_number}
use Rattle.std.proofs.lemmas.List.{length-map}
use Rattle.ra_trigger.specs.States.{state_byte, state_of, is_triggered}
use Rattle.ra_leaderboard.specs.States.{board_byte, board_state_of}
use Rattle.ra_richpresence.specs.Contents.{ScriptContents}
use Rattle.ra_set.specs.Contents.{ItemContents, Unlocks, Ranks, SetContents}
use Rattle.ra_progress.specs.Contents.{KeptItem, OfAchievement, OfBoard, KeptPresence, Opening, ItemFits, ItemsFit}
use Rattle.ra_progress.specs.Contents.{PresenceFits, IsOpening}
use Rattle.ra_member.proofs.Opened.{member_opened, members_opened}
use Rattle.ra_meaning.specs.Order.{board_member, trees_in_set, set_cells, set_tracked, script_members, item_shape}
use Rattle.ra_meaning.specs.Order.{presence_shape, shape_of}
use Rattle.ra_meaning.specs.Openings.{start_of, frames_after, item_after, optional_presence, snapshot}
use Rattle.ra_meaning.proofs.Openings.Beside.{apart_firsts, numbers_beside, priors_beside}

-- a state byte in its table is that of the state that it says
pub byte_again : (state : ℕ) → state ≤ 4 → state_byte (state_of state) ≡ state
byte_again zero within = refl
byte_again (suc zero) within = refl
byte_again (suc (suc zero)) within = refl
byte_again (suc (suc (suc zero))) within = refl
byte_again (suc (suc (suc (suc zero)))) within = refl
byte_again (suc (suc (suc (suc (suc n))))) within = absurd (omega arith)

pub board_byte_again : (state : ℕ) → state ≤ 4 → board_byte (board_state_of state) ≡ state
board_byte_again zero within = refl
board_byte_again (suc zero) within = refl
board_byte_again (suc (suc zero)) within = refl
board_byte_again (suc (suc (suc zero))) within = refl
board_byte_again (suc (suc (suc (suc zero)))) within = refl
board_byte_again (suc (suc (suc (suc (suc n))))) within = absurd (omega arith)

-- an achievement that is earned where it is triggered is earned as it was
pub earned_again : (earned : Bool) (state : ℕ) → state ≤ 4 → (state ≡ 4 → earned ≡ true)
    → (earned || is_triggered (state_of state)) ≡ earned
earned_again true state within fits = refl
earned_again false zero within fits = refl
earned_again false (suc zero) within fits = refl
earned_again false (suc (suc zero)) within fits = refl
earned_again false (suc (suc (suc zero))) within fits = refl
earned_again false (suc (suc (suc (suc zero)))) within fits = sym (fits refl)
earned_again false (suc (suc (suc (suc (suc n))))) within fits = absurd (omega arith)

module _ (start : Start) where
  item_unplayed : (item : ItemContents) (kept : KeptItem) → ItemFits (item_shape item) kept
      → item_after start [] (item, kept) ≡ kept
  item_unplayed (Unlocks id t) (OfAchievement state measured hits earned) is =
      ap₂ (λ s e. OfAchievement s measured hits e) (byte_again state is.0) (earned_again earned state is.0 is.1)
  item_unplayed (Unlocks id t) (OfBoard state hits numbers) is = absurd is
  item_unplayed (Ranks id format b) (OfAchievement state measured hits earned) is = absurd is
  item_unplayed (Ranks id format b) (OfBoard state hits numbers) is =
      let state_is = board_byte_again state is.0 in
      let opened = member_opened (board_member b) hits numbers is.1.as_many is.2.as_many in
      (λ i. OfBoard (state_is i) (opened.hits_too i) (opened.numbers_too i))

  items_unplayed : (items : List ItemContents) (kept : List KeptItem)
      → ItemsFit (map item_shape items) kept → map (item_after start []) (zip items kept) ≡ kept
  items_unplayed [] [] is = refl
  items_unplayed [] (k ∷ kept) is = absurd is
  items_unplayed (item ∷ items) [] is = absurd is
  items_unplayed (item ∷ items) (k ∷ kept) is =
      ap₂ (λ x xs. x ∷ xs) (item_unplayed item k is.0) (items_unplayed items kept is.1)

presence_unplayed : (start : Start) (script : Option ScriptContents) (kept : Option KeptPresence)
    → PresenceFits (option_map presence_shape script) kept → optional_presence start [] script kept
    ≡ kept
presence_unplayed start None None is = refl
presence_unplayed start None (Some kept) is = absurd is
presence_unplayed start (Some script) None is = absurd is
presence_unplayed start (Some script) (Some kept) is =
    let opened = members_opened (script_members script) kept.hits kept.numbers is.1.as_many is.2.as_many in
    (λ i. Some (record { shown = kept.shown; hits = opened.hits_too i; numbers = opened.numbers_too i }))

-- a set that saw no frame keeps its opening
pub snapshot_none : (set : SetContents) (o : Opening) → IsOpening (shape_of set) o → snapshot set o [] ≡ o
snapshot_none set o is =
    let start = start_of set o in
    let frames : frames_after o.frames 0 ≡ o.frames = omega (arith, is.frames) in
    let cells : map (λ c. cell_number start c []) (set_cells set) ≡ o.cells =
    numbers_beside (set_cells set) o.cells (apart_firsts same_cell (flat_map cells_in
    (trees_in_set set))) (is.cells.as_many ∙ length-map (set_cells set) cell_name) in
    let priors : map (λ t. tracked_number start t []) (set_tracked set) ≡ o.priors =
    priors_beside (set_tracked set) o.priors (apart_firsts same_tracked (flat_map tracked_in
    (trees_in_set set))) (is.priors.as_many ∙ length-map (set_tracked set) tracked_name) in
    let items = items_unplayed start set.items o.items is.items in
    let presence = presence_unplayed start set.script o.presence is.presence in
    (λ i. record { frames = frames i; cells = cells i; priors = priors i; items = items i; presence = presence i })
