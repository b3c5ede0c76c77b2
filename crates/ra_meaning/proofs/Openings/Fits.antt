-- What an opening keeps for boards and for the presence has the counts of their texts.
use Rattle.std.proofs.Common.{ℕ, Option, None, Some, option_map, List, [], ◌∷◌, map, zip}
use Rattle.std.specs.List.{AllByRecursion}
use Rattle.ra_leaderboard.specs.Contents.{BoardContents}
use Rattle.ra_value_format.specs.declared.format.Format.{Format}
use Rattle.ra_richpresence.specs.Contents.{ScriptContents}
use Rattle.ra_set.specs.Contents.{ItemContents, Unlocks, Ranks}
use Rattle.ra_progress.specs.Contents.{KeptItem, OfAchievement, OfBoard, KeptPresence, ItemFits, ItemsFit, PresenceFits}
use Rattle.ra_member.proofs.Opened.{member_opened, members_opened}
use Rattle.ra_meaning.specs.Order.{board_member, script_members, item_shape, presence_shape}
use Rattle.ra_meaning.specs.Boards.{opened_board}
use Rattle.ra_meaning.specs.Presence.{opened_display}
use Rattle.ra_meaning.specs.OpeningLaws.{HasBoardShape, HasDisplayShapes}
use Rattle.ra_meaning.proofs.Counts.Fitting.{BoardFits}
use Rattle.ra_meaning.proofs.Cuts.Presence.{DisplayFits}

pub opened_fits : (b : BoardContents) (id : ℕ) (format : Format) (kept : KeptItem)
    → ItemFits (item_shape (Ranks id format b)) kept → BoardFits b (opened_board b kept)
opened_fits b id format (OfAchievement state measured hits earned) fits = absurd fits
opened_fits b id format (OfBoard state hits numbers) fits =
    (member_opened (board_member b) hits numbers fits.1.as_many fits.2.as_many).shape

pub script_fits : (script : ScriptContents) (kept : KeptPresence) → PresenceFits
    (Some (presence_shape script)) (Some kept) → DisplayFits script (opened_display script kept)
script_fits script kept fits =
    (members_opened (script_members script) kept.hits kept.numbers fits.1.as_many fits.2.as_many).shapes

-- each board of a set, beside what is kept of it
board_fits : (item : ItemContents) (kept : KeptItem) → ItemFits (item_shape item) kept → HasBoardShape (item, kept)
board_fits (Unlocks id t) kept fits = tt
board_fits (Ranks id format b) kept fits = opened_fits b id format kept fits

pub boards_fit : (items : List ItemContents) (kept : List KeptItem)
    → ItemsFit (map item_shape items) kept → AllByRecursion HasBoardShape (zip items kept)
boards_fit [] [] fits = tt
boards_fit [] (k ∷ kept) fits = absurd fits
boards_fit (item ∷ items) [] fits = absurd fits
boards_fit (item ∷ items) (k ∷ kept) fits = (board_fits item k fits.0, boards_fit items kept fits.1)

-- and a display that may be missing
pub display_fits : (script : Option ScriptContents) (kept : Option KeptPresence)
    → PresenceFits (option_map presence_shape script) kept → HasDisplayShapes script kept
display_fits None kept fits = tt
display_fits (Some script) None fits = tt
display_fits (Some script) (Some kept) fits = script_fits script kept fits
