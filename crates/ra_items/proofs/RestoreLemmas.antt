-- Runs whose numbers are put back or cleared keep what a file says of them, and stay runs of their items.
use Rattle.std.proofs.Common.{◌≡◌, ℕ, ◌+◌, ◌*◌, ◌≤◌, ◌||◌, Bool, false, true, nat_lt, None, Some, Option, List, length}
use Rattle.std.proofs.Common.{slice_index, refl, sym, ◌∙◌, ap, ap₂, subst, arith}
use Rattle.std.proofs.lemmas.Bool.{ltb-true}
use Rattle.std.proofs.lemmas.List.{length-replicate}
use Rattle.ra_condition.specs.Contents.{groups_of}
use Rattle.ra_indirect.specs.declared.node.Node.{Node}
use Rattle.ra_trigger.specs.Steps.{TriggerKept, cleared}
use Rattle.ra_trigger.specs.States.{state_of}
use Rattle.ra_trigger.specs.declared.state.State.TheVariants.{Waiting}
use Rattle.ra_leaderboard.specs.States.{board_byte, board_state_of}
use Rattle.ra_leaderboard.specs.declared.state.BoardState.TheVariants as boards
use Rattle.ra_set.specs.Contents.{ItemContents, Unlocks, Ranks}
use Rattle.ra_progress.specs.Contents.{OfAchievement, OfBoard, plain_item}
use Rattle.ra_progress.specs.Layout.{version_in}
use Rattle.ra_progress.specs.Reading.{is_state}
use Rattle.ra_progress.specs.Saying.{is_earned, state_said, said_or, said_item}
use Rattle.ra_progress.specs.declared.shape.ItemShape.TheVariants as shapes
use Rattle.ra_progress.proofs.SaysOpening.{state_said_fits}
use Rattle.ra_text.specs.Words.{word_at, words_at}
use Rattle.ra_member.specs.Members.{cleared_member, saved_hits, saved_numbers}
use Rattle.ra_member.specs.MemberRuns.{StaysMember, kept_by}
use Rattle.ra_member.proofs.Cleared.{cleared_saved}
use Rattle.ra_items.specs.declared.achievement_run.AchievementRun.{AchievementRun}
use Rattle.ra_items.specs.declared.board_run.BoardRun.{BoardRun}
use Rattle.ra_items.specs.declared.item_run.ItemRun.TheVariants.{Achievement, Leaderboard}
use Rattle.ra_meaning.specs.Earned.{item_with}
use Rattle.ra_meaning.specs.Openings.{kept_achievement}
use Rattle.ra_items.specs.Runs.{earned_by}
use Rattle.ra_items.specs.Shapes.{board_run_shape}
use Rattle.ra_member.specs.Runs.{IsLaid}
use Rattle.ra_meaning.specs.Boards.{kept_board}
use Rattle.ra_meaning.specs.Order.{board_member}
use Rattle.ra_items.specs.ItemRuns.{IsItemRun}
use Rattle.ra_items.specs.Restoring.{PutsBackBoard, PutsBackItem}
use Rattle.ra_meaning.proofs.Openings.Unplayed.{byte_again, board_byte_again, earned_again}
use Rattle.ra_text.proofs.Rows.{length-words_at}

-- an achievement of which only the kept numbers change, and not how many there are
achievement_stays : (old new : AchievementRun) → new.run.laid ≡ old.run.laid
    → length new.run.trigger.hits ≡ length old.run.trigger.hits → (nodes : List Node) (item :
    ItemContents) → IsItemRun nodes item (Achievement old) → IsItemRun nodes item (Achievement new)
achievement_stays old new laid hits nodes (Unlocks id t) is = record {
  laid = subst (IsLaid nodes (groups_of t)) (sym laid) is.laid;
  hits = hits ∙ is.hits;
}
achievement_stays old new laid hits nodes (Ranks id format b) is = absurd is

-- what is one of two, where the other is
earned_too : (before earned : Bool) → earned ≡ true → (before || earned) ≡ true
earned_too true earned is = refl
earned_too false earned is = is

-- an achievement that is put back from its block
pub achievement_back : (bytes : List ℕ) (at : ℕ) (old new : AchievementRun)
    → is_state (version_in bytes) (shapes.Achievement (length old.run.trigger.hits))
    (slice_index bytes at) ≡ true → new.run.laid ≡ old.run.laid → new.earned
    ≡ (earned_by old || is_earned (version_in bytes) (slice_index bytes at))
    → new.run.trigger
    ≡ record {
      state = state_of (state_said (version_in bytes) (slice_index bytes at));
      measured = word_at bytes (at + 1);
      hits = words_at bytes (at + 5) (length old.run.trigger.hits);
    }
    → PutsBackItem bytes (Some at) (Achievement old) (Achievement new)
achievement_back bytes at old new good laid earned trigger =
    let many = length old.run.trigger.hits in
    let said = state_said (version_in bytes) (slice_index bytes at) in
    let fits = state_said_fits (version_in bytes) many (slice_index bytes at) good in
    let told = is_earned (version_in bytes) (slice_index bytes at) in
    record {
      kept =
          ap₂ kept_achievement earned trigger
          ∙ ap₂ (λ s e. OfAchievement s (word_at bytes (at + 1)) (words_at bytes (at + 5) many) e)
          (byte_again said fits.0) (earned_again (earned_by old || told) said fits.0
          (λ four. earned_too (earned_by old) told (fits.1 four)));
      run = achievement_stays old new laid (ap (λ (k : TriggerKept). length k.hits) trigger
          ∙ length-words_at bytes (at + 5) many);
    }

-- a board whose state and member are put back from its block
pub board_back : (bytes : List ℕ) (at numbers : ℕ) (old new : BoardRun) → nat_lt (slice_index bytes
    at) 5 ≡ true → new.board ≡ board_state_of (slice_index bytes at) → StaysMember old.member
    new.member → numbers ≡ at + 1 + 4 * length (saved_hits (kept_by old.member))
    → saved_hits (kept_by new.member) ≡ words_at bytes (at + 1) (length (saved_hits (kept_by old.member)))
    → saved_numbers (kept_by new.member) ≡ words_at bytes numbers
    (length (saved_numbers (kept_by old.member))) → PutsBackBoard bytes (Some at) old new
board_back bytes at numbers old new good board stays behind hits parts =
    let small : slice_index bytes at ≤ 4 = omega (arith, ltb-true (slice_index bytes at) 5 good) in
    let state = ap board_byte board ∙ board_byte_again (slice_index bytes at) small in
    let rest = parts ∙ ap (λ n. words_at bytes n (length (saved_numbers (kept_by old.member)))) behind in
    record { kept = (λ i. OfBoard (state i) (hits i) (rest i)); run = λ nodes b is. stays nodes (board_member b) is }

-- a board without a block is cleared
pub board_cleared : (bytes : List ℕ) (old new : BoardRun) → new.board ≡ boards.Waiting
    → StaysMember old.member new.member → kept_by new.member ≡ cleared_member (kept_by old.member)
    → PutsBackBoard bytes None old new
board_cleared bytes old new board stays member =
    let zero = cleared_saved (kept_by old.member) in
    record {
      kept = (λ i. kept_board (record { state = board i; member = member i })) ∙ ap₂ (OfBoard 0) zero.0 zero.1;
      run = λ nodes b is. stays nodes (board_member b) is;
    }

-- a board is earned neither before nor after
board_with : (bytes : List ℕ) (place : Option ℕ) (old : BoardRun) (earned : Bool)
    → said_or (said_item bytes (board_run_shape old)) (plain_item (board_run_shape old)) place
    ≡ item_with earned
    (said_or (said_item bytes (board_run_shape old)) (plain_item (board_run_shape old)) place)
board_with bytes None old earned = refl
board_with bytes (Some at) old earned = refl

pub leaderboard_back : (bytes : List ℕ) (place : Option ℕ) (old new : BoardRun) → PutsBackBoard
    bytes place old new → PutsBackItem bytes place (Leaderboard old) (Leaderboard new)
leaderboard_back bytes place old new back = record { kept = back.kept ∙ board_with bytes place old _; run = run }
  where
    run : (nodes : List Node) (item : ItemContents) → IsItemRun nodes item (Leaderboard old)
        → IsItemRun nodes item (Leaderboard new)
    run nodes (Unlocks id t) is = absurd is
    run nodes (Ranks id format b) is = back.run nodes b is
