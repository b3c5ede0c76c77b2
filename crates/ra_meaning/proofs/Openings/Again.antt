-- What is kept, laid in a row as in a file and cut again, is what was kept.
use Rattle.std.proofs.Common.{◌≡◌, Bool, refl}
use Rattle.ra_trigger.specs.declared.state.State.{State}
use Rattle.ra_trigger.specs.declared.state.State.TheVariants.{Waiting, Active, Paused, Primed, Triggered}
use Rattle.ra_trigger.specs.States.{state_byte, state_of}
use Rattle.ra_trigger.specs.Steps.{TriggerKept}
use Rattle.ra_leaderboard.specs.declared.state.BoardState.{BoardState}
use Rattle.ra_leaderboard.specs.declared.state.BoardState.TheVariants as boards
use Rattle.ra_leaderboard.specs.Contents.{BoardContents}
use Rattle.ra_leaderboard.specs.States.{board_byte, board_state_of}
use Rattle.ra_member.proofs.Opened.{member_again}
use Rattle.ra_meaning.specs.Order.{board_member}
use Rattle.ra_meaning.specs.Boards.{BoardKept, opened_board, kept_board}
use Rattle.ra_meaning.specs.Openings.{opened_achievement, kept_achievement}
use Rattle.ra_meaning.proofs.Counts.Fitting.{BoardFits}

state_again : (s : State) → state_of (state_byte s) ≡ s
state_again Waiting = refl
state_again Active = refl
state_again Paused = refl
state_again Primed = refl
state_again Triggered = refl

pub achievement_again : (earned : Bool) (k : TriggerKept) → opened_achievement (kept_achievement earned k) ≡ k
achievement_again earned k = λ i. record { state = state_again k.state i; measured = k.measured; hits = k.hits }

board_state_again : (s : BoardState) → board_state_of (board_byte s) ≡ s
board_state_again boards.Waiting = refl
board_state_again boards.Active = refl
board_state_again boards.Started = refl
board_state_again boards.Cancelled = refl
board_state_again boards.Submitted = refl

pub board_again : (b : BoardContents) (k : BoardKept) → BoardFits b k → opened_board b (kept_board k) ≡ k
board_again b k fits =
    let state = board_state_again k.state in
    let member = member_again (board_member b) k.member fits in
    (λ i. record { state = state i; member = member i })
