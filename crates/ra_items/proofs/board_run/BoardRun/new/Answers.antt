use Rattle.std.proofs.Common.{[], ◌∷◌, arith}
use Rattle.std.proofs.lemmas.List.Sums.{sum_by-cons}
use Rattle.ra_leaderboard.specs.Contents.{board_contents}
use Rattle.ra_set.specs.Limits.{value_conditions}
use Rattle.ra_member.specs.Members.{MemberContents}
use Rattle.ra_meaning.specs.Order.{board_member, progress_in}
use Rattle.ra_meaning.proofs.Counts.Items.{progress_conditions}
use Rattle.ra_items.proofs.board_run.BoardRun.new.Goals as goal

pub add_value-requires-clause-room : goal.add_value-requires-clause-room
add_value-requires-clause-room c =
    let b = board_contents c.args.text.now in
    omega (
      arith,
      c.requires.room,
      c.in_ok-member.ensures.grows.few,
      sum_by-cons value_conditions b.value (progress_in b.progress),
    )

pub put_progress-requires-clause-room : goal.put_progress-requires-clause-room
put_progress-requires-clause-room c =
    let b = board_contents c.args.text.now in
    let m : MemberContents = record { tests = (board_member b).tests; values = [] } in
    let made = c.in_ok-add_value.ensures c.args.pool.now m c.in_ok-member.ensures in
    omega (
      arith,
      c.requires.room,
      made.grows.few,
      sum_by-cons value_conditions b.value (progress_in b.progress),
      progress_conditions b.progress,
    )

pub returns : goal.returns
returns c =
    let b = board_contents c.args.text.now in
    let pool = c.args.pool.now in
    let m : MemberContents = record { tests = (board_member b).tests; values = [] } in
    let valued : MemberContents = record { tests = (board_member b).tests; values = b.value ∷ [] } in
    record {
      made = c.in_ok-put_progress.ensures pool valued (c.in_ok-add_value.ensures pool m c.in_ok-member.ensures);
      waits = c.new.ensures;
    }
