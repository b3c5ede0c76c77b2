use Rattle.std.proofs.Common.{[], ◌∷◌, arith}
use Rattle.ra_leaderboard.specs.Contents.{board_contents}
use Rattle.ra_member.proofs.Added.{member_begins}
use Rattle.ra_items.proofs.board_run.tested.Goals as goal

pub add_test-requires-2-clause-room : goal.add_test-requires-2-clause-room
add_test-requires-2-clause-room c =
    let pool = c.args.pool.now in
    let begun = member_begins pool c.new-member.result c.len.ensures.pool c.new-member.ensures.tests
    c.new-member.ensures.values in
    omega (arith, c.requires.room, (c.in_ok-add_test.ensures pool [] begun).grows.few)

pub add_test-requires-3-clause-room : goal.add_test-requires-3-clause-room
add_test-requires-3-clause-room c =
    let b = board_contents c.args.text.now in
    let pool = c.args.pool.now in
    let begun = member_begins pool c.new-member.result c.len.ensures.pool c.new-member.ensures.tests
    c.new-member.ensures.values in
    omega (
      arith,
      c.requires.room,
      (c.in_ok-add_test-2.ensures pool (b.start ∷ []) (c.in_ok-add_test.ensures pool [] begun)).grows.few,
    )

pub returns : goal.returns
returns c =
    let b = board_contents c.args.text.now in
    let pool = c.args.pool.now in
    let begun = member_begins pool c.new-member.result c.len.ensures.pool c.new-member.ensures.tests
    c.new-member.ensures.values in
    let one = c.in_ok-add_test.ensures pool [] begun in
    let two = c.in_ok-add_test-2.ensures pool (b.start ∷ []) one in
    c.in_ok-add_test-3.ensures pool (b.start ∷ b.cancel ∷ []) two
