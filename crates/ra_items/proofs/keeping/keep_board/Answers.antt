use Rattle.std.proofs.Common.{arith}
use Rattle.ra_text.proofs.Pieces.{length_words}
use Rattle.ra_member.specs.Members.{saved_hits}
use Rattle.ra_display.specs.LineRests.{seen_line}
use Rattle.ra_display.proofs.SavedLines.{hits_long}
use Rattle.ra_items.proofs.KeptItems.{board_fits}
use Rattle.ra_items.proofs.keeping.keep_board.Goals as goal

pub put_member_numbers-requires : goal.put_member_numbers-requires
put_member_numbers-requires c =
    let run = c.args.run.now in
    let b = c.args.counts.now in
    let many = hits_long run.member b c.args.owed c.requires.fits in
    let state = c.put_byte-next.ensures in
    let put = c.put_member_hits-next.ensures.puts in
    omega (
      arith,
      c.requires.room,
      state.next_is,
      state.long,
      put.next_is,
      put.long,
      length_words (saved_hits (seen_line run.member b c.args.owed)),
      many,
    )

pub returns-clause-fits : goal.returns-clause-fits
returns-clause-fits c =
    board_fits c.args.run.now c.args.counts.now c.args.owed c.put_byte-next.new.row
    c.put_member_hits-next.new.row c.put_member_numbers.new.row c.put_byte-next.result
    c.put_member_hits-next.result c.put_member_numbers.result c.requires.fits
    c.put_member_hits-next.ensures c.put_member_numbers.ensures
