use Rattle.std.proofs.Common.{◌≡◌, sym, ◌∙◌, ap₂, subst}
use Rattle.ra_leaderboard.specs.States.{board_byte}
use Rattle.ra_progress.specs.Contents.{ItemFits, KeptItem, OfBoard}
use Rattle.ra_progress.specs.Spelling.{item_bytes}
use Rattle.ra_member.specs.Members.{saved_hits, saved_numbers}
use Rattle.ra_member.specs.MemberRuns.{kept_by}
use Rattle.ra_schedule.specs.Counted.{CountsFit}
use Rattle.ra_schedule.specs.Counts.{counts_of}
use Rattle.ra_display.specs.Keeping.{PutsOver}
use Rattle.ra_display.specs.LineRests.{seen_line}
use Rattle.ra_items.specs.declared.item_run.ItemRun.{ItemRun}
use Rattle.ra_items.specs.declared.item_run.ItemRun.TheVariants.{Leaderboard}
use Rattle.ra_items.specs.Resting.{seen_run}
use Rattle.ra_items.specs.Shapes.{run_shape}
use Rattle.ra_items.proofs.KeptItems.{seen_board}
use Rattle.ra_items.proofs.keeping.keep_item.Goals as goal

pub returns-in-Leaderboard-Leaderboard-clause-puts : goal.returns-in-Leaderboard-Leaderboard-clause-puts
returns-in-Leaderboard-Leaderboard-clause-puts c =
    let run = c.in-Leaderboard-Leaderboard.run' in
    let b = c.in-Leaderboard-Leaderboard.counts in
    let shape : CountsFit (counts_of b.value) (kept_by run.member) =
    rw (c.in-Leaderboard-Leaderboard.is-0, c.in-Leaderboard-Leaderboard.is-1) at c.requires.fits in
    let is : OfBoard (board_byte run.board) (saved_hits (seen_line run.member b.value c.args.owed))
    (saved_numbers (kept_by run.member)) ≡ seen_run c.args.run.now c.args.counts.now c.args.owed =
    seen_board run b c.args.owed shape ∙ sym (ap₂ (λ r e. seen_run r e c.args.owed)
    c.in-Leaderboard-Leaderboard.is-0 c.in-Leaderboard-Leaderboard.is-1) in
    subst (λ (k : KeptItem). PutsOver c.args.row.now c.keep_board.new.row c.args.at
    c.keep_board.result (item_bytes k)) is
    (rw c.deref.ensures at c.keep_board.ensures.puts)

pub returns-in-Leaderboard-Leaderboard-clause-fits : goal.returns-in-Leaderboard-Leaderboard-clause-fits
returns-in-Leaderboard-Leaderboard-clause-fits c =
    let run = c.in-Leaderboard-Leaderboard.run' in
    let b = c.in-Leaderboard-Leaderboard.counts in
    let shape : CountsFit (counts_of b.value) (kept_by run.member) =
    rw (c.in-Leaderboard-Leaderboard.is-0, c.in-Leaderboard-Leaderboard.is-1) at c.requires.fits in
    let is : OfBoard (board_byte run.board) (saved_hits (seen_line run.member b.value c.args.owed))
    (saved_numbers (kept_by run.member)) ≡ seen_run c.args.run.now c.args.counts.now c.args.owed =
    seen_board run b c.args.owed shape ∙ sym (ap₂ (λ r e. seen_run r e c.args.owed)
    c.in-Leaderboard-Leaderboard.is-0 c.in-Leaderboard-Leaderboard.is-1) in
    subst (λ (r : ItemRun). ItemFits (run_shape r)
    (seen_run c.args.run.now c.args.counts.now c.args.owed)) (sym c.in-Leaderboard-Leaderboard.is-0)
    (subst (ItemFits (run_shape (Leaderboard run))) is (rw c.deref.ensures at c.keep_board.ensures.fits))
