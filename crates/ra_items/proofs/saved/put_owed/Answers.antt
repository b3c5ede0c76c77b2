use Rattle.std.proofs.Common.{◌≡◌, ◌++◌, OnOk, length, drop, arith, sym, ◌∙◌, ap, ap₂, subst}
use Rattle.std.proofs.lemmas.List.{take-append-le, take_all}
use Rattle.ra_leaderboard.specs.States.{board_byte}
use Rattle.ra_progress.specs.Contents.{KeptItem, ItemFits, OfBoard}
use Rattle.ra_progress.specs.Spelling.{item_bytes}
use Rattle.ra_progress.specs.Writing.{named_block}
use Rattle.ra_member.specs.MemberRuns.{kept_by}
use Rattle.ra_member.specs.Members.{saved_hits, saved_numbers}
use Rattle.ra_schedule.specs.Counted.{CountsFit, bits_in, owed_by, owed_member_by}
use Rattle.ra_schedule.specs.Counts.{counts_of}
use Rattle.ra_items.specs.declared.item_run.ItemRun.{ItemRun}
use Rattle.ra_items.specs.declared.item_run.ItemRun.TheVariants.{Leaderboard}
use Rattle.ra_items.specs.Resting.{owed_run}
use Rattle.ra_items.specs.Shapes.{run_shape}
use Rattle.ra_schedule.proofs.MembersRest.Counted.{bits_many, saved_owed_by, saved_stay_by}
use Rattle.ra_schedule.specs.declared.member_counts.MemberCounts.{MemberCounts}
use Rattle.ra_items.proofs.saved.put_owed.Goals as goal

pub pay-requires-in-Leaderboard-Leaderboard : goal.pay-requires-in-Leaderboard-Leaderboard
pay-requires-in-Leaderboard-Leaderboard c =
    let run = c.in-Leaderboard-Leaderboard.run' in
    let old = c.in-Leaderboard-Leaderboard.counts in
    let shape : CountsFit (counts_of old.value) (kept_by run.member) =
    rw (c.in-Leaderboard-Leaderboard.is-0, c.in-Leaderboard-Leaderboard.is-1) at c.requires.fits in
    let hits : c.save.new.hits.items ≡ saved_hits (kept_by run.member) =
    c.in_ok-save-in-Leaderboard-Leaderboard.ensures.hits.all
    ∙ ap (λ xs. xs ++ saved_hits (kept_by run.member)) c.new-hits.ensures.items in
    ap length (c.deref-in-Leaderboard-Leaderboard-2.ensures.value ∙ c.in_ok-row-in-Leaderboard-Leaderboard.ensures
    ∙ ap (λ (n : MemberCounts). bits_in (counts_of n)) c.deref-in-Leaderboard-Leaderboard.ensures)
    ∙ bits_many (counts_of old.value) (kept_by run.member) shape
    ∙ sym (ap length (c.deref_mut-in-Leaderboard-Leaderboard.ensures.value ∙ hits))

-- the hits and the numbers that are written are those that are owed
kept_is : (c : goal.After-drop-hits-in-Leaderboard-Leaderboard)
    → OfBoard (board_byte c.in-Leaderboard-Leaderboard.run'.board)
    c.deref-in-Leaderboard-Leaderboard-3.result.now c.deref-in-Leaderboard-Leaderboard-4.result.now
    ≡ owed_run c.args.frames c.args.counts.now c.args.run.now
kept_is c =
    let run = c.in-Leaderboard-Leaderboard.run' in
    let old = c.in-Leaderboard-Leaderboard.counts in
    let frames = c.args.frames in
    let one = counts_of old.value in
    let other = kept_by run.member in
    let shape : CountsFit one other =
    rw (c.in-Leaderboard-Leaderboard.is-0, c.in-Leaderboard-Leaderboard.is-1) at c.requires.fits in
    let put = c.in_ok-save-in-Leaderboard-Leaderboard.ensures in
    let row : c.deref-in-Leaderboard-Leaderboard-2.result.now ≡ bits_in one =
    c.deref-in-Leaderboard-Leaderboard-2.ensures.value ∙ c.in_ok-row-in-Leaderboard-Leaderboard.ensures
    ∙ ap (λ (n : MemberCounts). bits_in (counts_of n)) c.deref-in-Leaderboard-Leaderboard.ensures in
    let were : c.deref_mut-in-Leaderboard-Leaderboard.result.now ≡ saved_hits other =
    c.deref_mut-in-Leaderboard-Leaderboard.ensures.value ∙ put.hits.all
    ∙ ap (λ xs. xs ++ saved_hits other) c.new-hits.ensures.items in
    let paid_hits = c.pay-in-Leaderboard-Leaderboard.new.hits in
    let long : length paid_hits ≡ c.save.new.hits.len =
    omega (
      arith,
      c.pay-in-Leaderboard-Leaderboard.auto.hits,
      c.deref_mut-in-Leaderboard-Leaderboard.ensures.len,
      c.save.new.hits.ok,
    ) in
    let now : c.deref-in-Leaderboard-Leaderboard-3.result.now ≡ paid_hits =
    c.deref-in-Leaderboard-Leaderboard-3.ensures.value
    ∙ take-append-le c.save.new.hits.len paid_hits (drop (length paid_hits) c.save.new.hits.items)
    (omega (arith, long)) ∙ take_all c.save.new.hits.len paid_hits (omega (arith, long)) in
    let hits : c.deref-in-Leaderboard-Leaderboard-3.result.now ≡ saved_hits (owed_member_by frames one other) =
    now ∙ c.pay-in-Leaderboard-Leaderboard.ensures ∙ ap₂ (owed_by frames) row were
    ∙ saved_owed_by frames one other shape in
    let numbers : c.deref-in-Leaderboard-Leaderboard-4.result.now ≡ saved_numbers (owed_member_by frames one other) =
    c.deref-in-Leaderboard-Leaderboard-4.ensures.value ∙ put.numbers.all ∙ ap (λ xs. xs ++
    saved_numbers other) c.new-numbers.ensures.items ∙ sym (saved_stay_by frames one other shape) in
    ap₂ (OfBoard (board_byte run.board)) hits numbers ∙ sym
    (ap₂ (owed_run frames) c.in-Leaderboard-Leaderboard.is-1 c.in-Leaderboard-Leaderboard.is-0)

pub returns-in_ok-row-in-Leaderboard-Leaderboard-clause-bytes
    : goal.returns-in_ok-row-in-Leaderboard-Leaderboard-clause-bytes
returns-in_ok-row-in-Leaderboard-Leaderboard-clause-bytes c =
    subst (λ (k : KeptItem). OnOk c.put_board_run.result (c.put_board_run.new.bytes.items
    ≡ c.args.bytes.now.items ++ named_block c.args.name.now (item_bytes k)))
    (kept_is c) c.put_board_run.ensures.bytes

pub returns-in_ok-row-in-Leaderboard-Leaderboard-clause-fits
    : goal.returns-in_ok-row-in-Leaderboard-Leaderboard-clause-fits
returns-in_ok-row-in-Leaderboard-Leaderboard-clause-fits c =
    subst (λ (r : ItemRun). OnOk c.put_board_run.result (ItemFits (run_shape r) (owed_run
    c.args.frames c.args.counts.now c.args.run.now))) (sym c.in-Leaderboard-Leaderboard.is-0)
    (subst (λ (k : KeptItem). OnOk c.put_board_run.result (ItemFits (run_shape
    (Leaderboard c.in-Leaderboard-Leaderboard.run')) k)) (kept_is c) c.put_board_run.ensures.fits)
