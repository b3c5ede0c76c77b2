use Rattle.std.proofs.Common.{ℕ, List, false, slice_index_or, string_bytes}
use Rattle.ra_why.specs.Text.{want_text}
use Rattle.ra_why.proofs.TextLemmas.{text_more}
use Rattle.ra_why.proofs.whole.write_group_wants.Goals as goal

pub loop-place-preserved : goal.loop-place-preserved
loop-place-preserved c =
    let f : ℕ → List ℕ = λ j. want_text c.args.number j (slice_index_or c.args.wants.now j false) in
    text_more (string_bytes c.args.text.now) (string_bytes c.loop-place.text)
    (string_bytes c.write_want.new.text) f c.loop-place.place c.loop-place.invariant c.in_ok-write_want.ensures
