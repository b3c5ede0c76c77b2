use Rattle.std.proofs.Common.{◌≡◌, ◌<◌, ◌∙◌, sym, ap, None, length, get_or, arith}
use Rattle.ra_progress.specs.Contents.{shape_contents, own_entries, own_at, OfPresence}
use Rattle.ra_progress.specs.Layout.{block_length}
use Rattle.ra_progress.proofs.Owns.{own_count, own_script, script_count}
use Rattle.ra_progress.proofs.Placed.{own_within, places_count, if_some}
use Rattle.ra_progress.proofs.reading.said_presence.Goals as goal

pub bounds-places-len : goal.bounds-places-len
bounds-places-len c =
    let shape = shape_contents c.args.shape.now in
    let many : length c.args.places.now ≡ length (own_entries shape) = ap length c.requires.places
    ∙ places_count shape c.args.bytes.now in
    omega
    (arith, many, own_count shape c.requires.usable.searchable.paired, ap script_count c.in-Some.is, c.len.ensures)

pub presence_or_plain-requires : goal.presence_or_plain-requires
presence_or_plain-requires c =
    let shape = shape_contents c.args.shape.now in
    let paired = c.requires.usable.searchable.paired in
    let less : c.len.result < length (own_entries shape) = omega
    (arith, own_count shape paired, ap script_count c.in-Some.is, c.len.ensures) in
    let len : c.len.result ≡ length shape.items = omega (arith, c.len.ensures) in
    let long : block_length (own_at (own_entries shape) c.len.result).shape ≡ block_length
    (OfPresence c.in-Some.p) = ap (λ n. block_length (own_at (own_entries shape) n).shape) len ∙ ap block_length
    (own_script shape paired c.in-Some.p c.in-Some.is) in
    if_some _ _ (λ at is.
    let within = own_within shape c.args.bytes.now c.len.result at c.requires.accepted less
    (sym (ap (λ places. get_or places c.len.result None) c.requires.places) ∙ is) in
    omega (arith, within, long))
