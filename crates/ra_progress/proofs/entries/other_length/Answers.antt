use Rattle.std.proofs.Common.{◌≡◌, ◌+◌, ◌-◌, ◌==◌, ◌∙◌, sym, ap, not, true, false, Bool, Some, map, find, take, drop}
use Rattle.std.proofs.Common.{option_map, slice_index}
use Rattle.std.proofs.lemmas.Bool.{eq-eqb, ne_eqb}
use Rattle.ra_progress.specs.Contents.{Own, shape_contents, own_entries, own_at}
use Rattle.ra_progress.specs.Layout.{own_length, block_length}
use Rattle.ra_progress.proofs.OwnOrder.{between_step, find_here, find_on}
use Rattle.ra_progress.proofs.entries.other_length.Goals as goal

pub returns-then-wanted-from : goal.returns-then-wanted-from
returns-then-wanted-from c =
    let owns = own_entries (shape_contents c.args.shape.now) in
    let order = c.args.shape.now.entry_order.items in
    let own = own_at owns (slice_index order c.loop-place.place) in
    let p : Own → Bool = λ own. not (own_length own == c.args.size) in
    let left = take (c.args.to - (c.loop-place.place + 1)) (drop (c.loop-place.place + 1) order) in
    let step = between_step order c.loop-place.place c.args.to c.loop-place-test.true c.requires.most in
    let long : c.block_length-wanted.result ≡ own_length own = c.block_length-wanted.ensures.length
    ∙ ap block_length c.own_in_order.ensures in
    let other : p own ≡ true = ap not
    (ne_eqb (own_length own) c.args.size (λ same. c.if-wanted-from.true (long ∙ same ∙ sym c.from.ensures))) in
    ap Some long ∙ sym (ap (option_map own_length)
    (sym c.loop-place.invariant ∙ ap (λ xs. find p (map (own_at owns) xs)) step)
    ∙ find_here own_length p own (map (own_at owns) left) other)

pub loop-place-preserved : goal.loop-place-preserved
loop-place-preserved c =
    let owns = own_entries (shape_contents c.args.shape.now) in
    let order = c.args.shape.now.entry_order.items in
    let own = own_at owns (slice_index order c.loop-place.place) in
    let p : Own → Bool = λ own. not (own_length own == c.args.size) in
    let left = take (c.args.to - (c.loop-place.place + 1)) (drop (c.loop-place.place + 1) order) in
    let step = between_step order c.loop-place.place c.args.to c.loop-place-test.true c.requires.most in
    let long : c.block_length-wanted.result ≡ own_length own = c.block_length-wanted.ensures.length
    ∙ ap block_length c.own_in_order.ensures in
    let same : p own ≡ false = ap not
    (eq-eqb (own_length own) c.args.size (sym long ∙ c.if-wanted-from.false ∙ c.from.ensures)) in
    sym (find_on p own (map (own_at owns) left) same) ∙ sym (ap (λ xs. find p (map (own_at owns) xs)) step)
    ∙ c.loop-place.invariant
