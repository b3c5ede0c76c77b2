use Rattle.std.proofs.Common.{◌+◌, ◌∷◌, [], sym, ◌∙◌, arith}
use Rattle.ra_text.proofs.Bytes.{four_bytes}
use Rattle.ra_schedule.specs.Counted.{owed_by}
use Rattle.ra_schedule.proofs.MembersRest.Counted.{length-owed_by, owed_by_at}
use Rattle.ra_display.proofs.keeping.paid_four.Goals as goal

pub returns : goal.returns
returns c =
    let n = c.args.frames in
    let bits = c.args.counted.now in
    let hits = c.args.hits.now in
    let k = c.args.place in
    let first = c.paid_hit.ensures ∙ sym (owed_by_at n bits hits k (omega (arith, c.requires.within))) in
    let second = c.paid_hit-2.ensures ∙ sym (owed_by_at n bits hits (k + 1) (omega (arith, c.requires.within))) in
    let third = c.paid_hit-3.ensures ∙ sym (owed_by_at n bits hits (k + 2) (omega (arith, c.requires.within))) in
    let fourth = c.paid_hit-4.ensures ∙ sym (owed_by_at n bits hits (k + 3) (omega (arith, c.requires.within))) in
    (λ i. first i ∷ second i ∷ third i ∷ fourth i ∷ [])
    ∙ sym (four_bytes (owed_by n bits hits) k (omega (arith, c.requires.within, length-owed_by n bits hits)))
