use Rattle.std.proofs.Common.{◌≡◌, ◌+◌, ◌*◌, ◌<◌, ◌/◌, length, get_or, sym, ◌∙◌, subst, arith}
use Rattle.std.proofs.lemmas.List.{take_all, get_or_default}
use Rattle.ra_schedule.specs.Counted.{owed_by}
use Rattle.ra_display.specs.Keeping.{PutsWords}
use Rattle.ra_schedule.proofs.MembersRest.Counted.{length-owed_by, owed_by_at}
use Rattle.ra_display.proofs.Putting.{words_more, words_on, words_to}
use Rattle.ra_display.proofs.keeping.put_paid.Goals as goal

pub loop-four-preserved : goal.loop-four-preserved
loop-four-preserved c =
    let p = c.loop-four in
    let hits = c.args.hits.now in
    let all = owed_by c.args.frames c.args.counted.now hits in
    let many : length all ≡ length hits = length-owed_by c.args.frames c.args.counted.now hits in
    let new = c.put_four.new.row in
    let here = c.args.at + 4 * (4 * p.four) in
    let k = 4 * (p.four + 1) in
    let put = subst (PutsWords p.row new here c.put_four.result) c.paid_four.ensures c.put_four.ensures in
    record {
      puts =
          words_on c.args.row.now p.row new c.args.at here c.put_four.result (c.args.at + 4 * k) all (4 * p.four) 4 k
          (omega arith) (omega (arith, c.loop-four-test.true, many)) (omega arith) p.invariant.puts put;
    }

pub loop-left-preserved : goal.loop-left-preserved
loop-left-preserved c =
    let p = c.loop-left in
    let hits = c.args.hits.now in
    let bits = c.args.counted.now in
    let all = owed_by c.args.frames bits hits in
    let many : length all ≡ length hits = length-owed_by c.args.frames bits hits in
    let n = c.paid_hit.result in
    let k = 4 * (length hits / 4) + p.left in
    let within : k < length hits = omega (arith, c.loop-left-test.true) in
    let within_all : k < length all = omega (arith, within, many) in
    let here : get_or all k n ≡ n =
    get_or_default all k n 0 within_all ∙ owed_by_at c.args.frames bits hits k within ∙ sym c.paid_hit.ensures in
    let new = c.put_word.new.row in
    let next = c.put_word.result in
    let put =
    words_more c.args.row.now p.row new c.args.at (c.args.at + 4 * k) next all k n within_all here
    (omega (arith, c.paid_hit.type_inv)) p.invariant.puts c.put_word.ensures in
    let end = 4 * (length hits / 4) + (p.left + 1) in
    record {
      puts =
          words_to c.args.row.now new c.args.at next (c.args.at + 4 * end) all (k + 1) end (omega arith)
          (omega (arith, within_all)) (omega arith) put;
    }

pub returns : goal.returns
returns c =
    let p = c.loop-left in
    let hits = c.args.hits.now in
    let all = owed_by c.args.frames c.args.counted.now hits in
    let many : length all ≡ length hits = length-owed_by c.args.frames c.args.counted.now hits in
    let k = 4 * (length hits / 4) + p.left in
    let last : k ≡ length hits = omega (arith, c.loop-left-test.false, p.auto.left-end) in
    let end = c.args.at + 4 * length hits in
    subst (PutsWords c.args.row.now p.row c.args.at end) (take_all (length hits) all (omega (arith, many)))
    (words_to c.args.row.now p.row c.args.at (c.args.at + 4 * k) end all k (length hits) last (omega (arith, many))
    (omega arith) p.invariant.puts)
