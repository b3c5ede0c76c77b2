use Rattle.std.proofs.Common.{◌<◌, length, slice_index, subst, arith}
use Rattle.std.proofs.lemmas.List.{take_all, get_or_default}
use Rattle.ra_display.specs.Keeping.{PutsWords}
use Rattle.ra_display.proofs.Putting.{no_words, words_more, room_more}
use Rattle.ra_display.proofs.keeping.put_row.Goals as goal

pub put_word-next-requires : goal.put_word-next-requires
put_word-next-requires c =
    let p = c.loop-place in
    room_more c.args.row.now p.row c.args.at p.next c.args.numbers.now p.place
    (omega (arith, c.loop-place-test.true)) c.requires p.invariant.puts

pub loop-place-init : goal.loop-place-init
loop-place-init c = record { puts = no_words c.args.row.now c.args.at }

pub loop-place-preserved : goal.loop-place-preserved
loop-place-preserved c =
    let p = c.loop-place in
    let numbers = c.args.numbers.now in
    let n = slice_index numbers p.place in
    let within : p.place < length numbers = omega (arith, c.loop-place-test.true) in
    let small = c.type_inv.numbers p.place in
    record {
      puts = words_more c.args.row.now p.row c.put_word-next.new.row c.args.at p.next
          c.put_word-next.result numbers p.place n within (get_or_default numbers p.place n 0
          within) (omega (arith, small)) p.invariant.puts c.put_word-next.ensures;
    }

pub returns : goal.returns
returns c =
    let p = c.loop-place in
    subst (λ ns. PutsWords c.args.row.now p.row c.args.at p.next ns)
    (take_all p.place c.args.numbers.now (omega (arith, c.loop-place-test.false))) p.invariant.puts
