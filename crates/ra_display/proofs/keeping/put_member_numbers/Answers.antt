use Rattle.std.proofs.Common.{◌≡◌, ℕ, List, map, get_or, refl, sym, ◌∙◌, ap, subst, arith}
use Rattle.std.specs.List.{concat}
use Rattle.std.proofs.lemmas.List.{get_or-map}
use Rattle.ra_member.specs.declared.value_run.ValueRun.{ValueRun}
use Rattle.ra_display.specs.Keeping.{HasWords, PutsWords}
use Rattle.ra_display.proofs.MemberRows.{numbers_in_row, value_numbers}
use Rattle.ra_display.proofs.Putting.{no_words, row_all, row_more, row_room}
use Rattle.ra_display.proofs.keeping.put_member_numbers.Goals as goal

abbrev numbers : ValueRun → List ℕ
numbers = λ value. value.value.numbers

pub put_row-next-requires : goal.put_row-next-requires
put_row-next-requires c =
    let p = c.loop-place in
    let values = c.args.member.now.values.items in
    let e = c.index.result.now in
    let here = c.kept.ensures ∙ ap numbers c.index.ensures in
    let room : HasWords c.args.row.now c.args.at (concat (value_numbers c.args.member.now)) =
    rw (← numbers_in_row c.args.member.now) c.requires in
    subst (λ (xs : List ℕ). HasWords p.row p.next xs) (sym here)
    (row_room numbers values (map numbers values) refl c.args.row.now p.row c.args.at p.next p.place
    (omega (arith, c.loop-place-test.true)) p.invariant.puts e room)

pub loop-place-init : goal.loop-place-init
loop-place-init c = record { puts = no_words c.args.row.now c.args.at }

pub loop-place-preserved : goal.loop-place-preserved
loop-place-preserved c =
    let p = c.loop-place in
    let values = c.args.member.now.values.items in
    let e = c.index.result.now in
    let one = c.kept.result.now in
    let here = c.kept.ensures ∙ ap numbers c.index.ensures in
    let is : get_or (map numbers values) p.place one ≡ one =
    get_or-map numbers values p.place e one (omega (arith, c.loop-place-test.true)) ∙ sym here in
    record {
      puts =
          row_more numbers values (map numbers values) refl c.args.row.now p.row c.args.at p.next p.place
          (omega (arith, c.loop-place-test.true)) p.invariant.puts c.put_row-next.new.row c.put_row-next.result one is
          c.put_row-next.ensures;
    }

pub returns : goal.returns
returns c =
    let p = c.loop-place in
    let values = c.args.member.now.values.items in
    subst (λ (xs : List ℕ). PutsWords c.args.row.now p.row c.args.at p.next xs) (sym (numbers_in_row c.args.member.now))
    (row_all numbers values (map numbers values) refl c.args.row.now p.row c.args.at p.next p.place
    (omega (arith, c.loop-place-test.false)) p.invariant.puts)
