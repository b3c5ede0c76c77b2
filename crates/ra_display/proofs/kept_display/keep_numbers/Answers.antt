use Rattle.std.proofs.Common.{◌≡◌, ◌<◌, length, map, get_or, refl, sym, ◌∙◌, ap, subst, arith}
use Rattle.std.proofs.lemmas.List.{length-map, get_or-map}
use Rattle.ra_member.specs.declared.member.Member.{Member}
use Rattle.ra_member.specs.Members.{saved_numbers}
use Rattle.ra_member.specs.MemberRuns.{kept_by}
use Rattle.ra_display.specs.Keeping.{HasWords}
use Rattle.ra_display.proofs.KeptDisplay.{line_all, line_more, line_room}
use Rattle.ra_display.proofs.Putting.{no_words}
use Rattle.ra_display.proofs.kept_display.keep_numbers.Goals as goal

pub put_member_numbers-next-requires : goal.put_member_numbers-next-requires
put_member_numbers-next-requires c =
    let p = c.loop-place in
    let lines = c.args.lines.now in
    let line = c.index-lines-place.result in
    subst (λ (m : Member). HasWords p.row p.next (saved_numbers (kept_by m))) (sym c.index-lines-place.is)
    (line_room saved_numbers c.args.row.now p.row c.args.at p.next lines (map kept_by lines) p.place
    (omega (arith, c.loop-place-test.true)) p.invariant.puts line refl c.requires)

pub loop-place-init : goal.loop-place-init
loop-place-init c = record { puts = no_words c.args.row.now c.args.at }

pub loop-place-preserved : goal.loop-place-preserved
loop-place-preserved c =
    let p = c.loop-place in
    let lines = c.args.lines.now in
    let line = c.index-lines-place.result in
    let below : p.place < length lines = omega (arith, c.loop-place-test.true) in
    let there : get_or (map kept_by lines) p.place (kept_by line) ≡ kept_by line = get_or-map
    kept_by lines p.place line (kept_by line) below ∙ ap kept_by (sym c.index-lines-place.is) in
    record {
      puts = line_more saved_numbers c.args.row.now p.row c.args.at p.next lines
          (map kept_by lines) p.place below p.invariant.puts c.put_member_numbers-next.new.row
          c.put_member_numbers-next.result (kept_by line)
          (length-map lines kept_by) there c.put_member_numbers-next.ensures;
    }

pub returns : goal.returns
returns c =
    let p = c.loop-place in
    let lines = c.args.lines.now in
    line_all saved_numbers c.args.row.now p.row c.args.at p.next (map kept_by lines) p.place
    (omega (arith, c.loop-place-test.false, length-map lines kept_by)) p.invariant.puts
