use Rattle.std.proofs.Common.{◌∙◌, Ok, Err, map, ap, sym, refl, subst}
use Rattle.ra_richpresence.specs.Following.{bytes_of, view_of}
use Rattle.ra_richpresence.specs.Cut.{left_lines}
use Rattle.ra_richpresence.specs.Spelled.{IsScript}
use Rattle.ra_richpresence.proofs.Structure.{script-structure}
use Rattle.ra_richpresence.proofs.Whole.{spells-parts, left-fits, refuses-script, lines-left_over}
use Rattle.ra_richpresence.proofs.parse.read_script.Goals as goal

pub place_of-requires : goal.place_of-requires
place_of-requires c = left-fits c.args.text.now c.as_slice-all.result.now
    (ap (map view_of) c.as_slice-all.ensures.value ∙ c.in-Ok.ensures)
    (Ok (c.in-Ok-take_script.ensures.value, bytes_of c.take_script.new.lines.rest.now))
    c.take_script.new.lines.rest.now c.in-Ok-take_script.ensures.read refl

pub place_of-requires-in-Err-Stop : goal.place_of-requires-in-Err-Stop
place_of-requires-in-Err-Stop c = let e = rw c.in-Err-Stop.field-0-is at c.in-Err-Stop.ensures in
    left-fits c.args.text.now c.as_slice-all.result.now
    (ap (map view_of) c.as_slice-all.ensures.value ∙ c.in-Ok.ensures)
    (Err (bytes_of c.take_script.new.lines.rest.now)) c.take_script.new.lines.rest.now e refl

pub returns-then-is_empty-clause-ok : goal.returns-then-is_empty-clause-ok
returns-then-is_empty-clause-ok c = record {
  parts = c.in-Ok-take_script.ensures.value;
  spelled = spells-parts c.args.text.now c.as_slice-all.result.now (ap (map view_of)
      c.as_slice-all.ensures.value ∙ c.in-Ok.ensures) c.in-Ok-take_script.ensures.value
      c.take_script.new.lines.rest.now c.in-Ok-take_script.ensures.read c.if-is_empty.ensures;
  is = c.in-Ok-take_script.ensures.is;
}

pub returns-in-Ok-take_script-clause-err : goal.returns-in-Ok-take_script-clause-err
returns-in-Ok-take_script-clause-err c = refuses-script c.args.text.now c.as_slice-all.result.now
    (ap (map view_of) c.as_slice-all.ensures.value ∙ c.in-Ok.ensures)
    (Ok (c.in-Ok-take_script.ensures.value, bytes_of c.take_script.new.lines.rest.now))
    c.take_script.new.lines.rest.now c.in-Ok-take_script.ensures.read refl
    (lines-left_over c.in-Ok-take_script.ensures.value c.take_script.new.lines.rest.now
    (sym c.if-is_empty.ensures)) c.place_of.result c.place_of.ensures

pub returns-in-Err-Stop-clause-err : goal.returns-in-Err-Stop-clause-err
returns-in-Err-Stop-clause-err c = let e = rw c.in-Err-Stop.field-0-is at c.in-Err-Stop.ensures in
    refuses-script c.args.text.now c.as_slice-all.result.now
    (ap (map view_of) c.as_slice-all.ensures.value ∙ c.in-Ok.ensures)
    (Err (bytes_of c.take_script.new.lines.rest.now)) c.take_script.new.lines.rest.now e refl
    (λ v same. cc same) c.place_of-in-Err-Stop.result c.place_of-in-Err-Stop.ensures

pub returns-then-is_empty-clause-structure : goal.returns-then-is_empty-clause-structure
returns-then-is_empty-clause-structure c = subst IsScript (sym c.in-Ok-take_script.ensures.is.made)
    (script-structure (left_lines c.args.text.now) c.in-Ok-take_script.ensures.value
    (spells-parts c.args.text.now c.as_slice-all.result.now (ap (map view_of)
    c.as_slice-all.ensures.value ∙ c.in-Ok.ensures) c.in-Ok-take_script.ensures.value
    c.take_script.new.lines.rest.now c.in-Ok-take_script.ensures.read c.if-is_empty.ensures))
