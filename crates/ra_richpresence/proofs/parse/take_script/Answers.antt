use Rattle.std.proofs.Common.{[], ◌++◌, map, Vec, Global}
use Rattle.std.proofs.lemmas.Result.{err_from_is_err_and}
use Rattle.ra_richpresence.specs.Contents.{line_contents}
use Rattle.ra_richpresence.specs.Grammar.{ScriptParts}
use Rattle.ra_richpresence.specs.Texts.{IsScriptOf}
use Rattle.ra_richpresence.specs.declared.read.ReadScript.{ReadScript}
use Rattle.ra_richpresence.specs.declared.line.Line.{Line}
use Rattle.ra_richpresence.specs.Following.{bytes_of}
use Rattle.ra_richpresence.specs.Reading.{sections_at, display_at}
use Rattle.ra_richpresence.proofs.Whole.{script-none, script-no_display, script-last, script-ends, script-kept}
use Rattle.ra_richpresence.proofs.Whole.{parts_with, sections-fault, display-fault}
use Rattle.ra_richpresence.proofs.parse.take_script.Goals as goal

pub returns-in_err-take_sections : goal.returns-in_err-take_sections
returns-in_err-take_sections c = let p = err_from_is_err_and c.from_residual.result c.from_residual.ensures.1 in
    rw (p.1, p.2) (sections-fault (λ (read : ReadScript) (parts : ScriptParts). IsScriptOf
    c.args.most parts read) c.args.most [] c.in_err-take_sections.field-0.0 c.take_sections.new.kept
    c.take_sections.new.lines.rest.now (sections_at (bytes_of c.args.lines.now.rest.now)) _
    (script-none (bytes_of c.args.lines.now.rest.now) (bytes_of c.take_sections.new.lines.rest.now))
    (c.in_err-take_sections.ensures c.args.most [] c.new-kept.ensures))

pub returns-in_err-shown : goal.returns-in_err-shown
returns-in_err-shown c = let p = err_from_is_err_and c.from_residual-in_err-shown.result
    c.from_residual-in_err-shown.ensures.1 in
    let b = c.in_ok-take_sections.ensures c.args.most [] c.new-kept.ensures in
    rw (p.1, p.2) (display-fault (λ (shown : Vec Line Global). map line_contents shown.items)
    (λ (read : ReadScript) (parts : ScriptParts). IsScriptOf c.args.most parts read)
    c.in_err-shown.field-0.0 c.take_display.new.lines.rest.now
    (display_at (bytes_of c.take_sections.new.lines.rest.now)) _
    (script-no_display (bytes_of c.args.lines.now.rest.now)
    (bytes_of c.take_sections.new.lines.rest.now)
    (bytes_of c.take_display.new.lines.rest.now) b.sections b.read) c.in_err-shown.ensures)

pub returns-in_err-take_sections-2 : goal.returns-in_err-take_sections-2
returns-in_err-take_sections-2 c = let p = err_from_is_err_and
    c.from_residual-in_err-take_sections-2.result c.from_residual-in_err-take_sections-2.ensures.1
    in let b = c.in_ok-take_sections.ensures c.args.most [] c.new-kept.ensures in
    rw (p.1, p.2) (sections-fault (λ (read : ReadScript) (parts : ScriptParts). IsScriptOf
    c.args.most parts read) c.args.most b.sections c.in_err-take_sections-2.field-0.0
    c.take_sections-2.new.kept c.take_sections-2.new.lines.rest.now
    (sections_at (bytes_of c.take_display.new.lines.rest.now)) _
    (script-last (bytes_of c.args.lines.now.rest.now) (bytes_of c.take_sections.new.lines.rest.now)
    (bytes_of c.take_display.new.lines.rest.now) (bytes_of c.take_sections-2.new.lines.rest.now)
    b.sections (map line_contents c.in_ok-shown.shown.items) b.read c.in_ok-shown.ensures)
    (c.in_err-take_sections-2.ensures c.args.most b.sections b.keeps))

pub returns-in-Ok : goal.returns-in-Ok
returns-in-Ok c = let b = c.in_ok-take_sections.ensures c.args.most [] c.new-kept.ensures in
    let d = c.in_ok-take_sections-2.ensures c.args.most b.sections b.keeps in
    record {
      value = parts_with (b.sections ++ d.sections) (map line_contents c.in_ok-shown.shown.items);
      read = script-ends (bytes_of c.args.lines.now.rest.now)
          (bytes_of c.take_sections.new.lines.rest.now) (bytes_of c.take_display.new.lines.rest.now)
          (bytes_of c.take_sections-2.new.lines.rest.now) b.sections d.sections
          (map line_contents c.in_ok-shown.shown.items) b.read c.in_ok-shown.ensures d.read;
      is = script-kept c.args.most (b.sections ++ d.sections) c.take_sections-2.new.kept
          c.in_ok-shown.shown c.in-Ok.script d.keeps c.in-Ok.ensures.lookups c.in-Ok.ensures.formats
          c.in-Ok.ensures.lines;
    }
