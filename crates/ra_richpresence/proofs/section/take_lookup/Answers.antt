use Rattle.std.proofs.Common.{List}
use Rattle.std.proofs.lemmas.Result.{err_from_is_err_and}
use Rattle.ra_richpresence.specs.Grammar.{EntryContents}
use Rattle.ra_richpresence.specs.Reading.{entries_at}
use Rattle.ra_richpresence.specs.declared.read_lookup.ReadLookup.{ReadLookup}
use Rattle.ra_richpresence.specs.Following.{bytes_of}
use Rattle.ra_richpresence.specs.Sections.{IsLookupOf, entry_contents}
use Rattle.ra_richpresence.proofs.Turns.{entries-start, entries-turn, fault-adds}
use Rattle.ra_richpresence.proofs.section.take_lookup.Goals as goal

pub loop-lines-init : goal.loop-lines-init
loop-lines-init c = entries-start c.args.most c.args.name.items c.new-found.result
    (bytes_of c.args.lines.now.rest.now) (c.new-found.ensures c.args.most)

pub returns-in_err-add-in-Ok : goal.returns-in_err-add-in-Ok
returns-in_err-add-in-Ok c = let p = err_from_is_err_and c.from_residual.result c.from_residual.ensures.1 in
    rw (p.1, p.2) (fault-adds (λ (found : ReadLookup) (entries : List EntryContents). IsLookupOf
    c.args.most c.args.name.items entries found) c.in_err-add-in-Ok.field-0.0 _
    c.loop-lines.lines.rest.now (entries_at (bytes_of c.args.lines.now.rest.now))
    (c.in_err-add-in-Ok.ensures c.args.name.items c.loop-lines.invariant.entries
    c.loop-lines.invariant.made))

pub loop-lines-preserved : goal.loop-lines-preserved
loop-lines-preserved c = entries-turn c.args.most c.args.name.items c.loop-lines.found
    c.add.new.self (entry_contents c.in-Ok.entry) c.line-item.result c.loop-lines.lines.rest.now _
    c.in-len1-up.len_at_least c.line-item.is c.in-Ok.ensures
    (λ entries is. c.in_ok-add-in-Ok.ensures c.args.name.items entries is) c.loop-lines.invariant
