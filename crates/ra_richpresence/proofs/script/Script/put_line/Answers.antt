use Rattle.std.proofs.Common.{◌≡◌, ◌∙◌, ◌++◌, OnOk, sym, ap, map, subst}
use Rattle.ra_richpresence.specs.Contents.{piece_contents, script_contents}
use Rattle.ra_richpresence.specs.Lines.{pieces_text}
use Rattle.ra_richpresence.specs.Meanings.{meanings_in}
use Rattle.ra_richpresence.proofs.MeantTexts.{meanings-of_line}
use Rattle.ra_richpresence.proofs.ShownLemmas.{text-of-line}
use Rattle.ra_richpresence.proofs.script.Script.put_line.Goals as goal

pub returns : goal.returns
returns c =
    let script = script_contents c.args.self.now in
    let left = rw c.deref.ensures.value at c.behind_lines-left.ensures in
    subst (λ t. OnOk c.put_pieces.result (c.put_pieces.new.out.items ≡ c.args.out.now.items ++ t))
    (ap (λ ps. pieces_text script (map piece_contents ps) c.behind_lines-left.result.now) c.deref-2.ensures.value
    ∙ ap (λ vs. pieces_text script (map piece_contents c.index.result.now.pieces.items) vs) left
    ∙ sym (text-of-line c.args.self.now c.args.shown c.index.result.now c.args.values.now
    c.requires.shown c.index.ensures))
    c.put_pieces.ensures

pub put_pieces-requires-clause-meanings : goal.put_pieces-requires-clause-meanings
put_pieces-requires-clause-meanings c =
    let script = script_contents c.args.self.now in
    c.deref-3.ensures.value ∙ meanings-of_line c.args.self.now c.args.shown c.index.result.now
    c.index-2.result.now c.requires.shown c.index.ensures c.index-2.ensures
    ∙ ap (λ ps. meanings_in script.lookups script.formats (map piece_contents ps)) (sym c.deref-2.ensures.value)
