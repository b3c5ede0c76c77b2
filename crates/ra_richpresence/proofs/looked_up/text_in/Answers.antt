use Rattle.std.proofs.Common.{◌∙◌, option_map, sym, ap, arith}
use Rattle.ra_richpresence.specs.Lines.{other_text}
use Rattle.ra_richpresence.proofs.SpanRows.{line-of, no-line}
use Rattle.ra_richpresence.proofs.looked_up.text_in.Goals as goal

pub index-requires : goal.index-requires
index-requires c = omega (
  arith,
  c.args.lookup.now.keys.ok.0,
  (line-of c.args.lookup.now.keys.items (option_map (λ text. text.items) c.args.lookup.now.rest) c.args.number
      c.in-Some.line (sym (c.requires.found c.args.number (omega arith)) ∙ sym c.in-Some.ensures)).within,
)

pub returns-in-Some : goal.returns-in-Some
returns-in-Some c =
    let h = line-of c.args.lookup.now.keys.items
    (option_map (λ text. text.items) c.args.lookup.now.rest) c.args.number c.in-Some.line
    (sym (c.requires.found c.args.number (omega arith)) ∙ sym c.in-Some.ensures) in
    c.deref.ensures.value ∙ ap (λ k. k.text.items) c.index.ensures ∙ sym (h.text c.index.result.now)

pub returns-in-Some-rest : goal.returns-in-Some-rest
returns-in-Some-rest c =
    c.deref-in-Some-rest.ensures.value ∙ sym (no-line 0 c.args.lookup.now.keys.items
    (option_map (λ text. text.items) c.args.lookup.now.rest) c.args.number
    (sym (c.requires.found c.args.number (omega arith)) ∙ sym c.in-None.ensures)
    ∙ ap (λ rest. other_text (option_map (λ text. text.items) rest)) c.in-Some-rest.is)

pub returns-in-None-rest : goal.returns-in-None-rest
returns-in-None-rest c =
    sym (no-line 0 c.args.lookup.now.keys.items (option_map (λ text. text.items) c.args.lookup.now.rest) c.args.number
    (sym (c.requires.found c.args.number (omega arith)) ∙ sym c.in-None.ensures)
    ∙ ap (λ rest. other_text (option_map (λ text. text.items) rest)) c.in-None-rest.is)
