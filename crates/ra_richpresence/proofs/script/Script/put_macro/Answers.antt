use Rattle.std.proofs.Common.{◌≡◌, ◌∙◌, ◌++◌, ◌<◌, [], None, OnOk, length, get_or, sym, ap, subst, arith}
use Rattle.std.specs.Int.{w32, cast_unsigned}
use Rattle.std.proofs.lemmas.List.{get_or-map, length-map}
use Rattle.std.proofs.lemmas.Int.{to_z-of_z}
use Rattle.std.proofs.lemmas.List.Elements.{recursion_from_All}
use Rattle.ra_value_format.specs.Formats.{HasDigits, formatted}
use Rattle.ra_richpresence.specs.Contents.{LookupContents, lookup_contents, script_contents}
use Rattle.ra_richpresence.specs.Shown.{text_in}
use Rattle.ra_richpresence.specs.Spans.{AreSpans, line_of}
use Rattle.ra_richpresence.proofs.MeantTexts.{shows-lookup, shows-format, shows-unknown}
use Rattle.ra_richpresence.proofs.SpanRows.{laid-at}
use Rattle.ra_richpresence.proofs.script.Script.put_macro.Goals as goal

pub index-requires : goal.index-requires
index-requires c =
    let script = script_contents c.args.self.now in
    let h = shows-lookup script c.args.name.now c.args.value c.in-Lookup.place
    (record { name = []; keys = []; rest = None }) (sym c.in-Lookup.is ∙ c.requires.meaning) in
    omega (arith, h.within, length-map c.args.self.now.lookups.items lookup_contents)

pub index-requires-in-Lookup : goal.index-requires-in-Lookup
index-requires-in-Lookup c =
    let script = script_contents c.args.self.now in
    let h = shows-lookup script c.args.name.now c.args.value c.in-Lookup.place
    (record { name = []; keys = []; rest = None }) (sym c.in-Lookup.is ∙ c.requires.meaning) in
    omega (arith, h.within, length-map c.args.self.now.lookups.items lookup_contents, c.args.self.now.laid.count)

pub text_in-found-requires : goal.text_in-found-requires
text_in-found-requires c =
    let script = script_contents c.args.self.now in
    let h = shows-lookup script c.args.name.now c.args.value c.in-Lookup.place
    (record { name = []; keys = []; rest = None }) (sym c.in-Lookup.is ∙ c.requires.meaning) in
    let within : c.in-Lookup.place < length c.args.self.now.lookups.items =
    omega (arith, h.within, length-map c.args.self.now.lookups.items lookup_contents) in
    subst (AreSpans (line_of 0 c.index.result.now.keys.items)) (sym c.deref.ensures.value)
    (laid-at c.args.self.now.lookups.items c.args.self.now.spans.items c.in-Lookup.place
    c.index.result.now c.index-in-Lookup.result.now c.args.self.now.laid within c.index.ensures
    c.index-in-Lookup.ensures)

pub returns-in_ok-extend_from_slice-in-Lookup : goal.returns-in_ok-extend_from_slice-in-Lookup
returns-in_ok-extend_from_slice-in-Lookup c =
    let script = script_contents c.args.self.now in
    let lookups = c.args.self.now.lookups.items in
    let place = c.in-Lookup.place in
    let none : LookupContents = record { name = []; keys = []; rest = None } in
    let h = shows-lookup script c.args.name.now c.args.value place none (sym c.in-Lookup.is ∙ c.requires.meaning) in
    let within : place < length lookups = omega (arith, h.within, length-map lookups lookup_contents) in
    let lookup : lookup_contents c.index.result.now ≡ get_or script.lookups place none =
    ap lookup_contents c.index.ensures
    ∙ sym (get_or-map lookup_contents lookups place c.index.result.now none within) in
    c.in_ok-extend_from_slice-in-Lookup.ensures.items
    ∙ ap (λ t. c.args.out.now.items ++ t)
    (c.text_in-found.ensures ∙ ap (text_in (lookup_contents c.index.result.now)) c.cast_unsigned.ensures
    ∙ ap (λ v. text_in (lookup_contents c.index.result.now) (cast_unsigned w32 v))
    (to_z-of_z w32 c.args.value c.ranges.value)
    ∙ ap (λ l. text_in l (cast_unsigned w32 c.args.value)) lookup ∙ sym h.text)

pub put_value-requires : goal.put_value-requires
put_value-requires c =
    let script = script_contents c.args.self.now in
    (shows-format script c.args.name.now c.args.value c.in-Format.format
    (recursion_from_All (λ entry. HasDigits entry.1) script.formats c.requires.formats)
    (sym c.in-Format.is ∙ c.requires.meaning)).digits

pub returns-in-Format : goal.returns-in-Format
returns-in-Format c =
    let script = script_contents c.args.self.now in
    let h = shows-format script c.args.name.now c.args.value c.in-Format.format
    (recursion_from_All (λ entry. HasDigits entry.1) script.formats c.requires.formats)
    (sym c.in-Format.is ∙ c.requires.meaning) in
    subst (λ t. OnOk c.put_value.result (c.put_value.new.out.items ≡ c.args.out.now.items ++ t))
    (ap (formatted c.in-Format.format) (to_z-of_z w32 c.args.value c.ranges.value)
    ∙ sym h.text) c.put_value.ensures

pub returns-in-Unknown : goal.returns-in-Unknown
returns-in-Unknown c =
    let script = script_contents c.args.self.now in
    subst (λ t. OnOk c.put_unknown.result (c.put_unknown.new.out.items ≡ c.args.out.now.items ++ t))
    (sym (shows-unknown script c.args.name.now c.args.value (sym c.in-Unknown.is
    ∙ c.requires.meaning))) c.put_unknown.ensures
