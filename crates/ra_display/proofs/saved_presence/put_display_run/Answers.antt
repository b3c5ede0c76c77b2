use Rattle.std.proofs.Common.{◌≡◌, ◌++◌, [], ◌∷◌, OnOk, List, length, option_to_list, ◌∙◌, sym, ap, ap₂, subst, arith}
use Rattle.std.proofs.lemmas.Result.{on_ok_weaker}
use Rattle.ra_text.specs.Words.{words}
use Rattle.ra_progress.specs.Spelling.{named_blocks, presence_bytes}
use Rattle.ra_progress.specs.Writing.{named_block}
use Rattle.ra_progress.proofs.Blocks.{one_block}
use Rattle.ra_member.specs.declared.member.Member.{Member}
use Rattle.ra_member.specs.Members.{saved_hits, saved_numbers}
use Rattle.ra_display.specs.LineRests.{AreLinesFitting, presence_seen}
use Rattle.ra_display.proofs.SavedLines.{row_fits, row_seen, rows_long}
use Rattle.ra_display.proofs.saved_presence.put_display_run.Goals as goal

pub put_lines-requires : goal.put_lines-requires
put_lines-requires c = record {
  fit = subst (λ (lines : List Member). AreLinesFitting lines c.args.rests.now.each.items)
      (sym c.deref.ensures.value) c.requires.fit;
}

pub put_presence-requires : goal.put_presence-requires
put_presence-requires c =
    let run = c.args.run.now in
    let rests = c.args.rests.now in
    let put = c.in_ok-put_lines.ensures in
    let hits = row_seen saved_hits rests c.deref.result.now run.lines.items c.new.result.items
    c.put_lines.new.rows.hits.items c.new.ensures.items c.deref.ensures.value put.hits in
    let numbers = row_seen saved_numbers rests c.deref.result.now run.lines.items
    c.new-2.result.items c.put_lines.new.rows.numbers.items c.new-2.ensures.items
    c.deref.ensures.value put.numbers in
    let long = rows_long run.lines.items rests c.requires.fit in
    let one = ap length (c.deref-in-Some.ensures.value ∙ hits) ∙ long.0 in
    let two = ap length (c.deref-in-Some-2.ensures.value ∙ numbers) ∙ long.1 in
    omega (arith, one, two, c.requires.short)

pub returns-in-Some-clause-bytes : goal.returns-in-Some-clause-bytes
returns-in-Some-clause-bytes c =
    let run = c.args.run.now in
    let rests = c.args.rests.now in
    let put = c.in_ok-put_lines.ensures in
    let hits = row_seen saved_hits rests c.deref.result.now run.lines.items c.new.result.items
    c.put_lines.new.rows.hits.items c.new.ensures.items c.deref.ensures.value put.hits in
    let numbers = row_seen saved_numbers rests c.deref.result.now run.lines.items
    c.new-2.result.items c.put_lines.new.rows.numbers.items c.new-2.ensures.items
    c.deref.ensures.value put.numbers in
    let block = presence_bytes (presence_seen run rests) in
    let same : named_block c.in-Some.name (words (run.shown ∷ c.deref-in-Some.result.now) ++ words
    c.deref-in-Some-2.result.now) ≡ named_blocks (option_to_list c.args.name.now) (block ∷ []) =
    ap₂ (λ h n. named_block c.in-Some.name (words (run.shown ∷ h) ++ words n))
    (c.deref-in-Some.ensures.value ∙ hits) (c.deref-in-Some-2.ensures.value ∙ numbers)
    ∙ sym (one_block c.in-Some.name block)
    ∙ ap (λ o. named_blocks (option_to_list o) (block ∷ [])) (sym c.in-Some.is) in
    subst (λ xs. OnOk c.put_presence.result (c.put_presence.new.bytes.items
    ≡ c.args.bytes.now.items ++ xs)) same c.put_presence.ensures

pub returns-in-Some-clause-fits : goal.returns-in-Some-clause-fits
returns-in-Some-clause-fits c =
    let run = c.args.run.now in
    let rests = c.args.rests.now in
    let put = c.in_ok-put_lines.ensures in
    on_ok_weaker c.put_presence.result (λ _. record {
      hits = row_fits saved_hits rests c.deref.result.now run.lines.items c.new.result.items
          c.put_lines.new.rows.hits.items c.deref.ensures.value put.hits;
      numbers = row_fits saved_numbers rests c.deref.result.now run.lines.items c.new-2.result.items
          c.put_lines.new.rows.numbers.items c.deref.ensures.value put.numbers;
    }) c.put_presence.ensures

pub returns-clause-fits : goal.returns-clause-fits
returns-clause-fits c =
    let run = c.args.run.now in
    let rests = c.args.rests.now in
    let put = c.in_ok-put_lines.ensures in
    record {
      hits = row_fits saved_hits rests c.deref.result.now run.lines.items c.new.result.items
          c.put_lines.new.rows.hits.items c.deref.ensures.value put.hits;
      numbers = row_fits saved_numbers rests c.deref.result.now run.lines.items c.new-2.result.items
          c.put_lines.new.rows.numbers.items c.deref.ensures.value put.numbers;
    }
