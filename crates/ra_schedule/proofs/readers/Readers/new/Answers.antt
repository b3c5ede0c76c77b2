use Rattle.std.proofs.Common.{◌≡◌, ◌∙◌, ap, length, replicate, subst, sym, true}
use Rattle.std.proofs.lemmas.List.{length-replicate}
use Rattle.ra_links.specs.FlatRows.{AreOnRows, rows_by}
use Rattle.ra_schedule.specs.Readers.{AreWithin}
use Rattle.ra_schedule.proofs.readers.Readers.new.Goals as goal

pub new-requires : goal.new-requires
new-requires c =
    subst (λ n. AreOnRows n c.into_entries-entries.result.0.items) (sym (c.in-Ok.ensures.1 ∙ c.nodes-nodes.ensures))
    c.into_entries-entries.ensures.on

pub invariant_of-result : goal.invariant_of-result
invariant_of-result c =
    let rows : c.in_ok-rows.rows ≡ c.args.noted.rows = c.in_ok-rows.ensures
    ∙ ap (λ n. rows_by n c.into_entries-entries.result.0.items) (c.in-Ok.ensures.1 ∙ c.nodes-nodes.ensures)
    ∙ c.into_entries-entries.ensures.rows in
    let due : c.in_ok-due.due ≡ c.args.noted.due = c.in_ok-due.ensures ∙ c.into_entries-entries.ensures.due in
    let same : record { rows = c.in_ok-rows.rows; due = c.in_ok-due.due } ≡ c.args.noted =
    (λ i. record { rows = rows i; due = due i }) in
    subst AreWithin (sym same) c.into_entries-entries.ensures.within

pub returns : goal.returns
returns c =
    let rows = c.in_ok-rows.ensures
    ∙ ap (λ n. rows_by n c.into_entries-entries.result.0.items) (c.in-Ok.ensures.1 ∙ c.nodes-nodes.ensures)
    ∙ c.into_entries-entries.ensures.rows in
    let many : length c.args.noted.due ≡ c.into_entries-entries.result.1 =
    ap length (sym c.into_entries-entries.ensures.due) ∙ length-replicate c.into_entries-entries.result.1 true in
    let due = c.in_ok-due.ensures ∙ ap (λ n. replicate n true) (sym many) in
    (λ i. record { rows = rows i; due = due i })
