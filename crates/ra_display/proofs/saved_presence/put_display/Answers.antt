use Rattle.std.proofs.Common.{◌++◌, ◌∙◌, sym, ap, option_to_list, append-nil}
use Rattle.ra_display.proofs.SavedLines.{no_blocks}
use Rattle.ra_display.proofs.saved_presence.put_display.Goals as goal

pub returns-in-None-clause-bytes : goal.returns-in-None-clause-bytes
returns-in-None-clause-bytes c =
    let old = c.args.bytes.now.items in
    rw c.in-None.is (sym (append-nil old) ∙ ap (λ xs. old ++ xs) (sym (no_blocks (option_to_list c.args.name.now))))
