use Rattle.std.proofs.Common.{◌≡◌, ◌++◌, take, string_bytes}
use Rattle.std.specs.List.{flat_map}
use Rattle.ra_account.specs.Text.{mark_text}
use Rattle.ra_account.proofs.text.write_marks.Given as goal

-- the columns so far stand at the end of the text
abbrev pub invariant-loop-mark : goal.invariant-loop-mark
invariant-loop-mark l = string_bytes l.text ≡ string_bytes l.fn.text ++ flat_map mark_text (take l.mark-index l.marks)
