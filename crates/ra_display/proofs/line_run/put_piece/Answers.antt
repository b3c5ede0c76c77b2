use Rattle.std.proofs.Common.{sym, subst}
use Rattle.std.proofs.lemmas.List.{append-nil}
use Rattle.ra_member.specs.MemberRuns.{IsNewMember}
use Rattle.ra_display.proofs.line_run.put_piece.Goals as goal

pub returns-in_ok-add_value-in-Macro : goal.returns-in_ok-add_value-in-Macro
returns-in_ok-add_value-in-Macro c = λ before m is. rw c.in-Macro.is (c.in_ok-add_value-in-Macro.ensures before m is)

pub returns-in-Text : goal.returns-in-Text
returns-in-Text c = λ before m is.
    rw c.in-Text.is (subst (λ vs. IsNewMember before c.args.pool.now
    (record m { values = vs }) c.args.member.now) (sym (append-nil m.values)) is)
