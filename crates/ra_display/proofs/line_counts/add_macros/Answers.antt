use Rattle.std.proofs.Common.{◌≡◌, ◌++◌, ◌∷◌, [], ◌+◌, List, take, sym, ◌∙◌, ap, subst, arith, append_assoc, append-nil}
use Rattle.std.specs.List.{filter_map}
use Rattle.std.proofs.lemmas.List.{take_all}
use Rattle.ra_condition.specs.Contents.{PartContents, value_contents}
use Rattle.ra_richpresence.specs.Contents.{piece_contents, value_in}
use Rattle.ra_member.specs.Members.{MemberContents}
use Rattle.ra_schedule.specs.Counts.{AreFor}
use Rattle.ra_schedule.specs.declared.member_counts.MemberCounts.{MemberCounts}
use Rattle.ra_display.proofs.Macros.{macros_before}
use Rattle.ra_display.proofs.SteppedLines.{macros_in}
use Rattle.ra_display.proofs.line_counts.add_macros.Goals as goal
use Rattle.ra_display.proofs.line_counts.add_macros.Goals.{in-Macro+in_ok-add_value, in_default}

-- the counts of a member with other values
moved : (m : MemberContents) (one other : List (List PartContents)) (c : MemberCounts) → one ≡ other
    → AreFor (record m { values = one }) c → AreFor (record m { values = other }) c
moved m one other c same are = subst (λ vs. AreFor (record m { values = vs }) c) same are

pub loop-piece-init : goal.loop-piece-init
loop-piece-init c =
    record { adds = λ m are. moved m m.values (m.values ++ []) c.args.counts.now (sym (append-nil m.values)) are }

pub loop-piece-preserved : goal.loop-piece-preserved
loop-piece-preserved c =
    let pieces = c.args.pieces.now in
    let k = c.loop-piece.piece-index in
    let done = macros_in (take k pieces) in
    let more = macros_before pieces k c.piece-item.result c.loop-piece-test.true c.piece-item.is in
    elim c.match-piece.branch [
      | in-Macro+in_ok-add_value w ↦
          let parts = value_contents w.in-Macro.value in
          let next : macros_in (take (k + 1) pieces) ≡ done ++ parts ∷ [] =
          more ∙ ap (λ p. done ++ filter_map value_in (piece_contents p ∷ [])) w.in-Macro.is in
          rw w.counts-is (record {
            adds = λ m are.
                moved m ((m.values ++ done) ++ parts ∷ [])
                (m.values ++ macros_in (take (k + 1) pieces)) w.add_value.new.self
                (append_assoc m.values done (parts ∷ []) ∙ ap (λ xs. m.values ++ xs) (sym next))
                (w.in_ok-add_value.ensures (record m { values = m.values ++ done })
                (c.loop-piece.invariant.adds m are));
          })
      | in_default w ↦
          let next : macros_in (take (k + 1) pieces) ≡ done =
          more ∙ ap (λ p. done ++ filter_map value_in (piece_contents p ∷ [])) w.in_default.is ∙ append-nil done in
          rw (w.counts-is, next) c.loop-piece.invariant
    ]

pub returns : goal.returns
returns c = λ m are.
    let pieces = c.args.pieces.now in
    let whole = take_all c.loop-piece.piece-index pieces (omega (arith, c.loop-piece-test.false)) in
    moved m _ (m.values ++ macros_in pieces) c.loop-piece.counts (ap (λ ps. m.values ++ macros_in ps) whole)
    (c.loop-piece.invariant.adds m are)
