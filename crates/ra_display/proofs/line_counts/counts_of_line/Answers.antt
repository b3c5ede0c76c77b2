use Rattle.std.proofs.Common.{List, [], map, option_map, subst}
use Rattle.std.specs.List.{filter_map}
use Rattle.ra_condition.specs.Contents.{trigger_contents}
use Rattle.ra_meaning.specs.LineMembers.{tests_in}
use Rattle.ra_member.specs.Members.{MemberContents}
use Rattle.ra_richpresence.specs.declared.piece.Piece.{Piece}
use Rattle.ra_richpresence.specs.Contents.{piece_contents, value_in}
use Rattle.ra_schedule.specs.Counts.{AreFor}
use Rattle.ra_display.proofs.line_counts.counts_of_line.Goals as goal

pub returns : goal.returns
returns c =
    let none : MemberContents = record { tests = []; values = [] } in
    let tests = tests_in (option_map trigger_contents c.args.line.now.test) in
    let tested = c.in_ok-add_test.ensures none c.new-counts.ensures in
    let all = c.in_ok-add_macros.ensures (record { tests = tests; values = [] }) tested in
    subst (λ (ps : List Piece). AreFor
    (record { tests = tests; values = filter_map value_in (map piece_contents ps) })
    c.add_macros.new.counts)
    c.deref.ensures.value all
