use Rattle.std.proofs.Common.{map, take, option_map}
use Rattle.std.specs.List.{filter_map}
use Rattle.ra_condition.specs.Contents.{trigger_contents}
use Rattle.ra_richpresence.specs.Contents.{piece_contents, value_in}
use Rattle.ra_member.specs.MemberRuns.{IsNewMember}
use Rattle.ra_meaning.specs.LineMembers.{tests_in}
use Rattle.ra_display.proofs.line_run.new_line.Given as goal

abbrev pub invariant-loop-piece : goal.invariant-loop-piece
invariant-loop-piece l =
    IsNewMember l.fn.pool l.pool
    (record {
      tests = tests_in (option_map trigger_contents l.fn.line.test);
      values = filter_map value_in (map piece_contents (take l.piece-index l.fn.line.pieces.items));
    }) l.member
