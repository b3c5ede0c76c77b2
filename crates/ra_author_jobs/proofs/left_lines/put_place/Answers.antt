use Rattle.std.proofs.Common.{codes, string_bytes}
use Rattle.ra_author_jobs.proofs.AnswerLemmas.{two_parts}
use Rattle.ra_author_jobs.proofs.left_lines.put_place.Goals as goal

pub returns-in_ok-put_index-in-Achievements : goal.returns-in_ok-put_index-in-Achievements
returns-in_ok-put_index-in-Achievements c =
    rw c.in-Achievements.is (two_parts (string_bytes c.args.text.now) (codes "achievements ") _ _ _
    c.in_ok-push_str-in-Achievements.ensures.bytes c.in_ok-put_index-in-Achievements.ensures)

pub returns-in_ok-put_index-in-Leaderboards : goal.returns-in_ok-put_index-in-Leaderboards
returns-in_ok-put_index-in-Leaderboards c =
    rw c.in-Leaderboards.is (two_parts (string_bytes c.args.text.now) (codes "leaderboards ") _ _ _
    c.in_ok-push_str-in-Leaderboards.ensures.bytes c.in_ok-put_index-in-Leaderboards.ensures)
