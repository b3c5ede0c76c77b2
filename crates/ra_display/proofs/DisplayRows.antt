-- What the lines of a display keep, in rows.
use Rattle.std.proofs.Common.{◌≡◌, ℕ, List, map, ◌∙◌}
use Rattle.std.specs.List.{concat, flat_map}
use Rattle.std.proofs.lemmas.List.Concat.{concat_is}
use Rattle.std.proofs.lemmas.List.Folds.{flat_map-map}
use Rattle.ra_member.specs.declared.member.Member.{Member}
use Rattle.ra_member.specs.Members.{MemberKept, saved_hits, saved_numbers}
use Rattle.ra_member.specs.MemberRuns.{kept_by}
use Rattle.ra_display.specs.PresenceBack.{hits_of_lines, numbers_of_lines}

-- what lines keep, one behind the other
rows : (f : MemberKept → List ℕ) (runs : List Member) → concat (map f (map kept_by runs))
    ≡ flat_map (λ (run : Member). f (kept_by run)) runs
rows f runs =
    concat_is (map f (map kept_by runs)) ∙ flat_map-map (λ (row : List ℕ). row) f (map kept_by runs)
    ∙ flat_map-map f kept_by runs

pub lines_hits : (runs : List Member) → concat (map saved_hits (map kept_by runs)) ≡ hits_of_lines runs
lines_hits runs = rows saved_hits runs

pub lines_numbers : (runs : List Member) → concat (map saved_numbers (map kept_by runs)) ≡ numbers_of_lines runs
lines_numbers runs = rows saved_numbers runs
