-- At how many frames something was so, and when: docs/DEFINITIONS.md, "Account of an achievement". A list has an entry
-- for each frame, the newest first.
use Rattle.std.specs.Prelude.{ℕ, suc, Bool, ◌&&◌, if◌then◌else◌, ◌==◌, List, [], ◌∷◌, length}
use Rattle.ra_account.specs.declared.times.Times.{Times}

-- at how many frames it was so
abbrev pub count_of : List Bool → ℕ
count_of [] = 0
count_of (now ∷ earlier) = if now then suc (count_of earlier) else count_of earlier

-- the first frame at which it was so; 0 where there is none
abbrev pub first_of : List Bool → ℕ
first_of [] = 0
first_of (now ∷ earlier) =
    if now && (count_of earlier == 0) then length earlier else first_of earlier

-- the last frame at which it was so; 0 where there is none
abbrev pub last_of : List Bool → ℕ
last_of [] = 0
last_of (now ∷ earlier) = if now then length earlier else last_of earlier

-- how many, the first and the last
abbrev pub times_of : List Bool → Times
times_of held = record { count = count_of held; first = first_of held; last = last_of held }
