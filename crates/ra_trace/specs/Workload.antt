-- The workload of a number, a set and a trace from drawn numbers: docs/DEFINITIONS.md, "Workload".
use Rattle.std.specs.Prelude.{ℕ, zero, suc, ◌+◌, ◌*◌, ◌/◌, ◌%◌, ◌^◌, ◌==◌, if◌then◌else◌, nat_lt, List, [], ◌∷◌, ◌++◌}
use Rattle.std.specs.Prelude.{codes, decimal}
use Rattle.ra_trace.specs.Entries.{Entry, Written, Framed, Saved, Restored, Shown, Ended, trace_bytes}

-- the number of the draws after this one
unfoldable pub drawn : ℕ → ℕ
drawn x = (x * 1664525 + 1013904223) % 2 ^ 32

-- what a draw gives of its number: the high half
abbrev pub given : ℕ → ℕ
given x = x / 65536

-- the number after this many draws
abbrev pub drawn_times : ℕ → ℕ → ℕ
drawn_times zero x = x
drawn_times (suc n) x = drawn_times n (drawn x)

-- the lower-case hexadecimal digit of a number below 16
abbrev pub hex_digit : ℕ → ℕ
hex_digit n = if nat_lt n 10 then 48 + n else 87 + n

-- the four lower-case hexadecimal digits of a number of 16 bits
abbrev pub hex4 : ℕ → List ℕ
hex4 n = hex_digit (n / 4096 % 16) ∷ hex_digit (n / 256 % 16) ∷ hex_digit (n / 16 % 16) ∷ hex_digit (n % 16) ∷ []

-- the line of an achievement: A id I:0x AAAA_0xHBBBB>d0xHBBBB.K._R:0xHCCCC=255
abbrev pub achievement_line : ℕ → (a b c target : ℕ) → List ℕ
achievement_line id a b c target =
    codes "A " ++ (decimal id ++ (codes " I:0x " ++ (hex4 a ++ (codes "_0xH" ++ (hex4 b ++ (codes ">d0xH" ++ (hex4 b
    ++ (codes "." ++ (decimal target ++ (codes "._R:0xH" ++ (hex4 c ++ codes "=255\n")))))))))))

-- the line of an achievement from the next four draws, whose last gives a target of 1 to 8
unfoldable pub drawn_line : ℕ → ℕ → List ℕ
drawn_line id x =
    achievement_line id (given (drawn x)) (given (drawn_times 2 x)) (given (drawn_times 3 x))
    (1 + given (drawn_times 4 x) % 8)

-- the lines of this many achievements, from this id on
unfoldable pub achievement_lines : ℕ → ℕ → ℕ → List ℕ
achievement_lines zero id x = []
achievement_lines (suc more) id x = drawn_line id x ++ achievement_lines more (id + 1) (drawn_times 4 x)

-- the lines after the achievements: a leaderboard, and a display of one number
abbrev pub lines_after : List ℕ
lines_after = codes
    "L 1 VALUE STA:0xH0000>d0xH0000::CAN:0xH0001=0::SUB:0xH0002>d0xH0002::VAL:0x 0000\nP\nDisplay:\n@Number(0xX0000)\n"

-- the set file of a workload
unfoldable pub made_set : ℕ → List ℕ
made_set number = achievement_lines 256 1 number ++ lines_after

-- this many writes of one drawn byte each, before the records after them
unfoldable pub writes : ℕ → ℕ → List Entry → List Entry
writes zero x after = after
writes (suc more) x after =
    Written (given (drawn x)) (given (drawn_times 2 x) % 256 ∷ []) ∷ writes more (drawn_times 2 x) after

-- the records after a frame: every 64 frames a save, every 512 a show and a restore, and then those after
abbrev pub after_frame : ℕ → List Entry → List Entry
after_frame f after =
    (if f % 64 == 63 then Saved (f / 64 % 16) ∷ [] else [])
    ++ (if f % 512 == 511 then Shown ∷ Restored 0 ∷ [] else []) ++ after

-- the records of this many frames, from this one on, and the end
unfoldable pub frames : ℕ → ℕ → ℕ → List Entry
frames zero f x = Ended ∷ []
frames (suc more) f x = writes 8 x (Framed ∷ after_frame f (frames more (f + 1) (drawn_times 16 x)))

-- the records of a workload
unfoldable pub made_entries : ℕ → List Entry
made_entries number = frames 4096 0 ((number + 1) % 2 ^ 32)

-- the memory size of a workload
abbrev pub made_size : ℕ
made_size = 65536

-- the trace file of a workload
unfoldable pub made_trace : ℕ → List ℕ
made_trace number = trace_bytes made_size (made_entries number)
