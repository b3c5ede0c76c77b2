-- Worked examples of lines, computed from the definitions.
use Rattle.std.proofs.Common.{◌≡◌, ℕ, true, List, [], ◌∷◌, ◌++◌, refl, codes, Some, None}
use Rattle.std.specs.Fmt.{digits}
use Rattle.ra_operand.specs.declared.operand.Operand.{Operand}
use Rattle.ra_operand.specs.declared.operand.Operand.TheVariants.{Cell, Const, Recall}
use Rattle.ra_operand.specs.declared.op.Op.{Op}
use Rattle.ra_operand.specs.declared.op.Op.TheVariants.{Bare, Eq}
use Rattle.ra_operand.specs.declared.kind.Kind.TheVariants.{Mem, Delta, Prior, Bcd}
use Rattle.ra_operand.specs.declared.size.Size.TheVariants.{Byte, Four, Bit0}
use Rattle.ra_condition.specs.declared.flag.Flag.{Flag}
use Rattle.ra_condition.specs.declared.flag.Flag.TheVariants.{Plain, PauseIf, ResetIf, AddHits, ResetNextIf, AddAddress}
use Rattle.ra_condition.specs.declared.flag.Flag.TheVariants.{Measured, MeasuredIf, TriggerIf, Remember}
use Rattle.ra_condition.specs.declared.condition.Condition.{Condition}
use Rattle.ra_condition.specs.Contents.{Legacy, Grouped}
use Rattle.ra_value_format.specs.declared.format.Format.TheVariants.{Value}
use Rattle.ra_set.specs.Contents.{SetContents, Unlocks, Ranks}
use Rattle.ra_trace.specs.Entries.{Entry, Written, Framed, Saved, Restored, Ended}
use Rattle.ra_trace.specs.Cutting.{trace_of, Reached}
use Rattle.ra_progress.specs.Contents.{OfAchievement, Opening}
use Rattle.ra_meaning.specs.Earned.{earned_in, none_earned}
use Rattle.ra_meaning.specs.Openings.{plain_opening}
use Rattle.ra_meaning.specs.Play.{saved_end, text_of}

abbrev one : Flag → Operand → Op → Operand → ℕ → Condition
one flag left op right target = record { flag = flag; left = left; op = op; right = right; target = target }

abbrev byte : ℕ → Operand
byte address = Cell Mem Byte address

-- a set of one achievement
abbrev only : List Condition → List (List Condition) → SetContents
only core alts =
    record {
      items = Unlocks 1 (record { core = core; alts = alts }) ∷ [];
      script = None;
      digest = [];
      item_names = [];
      script_name = None;
    }

-- what a set prints over records, from the plain opening
abbrev prints : SetContents → ℕ → List Entry → List ℕ
prints set size entries = text_of set (plain_opening set) [] (none_earned set) size entries

abbrev three_hits : SetContents
three_hits = only (one Plain (byte 0x10) Eq (Const 5) 3 ∷ []) []

three_hits_print : prints three_hits 32 (Framed ∷ Written 0x10 (5 ∷ []) ∷ Framed ∷ Framed ∷ Written
    0x10 (0 ∷ []) ∷ Framed ∷ Written 0x10 (5 ∷ []) ∷ Framed ∷ Ended ∷ []) ≡ codes "unlock 4 1\n"
unfolding digits
three_hits_print = refl

-- true at frames 0 and 1, where it waits
waits_while_true : prints (only (one Plain (byte 16) Eq (Const 0) 0 ∷ []) ([])) 64
    (Framed ∷ Framed ∷ Written 16 (1 ∷ []) ∷ Framed ∷ Written 16 (0 ∷ []) ∷ Framed ∷ Ended ∷ [])
    ≡ codes "unlock 3 1\n"
unfolding digits
waits_while_true = refl

-- a delta before the first frame is 0
delta_before_the_first_frame : prints (only (one Plain (Cell Delta Byte 16) Eq (Const 0) 0
    ∷ one Plain (byte 16) Eq (Const 5) 0 ∷ []) ([])) 64 (Written 16 (5 ∷ []) ∷ Framed ∷ Framed ∷
    Written 16 (0 ∷ []) ∷ Framed ∷ Written 16 (5 ∷ []) ∷ Framed ∷ Ended ∷ []) ≡ codes "unlock 3 1\n"
unfolding digits
delta_before_the_first_frame = refl

-- a prior of one bit
prior_of_one_bit : prints (only (one Plain (Cell Prior Bit0 16) Eq (Const 1) 0 ∷ []) ([])) 64
    (Written 16 (1 ∷ []) ∷ Framed ∷ Written 16 (3 ∷ []) ∷ Framed ∷ Written 16 (2 ∷ []) ∷ Framed
    ∷ Ended ∷ []) ≡ codes "unlock 2 1\n"
unfolding digits
prior_of_one_bit = refl

-- the delta of a moved cell
delta_of_a_moved_cell : prints (only (one AddAddress (Cell Mem Four 16) Bare (Const 0) 0
    ∷ one Plain (Cell Delta Byte 4) Eq (Const 7) 0 ∷ []) ([])) 64
    (Written 16 (32 ∷ 0 ∷ 0 ∷ 0 ∷ []) ∷ Written 36 (7 ∷ []) ∷ Written 52 (9 ∷ []) ∷ Framed
    ∷ Written 16 (48 ∷ 0 ∷ 0 ∷ 0 ∷ []) ∷ Framed ∷ Ended ∷ []) ≡ codes "unlock 1 1\n"
unfolding digits
delta_of_a_moved_cell = refl

-- decimal digits above nine
decimal_digits_above_nine : prints (only (one Plain (Cell Bcd Byte 16) Eq (Const 165) 0 ∷ []) ([]))
    64 (Framed ∷ Written 16 (255 ∷ []) ∷ Framed ∷ Ended ∷ []) ≡ codes "unlock 1 1\n"
unfolding digits
decimal_digits_above_nine = refl

-- the reset stops at the added hits
reset_stops_at_added_hits : prints (only (one ResetNextIf (byte 1) Eq (Const 1) 0
    ∷ one AddHits (byte 2) Eq (Const 1) 0 ∷ one Plain (byte 3) Eq (Const 1) 3 ∷ []) ([])) 64
    (Written 2 (1 ∷ 1 ∷ []) ∷ Framed ∷ Written 1 (1 ∷ 0 ∷ 0 ∷ []) ∷ Framed
    ∷ Written 1 (0 ∷ 1 ∷ 1 ∷ []) ∷ Framed ∷ Ended ∷ []) ≡ codes "unlock 2 1\n"
unfolding digits
reset_stops_at_added_hits = refl

-- a pause that its hits keep
pause_kept_by_its_hits : prints (only (one PauseIf (byte 1) Eq (Const 1) 2 ∷ one Plain (byte 2) Eq
    (Const 1) 2 ∷ []) ([])) 64 (Written 1 (1 ∷ 1 ∷ []) ∷ Framed ∷ Written 1 (0 ∷ 0 ∷ []) ∷ Framed
    ∷ Written 1 (1 ∷ 1 ∷ []) ∷ Framed ∷ Written 1 (0 ∷ 0 ∷ []) ∷ Framed ∷ Written 1 (1 ∷ 1 ∷ [])
    ∷ Framed ∷ Ended ∷ []) ≡ codes ""
unfolding digits
pause_kept_by_its_hits = refl

-- an alt clears the hits of the core
alt_clears_the_core : prints (only (one Plain (byte 1) Eq (Const 1) 3 ∷ []) ((one ResetIf (byte 2)
    Eq (Const 1) 0 ∷ []) ∷ [])) 64 (Written 1 (1 ∷ []) ∷ Framed ∷ Framed ∷ Written 2 (1 ∷ [])
    ∷ Framed ∷ Written 2 (0 ∷ []) ∷ Framed ∷ Framed ∷ Framed ∷ Ended ∷ []) ≡ codes "unlock 5 1\n"
unfolding digits
alt_clears_the_core = refl

-- a measured number
measured_over_frames : prints (only (one Measured (byte 1) Eq (Const 1) 4
    ∷ one MeasuredIf (byte 2) Eq (Const 0) 0 ∷ one PauseIf (byte 3) Eq (Const 1) 0 ∷ []) ([])) 64
    (Written 1 (1 ∷ []) ∷ Framed ∷ Written 2 (1 ∷ []) ∷ Framed ∷ Written 2 (0 ∷ []) ∷ Framed
    ∷ Written 3 (1 ∷ []) ∷ Framed ∷ Written 3 (0 ∷ []) ∷ Framed ∷ Ended ∷ [])
    ≡ codes "measured 0 1 1\nmeasured 1 1 0\nmeasured 2 1 3\nmeasured 4 1 4\nunlock 4 1\n"
unfolding digits
measured_over_frames = refl

-- a value remembered in a pause chain
remembered_in_a_pause_chain : prints (only (one Plain (byte 1) Eq Recall 0 ∷ one Remember (byte 2)
    Bare (Const 0) 0 ∷ one PauseIf (byte 3) Eq (Const 9) 0 ∷ []) ([])) 64 (Written 1 (4 ∷ 3 ∷ [])
    ∷ Framed ∷ Written 2 (4 ∷ []) ∷ Framed ∷ Ended ∷ []) ≡ codes "unlock 1 1\n"
unfolding digits
remembered_in_a_pause_chain = refl

-- a restore keeps the image and brings the delta back
restore_brings_the_delta_back : prints (only (one Plain (Cell Delta Byte 16) Eq (Const 1) 0
    ∷ one Plain (byte 16) Eq (Const 2) 0 ∷ []) ([])) 64
    (Written 16 (1 ∷ []) ∷ Framed ∷ Saved 0 ∷ Written 16 (5 ∷ []) ∷ Framed ∷ Written 16 (2 ∷ [])
    ∷ Restored 0 ∷ Framed ∷ Ended ∷ []) ≡ codes "unlock 1 1\n"
unfolding digits
restore_brings_the_delta_back = refl

-- an achievement that any memory of 5 at 16 unlocks
abbrev five : SetContents
five = only (one Plain (byte 16) Eq (Const 5) 0 ∷ []) []

-- a frame, a save before the unlock, the unlock, and the save restored
abbrev saved_before : List Entry
saved_before = Framed ∷ Saved 0 ∷ Written 16 (5 ∷ []) ∷ Framed ∷ Restored 0 ∷ []

-- a restore brings the state back, but an unlock comes once
unlocks_once : prints five 64 (saved_before ++ Framed ∷ Ended ∷ []) ≡ codes "unlock 1 1\n"
unfolding digits
unlocks_once = refl

-- what is kept at the end of such a run: active again, and earned
abbrev earned_before : Opening
earned_before = saved_end five (plain_opening five) [] (none_earned five) 64 (saved_before ++ Ended ∷ [])

active_and_earned : earned_before.items ≡ OfAchievement 1 0 (0 ∷ []) true ∷ []
active_and_earned = refl

-- a run that goes on from there prints nothing, while the achievement is stepped as ever
silent_for_good : text_of five earned_before [] (earned_in earned_before) 64
    (Framed ∷ Written 16 (5 ∷ []) ∷ Framed ∷ Ended ∷ []) ≡ codes ""
silent_for_good = refl

triggered_again : (saved_end five earned_before [] (earned_in earned_before) 64 (Framed
    ∷ Written 16 (5 ∷ []) ∷ Framed ∷ Ended ∷ [])).items ≡ OfAchievement 4 0 (1 ∷ []) true ∷ []
triggered_again = refl

-- primed and then unlocked
primed_then_unlocked : prints (only (one TriggerIf (byte 1) Eq (Const 1) 0
    ∷ one Plain (byte 2) Eq (Const 1) 0 ∷ []) ([])) 64 (Framed ∷ Written 2 (1 ∷ []) ∷ Framed
    ∷ Written 1 (1 ∷ []) ∷ Framed ∷ Ended ∷ []) ≡ codes "primed 1 1\nunprimed 2 1\nunlock 2 1\n"
unfolding digits
primed_then_unlocked = refl

-- the file of the three hits is cut into its records
three_hits_entries : List Entry
three_hits_entries = Framed ∷ Written 0x10 (5 ∷ []) ∷ Framed ∷ Framed ∷ Written 0x10 (0 ∷ [])
    ∷ Framed ∷ Written 0x10 (5 ∷ []) ∷ Framed ∷ Ended ∷ []

three_hits_cut : trace_of (0x52 ∷ 0x41 ∷ 0x54 ∷ 0x52 ∷ 1 ∷ 0x20 ∷ 0 ∷ 0 ∷ 0 ∷ 0x46 ∷ 0x57 ∷ 0x10 ∷ 0
    ∷ 0 ∷ 0 ∷ 1 ∷ 0 ∷ 5 ∷ 0x46 ∷ 0x46 ∷ 0x57 ∷ 0x10 ∷ 0 ∷ 0 ∷ 0 ∷ 1 ∷ 0 ∷ 0 ∷ 0x46 ∷ 0x57 ∷ 0x10 ∷ 0
    ∷ 0 ∷ 0 ∷ 1 ∷ 0 ∷ 5 ∷ 0x46 ∷ 0x45 ∷ [])
    ≡ record { size = 32; entries = three_hits_entries; stop = Reached 38 }
unfolding three_hits_entries
three_hits_cut = refl

-- a set of one board
abbrev one_board : SetContents
one_board = record {
  items = Ranks 7 Value (record {
    start = record { core = one Plain (byte 1) Eq (Const 1) 0 ∷ []; alts = [] };
    cancel = record { core = one Plain (Const 0) Eq (Const 1) 0 ∷ []; alts = [] };
    submit = record { core = one Plain (byte 2) Eq (Const 1) 0 ∷ []; alts = [] };
    value = Legacy (record { operand = byte 3; factor = Some (Const 2) } ∷ []) ∷ [];
    progress = None;
  }) ∷ [];
  script = None;
  digest = [];
  item_names = [];
  script_name = None;
}

one_board_prints : prints one_board 64 (Framed ∷ Written 1 (1 ∷ 1 ∷ 0x15 ∷ []) ∷ Framed ∷ Framed
    ∷ Written 1 (0 ∷ []) ∷ Framed ∷ Written 1 (1 ∷ 0 ∷ []) ∷ Framed ∷ Written 3 (0x1e ∷ []) ∷ Framed
    ∷ Written 2 (1 ∷ []) ∷ Framed ∷ Ended ∷ [])
    ≡ codes "submit 1 7 42 42\nstart 4 7\ntrack 4 7 42\ntrack 5 7 60\nsubmit 6 7 60 60\n"
unfolding digits
one_board_prints = refl

-- the board waits after a submit until its start is false
one_board_waits : prints one_board 64 (Framed ∷ Written 1 (1 ∷ 1 ∷ 0x15 ∷ []) ∷ Framed
    ∷ Written 2 (0 ∷ []) ∷ Framed ∷ Framed ∷ Ended ∷ []) ≡ codes "submit 1 7 42 42\n"
unfolding digits
one_board_waits = refl

-- the value of a board begins anew at each start
abbrev counting : SetContents
counting = record {
  items = Ranks 7 Value (record {
    start = record { core = one Plain (byte 1) Eq (Const 1) 0 ∷ []; alts = [] };
    cancel = record { core = one Plain (Const 0) Eq (Const 1) 0 ∷ []; alts = [] };
    submit = record { core = one Plain (byte 2) Eq (Const 1) 0 ∷ []; alts = [] };
    value = Grouped (one Measured (byte 3) Eq (Const 1) 0 ∷ []) ∷ [];
    progress = None;
  }) ∷ [];
  script = None;
  digest = [];
  item_names = [];
  script_name = None;
}

counting-prints : prints counting 64 (Framed ∷ Written 1 (1 ∷ 0 ∷ 1 ∷ []) ∷ Framed
    ∷ Written 2 (1 ∷ []) ∷ Framed ∷ Written 1 (0 ∷ 0 ∷ []) ∷ Framed ∷ Written 1 (1 ∷ []) ∷ Framed
    ∷ Ended ∷ []) ≡ codes "start 1 7\ntrack 1 7 1\nsubmit 2 7 2 2\nstart 4 7\ntrack 4 7 1\n"
unfolding digits
counting-prints = refl

-- a valid trigger that waits clears its hits
waits_anew : prints (only (one Plain (byte 1) Eq (Const 1) 1 ∷ []) []) 64
    (Written 1 (1 ∷ []) ∷ Framed ∷ Framed ∷ Written 1 (0 ∷ []) ∷ Framed ∷ Written 1 (1 ∷ [])
    ∷ Framed ∷ Ended ∷ []) ≡ codes "unlock 3 1\n"
unfolding digits
waits_anew = refl

-- a reset brings a measured number that comes from hits back to 0
measures_anew : prints (only (one Measured (byte 1) Eq (Const 1) 9
    ∷ one ResetIf (byte 2) Eq (Const 1) 0 ∷ []) []) 64 (Written 1 (1 ∷ []) ∷ Framed
    ∷ Written 2 (1 ∷ []) ∷ Framed ∷ Ended ∷ []) ≡ codes "measured 0 1 1\nmeasured 1 1 0\n"
unfolding digits
measures_anew = refl
