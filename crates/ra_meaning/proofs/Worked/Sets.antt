-- Worked examples of whole sets, computed from the definitions.
use Rattle.std.proofs.Common.{◌≡◌, ℕ, false, List, [], ◌∷◌, ◌++◌, refl, codes, replicate, Option, Some, None, pos}
use Rattle.std.proofs.Common.{negsuc}
use Rattle.std.specs.List.{concat}
use Rattle.std.specs.Fmt.{digits}
use Rattle.ra_operand.specs.declared.operand.Operand.{Operand}
use Rattle.ra_operand.specs.declared.operand.Operand.TheVariants.{Cell, Const, Recall}
use Rattle.ra_operand.specs.declared.op.Op.{Op}
use Rattle.ra_operand.specs.declared.op.Op.TheVariants.{Bare, Eq, Gt, Div}
use Rattle.ra_operand.specs.declared.kind.Kind.TheVariants.{Mem, Delta, Bcd, Inverted}
use Rattle.ra_operand.specs.declared.size.Size.TheVariants.{Byte, Two, Four, Bit3, High, Count, FourBig, ThreeBig}
use Rattle.ra_operand.specs.Views.{view_of, transformed}
use Rattle.ra_condition.specs.declared.flag.Flag.{Flag}
use Rattle.ra_condition.specs.declared.flag.Flag.TheVariants.{Plain, PauseIf, AddAddress, AddSource, SubSource, ResetIf}
use Rattle.ra_condition.specs.declared.flag.Flag.TheVariants.{Measured, Remember}
use Rattle.ra_condition.specs.declared.condition.Condition.{Condition}
use Rattle.ra_condition.specs.declared.part.Term.{Term}
use Rattle.ra_condition.specs.Contents.{TriggerContents, PartContents, Legacy, Grouped}
use Rattle.ra_condition.specs.Chains.{pass_order}
use Rattle.ra_indirect.specs.Trees.{constant, view}
use Rattle.ra_chain.specs.Elaboration.{lefts_of, rights_of}
use Rattle.ra_value_format.specs.declared.format.Format.TheVariants.{Value, Score, Frames, Secs, Hundredths, Minutes}
use Rattle.ra_value_format.specs.declared.format.Format.TheVariants.{SecsAsMins, Unsigned, Tens, Hundreds, Thousands}
use Rattle.ra_value_format.specs.declared.format.Format.TheVariants.{Fixed, Float}
use Rattle.ra_value_format.specs.Formats.{formatted, format_of_name}
use Rattle.ra_richpresence.specs.Contents.{Bytes, Shows, ScriptContents}
use Rattle.ra_set.specs.Contents.{SetContents, Unlocks, Ranks}
use Rattle.ra_trace.specs.Entries.{Entry, Written, Framed, Shown, Ended}
use Rattle.ra_progress.specs.Contents.{Opening, OfAchievement}
use Rattle.ra_meaning.specs.Earned.{earned_in, none_earned}
use Rattle.ra_meaning.specs.Openings.{plain_opening, snapshot}
use Rattle.ra_meaning.specs.Play.{text_of, pieces_from, behind_end, earned_end, moment_after, first_moment}

abbrev pub one : Flag → Operand → Op → Operand → ℕ → Condition
one flag left op right target = record { flag = flag; left = left; op = op; right = right; target = target }

abbrev pub byte : ℕ → Operand
byte address = Cell Mem Byte address

abbrev hands : Flag → Operand → Condition
hands flag left = one flag left Bare (Const 0) 0

abbrev prints : SetContents → ℕ → List Entry → List ℕ
prints set size entries = text_of set (plain_opening set) [] (none_earned set) size entries

abbrev pub trigger : List Condition → List (List Condition) → TriggerContents
trigger core alts = record { core = core; alts = alts }

-- a pointer sum wraps, and bytes past the end are 0
abbrev pointer_past_the_end : SetContents
pointer_past_the_end = record {
  items = Unlocks 1 (trigger (hands AddAddress (Cell Mem Four 0) ∷ one Plain (byte 0x10) Eq (Const 7) 0 ∷ []) [])
      ∷ Unlocks 2 (trigger (one Plain (Cell Mem Four 0x3e) Eq (Const 513) 0 ∷ []) []) ∷ [];
  script = None;
  digest = [];
  item_names = [];
  script_name = None;
}

pointer_past_the_end_prints : prints pointer_past_the_end 64
    (Framed ∷ Written 0 (0xf8 ∷ 0xff ∷ 0xff ∷ 0xff ∷ []) ∷ Written 8 (7 ∷ [])
    ∷ Written 0x3e (1 ∷ 2 ∷ []) ∷ Framed ∷ Ended ∷ []) ≡ codes "unlock 1 1\nunlock 1 2\n"
unfolding digits
pointer_past_the_end_prints = refl

-- what a group that a pause keeps
abbrev paused_by_its_hits : SetContents
paused_by_its_hits = record {
  items = Unlocks 1 (trigger (one PauseIf (byte 1) Eq (Const 1) 2 ∷ one Plain (byte 2) Eq (Const 1) 2 ∷ []) []) ∷ [];
  script = None;
  digest = [];
  item_names = [];
  script_name = None;
}

paused_group_keeps : (snapshot paused_by_its_hits (plain_opening paused_by_its_hits)
    (behind_end [] 64 (Written 1 (1 ∷ 1 ∷ []) ∷ Framed ∷ Written 1 (0 ∷ 0 ∷ []) ∷ Framed
    ∷ Written 1 (1 ∷ 1 ∷ []) ∷ Framed ∷ Written 1 (0 ∷ 0 ∷ []) ∷ Framed ∷ Written 1 (1 ∷ 1 ∷ [])
    ∷ Framed ∷ Ended ∷ []))).items ≡ OfAchievement 2 0 (2 ∷ 1 ∷ []) false ∷ []
paused_group_keeps = refl

-- the pass order where a pause chain stands last
pause_chain_first : pass_order (one Plain (byte 1) Eq Recall 0 ∷ hands Remember (byte 2)
    ∷ one PauseIf (byte 3) Eq (Const 9) 0 ∷ []) ≡ 1 ∷ 2 ∷ 0 ∷ []
pause_chain_first = refl

-- a realistic set, over the lowest 256 bytes of its memory
abbrev pub stage_macro : ScriptContents
stage_macro = record {
  lookups = record {
    name = codes "Stage";
    keys = record { ranges = (0, 0) ∷ []; text = codes "Title" }
        ∷ record { ranges = (1, 4) ∷ []; text = codes "Forest" } ∷ [];
    rest = Some (codes "Castle");
  } ∷ [];
  formats = (codes "Pts", Score) ∷ [];
  lines = record {
    test = Some (trigger (one Plain (byte 0xfe) Eq (Const 0) 0 ∷ []) []);
    pieces = Bytes (codes "In the menu") ∷ [];
  }
      ∷ record {
        test = None;
        pieces = Shows (codes "Stage") (Legacy (record { operand = byte 0x10; factor = None } ∷ []) ∷ [])
            ∷ Bytes (codes " with ") ∷ Shows (codes "Pts")
            (Legacy (record { operand = Cell Mem Two 0x30; factor = None } ∷ []) ∷ [])
            ∷ Bytes (codes " points") ∷ [];
      } ∷ [];
}

abbrev pub stages : SetContents
stages = record {
  items = Unlocks 101 (trigger (one Plain (byte 0xfe) Eq (Const 3) 0
      ∷ one Plain (Cell Delta Byte 0x10) Eq (Const 4) 0 ∷ one Plain (byte 0x10) Eq (Const 5) 0 ∷ [])
      ((one Plain (byte 0x20) Eq (Const 1) 0 ∷ []) ∷ (one Plain (byte 0x20) Eq (Const 2) 0 ∷ []) ∷ []))
      ∷ Ranks 9 Frames (record {
        start = trigger (one Plain (byte 0x10) Eq (Const 1) 0
            ∷ one Plain (Cell Delta Byte 0x10) Eq (Const 0) 0 ∷ []) [];
        cancel = trigger (one Plain (byte 0xfe) Eq (Const 0) 0 ∷ []) [];
        submit = trigger (one Plain (byte 0x10) Eq (Const 2) 0
            ∷ one Plain (Cell Delta Byte 0x10) Eq (Const 1) 0 ∷ []) [];
        value = Grouped (one Measured (byte 0xfe) Eq (Const 3) 0 ∷ []) ∷ [];
        progress = None;
      }) ∷ [];
  script = Some stage_macro;
  digest = [];
  item_names = [];
  script_name = None;
}

stages_first : List Entry
stages_first = Framed ∷ Shown ∷ Written 0xfe (3 ∷ []) ∷ Written 0x10 (1 ∷ [])
    ∷ Written 0x20 (2 ∷ []) ∷ Framed ∷ Framed ∷ []

stages_second : List Entry
stages_second = Written 0x10 (2 ∷ []) ∷ Framed ∷ Written 0x10 (4 ∷ []) ∷ Framed
    ∷ Written 0x10 (5 ∷ []) ∷ Written 0x30 (0xe8 ∷ 3 ∷ []) ∷ Framed ∷ Shown ∷ Ended ∷ []

stages_prints : prints stages 256 (stages_first ++ stages_second)
    ≡ codes "presence 1 In the menu\nstart 1 9\ntrack 1 9 0:00.01\ntrack 2 9 0:00.03\n"
    ++ codes "submit 3 9 3 0:00.05\nunlock 5 101\npresence 6 Castle with 001000 points\n"
unfolding digits stages_first stages_second
stages_prints = refl

-- cut after the third frame, and gone on from the opening there over the same image
stages_go_on : prints stages 256 stages_first ++ concat (pieces_from stages (snapshot stages
    (plain_opening stages) (behind_end [] 256 stages_first)) (record {
      image = (moment_after (first_moment 256 []) stages_first).image;
      behind = [];
      slots = replicate 16 None;
    }) (earned_end stages (plain_opening stages) [] (none_earned stages) 256 stages_first)
    stages_second) ≡ prints stages 256 (stages_first ++ stages_second)
unfolding digits stages_first stages_second
stages_go_on = refl

-- a value shown by `@Number`, with byte 4 at address 0x10
abbrev shows : List PartContents → SetContents
shows value = record {
  items = [];
  script = Some
      (record {
        lookups = [];
        formats = [];
        lines = record { test = None; pieces = Shows (codes "Number") value ∷ [] } ∷ [];
      });
  digest = [];
  item_names = [];
  script_name = None;
}

abbrev at-four : List Entry
at-four = Written 0x10 (4 ∷ []) ∷ Framed ∷ Shown ∷ Ended ∷ []

abbrev term : Operand → Option Operand → Term
term operand factor = record { operand = operand; factor = factor }

greatest_part_signed : prints (shows (Legacy (term (Const 5) None ∷ [])
    ∷ Legacy (term (Const 4294967295) None ∷ []) ∷ [])) 64 at-four ≡ codes "presence 1 5\n"
unfolding digits
greatest_part_signed = refl

greatest_part_negative : prints (shows (Legacy (term (Const 4294967295) None ∷ [])
    ∷ Legacy (term (Const 2147483648) None ∷ []) ∷ [])) 64 at-four ≡ codes "presence 1 -1\n"
unfolding digits
greatest_part_negative = refl

greatest_part_division : prints (shows (Grouped (one AddSource (Const 7) Div (Const 0) 0
    ∷ one Measured (Const 5) Bare (Const 0) 0 ∷ []) ∷ [])) 64 at-four ≡ codes "presence 1 5\n"
unfolding digits
greatest_part_division = refl

greatest_part_subtraction : prints (shows (Grouped (hands SubSource (Const 1)
    ∷ one Measured (Const 0) Bare (Const 0) 0 ∷ []) ∷ [])) 64 at-four ≡ codes "presence 1 -1\n"
unfolding digits
greatest_part_subtraction = refl

greatest_part_terms : prints (shows (Legacy (term (byte 0x10) (Some (Const 3)) ∷ term (Const 2) None
    ∷ []) ∷ [])) 64 at-four ≡ codes "presence 1 14\n"
unfolding digits
greatest_part_terms = refl

greatest_part_source : prints (shows (Grouped (hands AddSource (byte 0x10)
    ∷ one Measured (Const 1) Bare (Const 0) 0 ∷ []) ∷ [])) 64 at-four ≡ codes "presence 1 5\n"
unfolding digits
greatest_part_source = refl

-- the trees of two conditions that share a cell
shared_view_lefts : lefts_of (one Plain (byte 0x10) Eq (Const 5) 0
    ∷ one Plain (byte 0x10) Gt (Cell Delta Byte 0x10) 0 ∷ [])
    ≡ view Mem Byte (constant 0) 0x10 ∷ view Mem Byte (constant 0) 0x10 ∷ []
shared_view_lefts = refl

shared_view_rights : rights_of (one Plain (byte 0x10) Eq (Const 5) 0 ∷ one Plain (byte 0x10) Gt
    (Cell Delta Byte 0x10) 0 ∷ []) ≡ constant 5 ∷ view Delta Byte (constant 0) 0x10 ∷ []
shared_view_rights = refl

-- formats
format_texts : formatted Value (negsuc 4) ∷ formatted Score (pos 1234) ∷ formatted Score (negsuc 4)
    ∷ formatted Unsigned (negsuc 0) ∷ formatted Frames (pos 250) ∷ formatted Secs (pos 3661)
    ∷ formatted Hundredths (pos 6543) ∷ formatted Minutes (pos 135) ∷ formatted SecsAsMins
    (pos 7300) ∷ formatted (Fixed 1) (pos 123) ∷ formatted (Fixed 2) (negsuc 4) ∷ formatted
    (Float 2) (pos 7) ∷ formatted Tens (pos 12) ∷ formatted Hundreds (pos 0) ∷ formatted Thousands
    (negsuc 2) ∷ formatted (format_of_name (codes "NOSUCH")) (pos 7) ∷ []
    ≡ codes "-5" ∷ codes "001234" ∷ codes "-00005" ∷ codes "4294967295" ∷ codes "0:04.16"
    ∷ codes "1h01:01" ∷ codes "1:05.43" ∷ codes "2h15" ∷ codes "2h01" ∷ codes "12.3" ∷ codes "-0.05"
    ∷ codes "7.00" ∷ codes "120" ∷ codes "0" ∷ codes "-3000" ∷ codes "7" ∷ []
unfolding digits
format_texts = refl

greatest_decimal : transformed Bcd Four 4294967295 ≡ 166666665
greatest_decimal = refl

-- views
some_views : view_of Count 0xF1F1 ∷ view_of FourBig 0x01020304 ∷ view_of ThreeBig 0xFF010203
    ∷ transformed Inverted Count 3 ∷ transformed Inverted Bit3 1 ∷ transformed Inverted High 3
    ∷ view_of High 0x1A5 ∷ view_of Byte 4294967295 ∷ []
    ≡ 5 ∷ 0x04030201 ∷ 0x030201 ∷ 252 ∷ 0 ∷ 12 ∷ 10 ∷ 255 ∷ []
unfolding lib.Count.ones
some_views = refl

-- count and hits stop at their last numbers
abbrev last_count : SetContents
last_count = record {
  items = Unlocks 1 (trigger (one Plain (byte 0x10) Eq (Const 1) 0 ∷ []) ((one Plain (byte 0x10) Eq
      (Const 0) 0 ∷ one Plain (byte 0x11) Eq (Const 1) 2 ∷ []) ∷ [])) ∷ [];
  script = None;
  digest = [];
  item_names = [];
  script_name = None;
}

abbrev last_opening : Opening
last_opening =
    record {
      frames = 18446744073709551615;
      cells = 0 ∷ 0 ∷ [];
      priors = [];
      items = OfAchievement 1 0 (7 ∷ 0 ∷ 4294967295 ∷ []) false ∷ [];
      presence = None;
    }

last_count_prints : text_of last_count last_opening [] (earned_in last_opening) 64
    (Written 0x10 (1 ∷ []) ∷ Framed ∷ Ended ∷ []) ≡ []
unfolding digits
last_count_prints = refl

last_count_keeps : snapshot last_count last_opening (behind_end [] 64 (Written 0x10 (1 ∷ [])
    ∷ Framed ∷ Ended ∷ [])) ≡ record {
      frames = 18446744073709551615;
      cells = 1 ∷ 0 ∷ [];
      priors =
          [];
      items = OfAchievement 1 0 (8 ∷ 0 ∷ 4294967295 ∷ []) false ∷ [];
      presence = None;
    }
last_count_keeps = refl

-- an unknown macro
unknown_macro_prints : prints
    (record {
      items = [];
      script = Some
          (record {
            lookups = [];
            formats = [];
            lines = record {
              test = None;
              pieces =
                  Bytes (codes "@") ∷ Shows (codes "Foo") (Legacy (term (Const 5) None ∷ []) ∷ [])
                  ∷ Bytes (codes "\\") ∷ [];
            } ∷ [];
          });
      digest = [];
      item_names = [];
      script_name = None;
    }) 64 (Framed ∷ Shown ∷ Ended ∷ []) ≡ codes "presence 1 @[Unknown macro]Foo\\\n"
unfolding digits
unknown_macro_prints = refl

-- a show before any frame: the last line, with all values 0
stages_opens : prints stages 256 (Shown ∷ Ended ∷ []) ≡ codes "presence 0 Title with 000000 points\n"
unfolding digits
stages_opens = refl

-- an AddAddress leaves a sum as it is
through_address : prints (shows (Grouped (hands AddSource (Const 4) ∷ hands AddAddress (Const 0)
    ∷ one Measured (Const 1) Bare (Const 0) 0 ∷ []) ∷ [])) 64 at-four ≡ codes "presence 1 5\n"
unfolding digits
through_address = refl

-- a reset brings a number that comes from hits back to 0
reset_number : prints (shows (Grouped (one Measured (byte 1) Eq (Const 1) 0
    ∷ one ResetIf (byte 2) Eq (Const 1) 0 ∷ []) ∷ [])) 64 (Written 1 (1 ∷ []) ∷ Framed ∷ Shown
    ∷ Written 2 (1 ∷ []) ∷ Framed ∷ Shown ∷ Ended ∷ []) ≡ codes "presence 1 1\npresence 2 0\n"
unfolding digits
reset_number = refl
