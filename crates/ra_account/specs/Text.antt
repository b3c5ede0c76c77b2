-- The lines of an account: docs/DEFINITIONS.md, "Account of an achievement".
use Rattle.std.specs.Prelude.{ℕ, ◌==◌, ◌||◌, not, if◌then◌else◌, List, [], ◌++◌, map, codes, decimal}
use Rattle.std.specs.List.{flat_map}
use Rattle.ra_condition.specs.declared.condition.Condition.{Condition}
use Rattle.ra_condition.specs.Flags.{hands_on}
use Rattle.ra_account.specs.Counting.{times_of}
use Rattle.ra_account.specs.Greatest.{best_of, range_of}
use Rattle.ra_account.specs.Marks.{marks_in, timeline_of}
use Rattle.ra_account.specs.declared.facts.Facts.{Facts}
use Rattle.ra_account.specs.declared.range.Range.{Range}
use Rattle.ra_account.specs.declared.best.Best.{Best}
use Rattle.ra_account.specs.declared.condition.ConditionAccount.{ConditionAccount}
use Rattle.ra_account.specs.declared.mark.Mark.{Mark}
use Rattle.ra_account.specs.declared.mark.Mark.TheVariants.{Never, Sometimes, Always}
use Rattle.ra_account.specs.declared.times.Times.{Times}

-- what the lines of a condition tell: where it counts and is past memory, its best, its values, and the columns that
-- have a frame
pub record Told : Type 0 where
  pub counts : Times
  pub past : Times
  pub best : Best
  pub left : Range
  pub right : Range
  pub marks : List Mark

-- what an account tells
abbrev pub told_by : ConditionAccount → Told
told_by a =
    record {
      counts = a.counts;
      past = a.past;
      best = a.best;
      left = a.left;
      right = a.right;
      marks = marks_in a.columns;
    }

-- what some frames tell of a condition, the newest first
abbrev pub told_of : List Facts → Told
told_of frames = record {
  counts = times_of (map (λ f. f.counts) frames);
  past = times_of (map (λ f. f.past) frames);
  best = best_of (map (λ f. f.total) frames);
  left = range_of (map (λ f. f.left) frames);
  right = range_of (map (λ f. f.right) frames);
  marks = timeline_of (map (λ f. f.counts) frames);
}

-- the first and the last frame, where there is one
abbrev pub span_text : Times → List ℕ
span_text t =
    if t.count == 0 then [] else codes " first " ++ decimal t.first ++ codes " last " ++ decimal t.last

-- how many frames there are, the first and the last, after a word
abbrev pub times_text : (word : List ℕ) → Times → List ℕ
times_text word t = word ++ codes " " ++ decimal t.count ++ span_text t ++ codes "\n"

-- the best, and the first frame that has it; no frame has a best of 0
abbrev pub best_text : Best → List ℕ
best_text best = if best.total == 0 then codes "0 at none" else decimal best.total ++ codes " at " ++ decimal best.at

-- the target and the best, where there is a target
abbrev pub target_text : ℕ → Best → List ℕ
target_text target best =
    if target == 0 then [] else codes " of " ++ decimal target ++ codes " best " ++ best_text best

-- at how many frames it counts, its hits after the last one, and its best
abbrev pub counts_text : (target hits : ℕ) → Told → List ℕ
counts_text target hits a =
    codes " counts " ++ decimal a.counts.count ++ span_text a.counts
    ++ codes " hits " ++ decimal hits ++ target_text target a.best ++ codes "\n"

-- the least and the greatest value of each side, where it counts nowhere and there is a frame
abbrev pub sides_text : (frames : ℕ) → Told → List ℕ
sides_text frames a =
    if not (a.counts.count == 0) || frames == 0 then []
    else codes " left " ++ decimal a.left.least ++ codes " to " ++ decimal a.left.greatest
    ++ codes " right " ++ decimal a.right.least ++ codes " to " ++ decimal a.right.greatest ++ codes "\n"

-- a column
abbrev pub mark_text : Mark → List ℕ
mark_text Always = codes "#"
mark_text Sometimes = codes "+"
mark_text Never = codes "."

-- some columns
abbrev pub marks_text : List Mark → List ℕ
marks_text marks = flat_map mark_text marks

-- the columns, where it counts at some frames and not at all
abbrev pub timeline_text : (frames : ℕ) → Told → List ℕ
timeline_text frames a =
    if a.counts.count == 0 || a.counts.count == frames then [] else codes " " ++ marks_text a.marks ++ codes "\n"

-- the frames at which an operand is past memory, where there is one
abbrev pub past_text : Told → List ℕ
past_text a = if a.past.count == 0 then [] else times_text (codes " past memory") a.past

-- the lines of a condition that counts hits, but for what is past memory
abbrev pub live_text : (target hits frames : ℕ) → Told → List ℕ
live_text target hits frames a = counts_text target hits a ++ sides_text frames a ++ timeline_text frames a

-- the lines of a condition after the one that names it; one that only hands a value on has no hits to tell of
abbrev pub account_text : Condition → (hits frames : ℕ) → Told → List ℕ
account_text c hits frames a =
    if hands_on c.flag then past_text a else live_text c.target hits frames a ++ past_text a
