-- Who is due at a frame, and what those at rest owe: docs/INTERNALS.md, "Schedules".
use Rattle.std.specs.Prelude.{◌≡◌, ℕ, suc, ◌+◌, ◌-◌, ◌<◌, ◌≤◌, min, not, Bool, true, false, if◌then◌else◌, Option, None}
use Rattle.std.specs.Prelude.{Some, IfSome, List, [], ◌∷◌, ◌++◌, length, map, replicate, slice_index, slice_index_or}
use Rattle.std.specs.Prelude.{slice_set}
use Rattle.std.specs.Option.{is_some}
use Rattle.ra_indirect.specs.declared.node.Node.{Node}
use Rattle.ra_memref.specs.Table.{TableSeen}
use Rattle.ra_truths.specs.declared.comparison.Comparison.{Comparison}
use Rattle.ra_truths.specs.Comparisons.{AreOver, truths_by}
use Rattle.ra_truths.specs.Truths.{IsTold, Takes, TruthsSeen}
use Rattle.ra_schedule.specs.Readers.{ReadersSeen, all_woken}
use Rattle.ra_schedule.specs.Waking.{IsWoken, IsWokenAlone}

-- what a schedule is seen as: who reads which signal and who is due, the comparisons among the signals with their
-- truths, since which count of frames each place rests, and the count of now
pub record ScheduleSeen : Type 0 where
  pub readers : ReadersSeen
  pub truths : TruthsSeen
  pub since : List (Option ℕ)
  pub clock : ℕ

-- whether a place is due
abbrev pub is_due : ScheduleSeen → (place : ℕ) → Bool
is_due s place = slice_index_or s.readers.due place true

-- since which count of frames a place rests, if it does
abbrev pub since_at : ScheduleSeen → (place : ℕ) → Option ℕ
since_at s place = slice_index_or s.since place None

-- how many frames are owed at a count of frames, by what rests since one of them or not at all
abbrev pub frames_since : (clock : ℕ) → Option ℕ → Option ℕ
frames_since clock None = None
frames_since clock (Some since) = Some (clock - since)

-- how many frames a place owes, where it rests
abbrev pub owed_at : ScheduleSeen → (place : ℕ) → Option ℕ
owed_at s place = frames_since s.clock (since_at s place)

-- this many frames as far as hits can tell: all of them, or the most that a hit can count
abbrev pub as_hits_tell : Option ℕ → Option ℕ
as_hits_tell None = None
as_hits_tell (Some frames) = Some (min frames 4294967295)

-- the count of frames after one, which stops at the last number
abbrev pub next_count : ℕ → ℕ
next_count clock = min (clock + 1) 18446744073709551615

-- the truths of comparisons of which none was taken yet
abbrev pub no_truths : (nodes : ℕ) → List Comparison → TruthsSeen
no_truths nodes comparisons = record {
  comparisons = comparisons;
  nodes = nodes;
  truths = replicate (length comparisons) false;
  flipped = [];
  known = false;
}

-- no place rests, and each is due
abbrev pub nothing_owed : ReadersSeen → TruthsSeen → (clock : ℕ) → ScheduleSeen
nothing_owed readers truths clock =
    record { readers = all_woken readers; truths = truths; since = replicate (length readers.due) None; clock = clock }

-- a place was stepped: it rests from the next count of frames on, or is due
abbrev pub noted_at : (place : ℕ) → (rests : Bool) → ScheduleSeen → ScheduleSeen
noted_at place rests s = record s {
  readers = record s.readers { due = slice_set s.readers.due place (not rests) };
  since = slice_set s.since place (if rests then Some (next_count s.clock) else None);
}

-- the signals that changed at the last sample of a table: its nodes, and the comparisons that came out otherwise
abbrev pub signals_at : TableSeen → TruthsSeen → List ℕ
signals_at table truths = table.changed ++ map (λ k. truths.nodes + k) truths.flipped

-- a frame may begin: the table was sampled, has the nodes of the comparisons, and lists those with another value than
-- the truths are by
pub record MayBegin (table : TableSeen) (s : ScheduleSeen) : Type 0 where
  pub nodes : length table.nodes ≡ s.truths.nodes
  pub over : AreOver table.nodes s.truths.comparisons
  pub sampled : table.sampled ≡ true
  pub told : s.truths.known ≡ true → IsTold s.truths.comparisons s.truths.truths table
  pub changed : (k : ℕ) → k < length table.changed → slice_index table.changed k < length table.nodes

-- a frame begins by a table: the truths are taken, or none is known and all are due; who reads a signal that changed is
-- due, and none owes more or less; where the truths are taken and not many signals changed, who became due reads one
pub record Begins (table : TableSeen) (old new : ScheduleSeen) : Type 0 where
  pub comparisons : new.truths.comparisons ≡ old.truths.comparisons
  pub nodes : new.truths.nodes ≡ old.truths.nodes
  pub truths : new.truths.known ≡ true → Takes old.truths new.truths table
  pub awake : (k : ℕ) → is_due new k ≡ false → new.truths.known ≡ true
  pub woken : IsWoken old.clock (signals_at table new.truths) old.readers new.readers
  pub only : new.truths.known ≡ true → IsWokenAlone old.clock (signals_at table new.truths) old.readers new.readers
  pub since : new.since ≡ old.since
  pub clock : new.clock ≡ old.clock

-- the comparisons of a schedule are over these nodes, and where a frame was taken their truths are by these values
pub record IsHeard (nodes : List Node) (values : List ℕ) (s : ScheduleSeen) : Type 0 where
  pub nodes_too : length nodes ≡ s.truths.nodes
  pub over : AreOver nodes s.truths.comparisons
  pub truths : s.truths.known ≡ true → s.truths.truths ≡ truths_by values s.truths.comparisons

-- between frames: this many places, of which each rests since no later count; who is not due rests, a frame was taken,
-- and this holds of it
pub record AreAtRest (On : ℕ → Type 0) (places : ℕ) (s : ScheduleSeen) : Type 0 where
  pub due_many : length s.readers.due ≡ places
  pub since_many : length s.since ≡ places
  pub early : (k : ℕ) → k < places → IfSome (since_at s k) (λ since. since ≤ s.clock)
  pub rests : (k : ℕ) → k < places → is_due s k ≡ false → is_some (since_at s k) ≡ true
  pub known : (k : ℕ) → k < places → is_due s k ≡ false → s.truths.known ≡ true
  pub on : (k : ℕ) → k < places → is_due s k ≡ false → On k

-- what is seen of each place, by what it has, what it had before its rest, and how many frames it owes
abbrev pub seen_all : {Run Before Kept : Type 0} → (Run → Before → Option ℕ → Kept)
    → (owed : ℕ → Option ℕ) → List Run → List Before → List Kept
seen_all seen owed (run ∷ runs) (before ∷ befores) =
    seen run before (owed 0) ∷ seen_all seen (λ k. owed (suc k)) runs befores
seen_all seen owed _ _ = []

-- one frame of each, from what is seen of it before to what is seen of it after, beside what it says
abbrev pub AllSteps : {Thing Kept Said : Type 0} → (Thing → Kept → Kept → Said → Type 0)
    → List Thing → (olds news : List Kept) → List Said → Type 0
AllSteps Steps [] [] [] [] = Unit {0}
AllSteps Steps (thing ∷ things) (old ∷ olds) (new ∷ news) (said ∷ all) =
    Steps thing old new said × AllSteps Steps things olds news all
AllSteps Steps _ _ _ _ = ⊥
