-- What readers are woken by, nodes and comparisons, and who reads which: docs/INTERNALS.md, "Signals".
use Rattle.std.specs.Prelude.{◌≡◌, ℕ, ◌+◌, ◌<◌, ◌≤◌, Bool, true, false, Option, None, Some, List, length, replicate}
use Rattle.std.specs.Prelude.{slice_index, slice_index_or}
use Rattle.ra_operand.specs.declared.op.Op.{Op}
use Rattle.ra_operand.specs.declared.op.Op.TheVariants.{Bare, Eq, Ne, Lt, Le, Gt, Ge}
use Rattle.ra_indirect.specs.declared.node.Node.{Node}
use Rattle.ra_truths.specs.declared.comparison.Comparison.{Comparison}
use Rattle.ra_truths.specs.Comparisons.{AreOver, IsOver, comparison_at}
use Rattle.ra_member.specs.declared.laid.Laid.{Laid}
use Rattle.ra_schedule.specs.Readers.{ReadersSeen, Reads}

-- how many nodes there are, the distinct comparisons that are read, and who reads which signal: the nodes by their
-- numbers, and the comparisons after them
pub record SignalsSeen : Type 0 where
  pub nodes : ℕ
  pub comparisons : List Comparison
  pub readers : ReadersSeen

-- whether a comparison by the operator may come out one way and the other
abbrev pub is_comparing : Op → Bool
is_comparing Eq = true
is_comparing Ne = true
is_comparing Lt = true
is_comparing Le = true
is_comparing Gt = true
is_comparing Ge = true
is_comparing _ = false

-- the comparisons stand where they stood, and maybe others after them
pub record AreFront (old new : List Comparison) : Type 0 where
  pub long : length old ≤ length new
  pub same : (k : ℕ) → k < length old → comparison_at new k ≡ comparison_at old k

-- nothing that was noted is lost, and where all comparisons are over nodes with values they stay so
pub record KeepsAll (nodes : List Node) (old new : SignalsSeen) : Type 0 where
  pub nodes_too : new.nodes ≡ old.nodes
  pub front : AreFront old.comparisons new.comparisons
  pub kept : (s r : ℕ) → Reads old.readers s r → Reads new.readers s r
  pub due : new.readers.due ≡ old.readers.due
  pub over : AreOver nodes old.comparisons → AreOver nodes new.comparisons

-- a reader reads a comparison
pub record Hears (s : SignalsSeen) (c : Comparison) (reader : ℕ) : Type 0 where
  pub number : ℕ
  pub within : number < length s.comparisons
  pub is : comparison_at s.comparisons number ≡ c
  pub reads : Reads s.readers (s.nodes + number) reader

-- a reader reads a node, and nothing that was noted is lost
pub record NotesNode (node reader : ℕ) (old new : SignalsSeen) : Type 0 where
  pub reads : Reads new.readers node reader
  pub keeps : (nodes : List Node) → KeepsAll nodes old new

-- a reader reads a comparison, and nothing that was noted is lost
pub record NotesComparison (c : Comparison) (reader : ℕ) (old new : SignalsSeen) : Type 0 where
  pub hears : Hears new c reader
  pub keeps : (nodes : List Node) → IsOver nodes c → KeepsAll nodes old new

-- the comparison of the condition at a place of a laid plan
abbrev pub comparison_in : Laid → ℕ → Comparison
comparison_in laid j = record {
  op = slice_index_or laid.ops j Bare;
  left = slice_index laid.plan.lefts j;
  right = slice_index laid.plan.rights j;
}

-- a reader reads the comparisons of the conditions in front of a place, where these may come out otherwise
abbrev pub AreHeard : SignalsSeen → Laid → (count reader : ℕ) → Type 0
AreHeard s laid count reader =
    (j : ℕ) → j < count → is_comparing (slice_index_or laid.ops j Bare) ≡ true
    → Hears s (comparison_in laid j) reader

-- a reader reads the left nodes of the conditions in front of a place, where these give their left values as numbers
abbrev pub IsGivenRead : (given : List Bool) → Laid → (count : ℕ) → ReadersSeen → (reader : ℕ) → Type 0
IsGivenRead given laid count readers reader =
    (j : ℕ) → j < count → slice_index_or given j false ≡ true
    → Reads readers (slice_index laid.plan.lefts j) reader

-- a reader reads a node that may be missing
abbrev pub IsSumRead : Option ℕ → ReadersSeen → (reader : ℕ) → Type 0
IsSumRead None readers reader = Unit {0}
IsSumRead (Some node) readers reader = Reads readers node reader

-- a reader reads the nodes in front of a place, where they are there
abbrev pub AreSumsRead : List (Option ℕ) → (count : ℕ) → ReadersSeen → (reader : ℕ) → Type 0
AreSumsRead nodes count readers reader = (j : ℕ) → j < count → IsSumRead (slice_index_or nodes j None) readers reader

-- this many places are all due, and of those in front of a place this holds; all comparisons are over nodes with values
pub record AreSignals (nodes : List Node) (Told : SignalsSeen → ℕ → Type 0) (places : ℕ)
    (s : SignalsSeen) (place : ℕ) : Type 0 where
  pub nodes_too : length nodes ≡ s.nodes
  pub over : AreOver nodes s.comparisons
  pub due : s.readers.due ≡ replicate places true
  pub told : (k : ℕ) → k < place → Told s k
