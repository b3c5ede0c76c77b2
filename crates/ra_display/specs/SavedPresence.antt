-- Numbers of a display that fit a progress file: docs/DEFINITIONS.md, "Progress file".
use Rattle.std.specs.Prelude.{Option, None, Some}
use Rattle.ra_progress.specs.Contents.{KeptPresence}
pub use Rattle.ra_member.specs.MemberRuns.{FitWords, PutsBehind}

-- each number that is kept of a display is of 32 bits
pub record FitPresence (kept : KeptPresence) : Type 0 where
  pub hits : FitWords kept.hits
  pub numbers : FitWords kept.numbers

-- each number that is kept of a display that may be missing is of 32 bits
abbrev pub FitOptional : Option KeptPresence → Type 0
FitOptional None = Unit {0}
FitOptional (Some kept) = FitPresence kept
