-- What a frame makes of a condition is among what the condition may come to: docs/DEFINITIONS.md, "Chances".
use Rattle.std.specs.Prelude.{◌≡◌, ◌⊎◌, ℕ, ◌<◌, pos, ◌≤ℤ◌, Bool, true, false, Option, None, Some, List, slice_index}
use Rattle.std.specs.Prelude.{slice_index_or}
use Rattle.ra_condition.specs.declared.condition.Condition.{Condition}
use Rattle.ra_group.specs.declared.settled.Settled.{Settled}
use Rattle.ra_lint.specs.declared.chance.Chance.{Chance}
use Rattle.ra_lint.specs.Chances.{chance_at}

-- its hits, the hits that its chain adds and its validity are among what may be
pub record IsAmong (s : Settled) (c : Chance) : Type 0 where
  pub flag : s.flag ≡ c.flag
  pub hit : 0 < s.hit → c.met ≡ true
  pub add : (s.add ≤ℤ pos 0) ⊎ (c.added ≡ true)
  pub valid : s.valid ≡ true → c.valid ≡ true

-- what stands before a condition is, too
abbrev pub AreAmong : Option Settled → Option Chance → Type 0
AreAmong None None = Unit {0}
AreAmong (Some s) (Some c) = IsAmong s c
AreAmong _ _ = ⊥

-- comparisons that may not hold do not
abbrev pub MayBe : (ℕ → Bool) → List Bool → Type 0
MayBe may truths = (j : ℕ) → slice_index_or truths j false ≡ true → may j ≡ true

-- only a condition that may be met has hits
abbrev pub MayHave : List Condition → (ℕ → Bool) → List ℕ → Type 0
MayHave cs may hits = (j : ℕ) → 0 < slice_index hits j → (chance_at cs may j).met ≡ true
