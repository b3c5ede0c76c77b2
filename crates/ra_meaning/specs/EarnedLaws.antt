-- What is earned holds what is triggered, and nothing is taken back: docs/DEFINITIONS.md, "Earned achievements".
use Rattle.std.specs.Prelude.{◌≡◌, ℕ, List, ◌∷◌}
use Rattle.ra_memory.specs.Image.{History}
use Rattle.ra_set.specs.Contents.{SetContents}
use Rattle.ra_progress.specs.Contents.{Opening, IsOpening}
use Rattle.ra_meaning.specs.Earned.{Earned, HoldTriggered, IsEarnedToo, both_earned, earned_in, none_earned}
use Rattle.ra_meaning.specs.Earned.{with_earned}
use Rattle.ra_meaning.specs.Openings.{plain_opening, snapshot}
use Rattle.ra_meaning.specs.Order.{shape_of}
use Rattle.ra_meaning.specs.Play.{earns}

-- an opening with exactly these earned is an opening, and these are earned in it
pub record KeepsEarned (set : SetContents) (o : Opening) (earned : Earned) : Type 0 where
  pub opening : IsOpening (shape_of set) (with_earned o earned)
  pub same : earned_in (with_earned o earned) ≡ earned

-- what was earned before stays earned, and what is triggered is earned
pub record EarnsMore (before after : Earned) (o : Opening) : Type 0 where
  pub stays : IsEarnedToo before after
  pub holds : HoldTriggered after o.items

-- Nothing is earned in the plain opening, each opening has earned what is triggered in it, and a frame and a restore
-- take nothing back.
pub record StayEarned (set : SetContents) : Type 0 where
  pub plain : earned_in (plain_opening set) ≡ none_earned set
  pub opening : (o : Opening) → IsOpening (shape_of set) o → HoldTriggered (earned_in o) o.items
  pub kept : (o : Opening) (earned : Earned) → IsOpening (shape_of set) o
      → HoldTriggered earned o.items → KeepsEarned set o earned
  pub frame : (o : Opening) (history : History) (image : List ℕ) (earned : Earned)
      → HoldTriggered earned (snapshot set o history).items
      → EarnsMore earned (earns set o (image ∷ history) earned) (snapshot set o (image ∷ history))
  pub restore : (old said : Opening) → IsOpening (shape_of set) old → IsOpening (shape_of set) said
      → EarnsMore (earned_in old) (both_earned (earned_in old) (earned_in said)) said
