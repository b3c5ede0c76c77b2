-- What is printed of an achievement that was watched: docs/DEFINITIONS.md, "Explanations".
use Rattle.std.specs.Prelude.{◌≡◌, ℕ, ⊤, Bool, true, false, Option, List, ◌∷◌}
use Rattle.ra_memory.specs.Image.{History}
use Rattle.ra_explain.specs.Explains.{ExplanationContents}
use Rattle.ra_explain.specs.Recorders.{RecorderSeen, Stands}
use Rattle.ra_explain.specs.Unlocks.{IsExplanation}
use Rattle.ra_session.specs.Closing.{EndsBefore}
use Rattle.ra_session.specs.Expected.{prints_line}
use Rattle.ra_session.specs.Explaining.{explanation_text, no_unlock_text}
use Rattle.ra_session.specs.declared.ending.Ending.{Ending}
use Rattle.ra_session.specs.declared.ending.Ending.TheVariants.{Done, NoMemory, SinkFault}

-- a text is written whole, or memory runs out, or a write fails
abbrev pub EndsText : (sink : Type 0) → Ending → Type 0
EndsText sink Done = ⊤
EndsText sink NoMemory = ⊤
EndsText sink SinkFault = sink
EndsText sink _ = ⊥

-- The explanation of each history for which the recorder stands is printed, and where all of it is, there is one.
pub record PrintsUnlock (id : ℕ) (r : RecorderSeen) (sink : Type 0) (ending : Ending)
    (old new : Option (List ℕ)) : Type 0 where
  pub ends : EndsText sink ending
  pub prints : (image : List ℕ) (earlier : History) (e : ExplanationContents)
      → Stands r (image ∷ earlier) → IsExplanation r.trigger image earlier e
      → EndsBefore (prints_line (explanation_text id r.trigger e)) ⊥ ⊥ sink ending old new
  pub one : (image : List ℕ) (earlier : History) → ending ≡ Done → Stands r (image ∷ earlier)
      → (e : ExplanationContents) × IsExplanation r.trigger image earlier e

-- that explanation is printed where there was an unlock, and else that there was none
abbrev pub PrintsWatched : (id : ℕ) → (unlocked : Bool) → RecorderSeen → (sink : Type 0) → Ending
    → (old new : Option (List ℕ)) → Type 0
PrintsWatched id true r sink ending old new = PrintsUnlock id r sink ending old new
PrintsWatched id false r sink ending old new = EndsBefore (prints_line (no_unlock_text id)) ⊥ ⊥ sink ending old new
