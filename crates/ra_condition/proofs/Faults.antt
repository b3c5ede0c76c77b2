-- A fault that is handed on.
use Rattle.std.proofs.Common.{◌≡◌, ℕ, List, Err}
use Rattle.ra_condition.specs.declared.fault.Fault.{Fault}
use Rattle.ra_condition.specs.declared.fault.Fault.TheVariants.{Stop, Memory}
use Rattle.ra_condition.specs.declared.refused.Refused.{Refused}
use Rattle.ra_condition.specs.declared.refused.Refused.TheVariants.{Syntax}
use Rattle.ra_condition.specs.declared.refused.Refused.TheVariants as refusals
use Rattle.ra_condition.specs.Refusals.{IfSyntax}
use Rattle.ra_condition.specs.Fault.{GivesUnlessFull}
use Rattle.ra_text.specs.Reading.{Outcome}

-- what holds of the place holds of more
pub syntax-weaker : (refused : Refused) (P Q : ℕ → Type 0) → ((place : ℕ) → P place → Q place)
    → IfSyntax refused P → IfSyntax refused Q
syntax-weaker (Syntax place) P Q weaker h = weaker place h
syntax-weaker refusals.Memory P Q weaker h = tt

-- where the reading of a piece stopped, the whole stopped there
pub fault-passes : {X Y V W : Type 0} (view : X → V) (whole_view : Y → W) (fault : Fault)
    (rest : List ℕ) (outcome : Outcome ℕ V) (whole : Outcome ℕ W)
    → (outcome ≡ Err rest → whole ≡ Err rest) → GivesUnlessFull view (Err fault) rest outcome
    → GivesUnlessFull whole_view (Err fault) rest whole
fault-passes view whole_view Stop rest outcome whole stops h = stops h
fault-passes view whole_view Memory rest outcome whole stops h = tt
