-- Groups at one frame, computed from the definitions.
use Rattle.std.proofs.Common.{◌≡◌, ℕ, true, false, [], ◌∷◌, refl}
use Rattle.ra_operand.specs.declared.operand.Operand.TheVariants.{Const}
use Rattle.ra_operand.specs.declared.op.Op.TheVariants.{Eq}
use Rattle.ra_condition.specs.declared.flag.Flag.{Flag}
use Rattle.ra_condition.specs.declared.flag.Flag.TheVariants.{Plain, PauseIf, ResetIf, AddHits, SubHits, ResetNextIf}
use Rattle.ra_condition.specs.declared.condition.Condition.{Condition}
use Rattle.ra_group.specs.declared.form.Form.TheVariants.{InTrigger}
use Rattle.ra_group.specs.Equations.{Frame, frame_of, settled_at}
use Rattle.ra_group.specs.Outcome.{outcome_of, next_hits}

-- a condition of which only flag and target count here
abbrev with : Flag → ℕ → Condition
with flag target = record { flag = flag; left = Const 0; op = Eq; right = Const 0; target = target }

-- a target is reached by added hits, though the condition itself is reset
abbrev reset_next : Frame
reset_next = frame_of (with AddHits 0 ∷ with ResetNextIf 0 ∷ with Plain 3 ∷ [])
    (true ∷ true ∷ false ∷ []) (0 ∷ 0 ∷ 0 ∷ []) (2 ∷ 0 ∷ 0 ∷ [])

reset_next-hits : next_hits reset_next ≡ 3 ∷ 1 ∷ 0 ∷ []
reset_next-hits = refl

reset_next-totals : (settled_at reset_next 0).total ∷ (settled_at reset_next 1).total
    ∷ (settled_at reset_next 2).total ∷ [] ≡ 3 ∷ 4 ∷ 3 ∷ []
reset_next-totals = refl

reset_next-valid : (outcome_of InTrigger reset_next).valid ≡ true
reset_next-valid = refl

-- a paused group does not reset, and only its pause chain counts
abbrev paused_reset : Frame
paused_reset = frame_of (with PauseIf 0 ∷ with ResetIf 0 ∷ with Plain 5 ∷ [])
    (true ∷ true ∷ true ∷ []) (0 ∷ 0 ∷ 0 ∷ []) (0 ∷ 0 ∷ 2 ∷ [])

paused_reset-hits : next_hits paused_reset ≡ 1 ∷ 0 ∷ 2 ∷ []
paused_reset-hits = refl

paused_reset-reset : (outcome_of InTrigger paused_reset).reset ≡ false
paused_reset-reset = refl

-- hits of a chain are added and taken away one after the other
abbrev added : Frame
added = frame_of (with AddHits 0 ∷ with AddHits 0 ∷ with SubHits 0 ∷ with Plain 5 ∷ [])
    (false ∷ false ∷ false ∷ false ∷ []) (0 ∷ 0 ∷ 0 ∷ 0 ∷ []) (1 ∷ 2 ∷ 1 ∷ 3 ∷ [])

added-total : (settled_at added 3).total ≡ 5
added-total = refl

-- more taken away than counted is 0
taken-total : (settled_at (frame_of (with SubHits 0 ∷ with Plain 5 ∷ []) (false ∷ false ∷ [])
    (0 ∷ 0 ∷ []) (4 ∷ 3 ∷ [])) 1).total ≡ 0
taken-total = refl
