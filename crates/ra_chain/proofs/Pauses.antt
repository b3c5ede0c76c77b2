-- How many places of the order stand in pause chains, found by its last PauseIf.
use Rattle.std.proofs.Common.{◌≡◌, ℕ, ◌+◌, ◌-◌, ◌<◌, ◌≤◌, true, false, List, length, get_or, ◌⊎◌, ap, ◌∙◌, subst, inl}
use Rattle.std.proofs.Common.{inr, arith}
use Rattle.std.proofs.lemmas.Bool.{cases_eq}
use Rattle.ra_condition.specs.declared.condition.Condition.{Condition}
use Rattle.ra_condition.specs.Flags.{is_pause}
use Rattle.ra_condition.specs.Contents.{flag_at}
use Rattle.ra_condition.specs.Chains.{pass_order}
use Rattle.ra_condition.proofs.OrderLemmas.{pausing, pauses_end}

-- the last PauseIf of the first turns is that before this one, if there is one
pub record EndsPauses (cs : List Condition) (order : List ℕ) (turn pauses : ℕ) : Type 0 where
  pub within : pauses ≤ turn
  pub none : (k : ℕ) → pauses ≤ k → k < turn → is_pause (flag_at cs (get_or order k 0)) ≡ false
  pub last : (pauses ≡ 0) ⊎ (is_pause (flag_at cs (get_or order (pauses - 1) 0)) ≡ true)

pub pauses_none : (cs : List Condition) (order : List ℕ) → EndsPauses cs order 0 0
pauses_none cs order = record { within = omega arith; none = λ k g l. absurd (omega arith); last = inl (omega arith) }

pub pauses_here : (cs : List Condition) (order : List ℕ) (turn : ℕ)
    → is_pause (flag_at cs (get_or order turn 0)) ≡ true → EndsPauses cs order (turn + 1) (turn + 1)
pauses_here cs order turn h =
    let e : turn + 1 - 1 ≡ turn = omega arith in
    record {
      within = omega arith;
      none = λ k g l. absurd (omega arith);
      last = inr (ap (λ k. is_pause (flag_at cs (get_or order k 0))) e ∙ h);
    }

pub pauses_there : (cs : List Condition) (order : List ℕ) (turn pauses : ℕ)
    → is_pause (flag_at cs (get_or order turn 0)) ≡ false → EndsPauses cs order turn pauses
    → EndsPauses cs order (turn + 1) pauses
pauses_there cs order turn pauses h before = record {
  within = omega (arith, before.within);
  none = λ k g l. elim (cases_eq k turn) [
    | inl here ↦ ap (λ i. is_pause (flag_at cs (get_or order i 0))) here ∙ h
    | inr other ↦ before.none k g (omega arith)
  ];
  last = before.last;
}

pub pauses_all : (cs : List Condition) (order : List ℕ) (turn pauses : ℕ) → order ≡ pass_order cs
    → turn ≡ length order → EndsPauses cs order turn pauses → pauses ≡ length (pausing cs)
pauses_all cs order turn pauses passes end all =
    let whole : EndsPauses cs (pass_order cs) (length (pass_order cs)) pauses =
    subst (λ (xs : List ℕ). EndsPauses cs xs (length xs) pauses) passes
    (subst (λ (n : ℕ). EndsPauses cs order n pauses) end all) in
    pauses_end cs pauses whole.within whole.none whole.last
