-- A group in which none pauses or resets it or moves the cells of the next one.
use Rattle.std.proofs.Common.{◌≡◌, ℕ, zero, suc, ◌<◌, ◌&&◌, Bool, false, List, length, slice_index, slice_index_or}
use Rattle.std.proofs.Common.{refl, sym, ap, ◌∙◌, add-one, arith}
use Rattle.std.specs.Prelude.{if◌then◌else◌}
use Rattle.std.specs.List.{list_any, range_with_len}
use Rattle.ra_condition.specs.declared.condition.Condition.{Condition}
use Rattle.ra_condition.specs.declared.flag.Flag.{Flag}
use Rattle.ra_condition.specs.Chains.{places}
use Rattle.ra_condition.specs.Contents.{flag_at}
use Rattle.ra_condition.specs.Flags.{is_address, is_pause, is_reset}
use Rattle.ra_group.specs.Equations.{Frame, settled_at}
use Rattle.ra_group.specs.Outcome.{some_valid}
use Rattle.ra_account.specs.declared.sight.Sight.{Sight}
use Rattle.ra_account.specs.Alone.{AreCalm}
use Rattle.ra_account.specs.Facts.{is_paused}
use Rattle.ra_account.specs.Groups.{GroupRow, no_sight}
use Rattle.ra_account.specs.Noting.{PointAlike}
use Rattle.ra_account.proofs.AloneLemmas.{any_more, neither}

-- where none is of a class, none of the class is valid
none_valid : (class : Flag → Bool) (f : Frame) (n : ℕ) → ((j : ℕ) → j < n → class (flag_at f.conditions j) ≡ false)
    → some_valid class f (range_with_len 0 n) ≡ false
none_valid class f zero none = refl
none_valid class f (suc n) none =
    let passes : ℕ → Bool = λ j. class (flag_at f.conditions j) && (settled_at f j).valid in
    let here : passes n ≡ false = ap (λ b. b && (settled_at f n).valid) (none n (omega arith)) in
    let before = none_valid class f n (λ j below. none j (omega (arith, below))) in
    ap (λ m. list_any passes (range_with_len 0 m)) (sym (add-one n))
    ∙ sym (any_more passes n false false (sym before) (sym here))

-- no PauseIf is valid
pub nothing_pauses : (f : Frame) → AreCalm f.conditions → is_paused f ≡ false
nothing_pauses f calm = none_valid is_pause f (length f.conditions) (λ j below. (neither _ _ (calm j below)).0)

-- no ResetIf is valid
pub nothing_resets : (f : Frame) → AreCalm f.conditions → some_valid is_reset f (places f.conditions) ≡ false
nothing_resets f calm = none_valid is_reset f (length f.conditions)
    (λ j below. (neither _ _ (neither _ _ (calm j below)).1).0)

-- and each pointer is 0
pub nothing_moves : (cs : List Condition) (seen : List Sight) (row : GroupRow) → AreCalm cs → PointAlike cs seen row
nothing_moves cs seen row calm = λ j below.
    let none : is_address (flag_at cs j) ≡ false = (neither _ _ (neither _ _ (calm j below)).1).1 in
    ap (λ b. if b then (slice_index_or seen j no_sight).left else 0) none
    ∙ sym (ap (λ b. if b then slice_index row.lefts j else 0) none)
