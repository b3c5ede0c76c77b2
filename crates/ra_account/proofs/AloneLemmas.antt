-- A group in which none leaves anything for the next one in its chain.
use Rattle.std.proofs.Common.{◌≡◌, ℕ, zero, suc, ◌+◌, ◌<◌, ◌&&◌, ◌||◌, not, Bool, true, false, None, Some, [], ◌∷◌}
use Rattle.std.proofs.Common.{◌++◌, length, slice_index, slice_index_or, refl, sym, ap, ◌∙◌, add-one, arith}
use Rattle.std.specs.Prelude.{if◌then◌else◌}
use Rattle.std.specs.List.{list_any, range_with_len}
use Rattle.ra_condition.specs.Contents.{condition_at}
use Rattle.ra_condition.proofs.Passes.{range_more}
use Rattle.ra_group.specs.declared.settled.Settled.{Settled}
use Rattle.ra_group.specs.Equations.{Frame, met, prev_of, seen_after, settled}
use Rattle.ra_group.specs.Standings.{standing_at}
use Rattle.ra_group.proofs.TallyLemmas.{any_push}
use Rattle.ra_account.specs.Alone.{StandAlone, stands_alone}

-- what neither hands on nor combines leaves nothing
nothing_left : (hands goes_on : Bool) (here : Settled) → (goes_on && not hands) ≡ false
    → (if hands then None else (if goes_on then Some here else None)) ≡ None
nothing_left true goes_on here leaves = refl
nothing_left false false here leaves = refl
nothing_left false true here leaves = absurd (cc)

-- none stands before any condition in its chain
none_before : (f : Frame) (n : ℕ) → StandAlone f.conditions → n < suc (length f.conditions) → prev_of f n ≡ None
none_before f zero alone within = refl
none_before f (suc i) alone within =
    let c = condition_at f.conditions i in
    let before = none_before f i alone (omega arith) in
    (λ k. seen_after c (settled c (slice_index_or f.truths i false) (slice_index f.hits i) (before k)) (before k))
    ∙ nothing_left _ _ _ (alone i (omega arith))

-- so each stands as one alone
pub stands_apart : (f : Frame) (j : ℕ) → StandAlone f.conditions → j < length f.conditions
    → stands_alone (condition_at f.conditions j) (slice_index_or f.truths j false)
    (slice_index f.hits j) ≡ standing_at f j
stands_apart f j alone within =
    let c = condition_at f.conditions j in
    let t = slice_index_or f.truths j false in
    let h = slice_index f.hits j in
    let before = sym (none_before f j alone (omega arith)) in
    (λ k. record {
      met = met (before k) t;
      reset = (settled c t h (before k)).reset;
      total = (settled c t h (before k)).total;
      valid = (settled c t h (before k)).valid;
    })

-- the first of some places from the first on is that place
from_none : (n : ℕ) → n ≡ 0 + n
from_none n = omega arith

-- whether some of the places so far passes, with one more
pub any_more : (passes : ℕ → Bool) (place : ℕ) (before here : Bool) → before ≡ list_any passes (range_with_len 0 place)
    → here ≡ passes place → (before || here) ≡ list_any passes (range_with_len 0 (place + 1))
any_more passes place before here known is =
    (λ i. known i || is i)
    ∙ sym (any_push passes (range_with_len 0 place) place)
    ∙ ap (λ k. list_any passes (range_with_len 0 place ++ k ∷ [])) (from_none place)
    ∙ ap (list_any passes) (sym (range_more 0 place))
    ∙ ap (λ n. list_any passes (range_with_len 0 n)) (sym (add-one place))

-- where one or the other is not, neither is
pub neither : (a b : Bool) → (a || b) ≡ false → (a ≡ false) × (b ≡ false)
neither true b no_one = absurd (cc)
neither false b no_one = (refl, no_one)
