-- How many conditions stand in pause chains, found from the end of a group on.
use Rattle.std.proofs.Common.{◌≡◌, ℕ, zero, suc, ◌+◌, ◌-◌, ◌<◌, ◌≤◌, Bool, true, false, cond, List, ◌∷◌, length, drop}
use Rattle.std.proofs.Common.{filter, get_or, refl, sym, ◌∙◌, ap, ap₂, arith, drop-cons}
use Rattle.std.specs.List.{range_with_len}
use Rattle.ra_condition.specs.declared.condition.Condition.{Condition}
use Rattle.ra_condition.specs.Contents.{flag_at, no_condition}
use Rattle.ra_condition.specs.Chains.{ends_in_pause, in_pause_chain}
use Rattle.ra_condition.specs.Flags.{combines, is_pause}
use Rattle.ra_condition.proofs.ChainLemmas.{in_pause_chain-combines, in_pause_chain-last}
use Rattle.ra_group.specs.Along.{pause_count}

-- one place more that passes or not
counted : (p : ℕ → Bool) (x : ℕ) (xs : List ℕ) → length (filter p (x ∷ xs)) ≡ cond (p x) 1 0 + length (filter p xs)
counted p x xs = by_case (p x)
  where
    by_case : (b : Bool) → length (cond b (x ∷ filter p xs) (filter p xs)) ≡ cond b 1 0 + length (filter p xs)
    by_case true = omega arith
    by_case false = omega arith

-- places counted from one higher, in a list with one condition more before it
shifted : (c : Condition) (cs : List Condition) (from next n : ℕ) → next ≡ suc from
    → length (filter (in_pause_chain (c ∷ cs)) (range_with_len next n))
    ≡ length (filter (in_pause_chain cs) (range_with_len from n))
shifted c cs from next zero is = refl
shifted c cs from next (suc n) is =
    counted (in_pause_chain (c ∷ cs)) next (range_with_len (next + 1) n)
    ∙ ap₂ (λ b m. cond b 1 0 + m) (ap (in_pause_chain (c ∷ cs)) is)
    (shifted c cs (from + 1) (next + 1) n (omega (arith, is)))
    ∙ sym (counted (in_pause_chain cs) from (range_with_len (from + 1) n))

pub count_more : (c : Condition) (cs : List Condition) → pause_count (c ∷ cs)
    ≡ cond (ends_in_pause (c ∷ cs)) 1 0 + pause_count cs
count_more c cs =
    counted (in_pause_chain (c ∷ cs)) 0 (range_with_len (0 + 1) (length cs))
    ∙ ap (λ m. cond (ends_in_pause (c ∷ cs)) 1 0 + m) (shifted c cs 0 (0 + 1) (length cs) refl)

-- the step of a loop that goes back from the place
pub count_turn : (cs : List Condition) (place count : ℕ) (pauses : Bool) → 0 < place
    → place ≤ length cs → count ≡ pause_count (drop place cs) → pauses ≡ ends_in_pause
    (drop (place - 1) cs) → cond pauses 1 0 + count ≡ pause_count (drop (place - 1) cs)
count_turn cs place count pauses some within is ends =
    let next : suc (place - 1) ≡ place = omega (arith, some) in
    let whole : drop (place - 1) cs ≡ get_or cs (place - 1) no_condition ∷ drop place cs =
    drop-cons cs (place - 1) no_condition (omega (arith, some, within))
    ∙ ap (λ n. get_or cs (place - 1) no_condition ∷ drop n cs) next in
    ap₂ (λ b n. cond b 1 0 + n) (ends ∙ ap ends_in_pause whole) is ∙ sym
    (count_more (get_or cs (place - 1) no_condition) (drop place cs)) ∙ ap pause_count (sym whole)

-- how the condition before the place is, by whether it combines
pub pause_combined : (cs : List Condition) (place : ℕ) (pauses : Bool) → 0 < place
    → combines (flag_at cs (place - 1)) ≡ true → pauses ≡ ends_in_pause (drop place cs) → pauses
    ≡ ends_in_pause (drop (place - 1) cs)
pause_combined cs place pauses some h is =
    let e : place ≡ suc (place - 1) = omega (arith, some) in
    is ∙ ap (in_pause_chain cs) e ∙ sym (in_pause_chain-combines cs (place - 1) h)

pub pause_last : (cs : List Condition) (place : ℕ) → combines (flag_at cs place) ≡ false
    → is_pause (flag_at cs place) ≡ ends_in_pause (drop place cs)
pause_last cs place h = sym (in_pause_chain-last cs place h)
