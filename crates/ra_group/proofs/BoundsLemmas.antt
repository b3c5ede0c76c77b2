-- The hits that a chain adds stay within as many times 2 ^ 32 as places were visited.
use Rattle.std.proofs.Common.{◌≡◌, ℕ, zero, suc, ◌+◌, ◌*◌, ◌^◌, ◌<◌, ◌≤◌, Bool, true, false, cond, Option, None, Some}
use Rattle.std.proofs.Common.{slice_index, slice_index_or, ℤ, pos, ◌+ℤ◌, ◌≤ℤ◌, arith}
use Rattle.std.proofs.lemmas.Int.{ints}
use Rattle.ra_condition.specs.declared.flag.Flag.{Flag}
use Rattle.ra_condition.specs.declared.flag.Flag.TheVariants.{AddHits, SubHits}
use Rattle.ra_condition.specs.Flags.{combines, hands_on}
use Rattle.ra_condition.specs.Contents.{condition_at}
use Rattle.ra_group.specs.declared.settled.Settled.{Settled}
use Rattle.ra_group.specs.Equations.{Frame, prev_of, hits_after, add_after, add_by, met, reset_by}
use Rattle.ra_group.specs.Bounds.{AddWithin}
use Rattle.ra_group.proofs.Carried.{settled_after}

-- a sum so far from 0 at most
pub record Within (most : ℕ) (sum : ℤ) : Type 0 where
  pub low : pos 0 ≤ℤ (sum +ℤ pos most)
  pub high : sum ≤ℤ pos most

-- what is seen before a condition has added so much at most, and its own hits fit
abbrev pub IsSmall : ℕ → Option Settled → Type 0
IsSmall most None = Unit {0}
IsSmall most (Some before) = Within most before.add × (before.hit < 2 ^ 32)

wider : (most more : ℕ) (sum : ℤ) → most ≤ more → Within most sum → Within more sum
wider most more sum l w = record { low = omega (arith, ints, w.low); high = omega (arith, ints, w.high) }

add_after-within : (flag : Flag) (sum : ℤ) (hit most : ℕ) → hit < 2 ^ 32 → Within most sum
    → Within (most + 2 ^ 32) (add_after flag sum hit)
add_after-within AddHits sum hit most l w =
    record { low = omega (arith, ints, w.low); high = omega (arith, ints, w.high) }
add_after-within SubHits sum hit most l w =
    record { low = omega (arith, ints, w.low); high = omega (arith, ints, w.high) }
add_after-within _ sum hit most l w = wider most (most + 2 ^ 32) sum (omega arith) w

pub add_by-within : (prev : Option Settled) (most : ℕ) → IsSmall most prev → Within (most + 2 ^ 32) (add_by prev)
add_by-within None most small = record { low = omega (arith, ints); high = omega (arith, ints) }
add_by-within (Some prev) most small = add_after-within prev.flag prev.add prev.hit most small.1 small.0

hits_after-small : (reset m : Bool) (target h : ℕ) → h < 2 ^ 32 → hits_after reset m target h < 2 ^ 32
hits_after-small reset m target h l = grind arith

small_either : (most : ℕ) (h c : Bool) (prev : Option Settled) (here : Settled) → IsSmall most prev
    → IsSmall most (Some here) → IsSmall most (cond h prev (cond c (Some here) None))
small_either most true c prev here small own = small
small_either most false true prev here small own = own
small_either most false false prev here small own = tt

small_wider : (most more : ℕ) (prev : Option Settled) → most ≤ more → IsSmall most prev → IsSmall more prev
small_wider most more None l small = tt
small_wider most more (Some prev) l small = (wider most more prev.add l small.0, small.1)

pub small-prev_of : (f : Frame) → ((k : ℕ) → slice_index f.hits k < 2 ^ 32) → (m : ℕ)
    → IsSmall (m * 2 ^ 32) (prev_of f m)
small-prev_of f small zero = tt
small-prev_of f small (suc m) =
    let most : m * 2 ^ 32 + 2 ^ 32 ≡ suc m * 2 ^ 32 = omega arith in
    let before = small-prev_of f small m in
    let c = condition_at f.conditions m in
    let own = add_by-within (prev_of f m) (m * 2 ^ 32) before in
    small_either (suc m * 2 ^ 32) (hands_on c.flag) (combines c.flag) (prev_of f m) (settled_after f (prev_of f m) m)
    (small_wider (m * 2 ^ 32) (suc m * 2 ^ 32) (prev_of f m) (omega arith) before) (
      wider (m * 2 ^ 32 + 2 ^ 32) (suc m * 2 ^ 32) (add_by (prev_of f m)) (omega arith) own,
      hits_after-small (reset_by (prev_of f m)) (met (prev_of f m)
          (slice_index_or f.truths m false)) c.target (slice_index f.hits m) (small m),
    )

-- what settling a condition asks of what is seen before it
pub AddWithin-prev_of : (f : Frame) → ((k : ℕ) → slice_index f.hits k < 2 ^ 32) → (m : ℕ)
    → m < 2 ^ 32 → AddWithin (2 ^ 65) (prev_of f m)
AddWithin-prev_of f small m l = from_small (prev_of f m) (m * 2 ^ 32) (omega arith) (small-prev_of f small m)
  where
    from_small : (prev : Option Settled) (most : ℕ) → most ≤ 2 ^ 65 → IsSmall most prev → AddWithin (2 ^ 65) prev
    from_small None most l small = tt
    from_small (Some prev) most l small = let w = wider most (2 ^ 65) prev.add l small.0 in (w.low, w.high)
