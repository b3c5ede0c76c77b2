-- A prior after one frame more, from the prior and the two numbers of its cell.
use Rattle.std.proofs.Common.{◌≡◌, ℕ, ◌==◌, Bool, true, false, not, if◌then◌else◌, cond, Option, Some, ◌∷◌, refl}
use Rattle.std.proofs.Common.{bit_and, List}
use Rattle.ra_memory.specs.Image.{History}
use Rattle.ra_indirect.specs.Trees.{Tracked}
use Rattle.ra_memref.specs.Values.{Start, latest, changes, before_change, prior_of, cell_number, tracked_number}
use Rattle.ra_memref.specs.Values.{masked_by}
use Rattle.ra_memref.specs.Pass.{prior_after}

step : (number : History → ℕ) (opened : ℕ) (image : List ℕ) (history : History)
    (rest : Option History) (b : Bool) → before_change number opened (if not b then Some
    (image ∷ history) else rest) ≡ cond b (before_change number opened rest) (number history)
step number opened image history rest true = refl
step number opened image history rest false = refl

-- a prior moves where the number differs from that of the frame before
pub prior_of-more : (number : History → ℕ) (opened : ℕ) (image : List ℕ) (history : History)
    → prior_of number opened (image ∷ history) ≡ cond (number (image ∷ history) == number history)
    (prior_of number opened history) (number history)
prior_of-more number opened image history =
    step number opened image history (latest (changes number) history) (number (image ∷ history) == number history)

pub tracked_number-more : (start : Start) (t : Tracked) (image : List ℕ) (history : History)
    → tracked_number start t (image ∷ history) ≡ prior_after t.mask (cell_number start t.cell
    history) (cell_number start t.cell (image ∷ history)) (tracked_number start t history)
tracked_number-more start t image history =
    prior_of-more (masked_by t.mask (cell_number start t.cell)) (start.prior t) image history

again : (p q : ℕ) (b : Bool) → cond b (cond b p q) q ≡ cond b p q
again p q true = refl
again p q false = refl

-- a prior that moved at a frame stays when it is moved again at that frame
pub prior_after-again : (mask before now prior : ℕ) → prior_after mask before now
    (prior_after mask before now prior) ≡ prior_after mask before now prior
prior_after-again mask before now prior = again prior (bit_and before mask) (bit_and now mask == bit_and before mask)
