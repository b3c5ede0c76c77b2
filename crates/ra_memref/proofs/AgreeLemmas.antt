-- When a table agrees with an image.
use Rattle.std.proofs.Common.{◌≡◌, ℕ, ◌+◌, ◌≤◌, true, false, List, ◌++◌, length, replicate, take, drop, get_or, ap, sym}
use Rattle.std.proofs.Common.{◌∙◌, arith, length-append, subst}
use Rattle.std.proofs.lemmas.List.{length-take-le}
use Rattle.std.proofs.lemmas.List.{append_assoc}
use Rattle.std.proofs.Math.Seq.{take-append_seam, drop-append_seam}
use Rattle.ra_memory.specs.Image.{written}
use Rattle.ra_memory.proofs.Written.{length-written}
use Rattle.ra_memref.specs.Table.{TableSeen, Agrees, DifferWithin}
use Rattle.ra_memref.proofs.MarkLemmas.{never_unmarked}

-- a table of which each cell is marked agrees with every image
pub Agrees-marked : (table : TableSeen) (image : List ℕ) (n : ℕ) → table.marked ≡ replicate n true → Agrees table image
Agrees-marked table image n all k within unmarked =
    absurd (never_unmarked n k (subst (λ ms. get_or ms k true ≡ false) all unmarked))

-- a write that fits changes the written bytes alone
pub DifferWithin-written : (image bytes : List ℕ) (at : ℕ) → at + length bytes ≤ length image
    → DifferWithin at (length bytes) image (written image at bytes)
DifferWithin-written image bytes at fits =
    let front : length (take at image) ≡ at = length-take-le at image (omega arith) in
    let both : length (take at image ++ bytes) ≡ at + length bytes =
    omega (arith, length-append (take at image) bytes, front) in
    record {
      size = length-written image bytes at fits;
      below = ap (λ n. take n (written image at bytes)) (sym front)
          ∙ take-append_seam (take at image) (bytes ++ drop (at + length bytes) image);
      above = ap (drop (at + length bytes)) (sym
          (append_assoc (take at image) bytes (drop (at + length bytes) image)))
          ∙ ap (λ n. drop n ((take at image ++ bytes) ++ drop (at + length bytes) image)) (sym both)
          ∙ drop-append_seam (take at image ++ bytes) (drop (at + length bytes) image);
    }
