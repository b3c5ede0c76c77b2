-- The bytes of a digest are bytes.
use Rattle.std.proofs.Common.{ℕ, zero, suc, ◌<◌, List, slice_index, arith}
use Rattle.std.specs.Int.{w32, to_le_bytes}
use Rattle.std.specs.List.{AllByRecursion}
use Rattle.md5.specs.Md5.{md5, digest_bytes}
use Rattle.ra_progress.proofs.Placed.{all_join}

word_bytes : (n : ℕ) → AllByRecursion (λ b. b < 256) (to_le_bytes w32 n)
word_bytes n = (omega arith, (omega arith, (omega arith, (omega arith, tt))))

bytes_of : (h : List ℕ) (n : ℕ) → AllByRecursion (λ b. b < 256) (digest_bytes h n)
unfolding digest_bytes
bytes_of h zero = tt
bytes_of h (suc n) =
    all_join (λ b. b < 256) (digest_bytes h n) (to_le_bytes w32 (slice_index h n)) (bytes_of h n)
    (word_bytes (slice_index h n))

pub md5_bytes : (m : List ℕ) → AllByRecursion (λ b. b < 256) (md5 m)
unfolding md5
md5_bytes m = bytes_of _ 4
