-- The bytes of slices and of banks are bytes.
use Rattle.std.proofs.Common.{◌≡◌, ◌<◌, ◌∙◌, ℕ, suc, List, [], ◌∷◌, ◌++◌, sym, ap, subst}
use Rattle.std.proofs.Common.{length, take, get_or, slice_index}
use Rattle.std.proofs.Math.Seq.{take-suc}
use Rattle.std.proofs.lemmas.Grind.{flat_map-append}
use Rattle.std.proofs.lemmas.List.{append-nil}
use Rattle.ra_memory.specs.Image.{AreBytes}
use Rattle.ra_banks.specs.Banks.{bytes_of}
use Rattle.ra_banks.specs.declared.bank.Bank.{Bank}

-- each byte is one
pub all_bytes : (bytes : List ℕ) → ((i : ℕ) → slice_index bytes i < 256) → AreBytes bytes
all_bytes [] small = tt
all_bytes (b ∷ bytes) small = (small 0, all_bytes bytes (λ i. small (suc i)))

more_bytes : (bytes more : List ℕ) → AreBytes bytes → AreBytes more → AreBytes (bytes ++ more)
more_bytes [] more are these = these
more_bytes (b ∷ bytes) more are these = (are.0, more_bytes bytes more are.1 these)

-- those of one bank more are
pub bank_more : (banks : List Bank) (k : ℕ) (none : Bank) → k < length banks → AreBytes (bytes_of (take k banks))
    → AreBytes (get_or banks k none).bytes.now → AreBytes (bytes_of (take (suc k) banks))
bank_more banks k none within are these =
    let one = get_or banks k none in
    let front = bytes_of (take k banks) in
    let whole : bytes_of (take (suc k) banks) ≡ front ++ one.bytes.now =
    ap bytes_of (take-suc banks k none within)
    ∙ flat_map-append (λ (bank : Bank). bank.bytes.now) (take k banks) (one ∷ [])
    ∙ ap (λ (bytes : List ℕ). front ++ bytes) (append-nil one.bytes.now) in
    subst AreBytes (sym whole) (more_bytes front one.bytes.now are these)
