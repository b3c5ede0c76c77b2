use Rattle.std.proofs.Common.{◌≡◌, ℕ, suc, [], ◌∷◌, w32, ◌+◌, ◌<◌, get_or, bit_and, slice_index_or, ap, ap₂, ◌∙◌, arith}
use Rattle.std.specs.Int.{from_le_bytes}
use Rattle.ra_memory.specs.Image.{raw}
use Rattle.ra_banks.proofs.Masks.{masks, masked, first_bytes}
use Rattle.ra_banks.proofs.bank.number_within.Goals as goal

pub returns : goal.returns
returns c =
    let fit : (k : ℕ) → get_or c.args.bytes.now k 0 < 256 = λ k. (let one = c.type_inv.bytes k in omega (arith, one)) in
    let bytes = c.args.bytes.now in
    let at = c.args.at in
    let one : at + 1 ≡ suc at = omega arith in
    let two : at + 2 ≡ suc (suc at) = omega arith in
    let three : at + 3 ≡ suc (suc (suc at)) = omega arith in
    let four : c.from_le_bytes.result ≡ raw 4 bytes at = c.from_le_bytes.ensures
    ∙ ap (λ k. from_le_bytes w32 (get_or bytes at 0 ∷ get_or bytes k 0 ∷ get_or bytes (at + 2) 0
    ∷ get_or bytes (at + 3) 0 ∷ [])) one
    ∙ ap (λ k. from_le_bytes w32 (get_or bytes at 0 ∷ get_or bytes (suc at) 0 ∷ get_or bytes k 0
    ∷ get_or bytes (at + 3) 0 ∷ [])) two
    ∙ ap (λ k. from_le_bytes w32 (get_or bytes at 0 ∷ get_or bytes (suc at) 0
    ∷ get_or bytes (suc (suc at)) 0 ∷ get_or bytes k 0 ∷ [])) three
    ∙ omega arith in
    ap₂ (λ n w. bit_and n (slice_index_or masks w 0)) four c.from.ensures
    ∙ masked (raw 4 c.args.bytes.now c.args.at) c.args.width c.requires.width
    ∙ first_bytes c.args.bytes.now c.args.at fit c.args.width c.requires.width
