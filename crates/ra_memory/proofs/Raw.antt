-- What a raw number is: bytes past the end are 0, and it fits its width.
use Rattle.std.proofs.Common.{refl, lit<, ◌≡◌, ℕ, zero, suc, ◌^◌, ◌<◌, ◌≤◌, List, [], ◌∷◌, length, get_or, arith}
use Rattle.std.proofs.lemmas.List.{get_or_past}
use Rattle.std.proofs.Math.Nat.{pow-suc}
use Rattle.ra_memory.specs.Image.{raw, AreBytes}

-- a byte of an image is below 256, past the end too
pub byte_below : (image : List ℕ) → AreBytes image → (at : ℕ) → get_or image at 0 < 256
byte_below [] bytes at = lit< tt
byte_below (b ∷ image) bytes zero = bytes.0
byte_below (b ∷ image) bytes (suc at) = byte_below image bytes.1 at

-- a raw number fits the bytes that it is read from
pub raw_below : (width : ℕ) (image : List ℕ) → AreBytes image → (at : ℕ) → raw width image at < 256 ^ width
raw_below zero image bytes at = lit< tt
raw_below (suc width) image bytes at =
    let here : get_or image at 0 < 256 = byte_below image bytes at in
    let rest = raw_below width image bytes (suc at) in
    rw pow-suc (omega arith)
