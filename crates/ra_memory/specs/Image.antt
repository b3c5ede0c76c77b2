-- Images, and the history of a run: docs/DEFINITIONS.md, "Images and histories". An image is a list of bytes.
use Rattle.std.specs.Prelude.{◌≡◌, ◌⊎◌, ℕ, zero, suc, ◌+◌, ◌*◌, ◌<◌, List, ◌++◌, length, take, drop, slice_index}
use Rattle.std.specs.List.{AllByRecursion}

-- the images of the frames that lie behind, the newest first: `image ∷ history` has one image more, and `later ++
-- earlier` went on
abbrev pub History : Type 0
History = List (List ℕ)

-- the little-endian number of this many bytes from the place on, with 0 for a byte past the end
abbrev pub raw : ℕ → List ℕ → ℕ → ℕ
raw zero image at = 0
raw (suc width) image at = slice_index image at + 256 * raw width image (suc at)

-- a read takes this many bytes: 1, 2 or 4
abbrev pub IsReadWidth : ℕ → Type 0
IsReadWidth width = (width ≡ 1) ⊎ ((width ≡ 2) ⊎ (width ≡ 4))

-- an image after a write that fits
abbrev pub written : List ℕ → ℕ → List ℕ → List ℕ
written image at bytes = take at image ++ (bytes ++ drop (at + length bytes) image)

-- each is a number from 0 to 255
abbrev pub AreBytes : List ℕ → Type 0
AreBytes bytes = AllByRecursion (λ b. b < 256) bytes

-- each image of the history is of bytes
abbrev pub AreImages : History → Type 0
AreImages history = AllByRecursion AreBytes history
