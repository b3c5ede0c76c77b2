-- What a progress file says is an opening of its set.
use Rattle.std.proofs.Common.{arith, ◌≡◌, ◌<◌, ◌≤◌, ap, subst, ◌∙◌, ℕ, suc, List, [], ◌∷◌, length, take, slice_index}
use Rattle.std.proofs.Common.{Some, None}
use Rattle.std.proofs.lemmas.List.{take_all, length-take}
use Rattle.ra_memory.specs.Image.{AreBytes}
use Rattle.ra_set.specs.Contents.{SetContents}
use Rattle.ra_progress.specs.Contents.{ShapeContents}
use Rattle.ra_progress.specs.Laws.{IsShape}
use Rattle.ra_progress.specs.Layout.{length_of}
use Rattle.ra_progress.specs.Reading.{refusal}
use Rattle.ra_progress.specs.Saying.{says}
use Rattle.ra_progress.proofs.Checks.{none_accepted}
use Rattle.ra_meaning.specs.Earned.{earned_in}
use Rattle.ra_meaning.specs.Order.{shape_of}
use Rattle.ra_meaning.proofs.Openings.Snapshots.{is_shape, said_is_opening}
use Rattle.ra_session.specs.Expected.{progress_limit}
use Rattle.ra_session.specs.Loading.{AreAccepted, BeginsAt}
use Rattle.ra_session.specs.Playing.{IsPlayable}
use Rattle.ra_session.proofs.EarnedLemmas.{opened_with, opened_holds}

-- each byte is one
pub bytes_of : (bytes : List ℕ) → ((i : ℕ) → slice_index bytes i < 256) → AreBytes bytes
bytes_of [] small = tt
bytes_of (b ∷ bytes) small = (small 0, bytes_of bytes (λ i. small (suc i)))

-- the shape of a set that can be played, whose own bytes are no longer than a file may be
pub shape_fits : (set : SetContents) (shape : ShapeContents) → IsPlayable set → shape ≡ shape_of set
    → length_of shape ≤ 8388608 → IsShape (shape_of set)
shape_fits set shape playable is short =
    is_shape set playable.limits playable.spelled playable.named playable.digests
    (subst (λ (s : ShapeContents). length_of s ≤ 8388608) is short)

-- every accepted file has an opening, with no frames behind and what it has earned
pub says_begins : (set : SetContents) (bytes : List ℕ) → IsPlayable set
    → AreAccepted set (Some bytes) → BeginsAt set (Some bytes) (says (shape_of set) bytes) []
    (earned_in (says (shape_of set) bytes))
says_begins set bytes playable is =
    let ok = none_accepted (shape_of set) bytes is.2 in
    let opening = said_is_opening set bytes playable.limits playable.spelled playable.named is.1 ok in
    let said = says (shape_of set) bytes in
    (opening, tt, opened_holds set said opening, opened_with set said opening)

-- accepted bytes are not refused where a byte more may be read
pub whole_accepted : (set : SetContents) (bytes : List ℕ) → refusal (shape_of set) bytes ≡ None
    → refusal (shape_of set) (take progress_limit bytes) ≡ None
whole_accepted set bytes none =
    let most : length bytes ≤ 8388608 = (none_accepted (shape_of set) bytes none).whole.most in
    ap (refusal (shape_of set)) (take_all 8388609 bytes (omega (arith, most))) ∙ none

-- and so are bytes that were read so far, and no others
pub read_accepted : (set : SetContents) (bytes file : List ℕ) → bytes ≡ take progress_limit file
    → refusal (shape_of set) bytes ≡ None → bytes ≡ file
read_accepted set bytes file is none =
    let most : length bytes ≤ 8388608 = (none_accepted (shape_of set) bytes none).whole.most in
    is ∙ take_all 8388609 file (omega (arith, length-take 8388609 file, ap length is, most))
