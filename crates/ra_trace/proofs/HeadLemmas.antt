-- Heads of records.
use Rattle.std.proofs.Common.{arith, ◌≡◌, ap, sym, refl, ℕ, ◌+◌, ◌≤◌, List, length, take, drop}
use Rattle.std.proofs.lemmas.List.{length-take-le, length-drop}
use Rattle.ra_trace.specs.declared.head.Head.TheVariants as heads
use Rattle.ra_trace.specs.Entries.{Entry, Written, Framed, Saved, Restored, Shown, Ended, entry_bytes}
use Rattle.ra_trace.specs.Cutting.{place_in, count_in}
use Rattle.ra_trace.specs.Heads.{head_length, head_of}

-- a head is as long as its record
pub entry_length : (entry : Entry) → head_length (head_of entry) ≡ length (entry_bytes entry)
entry_length (Written at bytes) = omega arith
entry_length Framed = refl
entry_length (Saved slot) = refl
entry_length (Restored slot) = refl
entry_length Shown = refl
entry_length Ended = refl

-- the head of a frame is of no other record
pub framed_head : (entry : Entry) → heads.Frame ≡ head_of entry → entry ≡ Framed
framed_head Framed is = refl
framed_head (Written at bytes) is = let bad : heads.Frame ≡ heads.Write at (length bytes) = is in absurd (cc)
framed_head (Saved slot) is = let bad : heads.Frame ≡ heads.Save slot = is in absurd (cc)
framed_head (Restored slot) is = let bad : heads.Frame ≡ heads.Restore slot = is in absurd (cc)
framed_head Shown is = let bad : heads.Frame ≡ heads.Show = is in absurd (cc)
framed_head Ended is = let bad : heads.Frame ≡ heads.End = is in absurd (cc)
