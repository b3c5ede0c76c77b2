-- The records of a workload's trace, one after the other.
use Rattle.std.proofs.Common.{◌≡◌, ℕ, zero, suc, ◌+◌, ◌*◌, ◌^◌, ◌-◌, ◌<◌, ◌≤◌, ◌%◌, ap, refl, ◌∙◌, sym, arith}
use Rattle.std.proofs.Common.{append_assoc, append-nil, List, [], ◌∷◌, ◌++◌}
use Rattle.std.specs.List.{flat_map}
use Rattle.std.proofs.lemmas.Grind.{flat_map-append}
use Rattle.ra_trace.specs.Entries.{Entry, Written, Framed, Ended, entry_bytes, header_bytes}
use Rattle.ra_trace.specs.Workload.{drawn, given, drawn_times, writes, after_frame, frames, made_entries, made_trace}
use Rattle.ra_trace.specs.Writing.{WriterSeen, with_record, with_records}

-- records in two parts
pub in_parts : (writer : WriterSeen) (first second : List Entry)
    → with_records (with_records writer first) second ≡ with_records writer (first ++ second)
in_parts writer first second =
    ap (λ bytes. record { size = writer.size; bytes = bytes })
    (append_assoc writer.bytes (flat_map entry_bytes first) (flat_map entry_bytes second)
    ∙ ap (λ more. writer.bytes ++ more) (sym (flat_map-append entry_bytes first second)))

-- a record before others
pub one_before : (writer : WriterSeen) (entry : Entry) (others : List Entry)
    → with_records (with_record writer entry) others ≡ with_records writer (entry ∷ others)
one_before writer entry others = ap (λ bytes. record { size = writer.size; bytes = bytes })
    (append_assoc writer.bytes (entry_bytes entry) (flat_map entry_bytes others))

-- no records
pub none_more : (writer : WriterSeen) → with_records writer [] ≡ writer
none_more writer = ap (λ bytes. record { size = writer.size; bytes = bytes }) (append-nil writer.bytes)

-- what comes after writes may be put behind them
pub writes_before : (n x : ℕ) (after : List Entry) → writes n x after ≡ writes n x [] ++ after
unfolding writes
writes_before zero x after = refl
writes_before (suc n) x after = ap (λ more. Written (given (drawn x))
    (given (drawn_times 2 x) % 256 ∷ []) ∷ more) (writes_before n (drawn_times 2 x) after)

-- a frame with its writes, and the frames behind it
pub next_frame : (count f x y : ℕ) (old written framed new whole : WriterSeen) → f < count → written
    ≡ with_records old (writes 8 x []) → framed ≡ with_record written Framed
    → new ≡ with_records framed (after_frame f []) → y ≡ drawn_times 16 x → with_records old
    (frames (count - f) f x) ≡ whole → with_records new (frames (count - (f + 1)) (f + 1) y) ≡ whole
unfolding frames
next_frame count f x y old written framed new whole below is_written is_framed is_new is_y left =
    let one : count - f ≡ suc (count - (f + 1)) = omega arith in
    let behind = frames (count - (f + 1)) (f + 1) (drawn_times 16 x) in
    let same : after_frame f [] ++ behind ≡ after_frame f behind = append_assoc _ [] behind in
    rw (is_new, is_framed, is_written, is_y)
    (in_parts _ (after_frame f []) behind
    ∙ ap (with_records (with_record (with_records old (writes 8 x [])) Framed)) same
    ∙ one_before (with_records old (writes 8 x [])) Framed (after_frame f behind)
    ∙ in_parts old (writes 8 x []) (Framed ∷ after_frame f behind)
    ∙ ap (with_records old) (sym (writes_before 8 x (Framed ∷ after_frame f behind)))
    ∙ ap (λ n. with_records old (frames n f x)) (sym one)
    ∙ left)

-- the first write of those that are left
pub next_write : (count i x y z at value : ℕ) (old new whole : WriterSeen) → i < count → new
    ≡ with_record old (Written at (value % 256 ∷ [])) → at ≡ given (drawn x) → value
    ≡ given (drawn y) → y ≡ drawn x → z ≡ drawn y
    → with_records old (writes (count - i) x []) ≡ whole → with_records new (writes (count - (i + 1)) z []) ≡ whole
unfolding writes
next_write count i x y z at value old new whole below is_new is_at is_value is_y is_z left =
    let one : count - i ≡ suc (count - (i + 1)) = omega arith in
    rw (is_new, is_at, is_value, is_z, is_y)
    (one_before old (Written (given (drawn x)) (given (drawn (drawn x)) % 256 ∷ [])) (writes (count
    - (i + 1)) (drawn (drawn x)) []) ∙ ap (λ n. with_records old (writes n x [])) (sym one) ∙ left)

-- the first two draws of those that are left
pub two_draws : (count i x y z whole : ℕ) → i < count → y ≡ drawn x → z ≡ drawn y
    → drawn_times (2 * (count - i)) x ≡ whole → drawn_times (2 * (count - (i + 1))) z ≡ whole
two_draws count i x y z whole below is_y is_z left =
    let more : 2 * (count - i) ≡ suc (suc (2 * (count - (i + 1)))) = omega arith in
    rw (is_z, is_y) (ap (λ n. drawn_times n x) (sym more) ∙ left)

-- no write is left
pub no_write : (count i x : ℕ) (old whole : WriterSeen) → count ≤ i
    → with_records old (writes (count - i) x []) ≡ whole → old ≡ whole
unfolding writes
no_write count i x old whole done left =
    let none : count - i ≡ 0 = omega arith in
    sym (none_more old) ∙ ap (λ n. with_records old (writes n x [])) (sym none) ∙ left

-- no draw is left
pub no_draw : (count i x whole : ℕ) → count ≤ i → drawn_times (2 * (count - i)) x ≡ whole → x ≡ whole
no_draw count i x whole done left =
    let none : 2 * (count - i) ≡ 0 = omega arith in
    ap (λ n. drawn_times n x) (sym none) ∙ left

-- no frame is left: the end record
pub no_frame : (count f x : ℕ) (old whole : WriterSeen) → count ≤ f
    → with_records old (frames (count - f) f x) ≡ whole → with_record old Ended ≡ whole
unfolding frames
no_frame count f x old whole done left =
    let none : count - f ≡ 0 = omega arith in
    ap (λ n. with_records old (frames n f x)) (sym none) ∙ left

-- the bytes behind the last frame
pub made_whole : (number x : ℕ) (first last : WriterSeen) (bytes : List ℕ) → x
    ≡ (number + 1) % 2 ^ 32 → first ≡ record { size = 65536; bytes = header_bytes 65536 }
    → bytes ≡ last.bytes ++ entry_bytes Ended → with_record last Ended
    ≡ with_records first (frames 4096 0 x) → bytes ≡ made_trace number
unfolding made_trace made_entries
made_whole number x first last bytes is_x is_first is_bytes all =
    is_bytes ∙ ap (λ w. w.bytes) all ∙ ap (λ w. w.bytes ++ flat_map entry_bytes (frames 4096 0 x))
    is_first ∙ ap (λ x. header_bytes 65536 ++ flat_map entry_bytes (frames 4096 0 x)) is_x
