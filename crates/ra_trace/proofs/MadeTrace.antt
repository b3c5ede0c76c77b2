-- A workload's trace reaches its end, and restores filled slots only.
use Rattle.std.proofs.Common.{◌≡◌, ℕ, zero, suc, ◌+◌, ◌-◌, ◌*◌, ◌/◌, ◌%◌, ◌^◌, ◌<◌, ◌≤◌, ◌==◌, if◌then◌else◌, Bool}
use Rattle.std.proofs.Common.{true, false, inl, inr, ap, sym, subst, refl, ◌∙◌, arith, append_assoc, append-nil}
use Rattle.std.proofs.Common.{length-append, length-set, List, [], ◌∷◌, ◌++◌, length, slice_index_or, slice_set}
use Rattle.std.specs.List.{flat_map, AllByRecursion as ByRecursion}
use Rattle.std.proofs.lemmas.Bool.{cases_lt, eqb-true}
use Rattle.std.proofs.lemmas.Grind.{flat_map-append}
use Rattle.std.proofs.lemmas.List.Elements.{All-from_recursion}
use Rattle.ra_trace.specs.Entries.{Entry, Written, Framed, Saved, Restored, Shown, Ended, entry_bytes, trace_bytes}
use Rattle.ra_trace.specs.Cutting.{Reached, no_slots, trace_of}
use Rattle.ra_trace.specs.Rules.{Fits, AllTakeFilled}
use Rattle.ra_trace.specs.Workload.{drawn, given, drawn_times, writes, after_frame, frames, made_entries, made_trace}
use Rattle.ra_trace.proofs.CutBack.{trace_cut}

-- a draw gives 16 bits
given_small : (x : ℕ) → given (drawn x) < 65536
unfolding drawn
given_small x = omega arith

-- the frames without the end
before_end : ℕ → ℕ → ℕ → List Entry
before_end zero f x = []
before_end (suc more) f x = writes 8 x (Framed ∷ after_frame f (before_end more (f + 1) (drawn_times 16 x)))

-- writes leave what stands behind
writes_behind : (n x : ℕ) (first second : List Entry) → writes n x (first ++ second) ≡ writes n x first ++ second
unfolding writes
writes_behind zero x first second = refl
writes_behind (suc n) x first second = ap (λ more. Written (given (drawn x))
    (given (drawn_times 2 x) % 256 ∷ []) ∷ more) (writes_behind n (drawn_times 2 x) first second)

-- the end stands behind the frames
ends : (n f x : ℕ) → frames n f x ≡ before_end n f x ++ Ended ∷ []
unfolding frames before_end
ends zero f x = refl
ends (suc n) f x =
    let more = before_end n (f + 1) (drawn_times 16 x) in
    ap (λ more. writes 8 x (Framed ∷ after_frame f more)) (ends n (f + 1) (drawn_times 16 x))
    ∙ ap (λ more. writes 8 x (Framed ∷ more)) (sym (append_assoc _ more (Ended ∷ [])))
    ∙ writes_behind 8 x (Framed ∷ after_frame f more) (Ended ∷ [])

-- writes fit
writes_fit : (n x : ℕ) (after : List Entry) → ByRecursion (Fits 65536) after
    → ByRecursion (Fits 65536) (writes n x after)
unfolding writes
writes_fit zero x after fit = fit
writes_fit (suc n) x after fit = ((omega (arith, given_small x), omega arith), writes_fit n (drawn_times 2 x) after fit)

-- what may follow a frame fits
behind_fits : (saves shows : Bool) (slot : ℕ) (after : List Entry) → slot ≤ 15 → ByRecursion (Fits 65536) after
    → ByRecursion (Fits 65536) (((if saves then Saved slot ∷ [] else [])
    ++ (if shows then Shown ∷ Restored 0 ∷ [] else [])) ++ after)
behind_fits true true slot after small fit = (small, (tt, (omega arith, fit)))
behind_fits true false slot after small fit = (small, fit)
behind_fits false true slot after small fit = (tt, (omega arith, fit))
behind_fits false false slot after small fit = fit

all_fit : (n f x : ℕ) → ByRecursion (Fits 65536) (before_end n f x)
unfolding before_end
all_fit zero f x = tt
all_fit (suc n) f x = writes_fit 8 x _ (
  tt,
  behind_fits (f % 64 == 63) (f % 512 == 511) (f / 64 % 16) _ (omega arith) (all_fit n (f + 1) (drawn_times 16 x)),
)

-- the slots that are filled after a frame
after_save : Bool → ℕ → List Bool → List Bool
after_save saves slot filled = if saves then slice_set filled slot true else filled

-- of the sixteen slots the first is filled from frame 64 on
record IsReady (f : ℕ) (filled : List Bool) : Type 0 where
  long : length filled ≡ 16
  first : 64 ≤ f → slice_index_or filled 0 false ≡ true

-- a filled slot stays so
stays_filled : (saves : Bool) (slot : ℕ) (filled : List Bool) → slice_index_or filled 0 false ≡ true
    → slice_index_or (after_save saves slot filled) 0 false ≡ true
unfolding after_save
stays_filled false slot filled is = is
stays_filled true slot [] is = is
stays_filled true zero (b ∷ filled) is = refl
stays_filled true (suc slot) (b ∷ filled) is = is

-- the first slot is filled
fills_first : (filled : List Bool) → length filled ≡ 16 → slice_index_or (slice_set filled 0 true) 0 false ≡ true
fills_first [] long = absurd (omega (arith, long))
fills_first (b ∷ filled) long = refl

same_length : (saves : Bool) (slot : ℕ) (filled : List Bool) → length (after_save saves slot filled) ≡ length filled
unfolding after_save
same_length true slot filled = length-set filled slot true
same_length false slot filled = refl

ready_next : (f : ℕ) (filled : List Bool) → IsReady f filled
    → IsReady (f + 1) (after_save (f % 64 == 63) (f / 64 % 16) filled)
unfolding after_save
ready_next f filled ready = record {
  long = same_length (f % 64 == 63) (f / 64 % 16) filled ∙ ready.long;
  first = λ late. elim (cases_lt f 64) [
    | inl early ↦ (let now : 63 ≡ f = omega arith in subst (λ f. slice_index_or (after_save
        (f % 64 == 63) (f / 64 % 16) filled) 0 false ≡ true) now (fills_first filled ready.long))
    | inr before ↦ stays_filled (f % 64 == 63) (f / 64 % 16) filled (ready.first before)
  ];
}

-- writes restore nothing
writes_take : (n x : ℕ) (filled : List Bool) (after : List Entry) → AllTakeFilled filled after
    → AllTakeFilled filled (writes n x after)
unfolding writes
writes_take zero x filled after taken = taken
writes_take (suc n) x filled after taken = (tt, writes_take n (drawn_times 2 x) filled after taken)

-- what may follow a frame restores the first slot alone
behind_takes : (saves shows : Bool) (slot : ℕ) (filled : List Bool) (after : List Entry)
    → (shows ≡ true → slice_index_or (after_save saves slot filled) 0 false ≡ true)
    → AllTakeFilled (after_save saves slot filled) after → AllTakeFilled filled (((if saves
    then Saved slot ∷ [] else []) ++ (if shows then Shown ∷ Restored 0 ∷ [] else [])) ++ after)
unfolding after_save
behind_takes true true slot filled after first taken = (tt, (tt, (first refl, taken)))
behind_takes true false slot filled after first taken = (tt, taken)
behind_takes false true slot filled after first taken = (tt, (first refl, taken))
behind_takes false false slot filled after first taken = taken

all_take : (n f x : ℕ) (filled : List Bool) → IsReady f filled → AllTakeFilled filled (before_end n f x)
unfolding before_end
all_take zero f x filled ready = tt
all_take (suc n) f x filled ready =
    let next = ready_next f filled ready in
    writes_take 8 x filled _ (
      tt,
      behind_takes (f % 64 == 63) (f % 512 == 511) (f / 64 % 16) filled _
          (λ shows. next.first (let late : f % 512 ≡ 511 = eqb-true (f % 512) 511 shows in omega arith))
          (all_take n (f + 1) (drawn_times 16 x) _ next),
    )

-- a trace of so many frames is cut up to its end
frames_cut : (n x : ℕ) → trace_of (trace_bytes 65536 (frames n 0 x))
    ≡ record { size = 65536; entries = frames n 0 x; stop = Reached (length (trace_bytes 65536 (frames n 0 x)) - 1) }
frames_cut n x =
    let before = before_end n 0 x in
    let ready : IsReady 0 no_slots = record { long = refl; first = λ late. absurd (omega (arith, late)) } in
    let cut = trace_cut no_slots 65536 before [] (omega arith)
    (All-from_recursion (Fits 65536) before (all_fit n 0 x)) (all_take n 0 x no_slots ready) in
    let last : length (trace_bytes 65536 before) ≡ length (trace_bytes 65536 (before ++ Ended ∷ [])) - 1
    = omega (
      arith,
      ap length (flat_map-append entry_bytes before (Ended ∷ [])),
      length-append (flat_map entry_bytes before) (69 ∷ []),
    ) in
    subst (λ entries. trace_of (trace_bytes 65536 entries)
    ≡ record {
      size = 65536;
      entries = entries;
      stop = Reached (length (trace_bytes 65536 entries) - 1);
    }) (sym (ends n 0 x))
    (ap trace_of (sym (append-nil (trace_bytes 65536 (before ++ Ended ∷ [])))) ∙ cut
    ∙ ap (λ at. record { size = 65536; entries = before ++ Ended ∷ []; stop = Reached at }) last)

pub made_cut : (number : ℕ) → trace_of (made_trace number) ≡ record
    { size = 65536; entries = made_entries number; stop = Reached (length (made_trace number) - 1) }
unfolding made_trace made_entries
made_cut number = frames_cut 4096 ((number + 1) % 2 ^ 32)

-- how many bytes writes take
writes_length : (n x : ℕ) (after : List Entry) → length (flat_map entry_bytes (writes n x after))
    ≡ 8 * n + length (flat_map entry_bytes after)
unfolding writes
writes_length zero x after = omega arith
writes_length (suc n) x after = omega (arith, writes_length n (drawn_times 2 x) after)

-- and what may follow a frame, at most
behind_length : (saves shows : Bool) (slot : ℕ) (after : List Entry)
    → length (flat_map entry_bytes (((if saves then Saved slot ∷ [] else []) ++ (if shows
    then Shown ∷ Restored 0 ∷ [] else [])) ++ after)) ≤ 5 + length (flat_map entry_bytes after)
behind_length true true slot after = omega arith
behind_length true false slot after = omega arith
behind_length false true slot after = omega arith
behind_length false false slot after = omega arith

frames_length : (n f x : ℕ) → length (flat_map entry_bytes (frames n f x)) ≤ 70 * n + 1
unfolding frames
frames_length zero f x = omega arith
frames_length (suc n) f x =
    let behind = frames n (f + 1) (drawn_times 16 x) in
    omega (
      arith,
      writes_length 8 x (Framed ∷ after_frame f behind),
      behind_length (f % 64 == 63) (f % 512 == 511) (f / 64 % 16) behind,
      frames_length n (f + 1) (drawn_times 16 x),
    )

pub made_short : (number : ℕ) → length (made_trace number) ≤ 2 ^ 19
unfolding made_trace made_entries
made_short number = omega (arith, frames_length 4096 0 ((number + 1) % 2 ^ 32))
