-- The text of a presence line is what is shown.
use Rattle.std.proofs.Common.{◌≡◌, ℕ, ◌-◌, ◌<◌, Bool, true, false, Option, None, Some, List, [], ◌∷◌, ◌++◌, length}
use Rattle.std.proofs.Common.{take, drop, codes, decimal, refl, sym, ap, ◌∙◌, arith, length-append, cond}
use Rattle.std.specs.Prelude.{nat_lt, slice_range}
use Rattle.std.proofs.Math.Seq.{take-append_seam, drop-append_seam}
use Rattle.std.proofs.lemmas.Bool.{lt-ltb, ltb-true}
use Rattle.std.proofs.lemmas.List.{append_assoc}
use Rattle.ra_memory.specs.Image.{History}
use Rattle.ra_memref.specs.Values.{Start}
use Rattle.ra_richpresence.specs.Contents.{ScriptContents}
use Rattle.ra_progress.specs.Contents.{KeptPresence}
use Rattle.ra_meaning.specs.LineOf.{line_of}
use Rattle.ra_meaning.specs.Play.{shown_by}
use Rattle.ra_meaning.specs.Presence.{presence_text}
use Rattle.ra_display.proofs.ShownWords.{shown_words}
use Rattle.ra_calls.specs.Shows.{head_of, text_in, text_after}

-- what stands behind some bytes and before a line feed
between : (head text : List ℕ) → slice_range (head ++ (text ++ 10 ∷ [])) (length head)
    (length (head ++ (text ++ 10 ∷ [])) - 1) ≡ text
between head text =
    let whole = length-append head (text ++ 10 ∷ []) in
    let tail = length-append text (10 ∷ []) in
    let long : (length (head ++ (text ++ 10 ∷ [])) - 1) - length head ≡ length text = omega (arith, whole, tail) in
    ap (λ n. take n (drop (length head) (head ++ (text ++ 10 ∷ [])))) long
    ∙ ap (take (length text)) (drop-append_seam head (text ++ 10 ∷ []))
    ∙ take-append_seam text (10 ∷ [])

-- there is a line feed at least
within : (head text : List ℕ) → nat_lt (length head) (length (head ++ (text ++ 10 ∷ []))) ≡ true
within head text =
    let whole = length-append head (text ++ 10 ∷ []) in
    let tail = length-append text (10 ∷ []) in
    let below : length head < length (head ++ (text ++ 10 ∷ [])) = omega (arith, whole, tail) in
    lt-ltb _ _ below

pub cut : (head text : List ℕ) → text_in (length head) (head ++ (text ++ 10 ∷ [])) ≡ text
cut head text =
    let line = head ++ (text ++ 10 ∷ []) in
    ap (λ b. cond b (slice_range line (length head) (length line - 1)) []) (within head text) ∙ between head text

-- there is no text in an empty line
nothing_in : (n : ℕ) → text_in n [] ≡ []
nothing_in n = by_test (nat_lt n 0) refl
  where
    by_test : (b : Bool) → nat_lt n 0 ≡ b → cond b (slice_range {X = ℕ} [] n (0 - 1)) [] ≡ []
    by_test true is = let below : n < 0 = ltb-true n 0 is in absurd (omega (arith, below))
    by_test false is = refl

-- the line is the head, the text and a line feed
line_is : (count : ℕ) (text : List ℕ) → line_of (codes "presence" ∷ decimal count ∷ text ∷ [])
    ≡ head_of count ++ (text ++ 10 ∷ [])
line_is count text = sym (shown_words (decimal count) text) ∙ append_assoc (head_of count) text (10 ∷ [])

-- the text of the line that is shown
pub shown_cut : (count : ℕ) (head : List ℕ) (start : Start) (history : History)
    (script : Option ScriptContents) (opened : Option KeptPresence) → head ≡ head_of count
    → text_in (length head) (shown_by start count history script opened) ≡ text_after start history script opened
shown_cut count head start history None opened is = nothing_in (length head)
shown_cut count head start history (Some script) None is = nothing_in (length head)
shown_cut count head start history (Some script) (Some opened) is =
    let text = presence_text start script opened history in
    ap (λ (h : List ℕ). text_in (length h) (line_of (codes "presence" ∷ decimal count ∷ text ∷ []))) is
    ∙ ap (text_in (length (head_of count))) (line_is count text)
    ∙ cut (head_of count) text
