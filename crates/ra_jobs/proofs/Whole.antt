-- A file that is read piece by piece.
use Rattle.std.proofs.Common.{arith, ◌≡◌, ◌≤◌, ap, sym, refl, ◌∙◌, ℕ, ◌+◌, List, ◌++◌, length, take, drop, Bool, false}
use Rattle.std.proofs.Common.{Option, Some, take-add, None, IfSome}
use Rattle.std.proofs.lemmas.List.{take_all}
use Rattle.ra_jobs.specs.Reading.{ReadsOn}

-- What was read so far is the front of the file, where its bytes are told.
pub record IsFront (content : Option (List ℕ)) (bytes : List ℕ) : Type 0 where
  pub front : (all : List ℕ) → content ≡ Some all → bytes ≡ take (length bytes) all

pub front_grows : (first now : Option (List ℕ)) (old new : List ℕ) (more : Bool) (n : ℕ) → now
    ≡ first → ReadsOn now old new more n → IsFront first old → IsFront first new
front_grows first now old new more n same reads is = record {
  front = λ all told.
      let joined : take (length old + n) all
      ≡ take (length old) all ++ take n (drop (length old) all) = take-add (length old) n all in
      reads.told all (same ∙ told) ∙ ap (λ front. front ++ take n (drop (length old) all))
      (is.front all told) ∙ sym joined ∙ ap (λ k. take k all) (sym reads.longer);
}

-- at the file's end, or at the limit, it is the front up to the limit
pub front_at_end : (first now : Option (List ℕ)) (old new : List ℕ) (more : Bool) (n limit : ℕ)
    → more ≡ false → now ≡ first → ReadsOn now old new more n → IsFront first old
    → length old ≤ limit → (all : List ℕ) → first ≡ Some all → new ≡ take limit all
front_at_end first now old new more n limit end same reads is within all told =
    let short : length all ≤ length old = reads.ends all (same ∙ told) end in
    let none : n ≡ 0 = reads.none end in
    let same_len : length new ≡ length old = omega (arith, reads.longer) in
    (front_grows first now old new more n same reads is).front all told
    ∙ take_all (length new) all (omega arith) ∙ sym (take_all limit all (omega arith))

pub if_some : {T : Type 0} (o : Option T) (P : T → Type 0) → ((x : T) → o ≡ Some x → P x) → IfSome o P
if_some None P h = tt
if_some (Some x) P h = h x refl
