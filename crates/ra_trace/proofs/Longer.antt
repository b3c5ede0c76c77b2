-- What a refusal and a record say of more bytes behind.
use Rattle.std.proofs.Common.{◌≡◌, ℕ, ◌+◌, ◌-◌, ◌≤◌, ◌==◌, nat_lt, inl, inr, slice_index, length-append, Bool, true}
use Rattle.std.proofs.Common.{false, if◌then◌else◌, lt-ltb, le-ltb, ap, sym, subst, refl, ◌∙◌, arith, Option, None}
use Rattle.std.proofs.Common.{Some, List, [], ◌∷◌, ◌++◌, length, take, drop}
use Rattle.std.specs.Bool.{⊤}
use Rattle.std.proofs.lemmas.Bool.{cases_lt}
use Rattle.std.proofs.lemmas.List.{take-append-le, drop-append-le, length-drop}
use Rattle.ra_trace.specs.declared.error.Why.TheVariants.{Cut, PastMemory}
use Rattle.ra_trace.specs.Cutting.{place_in, count_in, write_refusal, save_refusal, restore_refusal, refusal, front}
use Rattle.ra_trace.specs.Entries.{Written, Saved, Restored}

-- nothing is there
abbrev IsNothing : {A : Type 0} → Option A → Type 0
IsNothing None = ⊤
IsNothing (Some x) = ⊥

-- a choice stays where each of its sides does that is taken
if_stays : {A : Type 0} (b : Bool) (x y x' y' : A) (P : A → Type 0) → (P x → x' ≡ x)
    → (P y → y' ≡ y) → P (if b then x else y) → (if b then x' else y') ≡ (if b then x else y)
if_stays true x y x' y' P first second p = first p
if_stays false x y x' y' P first second p = second p

-- a choice stays where each of its sides does that another choice by the same test allows
if_both : {A B : Type 0} (b : Bool) (x y : A) (u v u' v' : B) (P : A → Type 0) → (P x → u' ≡ u)
    → (P y → v' ≡ v) → P (if b then x else y) → (if b then u' else v') ≡ (if b then u else v)
if_both true x y u v u' v' P first second p = first p
if_both false x y u v u' v' P first second p = second p

-- the bytes of a write are there, behind its first one
record IsLong (rest : List ℕ) : Type 0 where
  fields : 6 ≤ length rest
  bytes : 6 + count_in rest ≤ length rest

write_is_long : (size : ℕ) (rest : List ℕ) → (write_refusal size rest ≡ Some Cut → ⊥) → IsLong rest
write_is_long size rest whole = elim (cases_lt (length rest) 6) [
  | inl short ↦ absurd (whole (rw (lt-ltb (length rest) 6 short) refl))
  | inr long ↦ elim (cases_lt (length rest) (6 + count_in rest)) [
    | inl short ↦ absurd (whole (rw (le-ltb (length rest) 6 long, lt-ltb (length rest) (6 + count_in rest) short) refl))
    | inr enough ↦ record { fields = long; bytes = enough }
  ]
]

-- the fields of a write stand in its first bytes
place_stays : (rest more : List ℕ) → 6 ≤ length rest → place_in (rest ++ more) ≡ place_in rest
place_stays rest more long = rw (take-append-le 4 rest more (omega (arith, long))) refl

count_stays : (rest more : List ℕ) → 6 ≤ length rest → count_in (rest ++ more) ≡ count_in rest
count_stays rest more long =
    let behind : drop 4 (rest ++ more) ≡ drop 4 rest ++ more = drop-append-le 4 rest more (omega (arith, long)) in
    let left : length (drop 4 rest) ≡ length rest - 4 = length-drop 4 rest in
    rw (behind, take-append-le 2 (drop 4 rest) more (omega (arith, left, long))) refl

-- a write that is whole is refused by its fields
write_by_fields : (size : ℕ) (rest : List ℕ) → IsLong rest → write_refusal size rest
    ≡ (if nat_lt size (place_in rest + count_in rest) then Some PastMemory else None)
write_by_fields size rest long = rw
    (le-ltb (length rest) 6 long.fields, le-ltb (length rest) (6 + count_in rest) long.bytes) refl

longer : (rest more : List ℕ) → IsLong rest → IsLong (rest ++ more)
longer rest more long = record {
  fields = rw (length-append rest more) (omega (arith, long.fields));
  bytes = rw (count_stays rest more long.fields, length-append rest more) (omega (arith, long.bytes));
}

write_stays : (size : ℕ) (rest more : List ℕ) → (write_refusal size rest ≡ Some Cut → ⊥)
    → write_refusal size (rest ++ more) ≡ write_refusal size rest
write_stays size rest more whole =
    let long = write_is_long size rest whole in
    rw (
      write_by_fields size (rest ++ more) (longer rest more long),
      write_by_fields size rest long,
      place_stays rest more long.fields,
      count_stays rest more long.fields,
    ) refl

save_stays : (rest more : List ℕ) → (save_refusal rest ≡ Some Cut → ⊥) → save_refusal (rest ++ more) ≡ save_refusal rest
save_stays [] more whole = absurd (whole refl)
save_stays (slot ∷ rest) more whole = refl

restore_stays : (filled : List Bool) (rest more : List ℕ) → (restore_refusal filled rest ≡ Some Cut
    → ⊥) → restore_refusal filled (rest ++ more) ≡ restore_refusal filled rest
restore_stays filled [] more whole = absurd (whole refl)
restore_stays filled (slot ∷ rest) more whole = refl

-- what is no want of bytes is the same with more bytes behind
pub refusal_stays : (size : ℕ) (filled : List Bool) (bytes more : List ℕ) → (refusal size filled
    bytes ≡ Some Cut → ⊥) → refusal size filled (bytes ++ more) ≡ refusal size filled bytes
refusal_stays size filled [] more whole = absurd (whole refl)
refusal_stays size filled (mark ∷ rest) more whole =
    if_stays (mark == 87) _ _ _ _ (λ why. why ≡ Some Cut → ⊥) (write_stays size rest more)
    (if_stays (mark == 83) _ _ _ _ (λ why. why ≡ Some Cut → ⊥) (save_stays rest more)
    (if_stays (mark == 82) _ _ _ _ (λ why. why ≡ Some Cut → ⊥) (restore_stays filled rest more) (λ _. refl))) whole

-- a write that is not refused is the same with more bytes behind
written_stays : (size : ℕ) (rest more : List ℕ) → write_refusal size rest ≡ None
    → Written (place_in (rest ++ more)) (take (count_in (rest ++ more)) (drop 6 (rest ++ more)))
    ≡ Written (place_in rest) (take (count_in rest) (drop 6 rest))
written_stays size rest more good =
    let long = write_is_long size rest (λ cut. subst IsNothing (sym good ∙ cut) tt) in
    let behind : drop 6 (rest ++ more) ≡ drop 6 rest ++ more = drop-append-le 6 rest more long.fields in
    let left : length (drop 6 rest) ≡ length rest - 6 = length-drop 6 rest in
    rw (
      place_stays rest more long.fields,
      count_stays rest more long.fields,
      behind,
      take-append-le (count_in rest) (drop 6 rest) more (omega (arith, left, long.bytes)),
    ) refl

slot_stays : (rest more : List ℕ) → (save_refusal rest ≡ None) → slice_index (rest ++ more) 0 ≡ slice_index rest 0
slot_stays [] more good = absurd (subst IsNothing (sym good) tt)
slot_stays (slot ∷ rest) more good = refl

restored_stays : (filled : List Bool) (rest more : List ℕ) → (restore_refusal filled rest ≡ None)
    → slice_index (rest ++ more) 0 ≡ slice_index rest 0
restored_stays filled [] more good = absurd (subst IsNothing (sym good) tt)
restored_stays filled (slot ∷ rest) more good = refl

-- a record that is not refused is the same with more bytes behind
pub front_stays : (size : ℕ) (filled : List Bool) (bytes more : List ℕ) → refusal size filled bytes
    ≡ None → front (bytes ++ more) ≡ front bytes
front_stays size filled [] more good = absurd (subst IsNothing (sym good) tt)
front_stays size filled (mark ∷ rest) more good =
    if_both (mark == 87) _ _ _ _ _ _ (λ why. why ≡ None) (written_stays size rest more)
    (if_both (mark == 83) _ _ _ _ _ _ (λ why. why ≡ None) (λ e. ap Saved (slot_stays rest more e))
    (if_both (mark == 82) _ _ _ _ _ _ (λ why. why ≡ None)
    (λ e. ap Restored (restored_stays filled rest more e)) (λ _. refl))) good
