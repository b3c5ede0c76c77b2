-- A record at which nothing is refused lies within the memory and the slots.
use Rattle.std.proofs.Common.{arith, ◌≡◌, ◌≤◌, ◌+◌, ◌==◌, ℕ, refl, length, take, drop, slice_index, nat_lt}
use Rattle.std.proofs.Common.{if◌then◌else◌, Bool, true, false, Option, Some, None, List, [], ◌∷◌}
use Rattle.std.proofs.lemmas.Bool.Decides.{nat_tests}
use Rattle.std.proofs.lemmas.List.{length-take}
use Rattle.ra_trace.specs.declared.error.Why.{Why}
use Rattle.ra_trace.specs.declared.error.Why.TheVariants.{Cut, PastMemory, Slot}
use Rattle.ra_trace.specs.Cutting.{place_in, count_in, write_refusal, save_refusal, restore_refusal, refusal, front}
use Rattle.ra_trace.specs.Reading.{LiesWithin}

-- a refusal that does not come
none_of : (b : Bool) (why : Why) (next : Option Why) → (if b then Some why else next) ≡ None
    → (b ≡ false) × (next ≡ None)
none_of true why next none = let bad : Some why ≡ None = none in absurd (cc)
none_of false why next none = (refl, none)

write_lies : (size : ℕ) (rest : List ℕ) → write_refusal size rest ≡ None
    → place_in rest + length (take (count_in rest) (drop 6 rest)) ≤ size
write_lies size rest none =
    let fields = none_of (nat_lt (length rest) 6) Cut _ none in
    let bytes = none_of (nat_lt (length rest) (6 + count_in rest)) Cut _ fields.1 in
    let inside = none_of (nat_lt size (place_in rest + count_in rest)) PastMemory None bytes.1 in
    let within : place_in rest + count_in rest ≤ size = grind (arith, nat_tests, inside.0) in
    omega (arith, within, length-take (count_in rest) (drop 6 rest))

save_lies : (rest : List ℕ) → save_refusal rest ≡ None → slice_index rest 0 ≤ 15
save_lies [] none = let bad : Some Cut ≡ None = none in absurd (cc)
save_lies (slot ∷ rest) none = let small = none_of (nat_lt 15 slot) Slot None none in grind (arith, nat_tests, small.0)

restore_lies : (filled : List Bool) (rest : List ℕ) → restore_refusal filled rest ≡ None → slice_index rest 0 ≤ 15
restore_lies filled [] none = let bad : Some Cut ≡ None = none in absurd (cc)
restore_lies filled (slot ∷ rest) none = let small = none_of (nat_lt 15 slot) Slot _ none in
    grind (arith, nat_tests, small.0)

lies_at : (size : ℕ) (filled : List Bool) (mark : ℕ) (rest : List ℕ) (w s r f p : Bool)
    → (mark == 87) ≡ w → (mark == 83) ≡ s → (mark == 82) ≡ r → (mark == 70) ≡ f → (mark == 80) ≡ p
    → refusal size filled (mark ∷ rest) ≡ None → LiesWithin size (front (mark ∷ rest))
lies_at size filled mark rest true s r f p hw hs hr hf hp none = rw hw (write_lies size rest (rw hw at none))
lies_at size filled mark rest false true r f p hw hs hr hf hp none = rw (hw, hs) (save_lies rest (rw (hw, hs) at none))
lies_at size filled mark rest false false true f p hw hs hr hf hp none =
    rw (hw, hs, hr) (restore_lies filled rest (rw (hw, hs, hr) at none))
lies_at size filled mark rest false false false true p hw hs hr hf hp none = rw (hw, hs, hr, hf) tt
lies_at size filled mark rest false false false false true hw hs hr hf hp none = rw (hw, hs, hr, hf, hp) tt
lies_at size filled mark rest false false false false false hw hs hr hf hp none = rw (hw, hs, hr, hf, hp) tt

pub front_lies : (size : ℕ) (filled : List Bool) (bytes : List ℕ) → refusal size filled bytes ≡ None
    → LiesWithin size (front bytes)
front_lies size filled [] none = let bad : Some Cut ≡ None = none in absurd (cc)
front_lies size filled (mark ∷ rest) none = lies_at size filled mark rest _ _ _ _ _ refl refl refl refl refl none
