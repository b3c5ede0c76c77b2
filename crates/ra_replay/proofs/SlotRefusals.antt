-- What is refused of a record by the slots that are filled.
use Rattle.std.proofs.Common.{arith, ◌≡◌, ◌==◌, ap, sym, refl, ◌∙◌, ℕ, nat_lt, slice_index, slice_index_or, replicate}
use Rattle.std.proofs.Common.{map, Bool, true, false, Option, Some, None, is_some, List, [], ◌∷◌}
use Rattle.std.proofs.lemmas.Bool.Decides.{nat_tests}
use Rattle.std.proofs.lemmas.List.{get_or-replicate}
use Rattle.std.proofs.Math.ListN.{get_or-map}
use Rattle.ra_memory.specs.Image.{History}
use Rattle.ra_trace.specs.declared.error.Why.{Why}
use Rattle.ra_trace.specs.declared.error.Why.TheVariants.{Cut, EmptySlot}
use Rattle.ra_trace.specs.Cutting.{refusal, restore_refusal, front}
use Rattle.ra_meaning.specs.Play.{Moment}
use Rattle.ra_replay.specs.Left.{IsEmptySlot}

abbrev all_filled : List Bool
all_filled = replicate 16 true

filled_in : (slots : List (Option History)) (slot : ℕ)
    → slice_index_or (map is_some slots) slot false ≡ is_some (slice_index_or slots slot None)
filled_in slots slot = get_or-map is_some slots slot None

-- Where all slots are filled a restore is refused for its length or its number alone.
record ByAll (m : Moment) (rest : List ℕ) : Type 0 where
  refused : (why : Why) → restore_refusal all_filled rest ≡ Some why
      → restore_refusal (map is_some m.slots) rest ≡ Some why
  filled : restore_refusal all_filled rest ≡ None → (slice_index_or m.slots
      (slice_index rest 0) None ≡ None → ⊥) → restore_refusal (map is_some m.slots) rest ≡ None
  empty : restore_refusal all_filled rest ≡ None → slice_index_or m.slots (slice_index rest 0) None
      ≡ None → restore_refusal (map is_some m.slots) rest ≡ Some EmptySlot

module _ (m : Moment) (slot : ℕ) (rest : List ℕ) where
  small_slot : (b : Bool) → nat_lt 15 slot ≡ b → (kept : Option History)
      → slice_index_or m.slots slot None ≡ kept → ByAll m (slot ∷ rest)
  small_slot true big kept is = record {
    refused = λ why h. rw big (rw big at h);
    filled = λ none. let bad = rw big at none in absurd (cc);
    empty = λ none. let bad = rw big at none in absurd (cc);
  }
  small_slot false small kept is =
      let there : slice_index_or all_filled slot false ≡ true =
      get_or-replicate 16 slot true false (grind (arith, nat_tests, small)) in
      let filled : slice_index_or (map is_some m.slots) slot false ≡ is_some kept =
      filled_in m.slots slot ∙ ap is_some is in
      let all : restore_refusal all_filled (slot ∷ rest) ≡ None = rw (small, there) refl in
      record {
        refused = λ why h. let bad : None ≡ Some why = sym all ∙ h in absurd (cc);
        filled = λ none some. filled_slot kept is filled some;
        empty = λ none no. rw (small, filled, sym is ∙ no) refl;
      }
    where
      filled_slot : (kept : Option History) → slice_index_or m.slots slot None ≡ kept
          → slice_index_or (map is_some m.slots) slot false ≡ is_some kept → (slice_index_or m.slots
          slot None ≡ None → ⊥) → restore_refusal (map is_some m.slots) (slot ∷ rest) ≡ None
      filled_slot None is filled some = absurd (some is)
      filled_slot (Some kept) is filled some = rw (small, filled) refl

by_all : (m : Moment) (rest : List ℕ) → ByAll m rest
by_all m [] = record {
  refused = λ why h. h;
  filled = λ none. let bad : Some Cut ≡ None = none in absurd (cc);
  empty = λ none. let bad : Some Cut ≡ None = none in absurd (cc);
}
by_all m (slot ∷ rest) = small_slot m slot rest _ refl _ refl

-- What is refused with the slots of a moment, by what is refused where all are filled.
pub record BySlots (size : ℕ) (m : Moment) (bytes : List ℕ) : Type 0 where
  pub refused : (why : Why) → refusal size all_filled bytes ≡ Some why
      → refusal size (map is_some m.slots) bytes ≡ Some why
  pub filled : refusal size all_filled bytes ≡ None → (IsEmptySlot (front bytes) m → ⊥)
      → refusal size (map is_some m.slots) bytes ≡ None
  pub empty : refusal size all_filled bytes ≡ None → IsEmptySlot (front bytes) m
      → refusal size (map is_some m.slots) bytes ≡ Some EmptySlot

module _ (size : ℕ) (m : Moment) (mark : ℕ) (rest : List ℕ) where
  by_mark : (w s r f p : Bool) → (mark == 87) ≡ w → (mark == 83) ≡ s → (mark == 82) ≡ r
      → (mark == 70) ≡ f → (mark == 80) ≡ p → BySlots size m (mark ∷ rest)
  by_mark true s r f p hw hs hr hf hp = record {
    refused = λ why h. rw hw (rw hw at h);
    filled = λ none some. rw hw (rw hw at none);
    empty = λ none no. let bad = rw hw at no in absurd bad;
  }
  by_mark false true r f p hw hs hr hf hp = record {
    refused = λ why h. rw (hw, hs) (rw (hw, hs) at h);
    filled = λ none some. rw (hw, hs) (rw (hw, hs) at none);
    empty = λ none no. let bad = rw (hw, hs) at no in absurd bad;
  }
  by_mark false false true f p hw hs hr hf hp = record {
    refused = λ why h. rw (hw, hs, hr) ((by_all m rest).refused why (rw (hw, hs, hr) at h));
    filled = λ none some. rw (hw, hs, hr)
        ((by_all m rest).filled (rw (hw, hs, hr) at none) (λ no. some (rw (hw, hs, hr) no)));
    empty = λ none no. rw (hw, hs, hr) ((by_all m rest).empty (rw (hw, hs, hr) at none) (rw (hw, hs, hr) at no));
  }
  by_mark false false false true p hw hs hr hf hp = record {
    refused = λ why h. rw (hw, hs, hr) (rw (hw, hs, hr) at h);
    filled = λ none some. rw (hw, hs, hr) (rw (hw, hs, hr) at none);
    empty = λ none no. let bad = rw (hw, hs, hr, hf) at no in absurd bad;
  }
  by_mark false false false false true hw hs hr hf hp = record {
    refused = λ why h. rw (hw, hs, hr) (rw (hw, hs, hr) at h);
    filled = λ none some. rw (hw, hs, hr) (rw (hw, hs, hr) at none);
    empty = λ none no. let bad = rw (hw, hs, hr, hf, hp) at no in absurd bad;
  }
  by_mark false false false false false hw hs hr hf hp = record {
    refused = λ why h. rw (hw, hs, hr) (rw (hw, hs, hr) at h);
    filled = λ none some. rw (hw, hs, hr) (rw (hw, hs, hr) at none);
    empty = λ none no. let bad = rw (hw, hs, hr, hf, hp) at no in absurd bad;
  }

pub by_slots : (size : ℕ) (m : Moment) (bytes : List ℕ) → BySlots size m bytes
by_slots size m [] = record {
  refused = λ why h. h;
  filled = λ none some. none;
  empty = λ none no. absurd no;
}
by_slots size m (mark ∷ rest) = by_mark size m mark rest _ _ _ _ _ refl refl refl refl refl
