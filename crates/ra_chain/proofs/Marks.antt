-- Marks of the conditions that stand in pause chains, found from the end of a group on.
use Rattle.std.proofs.Common.{◌≡◌, ℕ, suc, ◌+◌, ◌-◌, ◌<◌, ◌≤◌, Bool, true, false, not, cond, List, [], ◌∷◌, ◌++◌}
use Rattle.std.proofs.Common.{length, get_or, set, map, refl, sym, ap, ◌∙◌, subst, inl, inr, arith, get_or-set_same}
use Rattle.std.proofs.Common.{get_or-set_other, length-set, append_assoc}
use Rattle.std.specs.Bool.{beq}
use Rattle.std.specs.List.{range_with_len}
use Rattle.std.proofs.lemmas.List.{get_or_past, append-nil}
use Rattle.std.proofs.lemmas.List.Elements.{filter_agree}
use Rattle.std.proofs.lemmas.List.FromFn.{get_or-map-range_with_len, length-map-range_with_len}
use Rattle.std.proofs.lemmas.Bool.{cases_eq, cases_lt}
use Rattle.ra_condition.specs.declared.condition.Condition.{Condition}
use Rattle.ra_condition.specs.Flags.{combines, is_pause}
use Rattle.ra_condition.specs.Contents.{flag_at}
use Rattle.ra_condition.specs.Chains.{in_pause_chain, places}
use Rattle.ra_condition.proofs.Passes.{chosen, chosen_more}
use Rattle.ra_condition.proofs.ChainLemmas.{in_pause_chain-combines, in_pause_chain-last, in_pause_chain_past}

-- the conditions from the place on are marked, and it is known how their first one is
pub record AreMarked (cs : List Condition) (marks : List Bool) (place : ℕ) (pauses : Bool) : Type 0 where
  pub whole : length marks ≡ length cs
  pub within : place ≤ length cs
  pub first : pauses ≡ in_pause_chain cs place
  pub each : (k : ℕ) → place ≤ k → k < length cs → get_or marks k false ≡ in_pause_chain cs k

-- one condition more, from the end on
pub marked_more : (cs : List Condition) (marks : List Bool) (place : ℕ) (pauses pauses' : Bool)
    → AreMarked cs marks (suc place) pauses → pauses' ≡ in_pause_chain cs place
    → AreMarked cs (set marks place pauses') place pauses'
marked_more cs marks place pauses pauses' m is = record {
  whole = length-set marks place pauses' ∙ m.whole;
  within = omega (arith, m.within);
  first = is;
  each = λ k g l. elim (cases_eq k place) [
    | inl here ↦ ap (λ i. get_or (set marks place pauses') i false) here ∙ get_or-set_same marks
        place pauses' false (omega (arith, m.whole)) ∙ is ∙ ap (in_pause_chain cs) (sym here)
    | inr other ↦ get_or-set_other marks place k pauses' false other ∙ m.each k (omega arith) l
  ];
}

-- the step of a loop that goes back from the place
pub marked_turn : (cs : List Condition) (marks : List Bool) (place : ℕ) (pauses pauses' : Bool)
    → 0 < place → AreMarked cs marks place pauses → pauses' ≡ in_pause_chain cs (place - 1)
    → AreMarked cs (set marks (place - 1) pauses') (place - 1) pauses'
marked_turn cs marks place pauses pauses' l m is =
    let e : place ≡ suc (place - 1) = omega arith in
    marked_more cs marks (place - 1) pauses pauses' (subst (λ (n : ℕ). AreMarked cs marks n pauses) e m) is

-- how the condition before the place is marked, by whether it combines
pub mark_combined : (cs : List Condition) (place : ℕ) (pauses : Bool) → 0 < place
    → combines (flag_at cs (place - 1)) ≡ true → pauses ≡ in_pause_chain cs place → pauses
    ≡ in_pause_chain cs (place - 1)
mark_combined cs place pauses l h is =
    let e : place ≡ suc (place - 1) = omega arith in
    is ∙ ap (in_pause_chain cs) e ∙ sym (in_pause_chain-combines cs (place - 1) h)

pub mark_last : (cs : List Condition) (place : ℕ) → combines (flag_at cs place) ≡ false
    → is_pause (flag_at cs place) ≡ in_pause_chain cs place
mark_last cs place h = sym (in_pause_chain-last cs place h)

-- one place more is added, or not
chosen_next : (q : ℕ → Bool) (m : ℕ) → chosen q (m + 1) ≡ chosen q m ++ cond (q m) (m ∷ []) []
chosen_next q m = let e : m + 1 ≡ suc m = omega arith in ap (chosen q) e ∙ chosen_more q m

pub added_more : (q : ℕ → Bool) (start order order' : List ℕ) (place : ℕ) → order ≡ start ++ chosen
    q place → q place ≡ true → order' ≡ order ++ place ∷ [] → order' ≡ start ++ chosen q (place + 1)
added_more q start order order' place so_far passes is =
    is ∙ ap (λ xs. xs ++ place ∷ []) so_far ∙ append_assoc start (chosen q place) (place ∷ [])
    ∙ ap (λ xs. start ++ xs) (sym (chosen_next q place ∙ ap (λ b. chosen q place ++ cond b (place ∷ []) []) passes))

pub added_same : (q : ℕ → Bool) (start order order' : List ℕ) (place : ℕ) → order ≡ start
    ++ chosen q place → q place ≡ false → order' ≡ order → order' ≡ start ++ chosen q (place + 1)
added_same q start order order' place so_far fails is =
    is ∙ so_far
    ∙ ap (λ xs. start ++ xs) (sym (chosen_next q place
    ∙ ap (λ b. chosen q place ++ cond b (place ∷ []) []) fails ∙ append-nil (chosen q place)))

same_true : (b : Bool) → beq b true ≡ b
same_true true = refl
same_true false = refl

same_false : (b : Bool) → beq b false ≡ not b
same_false true = refl
same_false false = refl

-- the marks at every place
mark_at : (cs : List Condition) (marks : List Bool) → marks ≡ map (in_pause_chain cs) (places cs)
    → (j : ℕ) → get_or marks j false ≡ in_pause_chain cs j
mark_at cs marks is j =
    elim (cases_lt j (length cs)) [
      | inl l ↦ ap (λ xs. get_or xs j false) is
          ∙ get_or-map-range_with_len (in_pause_chain cs) 0 (length cs) j j false l (omega arith)
      | inr g ↦ get_or_past marks j false
          (omega (arith, ap length is, length-map-range_with_len (in_pause_chain cs) 0 (length cs)))
          ∙ sym (in_pause_chain_past cs j g)
    ]

-- the places that are marked, and those that are not
pub chosen_marked : (cs : List Condition) (marks : List Bool) → marks
    ≡ map (in_pause_chain cs) (places cs) → chosen (λ j. beq (get_or marks j false) true)
    (length marks) ≡ chosen (in_pause_chain cs) (length cs)
chosen_marked cs marks is =
    filter_agree (λ j. beq (get_or marks j false) true) (in_pause_chain cs) (λ j. same_true
    (get_or marks j false) ∙ mark_at cs marks is j) (range_with_len 0 (length marks))
    ∙ ap (chosen (in_pause_chain cs)) (ap length is ∙ length-map-range_with_len (in_pause_chain cs) 0 (length cs))

pub chosen_unmarked : (cs : List Condition) (marks : List Bool) → marks
    ≡ map (in_pause_chain cs) (places cs) → chosen (λ j. beq (get_or marks j false) false)
    (length marks) ≡ chosen (λ j. not (in_pause_chain cs j)) (length cs)
chosen_unmarked cs marks is =
    filter_agree (λ j. beq (get_or marks j false) false) (λ j. not (in_pause_chain cs j))
    (λ j. same_false (get_or marks j false) ∙ ap not (mark_at cs marks is j))
    (range_with_len 0 (length marks))
    ∙ ap (chosen (λ j. not (in_pause_chain cs j))) (ap length is
    ∙ length-map-range_with_len (in_pause_chain cs) 0 (length cs))
