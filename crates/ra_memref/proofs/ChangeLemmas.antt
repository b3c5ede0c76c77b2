-- Which nodes a pass lists: each whose number is another than at its start.
use Rattle.std.proofs.Common.{◌≡◌, ◌≢◌, ℕ, ◌+◌, ◌<◌, ◌≤◌, ◌==◌, inl, inr, Bool, true, false, not, List, [], ◌∷◌, ◌++◌}
use Rattle.std.proofs.Common.{length, get_or, refl, ap, sym, ◌∙◌, arith, length-append}
use Rattle.std.proofs.lemmas.List.{get_or_append_left}
use Rattle.std.proofs.Math.Seq.{get_or-append_seam}
use Rattle.std.proofs.lemmas.Bool.{cases_eq, cases_lt}
use Rattle.ra_memref.specs.Table.{IsListed}
use Rattle.ra_memref.specs.Changes.{AreNoted, noted}
use Rattle.ra_memref.proofs.DueLemmas.{same_number}

-- no node is listed where each number is what it was
pub noted_none : (count : ℕ) (values : List ℕ) → AreNoted count 0 values values []
noted_none count values = record {
  each = λ n other. absurd (other refl);
  nodes = λ k below. absurd (omega (arith, below));
  few = omega arith;
}

-- a number that stands in a list stands in a longer one
listed_more : (n : ℕ) (numbers more : List ℕ) → IsListed n numbers → IsListed n (numbers ++ more)
listed_more n numbers more is = record {
  place = is.place;
  within = omega (arith, is.within, length-append numbers more);
  here = get_or_append_left numbers more 0 is.place is.within ∙ is.here;
}

-- and the last one of a list stands there
listed_last : (n i : ℕ) (numbers : List ℕ) → i ≡ n → IsListed i (numbers ++ n ∷ [])
listed_last n i numbers same = record {
  place = length numbers;
  within = omega (arith, length-append numbers (n ∷ []));
  here = get_or-append_seam numbers n [] 0 ∙ sym same;
}

-- a node is taken, and noted where its number changed: what was noted of the nodes before is noted still
module _ (count at : ℕ) (old now new listed : List ℕ) (n : ℕ) (are : AreNoted count at old now listed) (from : at ≤ n)
    (below : n < count) (others : (i : ℕ) → i ≢ n → get_or new i 0 ≡ get_or now i 0) where
  was : (i : ℕ) → get_or old i 0 ≢ get_or new i 0 → get_or new i 0 ≡ get_or now i 0 → IsListed i listed
  was i other same = are.each i (λ e. other (e ∙ sym same))

  in_count : (k : ℕ) → k < length (listed ++ n ∷ []) → get_or (listed ++ n ∷ []) k 0 < count
  in_count k within = elim (cases_lt k (length listed)) [
    | inl before ↦ omega (arith, are.nodes k before, get_or_append_left listed (n ∷ []) 0 k before)
    | inr last ↦
        let e : k ≡ length listed = omega (arith, within, last, length-append listed (n ∷ [])) in
        omega (arith, below, ap (λ j. get_or (listed ++ n ∷ []) j 0) e, get_or-append_seam listed n [] 0)
  ]

  pub noted_more : (changed : Bool) → changed ≡ not (get_or now n 0 == get_or new n 0)
      → AreNoted count (n + 1) old new (noted listed n changed)
  noted_more true told = record {
    each = λ i other. elim (cases_eq i n) [
      | inl same ↦ listed_last n i listed same
      | inr apart ↦ listed_more i listed (n ∷ []) (was i other (others i apart))
    ];
    nodes = in_count;
    few = omega (arith, are.few, from, length-append listed (n ∷ []));
  }
  noted_more false told = record {
    each = λ i other. elim (cases_eq i n) [
      | inl same ↦ was i other (ap (λ j. get_or new j 0) same
          ∙ sym (same_number (get_or now n 0) (get_or new n 0) (sym told)) ∙ ap (λ j. get_or now j 0) (sym same))
      | inr apart ↦ was i other (others i apart)
    ];
    nodes = are.nodes;
    few = omega (arith, are.few, from);
  }
