-- Signals that are noted: nothing that was noted before is lost.
use Rattle.std.proofs.Common.{◌≡◌, inl, inr, ℕ, ◌+◌, ◌≤◌, true, false, Bool, Option, None, Some, List, [], ◌∷◌}
use Rattle.std.proofs.Common.{length, slice_index, slice_index_or, refl, sym, ◌∙◌, ap, subst, arith, length-append}
use Rattle.ra_operand.specs.declared.op.Op.TheVariants.{Bare}
use Rattle.ra_indirect.specs.declared.node.Node.{Node}
use Rattle.ra_indirect.specs.Interned.{Interns}
use Rattle.ra_indirect.proofs.PoolLemmas.{below_or_last}
use Rattle.ra_truths.specs.declared.comparison.Comparison.{Comparison}
use Rattle.ra_truths.specs.Comparisons.{AreOver, comparison_at}
use Rattle.ra_truths.proofs.ComparisonLemmas.{kept_interned, over_interned, placed}
use Rattle.ra_member.specs.declared.laid.Laid.{Laid}
use Rattle.ra_schedule.specs.Readers.{Notes, ReadersSeen, Reads}
use Rattle.ra_schedule.specs.Signals.{AreHeard, AreSumsRead, Hears, IsGivenRead, IsSumRead, KeepsAll, NotesComparison}
use Rattle.ra_schedule.specs.Signals.{NotesNode, SignalsSeen, comparison_in, is_comparing}

module _ (nodes : List Node) where
  -- nothing was noted yet
  pub keeps_itself : (s : SignalsSeen) → KeepsAll nodes s s
  keeps_itself s = record {
    nodes_too = refl;
    front = record { long = omega arith; same = λ k within. refl };
    kept = λ s r reads. reads;
    due = refl;
    over = λ are. are;
  }

  -- what is kept by one and then by another
  pub keeps_both : (a b c : SignalsSeen) → KeepsAll nodes a b → KeepsAll nodes b c → KeepsAll nodes a c
  keeps_both a b c one two = record {
    nodes_too = two.nodes_too ∙ one.nodes_too;
    front = record {
      long = omega (arith, one.front.long, two.front.long);
      same = λ k within. two.front.same k (omega (arith, within, one.front.long)) ∙ one.front.same k within;
    };
    kept = λ s r reads. two.kept s r (one.kept s r reads);
    due = two.due ∙ one.due;
    over = λ are. two.over (one.over are);
  }

  -- who hears a comparison hears it still
  pub hears_still : (a b : SignalsSeen) (c : Comparison) (reader : ℕ) → KeepsAll nodes a b
      → Hears a c reader → Hears b c reader
  hears_still a b c reader keeps hears = record {
    number = hears.number;
    within = omega (arith, hears.within, keeps.front.long);
    is = keeps.front.same hears.number hears.within ∙ hears.is;
    reads = subst (λ n. Reads b.readers (n + hears.number) reader) (sym keeps.nodes_too)
        (keeps.kept (a.nodes + hears.number) reader hears.reads);
  }

  pub heard_still : (a b : SignalsSeen) (laid : Laid) (count reader : ℕ) → KeepsAll nodes a b
      → AreHeard a laid count reader → AreHeard b laid count reader
  heard_still a b laid count reader keeps heard j below comparing =
      hears_still a b (comparison_in laid j) reader keeps (heard j below comparing)

-- one place more is heard
pub heard_more : (s : SignalsSeen) (laid : Laid) (count reader : ℕ) → AreHeard s laid count reader
    → (is_comparing (slice_index_or laid.ops count Bare) ≡ true
    → Hears s (comparison_in laid count) reader) → AreHeard s laid (count + 1) reader
heard_more s laid count reader heard last j below = elim (below_or_last j count below) [
  | inl less ↦ heard j less
  | inr here ↦ subst (λ k. is_comparing (slice_index_or laid.ops k Bare) ≡ true
      → Hears s (comparison_in laid k) reader) (sym here) last
]

module _ (readers : ReadersSeen) (reader : ℕ) where
  -- one place more is read
  pub given_more : (given : List Bool) (laid : Laid) (count : ℕ) → IsGivenRead given laid count readers reader
      → (slice_index_or given count false ≡ true → Reads readers (slice_index laid.plan.lefts
      count) reader) → IsGivenRead given laid (count + 1) readers reader
  given_more given laid count read last j below = elim (below_or_last j count below) [
    | inl less ↦ read j less
    | inr here ↦ subst (λ k. slice_index_or given k false ≡ true
        → Reads readers (slice_index laid.plan.lefts k) reader) (sym here) last
  ]

  pub sums_more : (sums : List (Option ℕ)) (count : ℕ) → AreSumsRead sums count readers reader
      → IsSumRead (slice_index_or sums count None) readers reader
      → AreSumsRead sums (count + 1) readers reader
  sums_more sums count read last j below = elim (below_or_last j count below) [
    | inl less ↦ read j less
    | inr here ↦ subst (λ k. IsSumRead (slice_index_or sums k None) readers reader) (sym here) last
  ]

-- who reads a node that may be missing reads it still
pub sum_still : (a b : ReadersSeen) (reader : ℕ) → ((s r : ℕ) → Reads a s r → Reads b s r)
    → (sum : Option ℕ) → IsSumRead sum a reader → IsSumRead sum b reader
sum_still a b reader kept None read = tt
sum_still a b reader kept (Some node) read = kept node reader read

-- a node is noted
pub node_noted : (node reader : ℕ) (a b : SignalsSeen) → b.nodes ≡ a.nodes → b.comparisons
    ≡ a.comparisons → Notes node reader a.readers b.readers → NotesNode node reader a b
node_noted node reader a b nodes_too same notes = record {
  reads = notes.noted;
  keeps = λ nodes. record {
    nodes_too = nodes_too;
    front = record { long = omega (arith, ap length same); same = λ k within. ap (λ cs. comparison_at cs k) same };
    kept = notes.kept;
    due = notes.due;
    over = subst (AreOver nodes) (sym same);
  };
}

-- a comparison is noted at its number
pub comparison_noted : (c : Comparison) (reader number : ℕ) (a b : SignalsSeen) (mid : ReadersSeen)
    → b.nodes ≡ a.nodes → Interns a.comparisons b.comparisons c number
    → ((s r : ℕ) → Reads a.readers s r → Reads mid s r) → mid.due ≡ a.readers.due
    → Notes (a.nodes + number) reader mid b.readers → NotesComparison c reader a b
comparison_noted c reader number a b mid nodes_too interns kept due notes =
    let place = placed a.comparisons b.comparisons c number interns in
    record {
      hears = record {
        number = number;
        within = place.0;
        is = place.1;
        reads = subst (λ n. Reads b.readers (n + number) reader) (sym nodes_too) notes.noted;
      };
      keeps = λ nodes over. record {
        nodes_too = nodes_too;
        front = record { long = longer interns; same = kept_interned a.comparisons b.comparisons c number interns };
        kept = λ s r reads. notes.kept s r (kept s r reads);
        due = notes.due ∙ due;
        over = λ are. over_interned nodes a.comparisons b.comparisons c number are over interns;
      };
    }
  where
    longer : Interns a.comparisons b.comparisons c number → length a.comparisons ≤ length b.comparisons
    longer (inl found) = omega (arith, ap length found.same)
    longer (inr fresh) = omega (arith, ap length fresh.grown, length-append a.comparisons (c ∷ []))
