-- Who is not woken at a frame sees what it saw.
use Rattle.std.proofs.Common.{◌≡◌, ◌≢◌, ℕ, zero, suc, ◌+◌, ◌<◌, ◌==◌, Bool, true, false, List, [], ◌∷◌, ◌++◌, length}
use Rattle.std.proofs.Common.{map, replicate, slice_index, slice_index_or, slice_set, sym, ◌∙◌, ap, subst, arith, refl}
use Rattle.std.proofs.lemmas.Bool.{eq-eqb, eqb-true}
use Rattle.std.proofs.lemmas.List.{length-replicate, set-get_or}
use Rattle.ra_condition.specs.declared.condition.Condition.{Condition}
use Rattle.ra_condition.specs.Contents.{TriggerContents, PartContents}
use Rattle.ra_indirect.specs.declared.node.Node.{Node}
use Rattle.ra_memref.specs.Table.{TableSeen}
use Rattle.ra_truths.specs.declared.comparison.Comparison.{Comparison}
use Rattle.ra_truths.specs.Comparisons.{comparison_at, holds_by}
use Rattle.ra_truths.proofs.TakingLemmas.{truth_by}
use Rattle.ra_schedule.specs.Readers.{IsListed, ReadersSeen, Reads, Wakes, all_woken}
use Rattle.ra_schedule.specs.Schedules.{Begins, IsHeard, ScheduleSeen, is_due}
use Rattle.ra_schedule.specs.Signals.{AreFront}
use Rattle.ra_member.specs.Members.{MemberContents}
use Rattle.ra_schedule.specs.Inputs.{Instant, SeeSame, TestsSeeSame, ValuesSeeSame, MemberSeesSame}
use Rattle.ra_group.specs.declared.form.Form.{Form}
use Rattle.ra_group.specs.declared.form.Form.TheVariants.{InTrigger, InValue}
use Rattle.ra_member.specs.Frames.{lefts_at}
use Rattle.ra_schedule.specs.Waking.{Agrees, AreChanged, IsTold, IsWoken}
use Rattle.ra_schedule.proofs.Resting.Lefts.{give_through}
use Rattle.ra_links.proofs.Listed.{listed_back, listed_front}
use Rattle.ra_schedule.proofs.WhoReads.WakeLemmas.{listed_map}

-- what sees the same at a second instant as at a first, and at a third as at the second, sees the same at the third as
-- at the first
module _ (one two three : Instant) where
  pub through : (form : Form) (groups : List (List Condition)) → SeeSame form one two groups
      → SeeSame form two three groups → SeeSame form one three groups
  through form groups first second = record {
    truths = second.truths ∙ first.truths;
    lefts = give_through form groups (lefts_at one.start one.history groups) (lefts_at two.start
        two.history groups) (lefts_at three.start three.history groups) first.lefts second.lefts;
  }

  tests_through : (tests : List TriggerContents) → TestsSeeSame one two tests
      → TestsSeeSame two three tests → TestsSeeSame one three tests
  tests_through [] first second = tt
  tests_through (t ∷ tests) first second = (through InTrigger _ first.0 second.0, tests_through tests first.1 second.1)

  values_through : (values : List (List PartContents)) → ValuesSeeSame one two values
      → ValuesSeeSame two three values → ValuesSeeSame one three values
  values_through [] first second = tt
  values_through (parts ∷ values) first second = (
    record {
      conditions = through InValue _ first.0.conditions second.0.conditions;
      sums = second.0.sums ∙ first.0.sums;
    },
    values_through values first.1 second.1,
  )

  pub member_through : (m : MemberContents) → MemberSeesSame one two m → MemberSeesSame two three m
      → MemberSeesSame one three m
  member_through m first second =
      record {
        tests = tests_through m.tests first.tests second.tests;
        values = values_through m.values first.values second.values;
      }

-- a node that is not listed among those with another value has the same one
same_unless_listed : (values later : List ℕ) (n : ℕ) → ((slice_index values n ≡ slice_index later n
    → ⊥) → ⊥) → slice_index later n ≡ slice_index values n
same_unless_listed values later n listed = by_test (slice_index values n == slice_index later n) refl
  where
    by_test : (b : Bool) → (slice_index values n == slice_index later n) ≡ b → slice_index later n
        ≡ slice_index values n
    by_test true e = sym (eqb-true (slice_index values n) (slice_index later n) e)
    by_test false e = absurd (listed (λ is. let bad : true ≡ false =
        sym (eq-eqb (slice_index values n) (slice_index later n) is) ∙ e in cc))

-- and a truth that is not listed among those that flipped is the same one
same_unless_flipped : (was is : Bool) → ((was ≡ is → ⊥) → ⊥) → is ≡ was
same_unless_flipped true true listed = refl
same_unless_flipped false false listed = refl
same_unless_flipped true false listed = absurd (listed (λ same. cc))
same_unless_flipped false true listed = absurd (listed (λ same. cc))

-- a count of frames that is not at its end
pub not_at_end : (clock : ℕ) → clock ≢ 18446744073709551615 → (clock == 18446744073709551615) ≡ false
not_at_end clock apart = by_test (clock == 18446744073709551615) refl
  where
    by_test : (b : Bool) → (clock == 18446744073709551615) ≡ b → (clock == 18446744073709551615) ≡ false
    by_test true e = absurd (apart (eqb-true clock 18446744073709551615 e))
    by_test false e = e

-- where all are due, none is quiet
pub all_loud : (old new : ReadersSeen) → new ≡ all_woken old → (r : ℕ) → slice_index_or new.due r true ≡ false → ⊥
all_loud old new is r quiet =
    let yes : slice_index_or new.due r true ≡ true =
    ap (λ (rs : ReadersSeen). slice_index_or rs.due r true) is ∙ all_true (length old.due) r in
    let bad : true ≡ false = sym yes ∙ quiet in cc
  where
    all_true : (n r : ℕ) → slice_index_or (replicate n true) r true ≡ true
    all_true zero r = refl
    all_true (suc n) zero = refl
    all_true (suc n) (suc r) = all_true n r

-- and so where a frame wakes all
pub woken_all : (clock : ℕ) (signals : List ℕ) (old new : ReadersSeen) → new ≡ all_woken old
    → IsWoken clock signals old new
woken_all clock signals old new is = record {
  rows = ap (λ (r : ReadersSeen). r.rows) is;
  long = ap (λ (r : ReadersSeen). length r.due) is ∙ length-replicate (length old.due) true;
  kept = λ r quiet. absurd (all_loud old new is r quiet);
  woken = λ r n quiet listed reads. all_loud old new is r quiet;
}

-- where it wakes the readers of what changed, these are
pub woken_some : (clock : ℕ) (signals : List ℕ) (old new : ReadersSeen)
    → clock < 18446744073709551615 → Wakes signals old new → IsWoken clock signals old new
woken_some clock signals old new small wakes = record {
  rows = wakes.rows;
  long = wakes.long;
  kept = λ r quiet. (wakes.kept r quiet, small);
  woken = λ r n quiet listed reads.
      let due = wakes.woken r n listed reads in
      let bad : true ≡ false = sym due ∙ quiet in cc;
}

-- what a frame wakes: who is still not due reads the same
module _ (table : TableSeen) (values : List ℕ) (old start : ScheduleSeen) (changed : AreChanged
    table values) (heard : IsHeard table.nodes values old) (begun : Begins table old start) where
  pub was_quiet : (k : ℕ) → is_due start k ≡ false → (is_due old k ≡ false) × (old.clock < 18446744073709551615)
  was_quiet k quiet = begun.woken.kept k quiet

  pub quiet_same : old.truths.known ≡ true → (k : ℕ) → is_due start k ≡ false
      → Agrees (length table.nodes) old.truths.comparisons old.readers k values table.values
  quiet_same known k quiet = record {
    numbers = λ n below reads.
        same_unless_listed values table.values n
        (λ differ. begun.woken.woken k n quiet
        (listed_front n table.changed behind (changed.each n below differ)) reads);
    truths = λ j within reads.
        let taken = begun.truths (begun.awake k quiet) in
        let was = ap (λ ts. slice_index_or ts j false) (heard.truths known)
        ∙ truth_by values old.truths.comparisons j within in
        let is = ap (λ ts. slice_index_or ts j false) taken.truths
        ∙ truth_by table.values old.truths.comparisons j within in
        let nodes : length table.nodes ≡ start.truths.nodes = heard.nodes_too ∙ sym begun.nodes in
        same_unless_flipped (holds_by values (comparison_at old.truths.comparisons j))
        (holds_by table.values (comparison_at old.truths.comparisons j))
        (λ differ. begun.woken.woken k (length table.nodes + j) quiet
        (subst (λ n. IsListed (n + j) (table.changed ++ behind)) (sym nodes)
        (listed_back (start.truths.nodes + j) table.changed behind
        (listed_map (λ n. start.truths.nodes + n) j start.truths.flipped
        (taken.each j (λ same. differ (sym was ∙ same ∙ is)))))) reads);
  }
    where
      behind : List ℕ
      behind = map (λ n. start.truths.nodes + n) start.truths.flipped

-- a reader that is told of what something sees is told of it still
pub told_still : (Sees : Instant → Instant → Type 0) (nodes : List Node)
    (one other : List Comparison) (readers later : ReadersSeen) (k : ℕ) → AreFront one other
    → ((s r : ℕ) → Reads readers s r → Reads later s r) → IsTold Sees nodes one readers k
    → IsTold Sees nodes other later k
told_still Sees nodes one other readers later k front kept told values values' now then at at' agree =
    told values values' now then at at' (record {
      numbers = λ n below reads. agree.numbers n below (kept n k reads);
      truths = λ j within reads.
          subst (λ c. holds_by values' c ≡ holds_by values c) (front.same j within)
          (agree.truths j (omega (arith, within, front.long)) (kept (length nodes + j) k reads));
    })

-- and where nothing is noted any more
pub told_by_rows : (Sees : Instant → Instant → Type 0) (nodes : List Node)
    (one other : ScheduleSeen) (k : ℕ) → other.readers.rows ≡ one.readers.rows
    → other.truths.comparisons ≡ one.truths.comparisons
    → IsTold Sees nodes one.truths.comparisons one.readers k
    → IsTold Sees nodes other.truths.comparisons other.readers k
told_by_rows Sees nodes one other k rows comparisons told =
    told_still Sees nodes one.truths.comparisons other.truths.comparisons one.readers other.readers k
    (record {
      long = omega (arith, ap length comparisons);
      same = λ j within. ap (λ cs. comparison_at cs j) comparisons;
    })
    (λ s r reads. subst (λ (rs : List (List ℕ)). IsListed r (slice_index_or rs s [])) (sym rows) reads) told

-- who is due and is made due is as before
pub still_due : (readers : ReadersSeen) (place : ℕ) → slice_index_or readers.due place true ≡ true
    → readers ≡ record readers { due = slice_set readers.due place true }
still_due readers place due =
    ap (λ ds. record readers { due = ds })
    (sym (ap (λ b. slice_set readers.due place b) (sym due) ∙ set-get_or readers.due place true))
