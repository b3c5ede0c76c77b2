-- Comparisons of which no node changed keep their truths.
use Rattle.std.proofs.Common.{◌≡◌, ◌≢◌, ℕ, suc, ◌+◌, ◌<◌, inl, inr, Bool, true, false, List, [], ◌∷◌, length, map}
use Rattle.std.proofs.Common.{get_or, refl, sym, subst, ap, ap₂, ◌∙◌, arith}
use Rattle.std.proofs.lemmas.List.{get_or-map, length-map}
use Rattle.std.proofs.lemmas.Bool.{cases_eq}
use Rattle.ra_operand.specs.declared.op.Op.TheVariants.{Bare}
use Rattle.ra_operand.specs.Operators.{compared}
use Rattle.ra_links.specs.Rows.{row_at}
use Rattle.ra_memref.specs.Table.{TableSeen, IsListed, ListsChanged}
use Rattle.ra_truths.specs.declared.comparison.Comparison.{Comparison}
use Rattle.ra_truths.specs.Comparisons.{AreOver, comparison_at, holds_by, truths_by}
use Rattle.ra_truths.specs.Kept.{KeptSeen, put_in}
use Rattle.ra_truths.specs.Settling.{Settles}
use Rattle.ra_truths.specs.Truths.{AreChanged, HasNone, IsTold, Takes, TruthsSeen}
use Rattle.ra_truths.specs.Uses.{AreUses}
use Rattle.ra_indirect.proofs.PoolLemmas.{below_or_last}
use Rattle.ra_truths.proofs.SettlingLemmas.{differ_tells, settles_put, wanted_stays, wanted_put, room_for}

-- the truth of one comparison
pub truth_by : (values : List ℕ) (comparisons : List Comparison) (k : ℕ) → k < length comparisons
    → get_or (truths_by values comparisons) k false ≡ holds_by values (comparison_at comparisons k)
truth_by values comparisons k below =
    get_or-map (holds_by values) comparisons k (record { op = Bare; left = 0; right = 0 }) false below

-- the truth of a comparison is put
module _ (values : List ℕ) (comparisons : List Comparison) (old now : KeptSeen)
    (settles : Settles (truths_by values comparisons) old now) (n : ℕ) (below : n < length comparisons) where
  abbrev wanted : List Bool
  wanted = truths_by values comparisons

  abbrev truth : Bool
  truth = holds_by values (comparison_at comparisons n)

  is : get_or wanted n false ≡ truth
  is = truth_by values comparisons n below

  within : n < length wanted
  within = omega (arith, below, length-map comparisons (holds_by values))

  pub settles_one : Settles wanted old (put_in now n truth)
  settles_one = subst (λ b. Settles wanted old (put_in now n b)) is (settles_put wanted old now settles n within)

  pub stays_one : (k : ℕ) → get_or now.truths k false ≡ get_or wanted k false
      → get_or (put_in now n truth).truths k false ≡ get_or wanted k false
  stays_one k settled =
      subst (λ b. get_or (put_in now n b).truths k false ≡ get_or wanted k false) is
      (wanted_stays wanted old now settles n k within settled)

  pub put_one : get_or (put_in now n truth).truths n false ≡ get_or wanted n false
  put_one =
      subst (λ b. get_or (put_in now n b).truths n false ≡ get_or wanted n false) is
      (wanted_put wanted old now settles n within)

  pub room_one : get_or now.truths n false ≢ truth → length now.flipped < length now.truths
  room_one apart = room_for wanted old now settles n within (λ e. apart (e ∙ is))

  -- the first so many places of a row have their wanted truths, and then the next one
  pub row_more : (row : List ℕ) (at : ℕ) → get_or row at 0 ≡ n
      → ((q : ℕ) → q < at → get_or now.truths (get_or row q 0) false ≡ get_or wanted (get_or row q 0) false)
      → (q : ℕ) → q < at + 1
      → get_or (put_in now n truth).truths (get_or row q 0) false ≡ get_or wanted (get_or row q 0) false
  row_more row at same done q least = elim (below_or_last q at least) [
    | inl before ↦ stays_one (get_or row q 0) (done q before)
    | inr here ↦
        subst (λ i. get_or (put_in now n truth).truths i false ≡ get_or wanted i false)
        (sym (ap (λ i. get_or row i 0) here ∙ same)) put_one
  ]

  -- the truths before a place are wanted, and then the one at it
  pub front_more : ((k : ℕ) → k < n → get_or now.truths k false ≡ get_or wanted k false)
      → (k : ℕ) → k < n + 1 → get_or (put_in now n truth).truths k false ≡ get_or wanted k false
  front_more done k least = elim (below_or_last k n least) [
    | inl before ↦ stays_one k (done k before)
    | inr here ↦
        subst (λ i. get_or (put_in now n truth).truths i false ≡ get_or wanted i false) (sym here) put_one
  ]

-- what stands on the row of a node that changed is the number of a comparison
pub number_within : (comparisons : List Comparison) (rows : List (List ℕ)) (table : TableSeen)
    (values changed row : List ℕ)
    (p q : ℕ) → AreUses comparisons (length table.nodes) rows → AreChanged table values → changed ≡ table.changed
    → p < length changed → row ≡ row_at rows (get_or changed p 0) → q < length row
    → get_or row q 0 < length comparisons
number_within comparisons rows table values changed row p q uses are all here is within =
    uses.within (get_or changed p 0) (get_or row q 0)
    (subst (IsListed (get_or row q 0)) is (record { place = q; within = within; here = refl }))

module _ (comparisons : List Comparison) (rows : List (List ℕ)) (table : TableSeen)
    (over : AreOver table.nodes comparisons)
    (uses : AreUses comparisons (length table.nodes) rows) (old now : KeptSeen)
    (told : IsTold comparisons old.truths table)
    (settles : Settles (truths_by table.values comparisons) old now) where
  -- the comparisons of each node that changed have their wanted truths
  abbrev pub AreDone : ℕ → Type 0
  AreDone count =
      (p k : ℕ) → p < count → IsListed k (row_at rows (get_or table.changed p 0))
      → get_or now.truths k false ≡ get_or (truths_by table.values comparisons) k false

  module _ (done : AreDone (length table.changed)) (k : ℕ) (below : k < length comparisons) where
    abbrev c : Comparison
    c = comparison_at comparisons k

    by_node : (node : ℕ) → IsListed node table.changed → IsListed k (row_at rows node)
        → get_or now.truths k false ≡ get_or (truths_by table.values comparisons) k false
    by_node node is on =
        done is.place k is.within (subst (λ n. IsListed k (row_at rows n)) (sym is.here) on)

    as_before : get_or told.values c.left 0 ≡ get_or table.values c.left 0
        → get_or told.values c.right 0 ≡ get_or table.values c.right 0
        → get_or old.truths k false ≡ get_or (truths_by table.values comparisons) k false
    as_before left right =
        ap (λ ts. get_or ts k false) told.were
        ∙ truth_by told.values comparisons k below
        ∙ ap₂ (compared c.op) left right
        ∙ sym (truth_by table.values comparisons k below)

    kept : get_or old.truths k false ≡ get_or (truths_by table.values comparisons) k false
        → get_or now.truths k false ≡ get_or (truths_by table.values comparisons) k false
    kept same = elim (settles.either k) [ inl settled ↦ settled | inr as_old ↦ as_old ∙ same ]

    -- whether its nodes changed or not
    pub settled_changed : get_or now.truths k false ≡ get_or (truths_by table.values comparisons) k false
    settled_changed = elim (cases_eq (get_or told.values c.left 0) (get_or table.values c.left 0)) [
      | inr apart ↦
          by_node c.left (told.changed.each c.left (over k below).within.left apart) (uses.left k below)
      | inl left ↦ elim (cases_eq (get_or told.values c.right 0) (get_or table.values c.right 0)) [
        | inr apart ↦
            by_node c.right (told.changed.each c.right (over k below).within.right apart) (uses.right k below)
        | inl right ↦ kept (as_before left right)
      ]
    ]

-- what was settled is what a frame makes of truths
pub takes : (old : TruthsSeen) (first kept : KeptSeen) (table : TableSeen) (comparisons : List Comparison)
    → comparisons ≡ old.comparisons → first.truths ≡ old.truths → kept.truths ≡ truths_by table.values comparisons
    → Settles (truths_by table.values comparisons) first kept
    → Takes old (record {
      comparisons = old.comparisons;
      nodes = old.nodes;
      truths = kept.truths;
      flipped = kept.flipped;
      known = true;
    }) table
takes old first kept table comparisons same was settled settles = record {
  comparisons = refl;
  nodes = refl;
  known = refl;
  truths = settled ∙ ap (truths_by table.values) same;
  each = λ k differs. settles.each k (λ e. differs (sym (ap (λ ts. get_or ts k false) was) ∙ e));
  only = λ k is.
      let only = settles.only k is in (
        omega (arith, only.0, length-map comparisons (holds_by table.values), ap length same),
        λ e. only.1 (ap (λ ts. get_or ts k false) was ∙ e ∙ ap (λ ts. get_or ts k false) settled),
      );
  few = omega (arith, settles.room, length-map comparisons (holds_by table.values), ap length same);
}

-- the same of truths that are seen by their fields
pub takes_seen : (seen old : TruthsSeen) → seen ≡ old → (first kept : KeptSeen) (table : TableSeen)
    (comparisons : List Comparison) → comparisons ≡ seen.comparisons → first.truths ≡ seen.truths
    → kept.truths ≡ truths_by table.values comparisons → Settles (truths_by table.values comparisons) first kept
    → Takes old (record {
      comparisons = seen.comparisons;
      nodes = seen.nodes;
      truths = kept.truths;
      flipped = kept.flipped;
      known = true;
    }) table
takes_seen seen old is first kept table comparisons same was settled settles =
    let new : TruthsSeen = record {
      comparisons = seen.comparisons;
      nodes = seen.nodes;
      truths = kept.truths;
      flipped = kept.flipped;
      known = true;
    } in
    subst (λ s. Takes s new table) is (takes seen first kept table comparisons same was settled settles)

-- a truth that is not listed is what it was
stays : (old new : TruthsSeen) (table : TableSeen) → Takes old new table → (k : ℕ) → (IsListed k new.flipped → ⊥)
    → get_or new.truths k false ≡ get_or old.truths k false
stays old new table takes k out = elim (differ_tells (get_or old.truths k false) (get_or new.truths k false)) [
  | inl d ↦ absurd (out (takes.each k d.1))
  | inr s ↦ sym s.1
]

-- and so are the truths of a row of which none is listed
pub unflipped : (old new : TruthsSeen) (table : TableSeen) → Takes old new table → (numbers : List ℕ)
    → HasNone new.flipped numbers
    → map (λ k. get_or new.truths k false) numbers ≡ map (λ k. get_or old.truths k false) numbers
unflipped old new table takes [] none = refl
unflipped old new table takes (x ∷ numbers) none =
    ap₂ (λ t ts. t ∷ ts)
    (stays old new table takes x (none x (record { place = 0; within = omega arith; here = refl })))
    (unflipped old new table takes numbers
    (λ k is. none k (record { place = suc is.place; within = omega (arith, is.within); here = is.here })))

-- after a sample the table lists each node with another value than before it
pub changed_by : (old new : TableSeen) → new.nodes ≡ old.nodes → ListsChanged old new → AreChanged new old.values
changed_by old new same lists = record {
  each = λ n below apart. lists.each n (omega (arith, below, ap length same)) apart;
  nodes = λ k below. omega (arith, lists.nodes k below, ap length same);
}
