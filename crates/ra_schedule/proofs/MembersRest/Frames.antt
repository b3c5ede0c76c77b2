-- The places that are due, stepped one after the other: what holds of each of them after a frame, due or not.
use Rattle.std.proofs.Common.{◌≡◌, ◌⊎◌, inl, inr, ℕ, ◌+◌, ◌-◌, ◌<◌, ◌≤◌, not, ◌&&◌, Bool, true, false, Option, None}
use Rattle.std.proofs.Common.{Some, IfSome, slice_set, if◌then◌else◌, List, length, slice_index_or, refl, sym, ◌∙◌, ap}
use Rattle.std.proofs.Common.{subst, arith}
use Rattle.std.specs.Option.{is_some}
use Rattle.std.proofs.Math.Path.{transport}
use Rattle.std.proofs.lemmas.Bool.{cases_eq}
use Rattle.std.proofs.lemmas.List.{get_or-set_same, get_or-set_other, length-set}
use Rattle.ra_memref.specs.Flags.{NoneSet, IsFirstSet}
use Rattle.ra_memref.specs.Table.{TableSeen}
use Rattle.ra_schedule.specs.Schedules.{AreAtRest, Begins, IsHeard, MayBegin, ScheduleSeen, frames_since, is_due}
use Rattle.ra_schedule.specs.Schedules.{next_count, noted_at, owed_at, since_at}
use Rattle.ra_truths.specs.Comparisons.{AreOver, truths_by}
use Rattle.ra_truths.specs.Truths.{TruthsSeen}
use Rattle.ra_schedule.specs.Waking.{Agrees, AreChanged}
use Rattle.ra_schedule.proofs.MembersRest.Turns.{AreTaken, taken_ends, taken_on}
use Rattle.ra_schedule.proofs.MembersRest.Woken.{quiet_same, was_quiet}

-- a place: what its owner has there, since when it rests, and whether it is due
pub record Place (Spot : Type 0) : Type 0 where
  pub spot : Spot
  pub since : Option ℕ
  pub due : Bool

abbrev pub place_of : (Spot : Type 0) → ScheduleSeen → (ℕ → Spot) → ℕ → Place Spot
place_of Spot s spots k = record { spot = spots k; since = since_at s k; due = is_due s k }

-- a place that took a frame: it is seen to, it rests since no later count, and where it is not due it rests, and this
-- holds of it
pub record IsDone (Spot Kept : Type 0) (seen : Spot → Option ℕ → Kept) (Steps : Kept → Kept → Spot
    → Type 0) (On : Spot → Type 0) (next : ℕ) (old : Kept) (p : Place Spot) : Type 0 where
  pub steps : Steps old (seen p.spot (frames_since next p.since)) p.spot
  pub early : IfSome p.since (λ since. since ≤ next)
  pub rests : p.due ≡ false → is_some p.since ≡ true
  pub on : p.due ≡ false → On p.spot

-- the places in front of one are gone through: those that were due are done, and all others are as they were
abbrev pub AreUnderWay : (Spot : Type 0) (Done : ℕ → Place Spot → Type 0) (start : ScheduleSeen)
    (olds : ℕ → Spot) (now : ScheduleSeen) (news : ℕ → Spot) (at : ℕ) → Type 0
AreUnderWay Spot Done start olds now news at = AreTaken (Place Spot) start.readers.due
    (place_of Spot start olds) Done (place_of Spot now news) at

-- a schedule while its places are stepped: as many places, the same readers and truths, and the same count of frames;
-- where no truth is known all are due
pub record IsAlong (start now : ScheduleSeen) : Type 0 where
  pub due_many : length now.readers.due ≡ length start.readers.due
  pub since_many : length now.since ≡ length start.since
  pub rows : now.readers.rows ≡ start.readers.rows
  pub truths : now.truths ≡ start.truths
  pub clock : now.clock ≡ start.clock
  pub awake : (k : ℕ) → is_due now k ≡ false → now.truths.known ≡ true

pub along_begins : (start : ScheduleSeen) → ((k : ℕ) → is_due start k ≡ false → start.truths.known ≡ true)
    → IsAlong start start
along_begins start awake = record {
  due_many = refl;
  since_many = refl;
  rows = refl;
  truths = refl;
  clock = refl;
  awake = awake;
}

pub along_on : (start now after : ScheduleSeen) (place : ℕ) (rests : Bool) → IsAlong start now
    → place < length now.readers.due → (rests ≡ true → now.truths.known ≡ true)
    → after ≡ noted_at place rests now → IsAlong start after
along_on start now after place rests along within known is = record {
  due_many = ap (λ (s : ScheduleSeen). length s.readers.due) is
      ∙ length-set now.readers.due place (not rests) ∙ along.due_many;
  since_many = ap (λ (s : ScheduleSeen). length s.since) is ∙ length-set now.since place
      (if rests then Some (next_count now.clock) else None) ∙ along.since_many;
  rows = ap (λ (s : ScheduleSeen). s.readers.rows) is ∙ along.rows;
  truths = ap (λ (s : ScheduleSeen). s.truths) is ∙ along.truths;
  clock = ap (λ (s : ScheduleSeen). s.clock) is ∙ along.clock;
  awake = λ k quiet. ap (λ (s : ScheduleSeen). s.truths.known) is
      ∙ still_known k (sym (ap (λ (s : ScheduleSeen). is_due s k) is) ∙ quiet);
}
  where
    resting : (b : Bool) → not b ≡ false → b ≡ true
    resting true e = refl
    resting false e = (let bad : true ≡ false = e in absurd (cc))

    still_known : (k : ℕ) → is_due (noted_at place rests now) k ≡ false → now.truths.known ≡ true
    still_known k quiet = elim (cases_eq k place) [
      | inl here ↦ known (resting rests
          (sym (ap (λ j. slice_index_or (slice_set now.readers.due place (not rests)) j true) here
          ∙ get_or-set_same now.readers.due place (not rests) true within) ∙ quiet))
      | inr apart ↦ along.awake k (sym (get_or-set_other now.readers.due place k (not rests) true apart) ∙ quiet)
    ]

-- what rests where a step says so and truths are known
pub both_true : (rests known : Bool) → (rests && known) ≡ true → (rests ≡ true) × (known ≡ true)
both_true true true both = (refl, refl)
both_true true false both = (let bad : false ≡ true = both in absurd (cc))
both_true false known both = (let bad : false ≡ true = both in absurd (cc))

-- what a place that was not due went on to rest by
abbrev pub Quiet : TableSeen → (values : List ℕ) → ScheduleSeen → ℕ → Type 0
Quiet table values old k = Agrees (length table.nodes) old.truths.comparisons old.readers k values table.values

-- a place took a frame
abbrev pub Took : (old : ScheduleSeen) (Spot Kept : Type 0) (seen : Spot → Option ℕ → Kept)
    (Steps : ℕ → Kept → Kept → Spot → Type 0) (On : ℕ → Spot → Type 0) (olds : ℕ → Spot) → ℕ
    → Place Spot → Type 0
Took old Spot Kept seen Steps On olds k p =
    IsDone Spot Kept seen (Steps k) (On k) (next_count old.clock) (seen (olds k) (owed_at old k)) p

module _ (Spot Kept : Type 0) (seen : Spot → Option ℕ → Kept) (Steps : Kept → Kept → Spot → Type 0)
    (On : Spot → Type 0) (next : ℕ) (old : Kept) (new : Spot) where
  -- a place that was stepped, and that owes nothing where it rests
  pub done_now : (rests : Bool) → Steps old (seen new None) new
      → (rests ≡ true → (seen new (Some 0) ≡ seen new None) × On new)
      → IsDone Spot Kept seen Steps On next old
      (record { spot = new; since = if rests then Some next else None; due = not rests })
  done_now true steps both = record {
    steps =
        let none : next - next ≡ 0 = omega arith in
        subst (λ kept. Steps old kept new) (sym (ap (λ n. seen new (Some n)) none ∙ (both refl).0)) steps;
    early = omega arith;
    rests = λ quiet. refl;
    on = λ quiet. (both refl).1;
  }
  done_now false steps both = record {
    steps = steps;
    early = tt;
    rests = λ quiet. (let bad : true ≡ false = quiet in absurd (cc));
    on = λ quiet. (let bad : true ≡ false = quiet in absurd (cc));
  }

  -- a place that goes on to rest owes a frame more
  pub done_still : (clock : ℕ) (since : Option ℕ) (due : Bool) → next ≡ clock + 1 → old ≡ seen new
      (frames_since clock since) → is_some since ≡ true → IfSome since (λ since. since ≤ clock)
      → ((n : ℕ) → Steps (seen new (Some n)) (seen new (Some (n + 1))) new) → On new
      → IsDone Spot Kept seen Steps On next old (record { spot = new; since = since; due = due })
  done_still clock None due later was rests early skip on = let bad : false ≡ true = rests in absurd (cc)
  done_still clock (Some since) due later was rests early skip on = record {
    steps =
        let more : (clock - since) + 1 ≡ next - since = omega (arith, early, later) in
        transport (λ i. Steps (sym was i) (seen new (Some (more i))) new) (skip (clock - since));
    early = omega (arith, early, later);
    rests = λ quiet. refl;
    on = λ quiet. on;
  }

module _ (Spot : Type 0) (Done : ℕ → Place Spot → Type 0) (start : ScheduleSeen) (olds : ℕ → Spot)
    (now : ScheduleSeen) (news : ℕ → Spot) (at place : ℕ) (along : IsAlong start now)
    (far : AreUnderWay Spot Done start olds now news at) (first : IsFirstSet now.readers.due at place) where
  -- the place that is due next is as it was, and owes what it owed
  pub still_there : place_of Spot now news place ≡ place_of Spot start olds place
  still_there = far.same place (inl first.after)

  pub still_owed : owed_at now place ≡ owed_at start place
  still_owed = (λ i. frames_since (along.clock i) (still_there i).since)

  same_due : (k : ℕ) → at ≤ k → is_due now k ≡ is_due start k
  same_due k late = ap (λ (p : Place Spot). p.due) (far.same k (inl late))

  -- one place more is noted
  module _ (after : ScheduleSeen) (spots : ℕ → Spot) (rests : Bool) (next : ℕ) (within : place
      < length now.since) (is : after ≡ noted_at place rests now) (next_is : next_count now.clock
      ≡ next)
      (others : (k : ℕ) → (k ≡ place → ⊥) → spots k ≡ news k) (done : Done place (record
      { spot = spots place; since = if rests then Some next else None; due = not rests })) where
    here : record { spot = spots place; since = if rests then Some next else None; due = not rests }
        ≡ place_of Spot after spots place
    here =
        let since = sym (ap (λ (s : ScheduleSeen). since_at s place) is
        ∙ get_or-set_same now.since place (if rests then Some (next_count now.clock)
        else None) None within ∙ ap (λ c. if rests then Some c else None) next_is) in
        let due = sym (ap (λ (s : ScheduleSeen). is_due s place) is
        ∙ get_or-set_same now.readers.due place (not rests) true first.within) in
        (λ i. record { spot = spots place; since = since i; due = due i })

    other : (k : ℕ) → (k ≡ place → ⊥) → place_of Spot after spots k ≡ place_of Spot now news k
    other k not_here =
        let since = ap (λ (s : ScheduleSeen). since_at s k) is ∙ get_or-set_other now.since place k
        (if rests then Some (next_count now.clock) else None) None not_here in
        let due = ap (λ (s : ScheduleSeen). is_due s k) is
        ∙ get_or-set_other now.readers.due place k (not rests) true not_here in
        (λ i. record { spot = others k not_here i; since = since i; due = due i })

    pub under_way_on : AreUnderWay Spot Done start olds after spots (place + 1)
    under_way_on =
        taken_on (Place Spot) start.readers.due (place_of Spot start olds) Done
        (place_of Spot now news) (place_of Spot after spots) at place far first.after
        (sym (same_due place first.after) ∙ first.here) (λ k late early. sym (same_due k late)
        ∙ first.none_before k late early) (subst (Done place) here done) other

-- at the end of a frame at which these signals changed
module _ (table : TableSeen) (values : List ℕ) (changed : AreChanged table values) (places : ℕ) (old
    start : ScheduleSeen) (heard : IsHeard table.nodes values old) (begun : Begins table old start)
    (Spot Kept : Type 0) (seen : Spot → Option ℕ → Kept) (Steps : ℕ → Kept → Kept → Spot → Type 0)
    (On : ℕ → Spot → Type 0) (olds : ℕ → Spot) (Was : ℕ → Type 0) (rests : AreAtRest Was places old)
    (skip : (k : ℕ) → k < places → Was k → Quiet table values old k → (n : ℕ)
    → Steps k (seen (olds k) (Some n)) (seen (olds k) (Some (n + 1))) (olds k))
    (still : (k : ℕ) → k < places → Was k → Quiet table values old k → On k (olds k))
    (now : ScheduleSeen) (news : ℕ → Spot) (at : ℕ) (along : IsAlong start now)
    (far : AreUnderWay Spot (Took old Spot Kept seen Steps On olds) start olds now news at)
    (none : NoneSet now.readers.due at (length now.readers.due)) where
  quiet_from : NoneSet start.readers.due at places
  quiet_from k late early =
      sym (ap (λ (p : Place Spot). p.due) (far.same k (inl late)))
      ∙ none k late (omega (arith, early, along.due_many, begun.woken.long, rests.due_many))

  -- a place that was not due is at rest still
  rested : (k : ℕ) → k < places → is_due start k ≡ false
      → Took old Spot Kept seen Steps On olds k (place_of Spot start olds k)
  rested k within quiet =
      let woken = was_quiet table values old start changed heard begun k quiet in
      let same_still = quiet_same table values old start changed heard begun (rests.known k within woken.0) k quiet in
      let small : old.clock < 18446744073709551615 = woken.1 in
      let same : since_at start k ≡ since_at old k =
      ap (λ (xs : List (Option ℕ)). slice_index_or xs k None) begun.since in
      subst (λ s. Took old Spot Kept seen Steps On olds k
      (record { spot = olds k; since = s; due = is_due start k })) (sym same)
      (done_still Spot Kept seen (Steps k) (On k) (next_count old.clock)
      (seen (olds k) (owed_at old k)) (olds k) old.clock (since_at old k) (is_due start k)
      (omega (arith, small)) refl (rests.rests k within woken.0) (rests.early k within)
      (skip k within (rests.on k within woken.0) same_still) (still k within (rests.on k within woken.0) same_still))

  pub took_frame : (k : ℕ) → k < places → Took old Spot Kept seen Steps On olds k (place_of Spot now news k)
  took_frame k within =
      by_end (taken_ends (Place Spot) start.readers.due (place_of Spot start olds) (Took old Spot
      Kept seen Steps On olds) (place_of Spot now news) at places far quiet_from k within)
    where
      by_end : Took old Spot Kept seen Steps On olds k (place_of Spot now news k)
          ⊎ ((is_due start k ≡ false) × (place_of Spot now news k ≡ place_of Spot start olds k))
          → Took old Spot Kept seen Steps On olds k (place_of Spot now news k)
      by_end (inl done) = done
      by_end (inr same) = subst (Took old Spot Kept seen Steps On olds k) (sym same.1) (rested k within same.0)

-- the comparisons are over the same nodes, and their truths are by the values of the table
pub heard_after : (table : TableSeen) (values : List ℕ) (old start now : ScheduleSeen)
    → IsHeard table.nodes values old → Begins table old start → now.truths ≡ start.truths
    → IsHeard table.nodes table.values now
heard_after table values old start now heard begun same = subst (λ (t : TruthsSeen). IsHeard
    table.nodes table.values (record now { truths = t })) (sym same) (record {
      nodes_too = heard.nodes_too ∙ sym begun.nodes;
      over = subst (AreOver table.nodes) (sym begun.comparisons) heard.over;
      truths = λ known. (begun.truths known).truths ∙ ap (truths_by table.values) (sym begun.comparisons);
    })

-- a frame may begin where the comparisons are over the nodes of the table, and it lists each that changed
pub may_begin : (table : TableSeen) (values : List ℕ) (s : ScheduleSeen) → AreChanged table values
    → IsHeard table.nodes values s → table.sampled ≡ true → MayBegin table s
may_begin table values s changed heard sampled = record {
  nodes = heard.nodes_too;
  over = heard.over;
  sampled = sampled;
  told = λ known. record { values = values; were = heard.truths known; changed = changed };
  changed = changed.nodes;
}
