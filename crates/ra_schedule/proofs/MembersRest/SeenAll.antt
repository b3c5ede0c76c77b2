-- What is seen of all places, and of each; and the readers of all places, made one by one.
use Rattle.std.proofs.Common.{◌≡◌, ◌⊎◌, inl, inr, ℕ, zero, suc, ◌+◌, ◌<◌, ◌≤◌, true, false, Option, None, IfSome, List}
use Rattle.std.proofs.Common.{[], ◌∷◌, length, map, get_or, replicate, refl, sym, ◌∙◌, ap, ap₂, subst, arith}
use Rattle.std.proofs.lemmas.Bool.{cases_lt}
use Rattle.std.proofs.lemmas.List.{get_or-replicate, length-replicate}
use Rattle.ra_indirect.specs.declared.node.Node.{Node}
use Rattle.ra_truths.specs.Truths.{TruthsSeen}
use Rattle.ra_schedule.specs.Readers.{ReadersSeen}
use Rattle.ra_schedule.specs.Schedules.{AllSteps, AreAtRest, IsHeard, ScheduleSeen, frames_since, is_due}
use Rattle.ra_schedule.specs.Schedules.{no_truths, nothing_owed, owed_at, seen_all, since_at}
use Rattle.ra_schedule.specs.Signals.{AreSignals, KeepsAll, SignalsSeen}

-- where none rests, nothing is owed
pub nothing_owed_at : (readers : ReadersSeen) (truths : TruthsSeen) (clock k : ℕ)
    → owed_at (nothing_owed readers truths clock) k ≡ None
nothing_owed_at readers truths clock k = ap (frames_since clock) (all_none (length readers.due) k)
  where
    no_count : Option ℕ
    no_count = None

    all_none : (n k : ℕ) → get_or (replicate n no_count) k no_count ≡ no_count
    all_none zero k = refl
    all_none (suc n) zero = refl
    all_none (suc n) (suc k) = all_none n k

-- and all are due, so of those at rest everything holds
pub nothing_at_rest : (On : ℕ → Type 0) (places : ℕ) (readers : ReadersSeen) (truths : TruthsSeen)
    (clock : ℕ) (s : ScheduleSeen) → s ≡ nothing_owed readers truths clock → length readers.due
    ≡ places → AreAtRest On places s
nothing_at_rest On places readers truths clock s is many = record {
  due_many = ap (λ (s : ScheduleSeen). length s.readers.due) is ∙ length-replicate (length readers.due) true ∙ many;
  since_many = ap (λ (s : ScheduleSeen). length s.since) is ∙ length-replicate (length readers.due) no_count ∙ many;
  early = λ k within.
      subst (λ c. IfSome c (λ since. since ≤ s.clock)) (sym (ap (λ (s : ScheduleSeen). since_at s k)
      is ∙ get_or-replicate (length readers.due) k no_count None (omega (arith, within, many)))) tt;
  rests = λ k within quiet. absurd (due k within quiet);
  known = λ k within quiet. absurd (due k within quiet);
  on = λ k within quiet. absurd (due k within quiet);
}
  where
    no_count : Option ℕ
    no_count = None

    due : (k : ℕ) → k < places → is_due s k ≡ false → ⊥
    due k within quiet =
        let yes : is_due s k ≡ true = ap (λ (s : ScheduleSeen). is_due s k) is
        ∙ get_or-replicate (length readers.due) k true true (omega (arith, within, many)) in
        let bad : true ≡ false = sym yes ∙ quiet in cc

module _ (Run Before Kept : Type 0) (seen : Run → Before → Option ℕ → Kept) where
  -- as much is seen as there are places
  pub seen_many : (owed : ℕ → Option ℕ) (runs : List Run) (befores : List Before) → length befores
      ≡ length runs → length (seen_all seen owed runs befores) ≡ length runs
  seen_many owed [] befores many = refl
  seen_many owed (run ∷ runs) [] many = absurd (omega (arith, many))
  seen_many owed (run ∷ runs) (before ∷ befores) many =
      ap suc (seen_many (λ k. owed (suc k)) runs befores (omega (arith, many)))

  -- what is seen at a place
  pub seen_at : (owed : ℕ → Option ℕ) (k : ℕ) (runs : List Run) (befores : List Before) (run : Run)
      (before : Before) (kept : Kept) → k < length runs → length befores ≡ length runs
      → get_or (seen_all seen owed runs befores) k kept ≡ seen (get_or runs k run) (get_or befores k before) (owed k)
  seen_at owed k [] befores run before kept within many = absurd (omega (arith, within))
  seen_at owed k (r ∷ runs) [] run before kept within many = absurd (omega (arith, many))
  seen_at owed zero (r ∷ runs) (b ∷ befores) run before kept within many = refl
  seen_at owed (suc k) (r ∷ runs) (b ∷ befores) run before kept within many =
      seen_at (λ n. owed (suc n)) k runs befores run before kept (omega (arith, within)) (omega (arith, many))

  -- where none rests, what each keeps is seen
  pub seen_awake : (keeps : Run → Kept) → ((run : Run) (before : Before) → seen run before None
      ≡ keeps run) → (owed : ℕ → Option ℕ) → ((k : ℕ) → owed k ≡ None)
      → (runs : List Run) (befores : List Before) → length befores ≡ length runs
      → seen_all seen owed runs befores ≡ map keeps runs
  seen_awake keeps awake owed none [] befores many = refl
  seen_awake keeps awake owed none (run ∷ runs) [] many = absurd (omega (arith, many))
  seen_awake keeps awake owed none (run ∷ runs) (before ∷ befores) many =
      ap₂ (λ x xs. x ∷ xs) (ap (seen run before) (none 0) ∙ awake run before) (seen_awake keeps
      awake (λ k. owed (suc k)) (λ k. none (suc k)) runs befores (omega (arith, many)))

-- what holds of each step holds of all of them
pub all_steps : (Thing Kept Said : Type 0) (Steps : Thing → Kept → Kept → Said → Type 0)
    (things : List Thing) (olds news : List Kept) (all : List Said)
    → length olds ≡ length things → length news ≡ length things → length all ≡ length things
    → ((k : ℕ) → k < length things → (thing : Thing) (old new : Kept) (said : Said)
    → Steps (get_or things k thing) (get_or olds k old) (get_or news k new) (get_or all k said))
    → AllSteps Steps things olds news all
all_steps Thing Kept Said Steps [] [] [] [] a b c each = tt
all_steps Thing Kept Said Steps [] (old ∷ olds) news all a b c each = absurd (omega (arith, a))
all_steps Thing Kept Said Steps [] [] (new ∷ news) all a b c each = absurd (omega (arith, b))
all_steps Thing Kept Said Steps [] [] [] (said ∷ all) a b c each = absurd (omega (arith, c))
all_steps Thing Kept Said Steps (thing ∷ things) [] news all a b c each = absurd (omega (arith, a))
all_steps Thing Kept Said Steps (thing ∷ things) (old ∷ olds) [] all a b c each = absurd (omega (arith, b))
all_steps Thing Kept Said Steps (thing ∷ things) (old ∷ olds) (new ∷ news) [] a b c each = absurd (omega (arith, c))
all_steps Thing Kept Said Steps (thing ∷ things) (old ∷ olds) (new ∷ news) (said ∷ all) a b c each = (
  each 0 (omega arith) thing old new said,
  all_steps Thing Kept Said Steps things olds news all (omega (arith, a)) (omega (arith, b))
      (omega (arith, c)) (λ k within. each (suc k) (omega (arith, within))),
)

-- the readers of one place more are noted
pub signals_on : (nodes : List Node) (Told : SignalsSeen → ℕ → Type 0) (places : ℕ)
    (s now : SignalsSeen) (place : ℕ) → AreSignals nodes Told places s place → KeepsAll nodes s now
    → ((k : ℕ) → Told s k → Told now k) → Told now place → AreSignals nodes Told places now (place + 1)
signals_on nodes Told places s now place are keeps still told = record {
  nodes_too = are.nodes_too ∙ sym keeps.nodes_too;
  over = keeps.over are.over;
  due = keeps.due ∙ are.due;
  told = λ k below. at k below (cases_lt k place);
}
  where
    at : (k : ℕ) → k < place + 1 → (k < place) ⊎ (place ≤ k) → Told now k
    at k below (inl early) = still k (are.told k early)
    at k below (inr late) =
        let here : place ≡ k = omega (arith, below, late) in
        subst (Told now) here told

-- of no place yet
pub no_signals : (nodes : List Node) (Told : SignalsSeen → ℕ → Type 0) (places : ℕ)
    (s : SignalsSeen) → length nodes ≡ s.nodes → s.comparisons ≡ [] → s.readers.due
    ≡ replicate places true → AreSignals nodes Told places s 0
no_signals nodes Told places s nodes_too none due = record {
  nodes_too = nodes_too;
  over = λ k within. absurd (omega (arith, within, ap length none));
  due = due;
  told = λ k below. absurd (omega (arith, below));
}

-- a new schedule has the comparisons of its signals, and no truths yet
pub heard_new : (nodes : List Node) (values : List ℕ) (Told : SignalsSeen → ℕ → Type 0)
    (places place : ℕ) (signals : SignalsSeen) (s : ScheduleSeen)
    → AreSignals nodes Told places signals place
    → s ≡ nothing_owed signals.readers (no_truths signals.nodes signals.comparisons) 0 → IsHeard nodes values s
heard_new nodes values Told places place signals s are is = subst (IsHeard nodes values) (sym is) (record {
  nodes_too = are.nodes_too;
  over = are.over;
  truths = λ known. (let bad : false ≡ true = known in absurd (cc));
})

-- and one of which what is owed is given up has its truths
pub heard_forgotten : (nodes : List Node) (values : List ℕ) (old new : ScheduleSeen)
    → IsHeard nodes values old → new ≡ nothing_owed old.readers old.truths old.clock → IsHeard nodes values new
heard_forgotten nodes values old new heard is = subst (IsHeard nodes values) (sym is) (record {
  nodes_too = heard.nodes_too;
  over = heard.over;
  truths = heard.truths;
})
