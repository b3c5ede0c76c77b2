-- What a slot keeps, and what it is taken up to.
use Rattle.std.proofs.Common.{◌≡◌, zero, suc, replicate, slice_index_or, slice_set, ℕ, ◌+◌, ◌*◌, ◌≤◌, Option, None}
use Rattle.std.proofs.Common.{Some, List, [], ◌∷◌, length, refl, sym, ap, ap₂, subst, ◌∙◌, arith}
use Rattle.ra_condition.specs.Contents.{TriggerContents, trigger_hits}
use Rattle.ra_memory.specs.Image.{History}
use Rattle.ra_memref.specs.Table.{TableSeen}
use Rattle.ra_trigger.specs.Steps.{TriggerKept}
use Rattle.ra_explain.specs.Recorders.{StandsFor, rows_behind}
use Rattle.ra_explain.specs.Slots.{HaveCounts, IsSlotOf, counts_of}
use Rattle.ra_explain.proofs.FrameLemmas.{counts_kept}
use Rattle.ra_explain.proofs.SlotLemmas.{slot_of}
use Rattle.ra_account.specs.declared.trigger_account.TriggerAccount.{TriggerAccount}
use Rattle.ra_why.specs.Frames.{frames_of}
use Rattle.ra_why.specs.Watching.{GoesOn, IsKeptOf, IsSomewhere, MayTakeUp, MayTakeUpSlot, SlotStands, StandsWith}
use Rattle.ra_why.specs.Watching.{slot_in}
use Rattle.ra_why.specs.declared.kept.Kept.{Kept}

-- as the slot of a recorder
as_slot : (table : TableSeen) (trigger : TriggerKept) (account : TriggerAccount) (kept : Kept)
    → IsKeptOf table trigger account kept → IsSlotOf table trigger 0 (slot_in kept)
as_slot table trigger account kept is =
    slot_of table trigger (slot_in kept) is.state is.measured is.hits is.numbers is.hits_fit is.cells_fit is.priors_fit

-- how many numbers are kept of what is kept after some history
pub counts_somewhere : (t : TriggerContents) (table : TableSeen) (trigger : TriggerKept)
    → length trigger.hits ≡ trigger_hits t → IsSomewhere t table trigger → HaveCounts (counts_of t) table trigger
counts_somewhere t table trigger hits somewhere =
    counts_kept t table trigger (rows_behind t somewhere.history) hits
    (record { history = somewhere.history; stands = somewhere.stands })

module _ (t : TriggerContents) (table : TableSeen) (trigger : TriggerKept) (account : TriggerAccount) (kept : Kept)
    (is : IsKeptOf table trigger account kept) (hits : length trigger.hits ≡ trigger_hits t)
    (somewhere : IsSomewhere t table trigger) where
  counts : HaveCounts (counts_of t) table trigger
  counts = counts_somewhere t table trigger hits somewhere

  -- what is kept can be taken up
  pub may_take_up : (most : ℕ) → GoesOn t most account → MayTakeUp t most kept
  may_take_up most goes = record {
    somewhere = record {
      history = somewhere.history;
      stands = subst (λ k. StandsFor t k somewhere.history)
          (sym ((as_slot table trigger account kept is).kept (counts_of t)
          (rows_behind t somewhere.history ∷ []) counts)) somewhere.stands;
    };
    hits = (as_slot table trigger account kept is).hits ∙ ap (λ n. 4 * n) counts.hits;
    numbers = (as_slot table trigger account kept is).numbers ∙ ap₂ (λ m n. 4 * (m + n)) counts.cells counts.priors;
    account = record {
      ready = is.account_too.0 t goes.ready;
      few =
          subst (λ n. n ≤ most) (sym is.account_too.1.1) goes.few;
    };
  }

  -- and stands for each history for which it was kept
  pub kept_stands : (size : ℕ) (history : History) → StandsWith t size table trigger account history
      → SlotStands t size kept history
  kept_stands size history stands = record {
    kept_too = subst (λ k. StandsFor t k history)
        (sym ((as_slot table trigger account kept is).kept (counts_of t) (rows_behind t history ∷ []) counts))
        stands.kept;
    account_too = is.account_too.1.0 t size (frames_of t history) stands.account_too;
  }

-- nothing is in an empty slot
pub none_in : {A : Type 0} (n k : ℕ) → slice_index_or (replicate {A = Option A} n None) k None ≡ None
none_in zero k = refl
none_in (suc n) zero = refl
none_in (suc n) (suc k) = none_in n k

-- what can be taken up with few frames can be with more
pub more_frames : (t : TriggerContents) (most : ℕ) (o : Option Kept) → MayTakeUpSlot t most o
    → MayTakeUpSlot t (most + 1) o
more_frames t most None may = tt
more_frames t most (Some kept) may = record {
  hits = may.hits;
  numbers = may.numbers;
  account = record { ready = may.account.ready; few = omega (arith, may.account.few) };
  somewhere = may.somewhere;
}

-- where a slot is filled with what can be taken up
pub filled_slot : (t : TriggerContents) (most : ℕ) (slots : List (Option Kept)) (named : ℕ) (kept : Kept)
    → ((k : ℕ) → MayTakeUpSlot t most (slice_index_or slots k None)) → MayTakeUp t most kept
    → (k : ℕ) → MayTakeUpSlot t most (slice_index_or (slice_set slots named (Some kept)) k None)
filled_slot t most [] named kept each may k = each k
filled_slot t most (slot ∷ slots) zero kept each may zero = may
filled_slot t most (slot ∷ slots) zero kept each may (suc k) = each (suc k)
filled_slot t most (slot ∷ slots) (suc named) kept each may zero = each 0
filled_slot t most (slot ∷ slots) (suc named) kept each may (suc k) =
    filled_slot t most slots named kept (λ j. each (suc j)) may k
