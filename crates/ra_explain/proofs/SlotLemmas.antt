-- What the slots of a recorder keep, where a row is added, a slot is filled, and a slot is taken up.
use Rattle.std.proofs.Common.{◌≡◌, ◌≢◌, ℕ, zero, suc, ◌+◌, ◌*◌, ◌<◌, Bool, Option, None, Some, option_map, List, []}
use Rattle.std.proofs.Common.{◌∷◌, ◌++◌, length, length-append, get_or, Fits, w32, map, replicate, slice_index_or}
use Rattle.std.proofs.Common.{slice_set, refl, sym, ◌∙◌, ap, ap₂, subst, arith}
use Rattle.std.specs.Prelude.{◌↔◌, IsTrue}
use Rattle.std.specs.Option.{is_some}
use Rattle.std.specs.List.{AllByRecursion}
use Rattle.std.proofs.lemmas.Bool.{false≢true}
use Rattle.std.proofs.lemmas.List.{map-set, append-nil}
use Rattle.ra_condition.specs.Contents.{TriggerContents, trigger_hits}
use Rattle.ra_memref.specs.Table.{TableSeen, IsPutBack}
use Rattle.ra_trigger.specs.Steps.{TriggerKept}
use Rattle.ra_text.specs.Words.{words, words_at}
use Rattle.ra_text.proofs.Pieces.{Stands, stands_first, stands_next, stands_words, length_words}
use Rattle.ra_member.specs.MemberRuns.{FitWords}
use Rattle.ra_explain.specs.declared.slot.Slot.{Slot}
use Rattle.ra_explain.specs.Recorders.{KeptRows, StandsFor, RecorderSeen, KeepsSlots, KeepsOtherSlots, trigger_cells}
use Rattle.ra_explain.specs.Recorders.{trigger_tracked}
use Rattle.ra_explain.specs.RowLists.{rows_from, with_row}
use Rattle.ra_explain.specs.Slots.{HaveCounts, counts_of, kept_by, slot_kept, StandsSomewhere, FitsSlot, FitsOptional}
use Rattle.ra_explain.specs.Slots.{IsSlotOf}
use Rattle.ra_explain.proofs.RowLemmas.{length_with, rows_stay}

-- what each slot keeps
abbrev pub slots_kept : TriggerContents → List (List (List Bool)) → List (Option Slot) → List (Option KeptRows)
slots_kept t behind slots = map (option_map (slot_kept (counts_of t) behind)) slots

module _ (t : TriggerContents) (behind : List (List (List Bool))) (row : List Bool) (before : ℕ) where
  -- a slot keeps what it kept where a row is added
  kept_stays : (slot : Slot) → slot.latest < length behind
      → slot_kept (counts_of t) (with_row behind row before) slot ≡ slot_kept (counts_of t) behind slot
  kept_stays slot within =
      ap (λ rows. record (slot_kept (counts_of t) behind slot) { rows = rows })
      (rows_stay behind row before slot.latest within)

  fits_stay : (slot : Slot) → FitsSlot t behind slot → FitsSlot t (with_row behind row before) slot
  fits_stay slot fits = record {
    hits = fits.hits;
    numbers = fits.numbers;
    latest = omega (arith, fits.latest, length_with behind row before);
    somewhere = subst (StandsSomewhere t) (sym (kept_stays slot fits.latest)) fits.somewhere;
  }

  pub slots_stay : (slots : List (Option Slot)) → AllByRecursion (FitsOptional t behind) slots
      → slots_kept t (with_row behind row before) slots ≡ slots_kept t behind slots
  slots_stay [] fit = refl
  slots_stay (None ∷ slots) fit = ap (λ ks. None ∷ ks) (slots_stay slots fit.1)
  slots_stay (Some slot ∷ slots) fit = ap₂ (λ k ks. Some k ∷ ks) (kept_stays slot fit.0.latest) (slots_stay slots fit.1)

  pub slots_fit_more : (slots : List (Option Slot)) → AllByRecursion (FitsOptional t behind) slots
      → AllByRecursion (FitsOptional t (with_row behind row before)) slots
  slots_fit_more [] fit = tt
  slots_fit_more (None ∷ slots) fit = (tt, slots_fit_more slots fit.1)
  slots_fit_more (Some slot ∷ slots) fit = (fits_stay slot fit.0, slots_fit_more slots fit.1)

module _ (t : TriggerContents) (behind : List (List (List Bool))) where
  -- a slot is filled
  pub slots_fit_set : (slots : List (Option Slot)) (k : ℕ) (slot : Slot)
      → AllByRecursion (FitsOptional t behind) slots → FitsSlot t behind slot
      → AllByRecursion (FitsOptional t behind) (slice_set slots k (Some slot))
  slots_fit_set [] k slot fit fits = tt
  slots_fit_set (was ∷ slots) zero slot fit fits = (fits, fit.1)
  slots_fit_set (was ∷ slots) (suc k) slot fit fits = (fit.0, slots_fit_set slots k slot fit.1 fits)

  -- empty slots fit
  pub slots_fit_none : (n : ℕ) → AllByRecursion (FitsOptional t behind) (replicate n None)
  slots_fit_none zero = tt
  slots_fit_none (suc n) = (tt, slots_fit_none n)

  -- a slot that is there fits
  pub slot_fits : (slots : List (Option Slot)) (k : ℕ) (slot : Slot)
      → AllByRecursion (FitsOptional t behind) slots → slice_index_or slots k None ≡ Some slot → FitsSlot t behind slot
  slot_fits [] k slot fit is = absurd (cc)
  slot_fits (was ∷ slots) zero slot fit is = subst (FitsOptional t behind) is fit.0
  slot_fits (was ∷ slots) (suc k) slot fit is = slot_fits slots k slot fit.1 is

  -- what is kept in a slot that is there
  pub slot_keeps : (slots : List (Option Slot)) (k : ℕ)
      → slice_index_or (slots_kept t behind slots) k None ≡ option_map
      (slot_kept (counts_of t) behind) (slice_index_or slots k None)
  slot_keeps [] k = refl
  slot_keeps (was ∷ slots) zero = refl
  slot_keeps (was ∷ slots) (suc k) = slot_keeps slots k

-- empty slots keep nothing
pub none_kept : (t : TriggerContents) (behind : List (List (List Bool))) (n : ℕ)
    → slots_kept t behind (replicate n None) ≡ replicate n None
none_kept t behind zero = refl
none_kept t behind (suc n) = ap (λ ks. None ∷ ks) (none_kept t behind n)

-- a slot of what is kept fits, and keeps it
pub new_slot_fits : (t : TriggerContents) (table : TableSeen) (trigger : TriggerKept)
    (behind : List (List (List Bool))) (latest : ℕ) (slot : Slot)
    → HaveCounts (counts_of t) table trigger → latest < length behind
    → StandsSomewhere t (kept_by table trigger (rows_from behind latest))
    → IsSlotOf table trigger latest slot → FitsSlot t behind slot
new_slot_fits t table trigger behind latest slot counts within somewhere is = record {
  hits = is.hits ∙ ap (λ n. 4 * n) counts.hits;
  numbers = is.numbers ∙ ap₂ (λ m n. 4 * (m + n)) counts.cells counts.priors;
  latest = subst (λ n. n < length behind) (sym is.latest_too) within;
  somewhere = subst (StandsSomewhere t) (sym (is.kept (counts_of t) behind counts)) somewhere;
}

-- numbers of 32 bits, each of them
pub all_fit : (xs : List ℕ) → ((i : ℕ) → Fits w32 (get_or xs i 0)) → FitWords xs
all_fit [] fit = tt
all_fit (x ∷ xs) fit = (let first = fit 0 in omega (arith, first), all_fit xs (λ i. fit (suc i)))

-- a slot with the words of what is kept
pub slot_of : (table : TableSeen) (trigger : TriggerKept) (slot : Slot) → slot.state ≡ trigger.state
    → slot.measured ≡ trigger.measured → slot.hits.items ≡ words trigger.hits
    → slot.numbers.items ≡ words table.cells ++ words table.priors
    → FitWords trigger.hits → FitWords table.cells → FitWords table.priors → IsSlotOf table trigger slot.latest slot
slot_of table trigger slot state measured hits numbers hits_fit cells_fit priors_fit = record {
  kept = λ n behind counts.
      let hits_here : Stands slot.hits.items 0 (words trigger.hits) =
      record { behind = []; here = hits ∙ sym (append-nil (words trigger.hits)) } in
      let all_here : Stands slot.numbers.items 0 (words table.cells ++ words table.priors) =
      record { behind = []; here = numbers ∙ sym (append-nil (words table.cells ++ words table.priors)) } in
      let cells_here = stands_first slot.numbers.items 0 (words table.cells) (words table.priors) all_here in
      let far : 4 * n.cells ≡ 0 + length (words table.cells) = omega (arith, counts.cells, length_words table.cells) in
      let priors_here = stands_next slot.numbers.items 0 (4 * n.cells) (words table.cells)
      (words table.priors) far all_here in
      let again = stands_words slot.hits.items 0 n.hits trigger.hits counts.hits hits_fit hits_here in
      let cells = stands_words slot.numbers.items 0 n.cells table.cells counts.cells cells_fit cells_here in
      let priors = stands_words slot.numbers.items (4 * n.cells) n.priors table.priors counts.priors
      priors_fit priors_here in
      (λ i. record {
        trigger = record { state = state i; measured = measured i; hits = again i };
        cells = cells i;
        priors = priors i;
        rows = rows_from behind slot.latest;
      });
  hits = ap length hits ∙ length_words trigger.hits;
  numbers = let both = length-append (words table.cells) (words table.priors) in omega
      (arith, ap length numbers, both, length_words table.cells, length_words table.priors);
  latest_too = refl;
}

-- what a slot keeps is taken up
pub taken_up : (t : TriggerContents) (old new : TableSeen) (trigger trigger' : TriggerKept)
    (behind : List (List (List Bool))) (slot : Slot) (numbers hits : List ℕ) → HaveCounts (counts_of t) old trigger
    → IsPutBack old new (words_at numbers 0 (length old.cells))
    (words_at numbers (4 * length old.cells) (length old.priors)) → numbers ≡ slot.numbers.items
    → hits ≡ slot.hits.items
    → trigger' ≡ record {
      state = slot.state;
      measured = slot.measured;
      hits = words_at hits 0
          (length trigger.hits);
    } → kept_by new trigger' (rows_from behind slot.latest) ≡ slot_kept (counts_of t) behind slot
taken_up t old new trigger trigger' behind slot numbers hits counts puts is_numbers is_hits is =
    let cells : new.cells ≡ words_at slot.numbers.items 0 (length (trigger_cells t)) =
    puts.cells_too ∙ ap₂ (λ xs n. words_at xs 0 n) is_numbers counts.cells in
    let priors : new.priors ≡ words_at slot.numbers.items (4 * length (trigger_cells t))
    (length (trigger_tracked t)) = puts.priors_too
    ∙ (λ i. words_at (is_numbers i) (4 * counts.cells i) (counts.priors i)) in
    let kept : trigger' ≡ record {
      state = slot.state;
      measured = slot.measured;
      hits =
          words_at slot.hits.items 0 (trigger_hits t);
    } = is
    ∙ (λ i. record {
      state = slot.state;
      measured = slot.measured;
      hits = words_at
          (is_hits i) 0 (counts.hits i);
    }) in
    (λ i. record { trigger = kept i; cells = cells i; priors = priors i; rows = rows_from behind slot.latest })

-- what a slot that is there keeps is what is seen of it
pub slot_is : (t : TriggerContents) (behind : List (List (List Bool))) (slots : List (Option Slot))
    (k : ℕ) (slot : Slot) (kept : KeptRows) → slice_index_or slots k None ≡ Some slot
    → slice_index_or (slots_kept t behind slots) k None ≡ Some kept → slot_kept (counts_of t) behind slot ≡ kept
slot_is t behind slots k slot kept is holds =
    let both : Some (slot_kept (counts_of t) behind slot) ≡ Some kept = sym
    (slot_keeps t behind slots k ∙ ap (option_map (slot_kept (counts_of t) behind)) is) ∙ holds in
    cc

-- what the slots keep where one of them is filled
pub slot_set : (t : TriggerContents) (table : TableSeen) (trigger : TriggerKept)
    (behind : List (List (List Bool))) (latest : ℕ) (slots : List (Option Slot)) (k named : ℕ)
    (slot : Slot) → HaveCounts (counts_of t) table trigger → IsSlotOf table trigger latest slot → k ≡ named
    → slots_kept t behind (slice_set slots k (Some slot)) ≡ slice_set
    (slots_kept t behind slots) named (Some (kept_by table trigger (rows_from behind latest)))
slot_set t table trigger behind latest slots k named slot counts is same =
    map-set (option_map (slot_kept (counts_of t) behind)) slots k (Some slot)
    ∙ ap₂ (λ n (kept : KeptRows). slice_set (slots_kept t behind slots) n (Some kept)) same
    (is.kept (counts_of t) behind counts)

-- what may be there is there also where it is seen
pub some_seen : {X Y : Type 0} (f : X → Y) (o : Option X) → is_some o ≡ is_some (option_map f o)
some_seen f None = refl
some_seen f (Some x) = refl

-- a slot is filled where something is there
pub filled_by : (f : Slot → KeptRows) (o : Option Slot) (seen : Option KeptRows) (found : Bool)
    → seen ≡ option_map f o → found ≡ is_some o → IsTrue found ↔ ((kept : KeptRows) × (seen ≡ Some kept))
filled_by f None seen found is same = (
  λ h. absurd
      (false≢true (sym same ∙ h)),
  λ some. let bad : None ≡ Some some.0 = sym is ∙ some.1 in absurd (cc),
)
filled_by f (Some slot) seen found is same = (λ h. (f slot, is), λ some. same)

-- ---- what stays for the histories

-- where the trigger and the slots stay, so do the histories for which slots stand
pub keeps_slots : (old new : RecorderSeen) → new.trigger ≡ old.trigger → new.slots ≡ old.slots → KeepsSlots old new
keeps_slots old new trigger slots slot history at = record {
  kept = at.kept;
  holds = ap (λ ks. slice_index_or ks slot None) slots ∙ at.holds;
  stands = subst (λ (t : TriggerContents). StandsFor t at.kept history) (sym trigger) at.stands;
}

-- where one slot is set, the others stay
pub keeps_others : (old new : RecorderSeen) (named : ℕ) (kept : Option KeptRows)
    → new.trigger ≡ old.trigger → new.slots ≡ slice_set old.slots named kept → KeepsOtherSlots old new named
keeps_others old new named kept trigger slots slot history other at = record {
  kept = at.kept;
  holds = ap (λ ks. slice_index_or ks slot None) slots ∙ apart old.slots named slot kept other ∙ at.holds;
  stands = subst (λ (t : TriggerContents). StandsFor t at.kept history) (sym trigger) at.stands;
}
  where
    apart : (ks : List (Option KeptRows)) (i j : ℕ) (k : Option KeptRows) → j ≢ i
        → slice_index_or (slice_set ks i k) j None ≡ slice_index_or ks j None
    apart [] i j k ne = refl
    apart (x ∷ ks) zero zero k ne = absurd (ne refl)
    apart (x ∷ ks) zero (suc j) k ne = refl
    apart (x ∷ ks) (suc i) zero k ne = refl
    apart (x ∷ ks) (suc i) (suc j) k ne = apart ks i j k (λ e. ne (ap suc e))
