-- A watcher that follows a moment follows the moment after a record.
use Rattle.std.proofs.Common.{◌≡◌, ℕ, zero, suc, ◌+◌, Bool, true, false, Option, None, Some, List, [], ◌∷◌, length}
use Rattle.std.proofs.Common.{slice_set, slice_index_or, refl, sym, ap, subst, ◌∙◌, arith}
use Rattle.std.proofs.lemmas.List.{length-set}
use Rattle.ra_condition.specs.Contents.{TriggerContents}
use Rattle.ra_memory.specs.Image.{History, written}
use Rattle.ra_trace.specs.Entries.{Written, Framed, Saved, Restored, Shown}
use Rattle.ra_meaning.specs.Play.{Moment, kept_in}
use Rattle.ra_explain.specs.Recorders.{unlocks_at}
use Rattle.ra_why.specs.Taking.{Follows, GoesTo}
use Rattle.ra_replay.specs.Left.{IsEmptySlot}
use Rattle.ra_why.specs.Watching.{IsWatching, Saves, SlotMeets, SlotStands, Stands, StaysOut, TakesUp, trigger_in}
use Rattle.ra_why.specs.declared.kept.Kept.{Kept}
use Rattle.ra_why.specs.declared.watcher.Watcher.{Watcher}
use Rattle.ra_why.proofs.KeptLemmas.{kept_stands, more_frames}

-- accounts of few frames are accounts of at most more
pub more_watching : (most : ℕ) (w : Watcher) → IsWatching most w → IsWatching (most + 1) w
more_watching most w is = record {
  few = is.few;
  over = is.over;
  run_too = is.run_too;
  size = is.size;
  somewhere = is.somewhere;
  account = record { ready = is.account.ready; few = omega (arith, is.account.few) };
  room = is.room;
  sixteen = is.sixteen;
  slots = λ k. more_frames (trigger_in w) most (slice_index_or w.slots.items k None) (is.slots k);
}

module _ (old new : Watcher) (m : Moment) (f : Follows old m) where
  -- ---- a write

  pub written_on : (at : ℕ) (bytes : List ℕ) → new ≡ record old { memory = written old.memory at bytes }
      → length (written old.memory at bytes) ≡ length old.memory
      → ((history : History) → Stands old history → Stands new history) → GoesTo old new (Written at bytes) m false
  written_on at bytes is long stands = record {
    follows = record {
      image = ap (λ (w : Watcher). w.memory) is ∙ ap (λ image. written image at bytes) f.image;
      stands = stands m.behind f.stands;
      sixteen = f.sixteen;
      slots = λ k. subst (λ (w : Watcher). SlotMeets (trigger_in w) (length w.memory)
          (slice_index_or w.slots.items k None) (slice_index_or m.slots k None)) (sym is)
          (subst (λ n. SlotMeets (trigger_in old) n (slice_index_or old.slots.items k None)
          (slice_index_or m.slots k None)) (sym long) (f.slots k));
    };
    unlocks = refl;
    other = λ end. absurd (cc);
    filled = λ empty. empty;
  }

  -- what stays out of a frame stays for the slots
  module _ (rest : StaysOut old new) where
    slots_on : (k : ℕ) → SlotMeets (trigger_in new) (length new.memory) (slice_index_or new.slots.items k None)
        (slice_index_or m.slots k None)
    slots_on k = subst (λ (s : _). SlotMeets (trigger_in new) (length new.memory) s (slice_index_or m.slots k None))
        (sym (ap (λ s. slice_index_or s.items k None) rest.slots))
        (subst (λ image. SlotMeets (trigger_in new) (length image) (slice_index_or old.slots.items k None)
        (slice_index_or m.slots k None)) (sym rest.memory)
        (subst (λ (t : TriggerContents). SlotMeets t (length old.memory) (slice_index_or old.slots.items k None)
        (slice_index_or m.slots k None))
        (sym (ap (λ text. Rattle.ra_condition.specs.Contents.trigger_contents text) rest.text)) (f.slots k)))

    -- ---- a frame

    pub framed_on : (unlock : Bool) → ((history : History) → Stands old history → Stands new (old.memory ∷ history))
        → ((history : History) → Stands old history → unlock ≡ unlocks_at (trigger_in old) old.memory history)
        → GoesTo old new Framed m unlock
    framed_on unlock stands answers = record {
      follows = record {
        image = rest.memory ∙ f.image;
        stands = subst (λ image. Stands new (image ∷ m.behind)) f.image (stands m.behind f.stands);
        sixteen = f.sixteen;
        slots = slots_on;
      };
      unlocks = sym (answers m.behind f.stands ∙ ap (λ image. unlocks_at (trigger_in old) image m.behind) f.image);
      other = λ end. absurd (cc);
      filled = λ empty. empty;
    }

    -- ---- a restore

    some_meets : (t : TriggerContents) (size : ℕ) (kept : Kept) (at : Option History) → SlotMeets t size (Some kept) at
        → at ≡ None → ⊥
    some_meets t size kept None meets none = meets
    some_meets t size kept (Some history) meets none = let bad : Some history ≡ None = none in absurd (cc)

    taken_up : (t : TriggerContents) (size : ℕ) (kept : Kept) (at : Option History) → SlotMeets t size (Some kept) at
        → ((history : History) → SlotStands t size kept history → Stands new history)
        → Stands new (kept_in at m.behind)
    taken_up t size kept None meets takes = absurd meets
    taken_up t size kept (Some history) meets takes = takes history meets

    none_meets : (t : TriggerContents) (size : ℕ) (at : Option History) → SlotMeets t size None at → at ≡ None
    none_meets t size None meets = refl
    none_meets t size (Some history) meets = absurd meets

    pub restored_on : (slot : ℕ) → TakesUp old new slot true → GoesTo old new (Restored slot) m false
    restored_on slot takes =
        let meets = subst (λ (s : Option Kept). SlotMeets (trigger_in old) (length old.memory) s
        (slice_index_or m.slots slot None)) takes.1.0 (f.slots slot) in
        record {
          follows = record {
            image = rest.memory ∙ f.image;
            stands = taken_up (trigger_in old) (length old.memory) takes.0
                (slice_index_or m.slots slot None) meets takes.1.1;
            sixteen = f.sixteen;
            slots = slots_on;
          };
          unlocks = refl;
          other = λ end. absurd (cc);
          filled = λ empty. some_meets (trigger_in old) (length old.memory) takes.0
              (slice_index_or m.slots slot None) meets empty;
        }

-- slots that meet frames, of which one is set
set_meets : (t : TriggerContents) (size : ℕ) (slots : List (Option Kept)) (kept_frames : List (Option History))
    (named : ℕ) (kept : Kept) (history : History) → length slots ≡ length kept_frames
    → ((k : ℕ) → SlotMeets t size (slice_index_or slots k None) (slice_index_or kept_frames k None))
    → SlotStands t size kept history
    → (k : ℕ) → SlotMeets t size (slice_index_or (slice_set slots named (Some kept)) k None)
    (slice_index_or (slice_set kept_frames named (Some history)) k None)
set_meets t size [] [] named kept history many each stands k = each k
set_meets t size [] (h ∷ hs) named kept history many each stands k = absurd (omega (arith, many))
set_meets t size (s ∷ slots) [] named kept history many each stands k = absurd (omega (arith, many))
set_meets t size (s ∷ slots) (h ∷ hs) zero kept history many each stands zero = stands
set_meets t size (s ∷ slots) (h ∷ hs) zero kept history many each stands (suc k) = each (suc k)
set_meets t size (s ∷ slots) (h ∷ hs) (suc named) kept history many each stands zero = each 0
set_meets t size (s ∷ slots) (h ∷ hs) (suc named) kept history many each stands (suc k) =
    set_meets t size slots hs named kept history (omega (arith, many)) (λ j. each (suc j)) stands k

-- ---- a save

pub saved_on : (old new : Watcher) (m : Moment) (slot most : ℕ) → Follows old m → IsWatching most old
    → Saves old new slot → GoesTo old new (Saved slot) m false
saved_on old new m slot most f w saves =
    let t = trigger_in old in
    let size = length old.memory in
    let keeps : SlotStands t size saves.kept m.behind =
    kept_stands t old.table old.run.trigger old.account saves.kept saves.is w.run_too.hits w.somewhere size m.behind
    f.stands in
    record {
      follows = record {
        image = ap (λ (x : Watcher). x.memory) saves.rest ∙ f.image;
        stands = subst (λ (x : Watcher). Stands x m.behind) (sym saves.rest) f.stands;
        sixteen = length-set m.slots slot (Some m.behind) ∙ f.sixteen;
        slots = λ k. subst (λ (x : Watcher). SlotMeets (trigger_in x) (length x.memory)
            (slice_index_or new.slots.items k None) (slice_index_or (slice_set m.slots slot (Some m.behind)) k None))
            (sym saves.rest)
            (subst (λ (items : List (Option Kept)). SlotMeets t size (slice_index_or items k None)
            (slice_index_or (slice_set m.slots slot (Some m.behind)) k None)) (sym saves.slots)
            (set_meets t size old.slots.items m.slots slot saves.kept m.behind
            (w.sixteen ∙ sym f.sixteen) f.slots keeps k));
      };
      unlocks = refl;
      other = λ end. absurd (cc);
      filled = λ empty. empty;
    }

-- ---- a show

pub shown_on : (w : Watcher) (m : Moment) → Follows w m → GoesTo w w Shown m false
shown_on w m f = record {
  follows = record { image = f.image; stands = f.stands; sixteen = f.sixteen; slots = f.slots };
  unlocks =
      refl;
  other = λ end. absurd (cc);
  filled = λ empty. empty;
}
