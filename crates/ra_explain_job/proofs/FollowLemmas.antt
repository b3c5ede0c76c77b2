-- A recorder that follows a moment follows the moment after a record.
use Rattle.std.proofs.Common.{◌≡◌, ◌≢◌, ℕ, ◌+◌, ◌≤◌, nat_lt, ◌==◌, Bool, true, false, cond, Option, None, Some, List}
use Rattle.std.proofs.Common.{◌∷◌, length, slice_set, slice_index_or, refl, sym, ap, subst, ◌∙◌, arith}
use Rattle.std.proofs.lemmas.Bool.{true≢false, lt-ltb, le-ltb, eqb-true, eq-eqb}
use Rattle.std.proofs.lemmas.List.{length-set, get_or-set_same, get_or-set_other}
use Rattle.std.proofs.lemmas.Option.{none-some}
use Rattle.ra_condition.specs.Contents.{TriggerContents}
use Rattle.ra_memory.specs.Image.{History, written}
use Rattle.ra_trace.specs.Entries.{Entry, Written, Framed, Saved, Restored, Shown}
use Rattle.ra_meaning.specs.Play.{Moment, moved, kept_in}
use Rattle.ra_explain.specs.Recorders.{RecorderSeen, StandsFor, Stands, SlotStands, IsFilled, KeepsHistories}
use Rattle.ra_explain.specs.Recorders.{KeepsSlots, KeepsOtherSlots, IsWritten, TakesFrame, RefusesFrame, IsSaved}
use Rattle.ra_explain.specs.Recorders.{IsRestored, TakesUpSlot, unlocks_at, most_rows, product_of}
use Rattle.ra_explain.specs.declared.refused.ExplainRefused.TheVariants.{Rows}
use Rattle.ra_replay.specs.Left.{IsEmptySlot}
use Rattle.ra_session.specs.Explaining.{Reason, Decided, AtUnlock, AtRows, decided_from, rows_with}
use Rattle.ra_explain_job.specs.Watching.{Follows, reason_at, GoesOn, UnlocksHere, PassesRows}

-- what a recorder of the same trigger and count decides
same_reason : (a b : RecorderSeen) (m : Moment) (entries : List Entry) → a.trigger ≡ b.trigger
    → a.frames ≡ b.frames → reason_at a m entries ≡ reason_at b m entries
same_reason a b m entries trigger frames = (λ i. (decided_from (trigger i) m (frames i) entries).reason)

-- a new recorder stands at the first moment
some_is : (kept other : History) → Some kept ≡ Some other → kept ≡ other
some_is kept other same = cc

module _ (old new : RecorderSeen) (m : Moment) (f : Follows old m) where
  -- ---- a write

  pub written_on : (at : ℕ) (bytes : List ℕ) → IsWritten old new at bytes → KeepsHistories old new
      → KeepsSlots old new → GoesOn old new (Written at bytes) m
  written_on at bytes is keeps slots = record {
    follows = record {
      image = ap (λ (r : RecorderSeen). r.image) is ∙ ap (λ image. written image at bytes) f.image;
      stands = keeps m.behind f.stands;
      sixteen = ap (λ (r : RecorderSeen). length r.slots) is ∙ f.sixteen;
      sixteen_too = f.sixteen_too;
      filled = λ slot kept here. slots slot kept (f.filled slot kept here);
      empty = λ slot none. ap (λ (r : RecorderSeen). slice_index_or r.slots slot None) is ∙ f.empty slot none;
    };
    other = λ end. absurd (cc);
    filled = λ empty. empty;
    decides = λ entries. same_reason old new (moved (Written at bytes) m) entries (sym
        (ap (λ (r : RecorderSeen). r.trigger) is)) (sym (ap (λ (r : RecorderSeen). r.frames) is));
  }

  -- ---- a frame

  module _ (unlock : Bool) (takes : TakesFrame old new unlock) (slots : KeepsSlots old new) where
    few : nat_lt most_rows (rows_with old.trigger old.frames) ≡ false
    few = le-ltb most_rows (product_of old) takes.few

    here : unlock ≡ unlocks_at old.trigger m.image m.behind
    here = takes.answers m.behind f.stands ∙ ap (λ image. unlocks_at old.trigger image m.behind) f.image

    stands_on : Stands new (m.image ∷ m.behind)
    stands_on = subst (λ image. Stands new (image ∷ m.behind)) f.image (takes.stands m.behind f.stands)

    framed_by : (entries : List Entry) (b : Bool) → unlock ≡ b
        → reason_at old m (Framed ∷ entries) ≡ cond b (AtUnlock m.image m.behind)
        (decided_from old.trigger (moved Framed m) (old.frames + 1) entries).reason
    framed_by entries b is =
        (λ i. (cond (few i) (decided_at (AtRows (rows_with old.trigger old.frames)))
        (cond ((sym here ∙ is) i) (decided_at (AtUnlock m.image m.behind))
        (further entries))).reason) ∙ reason_by b
      where
        decided_at : Reason → Decided
        decided_at reason = record { records = 0; reason = reason }

        further : List Entry → Decided
        further entries = let d = decided_from old.trigger (moved Framed m)
            (old.frames + 1) entries in record { records = d.records + 1; reason = d.reason }

        reason_by : (b : Bool) → (cond b (decided_at (AtUnlock m.image m.behind))
            (further entries)).reason ≡ cond b (AtUnlock m.image m.behind)
            (decided_from old.trigger (moved Framed m) (old.frames + 1) entries).reason
        reason_by true = refl
        reason_by false = refl

    pub framed_on : unlock ≡ false → GoesOn old new Framed m
    framed_on none = record {
      follows = record {
        image = ap (λ (r : RecorderSeen). r.image) takes.rest ∙ f.image;
        stands = stands_on;
        sixteen = ap (λ (r : RecorderSeen). length r.slots) takes.rest ∙ f.sixteen;
        sixteen_too = f.sixteen_too;
        filled = λ slot kept at. slots slot kept (f.filled slot kept at);
        empty = λ slot no. ap (λ (r : RecorderSeen). slice_index_or r.slots slot None) takes.rest ∙ f.empty slot no;
      };
      other = λ end. absurd (cc);
      filled = λ empty. empty;
      decides = λ entries. framed_by entries false none
          ∙ (λ i. (decided_from (sym (ap (λ (r : RecorderSeen). r.trigger) takes.rest) i) (moved
          Framed m) (sym (ap (λ (r : RecorderSeen). r.frames) takes.rest) i) entries).reason);
    }

    pub framed_here : unlock ≡ true → UnlocksHere old new Framed m
    framed_here some = record { framed = refl; stands = stands_on; decides = λ entries. framed_by entries true some }

  -- ---- a save

  pub saved_on : (slot : ℕ) → slot ≤ 15 → IsSaved old new slot → KeepsHistories old new
      → KeepsOtherSlots old new slot → GoesOn old new (Saved slot) m
  saved_on slot low is keeps others = record {
    follows = record {
      image = ap (λ (r : RecorderSeen). r.image) is ∙ f.image;
      stands = keeps m.behind f.stands;
      sixteen = ap (λ (r : RecorderSeen). length r.slots) is ∙ length-set old.slots slot (Some old.kept) ∙ f.sixteen;
      sixteen_too = length-set m.slots slot (Some m.behind) ∙ f.sixteen_too;
      filled = λ k kept at. by_slot k kept at (k == slot) refl;
      empty = λ k none. empty_by k none (k == slot) refl;
    };
    other = λ end. absurd (cc);
    filled = λ empty. empty;
    decides = λ entries. same_reason old new (moved (Saved slot) m) entries (sym
        (ap (λ (r : RecorderSeen). r.trigger) is)) (sym (ap (λ (r : RecorderSeen). r.frames) is));
  }
    where
      there : slice_index_or (slice_set m.slots slot (Some m.behind)) slot None ≡ Some m.behind
      there = get_or-set_same m.slots slot (Some m.behind) None (omega (arith, low, f.sixteen_too))

      there_too : slice_index_or new.slots slot None ≡ Some old.kept
      there_too = ap (λ (r : RecorderSeen). slice_index_or r.slots slot None) is
          ∙ get_or-set_same old.slots slot (Some old.kept) None (omega (arith, low, f.sixteen))

      by_slot : (k : ℕ) (kept : History) → slice_index_or (slice_set m.slots slot (Some m.behind)) k
          None ≡ Some kept → (b : Bool) → (k == slot) ≡ b → SlotStands new k kept
      by_slot k kept at true same =
          let here : k ≡ slot = eqb-true k slot same in
          let one : kept ≡ m.behind = some_is kept m.behind (sym at ∙ ap
          (λ n. slice_index_or (slice_set m.slots slot (Some m.behind)) n None) here ∙ there) in
          record {
            kept = old.kept;
            holds = ap (λ n. slice_index_or new.slots n None) here ∙ there_too;
            stands = subst (λ (t : TriggerContents). StandsFor t old.kept kept)
                (sym (ap (λ (r : RecorderSeen). r.trigger) is))
                (subst (StandsFor old.trigger old.kept) (sym one) f.stands);
          }
      by_slot k kept at false apart =
          let ne : k ≢ slot = λ same. true≢false (sym (eq-eqb k slot same) ∙ apart) in
          others k kept ne (f.filled k kept (sym (get_or-set_other m.slots slot k (Some m.behind) None ne) ∙ at))

      empty_by : (k : ℕ) → slice_index_or (slice_set m.slots slot (Some m.behind)) k None ≡ None
          → (b : Bool) → (k == slot) ≡ b → slice_index_or new.slots k None ≡ None
      empty_by k none true same = absurd (none-some m.behind (sym none ∙ ap (λ n. slice_index_or
          (slice_set m.slots slot (Some m.behind)) n None) (eqb-true k slot same) ∙ there))
      empty_by k none false apart =
          let ne : k ≢ slot = λ same. true≢false (sym (eq-eqb k slot same) ∙ apart) in
          ap (λ (r : RecorderSeen). slice_index_or r.slots k None) is
          ∙ get_or-set_other old.slots slot k (Some old.kept) None ne
          ∙ f.empty k (sym (get_or-set_other m.slots slot k (Some m.behind) None ne) ∙ none)

  -- ---- a restore

  module _ (slot : ℕ) (filled : IsFilled old slot) where
    some_kept : (kept : Option History) → slice_index_or m.slots slot None ≡ kept
        → slice_index_or m.slots slot None ≡ None → ⊥
    some_kept kept is none = none-some filled.0 (sym (f.empty slot none) ∙ filled.1)

    module _ (is : IsRestored old new slot) (takes : TakesUpSlot old new slot) (slots : KeepsSlots old new) where
      rest : new ≡ record old { kept = filled.0; unlocked = false }
      rest = is filled.0 filled.1

      behind_by : (kept : Option History) → slice_index_or m.slots slot None ≡ kept → Stands new (kept_in kept m.behind)
      behind_by None none = absurd (some_kept None none none)
      behind_by (Some kept) at = takes kept (f.filled slot kept at)

      pub restored_on : GoesOn old new (Restored slot) m
      restored_on = record {
        follows = record {
          image = ap (λ (r : RecorderSeen). r.image) rest ∙ f.image;
          stands = behind_by (slice_index_or m.slots slot None) refl;
          sixteen = ap (λ (r : RecorderSeen). length r.slots) rest ∙ f.sixteen;
          sixteen_too = f.sixteen_too;
          filled = λ k kept at. slots k kept (f.filled k kept at);
          empty = λ k none. ap (λ (r : RecorderSeen). slice_index_or r.slots k None) rest ∙ f.empty k none;
        };
        other = λ end. absurd (cc);
        filled = λ empty. some_kept (slice_index_or m.slots slot None) refl empty;
        decides = λ entries. same_reason old new (moved (Restored slot) m) entries (sym (ap (λ
            (r : RecorderSeen). r.trigger) rest)) (sym (ap (λ (r : RecorderSeen). r.frames) rest));
      }

-- an empty slot is empty at the moment
pub unfilled : (old : RecorderSeen) (m : Moment) (slot : ℕ) → Follows old m
    → (IsFilled old slot → ⊥) → IsEmptySlot (Restored slot) m
unfilled old m slot f none = by_kept (slice_index_or m.slots slot None) refl
  where
    by_kept : (kept : Option History) → slice_index_or m.slots slot None ≡ kept
        → slice_index_or m.slots slot None ≡ None
    by_kept None is = is
    by_kept (Some kept) is = let at = f.filled slot kept is in absurd (none (at.kept, at.holds))

-- a show changes nothing
pub shown_on : (old : RecorderSeen) (m : Moment) → Follows old m → GoesOn old old Shown m
shown_on old m f = record
    { follows = f; other = λ end. absurd (cc); filled = λ empty. empty; decides = λ entries. refl }
