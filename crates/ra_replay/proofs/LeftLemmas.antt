-- What is left of a trace, record by record.
use Rattle.std.proofs.Common.{arith, ◌≡◌, ◌<◌, ap, sym, subst, refl, ◌∙◌, ℕ, zero, suc, ◌+◌, nat_le, length, take, drop}
use Rattle.std.proofs.Common.{map, replicate, Bool, true, Option, Some, None, is_some, option_map, List, [], ◌∷◌}
use Rattle.std.proofs.lemmas.List.{drop-drop, length-drop, map-set}
use Rattle.ra_memory.specs.Image.{History}
use Rattle.ra_trace.specs.declared.error.Why.{Why}
use Rattle.ra_trace.specs.declared.error.Why.TheVariants.{Cut, EmptySlot}
use Rattle.ra_trace.specs.declared.error.TraceError.{TraceError}
use Rattle.ra_trace.specs.declared.error.TraceError.TheVariants as errors
use Rattle.ra_trace.specs.Entries.{Entry, Written, Saved, Ended, entry_bytes}
use Rattle.ra_trace.specs.Cutting.{RefusedAt, PastLimit, Pieces, Reached, cut, cut_unless, cut_behind, with_entry}
use Rattle.ra_trace.specs.Cutting.{refusal, front, filled_after, no_slots, stop_within}
use Rattle.ra_trace.specs.Reading.{ReaderSeen, Holds, Stands, IsBehindRecord, IsBehindHeader, IsStop, seen_from}
use Rattle.ra_trace.specs.Reading.{next_stop}
use Rattle.ra_meaning.specs.Play.{Moment, moved, first_moment}
use Rattle.ra_replay.specs.Left.{IsEmptySlot, IsLeft, stop_of, trace_limit}
use Rattle.ra_replay.proofs.SlotRefusals.{by_slots}

abbrev Next : Type 0
Next = List Bool → ℕ → List ℕ → Pieces

-- the records of a trace behind its header
abbrev pub pieces_of : ℕ → List ℕ → Pieces
pieces_of size bytes = cut (suc (length (take trace_limit bytes))) size no_slots 9 (drop 9 (take trace_limit bytes))

-- behind the header all records are left
pub left_whole : (bytes : List ℕ) (size : ℕ) (frames : History) (old new : ReaderSeen) → old.limit
    ≡ trace_limit → IsBehindHeader size old new → Holds new bytes
    → IsLeft bytes (first_moment size frames) new (pieces_of size bytes)
left_whole bytes size frames old new limit behind holds = record {
  size = size;
  sized = behind.sized;
  limit = behind.same.limit ∙ limit;
  holds = holds;
  more = length (take trace_limit bytes);
  enough = omega (arith, length-drop new.next (take trace_limit bytes));
  is = ap (λ at. cut (suc (length (take trace_limit bytes))) size no_slots at
      (drop at (take trace_limit bytes))) (sym behind.next);
}

-- the slots that are filled after a record
filled_moved : (entry : Entry) (m : Moment) → filled_after entry (map is_some m.slots)
    ≡ map is_some (moved entry m).slots
filled_moved (Saved slot) m = sym (map-set is_some m.slots slot (Some m.behind))
filled_moved _ m = refl

some_bytes : (entry : Entry) → 0 < length (entry_bytes entry)
some_bytes (Written at bytes) = omega arith
some_bytes _ = omega arith

-- a record that is not the end has others behind it
cut_on : (next : Next) (entry : Entry) (filled : List Bool) (at : ℕ) (bytes : List ℕ) → (entry
    ≡ Ended → ⊥) → cut_behind next entry filled at bytes ≡ with_entry entry (next (filled_after
    entry filled) (at + length (entry_bytes entry)) (drop (length (entry_bytes entry)) bytes))
cut_on next Ended filled at bytes other = absurd (other refl)
cut_on next _ filled at bytes other = refl

cut_good : (next : Next) (refused : Option Why) (filled : List Bool) (at : ℕ) (bytes : List ℕ)
    → refused ≡ None → cut_unless next refused filled at bytes
    ≡ cut_behind next (front bytes) filled at bytes
cut_good next refused filled at bytes none = rw none refl

cut_bad : (next : Next) (refused : Option Why) (why : Why) (filled : List Bool) (at : ℕ)
    (bytes : List ℕ) → refused ≡ Some why → cut_unless next refused filled at bytes
    ≡ record { entries = []; stop = RefusedAt at why }
cut_bad next refused why filled at bytes some = rw some refl

-- nothing is refused at no bytes but that they are cut
not_empty : (size : ℕ) (filled : List Bool) (bytes : List ℕ) → refusal size filled bytes ≡ None → 0 < length bytes
not_empty size filled [] none = let bad : Some Cut ≡ None = none in absurd (cc)
not_empty size filled (mark ∷ rest) none = omega arith

none_inside : {A B : Type 0} (f : A → B) (o : Option A) → option_map f o ≡ None → o ≡ None
none_inside f None none = refl
none_inside f (Some x) none = let bad : Some (f x) ≡ None = none in absurd (cc)

never_none : (why : TraceError) → IsStop why None → (why ≡ errors.Read → ⊥) → ⊥
never_none (errors.Refused at why) is other = let bad : None ≡ Some (RefusedAt at why) = is in absurd (cc)
never_none errors.TooLong is other = let bad : None ≡ Some PastLimit = is in absurd (cc)
never_none errors.Read is other = other refl

module _ (bytes : List ℕ) (m : Moment) (reader : ReaderSeen) (left : Pieces) (is : IsLeft bytes m reader left) where
  abbrev seen : List ℕ
  seen = seen_from trace_limit reader.next bytes

  abbrev filled : List Bool
  filled = map is_some m.slots

  abbrev full : Bool
  full = nat_le trace_limit (length bytes)

  bad_left : (why : Why) → refusal is.size filled seen ≡ Some why → left
      ≡ record { entries = []; stop = RefusedAt reader.next why }
  bad_left why some = is.is
      ∙ cut_bad (cut is.more is.size) (refusal is.size filled seen) why filled reader.next seen some

  refused_by : (why : TraceError) (refused : Option Why) → refusal is.size (replicate 16 true) seen
      ≡ refused → IsStop why (option_map (λ w. stop_within full (RefusedAt reader.next w)) refused)
      → (why ≡ errors.Read → ⊥)
      → (left.entries ≡ []) × IsStop why (Some (stop_of bytes left))
  refused_by why None here stop other = absurd (never_none why stop other)
  refused_by why (Some w) here stop other =
      let bad = bad_left w ((by_slots is.size m seen).refused w here) in (
        ap (λ (p : Pieces). p.entries) bad,
        subst (λ (p : Pieces). IsStop why (Some (stop_within full p.stop))) (sym bad) stop,
      )

  -- a reader that is stopped is stopped as the trace says
  pub left_refused : (why : TraceError) → IsStop why (next_stop trace_limit is.size reader.next
      bytes) → (why ≡ errors.Read → ⊥) → (left.entries ≡ [])
      × IsStop why (Some (stop_of bytes left))
  left_refused why stop other = refused_by why (refusal is.size (replicate 16 true) seen) refl stop other

  module _ (entry : Entry) (stands : Stands trace_limit is.size reader.next entry bytes) where
    good : refusal is.size (replicate 16 true) seen ≡ None
    good = none_inside (λ w. stop_within full (RefusedAt reader.next w))
        (refusal is.size (replicate 16 true) seen) stands.good

    -- a restore of an empty slot is refused there
    pub left_empty : IsEmptySlot entry m → left ≡ record { entries = []; stop = RefusedAt reader.next EmptySlot }
    left_empty empty = bad_left EmptySlot ((by_slots is.size m seen).empty good
        (subst (λ (e : Entry). IsEmptySlot e m) stands.is empty))

    module _ (some : IsEmptySlot entry m → ⊥) where
      whole : refusal is.size filled seen ≡ None
      whole = (by_slots is.size m seen).filled good
          (λ no. some (subst (λ (e : Entry). IsEmptySlot e m) (sym stands.is) no))

      begins : left ≡ cut_behind (cut is.more is.size) entry filled reader.next seen
      begins = is.is ∙ cut_good (cut is.more is.size)
          (refusal is.size filled seen) filled reader.next seen whole
          ∙ ap (λ e. cut_behind (cut is.more is.size) e filled reader.next seen) (sym stands.is)

      -- the end record is the last
      pub left_ends : entry ≡ Ended → left ≡ record { entries = Ended ∷ []; stop = Reached reader.next }
      left_ends end = begins ∙ ap (λ e. cut_behind (cut is.more is.size) e filled reader.next seen) end

      -- behind any other record the rest is left
      pub left_behind : (new : ReaderSeen) → (entry ≡ Ended → ⊥) → IsBehindRecord entry reader new
          → Holds new bytes → (rest : Pieces) × (left ≡ with_entry entry rest)
          × IsLeft bytes (moved entry m) new rest
      left_behind new other behind holds =
          let count = length (entry_bytes entry) in
          let more = is.more in
          let long : 0 < length seen = not_empty is.size filled seen whole in
          let least : 0 < count = some_bytes entry in
          let place : new.next ≡ reader.next + count = behind.next in
          let shorter : drop count seen ≡ seen_from trace_limit new.next bytes =
          drop-drop count reader.next (take trace_limit bytes)
          ∙ ap (λ at. drop at (take trace_limit bytes)) (sym place) in
          let next_rest = cut more is.size (filled_after entry filled) (reader.next + count) (drop count seen) in
          let one = suc_of more (omega (arith, long, is.enough)) in (
            next_rest,
            begins ∙ cut_on (cut more is.size) entry filled reader.next seen other,
            record {
              size = is.size;
              sized = behind.sized ∙ is.sized;
              limit = behind.same.limit ∙ is.limit;
              holds = holds;
              more = one.0;
              enough = omega (arith, ap length (sym shorter), length-drop count seen, is.enough, one.1, least);
              is = ap (λ n. cut n is.size (filled_after entry filled) (reader.next + count) (drop count seen)) one.1
                  ∙ ap (λ f. cut (suc one.0) is.size f (reader.next + count) (drop count seen)) (filled_moved entry m)
                  ∙ ap (λ at. cut (suc one.0) is.size (map is_some (moved entry m).slots) at
                  (drop count seen)) (sym place)
                  ∙ ap (cut (suc one.0) is.size (map is_some (moved entry m).slots) new.next) shorter;
            },
          )
        where
          suc_of : (n : ℕ) → 0 < n → (k : ℕ) × (n ≡ suc k)
          suc_of zero some = absurd (omega (arith, some))
          suc_of (suc k) some = (k, refl)
