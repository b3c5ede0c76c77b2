-- Each field of a board after a history is what its own recursion over the history says.
use Rattle.std.proofs.Common.{◌≡◌, true, false, if◌then◌else◌, Bool, Option, None, Some, List, [], ◌∷◌, ℕ, length, map}
use Rattle.std.proofs.Common.{get_or, refl, sym, ◌∙◌, ap, arith}
use Rattle.std.proofs.lemmas.List.{length-map}
use Rattle.ra_condition.specs.Contents.{trigger_hits, PartContents}
use Rattle.ra_memory.specs.Image.{History}
use Rattle.ra_memref.specs.Values.{Start}
use Rattle.ra_value.specs.Steps.{ValueKept, no_value}
use Rattle.ra_leaderboard.specs.declared.state.BoardState.{BoardState}
use Rattle.ra_leaderboard.specs.Contents.{BoardContents}
use Rattle.ra_leaderboard.specs.States.{state_after, is_running, begins}
use Rattle.ra_member.specs.Frames.{test_next, test_holds, value_next}
use Rattle.ra_member.specs.Members.{no_values, values_next}
use Rattle.ra_meaning.specs.Order.{board_member, progress_in}
use Rattle.ra_meaning.specs.Boards.{BoardKept, board_next, board_after}
use Rattle.ra_meaning.specs.BoardLaws.{FieldsKept, fields_kept, running_value, progress_parts, IsByFields}
use Rattle.ra_meaning.proofs.Counts.Fitting.{BoardFits, board_fits}

-- the value, and the progress where there is one, as both say whether they run and whether they begin anew
values_apart : (start : Start) (h : History) (runs anew : Bool) (parts : List PartContents)
    (progress : Option (List PartContents)) (kept : List ValueKept) → length kept
    ≡ length (parts ∷ progress_in progress)
    → (get_or (if runs then values_next start (parts ∷ progress_in progress) h
    (if anew then no_values (parts ∷ progress_in progress) else kept) else kept) 0 (no_value [])
    ≡ (if runs then value_next start parts h (if anew then no_value parts
    else get_or kept 0 (no_value [])) else get_or kept 0 (no_value [])))
    × (get_or (if runs then values_next start (parts ∷ progress_in progress) h
    (if anew then no_values (parts ∷ progress_in progress) else kept) else kept) 1 (no_value [])
    ≡ (if runs then value_next start (progress_parts progress) h (if anew then no_value
    (progress_parts progress) else get_or kept 1 (no_value [])) else get_or kept 1 (no_value [])))
values_apart start h runs anew parts progress [] many = absurd (omega arith)
values_apart start h true true parts None (k ∷ []) many = (refl, refl)
values_apart start h true false parts None (k ∷ []) many = (refl, refl)
values_apart start h false anew parts None (k ∷ []) many = (refl, refl)
values_apart start h runs anew parts None (k ∷ l ∷ kept) many = absurd (omega arith)
values_apart start h runs anew parts (Some more) (k ∷ []) many = absurd (omega arith)
values_apart start h true true parts (Some more) (k ∷ l ∷ []) many = (refl, refl)
values_apart start h true false parts (Some more) (k ∷ l ∷ []) many = (refl, refl)
values_apart start h false anew parts (Some more) (k ∷ l ∷ []) many = (refl, refl)
values_apart start h runs anew parts (Some more) (k ∷ l ∷ n ∷ kept) many = absurd (omega arith)

module _ (start : Start) (b : BoardContents) where
  -- one frame of the fields of a board
  abbrev fields_next : History → FieldsKept → FieldsKept
  fields_next h f =
      let state = state_after f.state (test_holds start b.start h f.start)
      (test_holds start b.cancel h f.cancel) (test_holds start b.submit h f.submit) in
      record {
        state = state;
        start = test_next start b.start h f.start;
        cancel = test_next start b.cancel h f.cancel;
        submit = test_next start b.submit h f.submit;
        value = running_value start h b.value f.state state f.value;
        progress = running_value start h (progress_parts b.progress) f.state state f.progress;
      }

  fields_step : (h : History) (state : BoardState) (tests : List (List ℕ)) (values : List ValueKept)
      → length tests ≡ 3 → length values ≡ length (b.value ∷ progress_in b.progress)
      → fields_kept (board_next start b h (record
      { state = state; member = record { tests = tests; values = values } })) ≡ fields_next h
      (fields_kept (record { state = state; member = record { tests = tests; values = values } }))
  fields_step h state [] values three many = absurd (omega arith)
  fields_step h state (s ∷ []) values three many = absurd (omega arith)
  fields_step h state (s ∷ c ∷ []) values three many = absurd (omega arith)
  fields_step h state (s ∷ c ∷ m ∷ []) values three many =
      let new = state_after state (test_holds start b.start h s) (test_holds start b.cancel h c)
      (test_holds start b.submit h m) in
      let apart = values_apart start h (is_running new) (begins state new) b.value b.progress values many in
      (λ i. record {
        state = new;
        start = test_next start b.start h s;
        cancel = test_next start b.cancel h c;
        submit = test_next start b.submit h m;
        value = apart.0 i;
        progress = apart.1 i;
      })
  fields_step h state (s ∷ c ∷ m ∷ o ∷ tests) values three many = absurd (omega arith)

  pub by_fields : (opened : BoardKept) → IsByFields start b opened
  by_fields opened fits [] = refl
  by_fields opened fits (image ∷ earlier) =
      let k : BoardKept = board_after start b opened earlier in
      let is : BoardFits b k = board_fits start b opened earlier fits in
      let three = sym (length-map k.member.tests length) ∙ ap length is.tests
      ∙ length-map (board_member b).tests trigger_hits in
      let many = sym (length-map k.member.values (λ (v : ValueKept). v.numbers))
      ∙ sym (length-map (map (λ (v : ValueKept). v.numbers) k.member.values) length)
      ∙ ap length is.numbers ∙ length-map (board_member b).values length in
      fields_step (image ∷ earlier) k.state k.member.tests k.member.values three many
      ∙ ap (fields_next (image ∷ earlier)) (by_fields opened fits earlier)
