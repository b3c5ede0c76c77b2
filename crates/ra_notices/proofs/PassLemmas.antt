-- The pass over the conditions of a group in text order.
use Rattle.std.proofs.Common.{◌≡◌, ◌∙◌, ℕ, suc, ◌+◌, ◌<◌, ◌==◌, Bool, true, false, not, ◌&&◌, ◌||◌, List, [], ◌∷◌, ◌++◌}
use Rattle.std.proofs.Common.{length, map, get_or, refl, sym, ap, ap₂, arith, append_assoc, append-nil, zero-add}
use Rattle.std.specs.List.{list_any, flat_map, range_with_len}
use Rattle.std.proofs.lemmas.List.FromFn.{get_or-map-range_with_len, length-map-range_with_len}
use Rattle.std.proofs.lemmas.List.Folds.{list_any-append}
use Rattle.ra_condition.specs.declared.condition.Condition.{Condition}
use Rattle.ra_condition.specs.Contents.{condition_at, flag_at}
use Rattle.ra_condition.specs.Flags.{is_pause, is_reset, combines}
use Rattle.ra_condition.specs.Chains.{places}
use Rattle.ra_condition.proofs.Passes.{range_more}
use Rattle.ra_member.proofs.PlanLemmas.{one_more}
use Rattle.ra_notices.specs.declared.conditions.Spot.{Spot}
use Rattle.ra_notices.specs.declared.groups.Standing.{Standing}
use Rattle.ra_notices.specs.declared.notice.Notice.{Notice}
use Rattle.ra_notices.specs.Notices.{stands, resets_at, pauses_at, is_twice, condition_notices, has_memory_right}
use Rattle.ra_notices.specs.Noticing.{AreMarks, locks_at, notices_by, seen_by, standing_with}

pub next_place : (place : ℕ) → range_with_len 0 (place + 1) ≡ range_with_len 0 place ++ place ∷ []
next_place place =
    let e : place + 1 ≡ suc place = omega arith in
    ap (range_with_len 0) e ∙ range_more 0 place ∙ ap (λ x. range_with_len 0 place ++ x ∷ []) (zero-add place)

or_false : (b : Bool) → (b || false) ≡ b
or_false true = refl
or_false false = refl

-- of what locks a ResetIf and a PauseIf take their own part
reset_part : (r p s : Bool) → (r && ((r && s) || (p && s))) ≡ (r && s)
reset_part true true true = refl
reset_part true true false = refl
reset_part true false true = refl
reset_part true false false = refl
reset_part false p s = refl

pause_part : (r p s : Bool) → (p && ((r && s) || (p && s))) ≡ (p && s)
pause_part true true true = refl
pause_part true true false = refl
pause_part false true true = refl
pause_part false true false = refl
pause_part r false s = refl

or_last : (a r p : Bool) → ((a || r) || p) ≡ (a || ((r || p) || false))
or_last true r p = refl
or_last false r p = sym (or_false (r || p))

module _ (spot : Spot) (cs : List Condition) where
  -- the notices on the places so far
  abbrev pub so_far : ℕ → List Notice
  so_far place = flat_map (condition_notices spot.place spot.group cs) (range_with_len 0 place)

  -- the pass has gone as far as the place
  pub record HasPassed (start found : List Notice) (place : ℕ) (standing : Standing) : Type 0 where
    pub found_too : found ≡ start ++ so_far place
    pub resets_too : standing.resets ≡ list_any (resets_at cs) (range_with_len 0 place)
    pub locks_too : standing.locks ≡ list_any (locks_at cs) (range_with_len 0 place)

  pub passed_none : (start : List Notice) → HasPassed start start 0 (record { resets = false; locks = false })
  passed_none start = record { found_too = sym (append-nil start); resets_too = refl; locks_too = refl }

  -- one condition more
  pub passed_more : (start found found' : List Notice) (place : ℕ) (c : Condition)
      (last again lock : Bool) (standing standing' : Standing)
      → c ≡ condition_at cs place → last ≡ (place + 1 == length cs) → again ≡ is_twice cs place
      → lock ≡ locks_at cs place
      → HasPassed start found place standing → found' ≡ found ++ notices_by spot place (seen_by c last again lock)
      → standing' ≡ standing_with standing (seen_by c last again lock)
      → HasPassed start found' (place + 1) standing'
  passed_more start found found' place c last again lock standing standing' is_c is_last is_again
      is_lock passed more next = record {
        found_too =
            more ∙ ap₂ (λ xs ws. xs ++ ws) passed.found_too notices_are
            ∙ append_assoc start (so_far place) (row place)
            ∙ ap (λ ws. start ++ ws)
            (sym (ap (flat_map row) (next_place place) ∙ one_more row (range_with_len 0 place) place));
        resets_too =
            ap (λ (s : Standing). s.resets) next ∙ ap₂ (λ a b. a || b) passed.resets_too resets_is
            ∙ ap (λ b. list_any (resets_at cs) (range_with_len 0 place) || b) (sym (or_false (resets_at cs place)))
            ∙ sym (ap (list_any (resets_at cs)) (next_place place)
            ∙ list_any-append (resets_at cs) (range_with_len 0 place) (place ∷ []));
        locks_too =
            ap (λ (s : Standing). s.locks) next ∙ (λ i. (passed.locks_too i || resets_is i) || pauses_is i)
            ∙ or_last (list_any (locks_at cs) (range_with_len 0 place)) (resets_at cs place) (pauses_at cs place)
            ∙ sym (ap (list_any (locks_at cs)) (next_place place)
            ∙ list_any-append (locks_at cs) (range_with_len 0 place) (place ∷ []));
      }
    where
      row : ℕ → List Notice
      row = condition_notices spot.place spot.group cs

      resets_is : (is_reset c.flag && lock) ≡ resets_at cs place
      resets_is = (λ i. is_reset (is_c i).flag && is_lock i)
          ∙ reset_part (is_reset (flag_at cs place)) (is_pause (flag_at cs place)) (stands cs place)

      pauses_is : (is_pause c.flag && lock) ≡ pauses_at cs place
      pauses_is = (λ i. is_pause (is_c i).flag && is_lock i)
          ∙ pause_part (is_reset (flag_at cs place)) (is_pause (flag_at cs place)) (stands cs place)

      last_is : last ≡ (suc place == length cs)
      last_is = is_last ∙ (let e : place + 1 ≡ suc place = omega arith in ap (λ n. n == length cs) e)

      notices_are : notices_by spot place (seen_by c last again lock) ≡ row place
      notices_are = (λ i. notices_by spot place (record {
        chained = combines (is_c i).flag && last_is i;
        twice = is_again i;
        memory_right = has_memory_right (is_c i).left (is_c i).right;
        resets = resets_is i;
        pauses = pauses_is i;
      }))

-- what stands at a place of a row of tests
pub test_there : (test : ℕ → Bool) (cs : List Condition) (tests : List Bool) (place : ℕ) (d : Bool)
    → tests ≡ map test (places cs) → place < length cs → get_or tests place d ≡ test place
test_there test cs tests place d all within =
    ap (λ ts. get_or ts place d) all ∙ get_or-map-range_with_len test 0 (length cs) place place d within (omega arith)

-- a row with a test of each condition marks those that pass it
pub marks_of : (test : ℕ → Bool) (cs : List Condition) (tests : List Bool) → tests
    ≡ map test (places cs) → AreMarks tests test cs
marks_of test cs tests all = λ j within. test_there test cs tests j false all within

-- there is one for each condition
pub tests_many : (test : ℕ → Bool) (cs : List Condition) (tests : List Bool) → tests
    ≡ map test (places cs) → length tests ≡ length cs
tests_many test cs tests all = ap length all ∙ length-map-range_with_len test 0 (length cs)
