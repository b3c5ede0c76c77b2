-- The pass over the conditions of a group in text order.
use Rattle.std.proofs.Common.{◌≡◌, ℕ, suc, ◌+◌, ◌<◌, Bool, true, false, not, ◌&&◌, ◌||◌, Option, None, List, [], ◌∷◌}
use Rattle.std.proofs.Common.{◌++◌, length, map, get_or, refl, sym, ap, ap₂, ◌∙◌, arith, append_assoc, append-nil}
use Rattle.std.proofs.Common.{zero-add}
use Rattle.std.specs.List.{list_any, flat_map, range_with_len}
use Rattle.std.proofs.lemmas.List.FromFn.{get_or-map-range_with_len, length-map-range_with_len}
use Rattle.std.proofs.lemmas.List.Folds.{list_any-append}
use Rattle.ra_condition.specs.declared.condition.Condition.{Condition}
use Rattle.ra_condition.specs.Contents.{condition_at, flag_at}
use Rattle.ra_condition.specs.Flags.{is_required}
use Rattle.ra_condition.specs.Chains.{places}
use Rattle.ra_condition.proofs.Passes.{range_more}
use Rattle.ra_member.proofs.PlanLemmas.{one_more}
use Rattle.ra_lint.specs.declared.chance.Chance.{Chance}
use Rattle.ra_lint.specs.declared.rows.Spot.{Spot}
use Rattle.ra_lint.specs.declared.verdict.Verdict.{Verdict}
use Rattle.ra_lint.specs.declared.warning.Warning.{Warning}
use Rattle.ra_lint.specs.Chances.{chance, next_chance, chance_before, chance_at}
use Rattle.ra_lint.specs.Judging.{verdict_at}
use Rattle.ra_lint.specs.Passing.{warnings_by}
use Rattle.ra_lint.specs.Warnings.{may_hold, condition_warnings}

-- the condition at a place is needed and never valid
abbrev pub is_lost : List Condition → ℕ → Bool
is_lost cs j = is_required (flag_at cs j) && not (chance_at cs (may_hold cs) j).valid

module _ (spot : Spot) (cs : List Condition) where
  -- the warnings of the places so far
  abbrev pub so_far : ℕ → List Warning
  so_far place = flat_map (condition_warnings spot.item spot.place spot.group cs) (range_with_len 0 place)

  -- the pass has gone as far as the place
  pub record HasPassed (start found : List Warning) (place : ℕ) (before : Option Chance) (dead : Bool) : Type 0 where
    pub found_too : found ≡ start ++ so_far place
    pub before_too : before ≡ chance_before cs (may_hold cs) place
    pub dead_too : dead ≡ list_any (is_lost cs) (range_with_len 0 place)

  pub passed_none : (start : List Warning) → HasPassed start start 0 None false
  passed_none start = record { found_too = sym (append-nil start); before_too = refl; dead_too = refl }

  next_place : (place : ℕ) → range_with_len 0 (place + 1) ≡ range_with_len 0 place ++ place ∷ []
  next_place place =
      let e : place + 1 ≡ suc place = omega arith in
      ap (range_with_len 0) e ∙ range_more 0 place ∙ ap (λ x. range_with_len 0 place ++ x ∷ []) (zero-add place)

  -- one condition more
  pub passed_more : (start found found' : List Warning) (place : ℕ) (c : Condition) (verdict : Verdict) (here : Chance)
      (before before' : Option Chance) (dead dead' : Bool)
      → c ≡ condition_at cs place → verdict ≡ verdict_at cs place → here ≡ chance c (not verdict.never) before
      → HasPassed start found place before dead → found' ≡ found ++ warnings_by spot place c verdict here
      → before' ≡ next_chance c here before → dead' ≡ (dead || (is_required here.flag && not here.valid))
      → HasPassed start found' (place + 1) before' dead'
  passed_more start found found' place c verdict here before before' dead dead' is_c is_verdict is_here passed more
      next lost = record {
        found_too =
            more ∙ ap₂ (λ xs ws. xs ++ ws) passed.found_too warnings_are
            ∙ append_assoc start (so_far place) (row place)
            ∙ ap (λ ws. start ++ ws) (sym (ap (flat_map row) (next_place place)
            ∙ one_more row (range_with_len 0 place) place));
        before_too = next ∙ before_next;
        dead_too =
            lost ∙ ap₂ (λ a b. a || b) passed.dead_too lost_is
            ∙ ap (λ b. list_any (is_lost cs) (range_with_len 0 place) || b) (sym (or_false (is_lost cs place)))
            ∙ sym (ap (list_any (is_lost cs)) (next_place place) ∙ list_any-append (is_lost cs) (range_with_len 0 place)
            (place ∷ []));
      }
    where
      row : ℕ → List Warning
      row = condition_warnings spot.item spot.place spot.group cs

      or_false : (b : Bool) → (b || false) ≡ b
      or_false true = refl
      or_false false = refl

      here_is : here ≡ chance_at cs (may_hold cs) place
      here_is = is_here ∙ (λ i. chance (is_c i) (not (is_verdict i).never) (passed.before_too i))

      warnings_are : warnings_by spot place c verdict here ≡ row place
      warnings_are = λ i. warnings_by spot place (is_c i) (is_verdict i) (here_is i)

      lost_is : (is_required here.flag && not here.valid) ≡ is_lost cs place
      lost_is = λ i. is_required (here_is i).flag && not (here_is i).valid

      before_next : next_chance c here before ≡ chance_before cs (may_hold cs) (place + 1)
      before_next =
          let e : suc place ≡ place + 1 = omega arith in
          (λ i. next_chance (is_c i) (here_is i) (passed.before_too i)) ∙ ap (chance_before cs (may_hold cs)) e

-- the verdict that stands at a place
pub verdict_there : (cs : List Condition) (verdicts : List Verdict) (place : ℕ) (d : Verdict)
    → verdicts ≡ map (verdict_at cs) (places cs) → place < length cs → get_or verdicts place d ≡ verdict_at cs place
verdict_there cs verdicts place d all within =
    ap (λ vs. get_or vs place d) all ∙ get_or-map-range_with_len (verdict_at cs) 0 (length cs) place place d within
    (omega arith)

-- there is one for each condition
pub verdicts_many : (cs : List Condition) (verdicts : List Verdict) → verdicts ≡ map (verdict_at cs) (places cs)
    → length verdicts ≡ length cs
verdicts_many cs verdicts all = ap length all ∙ length-map-range_with_len (verdict_at cs) 0 (length cs)
