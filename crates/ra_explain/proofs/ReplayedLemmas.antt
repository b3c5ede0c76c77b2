-- A replay, row by row: the achievement after the rows so far, and where the rows of an unlock begin.
use Rattle.std.proofs.Common.{◌≡◌, ℕ, suc, Bool, true, false, cond, List, [], sym, ap, subst, ◌∙◌}
use Rattle.ra_condition.specs.Contents.{TriggerContents}
use Rattle.ra_trigger.specs.States.{is_waiting}
use Rattle.ra_trigger.specs.Steps.{TriggerKept, step}
use Rattle.ra_explain.specs.declared.beginning.Beginning.{Beginning}
use Rattle.ra_explain.specs.Explains.{row_at, clears_at}
use Rattle.ra_explain.specs.Beginnings.{CountAlike, StepsOver, IsBeginning, replayed, clears_row, begins_by}
use Rattle.ra_explain.proofs.AlikeLemmas.{alike_on, step_alike, clears_alike}

module _ (t : TriggerContents) (rows : List Bool) (row : ℕ) (slice : List Bool) (is : slice
    ≡ row_at t rows row) (old new : TriggerKept) (clears : Bool)
    (alike : CountAlike old (replayed t rows row)) (steps : StepsOver t slice old new clears) where
  -- the achievement is stepped on
  pub row_alike : CountAlike new (replayed t rows (suc row))
  row_alike =
      alike_on new (step t slice [] old) (replayed t rows (suc row)) steps.alike
      (subst (λ r. CountAlike (step t slice [] old) (step t r [] (replayed t rows row))) is
      (step_alike t slice [] [] old (replayed t rows row) alike))

  clears_is : clears ≡ clears_row t rows row
  clears_is = steps.told ∙ clears_alike t slice [] [] old (replayed t rows row) alike
      ∙ ap (λ r. clears_at t r [] (replayed t rows row)) is

  -- where nothing is cleared the rows begin where they did
  pub begins_on : (b : Beginning) → clears ≡ false → IsBeginning t rows row b → IsBeginning t rows (suc row) b
  begins_on b none begins = record {
    since = begins.since ∙ sym (ap (λ c. cond c (suc row) (begins_by t rows row)) (sym clears_is ∙ none));
    waited = begins.waited;
  }

  -- and else behind the row
  pub begins_there : (b : Beginning) → clears ≡ true → b.since ≡ suc row → b.waited
      ≡ is_waiting new.state → IsBeginning t rows (suc row) b
  begins_there b some here waited = record {
    since = here ∙ sym (ap (λ c. cond c (suc row) (begins_by t rows row)) (sym clears_is ∙ some));
    waited = waited ∙ ap is_waiting row_alike.state ∙ ap (λ n. is_waiting (replayed t rows n).state) (sym here);
  }
