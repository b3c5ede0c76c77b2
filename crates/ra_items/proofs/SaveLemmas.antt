-- What runs keep is an opening of their set.
use Rattle.std.proofs.Common.{◌≡◌, ℕ, ◌+◌, ◌<◌, ◌^◌, Bool, List, [], ◌∷◌, ◌++◌, length, map, take, get_or, sym, ◌∙◌, ap}
use Rattle.std.proofs.Common.{subst}
use Rattle.std.proofs.lemmas.List.{take_more}
use Rattle.ra_progress.specs.declared.shape.ItemShape.{ItemShape}
use Rattle.ra_progress.specs.declared.shape.ItemShape.TheVariants as shapes
use Rattle.ra_trigger.specs.Steps.{TriggerKept}
use Rattle.ra_text.specs.Words.{AreWords}
use Rattle.ra_progress.specs.Contents.{KeptItem, OfBoard, ItemFits, ItemsFit}
use Rattle.ra_items.specs.declared.board_run.BoardRun.{BoardRun}
use Rattle.ra_items.specs.declared.item_run.ItemRun.{ItemRun}
use Rattle.ra_leaderboard.specs.States.{board_byte}
use Rattle.ra_meaning.specs.Openings.{kept_achievement}
use Rattle.ra_items.specs.Shapes.{board_run_shape, run_shape}
use Rattle.ra_meaning.proofs.Words.Items.{state_within, earned_where_triggered, board_state_within}
use Rattle.ra_member.specs.MemberRuns.{FitWords, kept_by}
use Rattle.ra_member.proofs.GrowthLemmas.{taken_next}
use Rattle.ra_member.specs.Members.{saved_hits, saved_numbers}

fit_more : (shapes : List ItemShape) (items : List KeptItem) (shape : ItemShape) (item : KeptItem)
    → ItemsFit shapes items → ItemFits shape item
    → ItemsFit (shapes ++ shape ∷ []) (items ++ item ∷ [])
fit_more [] [] shape item fit one = (one, tt)
fit_more [] (i ∷ items) shape item fit one = absurd fit
fit_more (s ∷ shapes) [] shape item fit one = absurd fit
fit_more (s ∷ shapes) (i ∷ items) shape item fit one = (fit.0, fit_more shapes items shape item fit.1 one)

-- one item more
pub seen_fit_more : (runs : List ItemRun) (kept : List KeptItem) (k : ℕ) (run : ItemRun)
    (item : KeptItem) → k < length runs → k < length kept → run ≡ get_or runs k run
    → get_or kept k item ≡ item
    → ItemsFit (map run_shape (take k runs)) (take k kept) → ItemFits (run_shape run) item
    → ItemsFit (map run_shape (take (k + 1) runs)) (take (k + 1) kept)
seen_fit_more runs kept k run item within among is here fit one =
    let more : take (k + 1) kept ≡ take k kept ++ item ∷ [] =
    take_more kept k item among ∙ ap (λ x. take k kept ++ x ∷ []) here in
    subst (λ (ss : List ItemShape). ItemsFit ss (take (k + 1) kept)) (sym (taken_next run_shape runs k run within is))
    (subst (ItemsFit (map run_shape (take k runs) ++ run_shape run ∷ [])) (sym more)
    (fit_more (map run_shape (take k runs)) (take k kept) (run_shape run) item fit one))

-- what is kept of an achievement has the count of its hits
pub achievement_kept_fits : (earned : Bool) (kept : TriggerKept) → kept.measured < 2 ^ 32
    → AreWords (length kept.hits) kept.hits
    → ItemFits (shapes.Achievement (length kept.hits)) (kept_achievement earned kept)
achievement_kept_fits earned kept measured hits =
    (state_within kept.state, earned_where_triggered earned kept.state, measured, hits)

-- what is kept of a board has the counts of its hits and numbers
pub board_kept_fits : (run : BoardRun) (hits numbers : List ℕ) → length hits
    ≡ length (saved_hits (kept_by run.member)) → length numbers
    ≡ length (saved_numbers (kept_by run.member)) → FitWords hits → FitWords numbers
    → ItemFits (board_run_shape run) (OfBoard (board_byte run.board) hits numbers)
board_kept_fits run hits numbers many as_many fit fit_too =
    (board_state_within run.board, record { as_many = many; fit = fit }, record { as_many = as_many; fit = fit_too })
