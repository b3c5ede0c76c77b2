-- What a display is seen to keep, in rows that fit a progress file.
use Rattle.std.proofs.Common.{◌≡◌, ℕ, zero, suc, ◌+◌, ◌<◌, Option, None, Some, List, [], ◌∷◌, ◌++◌, length, map, take}
use Rattle.std.proofs.Common.{get_or, refl, sym, ◌∙◌, ap, ap₂, subst, arith, append-nil, length-append}
use Rattle.std.specs.List.{concat, flat_map}
use Rattle.std.proofs.lemmas.List.{take_more}
use Rattle.std.proofs.lemmas.List.Concat.{concat_is, flat_map-append}
use Rattle.std.proofs.lemmas.List.Folds.{flat_map-map}
use Rattle.ra_progress.specs.Contents.{Name}
use Rattle.ra_progress.specs.Spelling.{named_blocks}
use Rattle.ra_member.specs.declared.member.Member.{Member}
use Rattle.ra_member.specs.Members.{MemberKept, saved_hits, saved_numbers}
use Rattle.ra_member.specs.MemberRuns.{FitWords, PutsBehind, kept_by}
use Rattle.ra_member.proofs.SavedRows.{behind_both}
use Rattle.ra_schedule.specs.declared.member_counts.MemberCounts.{MemberCounts}
use Rattle.ra_schedule.specs.Counted.{CountsFit, bits_in}
use Rattle.ra_schedule.specs.Counts.{counts_of}
use Rattle.ra_schedule.proofs.MembersRest.Counted.{length-owed_by, saved_owed_by, saved_stay_by}
use Rattle.ra_schedule.specs.Schedules.{owed_at, seen_all}
use Rattle.ra_display.specs.declared.line_rests.LineRests.{LineRests}
use Rattle.ra_display.specs.LineRests.{AreLinesFitting, seen_line, seen_lines}

-- no block is written without one
pub no_blocks : (names : List Name) → named_blocks names [] ≡ []
no_blocks [] = refl
no_blocks (name ∷ names) = refl

-- rows one behind the other
pub rows_of : (f : MemberKept → List ℕ) (kepts : List MemberKept) → concat (map f kepts) ≡ flat_map f kepts
rows_of f kepts = concat_is (map f kepts) ∙ flat_map-map (λ (row : List ℕ). row) f kepts

-- one more row that is put behind others
pub put_more : (f : MemberKept → List ℕ) (old mid new : List ℕ) (kepts : List MemberKept) (k : ℕ)
    (one : MemberKept) → k < length kepts → get_or kepts k one ≡ one
    → PutsBehind old mid (flat_map f (take k kepts)) → PutsBehind mid new (f one)
    → PutsBehind old new (flat_map f (take (k + 1) kepts))
put_more f old mid new kepts k one within is front behind =
    let more : take (k + 1) kepts ≡ take k kepts ++ one ∷ [] =
    take_more kepts k one within ∙ ap (λ x. take k kepts ++ x ∷ []) is in
    let rows : flat_map f (take (k + 1) kepts) ≡ flat_map f (take k kepts) ++ f one =
    ap (flat_map f) more ∙ flat_map-append f (take k kepts) (one ∷ [])
    ∙ ap (λ xs. flat_map f (take k kepts) ++ xs) (append-nil (f one)) in
    subst (PutsBehind old new) (sym rows) (behind_both old mid new (flat_map f (take k kepts)) (f one) front behind)

-- a row that was put behind nothing
pub row_of : (f : MemberKept → List ℕ) (old new : List ℕ) (kepts : List MemberKept) → old ≡ []
    → PutsBehind old new (flat_map f kepts) → new ≡ concat (map f kepts)
row_of f old new kepts empty put = put.all ∙ ap (λ xs. xs ++ flat_map f kepts) empty ∙ sym (rows_of f kepts)

-- what a line owes changes no count
pub hits_long : (run : Member) (c : MemberCounts) (owed : Option ℕ) → CountsFit (counts_of c)
    (kept_by run) → length (saved_hits (seen_line run c owed)) ≡ length (saved_hits (kept_by run))
hits_long run c None fit = refl
hits_long run c (Some n) fit =
    sym (ap length (saved_owed_by n (counts_of c) (kept_by run) fit))
    ∙ length-owed_by n (bits_in (counts_of c)) (saved_hits (kept_by run))

pub numbers_same : (run : Member) (c : MemberCounts) (owed : Option ℕ) → CountsFit (counts_of c)
    (kept_by run) → saved_numbers (seen_line run c owed) ≡ saved_numbers (kept_by run)
numbers_same run c None fit = refl
numbers_same run c (Some n) fit = saved_stay_by n (counts_of c) (kept_by run) fit

-- what lines owe changes no count
seen_hits_long : (owed : ℕ → Option ℕ) (runs : List Member) (counts : List MemberCounts)
    → AreLinesFitting runs counts → length (flat_map saved_hits
    (seen_all seen_line owed runs counts)) ≡ length (flat_map saved_hits (map kept_by runs))
seen_hits_long owed [] [] fit = refl
seen_hits_long owed [] (c ∷ counts) fit = absurd fit
seen_hits_long owed (run ∷ runs) [] fit = absurd fit
seen_hits_long owed (run ∷ runs) (c ∷ counts) fit =
    let one = hits_long run c (owed 0) fit.0 in
    let others = seen_hits_long (λ k. owed (suc k)) runs counts fit.1 in
    length-append (saved_hits (seen_line run c (owed 0)))
    (flat_map saved_hits (seen_all seen_line (λ k. owed (suc k)) runs counts))
    ∙ ap₂ (λ x y. x + y) one others
    ∙ sym (length-append (saved_hits (kept_by run)) (flat_map saved_hits (map kept_by runs)))

pub seen_numbers_same : (owed : ℕ → Option ℕ) (runs : List Member) (counts : List MemberCounts)
    → AreLinesFitting runs counts → flat_map saved_numbers (seen_all seen_line owed runs counts)
    ≡ flat_map saved_numbers (map kept_by runs)
seen_numbers_same owed [] [] fit = refl
seen_numbers_same owed [] (c ∷ counts) fit = absurd fit
seen_numbers_same owed (run ∷ runs) [] fit = absurd fit
seen_numbers_same owed (run ∷ runs) (c ∷ counts) fit =
    ap₂ (λ xs ys. xs ++ ys) (numbers_same run c (owed 0) fit.0)
    (seen_numbers_same (λ k. owed (suc k)) runs counts fit.1)

-- the same of the rows of a display
pub rows_long : (runs : List Member) (rests : LineRests) → AreLinesFitting runs rests.each.items
    → (length (concat (map saved_hits (seen_lines runs rests))) ≡ length (concat (map saved_hits (map kept_by runs))))
    × (length (concat (map saved_numbers (seen_lines runs rests)))
    ≡ length (concat (map saved_numbers (map kept_by runs))))
rows_long runs rests fit =
    let owed = owed_at rests.schedule in
    let hits = ap length (rows_of saved_hits (seen_lines runs rests)) ∙ seen_hits_long owed runs
    rests.each.items fit ∙ sym (ap length (rows_of saved_hits (map kept_by runs))) in
    let numbers = ap length (rows_of saved_numbers (seen_lines runs rests) ∙ seen_numbers_same owed
    runs rests.each.items fit ∙ sym (rows_of saved_numbers (map kept_by runs))) in
    (hits, numbers)

-- what stands beside a line fits it
pub fitting_at : (k : ℕ) (runs : List Member) (counts : List MemberCounts) (run : Member)
    (c : MemberCounts) → k < length runs → AreLinesFitting runs counts
    → CountsFit (counts_of (get_or counts k c)) (kept_by (get_or runs k run))
fitting_at k [] counts run c within fit = absurd (omega (arith, within))
fitting_at k (r ∷ runs) [] run c within fit = absurd fit
fitting_at zero (r ∷ runs) (e ∷ counts) run c within fit = fit.0
fitting_at (suc k) (r ∷ runs) (e ∷ counts) run c within fit =
    fitting_at k runs counts run c (omega (arith, within)) fit.1

pub fitting_many : (runs : List Member) (counts : List MemberCounts) → AreLinesFitting runs counts
    → length counts ≡ length runs
fitting_many [] [] fit = refl
fitting_many [] (c ∷ counts) fit = absurd fit
fitting_many (run ∷ runs) [] fit = absurd fit
fitting_many (run ∷ runs) (c ∷ counts) fit = ap suc (fitting_many runs counts fit.1)

-- a row of what given lines are seen to keep, put behind nothing
pub row_seen : (f : MemberKept → List ℕ) (rests : LineRests) (given lines : List Member)
    (old new : List ℕ) → old ≡ [] → given ≡ lines → PutsBehind old new
    (flat_map f (seen_lines given rests)) → new ≡ concat (map f (seen_lines lines rests))
row_seen f rests given lines old new empty same put =
    row_of f old new (seen_lines given rests) empty put ∙ ap (λ ls. concat (map f (seen_lines ls rests))) same

pub row_fits : (f : MemberKept → List ℕ) (rests : LineRests) (given lines : List Member)
    (old new : List ℕ) → given ≡ lines → PutsBehind old new (flat_map f (seen_lines given rests))
    → FitWords (concat (map f (seen_lines lines rests)))
row_fits f rests given lines old new same put =
    subst (λ (ls : List Member). FitWords (concat (map f (seen_lines ls rests)))) same
    (subst FitWords (sym (rows_of f (seen_lines given rests))) put.fit)

-- numbers of 32 bits, and those behind others among them
pub words_of : (xs : List ℕ) → ((i d : ℕ) → i < length xs → get_or xs i d < 4294967296) → FitWords xs
words_of [] each = tt
words_of (x ∷ xs) each = (each 0 x (omega arith), words_of xs (λ i d within. each (suc i) d (omega (arith, within))))

pub fit_behind : (xs ys : List ℕ) → FitWords (xs ++ ys) → FitWords ys
fit_behind [] ys fit = fit
fit_behind (x ∷ xs) ys fit = fit_behind xs ys fit.1
