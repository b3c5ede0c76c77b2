-- The rows of a display as they are seen, written line by line.
use Rattle.std.proofs.Common.{◌≡◌, ℕ, suc, ◌+◌, ◌<◌, ◌≤◌, ◌^◌, Option, List, [], ◌∷◌, length, map, take, get_or, refl}
use Rattle.std.proofs.Common.{sym, ◌∙◌, ap, ap₂, subst, arith}
use Rattle.std.specs.List.{concat}
use Rattle.std.proofs.lemmas.List.{length-map, get_or-map, take_all}
use Rattle.ra_member.specs.declared.member.Member.{Member}
use Rattle.ra_member.specs.Members.{MemberKept, saved_hits, saved_numbers}
use Rattle.ra_member.specs.MemberRuns.{kept_by}
use Rattle.ra_schedule.specs.declared.member_counts.MemberCounts.{MemberCounts}
use Rattle.ra_schedule.specs.Schedules.{owed_at, seen_all}
use Rattle.ra_schedule.proofs.MembersRest.SeenAll.{seen_many}
use Rattle.ra_display.specs.declared.line_rests.LineRests.{LineRests}
use Rattle.ra_progress.specs.Spelling.{presence_bytes}
use Rattle.ra_text.specs.Words.{words}
use Rattle.std.specs.Int.{w32, to_le_bytes}
use Rattle.ra_display.specs.declared.presence_run.PresenceRun.{PresenceRun}
use Rattle.ra_display.specs.Keeping.{HasWords, PutsOver, PutsWords}
use Rattle.ra_display.specs.LineRests.{AreLinesFitting, presence_seen, seen_line, seen_lines}
use Rattle.ra_display.specs.SavedPresence.{FitPresence}
use Rattle.ra_display.proofs.Putting.{one_word, puts_both, room_row, rows_more, words_both}
use Rattle.ra_display.proofs.SavedLines.{fitting_many, hits_long, numbers_same}

seen_alike : (owed : ℕ → Option ℕ) (runs : List Member) (counts : List MemberCounts)
    → AreLinesFitting runs counts → map length (map saved_hits
    (seen_all seen_line owed runs counts)) ≡ map length (map saved_hits (map kept_by runs))
seen_alike owed [] [] fit = refl
seen_alike owed [] (c ∷ counts) fit = absurd fit
seen_alike owed (run ∷ runs) [] fit = absurd fit
seen_alike owed (run ∷ runs) (c ∷ counts) fit =
    ap₂ (λ x xs. x ∷ xs) (hits_long run c (owed 0) fit.0) (seen_alike (λ k. owed (suc k)) runs counts fit.1)

numbers_alike : (owed : ℕ → Option ℕ) (runs : List Member) (counts : List MemberCounts)
    → AreLinesFitting runs counts → map saved_numbers (seen_all seen_line owed runs counts)
    ≡ map saved_numbers (map kept_by runs)
numbers_alike owed [] [] fit = refl
numbers_alike owed [] (c ∷ counts) fit = absurd fit
numbers_alike owed (run ∷ runs) [] fit = absurd fit
numbers_alike owed (run ∷ runs) (c ∷ counts) fit =
    ap₂ (λ x xs. x ∷ xs) (numbers_same run c (owed 0) fit.0) (numbers_alike (λ k. owed (suc k)) runs counts fit.1)

-- the numbers of lines as they are seen are those that they keep
pub numbers_seen : (lines : List Member) (rests : LineRests) → AreLinesFitting lines
    rests.each.items → map saved_numbers (seen_lines lines rests)
    ≡ map saved_numbers (map kept_by lines)
numbers_seen lines rests fit = numbers_alike (owed_at rests.schedule) lines rests.each.items fit

pub hits_seen : (lines : List Member) (rests : LineRests) → AreLinesFitting lines rests.each.items
    → map length (map saved_hits (seen_lines lines rests))
    ≡ map length (map saved_hits (map kept_by lines))
hits_seen lines rests fit = seen_alike (owed_at rests.schedule) lines rests.each.items fit

pub lines_many : (lines : List Member) (rests : LineRests) → AreLinesFitting lines rests.each.items
    → length (seen_lines lines rests) ≡ length lines
lines_many lines rests fit = seen_many Member MemberCounts MemberKept seen_line
    (owed_at rests.schedule) lines rests.each.items (fitting_many lines rests.each.items fit)

-- a row of each line, by what is kept of it
module _ (f : MemberKept → List ℕ) (old mid : List ℕ) (at behind : ℕ) (lines : List Member)
    (seen : List MemberKept) (k : ℕ) (within : k < length lines)
    (first : PutsWords old mid at behind (concat (take k (map f seen)))) where
  pub line_room : (d : Member) → map length (map f seen) ≡ map length (map f (map kept_by lines))
      → HasWords old at (concat (map f (map kept_by lines)))
      → HasWords mid behind (f (kept_by (get_or lines k d)))
  line_room d same room =
      let many : length (map f (map kept_by lines)) ≡ length lines =
      omega (arith, length-map (map kept_by lines) f, length-map lines kept_by) in
      let there : get_or (map f (map kept_by lines)) k (f (kept_by d)) ≡ f (kept_by (get_or lines k d)) =
      get_or-map f (map kept_by lines) k (kept_by d) (f (kept_by d))
      (omega (arith, within, length-map lines kept_by))
      ∙ ap f (get_or-map kept_by lines k d (kept_by d) within) in
      let all = room_row old mid at behind (map f seen) (map f (map kept_by lines)) k
      (f (kept_by d)) same (omega (arith, within, many)) room first in
      omega (arith, all, ap length there)

  pub line_more : (new : List ℕ) (next : ℕ) (one : MemberKept) → length seen ≡ length lines
      → get_or seen k one ≡ one → PutsWords mid new behind next (f one)
      → PutsWords old new at next (concat (take (k + 1) (map f seen)))
  line_more new next one many is put =
      let here : get_or (map f seen) k (f one) ≡ f one =
      get_or-map f seen k one (f one) (omega (arith, within, many)) ∙ ap f is in
      rows_more old mid new at behind next (map f seen) k (f one)
      (omega (arith, within, many, length-map seen f)) here first put

-- all of them
pub line_all : (f : MemberKept → List ℕ) (old mid : List ℕ) (at behind : ℕ) (seen : List MemberKept)
    (k : ℕ) → length seen ≤ k → PutsWords old mid at behind (concat (take k (map f seen)))
    → PutsWords old mid at behind (concat (map f seen))
line_all f old mid at behind seen k over puts = subst (λ rs. PutsWords old mid at behind
    (concat rs)) (take_all k (map f seen) (omega (arith, over, length-map seen f))) puts

-- the shown line, the hits and then the numbers of all lines are the block of the display
pub display_put : (run : PresenceRun) (rests : LineRests) (one two three four : List ℕ) (at hits
    numbers next : ℕ) → AreLinesFitting run.lines.items rests.each.items → run.shown < 2 ^ 32
    → PutsOver one two at hits (to_le_bytes w32 run.shown)
    → PutsWords two three hits numbers (concat (map saved_hits (seen_lines run.lines.items rests)))
    → PutsWords three four numbers next (concat (map saved_numbers (map kept_by run.lines.items)))
    → PutsOver one four at next (presence_bytes (presence_seen run rests)) × FitPresence (presence_seen run rests)
display_put run rests one two three four at hits numbers next fit small shown first last =
    let kept = presence_seen run rests in
    let front : PutsWords one three at numbers (run.shown ∷ kept.hits) =
    words_both one two three at hits numbers (run.shown ∷ []) kept.hits
    (one_word one two at hits run.shown small shown) first in
    let back : PutsWords three four numbers next kept.numbers = subst (λ rows. PutsWords three four
    numbers next (concat rows)) (sym (numbers_seen run.lines.items rests fit)) last in (
      puts_both one three four at numbers next (words (run.shown ∷ kept.hits))
          (words kept.numbers) front.puts back.puts,
      record { hits = front.fit.1; numbers = back.fit },
    )
