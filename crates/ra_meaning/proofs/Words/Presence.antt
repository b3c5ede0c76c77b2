-- The presence after a history keeps numbers of 32 bits, as many as its script says, and shows a line of it.
use Rattle.std.proofs.Common.{◌≡◌, ◌⊎◌, inl, inr, ℕ, suc, ◌<◌, true, false, Option, None, Some, option_map, List, []}
use Rattle.std.proofs.Common.{◌∷◌, length, map, take, drop, refl, sym, ◌∙◌, arith}
use Rattle.std.specs.List.{AllByRecursion, concat}
use Rattle.ra_memory.specs.Image.{History, AreImages}
use Rattle.ra_memref.specs.Values.{Start}
use Rattle.ra_richpresence.specs.Contents.{LineContents, ScriptContents}
use Rattle.ra_progress.specs.Contents.{KeptPresence, PresenceFits}
use Rattle.ra_member.specs.Members.{MemberContents, MemberKept, HaveShapes, tests_hold, members_next, saved_hits}
use Rattle.ra_member.specs.Members.{saved_numbers, opened_members, member_hits, member_numbers}
use Rattle.ra_member.proofs.Opened.{members_long}
use Rattle.ra_meaning.specs.Order.{line_member, script_members, presence_shape}
use Rattle.ra_meaning.specs.Presence.{DisplayKept, line_holds, lines_hold, first_true, display_after, opened_display}
use Rattle.ra_meaning.specs.Openings.{optional_presence}
use Rattle.ra_meaning.proofs.Openings.Fits.{script_fits}
use Rattle.ra_meaning.proofs.Cuts.Presence.{DisplayFits, display_fits}
use Rattle.ra_meaning.proofs.Each.{each_append, each_take, each_drop, each_map_of}
use Rattle.ra_meaning.proofs.Words.Trees.{IsWord, AreStartWords}
use Rattle.ra_meaning.proofs.Words.Groups.{AreAllWords}
use Rattle.ra_meaning.proofs.Words.Members.{FitsMember, AreMemberWords, opened_words, saved_words, tests_words}
use Rattle.ra_meaning.proofs.Words.Members.{values_words}

-- some line has no test
abbrev pub HasUntested : List LineContents → Type 0
HasUntested [] = ⊥
HasUntested (line ∷ lines) = (line.test ≡ None) ⊎ HasUntested lines

-- the operands of a line are of 32 bits
abbrev pub FitsLine : LineContents → Type 0
FitsLine line = FitsMember (line_member line)

-- the operands of a script are of 32 bits, and some line of it always holds
pub record FitsScript (script : ScriptContents) : Type 0 where
  pub lines : AllByRecursion FitsLine script.lines
  pub untested : HasUntested script.lines

-- a file's numbers, cut for members, and laid out in rows again
cut_words : (members : List MemberContents) (hits numbers : List ℕ) → AreAllWords hits
    → AreAllWords numbers → AllByRecursion AreMemberWords (opened_members members hits numbers)
cut_words [] hits numbers hit_words words = tt
cut_words (m ∷ members) hits numbers hit_words words =
    let h = member_hits m in
    let n = member_numbers m in (
      opened_words m (take h hits) (take n numbers) (each_take IsWord h hits hit_words)
          (each_take IsWord n numbers words),
      cut_words members (drop h hits) (drop n numbers) (each_drop IsWord h hits hit_words)
          (each_drop IsWord n numbers words),
    )

rows_words : (kept : List MemberKept) → AllByRecursion AreMemberWords kept
    → AreAllWords (concat (map saved_hits kept)) × AreAllWords (concat (map saved_numbers kept))
rows_words [] words = (tt, tt)
rows_words (k ∷ kept) words =
    let first = saved_words k words.0 in
    let rest = rows_words kept words.1 in (
      each_append IsWord (saved_hits k) (concat (map saved_hits kept)) first.0 rest.0,
      each_append IsWord (saved_numbers k) (concat (map saved_numbers kept)) first.1 rest.1,
    )

module _ (start : Start) where
  -- the first line that holds is one of the script's
  untested_holds : (line : LineContents) → line.test ≡ None → (kept : MemberKept) (h : History)
      → line_holds (tests_hold start (line_member line).tests h kept.tests) ≡ true
  untested_holds line none kept h = rw none refl

  first_below : (h : History) (lines : List LineContents) (ks : List MemberKept)
      → HaveShapes (map line_member lines) ks → HasUntested lines
      → first_true (lines_hold start (map line_member lines) h ks) < length lines
  first_below h [] ks fits has = absurd has
  first_below h (line ∷ lines) [] fits has = absurd fits
  first_below h (line ∷ lines) (k ∷ ks) fits has =
      let rest = lines_hold start (map line_member lines) h ks in
      let here = line_holds (tests_hold start (line_member line).tests h k.tests) in
      elim here as (λ b. here ≡ b → first_true (b ∷ rest) < suc (length lines)) [
        | true ↦ λ holds. omega arith
        | false ↦ λ fails. elim has [
          | inl none ↦ absurd (let both : true ≡ false = sym (untested_holds line none k h) ∙ fails in cc)
          | inr later ↦ let below : first_true rest < length lines = first_below h lines ks fits.1 later in omega arith
        ]
      ] refl

  shown_below : (script : ScriptContents) (opened : DisplayKept) → DisplayFits script opened
      → HasUntested script.lines → opened.shown < length script.lines → (h : History)
      → (display_after start script opened h).shown < length script.lines
  shown_below script opened fits has below [] = below
  shown_below script opened fits has below (image ∷ earlier) =
      first_below (image ∷ earlier) script.lines (display_after start script opened earlier).lines
      (display_fits start script opened earlier fits) has

module _ (start : Start) (start_words : AreStartWords start) where
  next_words : (h : History) → AreImages h → (members : List MemberContents)
      → AllByRecursion FitsMember members → (kept : List MemberKept) → AllByRecursion AreMemberWords
      kept → AllByRecursion AreMemberWords (members_next start members h kept)
  next_words h images [] fits kept words = tt
  next_words h images (m ∷ members) fits [] words = tt
  next_words h images (m ∷ members) fits (k ∷ kept) words = (
    record {
      tests = tests_words start start_words h images m.tests fits.0.tests k.tests words.0.tests;
      values = values_words start start_words h images m.values fits.0.values k.values words.0.values;
    },
    next_words h images members fits.1 kept words.1,
  )

  display_words : (script : ScriptContents) → AllByRecursion FitsMember (script_members script)
      → (opened : DisplayKept) → AllByRecursion AreMemberWords opened.lines → (h : History)
      → AreImages h → AllByRecursion AreMemberWords (display_after start script opened h).lines
  display_words script fits opened words [] images = words
  display_words script fits opened words (image ∷ earlier) images =
      next_words (image ∷ earlier) images (script_members script) fits (display_after start script
      opened earlier).lines (display_words script fits opened words earlier images.1)

  pub presence_fits : (h : History) → AreImages h → (script : Option ScriptContents)
      → ((s : ScriptContents) → script ≡ Some s → FitsScript s) → (kept : Option KeptPresence)
      → PresenceFits (option_map presence_shape script) kept
      → PresenceFits (option_map presence_shape script) (optional_presence start h script kept)
  presence_fits h images None fits kept is = tt
  presence_fits h images (Some script) fits None is = absurd is
  presence_fits h images (Some script) fits (Some kept) is =
      let spelled : FitsScript script = fits script refl in
      let opened = opened_display script kept in
      let after = display_after start script opened h in
      let opened_fit = script_fits script kept is in
      let long = members_long (script_members script) after.lines (display_fits start script opened h opened_fit) in
      let words = rows_words after.lines (display_words script (each_map_of FitsMember FitsLine
      line_member (λ line is. is) script.lines spelled.lines) opened (cut_words (script_members
      script) kept.hits kept.numbers is.1.fit is.2.fit) h images) in (
        shown_below start script opened opened_fit spelled.untested is.0 h,
        record { as_many = long.0; fit = words.0 },
        record { as_many = long.1; fit = words.1 },
      )
