-- A display shows what the definitions say after every history that leaves what it keeps.
use Rattle.std.proofs.Common.{◌≡◌, ℕ, Option, None, Some, option_map, List, [], ◌∷◌, codes, decimal, refl, sym, ◌∙◌, ap}
use Rattle.ra_indirect.specs.declared.node.Node.{Node}
use Rattle.ra_memory.specs.Image.{History}
use Rattle.ra_memref.specs.Values.{Start}
use Rattle.ra_richpresence.specs.Contents.{ScriptContents}
use Rattle.ra_set.specs.Spelled.{OptionalScript}
use Rattle.ra_progress.specs.Contents.{KeptPresence, PresenceFits}
use Rattle.ra_display.specs.declared.presence_run.PresenceRun.{PresenceRun}
use Rattle.ra_meaning.specs.Lines.{line_of}
use Rattle.ra_meaning.specs.Order.{presence_shape}
use Rattle.ra_meaning.specs.Openings.{optional_presence}
use Rattle.ra_meaning.specs.Play.{shown_by}
use Rattle.ra_meaning.specs.Presence.{DisplayKept, display_after, opened_display, display_text, presence_after}
use Rattle.ra_display.specs.declared.line_rests.LineRests.{LineRests}
use Rattle.ra_display.specs.LineRests.{AreLineRests, AreOptionalRests, display_seen, optional_presence_seen}
use Rattle.ra_display.specs.LineRests.{presence_seen}
use Rattle.ra_display.specs.PresenceRuns.{IsPresenceRun, IsOptionalPresence}
use Rattle.ra_display.specs.Showing.{MayShow, shown_text, optional_text}
use Rattle.ra_meaning.proofs.Openings.Fits.{script_fits}
use Rattle.ra_meaning.proofs.Cuts.Presence.{DisplayFits, display_again, display_fits}
use Rattle.ra_display.proofs.SeenLines.{lines_fitting, lines_shaped, text_seen}

-- a display of a script that some text spells shows one of its lines
pub may_show : (nodes : List Node) (script : Option ScriptContents) (run : Option PresenceRun)
    → OptionalScript script → IsOptionalPresence nodes script run → MayShow script run
may_show nodes None None spelled is = tt
may_show nodes None (Some run) spelled is = tt
may_show nodes (Some script) None spelled is = tt
may_show nodes (Some script) (Some run) spelled is = (is.shown, spelled.0.formats)

module _ (nodes : List Node) (values : List ℕ) (start : Start) (count : ℕ) (history : History) where
  shows_script : (script : ScriptContents) (run : PresenceRun) (rests : LineRests) (opened
      : KeptPresence) → IsPresenceRun nodes script run → AreLineRests nodes values script.lines
      run.lines.items rests → PresenceFits (Some (presence_shape script)) (Some opened)
      → presence_seen run rests ≡ presence_after start script opened history → shown_text count
      script run ≡ shown_by start count history (Some script) (Some opened)
  shows_script script run rests opened is are fits same =
      let runs : DisplayKept = display_seen run rests in
      let after : DisplayKept = display_after start script (opened_display script opened) history in
      let fit : DisplayFits script after = display_fits start script
      (opened_display script opened) history (script_fits script opened fits) in
      let kept : runs ≡ after = sym (display_again script runs
      (lines_shaped nodes values script.lines run.lines.items rests is.lines are))
      ∙ ap (opened_display script) same ∙ display_again script after fit in
      ap (λ t. line_of (codes "presence" ∷ decimal count ∷ t ∷ []))
      (text_seen script run rests (lines_fitting nodes values script.lines run.lines.items rests
      is.lines are) ∙ ap (display_text script) kept)

  pub shows : (script : Option ScriptContents) (run : Option PresenceRun) (rests : LineRests)
      (opened : Option KeptPresence) → IsOptionalPresence nodes script run → AreOptionalRests nodes
      values script run rests → PresenceFits (option_map presence_shape script) opened
      → optional_presence_seen run rests ≡ optional_presence start history script opened
      → optional_text count script run ≡ shown_by start count history script opened
  shows None None rests None is are fits same = refl
  shows None None rests (Some opened) is are fits same = absurd fits
  shows None (Some run) rests opened is are fits same = absurd is
  shows (Some script) None rests opened is are fits same = absurd is
  shows (Some script) (Some run) rests None is are fits same = absurd fits
  shows (Some script) (Some run) rests (Some opened) is are fits same =
      shows_script script run rests opened is are fits (let e : presence_seen run rests
      ≡ presence_after start script opened history = cc in e)

-- a display shows what the definitions say of what it is seen to keep itself
pub shows_now : (nodes : List Node) (values : List ℕ) (start : Start) (count : ℕ) (script : Option
    ScriptContents) (run : Option PresenceRun) (rests : LineRests) → IsOptionalPresence nodes script
    run → AreOptionalRests nodes values script run rests → optional_text count script run
    ≡ shown_by start count [] script (optional_presence_seen run rests)
shows_now nodes values start count None None rests is are = refl
shows_now nodes values start count None (Some run) rests is are = absurd is
shows_now nodes values start count (Some script) None rests is are = absurd is
shows_now nodes values start count (Some script) (Some run) rests is are =
    let again = display_again script (display_seen run rests)
    (lines_shaped nodes values script.lines run.lines.items rests is.lines are) in
    ap (λ t. line_of (codes "presence" ∷ decimal count ∷ t ∷ []))
    (text_seen script run rests (lines_fitting nodes values script.lines run.lines.items rests
    is.lines are) ∙ ap (display_text script) (sym again))
