use Rattle.std.proofs.Common.{◌∷◌, [], ◌++◌, ◌∙◌, ap, codes, decimal}
use Rattle.ra_richpresence.specs.Contents.{script_contents}
use Rattle.ra_richpresence.specs.Lines.{line_text}
use Rattle.ra_meaning.specs.Presence.{display_text}
use Rattle.ra_display.specs.PresenceRuns.{display_kept}
use Rattle.ra_display.proofs.ShownWords.{shown_words}
use Rattle.ra_display.proofs.shown.shown_text.Goals as goal

pub returns : goal.returns
returns c =
    let script = script_contents c.args.script.now in
    let run = c.args.run.now in
    let numbers = c.deref.ensures.value ∙ c.in_ok-numbers.ensures in
    let text = display_text script (display_kept run) in
    let begun = c.in_ok-extend_from_slice.ensures.items ∙ ap (λ t. t ++ codes "presence ") c.in_ok-out.ensures.items in
    c.in_ok-push-2.ensures.items
    ∙ ap (λ t. t ++ 10 ∷ []) (c.in_ok-put_line.ensures
    ∙ ap (λ vs. c.push.new.self.items ++ line_text script run.shown vs) numbers
    ∙ ap (λ t. t ++ text) (c.in_ok-push.ensures.items ∙ ap (λ t. t ++ 32 ∷ [])
    (c.in_ok-put_unsigned.ensures ∙ ap (λ t. t ++ decimal c.args.count) begun)))
    ∙ shown_words (decimal c.args.count) text
