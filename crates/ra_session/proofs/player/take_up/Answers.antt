use Rattle.std.proofs.Common.{◌≡◌, Result, Ok, Err, Option, None, Some, IfSome, IfErr, OnOk, option_map, refl, sym}
use Rattle.std.proofs.Common.{subst, ◌∙◌}
use Rattle.std.proofs.lemmas.Option.{none-some}
use Rattle.ra_progress.specs.Reading.{refusal}
use Rattle.ra_meaning.specs.Order.{shape_of}
use Rattle.ra_meaning.specs.Runtime.{TakesUp}
use Rattle.ra_session.specs.Playing.{TakesUpFrom}
use Rattle.ra_session.proofs.player.take_up.Goals as goal

-- what is not refused is done
done_by : {A E P : Type 0} (answer : Result A E) (why : Option E) → OnOk answer P → IfErr answer (λ e. why ≡ Some e)
    → why ≡ None → P
done_by (Ok _) why done refused none = done
done_by (Err e) why done refused none = absurd (none-some e (sym none ∙ refused))

pub returns-in-Some-clause-taken : goal.returns-in-Some-clause-taken
returns-in-Some-clause-taken c =
    let old = c.args.runtime.now in
    let new = c.restore.new.self in
    let accepted = subst (λ p. IfSome p (λ bytes. refusal (shape_of old.set) bytes.items ≡ None))
    c.in-Some.is c.requires in
    let taken = done_by c.restore.result (refusal (shape_of old.set) c.as_slice.result.now)
    c.restore.ensures.ok c.restore.ensures.refused
    (subst (λ bytes. refusal (shape_of old.set) bytes ≡ None) (sym c.as_slice.ensures.value) accepted) in
    subst (λ p. TakesUpFrom (option_map (λ bytes. bytes.items) p) old new) (sym c.in-Some.is)
    (subst (TakesUp old new) c.as_slice.ensures.value taken)

pub returns-in_default-clause-taken : goal.returns-in_default-clause-taken
returns-in_default-clause-taken c =
    let old = c.args.runtime.now in
    subst (λ p. TakesUpFrom (option_map (λ bytes. bytes.items) p) old old) (sym c.in_default.is) refl
