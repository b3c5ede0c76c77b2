use Rattle.std.proofs.Common.{◌∙◌, ◌≡◌, Some, [], refl, subst}
use Rattle.std.specs.Bool.{⊤}
use Rattle.ra_io.specs.Causes.{Rose}
use Rattle.ra_io.specs.SureFiles.{names_of}
use Rattle.ra_set.specs.Contents.{set_contents}
use Rattle.ra_trace.specs.Workload.{made_set, made_trace}
use Rattle.ra_meaning.specs.Earned.{none_earned}
use Rattle.ra_meaning.specs.Openings.{plain_opening}
use Rattle.ra_session.specs.Closing.{EndsBefore}
use Rattle.ra_session.specs.declared.ending.Ending.TheVariants.{Done, NoMemory}
use Rattle.ra_session.specs.Expected.{played}
use Rattle.ra_session.specs.Failures.{ending_of_set, ending_of_trace}
use Rattle.ra_session.specs.Loading.{HasNoSet}
use Rattle.ra_session.specs.Making.{set_name, trace_name}
use Rattle.ra_session.proofs.MadeLimits.{made_contents}
use Rattle.ra_session.proofs.MadeSet.{made_set_is_accepted}
use Rattle.ra_session.proofs.MakeLemmas.{made_end, wanted_memory, none_rose, no_memory_for_set, told_name}
use Rattle.ra_session.proofs.MakeLemmas.{printed_whole}
use Rattle.ra_session.proofs.RunLemmas.{err_by}
use Rattle.ra_session.proofs.make.made_text.Goals as goal

pub returns-in_err-set-clause-memory : goal.returns-in_err-set-clause-memory
returns-in_err-set-clause-memory c =
    let bytes = made_set c.args.number in
    let told = told_name (names_of c.in_ok-files.files) set_name bytes c.in_ok-files.ensures.set in
    err_by c.from_residual-in_err-set.result (ending_of_set c.in_err-set.field-0.0) (λ e. e
    ≡ NoMemory) c.from_residual-in_err-set.ensures.1
    (no_memory_for_set bytes (made_contents c.args.number) c.in_err-set.field-0.0
    (made_set_is_accepted c.args.number)
    (subst (λ o. HasNoSet o (Rose 0 0) c.in_err-set.field-0.0) told c.in_err-set.ensures.failed))

pub returns-in_err-play_trace-clause-memory : goal.returns-in_err-play_trace-clause-memory
returns-in_err-play_trace-clause-memory c =
    let set = set_contents c.in_ok-set.set in
    let told = c.in_ok-set.ensures.stays.same.each trace_name ∙ told_name (names_of
    c.in_ok-files.files) trace_name (made_trace c.args.number) c.in_ok-files.ensures.trace in
    err_by c.from_residual-in_err-play_trace.result (ending_of_trace c.in_err-play_trace.field-0.0)
    (λ e. e ≡ NoMemory) c.from_residual-in_err-play_trace.ensures.1
    (wanted_memory (played set (plain_opening set) [] (none_earned set) (made_trace c.args.number))
    c.in_err-play_trace.field-0.0 _ _ (made_end set c.args.number)
    (λ is. none_rose (c.in_err-play_trace.ensures.read is))
    (λ is. none_rose (c.in_err-play_trace.ensures.write is)) (c.in_err-play_trace.ensures.printed
    (made_trace c.args.number) (plain_opening set) [] (none_earned set) told (refl, refl, refl)))

pub returns-clause-text : goal.returns-clause-text
returns-clause-text c =
    let set = set_contents c.in_ok-set.set in
    let told = c.in_ok-set.ensures.stays.same.each trace_name ∙ told_name (names_of
    c.in_ok-files.files) trace_name (made_trace c.args.number) c.in_ok-files.ensures.trace in
    record {
      set = set;
      accepted = c.in_ok-set.ensures.set.is_set (made_set c.args.number) (told_name (names_of
          c.in_ok-files.files) set_name (made_set c.args.number) c.in_ok-files.ensures.set);
      all = printed_whole (played set (plain_opening set) [] (none_earned set)
          (made_trace c.args.number)) c.play_trace.new.out
          (subst (λ t. EndsBefore (played set (plain_opening set) [] (none_earned set)
          (made_trace c.args.number)) ⊤ ⊤ ⊤ Done (Some t) (Some c.play_trace.new.out))
          c.new-text.ensures (c.in_ok-play_trace.ensures.printed (made_trace c.args.number)
          (plain_opening set) [] (none_earned set) told (refl, refl, refl)));
    }
