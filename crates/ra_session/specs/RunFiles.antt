-- The files of a run: docs/DEFINITIONS.md, "Jobs".
use Rattle.std.specs.Prelude.{option_map}
use Rattle.ra_args.specs.Words.{Job, Run}
use Rattle.ra_session.specs.declared.run_files.RunFiles.{RunFiles}

-- the run of these files
abbrev pub run_of : RunFiles → Job
run_of run = Run run.set.now run.trace.now (option_map (λ file. file.now) run.restore)
    (option_map (λ file. file.now) run.save)
