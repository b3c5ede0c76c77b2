use Rattle.ra_account.proofs.CopyLemmas.{copy_runs, same_sound}
use Rattle.ra_account.proofs.copying.copy_running.Goals as goal

pub returns-clause-same : goal.returns-clause-same
returns-clause-same c = λ frames known. copy_runs frames c.args.running.now c.in_ok-account.account
    c.in_ok-account.ensures known

pub returns-clause-stands : goal.returns-clause-stands
returns-clause-stands c = λ count stands. record {
  frames = stands.frames;
  long = stands.long;
  running = returns-clause-same c stands.frames stands.running;
  sound = same_sound c.args.running.now.account.columns c.in_ok-account.account.columns
      c.in_ok-account.ensures.columns_too stands.sound;
}
