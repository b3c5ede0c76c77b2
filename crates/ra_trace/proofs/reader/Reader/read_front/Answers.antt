use Rattle.std.proofs.Common.{arith, ◌≡◌, true, false, refl, ap}
use Rattle.ra_trace.proofs.Looking.{holds_opened}
use Rattle.ra_trace.proofs.reader.Reader.read_front.Goals as goal

pub loop-self-init : goal.loop-self-init
loop-self-init g c = record {
  kept = record { name = refl; limit = refl };
  sized = ap (λ s. s.size) c.requires;
  last = ap (λ s. s.last) c.requires;
  next = ap (λ s. s.next) c.requires;
  holds = λ bytes told. holds_opened c.args.self.now bytes c.requires;
  end = λ bytes told none. let bad : true ≡ false = none in absurd (cc);
  stays = record {
    same = record { each = λ name. refl };
    reads = record { each = λ name. omega arith };
    puts = record { each = λ name. omega arith };
  };
}
