-- A write, and then a frame.
use Rattle.std.proofs.Common.{ap, subst, ◌∙◌, ◌≤◌, ◌+◌, ℕ, List, length}
use Rattle.ra_memory.proofs.Written.{length-written}
use Rattle.ra_meaning.specs.Runtime.{RuntimeSeen, IsWritten, TakesFrame}
use Rattle.ra_embed.specs.Embedding.{PlaysFrame}

-- a frame behind a write goes on over the written image
pub plays_frame : (old told new : RuntimeSeen) (at : ℕ) (bytes : List ℕ) → at + length bytes
    ≤ length old.image → IsWritten old told at bytes → TakesFrame told new
    → PlaysFrame old new at bytes
plays_frame old told new at bytes fits is takes =
    let on = subst (λ (r : RuntimeSeen). TakesFrame r new) is.rest takes in
    record {
      set = on.set;
      image = on.image;
      size = ap length on.image ∙ length-written old.image bytes at fits;
      kept = on.kept;
      earned = on.earned;
      happened = on.events;
      printed = on.lines;
    }
