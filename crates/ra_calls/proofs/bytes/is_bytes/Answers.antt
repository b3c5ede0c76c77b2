use Rattle.std.proofs.Common.{◌<◌, ℕ, slice_index, rules}
use Rattle.ra_calls.proofs.ByteLemmas.{all_bytes}
use Rattle.ra_calls.proofs.bytes.is_bytes.Goals as goal

pub returns : goal.returns
returns c =
    let small : (i : ℕ) → slice_index c.args.bytes.now i < 256 = search rules in
    all_bytes c.args.bytes.now small
