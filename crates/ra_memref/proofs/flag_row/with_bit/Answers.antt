use Rattle.std.proofs.Common.{sym, ◌∙◌, w64}
use Rattle.std.proofs.lemmas.Bool.{false≢true}
use Rattle.std.proofs.lemmas.Nat.Bits.{bit_at_clear_other, bit_at_set_other, bit_at_set_same}
use Rattle.ra_memref.proofs.flag_row.with_bit.Goals as goal

pub returns-then-set : goal.returns-then-set
returns-then-set c = record {
  here = λ yes. bit_at_set_same w64 c.args.word c.args.bit c.requires;
  others = λ k low apart. bit_at_set_other w64 c.args.word c.args.bit c.requires k apart;
}

pub returns-else-set : goal.returns-else-set
returns-else-set c = record {
  here = λ yes. absurd (false≢true (sym c.if-set.false ∙ yes));
  others = λ k low apart. bit_at_clear_other w64 c.args.word c.args.bit c.requires k low apart;
}
