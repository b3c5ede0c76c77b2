use Rattle.ra_memref.specs.Flags.{FillsBetween}
use Rattle.ra_memref.proofs.flag_row.fill_between.Given as goal

abbrev pub invariant-loop-word : goal.invariant-loop-word
invariant-loop-word l = FillsBetween l.first l.word l.initial.words.items l.words.items
