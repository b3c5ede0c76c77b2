use Rattle.std.proofs.Common.{◌≡◌, ℕ, Bool, ◌&&◌, false, length, sym, ap, ◌∙◌, arith}
use Rattle.std.specs.List.{list_any, range_with_len}
use Rattle.ra_condition.specs.Contents.{flag_at}
use Rattle.ra_condition.specs.Flags.{is_pause}
use Rattle.ra_account.proofs.AloneLemmas.{any_more}
use Rattle.ra_account.proofs.stands.may_pause.Goals as goal

pub loop-place-preserved : goal.loop-place-preserved
loop-place-preserved c = λ valid.
    let place = c.loop-place.place in
    let passes : ℕ → Bool = λ j. is_pause (flag_at c.args.conditions.now j) && valid j in
    let none : is_pause (flag_at c.args.conditions.now place) ≡ false = sym c.is_pause.ensures ∙ c.if-is_pause.false in
    sym (any_more passes place false false (sym (c.loop-place.invariant valid)) (sym (ap (λ b. b && valid place) none)))

pub returns : goal.returns
returns c = λ none valid.
    let passes : ℕ → Bool = λ j. is_pause (flag_at c.args.conditions.now j) && valid j in
    let all : length c.args.conditions.now ≡ c.loop-place.place =
    omega (arith, c.loop-place-test.false, c.loop-place.auto.place-end) in
    ap (λ n. list_any passes (range_with_len 0 n)) all ∙ c.loop-place.invariant valid
