use Rattle.std.proofs.Common.{◌≡◌, ◌+◌, ◌-◌, length-append, ◌++◌, ◌∷◌, false, List, length, take, drop, sym, ap, ap₂}
use Rattle.std.proofs.Common.{◌∙◌, arith, append_assoc}
use Rattle.std.specs.List.{flat_map}
use Rattle.std.specs.Prelude.{replicate, ◌==◌}
use Rattle.std.proofs.Math.Seq.{drop-append_seam, take-append_seam}
use Rattle.std.proofs.lemmas.Grind.{common_steps}
use Rattle.std.proofs.lemmas.List.{drop-replicate, drop_more, length-replicate}
use Rattle.ra_account.specs.Counting.{count_of}
use Rattle.ra_account.specs.declared.group_account.GroupAccount.{GroupAccount}
use Rattle.ra_account.specs.Wanting.{none_of, of_first}
use Rattle.ra_account.proofs.WantLemmas.{first_later, next_part, nones_of, size_more, size_of, wants_by}
use Rattle.ra_account.proofs.gathering.gather_wants.Goals as goal

pub loop-alt-init : goal.loop-alt-init
loop-alt-init c =
    let core = c.args.core.now.wants.items in
    let alts = c.args.alts.now in
    let size = size_of alts in
    let from = c.len-from.result in
    let nones = flat_map none_of (wants_by alts) in
    let total = length c.args.wanted.now in
    let long : from ≡ length core = omega (arith, c.len-from.ensures, c.args.core.now.wants.ok.0) in
    let filled : c.fill.new.self ≡ replicate total false = c.fill.ensures.after (λ y is. is) in
    let span : total - from ≡ size = omega (arith, c.requires.room, long) in
    let copied : c.copy_from_slice.new.self ≡ core = c.copy_from_slice.ensures.after ∙ c.deref.ensures.value in
    let behind : drop from c.fill.new.self ≡ nones = ap (drop from) filled ∙ drop-replicate from total false
    ∙ ap (λ n. replicate n false) span ∙ nones_of alts in
    let all : c.copy_from_slice.new.self ++ drop from c.fill.new.self ≡ core ++ nones =
    ap₂ (λ xs ys. xs ++ ys) copied behind in
    let wide : length nones ≡ size = sym (ap length (nones_of alts)) ∙ length-replicate size false in
    record {
      whole = ap (λ ys. ys ++ of_first c.args.least (wants_by alts)) (ap₂ (λ n xs. take n xs) long all
          ∙ take-append_seam core nones)
          ∙ ap (λ n. core ++ of_first n (wants_by alts)) c.requires.least;
      rest = ap₂ (λ n xs. drop n xs) long all ∙ drop-append_seam core nones;
      room = omega (arith, long, wide, ap length all, length-append core nones);
    }

pub loop-alt-preserved : goal.loop-alt-preserved
loop-alt-preserved c =
    let alts = c.args.alts.now in
    let i = c.loop-alt.alt-index in
    let alt = c.alt-item.result in
    let from = c.loop-alt.from in
    let xs = c.loop-alt.wanted in
    let known = c.loop-alt.invariant in
    let rest : drop i alts ≡ alt ∷ drop (i + 1) alts = drop_more alts i alt (omega (arith, c.loop-alt-test.true))
    ∙ ap (λ (a : GroupAccount). a ∷ drop (i + 1) alts) (sym c.alt-item.is) in
    let long : c.len.result ≡ length alt.wants.items = omega (arith, c.len.ensures, alt.wants.ok.0) in
    let others = drop (i + 1) alts in
    let left : from + (length alt.wants.items + size_of others) ≡ length xs =
    ap (λ n. from + n) (sym (size_more alt others)) ∙ ap (λ gs. from + size_of gs) (sym rest)
    ∙ known.room in
    let count : c.count_true.result ≡ count_of alt.wants.items =
    c.count_true.ensures ∙ ap count_of c.deref-in-loop-alt.ensures.value in
    let other : (count_of alt.wants.items == c.args.least) ≡ false =
    grind (arith, common_steps, c.if-count_true-least.false, count) in
    let both = next_part xs (none_of alt.wants.items) (flat_map none_of (wants_by others)) from (from + c.len.result)
    (omega (arith, left)) (omega (arith, long, length-replicate (length alt.wants.items) false))
    (known.rest ∙ ap (λ (gs : List GroupAccount). flat_map none_of (wants_by gs)) rest) in
    record {
      whole = ap (λ ys. ys ++ of_first c.args.least (wants_by others)) both.0
          ∙ append_assoc (take from xs) (none_of alt.wants.items) (of_first c.args.least (wants_by others))
          ∙ ap (λ ys. take from xs ++ ys) (sym (first_later c.args.least alt.wants.items (wants_by others) other))
          ∙ ap (λ (gs : List GroupAccount). take from xs ++ of_first c.args.least (wants_by gs)) (sym rest)
          ∙ known.whole;
      rest = both.1;
      room = omega (arith, left, long);
    }
