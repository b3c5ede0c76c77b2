use Rattle.std.proofs.Common.{arith, ◌≡◌, ◌≤◌, false, [], ◌∷◌, ◌++◌, List, Bool, ℕ, length, replicate, ap, sym, subst}
use Rattle.std.proofs.Common.{◌∙◌}
use Rattle.std.specs.Vec.{vec_len}
use Rattle.std.proofs.lemmas.List.{length-replicate}
use Rattle.ra_explain.specs.RowLists.{RowsSeen, with_row, behind_by}
use Rattle.ra_explain.proofs.RowLemmas.{IsMore, length_behind, behind_more, one_more, resized}
use Rattle.ra_explain.proofs.row_list.RowList.add.Goals as goal

pub invariant_of-self-else-is_err : goal.invariant_of-self-else-is_err
invariant_of-self-else-is_err c =
    let t = c.self.inside in
    let truths : c.resize.new.self.items ≡ t.truths.items ++ replicate t.width false =
    c.in_ok-resize.ensures.items ∙ resized t.truths.items (vec_len t.truths) c.len-long.result
    t.width (omega (arith, t.truths.ok.0)) c.len-long.ensures in
    let links : c.push.new.self.items ≡ t.links.items ++ c.args.before ∷ [] =
    rw c.if-is_err.ensures.negation at c.push.ensures.items in
    let places = length_behind t.width ([] ∷ []) t.truths.items t.links.items in
    let there : c.args.before ≤ length t.links.items = omega
    (arith, places, c.requires.there, ap (λ (r : RowsSeen). length r.behind) c.self.view_is) in
    let more : IsMore t.width (t.truths.items ++ replicate t.width false) (t.links.items
    ++ c.args.before ∷ []) = one_more t.width t.truths.items (replicate t.width false) t.links.items
    c.args.before (record { whole = c.self.invariant.whole; earlier = c.self.invariant.earlier })
    (length-replicate t.width false) there in
    let both : IsMore t.width c.resize.new.self.items c.push.new.self.items =
    subst (λ (xs : List Bool). IsMore t.width xs c.push.new.self.items) (sym truths) (subst (λ (ls
    : List ℕ). IsMore t.width (t.truths.items ++ replicate t.width false) ls) (sym links) more) in
    record { whole = both.whole; earlier = both.earlier }

pub returns-clause-ok : goal.returns-clause-ok
returns-clause-ok c =
    let t = c.self.inside in
    let truths : c.resize.new.self.items ≡ t.truths.items ++ replicate t.width false =
    c.in_ok-resize.ensures.items ∙ resized t.truths.items (vec_len t.truths) c.len-long.result
    t.width (omega (arith, t.truths.ok.0)) c.len-long.ensures in
    let links : c.push.new.self.items ≡ t.links.items ++ c.args.before ∷ [] =
    rw c.if-is_err.ensures.negation at c.push.ensures.items in
    (λ i. record { width = t.width; behind = behind_by t.width ([] ∷ []) (truths i) (links i) })
    ∙ ap (λ b. record { width = t.width; behind = b })
    (behind_more t.width ([] ∷ []) t.truths.items (replicate t.width false) t.links.items
    c.args.before c.self.invariant.whole (length-replicate t.width false))
    ∙ ap (λ (r : RowsSeen). record
    { width = r.width; behind = with_row r.behind (replicate r.width false) c.args.before })
    c.self.view_is
