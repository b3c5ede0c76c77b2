use Rattle.std.proofs.Common.{◌≡◌, ◌+◌, ◌++◌, ◌∙◌, ℕ, List, length, map, take, ap, sym, subst, append_assoc, arith}
use Rattle.ra_account.specs.declared.group_account.GroupAccount.{GroupAccount}
use Rattle.ra_account.specs.Groups.{AreGroupAccounts, GroupRow, part_of}
use Rattle.ra_account.specs.Triggers.{TriggerRow}
use Rattle.ra_condition.specs.declared.condition.Condition.{Condition}
use Rattle.ra_condition.specs.Contents.{group_contents}
use Rattle.ra_why.specs.Text.{group_lines, groups_lines}
use Rattle.ra_why.proofs.whole.put_conditions.Goals as goal

pub returns : goal.returns
returns c = λ size rows known.
    let core = group_contents c.args.trigger.now.core in
    let alts = map group_contents c.args.trigger.now.alts.items in
    let hits = c.args.hits.now in
    let row : List GroupRow = map (λ (f : TriggerRow). f.row) rows in
    let n = c.args.account.now.frames in
    let count : c.len-count.result ≡ length core =
    omega (arith, c.len-count.ensures, c.args.trigger.now.core.conditions.ok.0) in
    let from : c.len-count.result ≡ 0 + length core = omega (arith, count) in
    let frames : n ≡ length rows = known.count in
    let texts : map group_contents c.deref.result.now ≡ alts = ap (map group_contents) c.deref.ensures.value in
    let accounts : AreGroupAccounts
    (map group_contents c.deref.result.now) c.len-count.result size row c.deref-2.result.now =
    subst (λ (gs : List (List Condition)). AreGroupAccounts gs c.len-count.result size row c.deref-2.result.now)
    (sym texts)
    (subst (λ (k : ℕ). AreGroupAccounts alts k size row c.deref-2.result.now) (sym count)
    (subst (λ (xs : List GroupAccount). AreGroupAccounts alts (length core) size row xs)
    (sym c.deref-2.ensures.value) known.alts)) in
    let first = c.in_ok-put_group.ensures size (map (part_of core 0) row) known.core in
    let second = c.in_ok-put_alts.ensures size row accounts in
    second
    ∙ (λ i. first i ++ groups_lines 1 (from i) (texts i) hits (frames i) size row)
    ∙ (λ i. (c.args.text.now.items ++ group_lines 0 core (take (count i) hits) (frames i) size
    (map (part_of core 0) row)) ++ groups_lines 1 (0 + length core) alts hits (length rows) size row)
    ∙ append_assoc c.args.text.now.items
    (group_lines 0 core (take (length core) hits) (length rows) size (map (part_of core 0) row))
    (groups_lines 1 (0 + length core) alts hits (length rows) size row)
