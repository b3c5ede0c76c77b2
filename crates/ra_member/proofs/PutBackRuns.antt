-- Triggers and values that are put back keep their plans.
use Rattle.std.proofs.Common.{◌≡◌, ℕ, List, length, map, sym, ◌∙◌, ap, subst}
use Rattle.std.proofs.lemmas.List.{length-replicate}
use Rattle.ra_condition.specs.Contents.{TriggerContents, groups_of, PartContents, counted_in}
use Rattle.ra_indirect.specs.declared.node.Node.{Node}
use Rattle.ra_trigger.specs.Steps.{cleared as cleared_hits}
use Rattle.ra_value.specs.Kept.{cleared}
use Rattle.ra_value.specs.Steps.{ValueKept}
use Rattle.ra_member.specs.declared.trigger_run.TriggerRun.{TriggerRun}
use Rattle.ra_member.specs.declared.value_run.ValueRun.{ValueRun}
use Rattle.ra_member.specs.MemberRuns.{PutsBackTest, PutsBackValue}
use Rattle.ra_member.specs.Plans.{AreSums}
use Rattle.ra_member.specs.Runs.{IsLaid, IsTriggerRun, IsValueRun}
use Rattle.ra_text.proofs.Rows.{length-words_at}

pub test_stays : (bytes : List ℕ) (at : ℕ) (old new : TriggerRun) → PutsBackTest bytes at old new →
    (nodes : List Node) (t : TriggerContents) → IsTriggerRun nodes t old → IsTriggerRun nodes t new
test_stays bytes at old new back nodes t is = record {
  laid = subst (IsLaid nodes (groups_of t)) (sym back.laid) is.laid;
  hits = ap length back.hits ∙ length-words_at bytes at (length old.trigger.hits) ∙ is.hits;
}

pub test_cleared : (old new : TriggerRun) → new.laid ≡ old.laid → new.trigger.hits
    ≡ cleared_hits old.trigger.hits → (nodes : List Node) (t : TriggerContents)
    → IsTriggerRun nodes t old → IsTriggerRun nodes t new
test_cleared old new laid is nodes t run = record {
  laid = subst (IsLaid nodes (groups_of t)) (sym laid) run.laid;
  hits = ap length is ∙ length-replicate (length old.trigger.hits) 0 ∙ run.hits;
}

-- a value of which only the kept numbers change, and not how many there are
pub value_stays : (old new : ValueRun) → new ≡ record old { value = new.value }
    → length new.value.hits ≡ length old.value.hits → length new.value.numbers
    ≡ length old.value.numbers → (nodes : List Node) (parts : List PartContents)
    → IsValueRun nodes parts old → IsValueRun nodes parts new
value_stays old new rest hits numbers nodes parts is = record {
  laid = subst (IsLaid nodes (map counted_in parts)) (sym (ap (λ (r : ValueRun). r.laid) rest)) is.laid;
  nodes_too = subst (λ ns. AreSums nodes parts ns) (sym (ap (λ (r : ValueRun). r.nodes.items) rest)) is.nodes_too;
  sums = ap (λ (r : ValueRun). length r.sums.items) rest ∙ is.sums;
  hits = hits ∙ is.hits;
  numbers = numbers ∙ is.numbers;
}

pub value_back : (bytes : List ℕ) (hits numbers : ℕ) (old new : ValueRun)
    → PutsBackValue bytes hits numbers old new → (nodes : List Node) (parts : List PartContents)
    → IsValueRun nodes parts old → IsValueRun nodes parts new
value_back bytes hits numbers old new back =
    value_stays old new back.rest (ap length back.hits_too
    ∙ length-words_at bytes hits (length old.value.hits)) (ap length back.numbers_too
    ∙ length-words_at bytes numbers (length old.value.numbers))

pub value_cleared : (old new : ValueRun) → new ≡ record old { value = new.value } → new.value
    ≡ cleared old.value → (nodes : List Node) (parts : List PartContents)
    → IsValueRun nodes parts old → IsValueRun nodes parts new
value_cleared old new rest is =
    value_stays old new rest (ap (λ (k : ValueKept). length k.hits) is
    ∙ length-replicate (length old.value.hits) 0) (ap (λ (k : ValueKept). length k.numbers) is
    ∙ length-replicate (length old.value.numbers) 0)
