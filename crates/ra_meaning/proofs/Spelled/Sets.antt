-- The operands of what some text spells are of 32 bits.
use Rattle.std.proofs.Common.{Option, None, Some, List, All, IfSome}
use Rattle.std.specs.List.{AllByRecursion}
use Rattle.std.proofs.lemmas.List.Elements.{recursion_from_All, All-weaker}
use Rattle.ra_condition.specs.declared.condition.Condition.{Condition}
use Rattle.ra_condition.specs.declared.setting.Setting.{Setting}
use Rattle.ra_condition.specs.declared.setting.Setting.TheVariants.{InTrigger, InValue}
use Rattle.ra_condition.specs.Contents.{TriggerContents, PartContents, Legacy, Grouped}
use Rattle.ra_condition.specs.Spelled.{IsCondition, IsTriggerGroup, IsTrigger, IsTerm, IsPart, IsValue}
use Rattle.ra_leaderboard.specs.Contents.{BoardContents}
use Rattle.ra_leaderboard.specs.Spelled.{IsBoard}
use Rattle.ra_set.specs.Contents.{ItemContents, Unlocks, Ranks, SetContents}
use Rattle.ra_set.specs.Spelled.{IsItem, IsSpelled}
use Rattle.ra_meaning.specs.Order.{board_member, progress_in}
use Rattle.ra_meaning.proofs.Spelled.Trees.{HasOperands, FitsGroup}
use Rattle.ra_meaning.proofs.Words.Members.{FitsTrigger, FitsPart, FitsValue, FitsMember}
use Rattle.ra_meaning.proofs.Words.Items.{FitsItem}

pub weaker : {A : Type 0} (P Q : A → Type 0) → ((a : A) → P a → Q a) → (xs : List A) → All P xs → AllByRecursion Q xs
weaker P Q each xs all = recursion_from_All Q xs (All-weaker P Q each xs all)

spelled_group : (setting : Setting) (cs : List Condition) → All (IsCondition setting) cs → FitsGroup cs
spelled_group setting cs are =
    weaker (IsCondition setting) HasOperands (λ c is. (is.left, is.right)) cs are

pub spelled_trigger : (t : TriggerContents) → IsTrigger t → FitsTrigger t
spelled_trigger t is =
    (spelled_group InTrigger t.core is.core, weaker IsTriggerGroup FitsGroup (spelled_group InTrigger) t.alts is.alts)

spelled_part : (part : PartContents) → IsPart part → FitsPart part
spelled_part (Legacy terms) is = recursion_from_All IsTerm terms is.1
spelled_part (Grouped cs) is = spelled_group InValue cs is.conditions

pub spelled_value : (parts : List PartContents) → IsValue parts → FitsValue parts
spelled_value parts is = weaker IsPart FitsPart spelled_part parts is.each

spelled_progress : (progress : Option (List PartContents)) → IfSome progress IsValue
    → AllByRecursion FitsValue (progress_in progress)
spelled_progress None is = tt
spelled_progress (Some parts) is = (spelled_value parts is, tt)

spelled_board : (b : BoardContents) → IsBoard b → FitsMember (board_member b)
spelled_board b is = record {
  tests = (
    spelled_trigger b.start is.start,
    (spelled_trigger b.cancel is.cancel, (spelled_trigger b.submit is.submit, tt)),
  );
  values = (spelled_value b.value is.value, spelled_progress b.progress is.progress);
}

spelled_item : (item : ItemContents) → IsItem item → FitsItem item
spelled_item (Unlocks id t) is = spelled_trigger t is
spelled_item (Ranks id format b) is = spelled_board b is.0

pub spelled_items : (set : SetContents) → IsSpelled set → AllByRecursion FitsItem set.items
spelled_items set is = weaker IsItem FitsItem spelled_item set.items is.items
