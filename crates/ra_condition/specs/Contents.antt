-- What groups, triggers and values contain, without where it lies in memory: docs/DEFINITIONS.md, "Conditions",
-- "Triggers" and "Values".
use Rattle.std.specs.Prelude.{ℕ, List, [], ◌∷◌, length, map, sum_by, slice_index_or}
use Rattle.ra_operand.specs.declared.kind.Kind.TheVariants.{Mem}
use Rattle.ra_operand.specs.declared.size.Size.TheVariants.{Bit0}
use Rattle.ra_operand.specs.declared.operand.Operand.TheVariants.{Cell}
use Rattle.ra_operand.specs.declared.op.Op.TheVariants.{Bare}
use Rattle.ra_condition.specs.declared.flag.Flag.{Flag}
use Rattle.ra_condition.specs.declared.flag.Flag.TheVariants.{Plain}
use Rattle.ra_condition.specs.declared.condition.Condition.{Condition}
use Rattle.ra_condition.specs.declared.group.Group.{Group}
use Rattle.ra_condition.specs.declared.trigger_text.TriggerText.{TriggerText}
use Rattle.ra_condition.specs.declared.part.Term.{Term}
use Rattle.ra_condition.specs.declared.part.Part.{Part}
use Rattle.ra_condition.specs.declared.part.Part.TheVariants.{Terms, Conditions}
use Rattle.ra_condition.specs.declared.value_text.ValueText.{ValueText}

-- what is taken for a condition past the end of a group, where no clause looks
abbrev pub no_condition : Condition
no_condition = record { flag = Plain; left = Cell Mem Bit0 0; op = Bare; right = Cell Mem Bit0 0; target = 0 }

-- the condition at a place of a group
abbrev pub condition_at : List Condition → ℕ → Condition
condition_at cs j = slice_index_or cs j no_condition

-- the flag of the condition at a place of a group
abbrev pub flag_at : List Condition → ℕ → Flag
flag_at cs j = (condition_at cs j).flag

-- the conditions of a group
abbrev pub group_contents : Group → List Condition
group_contents g = g.conditions.items

-- what a trigger contains: a core group and the alt groups
pub record TriggerContents : Type 0 where
  pub core : List Condition
  pub alts : List (List Condition)

-- the contents of a trigger
abbrev pub trigger_contents : TriggerText → TriggerContents
trigger_contents t = record { core = group_contents t.core; alts = map group_contents t.alts.items }

-- the groups of a trigger, the core first
abbrev pub groups_of : TriggerContents → List (List Condition)
groups_of t = t.core ∷ t.alts

-- a part of a value: terms whose sum counts, or a group whose measured number counts
pub data PartContents : Type 0 where
  Legacy : List Term → PartContents
  Grouped : List Condition → PartContents

-- the contents of a part of a value
abbrev pub part_contents : Part → PartContents
part_contents (Terms terms) = Legacy terms.items
part_contents (Conditions g) = Grouped (group_contents g)

-- the parts of a value
abbrev pub value_contents : ValueText → List PartContents
value_contents v = map part_contents v.parts.items

-- the conditions of a part that keep hits
abbrev pub counted_in : PartContents → List Condition
counted_in (Legacy terms) = []
counted_in (Grouped cs) = cs

-- how many hits are kept for a trigger
abbrev pub trigger_hits : TriggerContents → ℕ
trigger_hits t = sum_by length (groups_of t)

-- how many hits are kept for a value
abbrev pub value_hits : List PartContents → ℕ
value_hits parts = sum_by (λ part. length (counted_in part)) parts
