-- A set within the limits has at most 131,072 cells, and as many tracked masks.
use Rattle.std.proofs.Common.{◌≡◌, suc, ◌≤◌, Bool, true, Option, None, Some, List, [], ◌∷◌, length, sum_by, inl, inr}
use Rattle.std.proofs.Common.{refl, ap, sym, ◌∙◌, arith}
use Rattle.std.specs.List.{flat_map}
use Rattle.std.proofs.lemmas.Bool.{true≢false}
use Rattle.ra_operand.specs.declared.size.Size.{Size}
use Rattle.ra_operand.specs.declared.kind.Kind.{Kind}
use Rattle.ra_operand.specs.declared.kind.Kind.TheVariants.{Mem, Delta, Prior, Bcd, Inverted}
use Rattle.ra_condition.specs.Contents.{TriggerContents, trigger_hits, PartContents, Legacy, Grouped, groups_of}
use Rattle.ra_indirect.specs.Trees.{Tree, Cell, cell_of, same_cell, same_tracked, cells_in, tracked_in, tracked_by}
use Rattle.ra_indirect.proofs.SameLemmas.{cell_itself, tracked_itself}
use Rattle.ra_chain.specs.Occurrence.{trees_in_group, trees_in_trigger, trees_in_part, trees_in_value}
use Rattle.ra_richpresence.specs.Contents.{LineContents, ScriptContents}
use Rattle.ra_set.specs.Contents.{ItemContents, Unlocks, Ranks, SetContents}
use Rattle.ra_set.specs.Limits.{part_conditions, value_conditions, item_conditions, line_conditions, script_conditions}
use Rattle.ra_set.specs.Limits.{set_conditions, IsWithinLimits}
use Rattle.ra_member.specs.Members.{MemberContents, trees_in_member, member_conditions}
use Rattle.ra_member.proofs.Listed.{In, In_of_firsts}
use Rattle.ra_meaning.specs.Order.{board_member, line_member, trees_in_item, trees_in_line, lines_in, trees_in_set}
use Rattle.ra_meaning.specs.Order.{set_cells, set_tracked}
use Rattle.ra_meaning.proofs.Openings.Beside.{AreApart, apart_firsts}
use Rattle.ra_meaning.proofs.Spelled.Lines.{test_conditions}
use Rattle.ra_meaning.proofs.Counts.Trees.{Counts, Covered, covered_more, covered_both, covered_flat, group_covered}
use Rattle.ra_meaning.proofs.Counts.Trees.{terms_covered}
use Rattle.ra_meaning.proofs.Counts.Items.{board_conditions}

cells_counted : Counts cells_in
cells_counted = record {
  own = λ kind size pointer address. cell_of size pointer address ∷ [];
  of_constant = λ n. refl;
  of_join = λ op left right. refl;
  of_view = λ kind size pointer address. refl;
  one = λ kind size pointer address. omega arith;
}

tracked_few : (kind : Kind) (size : Size) (c : Cell) → length (tracked_by kind size c) ≤ 1
tracked_few Mem size c = omega arith
tracked_few Delta size c = omega arith
tracked_few Prior size c = omega arith
tracked_few Bcd size c = omega arith
tracked_few Inverted size c = omega arith

tracked_counted : Counts tracked_in
tracked_counted = record {
  own = λ kind size pointer address. tracked_by kind size (cell_of size pointer address);
  of_constant = λ n. refl;
  of_join = λ op left right. refl;
  of_view = λ kind size pointer address. refl;
  one = λ kind size pointer address. tracked_few kind size (cell_of size pointer address);
}

-- ---- a list without one of its elements

record Without {X : Type 0} (x : X) (allowed : List X) : Type 0 where
  pub rest : List X
  pub long : length allowed ≡ suc (length rest)
  pub others : (y : X) → In y allowed → (y ≡ x → ⊥) → In y rest

without : {X : Type 0} (x : X) (allowed : List X) → In x allowed → Without x allowed
without x [] h = absurd h
without x (z ∷ zs) h = elim h [
  | inl e ↦ record {
    rest = zs;
    long = refl;
    others = λ y there other. elim there [ inl is ↦ absurd (other (is ∙ sym e)) | inr r ↦ r ];
  }
  | inr r ↦
      let w : Without x zs = without x zs r in
      record {
        rest = z ∷ w.rest;
        long = omega (arith, w.long);
        others = λ y there other. elim there [ inl is ↦ inl is | inr q ↦ inr (w.others y q other) ];
      }
]

-- elements that are apart are no more than the list has in which all of them stand
fewer : {X : Type 0} (same : X → X → Bool) → ((x : X) → same x x ≡ true) → (xs allowed : List X)
    → AreApart same xs → ((x : X) → In x xs → In x allowed) → length xs ≤ length allowed
fewer same itself [] allowed apart within = omega arith
fewer same itself (x ∷ xs) allowed apart within =
    let w : Without x allowed = without x allowed (within x (inl refl)) in
    let rest = fewer same itself xs w.rest apart.1 (λ y there. w.others y (within y (inr there))
    (λ is. true≢false (sym (itself x) ∙ ap (same x) (sym is) ∙ apart.0 y there))) in
    omega (arith, rest, w.long)

module _ {X : Type 0} (f : Tree → List X) (counts : Counts f) where
  part_covered : (part : PartContents) → Covered f (trees_in_part part) (part_conditions part)
  part_covered (Legacy terms) = terms_covered f counts terms
  part_covered (Grouped cs) = group_covered f counts cs

  value_covered : (parts : List PartContents) → Covered f (trees_in_value parts) (value_conditions parts)
  value_covered parts = covered_flat f trees_in_part part_conditions part_covered parts

  trigger_covered : (t : TriggerContents) → Covered f (trees_in_trigger t) (trigger_hits t)
  trigger_covered t = covered_flat f trees_in_group length (group_covered f counts) (groups_of t)

  member_covered : (m : MemberContents) → Covered f (trees_in_member m) (member_conditions m)
  member_covered m =
      covered_both f (flat_map trees_in_trigger m.tests) (flat_map trees_in_value m.values)
      (sum_by trigger_hits m.tests) (sum_by value_conditions m.values)
      (covered_flat f trees_in_trigger trigger_hits trigger_covered m.tests)
      (covered_flat f trees_in_value value_conditions value_covered m.values)

  item_covered : (item : ItemContents) → Covered f (trees_in_item item) (item_conditions item)
  item_covered (Unlocks id t) = trigger_covered t
  item_covered (Ranks id format b) =
      covered_more f (trees_in_member (board_member b)) (member_conditions (board_member b))
      (item_conditions (Ranks id format b)) (omega (arith, board_conditions b id format))
      (member_covered (board_member b))

  line_covered : (line : LineContents) → Covered f (trees_in_line line) (line_conditions line)
  line_covered line =
      covered_more f (trees_in_line line) (member_conditions (line_member line)) (line_conditions
      line) (omega (arith, test_conditions line.test)) (member_covered (line_member line))

  script_covered : (script : Option ScriptContents)
      → Covered f (flat_map trees_in_line (lines_in script)) (script_conditions script)
  script_covered None = covered_flat f trees_in_line line_conditions line_covered []
  script_covered (Some script) = covered_flat f trees_in_line line_conditions line_covered script.lines

  set_covered : (set : SetContents) → Covered f (trees_in_set set) (set_conditions set)
  set_covered set =
      covered_both f (flat_map trees_in_item set.items) (flat_map trees_in_line
      (lines_in set.script)) (sum_by item_conditions set.items) (script_conditions set.script)
      (covered_flat f trees_in_item item_conditions item_covered set.items) (script_covered set.script)

pub few_cells : (set : SetContents) → IsWithinLimits set → length (set_cells set) ≤ 131072
few_cells set limits =
    let all : Covered cells_in (trees_in_set set) (set_conditions set) = set_covered cells_in cells_counted set in
    let most = fewer same_cell cell_itself (set_cells set) all.allowed
    (apart_firsts same_cell (flat_map cells_in (trees_in_set set))) (λ c there. all.within c
    (In_of_firsts same_cell c (flat_map cells_in (trees_in_set set)) there)) in
    omega (arith, most, all.few, limits.conditions)

pub few_tracked : (set : SetContents) → IsWithinLimits set → length (set_tracked set) ≤ 131072
few_tracked set limits =
    let all : Covered tracked_in (trees_in_set set) (set_conditions set) = set_covered tracked_in tracked_counted set in
    let most = fewer same_tracked tracked_itself (set_tracked set) all.allowed
    (apart_firsts same_tracked (flat_map tracked_in (trees_in_set set))) (λ t there. all.within t
    (In_of_firsts same_tracked t (flat_map tracked_in (trees_in_set set)) there)) in
    omega (arith, most, all.few, limits.conditions)
