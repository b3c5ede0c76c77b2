-- How many numbers lines keep, by their conditions.
use Rattle.std.proofs.Common.{◌≡◌, ℕ, suc, zero, ◌+◌, ◌<◌, ◌≤◌, ◌^◌, false, true, is_some, Option, None, Some, List, []}
use Rattle.std.proofs.Common.{◌∷◌, ◌++◌, length, map, sum, sum_by, refl, sym, ◌∙◌, ap, ap₂, arith}
use Rattle.std.specs.List.{filter_map, flat_map}
use Rattle.std.proofs.lemmas.List.Elements.{filter_map-append}
use Rattle.std.proofs.lemmas.List.Sums.{sum_by-cons, sum_by_push}
use Rattle.ra_condition.specs.declared.condition.Condition.{Condition}
use Rattle.ra_condition.specs.Contents.{TriggerContents, groups_of}
use Rattle.ra_indirect.specs.declared.node.Node.{Node}
use Rattle.ra_indirect.specs.Interned.{IsPool}
use Rattle.ra_chain.specs.Occurrence.{trees_in_group, trees_in_trigger, trees_in_value}
use Rattle.ra_richpresence.specs.Contents.{PieceContents, Bytes, Shows, LineContents, value_in}
use Rattle.ra_set.specs.Limits.{value_conditions, optional_trigger, line_conditions}
use Rattle.ra_member.specs.declared.member.Member.{Member}
use Rattle.ra_member.specs.declared.places.Places.{Places}
use Rattle.ra_member.specs.Members.{MemberContents, member_hits, member_numbers, saved_hits, saved_numbers}
use Rattle.ra_member.specs.MemberRuns.{kept_by}
use Rattle.ra_member.proofs.Opened.{saved_long}
use Rattle.ra_member.proofs.Shaped.{member_shape}
use Rattle.ra_member.proofs.PlanLemmas.{within_as, within_none}
use Rattle.ra_member.proofs.GrowthLemmas.{grows_more}
use Rattle.ra_meaning.specs.LineMembers.{tests_in, line_member, trees_in_line}
use Rattle.ra_meaning.proofs.Counts.Lines.{line_few}
use Rattle.ra_display.specs.NewPresence.{IsNewLine}
use Rattle.ra_meaning.specs.ShownLines.{IsShownLine}
use Rattle.ra_display.specs.Counted.{IsBare, CountsLine, CountsLines}

-- groups without conditions have no trees
no_trees : (groups : List (List Condition)) → sum_by length groups ≡ 0 → flat_map trees_in_group groups ≡ []
no_trees [] none = refl
no_trees ([] ∷ groups) none = no_trees groups (omega (arith, none, sum_by-cons length [] groups))
no_trees ((c ∷ cs) ∷ groups) none =
    let bad : suc zero ≡ zero = omega (arith, none, sum_by-cons length (c ∷ cs) groups) in cc

test_trees : (test : Option TriggerContents) → optional_trigger test ≡ 0
    → flat_map trees_in_trigger (tests_in test) ≡ []
test_trees None none = refl
test_trees (Some t) none = ap (λ ts. ts ++ []) (no_trees (groups_of t) none)

-- a line without conditions and macros keeps nothing
pub bare_counts : (nodes : List Node) (line : LineContents) (kept : Places) → IsPool nodes
    → IsShownLine line → IsBare line → kept.hits ≡ 0 → kept.numbers ≡ 0
    → CountsLine nodes nodes line kept
bare_counts nodes line kept pool shown bare hits numbers =
    let none : line_conditions line ≡ 0 = omega (arith, bare.test, ap (sum_by value_conditions) bare.macros) in
    let few = line_few line shown in
    let trees : trees_in_line line ≡ [] = ap₂ (λ ts us. ts ++ us) (test_trees line.test bare.test)
    (ap (flat_map trees_in_value) bare.macros) in
    record {
      grows = within_as nodes nodes [] (trees_in_line line) 0 (line_conditions line) (sym trees)
          (omega arith) (within_none nodes 0 pool);
      hits = omega (arith, hits, few.0, none);
      numbers = omega (arith, numbers, few.1, none);
      few_hits = omega (arith, hits);
      few_numbers = omega (arith, numbers);
    }

-- a line that was never stepped
module _ (a b : List Node) (line : LineContents) (run : Member) (shown : IsShownLine line)
    (is : IsNewLine a b line run) where
  made_long : (length (saved_hits (kept_by run)) ≡ member_hits (line_member line))
      × (length (saved_numbers (kept_by run)) ≡ member_numbers (line_member line))
  made_long = saved_long (line_member line) (kept_by run) (member_shape b (line_member line) run is.run_too)

  pub made_short : line_conditions line ≤ 65536 → (length (saved_hits (kept_by run)) < 2 ^ 62)
      × (length (saved_numbers (kept_by run)) < 2 ^ 62)
  made_short few =
      let most = line_few line shown in
      (omega (arith, few, most.0, made_long.0), omega (arith, few, most.1, made_long.1))

  pub made_counts : (kept : Places) → kept.hits ≡ length (saved_hits (kept_by run)) → kept.numbers
      ≡ length (saved_numbers (kept_by run)) → CountsLine a b line kept
  made_counts kept hits numbers =
      let most = line_few line shown in
      record {
        grows = is.grows;
        hits = hits ∙ made_long.0;
        numbers = numbers ∙ made_long.1;
        few_hits = omega (arith, hits, made_long.0, most.0);
        few_numbers = omega (arith, numbers, made_long.1, most.1);
      }

-- a line more
sum_more : (f : MemberContents → ℕ) (lines : List LineContents) (line : LineContents)
    → sum (map f (map line_member (lines ++ line ∷ [])))
    ≡ sum (map f (map line_member lines)) + f (line_member line)
sum_more f [] line = omega (arith, sum_by-cons (λ (n : ℕ). n) (f (line_member line)) [])
sum_more f (first ∷ lines) line =
    let own = λ (n : ℕ). n in
    omega (
      arith,
      sum_more f lines line,
      sum_by-cons own (f (line_member first)) (map f (map line_member (lines ++ line ∷ []))),
      sum_by-cons own (f (line_member first)) (map f (map line_member lines)),
    )

pub counts_more : (a b c : List Node) (lines : List LineContents) (line : LineContents)
    (hits numbers : ℕ) (kept : Places) → CountsLines a b lines hits numbers → CountsLine b c line
    kept → CountsLines a c (lines ++ line ∷ []) (hits + kept.hits) (numbers + kept.numbers)
counts_more a b c lines line hits numbers kept are is =
    let all = sum_by_push line_conditions lines line in
    record {
      grows = grows_more trees_in_line line_conditions a b c lines line are.grows is.grows;
      all_hits = omega (arith, are.all_hits, is.hits, sum_more member_hits lines line);
      all_numbers = omega (arith, are.all_numbers, is.numbers, sum_more member_numbers lines line);
      few_hits = omega (arith, are.few_hits, is.few_hits, all);
      few_numbers = omega (arith, are.few_numbers, is.few_numbers, all);
    }

-- no lines
pub no_lines : (nodes : List Node) → IsPool nodes → CountsLines nodes nodes [] 0 0
no_lines nodes pool = record {
  grows = within_none nodes 0 pool;
  all_hits = refl;
  all_numbers = refl;
  few_hits = omega arith;
  few_numbers = omega arith;
}

-- a piece more that is no macro
pub none_more : (pieces : List PieceContents) (piece : PieceContents) → filter_map value_in pieces
    ≡ [] → is_some (value_in piece) ≡ false → filter_map value_in (pieces ++ piece ∷ []) ≡ []
none_more pieces (Bytes text) none alone =
    filter_map-append value_in pieces (Bytes text ∷ []) ∙ ap (λ vs. vs ++ []) none
none_more pieces (Shows name parts) none alone = let bad : true ≡ false = alone in cc
