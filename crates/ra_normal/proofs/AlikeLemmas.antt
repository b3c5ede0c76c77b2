-- A legacy part and its condition part at a frame.
use Rattle.std.proofs.Common.{ℕ, suc, Option, None, Some, List, [], ◌∷◌, map, refl, arith}
use Rattle.std.specs.Prelude.{All}
use Rattle.ra_operand.specs.declared.operand.Operand.{Operand}
use Rattle.ra_operand.specs.declared.operand.Operand.TheVariants.{Cell, Const, Recall}
use Rattle.ra_operand.specs.declared.op.Op.TheVariants.{Add}
use Rattle.ra_operand.specs.Fitting.{Fits32}
use Rattle.ra_condition.specs.declared.condition.Condition.{Condition}
use Rattle.ra_condition.specs.declared.part.Term.{Term}
use Rattle.ra_condition.specs.Chains.{places}
use Rattle.ra_condition.specs.Contents.{Legacy}
use Rattle.ra_condition.specs.Spelled.{FitsFactor, IsPart, IsTerm}
use Rattle.ra_memory.specs.Image.{History}
use Rattle.ra_indirect.specs.Trees.{Tree, constant, join}
use Rattle.ra_chain.specs.Elaboration.{operand_tree, times, term_tree, summed_from, terms_tree}
use Rattle.ra_memref.specs.Values.{Start}
use Rattle.ra_member.specs.Frames.{left_at, truth_at}
use Rattle.ra_lint.specs.Sound.{HasSmallConstants}
use Rattle.ra_normal.specs.Contents.{legacy_conditions}
use Rattle.ra_normal.specs.Laws.{IsAlike, condition_step}
use Rattle.ra_normal.proofs.LegacyLemmas.{same_number, legacy_resets, legacy_from_hits}

-- ---- the constants of legacy terms are numbers of 32 bits

operand_small : (operand : Operand) → Fits32 operand
    → HasSmallConstants (operand_tree operand (constant 0) (constant 0))
operand_small (Const n) fits = fits
operand_small Recall fits = omega arith
operand_small (Cell kind size address) fits = tt

factor_small : (tree : Tree) (factor : Option Operand) → HasSmallConstants tree → FitsFactor factor
    → HasSmallConstants (times tree factor)
factor_small tree None small fits = small
factor_small tree (Some factor) small fits = (small, operand_small factor fits)

term_small : (t : Term) → IsTerm t → HasSmallConstants (term_tree t)
term_small t is =
    factor_small (operand_tree t.operand (constant 0) (constant 0)) t.factor
    (operand_small t.operand is.operand) is.factor

summed_small : (sum : Tree) (ts : List Term) → HasSmallConstants sum → All IsTerm ts
    → HasSmallConstants (summed_from sum ts)
summed_small sum [] small each = small
summed_small sum (t ∷ ts) small each =
    summed_small (join Add sum (term_tree t)) ts (small, term_small t (each 0 t (omega arith)))
    (λ i d within. each (suc i) d (omega (arith, within)))

-- ---- the law

-- the condition part of spelled terms is as the legacy part, whatever its hits and its number were
pub alike : (start : Start) (history : History) (terms : List Term) (hits : List ℕ) (old : ℕ) → IsPart (Legacy terms)
    → IsAlike start history terms (condition_step start history terms hits old)
alike start history [] hits old part = absurd (omega (arith, part.0))
alike start history (t ∷ ts) hits old part =
    let terms : List Term = t ∷ ts in
    let cs : List Condition = legacy_conditions terms in
    let truths = map (truth_at start history cs) (places cs) in
    let lefts = map (left_at start history cs) (places cs) in
    let small : HasSmallConstants (terms_tree terms) =
    summed_small (term_tree t) ts (term_small t (part.1 0 t (omega arith)))
    (λ i d within. part.1 (suc i) d (omega (arith, within))) in
    record {
      number = same_number terms start history t refl small hits 0 old;
      reset = legacy_resets terms truths lefts hits 0 old;
      from_hits = legacy_from_hits terms truths lefts hits 0 old;
    }
