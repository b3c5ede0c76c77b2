-- A text that is written piece by piece.
use Rattle.std.proofs.Common.{◌≡◌, ℕ, zero, suc, ◌+◌, List, [], ◌∷◌, ◌++◌, length, map, take, drop, Option, refl, sym}
use Rattle.std.proofs.Common.{ap, subst, ◌∙◌, append_assoc, append-nil}
use Rattle.ra_io.specs.Sink.{grown}
use Rattle.ra_condition.specs.declared.condition.Condition.{Condition}
use Rattle.ra_explain.specs.HitChanges.{ChangesSeen, events_of}
use Rattle.ra_session.specs.Explaining.{condition_line, conditions_text, explanation_text, groups_text}
use Rattle.ra_jobs.specs.Writing.{GrewByPart}
use Rattle.ra_jobs.proofs.Pieces.{grown-grown, grown-nil}
use Rattle.ra_jobs.proofs.Parts.{part_after, part_none}
use Rattle.std.specs.List.{concat}
use Rattle.ra_condition.specs.declared.group.Group.{Group}
use Rattle.ra_condition.specs.Contents.{TriggerContents, group_contents}
use Rattle.ra_memory.specs.Image.{History}
use Rattle.ra_explain.specs.Explains.{ExplanationContents}
use Rattle.ra_explain.specs.Recorders.{RecorderSeen, Stands}
use Rattle.ra_explain.specs.Unlocks.{IsExplanation, ExplainsBehind}
use Rattle.ra_explain.proofs.ExplainedLemmas.{one_explanation}
use Rattle.ra_session.specs.declared.ending.Ending.TheVariants.{Done, NoMemory, SinkFault}
use Rattle.ra_explain_job.specs.Printing.{PrintsUnlock}

-- all of a text is written but for the rest of it
pub record LeavesRest (first now : Option (List ℕ)) (whole rest : List ℕ) : Type 0 where
  pub front : List ℕ
  pub all : front ++ rest ≡ whole
  pub grew : now ≡ grown first front

-- a piece more
pub leaves_less : (first mid now : Option (List ℕ)) (whole piece rest before : List ℕ) → before
    ≡ piece ++ rest → LeavesRest first mid whole before → now ≡ grown mid piece
    → LeavesRest first now whole rest
leaves_less first mid now whole piece rest before is to more = record {
  front = to.front ++ piece;
  all = append_assoc to.front piece rest ∙ ap (λ t. to.front ++ t) (sym is) ∙ to.all;
  grew = more ∙ ap (λ t. grown t piece) to.grew ∙ grown-grown first to.front piece;
}

-- a piece that is cut short
pub leaves_cut : (first mid now : Option (List ℕ)) (whole piece rest before : List ℕ) → before
    ≡ piece ++ rest → LeavesRest first mid whole before → GrewByPart mid now piece
    → GrewByPart first now whole
leaves_cut first mid now whole piece rest before is to part =
    part_after first mid now to.front piece rest whole to.grew part (ap (λ t. to.front ++ t) (sym is) ∙ to.all)

-- behind the last piece
pub leaves_none : (first now : Option (List ℕ)) (whole rest : List ℕ) → rest ≡ []
    → LeavesRest first now whole rest → now ≡ grown first whole
leaves_none first now whole rest none to = to.grew
    ∙ ap (grown first) (sym (append-nil to.front) ∙ ap (λ t. to.front ++ t) (sym none) ∙ to.all)

-- the events of some conditions, and of those after them
pub take_events : (n : ℕ) (events : List ChangesSeen) → events_of (take n events) ≡ take n (events_of events)
take_events zero xs = refl
take_events (suc n) [] = refl
take_events (suc n) (x ∷ xs) = ap (λ es. x.events ∷ es) (take_events n xs)

pub drop_events : (n : ℕ) (events : List ChangesSeen) → events_of (drop n events) ≡ drop n (events_of events)
drop_events zero xs = refl
drop_events (suc n) [] = refl
drop_events (suc n) (x ∷ xs) = drop_events n xs

-- the lines of one group more
pub group_first : (group : ℕ) (cs : List Condition) (groups : List (List Condition)) (events own
    behind : List ChangesSeen) → own ≡ take (length cs) events → behind ≡ drop (length cs) events
    → groups_text group (cs ∷ groups) (events_of events)
    ≡ conditions_text group 0 (events_of own) ++ groups_text (group + 1) groups (events_of behind)
group_first group cs groups events own behind is is_behind = λ i.
    conditions_text group 0 ((sym (take_events (length cs) events) ∙ ap events_of (sym is)) i)
    ++ groups_text (group + 1) groups
    ((sym (drop_events (length cs) events) ∙ ap events_of (sym is_behind)) i)

-- two pieces are a text
pub two_pieces : (first mid now : Option (List ℕ)) (a b : List ℕ) → mid ≡ grown first a → now
    ≡ grown mid b → now ≡ grown first (a ++ b)
two_pieces first mid now a b is more = more ∙ ap (λ t. grown t b) is ∙ grown-grown first a b

pub second_cut : (first mid now : Option (List ℕ)) (a b : List ℕ) → mid ≡ grown first a
    → GrewByPart mid now b → GrewByPart first now (a ++ b)
second_cut first mid now a b is part =
    part_after first mid now a b [] (a ++ b) is part (ap (λ t. a ++ t) (append-nil b))

pub first_cut : (first now : Option (List ℕ)) (a b : List ℕ) → GrewByPart first now a → GrewByPart first now (a ++ b)
first_cut first now a b part = part_after first first now [] a b (a ++ b) (sym (grown-nil first)) part refl

-- ---- the explanation of an unlock

module _ (id : ℕ) (r : RecorderSeen) (x : ExplanationContents) (t : TriggerContents) (trigger : t
    ≡ r.trigger) (explains : ExplainsBehind r x) (sink : Type 0) (old new : Option (List ℕ)) where
  text_is : (image : List ℕ) (earlier : History) (e : ExplanationContents)
      → Stands r (image ∷ earlier) → IsExplanation r.trigger image earlier e
      → explanation_text id t x ≡ concat (explanation_text id r.trigger e ∷ [])
  text_is image earlier e stands is =
      (λ i. explanation_text id (trigger i) (one_explanation r.trigger image earlier x e (explains
      (image ∷ earlier) stands) is i)) ∙ sym (append-nil (explanation_text id r.trigger e))

  pub printed_whole : new ≡ grown old (explanation_text id t x) → PrintsUnlock id r sink Done old new
  printed_whole wrote = record {
    ends = tt;
    prints = λ image earlier e stands is. (refl, wrote ∙ ap (grown old) (text_is image earlier e stands is));
    one = λ image earlier done stands. (x, explains (image ∷ earlier) stands);
  }

  pub printed_fault : sink → GrewByPart old new (explanation_text id t x) → PrintsUnlock id r sink SinkFault old new
  printed_fault rose part = record {
    ends = rose;
    prints = λ image earlier e stands is. (rose, subst (GrewByPart old new) (text_is image earlier e stands is) part);
    one = λ image earlier done stands. absurd (cc);
  }

  pub printed_part : GrewByPart old new (explanation_text id t x) → PrintsUnlock id r sink NoMemory old new
  printed_part part = record {
    ends = tt;
    prints = λ image earlier e stands is. subst (GrewByPart old new) (text_is image earlier e stands is) part;
    one = λ image earlier done stands. absurd (cc);
  }

-- nothing is printed
pub printed_nothing : (id : ℕ) (r : RecorderSeen) (sink : Type 0) (old : Option (List ℕ))
    → PrintsUnlock id r sink NoMemory old old
printed_nothing id r sink old = record {
  ends = tt;
  prints = λ image earlier e stands is. part_none old old (concat (explanation_text id r.trigger e ∷ [])) refl;
  one = λ image earlier done stands. absurd (cc);
}

-- the lines of one condition more
pub condition_first : (group place : ℕ) (own : ChangesSeen) (events behind : List ChangesSeen)
    → events ≡ own ∷ behind → conditions_text group place (events_of events)
    ≡ condition_line group place own.events ++ conditions_text group (place + 1) (events_of behind)
condition_first group place own events behind is = ap (λ es. conditions_text group place (events_of es)) is

-- the lines of one alt group more
pub group_next : (group : ℕ) (alt : Group) (alts later : List Group)
    (events own behind : List ChangesSeen) → alts ≡ alt ∷ later → own
    ≡ take (length (group_contents alt)) events → behind ≡ drop (length (group_contents alt)) events
    → groups_text group (map group_contents alts) (events_of events) ≡ conditions_text group 0
    (events_of own) ++ groups_text (group + 1) (map group_contents later) (events_of behind)
group_next group alt alts later events own behind is is_own is_behind =
    ap (λ gs. groups_text group (map group_contents gs) (events_of events)) is ∙ group_first group
    (group_contents alt) (map group_contents later) events own behind is_own is_behind
