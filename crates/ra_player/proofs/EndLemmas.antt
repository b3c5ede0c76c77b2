-- How a job ends, with its last line.
use Rattle.std.proofs.Common.{◌∷◌, ◌≡◌, ◌⊎◌, inl, inr, ap, sym, subst, refl, ◌∙◌, ℕ, List, [], ◌++◌, take, append_assoc}
use Rattle.std.proofs.Common.{Option}
use Rattle.std.specs.List.{concat}
use Rattle.ra_io.specs.Sink.{grown}
use Rattle.ra_jobs.specs.Writing.{GrewByPart}
use Rattle.ra_session.specs.Endings.{status_of, last_line}
use Rattle.ra_session.specs.declared.ending.Ending.{Ending}
use Rattle.ra_session.specs.declared.ending.Ending.TheVariants.{Done, NoMemory, NoJob, BadSet, ReadFault, SinkFault}
use Rattle.ra_session.specs.declared.ending.Ending.TheVariants.{BadProgress, BadTrace, LongTrace, SaveFault}
use Rattle.ra_session.specs.declared.ending.Ending.TheVariants.{BadDocument, LongNormal, NoAchievement, ManyRows}
use Rattle.ra_session.specs.Expected.{Expected, before_put, prints_nothing}
use Rattle.ra_player.specs.Headline.{Decides, as_expected, save_failed, read_failed, trace_failed, Ends, whole}
use Rattle.ra_player.specs.Headline.{sink_failed, no_memory, IsFront}
use Rattle.ra_jobs.specs.Closing.{Closes}
use Rattle.ra_session.specs.Closing.{Finishes, EndsAtRead, EndsJob}
use Rattle.ra_jobs.proofs.Pieces.{grown-grown, grown-nil}

-- The text grew, and the status and the growth are those of an ending.
pub record GrewToEnd (e : Expected) (reads trace puts sink : Type 0) (old new : Option (List ℕ))
    (status : ℕ) : Type 0 where
  pub more : List ℕ
  pub grew : new ≡ grown old more
  pub ends : Ends e reads trace puts sink status more

nothing : (front rest : List ℕ) → front ++ rest ≡ [] → front ≡ []
nothing [] rest is = refl
nothing (b ∷ front) rest is = absurd (cc)

-- a front of nothing leaves the text
part_of_none : (old new : Option (List ℕ)) → GrewByPart old new [] → new ≡ old
part_of_none old new part = part.grew ∙ ap (grown old) (nothing part.front part.rest part.whole) ∙ grown-nil old

-- where the last line is empty the text stays, and the status is the ending's own, or that of a fault
pub closes_empty : (own : ℕ) (old new : Option (List ℕ)) (sink : Type 0) (status : ℕ) → Closes own
    [] old new sink status → (new ≡ old) × ((status ≡ own) ⊎ ((status ≡ 1) ⊎ ((status ≡ 5) × sink)))
closes_empty own old new sink status (inl written) = (written.1 ∙ grown-nil old, inl written.0)
closes_empty own old new sink status (inr (inl memory)) = (part_of_none old new memory.1, inr (inl memory.0))
closes_empty own old new sink status (inr (inr fault)) = (part_of_none old new fault.2, inr (inr (fault.0, fault.1)))

module _ (e : Expected) (reads trace puts sink : Type 0) (old mid new : Option (List ℕ)) (status : ℕ) where
  -- a last line that was written, or cut short
  pub closes_to_end : (ending : Ending) (before : List ℕ) → Decides e reads trace puts ending
      (before ++ last_line ending) → mid ≡ grown old before → Closes (status_of ending)
      (last_line ending) mid new sink status → GrewToEnd e reads trace puts sink old new status
  closes_to_end ending before decides so_far (inl written) = record {
    more = before ++ last_line ending;
    grew = written.1 ∙ ap (λ o. grown o (last_line ending)) so_far ∙ grown-grown old before (last_line ending);
    ends = subst (λ (s : ℕ). Ends e reads trace puts sink s (before ++ last_line ending))
        (sym written.0) (whole decides);
  }
  closes_to_end ending before decides so_far (inr (inl memory)) = record {
    more = before ++ memory.1.front;
    grew = memory.1.grew ∙ ap (λ o. grown o memory.1.front) so_far ∙ grown-grown old before memory.1.front;
    ends = subst (λ (s : ℕ). Ends e reads trace puts sink s (before ++ memory.1.front)) (sym memory.0)
        (no_memory ending (before ++ last_line ending) decides
        (memory.1.rest, append_assoc before memory.1.front memory.1.rest ∙ ap (λ x. before ++ x) memory.1.whole));
  }
  closes_to_end ending before decides so_far (inr (inr fault)) = record {
    more = before ++ fault.2.front;
    grew = fault.2.grew ∙ ap (λ o. grown o fault.2.front) so_far ∙ grown-grown old before fault.2.front;
    ends = subst (λ (s : ℕ). Ends e reads trace puts sink s (before ++ fault.2.front)) (sym fault.0)
        (sink_failed fault.1 ending (before ++ last_line ending) decides
        (fault.2.rest, append_assoc before fault.2.front fault.2.rest ∙ ap (λ x. before ++ x) fault.2.whole));
  }

  expected_as : (ending : Ending) → e.ending ≡ ending
      → Decides e reads trace puts ending (concat e.pieces ++ last_line ending)
  expected_as ending is = subst
      (λ (k : Ending). Decides e reads trace puts k (concat e.pieces ++ last_line k)) is as_expected

  front_of_all : (part : GrewByPart old mid (concat e.pieces))
      → IsFront part.front (concat e.pieces ++ last_line e.ending)
  front_of_all part = (
    part.rest ++ last_line e.ending,
    sym (append_assoc part.front part.rest (last_line e.ending)) ∙ ap (λ x. x ++ last_line e.ending) part.whole,
  )

  -- a text that was cut short before its last line
  cut_short : GrewByPart old mid (concat e.pieces) → new ≡ mid
      → (status ≡ 1) ⊎ ((status ≡ 5) × sink) → GrewToEnd e reads trace puts sink old new status
  cut_short part same (inl memory) = record {
    more = part.front;
    grew = same ∙ part.grew;
    ends = subst (λ (s : ℕ). Ends e reads trace puts sink s part.front) (sym memory) (no_memory
        e.ending (concat e.pieces ++ last_line e.ending) as_expected (front_of_all part));
  }
  cut_short part same (inr fault) = record {
    more = part.front;
    grew = same ∙ part.grew;
    ends = subst (λ (s : ℕ). Ends e reads trace puts sink s part.front) (sym fault.0) (sink_failed
        fault.1 e.ending (concat e.pieces ++ last_line e.ending) as_expected (front_of_all part));
  }

  cut_by_memory : GrewByPart old mid (concat e.pieces) → Finishes NoMemory mid new sink status
      → GrewToEnd e reads trace puts sink old new status
  cut_by_memory part finishes = let closed = closes_empty 1 mid new sink status finishes in
      cut_short part closed.0 (elim closed.1 [ inl own ↦ inl own | inr other ↦ other ])

  cut_by_fault : sink → GrewByPart old mid (concat e.pieces)
      → Finishes SinkFault mid new sink status → GrewToEnd e reads trace puts sink old new status
  cut_by_fault rose part finishes = let closed = closes_empty 5 mid new sink status finishes in
      cut_short part closed.0 (elim closed.1 [ inl own ↦ inr (own, rose) | inr other ↦ other ])

  as_told : (ending : Ending) → e.ending ≡ ending → mid ≡ grown old (concat e.pieces)
      → Finishes ending mid new sink status → GrewToEnd e reads trace puts sink old new status
  as_told ending is text finishes = closes_to_end ending (concat e.pieces) (expected_as ending is) text finishes

  at_read : EndsAtRead e reads trace old mid → Finishes ReadFault mid new sink status
      → GrewToEnd e reads trace puts sink old new status
  at_read (rose, inl first) finishes =
      closes_to_end ReadFault [] (read_failed rose first.0) (first.1 ∙ sym (grown-nil old)) finishes
  at_read (rose, inr later) finishes =
      closes_to_end ReadFault (concat (take later.1.0 e.pieces))
      (trace_failed rose later.0 later.1.0 later.1.1) later.1.2 finishes

  -- what a job that ended so has printed with its last line
  pub ends_with_line : (ending : Ending) → EndsJob e reads trace puts sink ending old mid
      → Finishes ending mid new sink status → GrewToEnd e reads trace puts sink old new status
  ends_with_line NoMemory before finishes = cut_by_memory before finishes
  ends_with_line SinkFault before finishes = cut_by_fault before.0 before.1 finishes
  ends_with_line ReadFault before finishes = at_read before finishes
  ends_with_line SaveFault before finishes = closes_to_end SaveFault (concat (before_put e))
      (save_failed before.0 before.1) before.2 finishes
  ends_with_line Done before finishes = as_told Done before.0 before.1 finishes
  ends_with_line NoJob before finishes = as_told NoJob before.0 before.1 finishes
  ends_with_line (BadSet why) before finishes = as_told (BadSet why) before.0 before.1 finishes
  ends_with_line (BadProgress why) before finishes = as_told (BadProgress why) before.0 before.1 finishes
  ends_with_line (BadTrace at why) before finishes = as_told (BadTrace at why) before.0 before.1 finishes
  ends_with_line LongTrace before finishes = as_told LongTrace before.0 before.1 finishes
  ends_with_line (BadDocument why) before finishes = as_told (BadDocument why) before.0 before.1 finishes
  ends_with_line (LongNormal which found) before finishes = as_told (LongNormal which found) before.0 before.1 finishes
  ends_with_line (NoAchievement id) before finishes = as_told (NoAchievement id) before.0 before.1 finishes
  ends_with_line (ManyRows found) before finishes = as_told (ManyRows found) before.0 before.1 finishes

-- words that are no job
pub no_job_ends : (sink : Type 0) (old new : Option (List ℕ)) (status : ℕ) → Closes 2 (last_line
    NoJob) old new sink status → GrewToEnd (prints_nothing NoJob) ⊥ ⊥ ⊥ sink old new status
no_job_ends sink old new status closes = closes_to_end (prints_nothing NoJob) ⊥ ⊥ ⊥ sink old old new
    status NoJob [] as_expected (sym (grown-nil old)) closes
