-- What each status says.
use Rattle.std.proofs.Common.{arith, ◌≡◌, ◌≤◌, ◌⊎◌, ◌∙◌, inl, inr, ap, sym, subst, refl, ℕ, List, Option, Some, None}
use Rattle.std.proofs.Common.{true, false}
use Rattle.ra_io.specs.Files.{SameContent}
use Rattle.ra_args.specs.AuthorWords.{AuthorJob, author_job_of, author_puts, author_reads}
use Rattle.ra_author.specs.Endings.{Ends, JobEnds, Prints, as_said, no_job, no_memory, of_job, puts_in, read_failed}
use Rattle.ra_author.specs.Endings.{save_failed}
use Rattle.ra_author.specs.Statuses.{EndsAsSaid, IsNoJob, IsStatus, IsWhole, LeavesFiles, MeetsReadFault}
use Rattle.ra_author.specs.Statuses.{MeetsSaveFault, PutsBeforeText, SaysEachStatus}
use Rattle.ra_author_jobs.specs.Expected.{Expected, HasSaved, IsAnswer, IsOwn, IsOwnStatus, IsPut, JobSays, deciding}
use Rattle.ra_author_jobs.specs.Expected.{is_refusal}
use Rattle.ra_author_jobs.specs.Texts.{read_line, save_line, usage_line}
use Rattle.ra_jobs.specs.Outside.{AreTold, GrewBy, Outside, PutsRose, ReadsRose, SinkRose}

same_job : (words : List (List ℕ)) (job other : AuthorJob) → author_job_of words ≡ Some job
    → author_job_of words ≡ Some other → job ≡ other
same_job words job other a b = let same : ◌≡◌ {A = Option AuthorJob} (Some job) (Some other) = sym a ∙ b in cc same

no_such : (words : List (List ℕ)) (job : AuthorJob) → author_job_of words ≡ None → author_job_of words ≡ Some job → ⊥
no_such words job none is = let bad : ◌≡◌ {A = Option AuthorJob} None (Some job) = sym none ∙ is in cc bad

module _ (old new : Outside) where
  -- the status of a text that is printed: its own, or that of memory or of a fault
  printed_status : (own status : ℕ) (text : List ℕ) → Prints old new own text status
      → (status ≡ own) ⊎ ((status ≡ 1) ⊎ (status ≡ 5))
  printed_status own status text (inl whole) = inl whole.0
  printed_status own status text (inr (inl memory)) = inr (inl memory.0)
  printed_status own status text (inr (inr fault)) = inr (inr fault.0)

  -- a status that is neither that of memory nor that of a fault has all of the text
  printed_whole : (own status : ℕ) (text : List ℕ) → Prints old new own text status
      → (status ≡ 1 → ⊥) → (status ≡ 5 → ⊥) → (status ≡ own) × GrewBy old new text
  printed_whole own status text (inl whole) not_one not_five = whole
  printed_whole own status text (inr (inl memory)) not_one not_five = absurd (not_one memory.0)
  printed_whole own status text (inr (inr fault)) not_one not_five = absurd (not_five fault.0)

  -- without a fault of the sink all of it is printed, or there was no memory
  printed_so : (own status : ℕ) (text : List ℕ) → Prints old new own text status
      → (SinkRose old new → ⊥) → (status ≡ 1) ⊎ ((status ≡ own) × GrewBy old new text)
  printed_so own status text (inl whole) no_fault = inr whole
  printed_so own status text (inr (inl memory)) no_fault = inl memory.0
  printed_so own status text (inr (inr fault)) no_fault = absurd (no_fault fault.1)

  -- a status of 5 is that of a fault of the sink, where the text has another
  printed_five : (own status : ℕ) (text : List ℕ) → Prints old new own text status → (own ≡ 5 → ⊥)
      → status ≡ 5 → SinkRose old new
  printed_five own status text (inl whole) other five = absurd (other (sym whole.0 ∙ five))
  printed_five own status text (inr (inl memory)) other five = absurd (let one = memory.0 in omega (arith, one, five))
  printed_five own status text (inr (inr fault)) other five = fault.1

own_status : (e : Expected) → IsOwn e → IsOwnStatus e.status
own_status e (inl zero) = inl zero
own_status e (inr other) = inr other.0

known_of : (own status : ℕ) → IsStatus own → (status ≡ own) ⊎ ((status ≡ 1) ⊎ (status ≡ 5)) → IsStatus status
known_of own status known (inl same) = subst IsStatus (sym same) known
known_of own status known (inr (inl one)) = inl (omega (arith, one))
known_of own status known (inr (inr five)) = inl (omega (arith, five))

own_known : (own : ℕ) → IsOwnStatus own → IsStatus own
own_known own of = inr (inr of)

-- a status that no job gives by itself is no such status
own_not : (own other : ℕ) → IsOwnStatus own → (other ≡ 0 → ⊥) → is_refusal other ≡ false → own ≡ other → ⊥
own_not own other (inl zero) some never is = some (sym is ∙ zero)
own_not own other (inr listed) some never is = let bad : true ≡ false =
    sym listed ∙ ap is_refusal is ∙ never in absurd (cc bad)

module _ (words : List (List ℕ)) (old new : Outside) (status : ℕ) where
  -- a text that is printed has no other status than its own, but that of memory and of a fault
  not_status : (own : ℕ) (text : List ℕ) (other : ℕ) → Prints old new own text status → status
      ≡ other → (other ≡ own → ⊥) → (other ≡ 1 → ⊥) → (other ≡ 5 → ⊥) → ⊥
  not_status own text other prints is not_own not_one not_five = elim (printed_status old new own status text prints) [
    | inl same ↦ not_own (sym is ∙ same)
    | inr (inl one) ↦ not_one (sym is ∙ one)
    | inr (inr five) ↦ not_five (sym is ∙ five)
  ]

  known : Ends old new words status → IsStatus status
  known (no_job none same prints) =
      known_of 2 status (inl (omega arith)) (printed_status old new 2 status usage_line prints)
  known (of_job job is (read_failed rose same prints)) =
      known_of 4 status (inl (omega arith)) (printed_status old new 4 status read_line prints)
  known (of_job job is (save_failed rose prints)) =
      known_of 9 status (inr (inl refl)) (printed_status old new 9 status save_line prints)
  known (of_job job is (no_memory same text one)) = inl (omega (arith, one))
  known (of_job job is (as_said e own told put prints)) = known_of e.status status
      (own_known e.status (own_status e own)) (printed_status old new e.status status e.text prints)

  usage : Ends old new words status → author_job_of words ≡ None → (SinkRose old new → ⊥)
      → (status ≡ 1) ⊎ ((status ≡ 2) × GrewBy old new usage_line)
  usage (no_job none same prints) is no_fault = printed_so old new 2 status usage_line prints no_fault
  usage (of_job job is ends) none no_fault = absurd (no_such words job none is)

  -- a job whose answer was that of another answer of it
  module _ (job : AuthorJob) (e : Expected) (says : JobSays old.content job e) where
    same_answer : (other : Expected) → IsAnswer old.content job other → other ≡ e
    same_answer other is = is.one e says

    whole_job : (ReadsRose (author_reads job) old new → ⊥)
        → (PutsRose (author_puts job) old new → ⊥) → (SinkRose old new → ⊥)
        → JobEnds old new job status → (status ≡ 1) ⊎ ((status ≡ e.status) × GrewBy old new e.text)
    whole_job no_read no_put no_write (read_failed rose same prints) = absurd (no_read rose)
    whole_job no_read no_put no_write (save_failed rose prints) = absurd (no_put rose)
    whole_job no_read no_put no_write (no_memory same text one) = inl one
    whole_job no_read no_put no_write (as_said other own is put prints) =
        subst (λ (x : Expected). (status ≡ 1) ⊎ ((status ≡ x.status) × GrewBy old new x.text)) (same_answer other is)
        (printed_so old new other.status status other.text prints no_write)

    -- the file that is put has what the job says
    has_said : (other : Expected) → IsAnswer old.content job other → IsPut job other.saved old.content new.content
        → HasSaved job e.saved old.content new.content
    has_said other is put = subst (λ (x : Expected). HasSaved job x.saved old.content new.content)
        (same_answer other is) put.has

  whole : Ends old new words status → IsWhole words old new status
  whole (no_job none same prints) job e is says met = absurd (no_such words job none is)
  whole (of_job other there ends) job e is says met =
      whole_job job e says met.read met.put met.write
      (subst (λ j. JobEnds old new j status) (same_job words other job there is) ends)

  -- a status of its own is that of a job that is done as it says
  as_own : (own : ℕ) → IsOwnStatus own → Ends old new words status → status ≡ own → EndsAsSaid words old new own
  as_own own of (no_job none same prints) is = absurd (not_status 2 usage_line own prints is
      (own_not own 2 of (λ n. omega (arith, n)) refl) (own_not own 1 of (λ n. omega (arith, n))
      refl) (own_not own 5 of (λ n. omega (arith, n)) refl))
  as_own own of (of_job job is_job (read_failed rose same prints)) is = absurd (not_status 4
      read_line own prints is (own_not own 4 of (λ n. omega (arith, n)) refl) (own_not own 1
      of (λ n. omega (arith, n)) refl) (own_not own 5 of (λ n. omega (arith, n)) refl))
  as_own own of (of_job job is_job (save_failed rose prints)) is = absurd (not_status 9 save_line
      own prints is (own_not own 9 of (λ n. omega (arith, n)) refl) (own_not own 1 of (λ n. omega
      (arith, n)) refl) (own_not own 5 of (λ n. omega (arith, n)) refl))
  as_own own of (of_job job is_job (no_memory same text one)) is =
      absurd (own_not own 1 of (λ n. omega (arith, n)) refl (sym is ∙ one))
  as_own own of (of_job job is_job (as_said e owned told put prints)) is =
      let whole = printed_whole old new e.status status e.text prints
      (λ one. own_not own 1 of (λ n. omega (arith, n)) refl (sym is ∙ one))
      (λ five. own_not own 5 of (λ n. omega (arith, n)) refl (sym is ∙ five)) in
      let same : e.status ≡ own = sym whole.0 ∙ is in
      record {
        job = job;
        is_job = is_job;
        said = λ tell.
            (e, told.said (subst (λ n. AreTold old.content (deciding job n)) (sym same) tell), same, whole.1);
      }

  no_words : Ends old new words status → status ≡ 2 → IsNoJob words old new
  no_words (no_job none same prints) two =
      record {
        no_job = none;
        text = (printed_whole old new 2 status usage_line prints (λ one. omega (arith, one, two))
            (λ five. omega (arith, five, two))).1;
      }
  no_words (of_job job is (read_failed rose same prints)) two =
      absurd (not_status 4 read_line 2 prints two (λ same. omega (arith, same))
      (λ one. omega (arith, one)) (λ five. omega (arith, five)))
  no_words (of_job job is (save_failed rose prints)) two = absurd (not_status 9 save_line 2 prints
      two (λ same. omega (arith, same)) (λ one. omega (arith, one)) (λ five. omega (arith, five)))
  no_words (of_job job is (no_memory same text one)) two = absurd (omega (arith, one, two))
  no_words (of_job job is (as_said e own told put prints)) two =
      absurd (not_status e.status e.text 2 prints two
      (λ same. own_not e.status 2 (own_status e own) (λ n. omega (arith, n)) refl (sym same))
      (λ one. omega (arith, one)) (λ five. omega (arith, five)))

  read_fault : Ends old new words status → status ≡ 4 → MeetsReadFault words old new
  read_fault (no_job none same prints) four = absurd (not_status 2 usage_line 4 prints four
      (λ same. omega (arith, same)) (λ one. omega (arith, one)) (λ five. omega (arith, five)))
  read_fault (of_job job is (read_failed rose same prints)) four = record {
    job = job;
    is_job = is;
    rose = rose;
    text = (printed_whole old new 4 status read_line prints (λ one. omega (arith, one, four))
        (λ five. omega (arith, five, four))).1;
  }
  read_fault (of_job job is (save_failed rose prints)) four =
      absurd (not_status 9 save_line 4 prints four (λ same. omega (arith, same))
      (λ one. omega (arith, one)) (λ five. omega (arith, five)))
  read_fault (of_job job is (no_memory same text one)) four = absurd (omega (arith, one, four))
  read_fault (of_job job is (as_said e own told put prints)) four =
      absurd (not_status e.status e.text 4 prints four
      (λ same. own_not e.status 4 (own_status e own) (λ n. omega (arith, n)) refl (sym same))
      (λ one. omega (arith, one)) (λ five. omega (arith, five)))

  save_fault : Ends old new words status → status ≡ 9 → MeetsSaveFault words old new
  save_fault (no_job none same prints) nine = absurd (not_status 2 usage_line 9 prints nine
      (λ same. omega (arith, same)) (λ one. omega (arith, one)) (λ five. omega (arith, five)))
  save_fault (of_job job is (read_failed rose same prints)) nine =
      absurd (not_status 4 read_line 9 prints nine (λ same. omega (arith, same))
      (λ one. omega (arith, one)) (λ five. omega (arith, five)))
  save_fault (of_job job is (save_failed rose prints)) nine = record {
    job = job;
    is_job = is;
    rose = rose;
    text = (printed_whole old new 9 status save_line prints (λ one. omega (arith, one, nine))
        (λ five. omega (arith, five, nine))).1;
  }
  save_fault (of_job job is (no_memory same text one)) nine = absurd (omega (arith, one, nine))
  save_fault (of_job job is (as_said e own told put prints)) nine =
      absurd (not_status e.status e.text 9 prints nine
      (λ same. own_not e.status 9 (own_status e own) (λ n. omega (arith, n)) refl (sym same))
      (λ one. omega (arith, one)) (λ five. omega (arith, five)))

  sink_fault : Ends old new words status → status ≡ 5 → SinkRose old new
  sink_fault (no_job none same prints) five =
      printed_five old new 2 status usage_line prints (λ n. omega (arith, n)) five
  sink_fault (of_job job is (read_failed rose same prints)) five =
      printed_five old new 4 status read_line prints (λ n. omega (arith, n)) five
  sink_fault (of_job job is (save_failed rose prints)) five =
      printed_five old new 9 status save_line prints (λ n. omega (arith, n)) five
  sink_fault (of_job job is (no_memory same text one)) five = absurd (omega (arith, one, five))
  sink_fault (of_job job is (as_said e own told put prints)) five = printed_five old new e.status
      status e.text prints (own_not e.status 5 (own_status e own) (λ n. omega (arith, n)) refl) five

  -- each status says its cause
  pub says_each : Ends old new words status → SaysEachStatus words old new status
  says_each ends = record {
    known = known ends;
    usage = usage ends;
    whole = whole ends;
    done = as_own 0 (inl refl) ends;
    no_job = no_words ends;
    set = as_own 3 (inr refl) ends;
    read = read_fault ends;
    write = sink_fault ends;
    trace = as_own 7 (inr refl) ends;
    long = as_own 8 (inr refl) ends;
    save = save_fault ends;
    document = as_own 10 (inr refl) ends;
    lacks = as_own 12 (inr refl) ends;
  }

  -- the file that a job puts, where it is done
  saved_of : (job : AuthorJob) (e : Expected) → JobSays old.content job e
      → JobEnds old new job status → status ≡ 0 → HasSaved job e.saved old.content new.content
  saved_of job e says (read_failed rose same prints) zero = absurd (not_status 4 read_line 0 prints
      zero (λ same. omega (arith, same)) (λ one. omega (arith, one)) (λ five. omega (arith, five)))
  saved_of job e says (save_failed rose prints) zero = absurd (not_status 9 save_line 0 prints zero
      (λ same. omega (arith, same)) (λ one. omega (arith, one)) (λ five. omega (arith, five)))
  saved_of job e says (no_memory same text one) zero = absurd (omega (arith, one, zero))
  saved_of job e says (as_said other own is put prints) zero = has_said job e says other is put

  only_of : (job : AuthorJob) → author_job_of words ≡ Some job → JobEnds old new job status
      → (status ≡ 0) ⊎ (PutsRose (author_puts job) old new
      ⊎ (SameContent old.content new.content ⊎ PutsBeforeText words old new status))
  only_of job is (read_failed rose same prints) = inr (inr (inl same))
  only_of job is (save_failed rose prints) = inr (inl rose)
  only_of job is (no_memory same text one) = inr (inr (inl same))
  only_of job is (as_said e (inl zero) told put prints) = elim (printed_status old new e.status status e.text prints) [
    | inl same ↦ inl (same ∙ zero)
    | inr cut ↦ inr (inr (inr (record {
      cut = cut;
      saved = λ other x there says.
          let same = same_job words job other is there in
          subst (λ (j : AuthorJob). JobSays old.content j x → HasSaved j x.saved old.content
          new.content) same (λ said. has_said job x said e told put) says;
    })))
  ]
  only_of job is (as_said e (inr other) told put prints) = inr (inr (inl (put.none other.1)))

  pub leaves_each : Ends old new words status → LeavesFiles words old new status
  leaves_each (no_job none same prints) = record {
    only = inr (inr (inl same));
    saved = λ zero job e is says. absurd (no_such words job none is);
  }
  leaves_each (of_job job is ends) = record {
    only = subst (λ (o : Option AuthorJob). (status ≡ 0)
        ⊎ (PutsRose (puts_in o) old new ⊎ (SameContent old.content new.content
        ⊎ PutsBeforeText words old new status))) (sym is) (only_of job is ends);
    saved = λ zero other e there says. saved_of other e says
        (subst (λ j. JobEnds old new j status) (same_job words job other is there) ends) zero;
  }
