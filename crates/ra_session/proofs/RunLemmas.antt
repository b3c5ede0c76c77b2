-- A set and a trace that are read, and a job that is stopped there.
use Rattle.std.proofs.Common.{arith, ◌≡◌, ◌≤◌, ap, sym, subst, refl, ◌∙◌, ℕ, suc, nat_le, if◌then◌else◌, length, take}
use Rattle.std.proofs.Common.{map, List, [], ◌∷◌, true, false, Option, Some, None, is_some, option_map, IfSome, Result}
use Rattle.std.proofs.Common.{Ok, Err, IfErr, Any}
use Rattle.std.specs.Bool.{⊤}
use Rattle.md5.specs.Md5.{md5}
use Rattle.md5.proofs.StandardFacts.{length-md5}
use Rattle.ra_io.specs.Causes.{NoneFell}
use Rattle.ra_memory.specs.Image.{History}
use Rattle.ra_progress.specs.Names.{IsName}
use Rattle.ra_meaning.specs.Order.{shape_of}
use Rattle.ra_meaning.specs.OpeningLaws.{HasDigests}
use Rattle.ra_meaning.proofs.Digests.{md5_bytes}
use Rattle.std.specs.List.{concat, AllByRecursion}
use Rattle.std.specs.Result.{IsErrAnd, IsErrOf}
use Rattle.std.proofs.lemmas.List.{take_all, length-take}
use Rattle.ra_io.specs.Sink.{grown}
use Rattle.ra_set.specs.Accepted.{IsSet}
use Rattle.ra_set.specs.Texts.{item_texts, script_text}
use Rattle.ra_set.specs.Contents.{SetContents}
use Rattle.ra_progress.specs.Contents.{Opening}
use Rattle.ra_progress.specs.Spelling.{progress_bytes}
use Rattle.ra_trace.specs.declared.error.Why.TheVariants.{Header}
use Rattle.ra_trace.specs.declared.error.TraceError.{TraceError}
use Rattle.ra_trace.specs.declared.error.TraceError.TheVariants as errors
use Rattle.ra_trace.specs.Cutting.{Stop, RefusedAt, header_size, no_slots, trace_behind, stop_within}
use Rattle.ra_trace.specs.Reading.{IsStop, header_stop}
use Rattle.ra_meaning.specs.Runtime.{RuntimeSeen}
use Rattle.ra_meaning.specs.Earned.{Earned}
use Rattle.ra_meaning.specs.Play.{first_moment, moment_after, earned_after, pieces_from, saved_end}
use Rattle.ra_runtime.specs.Keeping.{KeptSeen}
use Rattle.ra_replay.specs.Left.{trace_limit}
use Rattle.ra_session.specs.Endings.{ending_of}
use Rattle.ra_session.specs.declared.ending.Ending.{Ending}
use Rattle.ra_session.specs.declared.ending.Ending.TheVariants.{Done, NoMemory, NoJob, BadSet, ReadFault, SinkFault}
use Rattle.ra_session.specs.declared.ending.Ending.TheVariants.{BadProgress, BadTrace, LongTrace, SaveFault}
use Rattle.ra_session.specs.declared.ending.Ending.TheVariants.{BadDocument, LongNormal, NoAchievement, ManyRows}
use Rattle.ra_session.specs.Expected.{Expected, played}
use Rattle.ra_session.specs.Closing.{EndsBefore}
use Rattle.ra_session.specs.Failures.{ending_at, ending_of_trace, trace_failed}
use Rattle.ra_session.specs.declared.failures.TraceFailed.{TraceFailed}
use Rattle.ra_session.specs.declared.failures.TraceFailed.TheVariants as failed
use Rattle.ra_session.specs.Playing.{StandsAt, kept_bytes, says_from}
use Rattle.ra_jobs.specs.Outside.{AnyRose}
use Rattle.ra_jobs.proofs.Pieces.{grown-nil}
use Rattle.ra_jobs.proofs.Parts.{part_none}
use Rattle.ra_replay.proofs.LeftLemmas.{pieces_of}
use Rattle.ra_session.proofs.ReadLemmas.{played_read}

-- a set that is not too long was read whole
pub read_all : (bytes file : List ℕ) → bytes ≡ take 4194305 file → length bytes ≤ 4194304 → bytes ≡ file
read_all bytes file is short = is ∙ take_all 4194305 file (omega (arith, length-take 4194305 file, ap length is))

pub read_all_of : (bytes file : List ℕ) → bytes ≡ take 4194305 file → length file ≤ 4194304 → bytes ≡ file
read_all_of bytes file is short = is ∙ take_all 4194305 file (omega (arith, short))

-- what is read of a set is accepted where the whole is
pub set_read : (bytes file : List ℕ) (s : SetContents) → bytes ≡ take 4194305 file → IsSet bytes s → IsSet file s
set_read bytes file s is set = subst (λ f. IsSet f s) (read_all bytes file is set.size) set

pub set_read_of : (bytes file : List ℕ) (s : SetContents) → bytes ≡ take 4194305 file → IsSet file s → IsSet bytes s
set_read_of bytes file s is set = subst (λ f. IsSet f s) (sym (read_all_of bytes file is set.size)) set

-- endings of jobs that say the same end the same
pub ends_same : (a b : Expected) (reads puts sink : Type 0) (ending : Ending) (old new : Option
    (List ℕ)) → a.pieces ≡ b.pieces → a.ending ≡ b.ending → a.puts_first ≡ b.puts_first
    → EndsBefore a reads puts sink ending old new → EndsBefore b reads puts sink ending old new
ends_same a b reads puts sink ending old new pieces end first before =
    subst (λ p. EndsBefore
    (record { pieces = p; ending = b.ending; saved = b.saved; puts_first = b.puts_first }) reads
    puts sink ending old new) pieces
    (subst (λ g. EndsBefore
    (record { pieces = a.pieces; ending = g; saved = b.saved; puts_first = b.puts_first }) reads
    puts sink ending old new) end
    (subst (λ f. EndsBefore
    (record { pieces = a.pieces; ending = a.ending; saved = b.saved; puts_first = f }) reads puts
    sink ending old new) first (same_saved ending before)))
  where
    same_saved : (ending : Ending) → EndsBefore a reads puts sink ending old new → EndsBefore
        (record {
          pieces = a.pieces;
          ending = a.ending;
          saved = b.saved;
          puts_first = a.puts_first;
        }) reads puts sink ending old new
    same_saved Done h = h
    same_saved NoMemory h = h
    same_saved NoJob h = h
    same_saved (BadSet why) h = h
    same_saved ReadFault h = (h.0, (h.1.0, record { there = h.1.1.there; before_end = h.1.1.before_end }, h.1.2))
    same_saved SinkFault h = h
    same_saved (BadProgress why) h = h
    same_saved (BadTrace at why) h = h
    same_saved LongTrace h = h
    same_saved SaveFault h = h
    same_saved (BadDocument why) h = h
    same_saved (LongNormal which found) h = h
    same_saved (NoAchievement id) h = h
    same_saved (ManyRows found) h = h

-- behind a good header the trace is what is left of it
pub played_behind : (set : SetContents) (o : Opening) (behind : History) (earned : Earned)
    (bytes : List ℕ) (size : ℕ) (ending : Ending) (old new : Option (List ℕ))
    → header_size (take trace_limit bytes) ≡ Some size
    → EndsBefore (says_from bytes set o (first_moment size behind) earned (pieces_of size bytes)) ⊤
    ⊤ ⊤ ending old new → EndsBefore (played set o behind earned bytes) ⊤ ⊤ ⊤ ending old new
played_behind set o behind earned bytes size ending old new is before =
    let seen = take trace_limit bytes in
    ends_same (says_from bytes set o (first_moment size behind) earned (pieces_of size bytes))
    (played set o behind earned bytes) ⊤ ⊤ ⊤ ending old new
    (ap (λ header. pieces_from set o (first_moment (trace_behind no_slots header seen).size behind)
    earned (trace_behind no_slots header seen).entries) (sym is))
    (ap (λ header. ending_of (stop_within (nat_le trace_limit (length bytes))
    (trace_behind no_slots header seen).stop)) (sym is)) refl before

some_same : (x y : Stop) → Some x ≡ Some y → x ≡ y
some_same x y same = cc

-- a header that is refused
pub bad_header : (set : SetContents) (o : Opening) (behind : History) (earned : Earned)
    (bytes : List ℕ) (why : TraceError) (old : Option (List ℕ))
    → IsStop why (header_stop trace_limit bytes) → EndsBefore
    (played set o behind earned bytes) ⊤ ⊤ ⊤ (ending_of_trace (trace_failed why)) old old
bad_header set o behind earned bytes why old stop = by_header why (header_size (take trace_limit bytes)) refl stop
  where
    stop_by : Option ℕ → Option Stop
    stop_by header = if is_some header then None else Some (RefusedAt 0 Header)

    none_here : header_size (take trace_limit bytes) ≡ None
        → EndsBefore (played set o behind earned bytes) ⊤ ⊤ ⊤ (BadTrace 0 Header) old old
    none_here none =
        let seen = take trace_limit bytes in (
          ap (λ header. ending_of (stop_within (nat_le trace_limit (length bytes))
              (trace_behind no_slots header seen).stop)) none,
          sym (grown-nil old) ∙ ap (λ header. grown old
              (concat (pieces_from set o (first_moment (trace_behind no_slots header seen).size behind)
              earned (trace_behind no_slots header seen).entries))) (sym none),
        )

    by_header : (why : TraceError) (header : Option ℕ) → header_size (take trace_limit bytes)
        ≡ header → IsStop why (stop_by header) → EndsBefore (played set o behind earned bytes) ⊤ ⊤ ⊤
        (ending_of_trace (trace_failed why)) old old
    by_header errors.Read header is stop = (tt, (0, played_read set o behind earned bytes, sym (grown-nil old)))
    by_header (errors.Refused at w) None is stop =
        subst (λ (k : Stop). EndsBefore (played set o behind earned bytes) ⊤ ⊤ ⊤
        (ending_of k) old old) (some_same (RefusedAt 0 Header) (RefusedAt at w) stop) (none_here is)
    by_header errors.TooLong None is stop = absurd (cc)
    by_header (errors.Refused at w) (Some size) is stop = absurd (cc)
    by_header errors.TooLong (Some size) is stop = absurd (cc)

-- at the end of a good trace the bytes are those that a run saves
pub saved_behind : (set : SetContents) (o : Opening) (behind : History) (earned : Earned)
    (bytes : List ℕ) (size : ℕ) (slots : List (Option KeptSeen)) (runtime : RuntimeSeen)
    → header_size (take trace_limit bytes) ≡ Some size
    → StandsAt set o (moment_after (first_moment size behind) (pieces_of size bytes).entries)
    (earned_after set o (first_moment size behind) earned (pieces_of size bytes).entries) runtime
    slots → kept_bytes runtime ≡ (played set o behind earned bytes).saved
saved_behind set o behind earned bytes size slots runtime is stands =
    let seen = take trace_limit bytes in
    ap (λ (s : SetContents). progress_bytes (shape_of s) runtime.kept) stands.same
    ∙ ap (progress_bytes (shape_of set)) stands.kept
    ∙ ap (λ header. progress_bytes (shape_of set) (saved_end set o behind earned
    (trace_behind no_slots header seen).size (trace_behind no_slots header seen).entries)) (sym is)

-- what is known of the error that a `?` hands on
pub err_by : {T E : Type 0} (r : Result T E) (x : E) (P : E → Type 0) → IsErrAnd r (λ k. k ≡ x) → P x → IfErr r P
err_by (Ok done) x P is p = tt
err_by (Err k) x P is p = subst P (sym is) p

pub err_from : {T U E : Type 0} (x e : E) (P : Type 0) (r : Result T E) → IsErrAnd r (λ k. k ≡ x)
    → (IsErrOf {T = U} (Err x) e → P) → IsErrOf r e → P
err_from x e P (Ok done) is f of = absurd is
err_from x e P (Err k) is f of = let same : k ≡ e = cc of in f (ap Err (sym is ∙ same))

-- what a run has printed that was stopped in its trace
pub ends_by : {T : Type 0} (e : Expected) (s : TraceFailed) (r : Result T TraceFailed)
    (old new : Option (List ℕ)) → IsErrAnd r (λ k. k ≡ s)
    → EndsBefore e ⊤ ⊤ ⊤ (ending_of_trace s) old new → EndsBefore e ⊤ ⊤ ⊤ (ending_at r) old new
ends_by e s (Ok done) old new is before = absurd is
ends_by e s (Err k) old new is before =
    subst (λ (k : TraceFailed). EndsBefore e ⊤ ⊤ ⊤ (ending_of_trace k) old new) (sym is) before

pub no_memory_left : {T : Type 0} (e : Expected) (r : Result T TraceFailed) (old : Option (List ℕ))
    → IsErrAnd r (λ k. k ≡ failed.Memory) → EndsBefore e ⊤ ⊤ ⊤ (ending_at r) old old
no_memory_left e r old is = ends_by e failed.Memory r old old is (part_none old old (concat e.pieces) refl)

-- the bytes of a name that is told
pub file_of : (content : List ℕ → Option (List ℕ)) (name : List ℕ) → is_some (content name) ≡ true
    → (file : List ℕ) × (content name ≡ Some file)
file_of content name told = some_of (content name) told
  where
    some_of : (o : Option (List ℕ)) → is_some o ≡ true → (file : List ℕ) × (o ≡ Some file)
    some_of None told = let bad : false ≡ true = told in absurd (cc)
    some_of (Some file) told = (file, refl)

-- one of a name and others
pub any_first : (P : List ℕ → Type 0) (a : List ℕ) (rest : List (List ℕ)) → P a → Any P (a ∷ rest)
any_first P a rest p = (0, a, omega arith, refl, p)

pub any_later : (P : List ℕ → Type 0) (a : List ℕ) (rest : List (List ℕ)) → Any P rest → Any P (a ∷ rest)
any_later P a rest (k, x, below, is, p) = (suc k, x, omega (arith, below), is, p)

pub any_map : (P Q : List ℕ → Type 0) (names : List (List ℕ)) → ((name : List ℕ) → P name → Q name)
    → Any P names → Any Q names
any_map P Q names f (k, x, below, is, p) = (k, x, below, is, f x p)

-- a count that rose since later rose since before
pub rose_before : (a b c : List ℕ → ℕ) (names : List (List ℕ)) → NoneFell a b → AnyRose b c names → AnyRose a c names
rose_before a b c names fell rose = any_map _ _ names (λ name later. omega (arith, fell.each name, later)) rose

-- a digest is sixteen bytes
md5_named : (text : List ℕ) → IsName (md5 text)
md5_named text = record { long = length-md5 text; fit = md5_bytes text }

all_digests : (texts : List (List ℕ)) → AllByRecursion IsName (map md5 texts)
all_digests [] = tt
all_digests (text ∷ texts) = (md5_named text, all_digests texts)

some_digest : (text : Option (List ℕ)) → IfSome (option_map md5 text) IsName
some_digest None = tt
some_digest (Some text) = md5_named text

-- the digest and the names of a set that a file spells
pub digests_of : (file : List ℕ) (set : SetContents) → IsSet file set → HasDigests set
digests_of file set is = record {
  digest = subst IsName (sym is.digest) (md5_named file);
  items = subst (AllByRecursion IsName) (sym is.item_names) (all_digests (item_texts file));
  script = subst (λ (name : Option (List ℕ)). IfSome name IsName) (sym is.script_name) (some_digest (script_text file));
}
