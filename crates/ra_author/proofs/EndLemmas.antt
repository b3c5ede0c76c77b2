-- How a job ends, by its answer.
use Rattle.std.proofs.Common.{arith, ◌≡◌, ◌≤◌, ◌<◌, ◌∙◌, inl, inr, ap, sym, subst, refl, ℕ, List, [], ◌∷◌, Option, Some}
use Rattle.std.proofs.Common.{is_some, true, Any, Ok, Err}
use Rattle.std.specs.List.{AllByRecursion}
use Rattle.std.specs.Result.{IsErrOf}
use Rattle.ra_io.specs.Causes.{NoneFell, Rose}
use Rattle.ra_io.specs.Files.{SameContent}
use Rattle.ra_args.specs.AuthorWords.{AuthorJob, author_puts}
use Rattle.ra_author.specs.Endings.{AnswerEnds, Prints, unsaved, unput, answered, JobEnds, read_failed, save_failed}
use Rattle.ra_author.specs.Endings.{no_memory, as_said}
use Rattle.ra_author_jobs.specs.Expected.{Expected, HasBytes, HasSaved, IsAnswer, IsOwn, IsPut}
use Rattle.ra_author_jobs.specs.Texts.{save_line}
use Rattle.ra_jobs.specs.Closing.{Closes}
use Rattle.ra_jobs.specs.Outside.{AnyRose, Outside, PutsRose}
use Rattle.ra_jobs.proofs.Stays.{same_after}

-- a count that rose in the second of two calls rose in both
pub rose_after : (a b c : List ℕ → ℕ) (names : List (List ℕ)) → NoneFell a b → AnyRose b c names → AnyRose a c names
rose_after a b c names first (index, name, below, is, rose) =
    (index, name, below, is, let low = first.each name in omega (arith, low, rose))

-- and so did one that rose in the first
pub rose_before : (a b c : List ℕ → ℕ) (names : List (List ℕ)) → AnyRose a b names → NoneFell b c → AnyRose a c names
rose_before a b c names (index, name, below, is, rose) then =
    (index, name, below, is, let low = then.each name in omega (arith, low, rose))

-- bytes that names had before the first call, they have after the second
bytes_after : (bytes : List ℕ) (a b c : List ℕ → Option (List ℕ)) (names : List (List ℕ))
    → SameContent a b → AllByRecursion (HasBytes bytes b c) names
    → AllByRecursion (HasBytes bytes a c) names
bytes_after bytes a b c [] same has = tt
bytes_after bytes a b c (name ∷ names) same has =
    ((λ told. has.0 (ap is_some (same.each name) ∙ told)), bytes_after bytes a b c names same has.1)

put_after : (job : AuthorJob) (saved : Option (List ℕ)) (a b c : List ℕ → Option (List ℕ))
    → SameContent a b → IsPut job saved b c → IsPut job saved a c
put_after job saved a b c same put = record {
  has = λ bytes is. bytes_after bytes a b c (author_puts job) same (put.has bytes is);
  none = λ is. same_after a b c same (put.none is);
}

-- what is printed after a call that leaves the sink
prints_after : (old mid new : Outside) (own : ℕ) (line : List ℕ) (status : ℕ) → mid.text ≡ old.text
    → mid.faults ≡ old.faults → Prints mid new own line status → Prints old new own line status
prints_after old mid new own line status same still prints =
    subst (λ (n : ℕ). Closes own line old.text new.text (Rose n new.faults) status) still
    (subst (λ (x : Option (List ℕ)). Closes own line x new.text (Rose mid.faults new.faults) status) same prints)

-- a job ends as its answer does, where the files were read before
pub answer_ends : (old mid new : Outside) (job : AuthorJob) (e : Expected) (status : ℕ) → mid.text
    ≡ old.text → mid.faults ≡ old.faults
    → SameContent old.content mid.content → NoneFell old.put_faults mid.put_faults → IsOwn e
    → IsAnswer old.content job e
    → AnswerEnds mid new job e status → JobEnds old new job status
answer_ends old mid new job e status text faults same puts own told (unsaved rose prints) =
    save_failed (rose_after old.put_faults mid.put_faults new.put_faults
    (author_puts job) puts rose) (prints_after old mid new 9 save_line status text faults prints)
answer_ends old mid new job e status text faults same puts own told (unput kept none one) =
    no_memory (same_after old.content mid.content new.content same kept) (none ∙ text) one
answer_ends old mid new job e status text faults same puts own told (answered put prints) =
    as_said e own told (put_after job e.saved old.content mid.content new.content same put)
    (prints_after old mid new e.status e.text status text faults prints)
