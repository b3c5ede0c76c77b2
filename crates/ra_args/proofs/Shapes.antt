-- Clap takes the words of each job, and reads that job.
use Rattle.std.proofs.Common.{◌≡◌, ◌∙◌, ◌⊎◌, ◌==◌, sym, subst, refl, inl, inr, rules, List, [], ◌∷◌, codes, Bool}
use Rattle.std.proofs.Common.{Option, None, true, false}
use Rattle.std.specs.Prelude.{is_some, bytes_eq, if◌then◌else◌}
use Rattle.std.proofs.lemmas.Bool.{not-true}
use Rattle.std.proofs.lemmas.Slice.Eq.{bytes_eq-Decides}
use Rattle.clap.specs.Words.{Text, takes}
use Rattle.ra_args.specs.Words.{Job, is_name}
use Rattle.ra_args.specs.JobWords.{is_number, job_of, run_of, check_of, make_of, import_of, lint_of, normal_of}
use Rattle.ra_args.specs.JobWords.{explain_of, options_of}
use Rattle.ra_args.specs.JobCommand.{player_app, job_read}
use Rattle.ra_args.proofs.BothShape as both
use Rattle.ra_args.proofs.CheckShape as check
use Rattle.ra_args.proofs.ExplainShape as explain
use Rattle.ra_args.proofs.ImportShape as import_
use Rattle.ra_args.proofs.LintShape as lint
use Rattle.ra_args.proofs.MakeShape as make
use Rattle.ra_args.proofs.NormalShape as normal
use Rattle.ra_args.proofs.NumberWords.{dashed, nothing}
use Rattle.ra_args.proofs.RestoreShape as restore
use Rattle.ra_args.proofs.RunShape as run
use Rattle.ra_args.proofs.SaveShape as save

-- clap takes these words, and reads their job
pub record IsTaken (words : List Text) : Type 0 where
  pub taken : takes player_app words ≡ true
  pub read : job_read words ≡ job_of words

-- the bytes of a word that was compared
same : (word name : Text) → bytes_eq word name ≡ true → word ≡ name
same word name h = search (rules, bytes_eq-Decides word name)

run_is : (set trace : Text) → is_name set ≡ true → is_name trace ≡ true → IsTaken (codes "run" ∷ set ∷ trace ∷ [])
run_is [] trace s t = cc
run_is (c ∷ cs) [] s t = cc
run_is (c ∷ cs) (d ∷ ds) s t =
    let hc : (c == 45) ≡ false = not-true (c == 45) s in
    let hd : (d == 45) ≡ false = not-true (d == 45) t in
    record { taken = run.taken c d cs ds hc hd; read = run.read c d cs ds hc hd ∙ rw (hc, hd) refl }

restore_is : (set trace file : Text) → is_name set ≡ true → is_name trace ≡ true → is_name file
    ≡ true → IsTaken (codes "run" ∷ set ∷ trace ∷ codes "--restore" ∷ file ∷ [])
restore_is [] trace file s t f = cc
restore_is (c ∷ cs) [] file s t f = cc
restore_is (c ∷ cs) (d ∷ ds) [] s t f = cc
restore_is (c ∷ cs) (d ∷ ds) (e ∷ es) s t f =
    let hc : (c == 45) ≡ false = not-true (c == 45) s in
    let hd : (d == 45) ≡ false = not-true (d == 45) t in
    let he : (e == 45) ≡ false = not-true (e == 45) f in
    record {
      taken = restore.taken c d e cs ds es hc hd he;
      read = restore.read c d e cs ds es hc hd he ∙ rw (hc, hd, he) refl;
    }

save_is : (set trace file : Text) → is_name set ≡ true → is_name trace ≡ true → is_name file ≡ true
    → IsTaken (codes "run" ∷ set ∷ trace ∷ codes "--save" ∷ file ∷ [])
save_is [] trace file s t f = cc
save_is (c ∷ cs) [] file s t f = cc
save_is (c ∷ cs) (d ∷ ds) [] s t f = cc
save_is (c ∷ cs) (d ∷ ds) (e ∷ es) s t f =
    let hc : (c == 45) ≡ false = not-true (c == 45) s in
    let hd : (d == 45) ≡ false = not-true (d == 45) t in
    let he : (e == 45) ≡ false = not-true (e == 45) f in
    record {
      taken = save.taken c d e cs ds es hc hd he;
      read = save.read c d e cs ds es hc hd he ∙ rw (hc, hd, he) refl;
    }

both_is : (set trace first last : Text) → is_name set ≡ true → is_name trace ≡ true → is_name first
    ≡ true → is_name last ≡ true
    → IsTaken (codes "run" ∷ set ∷ trace ∷ codes "--restore" ∷ first ∷ codes "--save" ∷ last ∷ [])
both_is [] trace first last s t f l = cc
both_is (c ∷ cs) [] first last s t f l = cc
both_is (c ∷ cs) (d ∷ ds) [] last s t f l = cc
both_is (c ∷ cs) (d ∷ ds) (e ∷ es) [] s t f l = cc
both_is (c ∷ cs) (d ∷ ds) (e ∷ es) (f' ∷ fs) s t f l =
    let hc : (c == 45) ≡ false = not-true (c == 45) s in
    let hd : (d == 45) ≡ false = not-true (d == 45) t in
    let he : (e == 45) ≡ false = not-true (e == 45) f in
    let hf : (f' == 45) ≡ false = not-true (f' == 45) l in
    record {
      taken = both.taken c d e f' cs ds es fs hc hd he hf;
      read = both.read c d e f' cs ds es fs hc hd he hf ∙ rw (hc, hd, he, hf) refl;
    }

check_is : (set : Text) → is_name set ≡ true → IsTaken (codes "check" ∷ set ∷ [])
check_is [] s = cc
check_is (c ∷ cs) s =
    let hc : (c == 45) ≡ false = not-true (c == 45) s in
    record { taken = check.taken c cs hc; read = check.read c cs hc ∙ rw hc refl }

make_is : (word : Text) → is_number word ≡ true → IsTaken (codes "make" ∷ word ∷ [])
make_is [] n = absurd (nothing n)
make_is (c ∷ cs) n =
    let hc : (c == 45) ≡ false = dashed c cs n in
    record { taken = make.taken c cs hc; read = make.read c cs hc }

import_is : (file set : Text) → is_name file ≡ true → is_name set ≡ true → IsTaken (codes "import" ∷ file ∷ set ∷ [])
import_is [] set s t = cc
import_is (c ∷ cs) [] s t = cc
import_is (c ∷ cs) (d ∷ ds) s t =
    let hc : (c == 45) ≡ false = not-true (c == 45) s in
    let hd : (d == 45) ≡ false = not-true (d == 45) t in
    record { taken = import_.taken c d cs ds hc hd; read = import_.read c d cs ds hc hd ∙ rw (hc, hd) refl }

lint_is : (set : Text) → is_name set ≡ true → IsTaken (codes "lint" ∷ set ∷ [])
lint_is [] s = cc
lint_is (c ∷ cs) s =
    let hc : (c == 45) ≡ false = not-true (c == 45) s in
    record { taken = lint.taken c cs hc; read = lint.read c cs hc ∙ rw hc refl }

normal_is : (set out : Text) → is_name set ≡ true → is_name out ≡ true → IsTaken (codes "normal" ∷ set ∷ out ∷ [])
normal_is [] out s t = cc
normal_is (c ∷ cs) [] s t = cc
normal_is (c ∷ cs) (d ∷ ds) s t =
    let hc : (c == 45) ≡ false = not-true (c == 45) s in
    let hd : (d == 45) ≡ false = not-true (d == 45) t in
    record { taken = normal.taken c d cs ds hc hd; read = normal.read c d cs ds hc hd ∙ rw (hc, hd) refl }

explain_is : (set trace word : Text) → is_name set ≡ true → is_name trace ≡ true → is_number word
    ≡ true → IsTaken (codes "explain" ∷ set ∷ trace ∷ word ∷ [])
explain_is [] trace word s t n = cc
explain_is (c ∷ cs) [] word s t n = cc
explain_is (c ∷ cs) (d ∷ ds) [] s t n = absurd (nothing n)
explain_is (c ∷ cs) (d ∷ ds) (e ∷ es) s t n =
    let hc : (c == 45) ≡ false = not-true (c == 45) s in
    let hd : (d == 45) ≡ false = not-true (d == 45) t in
    let he : (e == 45) ≡ false = dashed e es n in
    record {
      taken = explain.taken c d e cs ds es hc hd he;
      read = explain.read c d e cs ds es hc hd he ∙ rw (hc, hd) refl;
    }

-- one option with its file
one_option : (option file : Text) → is_some (options_of (option ∷ file ∷ [])) ≡ true
    → (is_name file ≡ true) × ((option ≡ codes "--restore") ⊎ (option ≡ codes "--save"))
one_option option file h = search
    (rules, bytes_eq-Decides option (codes "--restore"), bytes_eq-Decides option (codes "--save"))

-- both options with their files
both_options : (first restore second save : Text) → is_some (options_of (first ∷ restore ∷ second ∷ save ∷ [])) ≡ true
    → (first ≡ codes "--restore") × (is_name restore ≡ true) × (second ≡ codes "--save") × (is_name save ≡ true)
both_options first restore second save h = search
    (rules, bytes_eq-Decides first (codes "--restore"), bytes_eq-Decides second (codes "--save"))

run_options : (set trace : Text) (options : List Text) → is_name set ≡ true → is_name trace ≡ true
    → is_some (options_of options) ≡ true → IsTaken (codes "run" ∷ set ∷ trace ∷ options)
run_options set trace [] s t h = run_is set trace s t
run_options set trace (word ∷ []) s t h = cc
run_options set trace (word ∷ file ∷ []) s t h =
    let p = one_option word file h in
    elim p.1 [
      | inl e ↦ subst (λ (w : Text). IsTaken (codes "run" ∷ set ∷ trace ∷ w ∷ file ∷ [])) (sym e)
          (restore_is set trace file s t p.0)
      | inr e ↦ subst (λ (w : Text). IsTaken (codes "run" ∷ set ∷ trace ∷ w ∷ file ∷ [])) (sym e)
          (save_is set trace file s t p.0)
    ]
run_options set trace (first ∷ file ∷ second ∷ []) s t h = cc
run_options set trace (first ∷ file ∷ second ∷ last ∷ []) s t h =
    let p = both_options first file second last h in
    subst (λ (w : Text). IsTaken (codes "run" ∷ set ∷ trace ∷ w ∷ file ∷ second ∷ last ∷ [])) (sym p.0) (
    subst (λ (w : Text). IsTaken (codes "run" ∷ set ∷ trace ∷ codes "--restore" ∷ file ∷ w ∷ last
    ∷ [])) (sym p.2) (both_is set trace file last s t p.1 p.3))
run_options set trace (first ∷ file ∷ second ∷ last ∷ more ∷ words) s t h = cc

-- names and options of a run
run_parts : (set trace : Text) (options : List Text) → is_some (run_of (set ∷ trace ∷ options))
    ≡ true → (is_name set ≡ true) × (is_name trace ≡ true) × (is_some (options_of options) ≡ true)
run_parts set trace options h = search rules

run_words : (words : List Text) → is_some (run_of words) ≡ true → IsTaken (codes "run" ∷ words)
run_words [] h = cc
run_words (set ∷ []) h = cc
run_words (set ∷ trace ∷ options) h = let p = run_parts set trace options h in run_options set trace options p.0 p.1 p.2

check_words : (words : List Text) → is_some (check_of words) ≡ true → IsTaken (codes "check" ∷ words)
check_words [] h = cc
check_words (set ∷ []) h = check_is set (search rules)
check_words (set ∷ more ∷ words) h = cc

make_words : (words : List Text) → is_some (make_of words) ≡ true → IsTaken (codes "make" ∷ words)
make_words [] h = cc
make_words (word ∷ []) h = make_is word (search rules)
make_words (word ∷ more ∷ words) h = cc

-- two names behind `import`
two_names : (file set : Text) → is_some (import_of (file ∷ set ∷ [])) ≡ true → (is_name file ≡ true)
    × (is_name set ≡ true)
two_names file set h = search rules

import_words : (words : List Text) → is_some (import_of words) ≡ true → IsTaken (codes "import" ∷ words)
import_words [] h = cc
import_words (file ∷ []) h = cc
import_words (file ∷ set ∷ []) h = let p = two_names file set h in import_is file set p.0 p.1
import_words (file ∷ set ∷ more ∷ words) h = cc

lint_words : (words : List Text) → is_some (lint_of words) ≡ true → IsTaken (codes "lint" ∷ words)
lint_words [] h = cc
lint_words (set ∷ []) h = lint_is set (search rules)
lint_words (set ∷ more ∷ words) h = cc

-- two names behind `normal`
set_and_out : (set out : Text) → is_some (normal_of (set ∷ out ∷ [])) ≡ true → (is_name set ≡ true)
    × (is_name out ≡ true)
set_and_out set out h = search rules

normal_words : (words : List Text) → is_some (normal_of words) ≡ true → IsTaken (codes "normal" ∷ words)
normal_words [] h = cc
normal_words (set ∷ []) h = cc
normal_words (set ∷ out ∷ []) h = let p = set_and_out set out h in normal_is set out p.0 p.1
normal_words (set ∷ out ∷ more ∷ words) h = cc

-- two names and a number behind `explain`
names_and_id : (set trace word : Text) → is_some (explain_of (set ∷ trace ∷ word ∷ [])) ≡ true
    → (is_name set ≡ true) × (is_name trace ≡ true) × (is_number word ≡ true)
names_and_id set trace word h = search rules

explain_words : (words : List Text) → is_some (explain_of words) ≡ true → IsTaken (codes "explain" ∷ words)
explain_words [] h = cc
explain_words (set ∷ []) h = cc
explain_words (set ∷ trace ∷ []) h = cc
explain_words (set ∷ trace ∷ word ∷ []) h = let p = names_and_id set trace word h in
    explain_is set trace word p.0 p.1 p.2
explain_words (set ∷ trace ∷ word ∷ more ∷ words) h = cc

-- the words begin with this name, and those behind it are of this job
abbrev Begins : Text → (List Text → Option Job) → Text → List Text → Type 0
Begins name of word words = (word ≡ name) × (is_some (of words) ≡ true)

-- one name is compared: the words behind it are of its job, or else of the jobs behind it
choose : (name word : Text) (of : List Text → Option Job) (words : List Text) (others : Option Job)
    (b : Bool) → bytes_eq word name ≡ b
    → is_some (if b then of words else others) ≡ true → Begins name of word words ⊎ (is_some others ≡ true)
choose name word of words others true e h = inl (same word name e, h)
choose name word of words others false e h = inr h

-- clap takes words that begin with this name
begun : (name word : Text) (of : List Text → Option Job) (words : List Text)
    → ((more : List Text) → is_some (of more) ≡ true → IsTaken (name ∷ more))
    → Begins name of word words → IsTaken (word ∷ words)
begun name word of words taken r = subst (λ (w : Text). IsTaken (w ∷ words)) (sym r.0) (taken words r.1)

-- the words of a job, by their name: one name after the other
by_explain : (word : Text) (words : List Text) → is_some (if bytes_eq word (codes "explain")
    then explain_of words else None) ≡ true → IsTaken (word ∷ words)
by_explain word words h = elim
    (choose (codes "explain") word explain_of words None (bytes_eq word (codes "explain")) refl h) [
      | inl r ↦ begun (codes "explain") word explain_of words explain_words r
      | inr e ↦ cc
    ]

by_normal : (word : Text) (words : List Text)
    → is_some (if bytes_eq word (codes "normal") then normal_of words else if bytes_eq word
    (codes "explain") then explain_of words else None) ≡ true → IsTaken (word ∷ words)
by_normal word words h = elim (choose (codes "normal") word normal_of words _ (bytes_eq word (codes "normal")) refl h) [
  | inl r ↦ begun (codes "normal") word normal_of words normal_words r
  | inr e ↦ by_explain word words e
]

-- the job that words behind the name of an import ask for
abbrev last_job : Text → List Text → Option Job
last_job word words =
    if bytes_eq word (codes "lint") then lint_of words
    else if bytes_eq word (codes "normal") then normal_of words
    else if bytes_eq word (codes "explain") then explain_of words
    else None

by_lint : (word : Text) (words : List Text) → is_some (last_job word words) ≡ true → IsTaken (word ∷ words)
by_lint word words h = elim (choose (codes "lint") word lint_of words _ (bytes_eq word (codes "lint")) refl h) [
  | inl r ↦ begun (codes "lint") word lint_of words lint_words r
  | inr e ↦ by_normal word words e
]

-- the job that words behind these names ask for
abbrev later_job : Text → List Text → Option Job
later_job word words = if bytes_eq word (codes "import") then import_of words else last_job word words

by_import : (word : Text) (words : List Text) → is_some (later_job word words) ≡ true → IsTaken (word ∷ words)
by_import word words h = elim (choose (codes "import") word import_of words _ (bytes_eq word (codes "import")) refl h) [
  | inl r ↦ begun (codes "import") word import_of words import_words r
  | inr e ↦ by_lint word words e
]

by_make : (word : Text) (words : List Text)
    → is_some (if bytes_eq word (codes "make") then make_of words else later_job word words) ≡ true
    → IsTaken (word ∷ words)
by_make word words h = elim (choose (codes "make") word make_of words _ (bytes_eq word (codes "make")) refl h) [
  | inl r ↦ begun (codes "make") word make_of words make_words r
  | inr e ↦ by_import word words e
]

by_check : (word : Text) (words : List Text)
    → is_some (if bytes_eq word (codes "check") then check_of words
    else if bytes_eq word (codes "make") then make_of words else later_job word words) ≡ true
    → IsTaken (word ∷ words)
by_check word words h = elim (choose (codes "check") word check_of words _ (bytes_eq word (codes "check")) refl h) [
  | inl r ↦ begun (codes "check") word check_of words check_words r
  | inr e ↦ by_make word words e
]

-- the words of a job
pub job_taken : (words : List Text) → is_some (job_of words) ≡ true → IsTaken words
job_taken [] h = cc
job_taken (word ∷ words) h = elim (choose (codes "run") word run_of words _ (bytes_eq word (codes "run")) refl h) [
  | inl r ↦ begun (codes "run") word run_of words run_words r
  | inr e ↦ by_check word words e
]
