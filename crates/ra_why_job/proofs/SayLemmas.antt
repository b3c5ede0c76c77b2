-- What `why` says is one thing, and where its status is 0.
use Rattle.std.proofs.Common.{◌≡◌, ◌↔◌, ◌⊎◌, inl, inr, ◌+◌, ◌==◌, ◌||◌, ℕ, length, take, Bool, true, false, Option}
use Rattle.std.proofs.Common.{None, Some, IfSome, Result, Ok, Err, IfOk, is_some, List, [], ◌∷◌, refl, sym, ap, subst}
use Rattle.std.proofs.Common.{◌∙◌, arith}
use Rattle.std.proofs.lemmas.Bool.{cases_lt, eqb-true}
use Rattle.std.proofs.lemmas.List.{length-take-le, take_all}
use Rattle.std.proofs.lemmas.Option.{none-some}
use Rattle.ra_condition.specs.Contents.{TriggerContents}
use Rattle.ra_memory.specs.Image.{History}
use Rattle.ra_set.specs.Accepted.{IsSet}
use Rattle.ra_set.specs.Contents.{SetContents}
use Rattle.ra_set.specs.Limits.{most_bytes}
use Rattle.ra_set.specs.Refusals.{Refuses}
use Rattle.ra_set.specs.declared.refused.SetRefused.{SetRefused}
use Rattle.ra_set.proofs.AnswerLemmas.{one-refusal, set-not_refused, same-set}
use Rattle.ra_trace.specs.Cutting.{RefusedAt, PastLimit, Stop}
use Rattle.ra_trace.specs.declared.error.Why.{Why}
use Rattle.ra_why.specs.Text.{why_text}
use Rattle.ra_jobs.specs.Outside.{AreTold}
use Rattle.ra_jobs.specs.declared.reading.ReadFailed.{ReadFailed}
use Rattle.ra_why_job.specs.Choosing.{IsFound}
use Rattle.ra_why_job.specs.Watching.{IsReply}
use Rattle.ra_why_job.specs.declared.reply.Reply.{Reply}
use Rattle.ra_goals.specs.Choosing.{trigger_of}
use Rattle.ra_why_job.specs.Says.{IsWatched, TraceSays, WhySays, accounts, decided_by, history_in, is_own, is_traced}
use Rattle.ra_why_job.specs.Says.{lacks, lacks_line, passes_limit, refused_line, refuses_set, refuses_trace, set_line}
use Rattle.ra_why_job.specs.Says.{tells, trace_in}

some_same : {A : Type 0} (x y : A) → Some x ≡ Some y → x ≡ y
some_same x y same = cc

-- a set is read whole
pub read_whole_set : (file : List ℕ) (s : SetContents) → IsSet file s → IsSet (take (most_bytes + 1) file) s
read_whole_set file s is = subst (λ f. IsSet f s)
    (sym (take_all (most_bytes + 1) file (let size = is.size in omega (arith, size)))) is

-- and what is read of a file and is a set is all of it
pub set_of_read : (file : List ℕ) (s : SetContents) → IsSet (take (most_bytes + 1) file) s → IsSet file s
set_of_read file s is = elim (cases_lt most_bytes (length file)) [
  | inl long ↦ absurd (let size = is.size in let count =
      length-take-le (most_bytes + 1) file (omega (arith, long)) in omega (arith, size, count))
  | inr fits ↦ subst (λ f. IsSet f s) (take_all (most_bytes + 1) file (omega (arith, fits))) is
]

pub never_refused : (file : List ℕ) (s : SetContents) (why : SetRefused) → IsSet file s
    → Refuses (take (most_bytes + 1) file) why → ⊥
never_refused file s why is refuses =
    set-not_refused (take (most_bytes + 1) file) s why (read_whole_set file s is) refuses

-- ---- one thing is said

-- a status and a text are these
abbrev pub Same : (status status' : ℕ) (text text' : List ℕ) → Type 0
Same status status' text text' = (status ≡ status') × (text ≡ text')

module _ (id : ℕ) (t : TriggerContents) (bytes : List ℕ) where
  reached : (history : History) → history_in t bytes ≡ Some history → history_in t bytes ≡ None → ⊥
  reached history some none = none-some history (sym none ∙ some)

  stopped : (at : ℕ) (why : Why) → (trace_in bytes).stop ≡ RefusedAt at why → (trace_in bytes).stop ≡ PastLimit → ⊥
  stopped at why refused long = let bad : ◌≡◌ {A = Stop} (RefusedAt at why) PastLimit = sym refused ∙ long in cc bad

  same_line : (at at' : ℕ) (why why' : Why) → ◌≡◌ {A = Stop} (RefusedAt at why) (RefusedAt at' why')
      → refused_line at why ≡ refused_line at' why'
  same_line at at' why why' same = let place : at ≡ at' = cc in let word : why ≡ why' = cc in
      (λ i. refused_line (place i) (word i))

  pub one_trace : (status status' : ℕ) (text text' : List ℕ) → TraceSays id t bytes status text
      → TraceSays id t bytes status' text' → Same status status' text text'
  one_trace status status' text text' (accounts history is) (accounts history' is') =
      (refl, ap (why_text id t (trace_in bytes).size) (some_same history history' (sym is ∙ is')))
  one_trace status status' text text' (accounts history is) (refuses_trace at why none stop) =
      absurd (reached history is none)
  one_trace status status' text text' (accounts history is) (passes_limit none stop) = absurd (reached history is none)
  one_trace status status' text text' (refuses_trace at why none stop) (accounts history is) =
      absurd (reached history is none)
  one_trace status status' text text' (refuses_trace at why none stop)
      (refuses_trace at' why' none' stop') = (refl, same_line at at' why why' (sym stop ∙ stop'))
  one_trace status status' text text' (refuses_trace at why none stop) (passes_limit none' stop') =
      absurd (stopped at why stop stop')
  one_trace status status' text text' (passes_limit none stop) (accounts history is) = absurd (reached history is none)
  one_trace status status' text text' (passes_limit none stop) (refuses_trace at why none' stop') =
      absurd (stopped at why stop' stop)
  one_trace status status' text text' (passes_limit none stop) (passes_limit none' stop') = (refl, refl)

  -- the statuses of a trace
  pub traced : (status : ℕ) (text : List ℕ) → TraceSays id t bytes status text → is_traced status ≡ true
  traced status text (accounts history is) = refl
  traced status text (refuses_trace at why none stop) = refl
  traced status text (passes_limit none stop) = refl

-- what is said by a set file whose bytes are these
module _ (content : List ℕ → Option (List ℕ)) (set trace : List ℕ) (id : ℕ) (file : List ℕ)
    (is_told : content set ≡ Some file) where
  abbrev Says : (status : ℕ) → (text : List ℕ) → Type 0
  Says status text = WhySays content set trace id status text

  same_file : (other : List ℕ) → content set ≡ Some other → other ≡ file
  same_file other is = some_same other file (sym is ∙ is_told)

  -- where it is refused
  pub one_refused : (why : SetRefused) (status : ℕ) (text : List ℕ) → Refuses
      (take (most_bytes + 1) file) why → Says status text → Same 3 status (set_line why) text
  one_refused why status text refuses (refuses_set other why' is refuses') = (
    refl,
    ap set_line (one-refusal (take (most_bytes + 1) file) why why' refuses
        (subst (λ f. Refuses (take (most_bytes + 1) f) why') (same_file other is) refuses')),
  )
  one_refused why status text refuses (lacks other s is a none) =
      absurd (never_refused file s why (subst (λ f. IsSet f s) (same_file other is) a) refuses)
  one_refused why status text refuses (tells other bytes s t status' text' is told a some says) =
      absurd (never_refused file s why (subst (λ f. IsSet f s) (same_file other is) a) refuses)

  module _ (s : SetContents) (a : IsSet file s) where
    trigger_there : (other : List ℕ) (s' : SetContents) → content set ≡ Some other → IsSet other s'
        → trigger_of id s'.items ≡ trigger_of id s.items
    trigger_there other s' is a' = ap (λ (k : SetContents). trigger_of id k.items)
        (same-set file s' s (subst (λ f. IsSet f s') (same_file other is) a') a)

    refused_never : (other : List ℕ) (why : SetRefused) → content set ≡ Some other
        → Refuses (take (most_bytes + 1) other) why → ⊥
    refused_never other why is refuses = never_refused file s why a
        (subst (λ f. Refuses (take (most_bytes + 1) f) why) (same_file other is) refuses)

    -- where it has no achievement of the id
    pub one_lacking : (status : ℕ) (text : List ℕ) → trigger_of id s.items ≡ None → Says status text
        → Same 12 status (lacks_line id) text
    one_lacking status text none (refuses_set other why is refuses) = absurd (refused_never other why is refuses)
    one_lacking status text none (lacks other s' is a' none') = (refl, refl)
    one_lacking status text none (tells other bytes s' t status' text' is told a' some says) =
        absurd (none-some t (sym none ∙ sym (trigger_there other s' is a') ∙ some))

    -- where it has one
    pub one_told : (t : TriggerContents) (mine : ℕ) (line : List ℕ) → trigger_of id s.items ≡ Some t
        → ((bytes : List ℕ) → content trace ≡ Some bytes → TraceSays id t bytes mine line)
        → (status : ℕ) (text : List ℕ) → Says status text → Same mine status line text
    one_told t mine line some says status text (refuses_set other why is refuses) =
        absurd (refused_never other why is refuses)
    one_told t mine line some says status text (lacks other s' is a' none) =
        absurd (none-some t (sym none ∙ trigger_there other s' is a' ∙ some))
    one_told t mine line some says status text (tells other bytes s' t' status' text' is told a' some' says') =
        let same : t' ≡ t = some_same t' t (sym some' ∙ trigger_there other s' is a' ∙ some) in
        one_trace id t bytes mine status line text (says bytes told)
        (subst (λ k. TraceSays id k bytes status text) same says')

-- of told files `why` says one thing
pub one_why : (content : List ℕ → Option (List ℕ)) (set trace : List ℕ) (id status status' : ℕ)
    (text text' : List ℕ) → WhySays content set trace id status text
    → WhySays content set trace id status' text' → Same status status' text text'
one_why content set trace id status status' text text' (refuses_set file why told refuses) other =
    one_refused content set trace id file told why status' text' refuses other
one_why content set trace id status status' text text' (lacks file s told is none) other =
    one_lacking content set trace id file told s is status' text' none other
one_why content set trace id status status' text text' (tells file bytes s t mine line told there is some says) other =
    one_told content set trace id file told s is t status text some
    (λ more is_more. subst (λ b. TraceSays id t b status text)
    (some_same bytes more (sym there ∙ is_more)) says) status' text' other

-- the files that decide a status of a trace are both
pub both_decide : (set trace : List ℕ) (status : ℕ) → is_traced status ≡ true
    → decided_by set trace status ≡ set ∷ trace ∷ []
both_decide set trace status is = elim (either (status == 0) _ is) [
  | inl e ↦ ap (decided_by set trace) (eqb-true status 0 e)
  | inr more ↦ elim (either (status == 7) _ more) [
    | inl e ↦ ap (decided_by set trace) (eqb-true status 7 e)
    | inr e ↦ ap (decided_by set trace) (eqb-true status 8 e)
  ]
]
  where
    either : (a b : Bool) → (a || b) ≡ true → (a ≡ true) ⊎ (b ≡ true)
    either true b is = inl refl
    either false b is = inr is

-- ---- what is said of the bytes that were read of a set

file_of : (o : Option (List ℕ)) → is_some o ≡ true → (file : List ℕ) × (o ≡ Some file)
file_of (Some file) is = (file, refl)
file_of None is = absurd (cc is)

told : {T : Type 0} (o : Option T) (P : T → Type 0) (x : T) → o ≡ Some x → IfSome o P → P x
told {T} o P x is h = subst (λ (o : Option T). IfSome o P) is h

module _ (content : List ℕ → Option (List ℕ)) (set trace : List ℕ) (id : ℕ) where
  -- a status and a text are what `why` says, where the files that decide the status are told, and it says nothing else
  abbrev pub Decides : (status : ℕ) → (text : List ℕ) → Type 0
  Decides status text =
      (AreTold content (decided_by set trace status) → WhySays content set trace id status text)
      × ((s : ℕ) (t : List ℕ) → WhySays content set trace id s t → Same status s text t)

  -- so are those of a reply
  pub reply_decides : (r : Reply) (status : ℕ) (text : List ℕ) → IsReply status text r
      → Decides status text → Decides r.status r.text.items
  reply_decides r status text is decides =
      subst (λ n. Decides n r.text.items) (sym is.0) (subst (Decides status) (sym is.1) decides)

  set_told : (status : ℕ) (text : List ℕ) → WhySays content set trace id status text
      → (file : List ℕ) × (content set ≡ Some file)
  set_told status text (refuses_set file why is refuses) = (file, is)
  set_told status text (lacks file s is a none) = (file, is)
  set_told status text (tells file bytes s t status' text' is more a some says) = (file, is)

  module _ (bytes : List ℕ) (read : IfSome (content set) (λ all. bytes ≡ take (most_bytes + 1) all)) where
    bytes_of : (file : List ℕ) → content set ≡ Some file → bytes ≡ take (most_bytes + 1) file
    bytes_of file is = told (content set) (λ all. bytes ≡ take (most_bytes + 1) all) file is read

    set_there : (file : List ℕ) (s : SetContents) → content set ≡ Some file → IsSet bytes s → IsSet file s
    set_there file s is a = set_of_read file s (subst (λ b. IsSet b s) (bytes_of file is) a)

    pub refused_decides : (why : SetRefused) → Refuses bytes why → Decides 3 (set_line why)
    refused_decides why refuses = (
      λ names. let file = file_of (content set) names.0 in refuses_set file.0 why file.1 (there file.0 file.1),
      λ s t says. let file = set_told s t says in
          one_refused content set trace id file.0 file.1 why s t (there file.0 file.1) says,
    )
      where
        there : (file : List ℕ) → content set ≡ Some file → Refuses (take (most_bytes + 1) file) why
        there file is = subst (λ b. Refuses b why) (bytes_of file is) refuses

    pub lacking_decides : (s : SetContents) → IsSet bytes s → trigger_of id s.items ≡ None → Decides 12 (lacks_line id)
    lacking_decides s a none = (
      λ names. let file = file_of (content set) names.0 in lacks file.0 s file.1 (set_there file.0 s file.1 a) none,
      λ n t says. let file = set_told n t says in one_lacking content set trace id file.0 file.1 s
          (set_there file.0 s file.1 a) n t none says,
    )

    pub found_decides : (t : TriggerContents) (status : ℕ) (text : List ℕ) → IsFound bytes id t
        → is_traced status ≡ true
        → ((more : List ℕ) → content trace ≡ Some more → TraceSays id t more status text) → Decides status text
    found_decides t status text found own says = (
      λ names.
          let both = subst (AreTold content) (both_decide set trace status own) names in
          let file = file_of (content set) both.0 in
          let more = file_of (content trace) both.1.0 in
          tells file.0 more.0 found.set t status text file.1 more.1
          (set_there file.0 found.set file.1 found.is_set) found.found (says more.0 more.1),
      λ n line other. let file = set_told n line other in
          one_told content set trace id file.0 file.1 found.set (set_there file.0 found.set file.1
          found.is_set) t status text found.found says n line other,
    )

    -- the same of a reply about the trace of the files that were read from
    pub found_replies : (t : TriggerContents) (now : Option (List ℕ)) → now ≡ content trace
        → IsFound bytes id t → (r : Result Reply ReadFailed)
        → IfOk r (λ r. (more : List ℕ) → now ≡ Some more → TraceSays id t more r.status
        r.text.items) → IfOk r (λ r. is_traced r.status ≡ true)
        → IfOk r (λ r. Decides r.status r.text.items)
    found_replies t now same found (Ok r) says own =
        found_decides t r.status r.text.items found own (λ more told. says more (same ∙ told))
    found_replies t now same found (Err e) says own = tt

-- ---- where the status is 0

module _ (content : List ℕ → Option (List ℕ)) (set trace file bytes : List ℕ) (id : ℕ)
    (is_file : content set ≡ Some file) (is_trace : content trace ≡ Some bytes) where
  zero_trace : (s : SetContents) (t : TriggerContents) (status : ℕ) (text : List ℕ) → IsSet file s
      → trigger_of id s.items ≡ Some t → TraceSays id t bytes status text → status ≡ 0
      → IsWatched file bytes id
  zero_trace s t status text a some (accounts history is) zero =
      record { set = s; is_set = a; trigger = t; found = some; history = history; reached = is }
  zero_trace s t status text a some (refuses_trace at why none stop) zero = absurd (cc zero)
  zero_trace s t status text a some (passes_limit none stop) zero = absurd (cc zero)

  watched : (status : ℕ) (text : List ℕ) → WhySays content set trace id status text → status ≡ 0
      → IsWatched file bytes id
  watched status text (refuses_set other why is refuses) zero = absurd (cc zero)
  watched status text (lacks other s is a none) zero = absurd (cc zero)
  watched status text (tells other more s t status' text' is told a some says) zero =
      zero_trace s t status text (subst (λ f. IsSet f s) (some_same other file (sym is ∙ is_file)) a) some
      (subst (λ b. TraceSays id t b status text) (some_same more bytes (sym told ∙ is_trace)) says) zero

  pub zero_watched : (status : ℕ) (text : List ℕ) → WhySays content set trace id status text
      → (status ≡ 0) ↔ IsWatched file bytes id
  zero_watched status text says = (
    watched status text says,
    λ is.
        let account : TraceSays id is.trigger bytes 0 (why_text id is.trigger
        (trace_in bytes).size is.history) = accounts is.history is.reached in
        sym (one_told content set trace id file is_file is.set is.is_set is.trigger 0
        (why_text id is.trigger (trace_in bytes).size is.history) is.found
        (λ other told. subst (λ b. TraceSays id is.trigger b 0 (why_text id is.trigger
        (trace_in bytes).size is.history)) (some_same bytes other (sym is_trace ∙ told)) account)
        status text says).0,
  )
