-- A review refuses nothing and tells no limit exactly where the file is a set.
use Rattle.std.proofs.Common.{◌≡◌, ◌∙◌, inl, inr, ℕ, zero, suc, ◌≤◌, List, [], ◌∷◌, ◌++◌, length, map, Option, None}
use Rattle.std.proofs.Common.{Some, option_map, refl, sym, ap, subst}
use Rattle.std.specs.List.{IsDistinct}
use Rattle.std.proofs.lemmas.Bool.{cases_lt}
use Rattle.std.proofs.lemmas.List.{nil_from_length}
use Rattle.md5.specs.Md5.{md5}
use Rattle.ra_richpresence.specs.Cut.{lines_of}
use Rattle.ra_richpresence.specs.Grammar.{ScriptParts, script, script_of, script_parts}
use Rattle.ra_richpresence.proofs.Fronts.{lines-whole}
use Rattle.ra_richpresence.proofs.ScriptForms.{parts-once, script-of_parts}
use Rattle.ra_set.specs.Accepted.{repeats, IsSet}
use Rattle.ra_set.specs.Contents.{ItemContents, SetContents}
use Rattle.ra_set.specs.Grammar.{Line, FileContents, items_of, set_file}
use Rattle.ra_set.specs.Limits.{most_bytes, KeepsLimits}
use Rattle.ra_set.specs.Reading.{Tail, Ends, Letter, Opens}
use Rattle.ra_set.specs.Texts.{item_texts, script_text}
use Rattle.ra_set.specs.declared.refused.SetRefused.{SetRefused}
use Rattle.ra_set.proofs.FileReaders.{Front}
use Rattle.ra_set.proofs.FrontLemmas.{TailIn, file-of_lines, file-of_script, front-head, front-lines, front-of_file}
use Rattle.ra_set.proofs.LimitLemmas.{keeps-not_passes, keeps-within, within-keeps}
use Rattle.ra_set.proofs.ScriptLines.{no-empty_script}
use Rattle.ra_review.specs.Lines.{front_lines, script_lines}
use Rattle.ra_review.specs.Reviews.{IsLimit, IsReview, IsReviewOf, Said}
use Rattle.ra_review.specs.Scripts.{ScriptVerdict, Missing, Whole, BadAt, IsScriptVerdict, script_refusals, parts_in}
use Rattle.ra_review.proofs.AcceptedFiles.{accepted_lines, empty_behind, empty_front, front_gives, script_in, told}

-- ---- from a review to a set

-- the set of a file by what it contains
set_of : (file : List ℕ) (contents : FileContents) → length file ≤ most_bytes → set_file file contents
    → IsDistinct repeats (items_of contents.lines) → KeepsLimits (items_of contents.lines) contents.script
    → (set : SetContents) × IsSet file set
set_of file contents size spelled distinct keeps = (
  set,
  record {
    size = size;
    spelled = record { contents = contents; spelled = spelled; items = refl; script = refl };
    ids = distinct;
    limits = keeps-within set contents.script refl keeps;
    digest = refl;
    item_names = refl;
    script_name = refl;
  },
) where
  set : SetContents
  set = record {
    items = items_of contents.lines;
    script = option_map script_of contents.script;
    digest = md5 file;
    item_names = map md5 (item_texts file);
    script_name = option_map md5 (script_text file);
  }

-- what a file contains whose lines are accepted, by the verdict on its script
contents_by : (file : List ℕ) (number : ℕ) (ended : List Line) (tail : Tail) (v : ScriptVerdict)
    → Front ended tail file → IsScriptVerdict (script_in tail) v → script_refusals number (script_in tail) v ≡ []
    → (contents : FileContents) × set_file file contents × (contents.lines ≡ told ended tail)
    × (contents.script ≡ parts_in v)
contents_by file number ended (Ends last) Missing h judged none = (
  record { lines = ended ++ last ∷ []; script = None },
  file-of_lines file (ended ++ last ∷ []) (front-lines file ended last h),
  refl,
  refl,
)
contents_by file number ended (Ends last) (Whole parts) h judged none = absurd judged
contents_by file number ended (Ends last) (BadAt index place) h judged none = absurd judged
contents_by file number ended Letter Missing h judged none = absurd judged
contents_by file number ended Letter (Whole parts) h judged none = absurd (no-empty_script parts judged)
contents_by file number ended Letter (BadAt index place) h judged none = absurd (cc none)
contents_by file number ended (Opens behind) Missing h judged none = absurd judged
contents_by file number ended (Opens behind) (Whole parts) h judged none = (
  record { lines = ended; script = Some parts },
  file-of_script file behind ended parts (front-head file behind ended h)
      (subst (λ t. script_parts t parts) (lines-whole behind) judged),
  refl,
  refl,
)
contents_by file number ended (Opens behind) (BadAt index place) h judged none = absurd (cc none)

none_distinct : IsDistinct repeats []
unfolding IsDistinct
none_distinct = tt

-- nothing is refused and no limit is told
set_from_review : (file : List ℕ) (said : Said) → length file ≤ most_bytes → IsReviewOf file said
    → said.refused ≡ 0 → said.limit ≡ None → (set : SetContents) × IsSet file set
set_from_review file said size r refused limit =
    let number = suc (length (front_lines (lines_of file))) in
    let script = script_lines (lines_of file) in
    let all : r.front.refusals ++ script_refusals number script r.verdict ≡ [] = sym r.all_refusals
    ∙ nil_from_length r.refusals (sym r.refused ∙ refused) in
    let a = accepted_lines (lines_of file) file refl 1 [] r.front none_distinct r.found
    (empty_front r.front.refusals (script_refusals number script r.verdict) all) in
    let c = contents_by file number a.ended a.tail r.verdict a.front
    (subst (λ s. IsScriptVerdict s r.verdict) a.behind r.judged)
    (ap (λ s. script_refusals number s r.verdict) (sym a.behind)
    ∙ empty_behind r.front.refusals (script_refusals number script r.verdict) all) in
    let items : r.front.items ≡ items_of c.0.lines = a.items ∙ ap items_of (sym c.2) in
    let keeps : KeepsLimits r.front.items (parts_in r.verdict) =
    subst (IsLimit 0 r.front.items (parts_in r.verdict)) limit
    (subst (λ n. IsLimit n r.front.items (parts_in r.verdict) said.limit) refused r.limit) in
    set_of file c.0 size c.1
    (subst (λ lines. IsDistinct repeats (items_of lines)) (sym c.2) a.distinct)
    (subst (λ i. KeepsLimits i c.0.script) items (subst (KeepsLimits r.front.items) (sym c.3) keeps))

-- ---- from a set to its review

-- the script of a set file is judged as it is
script_judged : (number : ℕ) (contents : FileContents) (ended : List Line) (tail : Tail) (v : ScriptVerdict)
    → TailIn contents tail ended → IsScriptVerdict (script_in tail) v
    → (script_refusals number (script_in tail) v ≡ []) × (contents.script ≡ parts_in v)
script_judged number contents ended (Ends last) Missing tells judged = (refl, tells.1)
script_judged number contents ended (Ends last) (Whole parts) tells judged = absurd judged
script_judged number contents ended (Ends last) (BadAt index place) tells judged = absurd judged
script_judged number contents ended Letter v tells judged = absurd tells
script_judged number contents ended (Opens behind) Missing tells judged = absurd judged
script_judged number contents ended (Opens behind) (Whole parts) tells judged = (
  refl,
  tells.3 ∙ ap (λ p. Some p) (parts-once behind tells.1 parts tells.2
      (subst (λ t. script_parts t parts) (lines-whole behind) judged)),
)
script_judged number contents ended (Opens behind) (BadAt index place) tells judged =
    absurd (judged.outside.outside (script_of tells.1) (subst (λ t. script t (script_of tells.1))
    (sym (lines-whole behind)) (script-of_parts behind tells.1 tells.2)))

-- a set file does not end with the letter of a line "P"
not_letter : (contents : FileContents) (ended : List Line) (tail : Tail) → TailIn contents tail ended
    → tail ≡ Letter → ⊥
not_letter contents ended tail tells is = subst (λ t. TailIn contents t ended) is tells

lines_told : (contents : FileContents) (ended : List Line) (tail : Tail) → TailIn contents tail ended
    → contents.lines ≡ told ended tail
lines_told contents ended (Ends last) tells = tells.0
lines_told contents ended Letter tells = absurd tells
lines_told contents ended (Opens behind) tells = tells.0

-- no limit is told where all are kept
no_limit : (refused : ℕ) (items : List ItemContents) (parts : Option ScriptParts) (limit : Option SetRefused)
    → refused ≡ 0 → KeepsLimits items parts → IsLimit refused items parts limit → limit ≡ None
no_limit (suc n) items parts limit none keeps h = absurd (cc none)
no_limit zero items parts None none keeps h = refl
no_limit zero items parts (Some why) none keeps h = absurd (keeps-not_passes items parts why keeps h)

review_from_set : (file : List ℕ) (said : Said) (set : SetContents) → IsReviewOf file said → IsSet file set
    → (said.refused ≡ 0) × (said.limit ≡ None)
review_from_set file said set r s =
    let number = suc (length (front_lines (lines_of file))) in
    let c = s.spelled.contents in
    let f = front-of_file file c s.spelled.spelled in
    let lines : c.lines ≡ told f.ended f.tail = lines_told c f.ended f.tail f.tells in
    let items : set.items ≡ items_of (told f.ended f.tail) = s.spelled.items ∙ ap items_of lines in
    let g = front_gives 1 [] f.ended f.tail file f.spelled (not_letter c f.ended f.tail f.tells)
    (subst (IsDistinct repeats) items s.ids) in
    let p = g.passes r.front r.found in
    let j = script_judged number c f.ended f.tail r.verdict f.tells
    (subst (λ x. IsScriptVerdict x r.verdict) g.behind r.judged) in
    let none : r.refusals ≡ [] = r.all_refusals
    ∙ ap (λ x. x ++ script_refusals number (script_lines (lines_of file)) r.verdict) p.refusals
    ∙ ap (λ x. script_refusals number x r.verdict) g.behind ∙ j.0 in
    let refused : said.refused ≡ 0 = r.refused ∙ ap length none in
    let keeps : KeepsLimits set.items c.script = within-keeps set c.script s.spelled.script s.limits in
    let same : KeepsLimits r.front.items (parts_in r.verdict) = subst (KeepsLimits r.front.items)
    j.1 (subst (λ i. KeepsLimits i c.script) (items ∙ sym p.items) keeps) in
    (refused, no_limit said.refused r.front.items (parts_in r.verdict) said.limit refused same r.limit)

-- ---- both ways

pub reviewed_set : (file : List ℕ) (said : Said) → IsReview file said → (said.refused ≡ 0) × (said.limit ≡ None)
    → (set : SetContents) × IsSet file set
reviewed_set file said h none = elim (cases_lt most_bytes (length file)) [
  | inl long ↦ absurd (let some = sym (h.long long).limit ∙ none.1 in cc some)
  | inr fits ↦ set_from_review file said fits (h.fits fits) none.0 none.1
]

pub set_reviewed : (file : List ℕ) (said : Said) → IsReview file said → (set : SetContents) × IsSet file set
    → (said.refused ≡ 0) × (said.limit ≡ None)
set_reviewed file said h set = review_from_set file said set.0 (h.fits set.1.size) set.1
