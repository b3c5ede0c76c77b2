-- A file has one review.
use Rattle.std.proofs.Common.{◌≡◌, ◌∙◌, inl, inr, ℕ, zero, suc, ◌<◌, ◌≤◌, List, [], ◌∷◌, ◌++◌, length, take, Bool, true}
use Rattle.std.proofs.Common.{false, Option, Some, None, option_to_list, slice_index_or, refl, sym, ap, subst}
use Rattle.std.proofs.Common.{append_assoc, arith}
use Rattle.std.specs.List.{flat_map}
use Rattle.std.proofs.lemmas.Bool.{cases_lt}
use Rattle.ra_richpresence.specs.Cut.{contents_of, left_of, lines_of}
use Rattle.ra_richpresence.specs.Grammar.{ScriptParts, script_of}
use Rattle.ra_richpresence.specs.Places.{IsFirstBad, IsFront}
use Rattle.ra_richpresence.proofs.ScriptForms.{parts-once}
use Rattle.ra_review.specs.Lines.{front_lines, script_lines, Verdict, Accepts, Refuses, IsVerdict, Findings, FindsIn}
use Rattle.ra_review.specs.Lines.{line_findings, row_of, then_more}
use Rattle.ra_review.specs.Reviews.{IsLimit, IsReview, IsReviewOf, Said, SaysTooLong, limit_text}
use Rattle.ra_review.specs.Scripts.{IsBadLine, IsPlaceIn, IsScriptVerdict, ScriptVerdict, Missing, Whole, BadAt}
use Rattle.ra_review.specs.Scripts.{display_line, is_open, parts_in, script_notices, script_refusals}
use Rattle.ra_review.specs.Shown.{last_line}
use Rattle.ra_set.specs.Alone.{ContainsAlone}
use Rattle.ra_set.specs.Contents.{ItemContents}
use Rattle.ra_set.specs.Grammar.{Line, items_of}
use Rattle.ra_set.specs.Limits.{most_bytes}
use Rattle.ra_set.specs.declared.refused.SetRefused.{SetRefused}
use Rattle.ra_set.proofs.FileLemmas.{file-once}
use Rattle.ra_set.proofs.LimitLemmas.{keeps-not_passes, passes-once}
use Rattle.ra_set.proofs.PlaceLemmas.{one-bad_place, one-file_place}

-- ---- lines

same_line : (l m : Line) → option_to_list l ≡ option_to_list m → l ≡ m
same_line None None e = refl
same_line None (Some y) e = absurd (cc e)
same_line (Some x) None e = absurd (cc e)
same_line (Some x) (Some y) e = cc e

-- a line alone contains one item, or none
one_alone : (line : List ℕ) (l m : Line) → ContainsAlone line l → ContainsAlone line m → l ≡ m
one_alone line l m a b = same_line l m (sym a.items
    ∙ ap (λ c. items_of c.lines) (file-once line _ _ a.spelled b.spelled) ∙ b.items)

apart : (b : Bool) → b ≡ true → b ≡ false → ⊥
apart b one other = let bad : true ≡ false = sym one ∙ other in cc bad

one_verdict : (line : List ℕ) (v w : Verdict) → IsVerdict line v → IsVerdict line w → v ≡ w
one_verdict line (Accepts l) (Accepts m) (inl x) (inl y) = ap (λ i. Accepts i) (x.1 ∙ sym y.1)
one_verdict line (Accepts l) (Accepts m) (inl x) (inr y) = absurd (apart _ x.0 y.0)
one_verdict line (Accepts l) (Accepts m) (inr x) (inl y) = absurd (apart _ y.0 x.0)
one_verdict line (Accepts l) (Accepts m) (inr x) (inr y) = ap (λ i. Accepts i) (one_alone line l m x.1 y.1)
one_verdict line (Accepts l) (Refuses q) (inl x) y = absurd (apart _ x.0 y.0)
one_verdict line (Accepts l) (Refuses q) (inr x) y = absurd (y.1.outside _ x.1.spelled)
one_verdict line (Refuses p) (Accepts m) x (inl y) = absurd (apart _ y.0 x.0)
one_verdict line (Refuses p) (Accepts m) x (inr y) = absurd (x.1.outside _ y.1.spelled)
one_verdict line (Refuses p) (Refuses q) x y = ap (λ n. Refuses n) (one-file_place line p q x.1 y.1)

one_found : (number : ℕ) (rows : List Line) (lines : List (List ℕ)) (f g : Findings)
    → FindsIn number rows lines f → FindsIn number rows lines g → f ≡ g
one_found number rows [] f g a b = a ∙ sym b
one_found number rows (line ∷ lines) f g (v, is, others, more, same) (w, is', others', more', same') =
    let one = one_verdict line v w is is' in
    let rest : others ≡ others' = one_found (suc number)
    (rows ++ row_of v ∷ []) lines others others' more (subst (λ (x : Verdict). FindsIn (suc number)
    (rows ++ row_of x ∷ []) lines others') (sym one) more') in
    same ∙ ap (λ (x : Verdict). then_more (line_findings number rows line x) others) one
    ∙ ap (λ x. then_more (line_findings number rows line w) x) rest ∙ sym same'

-- ---- the script

-- a longer front of a list goes on with a shorter one
take_along : {X : Type 0} (xs : List X) (n m : ℕ) → n ≤ m → (w : List X) × (take m xs ≡ take n xs ++ w)
take_along xs zero m le = (take m xs, refl)
take_along xs (suc n) zero le = absurd (omega arith)
take_along [] (suc n) (suc m) le = ([], refl)
take_along (x ∷ xs) (suc n) (suc m) le = let w = take_along xs n m (omega arith) in (w.0, ap (λ t. x ∷ t) w.1)

front_before : (lines : List (List ℕ)) (n m : ℕ) → n ≤ m → IsFront (take m lines) → IsFront (take n lines)
front_before lines n m le h = let w = take_along lines n m le in
    record {
      text = h.text;
      v = h.v;
      whole = h.whole;
      more = w.0 ++ h.more;
      begins = h.begins ∙ ap (λ t. t ++ h.more) w.1 ∙ append_assoc (take n lines) w.0 h.more;
    }

not_before : (text : List ℕ) (n m : ℕ) → (a : IsFirstBad text n) (b : IsFirstBad text m) → a.index < b.index → ⊥
not_before text n m a b less = a.bad (let w = b.within in
    omega arith) (front_before (contents_of text) (suc a.index) b.index (omega arith) b.good)

-- a script has one first bad line
one_index : (text : List ℕ) (n m : ℕ) → (a : IsFirstBad text n) (b : IsFirstBad text m) → a.index ≡ b.index
one_index text n m a b = elim (cases_lt a.index b.index) [
  | inl less ↦ absurd (not_before text n m a b less)
  | inr ge ↦ elim (cases_lt b.index a.index) [ inl less ↦ absurd (not_before text m n b a less) | inr le ↦ omega arith ]
]

one_place_in : (shows : Bool) (line : List ℕ) (p q : ℕ) → IsPlaceIn shows line p → IsPlaceIn shows line q → p ≡ q
one_place_in true line p q a b = one-bad_place display_line (left_of line) p q a b
one_place_in false line p q a b = a ∙ sym b

one_bad_line : (text : List ℕ) (i p j q : ℕ) → IsBadLine text i p → IsBadLine text j q → BadAt i p ≡ BadAt j q
one_bad_line text i p j q a b =
    let same : i ≡ j = a.line ∙ one_index text a.start b.start a.outside.first_bad b.outside.first_bad ∙ sym b.line in
    let there = subst (λ n. IsPlaceIn (is_open (take n (contents_of text)))
    (slice_index_or (contents_of text) n []) p) same a.place_in in
    ap (λ n. BadAt n p) same ∙ ap (λ n. BadAt j n) (one_place_in _ _ p q there b.place_in)

one_script : (lines : Option (List (List ℕ))) (v w : ScriptVerdict) → IsScriptVerdict lines v
    → IsScriptVerdict lines w → v ≡ w
one_script None Missing Missing a b = refl
one_script None Missing (Whole p) a b = absurd b
one_script None Missing (BadAt j q) a b = absurd b
one_script None (Whole p) w a b = absurd a
one_script None (BadAt i p) w a b = absurd a
one_script (Some lines) Missing w a b = absurd a
one_script (Some lines) (Whole p) Missing a b = absurd b
one_script (Some lines) (Whole p) (Whole q) a b = ap (λ x. Whole x) (parts-once (flat_map (λ line. line) lines) p q a b)
one_script (Some lines) (Whole p) (BadAt j q) a b =
    absurd (b.outside.outside (script_of p) (record { parts = p; spelled = a; made = refl }))
one_script (Some lines) (BadAt i p) Missing a b = absurd b
one_script (Some lines) (BadAt i p) (Whole q) a b =
    absurd (a.outside.outside (script_of q) (record { parts = q; spelled = b; made = refl }))
one_script (Some lines) (BadAt i p) (BadAt j q) a b = one_bad_line (flat_map (λ line. line) lines) i p j q a b

one_limit : (refused : ℕ) (items : List ItemContents) (script : Option ScriptParts) (x y : Option
    SetRefused) → IsLimit refused items script x → IsLimit refused items script y → x ≡ y
one_limit (suc n) items script x y a b = a ∙ sym b
one_limit zero items script None None a b = refl
one_limit zero items script None (Some y) a b = absurd (keeps-not_passes items script y a b)
one_limit zero items script (Some x) None a b = absurd (keeps-not_passes items script x b a)
one_limit zero items script (Some x) (Some y) a b = ap (λ why. Some why) (passes-once items script x y a b)

-- ---- the file

same_said : (s t : Said) → s.text ≡ t.text → s.refused ≡ t.refused → s.limit ≡ t.limit → s ≡ t
same_said s t a b c = fields s.text t.text s.refused t.refused s.limit t.limit a b c where
  fields : (x y : List ℕ) (n m : ℕ) (k l : Option SetRefused) → x ≡ y → n ≡ m → k ≡ l
      → ◌≡◌ {A = Said} (record { text = x; refused = n; limit = k })
      (record { text = y; refused = m; limit = l })
  fields x y n m k l p q r = ap (λ z. record { text = z; refused = n; limit = k }) p
      ∙ ap (λ z. record { text = y; refused = z; limit = k }) q
      ∙ ap (λ z. record { text = y; refused = m; limit = z }) r

one_review_of : (file : List ℕ) (s t : Said) → IsReviewOf file s → IsReviewOf file t → s ≡ t
one_review_of file s t a b =
    let number = suc (length (front_lines (lines_of file))) in
    let front : a.front ≡ b.front = one_found 1 [] (front_lines (lines_of file)) a.front b.front a.found b.found in
    let verdict : a.verdict ≡ b.verdict =
    one_script (script_lines (lines_of file)) a.verdict b.verdict a.judged b.judged in
    let refusals : a.refusals ≡ b.refusals =
    a.all_refusals ∙ ap (λ (f : Findings). f.refusals
    ++ script_refusals number (script_lines (lines_of file)) a.verdict) front
    ∙ ap (λ v. b.front.refusals ++ script_refusals number (script_lines (lines_of file)) v) verdict
    ∙ sym b.all_refusals in
    let notices : a.notices ≡ b.notices =
    a.all_notices ∙ ap (λ (f : Findings). f.notices
    ++ script_notices number (script_lines (lines_of file)) a.verdict) front
    ∙ ap (λ v. b.front.notices ++ script_notices number (script_lines (lines_of file)) v) verdict ∙ sym b.all_notices in
    let refused : s.refused ≡ t.refused = a.refused ∙ ap length refusals ∙ sym b.refused in
    let there = subst (λ n. IsLimit n a.front.items (parts_in a.verdict) s.limit) refused a.limit in
    let there' = subst (λ (f : Findings). IsLimit t.refused f.items (parts_in a.verdict) s.limit) front there in
    let limit : s.limit ≡ t.limit = one_limit t.refused b.front.items (parts_in b.verdict) s.limit t.limit
    (subst (λ (v : ScriptVerdict). IsLimit t.refused b.front.items (parts_in v) s.limit) verdict there') b.limit in
    let count = length (lines_of file) in
    let text : s.text ≡ t.text =
    a.text ∙ ap (λ r. flat_map (λ line. line) r ++ flat_map (λ line. line) a.notices
    ++ limit_text s.limit ++ last_line count (length r) (length a.notices)) refusals
    ∙ ap (λ n. flat_map (λ line. line) b.refusals ++ flat_map (λ line. line) n ++ limit_text s.limit
    ++ last_line count (length b.refusals) (length n)) notices
    ∙ ap (λ l. flat_map (λ line. line) b.refusals ++ flat_map (λ line. line) b.notices
    ++ limit_text l ++ last_line count (length b.refusals) (length b.notices)) limit
    ∙ sym b.text in
    same_said s t text refused limit

one_too_long : (bytes : ℕ) (s t : Said) → SaysTooLong bytes s → SaysTooLong bytes t → s ≡ t
one_too_long bytes s t a b = same_said s t (a.text ∙ sym b.text) (a.refused ∙ sym b.refused) (a.limit ∙ sym b.limit)

-- a file has one review
pub one_review : (file : List ℕ) (s t : Said) → IsReview file s → IsReview file t → s ≡ t
one_review file s t a b = elim (cases_lt most_bytes (length file)) [
  | inl long ↦ one_too_long (length file) s t (a.long long) (b.long long)
  | inr fits ↦ one_review_of file s t (a.fits fits) (b.fits fits)
]
