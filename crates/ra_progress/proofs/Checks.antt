-- Accepted bytes are those that no check refuses.
use Rattle.std.proofs.Common.{◌≡◌, ℕ, ◌==◌, not, Bool, true, false, if◌then◌else◌, nat_lt, Option, None, Some, List, []}
use Rattle.std.proofs.Common.{◌∷◌, length, take, bytes_eq, Result, Ok, Err, IsOk, MatchResult, ◌↔◌, refl, sym, ◌∙◌}
use Rattle.std.specs.List.{AllByRecursion}
use Rattle.std.proofs.lemmas.Bool.{ltb-false, le-ltb, eq-eqb, eqb-true}
use Rattle.std.proofs.lemmas.Slice.Eq.{bytes_eq-Decides}
use Rattle.md5.specs.Md5.{md5}
use Rattle.ra_progress.specs.declared.refused.ProgressRefused.{ProgressRefused}
use Rattle.ra_progress.specs.Contents.{ShapeContents, Own, own_entries}
use Rattle.ra_progress.specs.Layout.{Entry, version_in, sum_in, summed_in, entries_in}
use Rattle.ra_progress.specs.Spelling.{mark}
use Rattle.ra_progress.specs.Reading.{most_bytes, fewest_bytes, is_version, wanted_length, is_related, by_places}
use Rattle.ra_progress.specs.Reading.{or_later, bad_entry, bad_entries, Block, bad_state, bad_states, blocks_in}
use Rattle.ra_progress.specs.Reading.{refusal, IsAccepted}

-- a check that passes, and then the later ones
passes : {A : Type 0} (b : Bool) (why : A) (rest : Option A) → (if b then Some why else rest) ≡ None
    → (b ≡ false) × (rest ≡ None)
passes true why rest none = absurd (cc none)
passes false why rest none = (refl, none)

passed : {A : Type 0} (b : Bool) (why : A) (rest : Option A) → b ≡ false → rest ≡ None
    → (if b then Some why else rest) ≡ None
passed b why rest holds none = rw (holds, none) refl

pub holds : (b : Bool) → not b ≡ false → b ≡ true
holds true not_it = refl
holds false not_it = absurd (cc not_it)

not_holds : (b : Bool) → b ≡ true → not b ≡ false
not_holds b it = rw it refl

-- of two refusals neither is there
pub neither_is : (a b : Option ProgressRefused) → or_later a b ≡ None → (a ≡ None) × (b ≡ None)
neither_is None b none = (refl, none)
neither_is (Some why) b none = absurd (cc none)

pub none_is : (a b : Option ProgressRefused) → a ≡ None → b ≡ None → or_later a b ≡ None
none_is a b one two = rw (one, two) refl

-- no entry is refused exactly where each is good
all_entries : (owns : List Own) (entries : List Entry) → bad_entries owns entries ≡ None
    → AllByRecursion (λ entry. bad_entry owns entry ≡ None) entries
all_entries owns [] none = tt
all_entries owns (entry ∷ entries) none =
    let both = neither_is (bad_entry owns entry) (bad_entries owns entries) none in
    (both.0, all_entries owns entries both.1)

no_entry : (owns : List Own) (entries : List Entry) → AllByRecursion (λ entry. bad_entry owns entry
    ≡ None) entries → bad_entries owns entries ≡ None
no_entry owns [] all = refl
no_entry owns (entry ∷ entries) all =
    none_is (bad_entry owns entry) (bad_entries owns entries) all.0 (no_entry owns entries all.1)

-- and no block
all_blocks : (bytes : List ℕ) (blocks : List Block) → bad_states bytes blocks ≡ None
    → AllByRecursion (λ block. bad_state bytes block ≡ None) blocks
all_blocks bytes [] none = tt
all_blocks bytes (block ∷ blocks) none =
    let both = neither_is (bad_state bytes block) (bad_states bytes blocks) none in
    (both.0, all_blocks bytes blocks both.1)

no_block : (bytes : List ℕ) (blocks : List Block)
    → AllByRecursion (λ block. bad_state bytes block ≡ None) blocks → bad_states bytes blocks ≡ None
no_block bytes [] all = refl
no_block bytes (block ∷ blocks) all =
    none_is (bad_state bytes block) (bad_states bytes blocks) all.0 (no_block bytes blocks all.1)

-- what is looked at by names alone
unless : (b : Bool) (bad : Option ProgressRefused) → (if b then None else bad) ≡ None → b ≡ false → bad ≡ None
unless true bad none not_it = absurd (cc not_it)
unless false bad none not_it = none

but : (b : Bool) (bad : Option ProgressRefused) → (b ≡ false → bad ≡ None) → (if b then None else bad) ≡ None
but true bad none = refl
but false bad none = none refl

pub none_accepted : (shape : ShapeContents) (bytes : List ℕ) → refusal shape bytes ≡ None → IsAccepted shape bytes
none_accepted shape bytes none =
    let a = passes (nat_lt most_bytes (length bytes)) _ _ none in
    let b = passes (nat_lt (length bytes) fewest_bytes) _ _ a.1 in
    let c = passes (not (bytes_eq (take 4 bytes) mark)) _ _ b.1 in
    let d = passes (not (is_version (version_in bytes))) _ _ c.1 in
    let e = passes (not (length bytes == wanted_length shape bytes)) _ _ d.1 in
    let f = passes (not (bytes_eq (sum_in bytes) (md5 (summed_in bytes)))) _ _ e.1 in
    let g = passes (not (is_related shape bytes)) _ _ f.1 in
    let h = neither_is (if by_places shape bytes then None else bad_entries (own_entries shape)
    (entries_in bytes)) (bad_states bytes (blocks_in shape bytes)) g.1 in
    record {
      whole = record {
        fewest = ltb-false (length bytes) fewest_bytes b.0;
        most = ltb-false most_bytes (length bytes) a.0;
        marked = (bytes_eq-Decides (take 4 bytes) mark).0 (holds _ c.0);
        version = holds _ d.0;
        as_long = eqb-true (length bytes) (wanted_length shape bytes) (holds _ e.0);
      };
      sum = (bytes_eq-Decides (sum_in bytes) (md5 (summed_in bytes))).0 (holds _ f.0);
      related = holds _ g.0;
      entries = λ by_names. all_entries (own_entries shape) (entries_in bytes)
          (unless (by_places shape bytes) _ h.0 by_names);
      states = all_blocks bytes (blocks_in shape bytes) h.1;
    }

pub accepted_none : (shape : ShapeContents) (bytes : List ℕ) → IsAccepted shape bytes → refusal shape bytes ≡ None
accepted_none shape bytes ok =
    passed (nat_lt most_bytes (length bytes)) _ _ (le-ltb most_bytes (length bytes) ok.whole.most)
    (passed (nat_lt (length bytes) fewest_bytes) _ _ (le-ltb (length bytes) fewest_bytes ok.whole.fewest)
    (passed (not (bytes_eq (take 4 bytes) mark)) _ _
    (not_holds _ ((bytes_eq-Decides (take 4 bytes) mark).1 ok.whole.marked))
    (passed (not (is_version (version_in bytes))) _ _ (not_holds _ ok.whole.version)
    (passed (not (length bytes == wanted_length shape bytes)) _ _
    (not_holds _ (eq-eqb (length bytes) (wanted_length shape bytes) ok.whole.as_long))
    (passed (not (bytes_eq (sum_in bytes) (md5 (summed_in bytes)))) _ _
    (not_holds _ ((bytes_eq-Decides (sum_in bytes) (md5 (summed_in bytes))).1 ok.sum))
    (passed (not (is_related shape bytes)) _ _ (not_holds _ ok.related)
    (none_is _ _ (but (by_places shape bytes) _
    (λ by_names. no_entry (own_entries shape) (entries_in bytes) (ok.entries by_names)))
    (no_block bytes (blocks_in shape bytes) ok.states))))))))

-- an answer that tells the refusal tells acceptance
pub is_ok-by : (shape : ShapeContents) (bytes : List ℕ) (r : Result (Unit {0}) ProgressRefused)
    → MatchResult r (λ _. refusal shape bytes ≡ None) (λ why. refusal shape bytes ≡ Some why)
    → IsOk r ↔ IsAccepted shape bytes
is_ok-by shape bytes (Ok u) told = (λ _. none_accepted shape bytes told, λ _. refl)
is_ok-by shape bytes (Err why) told =
    (λ h. cc, λ ok. let e : None ≡ Some why = sym (accepted_none shape bytes ok) ∙ told in cc)
