-- What a reader knows of its next record.
use Rattle.std.proofs.Common.{◌≡◌, ◌⊎◌, inl, inr, ℕ, zero, suc, ◌+◌, ◌-◌, ◌<◌, ◌≤◌, nat_lt, nat_le, ◌==◌, le-leb, min}
use Rattle.std.proofs.Common.{Bool, true, false, replicate, ap, sym, subst, refl, ◌∙◌, arith, if◌then◌else◌, Option}
use Rattle.std.proofs.Common.{None, Some, is_some, IfSome, List, [], ◌++◌, append-nil, length, take, drop}
use Rattle.std.proofs.Math.Seq.{take-add}
use Rattle.std.proofs.lemmas.Bool.Decides.{nat_tests}
use Rattle.std.proofs.lemmas.List.{length-take, length-take-le, length-drop, length-append, drop-append-le}
use Rattle.std.proofs.lemmas.List.{take-append-le, drop-take, drop-drop, nil_from_length}
use Rattle.ra_trace.specs.declared.error.Why.{Why}
use Rattle.ra_trace.specs.declared.error.Why.TheVariants.{Header, Kind, Cut, PastMemory, Slot, EmptySlot}
use Rattle.ra_trace.specs.declared.error.TraceError.TheVariants as errors
use Rattle.ra_trace.specs.declared.head.Head.{Head}
use Rattle.ra_trace.specs.Heads.{head_length, head_of}
use Rattle.ra_trace.specs.Entries.{entry_bytes}
use Rattle.ra_trace.specs.Cutting.{RefusedAt, header_size, refusal, front, stop_within}
use Rattle.ra_trace.specs.Window.{ReadsBehind}
use Rattle.ra_trace.specs.Reading.{ReaderSeen, SameReader, IsInside, IsWhole, Found, Holds, Knows, ReadsOn, IsStop}
use Rattle.ra_trace.specs.Reading.{ByFault, opened, unanswered, passed, refused_as, seen_from, header_stop, next_stop}
use Rattle.ra_trace.proofs.HeadLemmas.{entry_length}
use Rattle.ra_trace.proofs.Longer.{refusal_stays, front_stays}
use Rattle.ra_trace.proofs.Lying.{front_lies}

-- what may be seen of a file from a place on goes on behind what was taken of it
seen_on : (limit taken next : ℕ) (bytes : List ℕ) → taken ≤ limit → taken ≤ length bytes
    → next ≤ taken → seen_from limit next bytes
    ≡ drop next (take taken bytes) ++ take (limit - taken) (drop taken bytes)
seen_on limit taken next bytes within short behind =
    let whole : taken + (limit - taken) ≡ limit = omega (arith, within) in
    let long : length (take taken bytes) ≡ taken = length-take-le taken bytes short in
    subst (λ k. drop next (take k bytes)
    ≡ drop next (take taken bytes) ++ take (limit - taken) (drop taken bytes)) whole
    (rw (take-add taken (limit - taken) bytes) (drop-append-le next (take taken bytes)
    (take (limit - taken) (drop taken bytes)) (omega (arith, behind, long))))

-- bytes of the file that end at a place: from the next record on they are what the file has between
held_end : (held bytes : List ℕ) (taken next : ℕ) → length held ≤ taken → next ≤ taken → taken ≤ next + length held
    → held ≡ take (length held) (drop (taken - length held) bytes)
    → drop (length held - (taken - next)) held ≡ drop next (take taken bytes)
held_end held bytes taken next fewer behind there same =
    let before = taken - length held in
    let left = length held - (taken - next) in
    let whole : before + length held ≡ taken = omega (arith, fewer) in
    let place : before + left ≡ next = omega (arith, fewer, behind, there) in
    let front : held ≡ drop before (take taken bytes)
    = same ∙ sym (drop-take before (length held) bytes) ∙ ap (λ k. drop before (take k bytes)) whole in
    ap (drop left) front ∙ drop-drop left before (take taken bytes) ∙ ap (λ k. drop k (take taken bytes)) place

-- what may be seen from the next record on is what was not answered yet, and what was not taken yet
pub seen_is : (r : ReaderSeen) (bytes : List ℕ) → IsInside (length r.held) r.limit r.taken r.next → Holds r bytes
    → seen_from r.limit r.next bytes ≡ unanswered r ++ take (r.limit - r.taken) (drop r.taken bytes)
seen_is r bytes inside holds =
    seen_on r.limit r.taken r.next bytes inside.within holds.within inside.behind
    ∙ ap (λ front. front ++ take (r.limit - r.taken) (drop r.taken bytes))
    (sym (held_end r.held bytes r.taken r.next inside.fewer inside.behind inside.there holds.held))

-- where all that may be seen was taken, there is nothing behind
nothing_behind : (limit taken : ℕ) (bytes : List ℕ) → taken ≡ min limit (length bytes)
    → take (limit - taken) (drop taken bytes) ≡ []
nothing_behind limit taken bytes all =
    nil_from_length (take (limit - taken) (drop taken bytes))
    (omega (arith, all, length-take (limit - taken) (drop taken bytes), length-drop taken bytes))

pub seen_all : (r : ReaderSeen) (bytes : List ℕ) → IsInside (length r.held) r.limit r.taken r.next
    → Holds r bytes → r.taken ≡ min r.limit (length bytes)
    → seen_from r.limit r.next bytes ≡ unanswered r
seen_all r bytes inside holds all =
    seen_is r bytes inside holds ∙ ap (λ more. unanswered r ++ more)
    (nothing_behind r.limit r.taken bytes all) ∙ append-nil (unanswered r)

-- no byte came, or some did
some_or_none : (n : ℕ) → (n ≡ 0) ⊎ (0 < n)
some_or_none zero = inl refl
some_or_none (suc n) = inr (omega arith)

-- a record is cut, or it is not
cut_or_not : (why : Option Why) → (why ≡ Some Cut) ⊎ (why ≡ Some Cut → ⊥)
cut_or_not None = inr (λ cut. let bad : ◌≡◌ {A = Option Why} None (Some Cut) = cut in absurd (cc))
cut_or_not (Some Cut) = inl refl
cut_or_not (Some Header) = inr (λ cut. let bad : Some Header ≡ Some Cut = cut in absurd (cc))
cut_or_not (Some Kind) = inr (λ cut. let bad : Some Kind ≡ Some Cut = cut in absurd (cc))
cut_or_not (Some PastMemory) = inr (λ cut. let bad : Some PastMemory ≡ Some Cut = cut in absurd (cc))
cut_or_not (Some Slot) = inr (λ cut. let bad : Some Slot ≡ Some Cut = cut in absurd (cc))
cut_or_not (Some EmptySlot) = inr (λ cut. let bad : Some EmptySlot ≡ Some Cut = cut in absurd (cc))

-- the reader read on behind what it had not answered yet
pub holds_on : (content : Option (List ℕ)) (most n : ℕ) (old : ReaderSeen) (held bytes : List ℕ)
    → IsInside (length old.held) old.limit old.taken old.next
    → content ≡ Some bytes → Holds old bytes → ReadsBehind content old.taken most n (unanswered old) held
    → Holds (record old { taken = old.taken + n; held = held }) bytes
holds_on content most n old held bytes inside told holds read =
    let left = old.taken - old.next in
    let short : length (unanswered old) ≡ left =
    omega (arith, length-drop (length old.held - left) old.held, inside.behind, inside.there) in
    let long : length held ≡ left + n = omega (arith, read.long, short) in
    let start : (old.taken + n) - (left + n) ≡ old.next = omega (arith, inside.behind) in
    let whole : old.next + left ≡ old.taken = omega (arith, inside.behind) in
    let first : unanswered old ≡ take left (drop old.next bytes)
    = held_end old.held bytes old.taken old.next inside.fewer inside.behind inside.there holds.held
    ∙ ap (λ k. drop old.next (take k bytes)) (sym whole) ∙ drop-take old.next left bytes in
    let rest : drop left (drop old.next bytes) ≡ drop old.taken bytes =
    drop-drop left old.next bytes ∙ ap (λ k. drop k bytes) whole in
    let there : old.taken + n ≤ length bytes = elim (some_or_none n) [
      | inl none ↦ omega (arith, none, holds.within)
      | inr some ↦ read.there bytes told some
    ] in
    record {
      within = there;
      behind = omega (arith, long, inside.behind);
      held = read.bytes bytes told ∙ ap (λ front. front ++ take n (drop old.taken bytes)) first
          ∙ ap (λ more. take left (drop old.next bytes) ++ take n more) (sym rest)
          ∙ sym (take-add left n (drop old.next bytes))
          ∙ rw (long, start) refl;
    }

-- a reader that took no byte more took all that may be seen
pub took_all : (content : Option (List ℕ)) (most n limit : ℕ) (held next bytes : List ℕ) (taken : ℕ)
    → content ≡ Some bytes → taken ≤ length bytes → taken < limit → most ≡ limit - taken
    → length held < 65542 → ReadsBehind content taken most n held next → n ≡ 0 → taken + n ≡ min limit (length bytes)
took_all content most n limit held next bytes taken told within below is_most short read none =
    omega (arith, none, within, below, read.ends bytes told none (omega (arith, is_most, below)) (omega (arith, short)))

-- no byte came where not some did
none_read : (n : ℕ) → nat_lt 0 n ≡ false → n ≡ 0
none_read n none = grind (arith, nat_tests, none)

-- a reader that read on behind what it had not answered yet, up to its limit
pub reads_on : (content : Option (List ℕ)) (n : ℕ) (old : ReaderSeen) (held : List ℕ)
    → IsInside (length old.held) old.limit old.taken old.next
    → old.taken < old.limit → length (unanswered old) < 65542
    → ReadsBehind content old.taken (old.limit - old.taken) n (unanswered old) held
    → ReadsOn content (nat_lt 0 n) old (record old { taken = old.taken + n; held = held })
reads_on content n old held inside below short read =
    let left = old.taken - old.next in
    let few : length (unanswered old) ≡ left =
    omega (arith, length-drop (length old.held - left) old.held, inside.behind, inside.there) in
    record {
      same = record { name = refl; limit = refl };
      sized = refl;
      last = refl;
      next = refl;
      inside = record {
        most = inside.most;
        within = omega (arith, read.fewer, below);
        fewer = omega (arith, read.long, few, inside.behind);
        behind = omega (arith, inside.behind);
        there = omega (arith, read.long, few, inside.behind);
      };
      later = omega arith;
      on = λ more. grind (arith, nat_tests, more);
      holds = λ bytes told holds. holds_on content (old.limit - old.taken) n old held bytes inside told holds read;
      end = λ bytes told holds none. took_all content (old.limit - old.taken) n old.limit
          (unanswered old) held bytes old.taken told holds.within below refl short read
          (none_read n none);
    }

-- the measure of a reader that reads on: what it may still take, and whether bytes came
pub falls : (limit taken limit' taken' : ℕ) (more : Bool) → limit' ≡ limit → taken' ≤ limit'
    → taken ≤ taken' → (more ≡ true → taken < taken')
    → (limit' - taken') + (if more then 1 else 0) < (limit - taken) + 1
falls limit taken limit' taken' true same within later on = omega (arith, same, within, on refl)
falls limit taken limit' taken' false same within later on = omega (arith, same, within, later)

-- a reader that looks on until a record is whole or no bytes come knows its next record
pub knows_by : (content : Option (List ℕ)) (size : ℕ) (more : Bool) (why : Option Why)
    (old new : ReaderSeen) → IsInside (length new.held) new.limit new.taken new.next
    → SameReader old new → new.size ≡ old.size → new.last ≡ old.last → new.next ≡ old.next
    → why ≡ refusal size (replicate 16 true) (unanswered new)
    → ((bytes : List ℕ) → content ≡ Some bytes → Holds old bytes → Holds new bytes)
    → ((bytes : List ℕ) → content ≡ Some bytes → Holds old bytes → more ≡ false → new.taken
    ≡ min new.limit (length bytes))
    → (why ≡ Some Cut → more ≡ false)
    → Knows content size why old new
knows_by content size more why old new inside same sized last next here holds end stopped =
    let full = replicate 16 true in
    let seen : (bytes : List ℕ) → seen_from old.limit old.next bytes ≡ seen_from new.limit new.next bytes
    = λ bytes. rw (same.limit, next) refl in
    let all : (bytes : List ℕ) → content ≡ Some bytes → Holds old bytes → why ≡ Some Cut
    → seen_from old.limit old.next bytes ≡ unanswered new
    = λ bytes told held cut. seen bytes
    ∙ seen_all new bytes inside (holds bytes told held) (end bytes told held (stopped cut)) in
    let some : (bytes : List ℕ) → content ≡ Some bytes → Holds old bytes → seen_from old.limit
    old.next bytes ≡ unanswered new ++ take (new.limit - new.taken) (drop new.taken bytes)
    = λ bytes told held. seen bytes ∙ seen_is new bytes inside (holds bytes told held) in
    record {
      same = same;
      sized = sized;
      last = last;
      next = next;
      here = here;
      holds = holds;
      told = λ bytes told held. elim (cut_or_not why) [
        | inl cut ↦ ap (refusal size full) (all bytes told held cut) ∙ sym here
        | inr whole ↦ ap (refusal size full) (some bytes told held)
            ∙ refusal_stays size full (unanswered new) (take (new.limit - new.taken)
            (drop new.taken bytes)) (λ cut. whole (here ∙ cut)) ∙ sym here
      ];
      entry = λ bytes told held good. sym (ap front (some bytes told held) ∙ front_stays size full
          (unanswered new) (take (new.limit - new.taken) (drop new.taken bytes)) (sym here ∙ good));
      cut = λ bytes told held cut. end bytes told held (stopped cut) ∙ rw same.limit refl;
    }

-- a reader that has read nothing holds nothing else
pub holds_opened : (reader : ReaderSeen) (bytes : List ℕ) → reader ≡ opened reader.name reader.limit
    → Holds reader bytes
holds_opened reader bytes is = rw is (record { within = omega arith; behind = omega arith; held = refl })

-- a cut record is past the limit where that was taken, and all that may be seen was taken
cut_stop : (limit taken long next at : ℕ) (b : Bool) → (taken == limit) ≡ b → taken ≡ min limit long → at ≡ next
    → IsStop (if b then errors.TooLong else errors.Refused at Cut)
    (Some (stop_within (nat_le limit long) (RefusedAt next Cut)))
cut_stop limit taken long next at true is all same =
    let reached : limit ≤ long = grind (arith, nat_tests, is, all) in
    rw (le-leb limit long reached) refl
cut_stop limit taken long next at false is all same =
    let past : nat_le limit long ≡ false = grind (arith, nat_tests, is, all) in
    rw (past, same) refl

-- what a reader answers for a reason is the stop of that reason
stop_by : (reader : ReaderSeen) (why : Why) (limit long next : ℕ) → reader.limit ≡ limit
    → reader.next ≡ next → (why ≡ Cut → reader.taken ≡ min limit long)
    → IsStop (refused_as reader why) (Some (stop_within (nat_le limit long) (RefusedAt next why)))
stop_by reader Cut limit long next bound place cut =
    cut_stop limit reader.taken long next reader.next (reader.taken == reader.limit)
    (ap (λ k. reader.taken == k) (sym bound)) (cut refl) place
stop_by reader Header limit long next bound place cut = ap (λ at. Some (RefusedAt at Header)) (sym place)
stop_by reader Kind limit long next bound place cut = ap (λ at. Some (RefusedAt at Kind)) (sym place)
stop_by reader PastMemory limit long next bound place cut = ap (λ at. Some (RefusedAt at PastMemory)) (sym place)
stop_by reader Slot limit long next bound place cut = ap (λ at. Some (RefusedAt at Slot)) (sym place)
stop_by reader EmptySlot limit long next bound place cut = ap (λ at. Some (RefusedAt at EmptySlot)) (sym place)

-- what a reader answers that knows why no record stands next is where the file stops
pub stops_by : (content : Option (List ℕ)) (size known : ℕ) (why : Why) (old new : ReaderSeen) (bytes : List ℕ)
    → Knows content size (Some why) old new → content ≡ Some bytes → Holds old bytes → size ≡ known
    → IsStop (refused_as new why) (next_stop old.limit known old.next bytes)
stops_by content size known why old new bytes knows told holds is_size =
    let seen : refusal known (replicate 16 true) (seen_from old.limit old.next bytes) ≡ Some why
    = ap (λ n. refusal n (replicate 16 true) (seen_from old.limit old.next bytes)) (sym is_size)
    ∙ knows.told bytes told holds in
    rw seen (stop_by new why old.limit (length bytes) old.next knows.same.limit knows.next
    (λ cut. knows.cut bytes told holds (ap Some cut)))

-- the record that stands next, where nothing is refused
pub found_by : (content : Option (List ℕ)) (size : ℕ) (why : Option Why) (old : ReaderSeen)
    (new : ReaderSeen) (at count : ℕ)
    → Knows content size why old new → why ≡ None → ((known : ℕ) → old.size ≡ Some known → size ≡ known)
    → drop at new.held ≡ unanswered new → count ≡ length (entry_bytes (front (drop at new.held)))
    → new.next + count ≤ new.limit
    → Found content at old (record new { last = new.next; next = new.next + count })
found_by content size why old new at count knows none is_size place long within =
    let seen = drop at new.held in
    let good : refusal size (replicate 16 true) seen ≡ None =
    ap (refusal size (replicate 16 true)) place ∙ sym knows.here ∙ none in
    record {
      whole = record { size = size; good = good };
      moved = record {
        same = record { name = knows.same.name; limit = knows.same.limit };
        sized = knows.sized;
        last = knows.next;
        next = ap (λ k. k + count) knows.next ∙ ap (λ k. old.next + k) long;
        within = within;
      };
      lies = λ known is_known. front_lies known (replicate 16 true) seen
          (ap (λ n. refusal n (replicate 16 true) seen) (sym (is_size known is_known)) ∙ good);
      holds = λ bytes told holds.
          let now = knows.holds bytes told holds in
          record { within = now.within; behind = now.behind; held = now.held };
      stands = λ bytes known told holds is_known.
          let clear : refusal size (replicate 16 true) (seen_from old.limit old.next bytes) ≡ None =
          knows.told bytes told holds ∙ none in
          record {
            good = rw (sym (is_size known is_known), clear) refl;
            is = ap front place ∙ knows.entry bytes told holds none;
          };
    }

-- a reader that holds a whole record knows it
pub knows_here : (content : Option (List ℕ)) (size : ℕ) (why : Option Why) (old : ReaderSeen)
    → IsInside (length old.held) old.limit old.taken old.next
    → why ≡ refusal size (replicate 16 true) (unanswered old) → why ≡ None → Knows content size why old old
knows_here content size why old inside here none =
    knows_by content size true why old old inside
    (record { name = refl; limit = refl }) refl refl refl here (λ bytes told holds. holds)
    (λ bytes told holds stopped. let bad : true ≡ false = stopped in absurd (cc))
    (λ cut. let bad : ◌≡◌ {A = Option Why} None (Some Cut) = sym none ∙ cut in absurd (cc))

-- a reader that knows its next record is past it once it has passed its head's length
pub found_past : (content : Option (List ℕ)) (size : ℕ) (why : Option Why) (head : Head)
    (old looked new : ReaderSeen) (at count : ℕ)
    → Knows content size why old looked → why ≡ None → ((known : ℕ) → old.size ≡ Some known → size ≡ known)
    → head ≡ head_of (front (unanswered looked)) → drop at looked.held ≡ unanswered looked → count
    ≡ head_length head → new ≡ passed count looked → new.next ≤ new.limit
    → Found content at old new
found_past content size why head old looked new at count knows none is_size is_head place is_count past within =
    let long : count ≡ length (entry_bytes (front (drop at looked.held)))
    = is_count ∙ ap head_length (is_head ∙ ap (λ xs. head_of (front xs)) (sym place))
    ∙ entry_length (front (drop at looked.held)) in
    subst (Found content at old) (sym past) (found_by content size why old looked at count knows
    none is_size place long (subst (λ r. r.next ≤ r.limit) past within))

pub if_some : {T : Type 0} (o : Option T) (P : T → Type 0) → ((x : T) → o ≡ Some x → P x) → IfSome o P
if_some None P h = tt
if_some (Some x) P h = h x refl

-- a header stands in the first nine bytes
header_stays : (held more : List ℕ) → 9 ≤ length held → header_size (held ++ more) ≡ header_size held
header_stays held more long =
    let rest : drop 5 (held ++ more) ≡ drop 5 held ++ more = drop-append-le 5 held more (omega (arith, long)) in
    let behind : take 4 (drop 5 held ++ more) ≡ take 4 (drop 5 held) =
    take-append-le 4 (drop 5 held) more (omega (arith, long, length-drop 5 held)) in
    let longer : 9 ≤ length (held ++ more) = omega (arith, long, length-append held more) in
    rw (
      take-append-le 5 held more (omega (arith, long)),
      rest,
      behind,
      le-leb 9 (length (held ++ more)) longer,
      le-leb 9 (length held) long,
    ) refl

-- the header of what may be seen of a file is that of what a reader holds, once it is long enough or all
pub header_seen : (r : ReaderSeen) (bytes : List ℕ) → IsInside (length r.held) r.limit r.taken 0 → Holds r bytes
    → (9 ≤ length r.held) ⊎ (r.taken ≡ min r.limit (length bytes))
    → header_size (take r.limit bytes) ≡ header_size r.held
header_seen r bytes inside holds whole =
    let long : r.taken ≡ length r.held = omega (arith, inside.fewer, inside.there) in
    let start : length r.held - (r.taken - 0) ≡ 0 = omega (arith, long) in
    let first : take r.taken bytes ≡ r.held = sym (held_end r.held bytes r.taken 0 inside.fewer
    (omega arith) inside.there holds.held) ∙ rw start refl in
    let seen : take r.limit bytes ≡ r.held ++ take (r.limit - r.taken) (drop r.taken bytes)
    = seen_on r.limit r.taken 0 bytes inside.within holds.within (omega arith)
    ∙ ap (λ front. front ++ take (r.limit - r.taken) (drop r.taken bytes)) first in
    elim whole [
      | inl enough ↦ ap header_size seen ∙ header_stays r.held (take (r.limit - r.taken) (drop r.taken bytes)) enough
      | inr all ↦ ap header_size (seen ∙ ap (λ more. r.held ++ more)
          (nothing_behind r.limit r.taken bytes all) ∙ append-nil r.held)
    ]

-- a bad header is told by what may be seen of the file
pub header_refused : (limit : ℕ) (bytes : List ℕ) → header_size (take limit bytes) ≡ None
    → header_stop limit bytes ≡ Some (RefusedAt 0 Header)
header_refused limit bytes none = ap (λ size. if is_some size then None else Some (RefusedAt 0 Header)) none
