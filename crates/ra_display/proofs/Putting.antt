-- Pieces and numbers that are written over a row, one after another.
use Rattle.std.proofs.Common.{◌≡◌, ℕ, zero, suc, ◌+◌, ◌*◌, ◌<◌, ◌≤◌, ◌^◌, Bool, Option, None, Some, List, [], ◌∷◌, ◌++◌}
use Rattle.std.proofs.Common.{length, map, take, drop, get_or, refl, sym, ◌∙◌, ap, ap₂, arith, append_assoc, append-nil}
use Rattle.std.proofs.Common.{length-append, subst}
use Rattle.std.specs.List.{concat}
use Rattle.std.specs.Int.{w32, to_le_bytes}
use Rattle.std.proofs.lemmas.List.{take_more, take_all, length-take-le, length-map, get_or-map}
use Rattle.std.proofs.lemmas.List.Concat.{flat_map-append}
use Rattle.std.proofs.Math.Seq.{take-add}
use Rattle.ra_text.specs.Words.{words}
use Rattle.ra_text.proofs.Pieces.{length_words}
use Rattle.ra_member.specs.MemberRuns.{FitWords, PutsBehind}
use Rattle.ra_member.proofs.SavedRows.{behind_both}
use Rattle.ra_schedule.proofs.MembersRest.Counted.{length-owed_by}
use Rattle.ra_display.specs.Keeping.{HasWords, PutsOver, PutsWords, seen_hits, seen_rows}

-- nothing is written over no bytes
pub puts_nothing : (row : List ℕ) (at : ℕ) → PutsOver row row at at []
puts_nothing row at = record { front = sym (append-nil (take at row)); next_is = omega arith; long = refl }

-- a piece, and the one after it
pub puts_both : (old mid new : List ℕ) (at behind next : ℕ) (xs ys : List ℕ) → PutsOver old mid at
    behind xs → PutsOver mid new behind next ys → PutsOver old new at next (xs ++ ys)
puts_both old mid new at behind next xs ys first after = record {
  front = after.front ∙ ap (λ zs. zs ++ ys) first.front ∙ append_assoc (take at old) xs ys;
  next_is = omega (arith, first.next_is, after.next_is, length-append xs ys);
  long = after.long ∙ first.long;
}

pub words_append : (xs ys : List ℕ) → words (xs ++ ys) ≡ words xs ++ words ys
words_append xs ys = flat_map-append (to_le_bytes w32) xs ys

fit_both : (xs ys : List ℕ) → FitWords xs → FitWords ys → FitWords (xs ++ ys)
fit_both xs ys front behind =
    let put : PutsBehind [] (xs ++ ys) (xs ++ ys) = behind_both [] xs (xs ++ ys) xs ys
    (record { all = refl; fit = front }) (record { all = refl; fit = behind }) in
    put.fit

-- no numbers, and numbers behind others
pub no_words : (row : List ℕ) (at : ℕ) → PutsWords row row at at []
no_words row at = record { puts = puts_nothing row at; fit = tt }

pub words_both : (old mid new : List ℕ) (at behind next : ℕ) (xs ys : List ℕ) → PutsWords old mid at
    behind xs → PutsWords mid new behind next ys → PutsWords old new at next (xs ++ ys)
words_both old mid new at behind next xs ys first after = record {
  puts = subst (PutsOver old new at next) (sym (words_append xs ys))
      (puts_both old mid new at behind next (words xs) (words ys) first.puts after.puts);
  fit = fit_both xs ys first.fit after.fit;
}

-- a number that is written is one number
pub one_word : (old new : List ℕ) (at next n : ℕ) → n < 2 ^ 32
    → PutsOver old new at next (to_le_bytes w32 n) → PutsWords old new at next (n ∷ [])
one_word old new at next n small put = record {
  puts = subst (PutsOver old new at next) (sym (append-nil (to_le_bytes w32 n))) put;
  fit = (small, tt);
}

-- the numbers so far, and one more
pub words_more : (old mid new : List ℕ) (at behind next : ℕ) (numbers : List ℕ) (k n : ℕ)
    → k < length numbers → get_or numbers k n ≡ n → n < 2 ^ 32
    → PutsWords old mid at behind (take k numbers) → PutsOver mid new behind next
    (to_le_bytes w32 n) → PutsWords old new at next (take (k + 1) numbers)
words_more old mid new at behind next numbers k n within is small first after =
    let more : take (k + 1) numbers ≡ take k numbers ++ n ∷ [] =
    take_more numbers k n within ∙ ap (λ x. take k numbers ++ x ∷ []) is in
    subst (PutsWords old new at next) (sym more) (words_both old mid new at behind next
    (take k numbers) (n ∷ []) first (one_word mid new behind next n small after))

-- numbers end where their count says
pub words_to : (old new : List ℕ) (at next last : ℕ) (numbers : List ℕ) (j i : ℕ) → j ≡ i → i ≤ length numbers
    → last ≡ at + 4 * i → PutsWords old new at next (take j numbers) → PutsWords old new at last (take i numbers)
words_to old new at next last numbers j i same within is puts =
    let there : PutsWords old new at next (take i numbers) =
    subst (λ n. PutsWords old new at next (take n numbers)) same puts in
    let many = length-take-le i numbers within in
    let end : next ≡ last = omega (arith, is, there.puts.next_is, length_words (take i numbers), many) in
    subst (λ n. PutsWords old new at n (take i numbers)) end there

-- the numbers so far, and the next ones
pub words_on : (old mid new : List ℕ) (at behind next last : ℕ) (numbers : List ℕ) (k m i : ℕ) → k + m ≡ i
    → i ≤ length numbers → last ≡ at + 4 * i → PutsWords old mid at behind (take k numbers)
    → PutsWords mid new behind next (take m (drop k numbers)) → PutsWords old new at last (take i numbers)
words_on old mid new at behind next last numbers k m i same within is first after =
    words_to old new at next last numbers (k + m) i same within is
    (subst (PutsWords old new at next) (sym (take-add k m numbers))
    (words_both old mid new at behind next (take k numbers) (take m (drop k numbers)) first after))

-- there is room for one number more
pub room_more : (old mid : List ℕ) (at behind : ℕ) (numbers : List ℕ) (k : ℕ) → k < length numbers
    → at + 4 * length numbers ≤ length old → PutsWords old mid at behind (take k numbers)
    → behind + 4 ≤ length mid
room_more old mid at behind numbers k within room first =
    let many : length (take k numbers) ≡ k = length-take-le k numbers (omega arith) in
    omega (arith, first.puts.next_is, first.puts.long, length_words (take k numbers), many)

-- there is room for numbers behind others
pub room_behind : (old mid : List ℕ) (at behind : ℕ) (xs : List ℕ) (n m : ℕ) → length xs ≡ n
    → at + 4 * (n + m) ≤ length old → PutsWords old mid at behind xs → behind + 4 * m ≤ length mid
room_behind old mid at behind xs n m many room first =
    omega (arith, first.puts.next_is, first.puts.long, length_words xs, many, room)

-- the rows so far, and one more
pub rows_more : (old mid new : List ℕ) (at behind next : ℕ) (rows : List (List ℕ)) (k : ℕ)
    (one : List ℕ) → k < length rows → get_or rows k one ≡ one
    → PutsWords old mid at behind (concat (take k rows)) → PutsWords mid new behind next one
    → PutsWords old new at next (concat (take (k + 1) rows))
rows_more old mid new at behind next rows k one within is first after =
    let more : take (k + 1) rows ≡ take k rows ++ one ∷ [] =
    take_more rows k one within ∙ ap (λ x. take k rows ++ x ∷ []) is in
    let all : concat (take (k + 1) rows) ≡ concat (take k rows) ++ one =
    ap concat more ∙ concat_more (take k rows) one in
    subst (PutsWords old new at next) (sym all)
    (words_both old mid new at behind next (concat (take k rows)) one first after)
  where
    concat_more : (xs : List (List ℕ)) (x : List ℕ) → concat (xs ++ x ∷ []) ≡ concat xs ++ x
    concat_more [] x = append-nil x
    concat_more (y ∷ xs) x = ap (λ zs. y ++ zs) (concat_more xs x) ∙ sym (append_assoc y (concat xs) x)

-- rows as they are seen are as long as they are
front_room : (seen plain : List (List ℕ)) (k : ℕ) (d : List ℕ) → map length seen ≡ map length plain
    → k < length plain
    → length (concat (take k seen)) + length (get_or plain k d) ≤ length (concat plain)
front_room seen [] k d same within = absurd (omega arith)
front_room [] (p ∷ plain) k d same within = absurd (cc)
front_room (s ∷ seen) (p ∷ plain) zero d same within = omega (arith, length-append p (concat plain))
front_room (s ∷ seen) (p ∷ plain) (suc k) d same within =
    let first : length s ≡ length p = heads (length s) (length p) (map length seen) (map length plain) same in
    let others = front_room seen plain k d
    (tails (length s) (length p) (map length seen) (map length plain) same) (omega arith) in
    omega (arith, first, others, length-append s (concat (take k seen)), length-append p (concat plain))
  where
    heads : (m n : ℕ) (ms ns : List ℕ) → m ∷ ms ≡ n ∷ ns → m ≡ n
    heads m n ms ns is = cc

    tails : (m n : ℕ) (ms ns : List ℕ) → m ∷ ms ≡ n ∷ ns → ms ≡ ns
    tails m n ms ns is = cc

-- rows that are as long, row by row, are as long together
pub concat_long : (seen plain : List (List ℕ)) → map length seen ≡ map length plain
    → length (concat seen) ≡ length (concat plain)
concat_long [] [] same = refl
concat_long [] (p ∷ plain) same = absurd (cc)
concat_long (s ∷ seen) [] same = absurd (cc)
concat_long (s ∷ seen) (p ∷ plain) same =
    let first : length s ≡ length p = heads (length s) (length p) (map length seen) (map length plain) same in
    let others = concat_long seen plain (tails (length s) (length p) (map length seen) (map length plain) same) in
    omega (arith, first, others, length-append s (concat seen), length-append p (concat plain))
  where
    heads : (m n : ℕ) (ms ns : List ℕ) → m ∷ ms ≡ n ∷ ns → m ≡ n
    heads m n ms ns is = cc

    tails : (m n : ℕ) (ms ns : List ℕ) → m ∷ ms ≡ n ∷ ns → ms ≡ ns
    tails m n ms ns is = cc

-- so there is room for one row more
pub room_row : (old mid : List ℕ) (at behind : ℕ) (seen plain : List (List ℕ)) (k : ℕ) (d : List ℕ)
    → map length seen ≡ map length plain → k < length plain → HasWords old at (concat plain)
    → PutsWords old mid at behind (concat (take k seen))
    → behind + 4 * length (get_or plain k d) ≤ length mid
room_row old mid at behind seen plain k d same within room first =
    omega (
      arith,
      first.puts.next_is,
      first.puts.long,
      length_words (concat (take k seen)),
      front_room seen plain k d same within,
      room,
    )

-- rows that are read from what stands in a list, as they are seen
module _ {Y : Type 0} (g : Y → List ℕ) (runs : List Y) (seen : List (List ℕ))
    (same : map length seen ≡ map length (map g runs)) where
  seen_count : length seen ≡ length runs
  seen_count = omega (arith, ap length same, length-map seen length, length-map (map g runs) length, length-map runs g)

  module _ (old mid : List ℕ) (at behind k : ℕ) (within : k < length runs)
      (first : PutsWords old mid at behind (concat (take k seen))) where
    pub row_room : (e : Y) → HasWords old at (concat (map g runs)) → HasWords mid behind (g (get_or runs k e))
    row_room e room =
        let there = get_or-map g runs k e (g e) within in
        let all = room_row old mid at behind seen (map g runs) k (g e) same
        (omega (arith, within, length-map runs g)) room first in
        omega (arith, all, ap length there)

    pub row_more : (new : List ℕ) (next : ℕ) (one : List ℕ) → get_or seen k one ≡ one
        → PutsWords mid new behind next one → PutsWords old new at next (concat (take (k + 1) seen))
    row_more new next one here put = rows_more old mid new at behind next seen k one
        (omega (arith, within, seen_count)) here first put

  -- all of them
  pub row_all : (old mid : List ℕ) (at behind k : ℕ) → length runs ≤ k → PutsWords old mid at behind
      (concat (take k seen)) → PutsWords old mid at behind (concat seen)
  row_all old mid at behind k over puts = subst (λ rs. PutsWords old mid at behind (concat rs))
      (take_all k seen (omega (arith, over, seen_count))) puts

-- rows of hits are as long as they are seen
pub rows_long : (owed : Option ℕ) (counts : List (List Bool)) (hits : List (List ℕ)) → map length
    counts ≡ map length hits → map length (seen_rows owed counts hits) ≡ map length hits
rows_long None counts hits same = refl
rows_long (Some n) [] [] same = refl
rows_long (Some n) [] (h ∷ hits) same = absurd (cc)
rows_long (Some n) (c ∷ counts) [] same = absurd (cc)
rows_long (Some n) (c ∷ counts) (h ∷ hits) same =
    ap₂ (λ x xs. x ∷ xs) (length-owed_by n c h) (rows_long (Some n) counts hits (cc))

-- the row of hits at a place as it is seen
pub row_at : {X Y : Type 0} (f : X → List Bool) (g : Y → List ℕ) (owed : Option ℕ) (counts : List X)
    (runs : List Y) (k : ℕ) (d : X) (e : Y) → length counts ≡ length runs → k < length runs
    → get_or (seen_rows owed (map f counts) (map g runs)) k (seen_hits owed (f (get_or counts k d))
    (g (get_or runs k e))) ≡ seen_hits owed (f (get_or counts k d)) (g (get_or runs k e))
row_at f g None counts runs k d e same within = get_or-map g runs k e (g (get_or runs k e)) within
row_at f g (Some n) counts [] k d e same within = absurd (omega arith)
row_at f g (Some n) [] (r ∷ runs) k d e same within = absurd (omega arith)
row_at f g (Some n) (c ∷ counts) (r ∷ runs) zero d e same within = refl
row_at f g (Some n) (c ∷ counts) (r ∷ runs) (suc k) d e same within =
    row_at f g (Some n) counts runs k d e (omega arith) (omega arith)
