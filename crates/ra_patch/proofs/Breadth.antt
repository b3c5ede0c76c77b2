-- A document has no more items in an array than bytes, and one more.
use Rattle.std.proofs.Common.{◌≡◌, ℕ, ◌+◌, ◌*◌, ◌^◌, ◌<◌, ◌≤◌, suc, max, Bool, true, false, if◌then◌else◌, List, []}
use Rattle.std.proofs.Common.{◌∷◌, length, Option, Some, None, option_map, option_and_then, unwrap_or, codes, Ordering}
use Rattle.std.proofs.Common.{Less, Equal, Greater, refl, ap, sym, map, subst, arith, length-append, lit≤}
use Rattle.std.proofs.Math.Nat.{mul-le-mul_right, suc-mul}
use Rattle.std.proofs.lemmas.List.{length-map}
use Rattle.serde_json.specs.View.{view}
use Rattle.serde_json.specs.declared.value.Value.{Value}
use Rattle.std.specs.Prelude.{⊤}
use Rattle.std.specs.Ordering.{nat_cmp, match_ordering}
use Rattle.std.specs.Cmp.Lexicographic.{slice_cmp}
use Rattle.json.specs.Json as json
use Rattle.json.specs.Lex.{tokens}
use Rattle.json.specs.Token.{Token}
use Rattle.serde_json.specs.Data.{Data, null, boolean, number, string, array, object, Items, no_items, item, Members}
use Rattle.serde_json.specs.Data.{no_members, member, put}
use Rattle.serde_json.specs.Find.{get, get_member}
use Rattle.serde_json.specs.Read.{number_of, of_json, of_items, of_members, max_depth, read}
use Rattle.ra_patch.specs.Answers.{IsDocument}
use Rattle.ra_patch.specs.Faults.{achievements_or_none, boards_or_none}
use Rattle.ra_patch.specs.Fields.{listed, list_in, optional_list, patch_field}
use Rattle.ra_patch.specs.Patches.{are_objects, holders_by, holders_in, items_of, only_objects, own_items, patch_by}
use Rattle.ra_patch.specs.Patches.{patch_in}
use Rattle.ra_patch.specs.declared.item_kind.ItemKind.{ItemKind}
use Rattle.ra_patch.specs.declared.item_kind.ItemKind.TheVariants.{Achievement, Leaderboard}
use Rattle.ra_patch.proofs.TokenBreadth.{json_count, json_breadth, json_items_breadth, json_members_breadth, Bounded}
use Rattle.ra_patch.proofs.TokenBreadth.{few-tokens, within-value}

-- how many items stand in an array
abbrev count : Items → ℕ
count no_items = 0
count (item d ds) = suc (count ds)

-- the most items of an array within
abbrev mutual
  breadth : Data → ℕ
  breadth null = 0
  breadth (boolean b) = 0
  breadth (number n) = 0
  breadth (string s) = 0
  breadth (array ds) = max (count ds) (items_breadth ds)
  breadth (object ms) = members_breadth ms

  items_breadth : Items → ℕ
  items_breadth no_items = 0
  items_breadth (item d ds) = max (breadth d) (items_breadth ds)

  members_breadth : Members → ℕ
  members_breadth no_members = 0
  members_breadth (member k d ms) = max (breadth d) (members_breadth ms)

abbrev AtMost : {A : Type 0} → (A → ℕ) → ℕ → Option A → Type 0
AtMost f n None = ⊤
AtMost f n (Some a) = f a ≤ n

AtMost-map : {A B : Type 0} (f : A → ℕ) (g : B → ℕ) (m n : ℕ) (h : A → B) → ((a : A) → f a ≤ m → g (h a) ≤ n)
    → (o : Option A) → AtMost f m o → AtMost g n (option_map h o)
AtMost-map f g m n h k None x = tt
AtMost-map f g m n h k (Some a) x = k a x

AtMost-and_then : {A B : Type 0} (f : A → ℕ) (g : B → ℕ) (m n : ℕ) (h : A → Option B)
    → ((a : A) → f a ≤ m → AtMost g n (h a)) → (o : Option A) → AtMost f m o → AtMost g n (option_and_then h o)
AtMost-and_then f g m n h k None x = tt
AtMost-and_then f g m n h k (Some a) x = k a x

flat : {A : Type 0} (o : Option A) → AtMost (λ _. 0) 0 o
flat None = tt
flat (Some a) = omega arith

-- ---- what is read

breadth-match_ordering : (o : Ordering) (a b c : Members) (n : ℕ) → members_breadth a ≤ n → members_breadth b ≤ n
    → members_breadth c ≤ n → members_breadth (match_ordering o a b c) ≤ n
breadth-match_ordering Less a b c n p q r = p
breadth-match_ordering Equal a b c n p q r = q
breadth-match_ordering Greater a b c n p q r = r

breadth-put : (k : List ℕ) (d : Data) (ms : Members) (n : ℕ) → breadth d ≤ n → members_breadth ms ≤ n
    → members_breadth (put k d ms) ≤ n
breadth-put k d no_members n p q = omega arith
breadth-put k d (member l e ms) n p q =
    breadth-match_ordering _ (member k d (member l e ms)) (member l d ms) (member l e (put k d ms)) n (omega arith)
    (omega arith) (omega (arith, breadth-put k d ms n p (omega arith)))

count-of_items : (js : json.Items) → AtMost count (json_count js) (of_items js)
count-of_items json.no_items = omega arith
count-of_items (json.item j js) =
    AtMost-and_then (λ _. 0) count 0 (suc (json_count js)) _
    (λ d x. AtMost-map count count (json_count js) (suc (json_count js)) (item d) (λ ds y. omega arith) _
    (count-of_items js)) (of_json j) (flat _)

with-count : (n : ℕ) (o : Option Items) → AtMost count n o → AtMost items_breadth n o
    → AtMost breadth n (option_map array o)
with-count n None c b = tt
with-count n (Some ds) c b = omega arith

more : {A : Type 0} (f : A → ℕ) (m n : ℕ) → m ≤ n → (o : Option A) → AtMost f m o → AtMost f n o
more f m n le None x = tt
more f m n le (Some a) x = omega arith

mutual
  breadth-of_json : (j : json.Json) (n : ℕ) → json_breadth j ≤ n → AtMost breadth n (of_json j)
  breadth-of_json json.null n h = omega arith
  breadth-of_json (json.boolean b) n h = omega arith
  breadth-of_json (json.number s) n h =
      AtMost-map (λ _. 0) breadth 0 n number (λ a x. omega arith) (number_of s) (flat _)
  breadth-of_json (json.string s) n h = omega arith
  breadth-of_json (json.array js) n h =
      with-count n (of_items js) (more count (json_count js) n (omega arith) _ (count-of_items js))
      (breadth-of_items js n (omega arith))
  breadth-of_json (json.object ms) n h =
      AtMost-map members_breadth breadth n n object (λ a x. x) _ (breadth-of_members ms no_members n h (omega arith))

  breadth-of_items : (js : json.Items) (n : ℕ) → json_items_breadth js ≤ n → AtMost items_breadth n (of_items js)
  breadth-of_items json.no_items n h = omega arith
  breadth-of_items (json.item j js) n h =
      AtMost-and_then breadth items_breadth n n _
      (λ d x. AtMost-map items_breadth items_breadth n n (item d) (λ ds y. omega arith) _
      (breadth-of_items js n (omega arith))) _ (breadth-of_json j n (omega arith))

  breadth-of_members : (ms : json.Members) (found : Members) (n : ℕ) → json_members_breadth ms ≤ n
      → members_breadth found ≤ n → AtMost members_breadth n (of_members ms found)
  breadth-of_members json.no_members found n h k = k
  breadth-of_members (json.member name j ms) found n h k =
      AtMost-and_then breadth members_breadth n n _
      (λ d x. breadth-of_members ms (put name d found) n (omega arith) (breadth-put name d found n x k)) _
      (breadth-of_json j n (omega arith))

last_within : (o : Option (json.Json × List Token)) (n : ℕ) → Bounded json_breadth n o
    → AtMost json_breadth n (option_and_then (λ p. json.if_last p.0 p.1) o)
last_within None n h = tt
last_within (Some (j, [])) n h = h.0
last_within (Some (j, t ∷ r)) n h = tt

breadth-read : (text : List ℕ) (d : Data) → read text ≡ Some d → breadth d ≤ length text + 1
breadth-read text d e =
    let n = length text + 1 in
    subst (AtMost breadth n) e
    (AtMost-and_then json_breadth breadth n n of_json (λ j x. breadth-of_json j n x) _
    (last_within _ n (within-value n max_depth (tokens text) (few-tokens text))))

-- ---- what is found

breadth-found : (o : Ordering) (a b c : Option Data) (n : ℕ) → AtMost breadth n a → AtMost breadth n b
    → AtMost breadth n c → AtMost breadth n (match_ordering o a b c)
breadth-found Less a b c n p q r = p
breadth-found Equal a b c n p q r = q
breadth-found Greater a b c n p q r = r

breadth-get_member : (k : List ℕ) (ms : Members) (n : ℕ) → members_breadth ms ≤ n → AtMost breadth n (get_member k ms)
breadth-get_member k no_members n h = tt
breadth-get_member k (member l d ms) n h =
    let behind = breadth-get_member k ms n (omega arith) in
    breadth-found (slice_cmp nat_cmp k l) (get_member k ms) (Some d) (get_member k ms) n behind (omega arith) behind

breadth-get : (k : List ℕ) (d : Data) (n : ℕ) → breadth d ≤ n → AtMost breadth n (get k d)
breadth-get k null n h = tt
breadth-get k (boolean b) n h = tt
breadth-get k (number x) n h = tt
breadth-get k (string s) n h = tt
breadth-get k (array ds) n h = tt
breadth-get k (object ms) n h = breadth-get_member k ms n h

breadth-field : (k : List ℕ) (d : Data) (n : ℕ) → breadth d ≤ n → AtMost breadth n (patch_field k d)
breadth-field k d n h =
    AtMost-and_then breadth breadth n n (get k) (λ e x. breadth-get k e n x) _ (breadth-get (codes "PatchData") d n h)

length-listed : (ds : Items) → length (listed ds) ≡ count ds
length-listed no_items = refl
length-listed (item d ds) = ap (λ n. suc n) (length-listed ds)

length-list_in : (d : Data) (n : ℕ) → breadth d ≤ n → AtMost (λ ds. length ds) n (list_in d)
length-list_in null n h = tt
length-list_in (boolean b) n h = tt
length-list_in (number x) n h = tt
length-list_in (string s) n h = tt
length-list_in (array ds) n h = omega (arith, length-listed ds)
length-list_in (object ms) n h = tt

length-optional_list : (o : Option Data) (n : ℕ) → AtMost breadth n o → AtMost (λ ds. length ds) n (optional_list o)
length-optional_list None n h = omega arith
length-optional_list (Some d) n h = length-list_in d n h

length-or_none : (o : Option (List Data)) (n : ℕ) → AtMost (λ ds. length ds) n o → length (unwrap_or o []) ≤ n
length-or_none None n h = omega arith
length-or_none (Some ds) n h = h

-- a document has at most so many achievements
few-achievements : (bytes : List ℕ) (d : Data) → IsDocument bytes d → length (achievements_or_none d) ≤ 16777217
few-achievements bytes d document =
    let broad : breadth d ≤ 16777217 = omega (arith, breadth-read bytes d document.reads.1, document.few) in
    length-or_none _ 16777217
    (AtMost-and_then breadth (λ ds. length ds) 16777217 16777217 list_in (λ e x. length-list_in e 16777217 x) _
    (breadth-field (codes "Achievements") d 16777217 broad))

-- and at most so many leaderboards
few-boards : (bytes : List ℕ) (d : Data) → IsDocument bytes d → length (boards_or_none d) ≤ 16777217
few-boards bytes d document =
    let broad : breadth d ≤ 16777217 = omega (arith, breadth-read bytes d document.reads.1, document.few) in
    length-or_none _ 16777217 (length-optional_list _ 16777217 (breadth-field (codes "Leaderboards") d 16777217 broad))

module _ (d : Data) (document : (bytes : List ℕ) × IsDocument bytes d) (vs : List Value) where
  pub few-achievement_values : map view vs ≡ achievements_or_none d → length vs ≤ 16777217
  few-achievement_values same =
      omega (arith, sym (length-map vs view), ap (λ ds. length ds) same, few-achievements document.0 d document.1)

  pub few-board_values : map view vs ≡ boards_or_none d → length vs ≤ 16777217
  few-board_values same =
      omega (arith, sym (length-map vs view), ap (λ ds. length ds) same, few-boards document.0 d document.1)

-- ---- the lists of a patch

-- each of these has at most so many items of a kind
abbrev AllWithin : ℕ → List Data → Type 0
AllWithin n [] = ⊤
AllWithin n (d ∷ ds) = (breadth d ≤ n) × AllWithin n ds

AllWithin-listed : (ds : Items) (n : ℕ) → items_breadth ds ≤ n → AllWithin n (listed ds)
AllWithin-listed no_items n h = tt
AllWithin-listed (item d ds) n h = (omega arith, AllWithin-listed ds n (omega arith))

-- as many objects as this, each of this breadth at most
abbrev Holders : ℕ → Option (List Data) → Type 0
Holders n None = ⊤
Holders n (Some ds) = (length ds ≤ n) × AllWithin n ds

holders-list_in : (d : Data) (n : ℕ) → breadth d ≤ n → Holders n (list_in d)
holders-list_in null n h = tt
holders-list_in (boolean b) n h = tt
holders-list_in (number x) n h = tt
holders-list_in (string s) n h = tt
holders-list_in (array ds) n h = (omega (arith, length-listed ds), AllWithin-listed ds n (omega arith))
holders-list_in (object ms) n h = tt

holders-only : (o : Option (List Data)) (n : ℕ) → Holders n o → Holders n (only_objects o)
holders-only None n h = tt
holders-only (Some ds) n h = cases (are_objects ds) where
  cases : (b : Bool) → Holders n (if b then Some ds else None)
  cases true = h
  cases false = tt

holders-by : (patch : Data) (achievements sets : Option Data) (n : ℕ) → 1 ≤ n → breadth patch ≤ n
    → AtMost breadth n sets
    → Holders n (holders_by patch achievements sets)
holders-by patch (Some own) sets n one h k = (one, (h, tt))
holders-by patch None (Some sets) n one h k = holders-only (list_in sets) n (holders-list_in sets n k)
holders-by patch None None n one h k = (one, (h, tt))

holders-in : (patch : Data) (n : ℕ) → 1 ≤ n → breadth patch ≤ n → Holders n (holders_in patch)
holders-in patch n one h =
    holders-by patch (get (codes "Achievements") patch) (get (codes "Sets") patch) n one h
    (breadth-get (codes "Sets") patch n h)

chosen : (b : Bool) (d : Data) (n : ℕ) → breadth d ≤ n → AtMost breadth n (if b then Some d else None)
chosen true d n h = h
chosen false d n h = tt

breadth-patch_by : (root : Data) (field : Option Data) (n : ℕ) → breadth root ≤ n → AtMost breadth n field
    → AtMost breadth n (patch_by root field)
breadth-patch_by root None n h k = chosen _ root n h
breadth-patch_by root (Some field) n h k = chosen _ field n k

breadth-patch : (d : Data) (n : ℕ) → breadth d ≤ n → AtMost breadth n (patch_in d)
breadth-patch d n h = breadth-patch_by d (get (codes "PatchData") d) n h (breadth-get (codes "PatchData") d n h)

own-items : (kind : ItemKind) (d : Data) (n : ℕ) → breadth d ≤ n → length (own_items kind d) ≤ n
own-items Achievement d n h =
    length-or_none _ n
    (AtMost-and_then breadth (λ ds. length ds) n n list_in (λ e x. length-list_in e n x) _
    (breadth-get (codes "Achievements") d n h))
own-items Leaderboard d n h = length-or_none _ n (length-optional_list _ n (breadth-get (codes "Leaderboards") d n h))

all-items : (kind : ItemKind) (ds : List Data) (n : ℕ) → AllWithin n ds → length (items_of kind ds) ≤ length ds * n
all-items kind [] n h = omega arith
all-items kind (d ∷ ds) n h =
    let first = own-items kind d n h.0 in
    let others = all-items kind ds n h.1 in
    let sum : length (items_of kind (d ∷ ds)) ≡ length (own_items kind d) + length (items_of kind ds) =
    length-append (own_items kind d) (items_of kind ds) in
    let product : suc (length ds) * n ≡ length ds * n + n = suc-mul (length ds) n in
    omega (arith, sum, product)

few-holders : (o : Option (List Data)) → Holders 16777217 o → (kind : ItemKind) (ds : List Data) → o ≡ Some ds
    → length (items_of kind ds) < 2 ^ 49
few-holders None h kind ds e = absurd (cc e)
few-holders (Some es) h kind ds e =
    let same : es ≡ ds = cc e in subst (λ x. length (items_of kind x) < 2 ^ 49) same
    (bound (all-items kind es 16777217 h.1)) where
      bound : length (items_of kind es) ≤ length es * 16777217 → length (items_of kind es) < 2 ^ 49
      bound le = omega (arith, mul-le-mul_right 16777217 h.0)

-- the objects that have the lists of a document have few items together
pub few-items : (d : Data) → (bytes : List ℕ) × IsDocument bytes d
    → (kind : ItemKind) (patch : Data) (holders : List Data)
    → patch_in d ≡ Some patch → holders_in patch ≡ Some holders → length (items_of kind holders) < 2 ^ 49
few-items d document kind patch holders is of_patch =
    let broad : breadth d ≤ 16777217 = omega (arith, breadth-read document.0 d document.1.reads.1, document.1.few) in
    let within : AtMost breadth 16777217 (Some patch) =
    subst (AtMost breadth 16777217) is (breadth-patch d 16777217 broad) in
    few-holders (holders_in patch) (holders-in patch 16777217 (lit≤ tt) within) kind holders of_patch
