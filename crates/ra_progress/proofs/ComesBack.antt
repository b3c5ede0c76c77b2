-- The bytes of an opening are accepted, say it again, and are the set's own.
use Rattle.std.proofs.Common.{◌≡◌, ℕ, ◌+◌, ◌*◌, ◌-◌, ◌<◌, ◌≤◌, ◌^◌, true, false, nat_lt, List, [], ◌∷◌, ◌++◌, length}
use Rattle.std.proofs.Common.{length-append, map, sum_by, refl, sym, ◌∙◌, ap, ap₂, subst, arith}
use Rattle.std.specs.List.{AllByRecursion}
use Rattle.std.specs.Int.{w32, w64, to_le_bytes}
use Rattle.std.proofs.lemmas.Nat.{from_le_bytes-to_le_bytes_8}
use Rattle.std.proofs.lemmas.Bool.{le-ltb, eq-eqb}
use Rattle.std.proofs.lemmas.List.{length-map}
use Rattle.std.proofs.lemmas.List.Sums.{sum_by-cons}
use Rattle.std.proofs.lemmas.Slice.Eq.{bytes_eq-Decides}
use Rattle.std.proofs.Math.Seq.{drop-append_seam, take-append_seam}
use Rattle.md5.specs.Md5.{md5}
use Rattle.md5.proofs.StandardFacts.{length-md5}
use Rattle.ra_progress.specs.Contents.{ShapeContents, Own, own_entries, own_presence, Opening, IsOpening}
use Rattle.ra_text.specs.Words.{word_at}
use Rattle.ra_progress.specs.Layout.{version_in, digest_in, frames_at, summed_in, own_length, cell_count, prior_count}
use Rattle.ra_progress.specs.Layout.{entry_count, first_entry, cells_in, priors_in, entries_in, entries_from, need_of}
use Rattle.ra_progress.specs.Layout.{need_from, up_to, length_of, numbered_at}
use Rattle.ra_progress.specs.Names.{IsName, entry_names}
use Rattle.ra_progress.specs.Spelling.{presence_block, blocks_of, named_words, named_blocks, body_bytes, progress_bytes}
use Rattle.ra_progress.specs.Reading.{of_this_set, IsAccepted}
use Rattle.ra_progress.specs.Saying.{says}
use Rattle.ra_progress.specs.Laws.{IsShape, ComesBack, IsOwn}
use Rattle.ra_progress.proofs.OwnNames.{own_names}
use Rattle.ra_text.proofs.Pieces.{Stands, stands_first, stands_next, stands_take, stands_word}
use Rattle.ra_progress.proofs.OwnFile.{IsHeld, Fitting, StandBeside, fitting, fitting_script, entries_stand, need_stand}
use Rattle.ra_progress.proofs.OwnFile.{sizes_stand, states_stand, names_stand, numbered_stand, length_named_words}
use Rattle.ra_progress.proofs.OwnFile.{length_named_blocks, SaidItems, said_items_are, said_script_is}

-- own entries whose names are names and whose blocks are small together can be held
held : (owns : List Own) (most : ℕ) → sum_by own_length owns ≤ most → most < 2 ^ 32
    → AllByRecursion IsName (map (λ own. own.name) owns) → AllByRecursion IsHeld owns
held [] most small below are = tt
held (own ∷ owns) most small below are =
    let sum = sum_by-cons own_length own owns in (
      record { name = are.0.long; small = omega (arith, sum, small, below) },
      held owns most
          (omega (arith, sum, small)) below are.1,
    )

-- a need that does not pass the length grows on
met_by : (bytes : List ℕ) (need further : ℕ) → need ≤ length bytes → up_to bytes need further ≡ further
met_by bytes need further within =
    let fine : nat_lt (length bytes) need ≡ false = le-ltb (length bytes) need within in rw fine refl

module _ (shape : ShapeContents) (o : Opening) (is_shape : IsShape shape) (fits : IsOpening shape o) where
  abbrev owns : List Own
  owns = own_entries shape

  abbrev cells : ℕ
  cells = length shape.cells

  abbrev priors : ℕ
  priors = length shape.priors

  -- what stands behind the priors, behind the cells, and behind the frame count
  abbrev behind_priors : List ℕ
  behind_priors = to_le_bytes w32 (length (entry_names shape)) ++ named_blocks (entry_names shape) (blocks_of o)

  abbrev behind_cells : List ℕ
  behind_cells = to_le_bytes w32 priors ++ (named_words shape.priors o.priors ++ behind_priors)

  abbrev behind_frames : List ℕ
  behind_frames = to_le_bytes w32 cells ++ (named_words shape.cells o.cells ++ behind_cells)

  abbrev body : List ℕ
  body = body_bytes shape o

  abbrev file : List ℕ
  file = progress_bytes shape o

  all_fit : Fitting owns (blocks_of o)
  all_fit =
      fitting shape.item_names shape.items o.items (own_presence shape.presence_name shape.presence)
      (presence_block o.presence) is_shape.paired.items fits.items
      (fitting_script shape.presence_name shape.presence o.presence is_shape.paired.presence
      is_shape.lines fits.presence)

  names_are : map (λ own. own.name) owns ≡ entry_names shape
  names_are = own_names shape is_shape.paired

  many : length (entry_names shape) ≡ length owns
  many = sym (ap length names_are) ∙ length-map owns (λ own. own.name)

  all_held : AllByRecursion IsHeld owns
  all_held =
      held owns 8388608 (omega (arith, is_shape.short)) (omega arith)
      (subst (AllByRecursion IsName) (sym names_are) is_shape.entries)

  at_five : Stands file 5 (shape.digest ++ (to_le_bytes w64 o.frames ++ behind_frames))
  at_five = record { behind = md5 body; here = refl }

  at_frames : Stands file 21 (to_le_bytes w64 o.frames ++ behind_frames)
  at_frames =
      stands_next file 5 21 shape.digest (to_le_bytes w64 o.frames ++ behind_frames)
      (omega (arith, is_shape.digest.long)) at_five

  at_cell_count : Stands file 29 behind_frames
  at_cell_count = stands_next file 21 29 (to_le_bytes w64 o.frames) behind_frames refl at_frames

  cell_count_is : cell_count file ≡ cells
  cell_count_is =
      stands_word file 29 cells (omega (arith, is_shape.short))
      (stands_first file 29 (to_le_bytes w32 cells) (named_words shape.cells o.cells ++ behind_cells) at_cell_count)

  at_cells : Stands file 33 (named_words shape.cells o.cells ++ behind_cells)
  at_cells =
      stands_next file 29 33 (to_le_bytes w32 cells)
      (named_words shape.cells o.cells ++ behind_cells) refl at_cell_count

  cells_long : length (named_words shape.cells o.cells) ≡ 20 * cells
  cells_long = length_named_words shape.cells o.cells is_shape.cells fits.cells.as_many

  at_prior_count : Stands file (33 + 20 * cells) behind_cells
  at_prior_count =
      stands_next file 33 (33 + 20 * cells) (named_words shape.cells o.cells) behind_cells
      (omega (arith, cells_long)) at_cells

  prior_count_is : prior_count file ≡ priors
  prior_count_is =
      ap (λ n. word_at file (33 + 20 * n)) cell_count_is
      ∙ stands_word file (33 + 20 * cells) priors (omega (arith, is_shape.short))
      (stands_first file (33 + 20 * cells) (to_le_bytes w32 priors)
      (named_words shape.priors o.priors ++ behind_priors) at_prior_count)

  at_priors : Stands file (37 + 20 * cells) (named_words shape.priors o.priors ++ behind_priors)
  at_priors =
      stands_next file (33 + 20 * cells) (37 + 20 * cells) (to_le_bytes w32 priors)
      (named_words shape.priors o.priors ++ behind_priors) (omega arith) at_prior_count

  priors_long : length (named_words shape.priors o.priors) ≡ 20 * priors
  priors_long = length_named_words shape.priors o.priors is_shape.priors fits.priors.as_many

  at_entry_count : Stands file (37 + 20 * (cells + priors)) behind_priors
  at_entry_count =
      stands_next file (37 + 20 * cells) (37 + 20 * (cells + priors))
      (named_words shape.priors o.priors) behind_priors (omega (arith, priors_long)) at_priors

  entry_count_is : entry_count file ≡ length owns
  entry_count_is =
      ap₂ (λ c p. word_at file (37 + 20 * (c + p))) cell_count_is prior_count_is
      ∙ stands_word file (37 + 20 * (cells + priors)) (length (entry_names shape))
      (omega (arith, is_shape.short, many))
      (stands_first file (37 + 20 * (cells + priors)) (to_le_bytes w32 (length (entry_names shape)))
      (named_blocks (entry_names shape) (blocks_of o)) at_entry_count)
      ∙ many

  at_entries : Stands file (41 + 20 * (cells + priors)) (named_blocks (entry_names shape) (blocks_of o))
  at_entries =
      stands_next file (37 + 20 * (cells + priors)) (41 + 20 * (cells + priors))
      (to_le_bytes w32 (length (entry_names shape))) (named_blocks (entry_names shape) (blocks_of o))
      (omega arith) at_entry_count

  first_is : first_entry file ≡ 41 + 20 * (cells + priors)
  first_is = omega (arith, cell_count_is, prior_count_is)

  -- the entries of the file stand beside the own ones
  beside : StandBeside file owns (blocks_of o) (entries_from file (length owns) (first_entry file))
  beside =
      entries_stand file (first_entry file) owns (blocks_of o) all_fit all_held
      (subst (λ at. Stands file at (named_blocks (map (λ own. own.name) owns) (blocks_of o))) (sym first_is)
      (subst (λ names. Stands file (41 + 20 * (cells + priors)) (named_blocks names (blocks_of o)))
      (sym names_are) at_entries))

  entries_are : entries_in file ≡ entries_from file (length owns) (first_entry file)
  entries_are = ap (λ n. entries_from file n (first_entry file)) entry_count_is

  all_beside : StandBeside file owns (blocks_of o) (entries_in file)
  all_beside = subst (StandBeside file owns (blocks_of o)) (sym entries_are) beside

  blocks_long : length (named_blocks (entry_names shape) (blocks_of o)) ≡ 20 * length owns + sum_by own_length owns
  blocks_long =
      sym (ap (λ names. length (named_blocks names (blocks_of o))) names_are) ∙ length_named_blocks owns
      (blocks_of o) all_fit all_held

  length_body : length body + 16 ≡ length_of shape
  length_body =
      omega (
        arith,
        is_shape.digest.long,
        length-append shape.digest
            (to_le_bytes w64 o.frames ++ behind_frames),
        length-append
            (named_words shape.cells o.cells) behind_cells,
        length-append
            (named_words shape.priors o.priors) behind_priors,
        cells_long,
        priors_long,
        blocks_long,
      )

  length_file : length file ≡ length body + 16
  length_file = length-append body (md5 body) ∙ ap (λ n. length body + n) (length-md5 body)

  long : length file ≡ length_of shape
  long = length_file ∙ length_body

  -- the need is met at each count
  need_is : need_of file ≡ length_of shape
  need_is =
      let named = cell_count file + prior_count file in
      let one : named ≡ cells + priors = omega (arith, cell_count_is, prior_count_is) in
      let total = length_of shape in
      met_by file 49 _ (omega (arith, long))
      ∙ met_by file (53 + 20 * cell_count file) _ (omega (arith, long, cell_count_is))
      ∙ met_by file (57 + 20 * named) _ (omega (arith, long, one))
      ∙ met_by file (57 + 20 * (named + entry_count file)) _ (omega (arith, long, one, entry_count_is))
      ∙ ap (λ n. need_from file n (first_entry file) (57 + 20 * (named + n))) entry_count_is
      ∙ need_stand file (first_entry file) (57 + 20 * (named + length owns)) owns (blocks_of o) all_fit beside
      (omega (arith, long, one))
      ∙ omega (arith, one)

  three : version_in file ≡ 3
  three = refl

  digest_is : digest_in file ≡ shape.digest
  digest_is =
      stands_take file 5 16 shape.digest is_shape.digest.long
      (stands_first file 5 shape.digest (to_le_bytes w64 o.frames ++ behind_frames) at_five)

  pub this_set : of_this_set shape file ≡ true
  this_set =
      let digest = (bytes_eq-Decides (digest_in file) shape.digest).1 digest_is in
      rw (digest, eq-eqb (cell_count file) cells cell_count_is, eq-eqb (prior_count file) priors prior_count_is)
      (sizes_stand file owns (blocks_of o) (entries_in file) all_fit all_beside)

  pub accepted : IsAccepted shape file
  accepted =
      let less : length file - 16 ≡ length body = omega (arith, length_file) in
      let summed : summed_in file ≡ body = rw less (take-append_seam body (md5 body)) in
      record {
        whole = record {
          fewest = omega (arith, long);
          most = omega (arith, long, is_shape.short);
          marked = refl;
          version = refl;
          as_long = long ∙ sym need_is;
        };
        sum = rw (less, take-append_seam body (md5 body)) (drop-append_seam body (md5 body));
        related = rw this_set refl;
        entries = λ by_names. let both : true ≡ false = sym (rw this_set refl) ∙ by_names in absurd (cc both);
        states = rw this_set (states_stand file owns (blocks_of o) (entries_in file) three all_fit all_beside);
      }

  cells_read : (map (λ n. n.name) (cells_in file) ≡ shape.cells) × (map (λ n. n.number) (cells_in file) ≡ o.cells)
  cells_read =
      subst (λ n. (map (λ n. n.name) (numbered_at file 33 n) ≡ shape.cells) ×
      (map (λ n. n.number) (numbered_at file 33 n) ≡ o.cells)) (sym cell_count_is)
      (numbered_stand file 33 0 shape.cells o.cells is_shape.cells fits.cells.as_many fits.cells.fit
      (stands_first file 33 (named_words shape.cells o.cells) behind_cells at_cells))

  priors_read : (map (λ n. n.name) (priors_in file) ≡ shape.priors) × (map (λ n. n.number) (priors_in file) ≡ o.priors)
  priors_read =
      let place : 37 + 20 * cells + 20 * 0 ≡ 37 + 20 * cells = omega arith in
      subst (λ c. (map (λ n. n.name) (numbered_at file (37 + 20 * c) (prior_count file)) ≡ shape.priors) ×
      (map (λ n. n.number) (numbered_at file (37 + 20 * c) (prior_count file)) ≡ o.priors)) (sym cell_count_is)
      (subst (λ n. (map (λ n. n.name) (numbered_at file (37 + 20 * cells) n) ≡ shape.priors) ×
      (map (λ n. n.number) (numbered_at file (37 + 20 * cells) n) ≡ o.priors)) (sym prior_count_is)
      (numbered_stand file
      (37 + 20 * cells) 0 shape.priors o.priors is_shape.priors fits.priors.as_many fits.priors.fit
      (subst (λ at. Stands file at (named_words shape.priors o.priors)) (sym place)
      (stands_first file (37 + 20 * cells) (named_words shape.priors o.priors) behind_priors at_priors))))

  pub own : IsOwn shape file
  own = record {
    version = refl;
    this_set = this_set;
    cells = cells_read.0;
    priors = priors_read.0;
    entries = names_stand file owns (blocks_of o) (entries_in file) all_beside ∙ names_are;
  }

  frames_are : frames_at file ≡ o.frames
  frames_are =
      rw (stands_take file 21 8 (to_le_bytes w64 o.frames) refl
      (stands_first file 21 (to_le_bytes w64 o.frames) behind_frames at_frames))
      (from_le_bytes-to_le_bytes_8 o.frames fits.frames)

  said : SaidItems file shape.items o.items (own_presence shape.presence_name shape.presence)
      (presence_block o.presence) (entries_in file)
  said =
      said_items_are file shape.item_names shape.items o.items (own_presence shape.presence_name shape.presence)
      (presence_block o.presence) (entries_in file) three is_shape.paired.items fits.items all_beside

  pub says_it : says shape file ≡ o
  says_it =
      let script = said_script_is file shape.presence_name shape.presence o.presence said.tail
      is_shape.paired.presence is_shape.lines fits.presence said.behind in
      rw (this_set, frames_are, cells_read.1, priors_read.1, said.are, said.script, script) refl

  pub comes_back : ComesBack shape o
  comes_back = record { accepted = accepted; this_set = this_set; says_it = says_it; long = long }
