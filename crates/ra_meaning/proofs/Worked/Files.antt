-- Worked examples of trace and progress files, computed from the definitions.
use Rattle.std.proofs.Common.{◌≡◌, ℕ, List, [], ◌∷◌, ◌++◌, refl, replicate, Some, None, true, take}
use Rattle.ra_trace.specs.declared.error.Why.TheVariants.{Header, Kind, Cut, PastMemory, Slot, EmptySlot}
use Rattle.ra_trace.specs.Entries.{Framed, header_bytes}
use Rattle.md5.specs.Md5.{md5, digest_bytes, hash_after, compress, rounds, block_words}
use Rattle.ra_progress.specs.Contents.{OfAchievement, Opening, ShapeContents}
use Rattle.ra_progress.specs.declared.refused.ProgressRefused.TheVariants.{WrongLength}
use Rattle.ra_progress.specs.declared.shape.ItemShape.TheVariants.{Achievement}
use Rattle.ra_progress.specs.Spelling.{body_bytes, progress_bytes}
use Rattle.ra_progress.specs.Layout.{length_of, length_1_of}
use Rattle.ra_progress.specs.Reading.{refusal}
use Rattle.ra_progress.specs.Saying.{says}
use Rattle.ra_trace.specs.Cutting.{trace_of, trace_within, RefusedAt, PastLimit}

abbrev head : List ℕ
head = 0x52 ∷ 0x41 ∷ 0x54 ∷ 0x52 ∷ 1 ∷ 16 ∷ 0 ∷ 0 ∷ 0 ∷ []

the_header : header_bytes 16 ≡ head
the_header = refl

refused_cut : (trace_of (head ++ 0x46 ∷ [])).stop ≡ RefusedAt 10 Cut
refused_cut = refl

refused_empty : (trace_of (head ++ 0x52 ∷ 0 ∷ [])).stop ≡ RefusedAt 9 EmptySlot
refused_empty = refl

refused_memory : (trace_of (head ++ 0x57 ∷ 15 ∷ 0 ∷ 0 ∷ 0 ∷ 2 ∷ 0 ∷ 1 ∷ 2 ∷ [])).stop ≡ RefusedAt 9 PastMemory
refused_memory = refl

refused_kind : (trace_of (head ++ 0 ∷ [])).stop ≡ RefusedAt 9 Kind
refused_kind = refl

refused_slot : (trace_of (head ++ 0x53 ∷ 16 ∷ [])).stop ≡ RefusedAt 9 Slot
refused_slot = refl

refused_header : (trace_of (take 4 head)).stop ≡ RefusedAt 0 Header
refused_header = refl

-- the limit of a reader: at exactly its bytes and below them
past_limit : (trace_within 10 (replicate 16 true) (head ++ 0x46 ∷ 0x46 ∷ 0x45 ∷ [])).stop ≡ PastLimit
past_limit = refl

past_limit_at_the_end : (trace_within 10 (replicate 16 true) (head ++ 0x46 ∷ [])).stop ≡ PastLimit
past_limit_at_the_end = refl

cut_below_the_limit : (trace_within 11 (replicate 16 true) (head ++ 0x46 ∷ [])).stop ≡ RefusedAt 10 Cut
cut_below_the_limit = refl

first_before_the_limit : (trace_within 10 (replicate 16 true) (head ++ 0x46 ∷ 0x46 ∷ 0x45 ∷ [])).entries ≡ Framed ∷ []
first_before_the_limit = refl

abbrev three_hits_digest : List ℕ
three_hits_digest = 149 ∷ 195 ∷ 32 ∷ 38 ∷ 163 ∷ 167 ∷ 182 ∷ 252 ∷ 26 ∷ 165 ∷ 61 ∷ 53 ∷ 93 ∷ 130 ∷ 186 ∷ 2 ∷ []

abbrev three_hits_kept : Opening
three_hits_kept =
    record { frames = 5; cells = 5 ∷ []; priors = []; items = OfAchievement 4 0 (3 ∷ []) true ∷ []; presence = None }

-- the names of its byte cell and of its line
abbrev three_hits_cell : List ℕ
three_hits_cell = 89 ∷ 116 ∷ 155 ∷ 213 ∷ 202 ∷ 138 ∷ 190 ∷ 118 ∷ 142 ∷ 177 ∷ 55 ∷ 6 ∷ 26 ∷ 79 ∷ 48 ∷ 198 ∷ []

abbrev three_hits_line : List ℕ
three_hits_line = 121 ∷ 138 ∷ 85 ∷ 252 ∷ 89 ∷ 157 ∷ 157 ∷ 155 ∷ 64 ∷ 108 ∷ 37 ∷ 166 ∷ 66 ∷ 250 ∷ 138 ∷ 154 ∷ []

abbrev three_hits_shape : ShapeContents
three_hits_shape =
    record {
      digest = three_hits_digest;
      cells = three_hits_cell ∷ [];
      priors = [];
      items = Achievement 1 ∷ [];
      item_names = three_hits_line ∷ [];
      presence = None;
      presence_name = None;
    }

-- the file in version 1
three_hits_old_file : List ℕ
three_hits_old_file = 82 ∷ 65 ∷ 80 ∷ 71 ∷ 1 ∷ 149 ∷ 195 ∷ 32 ∷ 38 ∷ 163 ∷ 167 ∷ 182 ∷ 252 ∷ 26 ∷ 165
    ∷ 61 ∷ 53 ∷ 93 ∷ 130 ∷ 186 ∷ 2 ∷ 5 ∷ 0 ∷ 0 ∷ 0 ∷ 0 ∷ 0 ∷ 0 ∷ 0 ∷ 5 ∷ 0 ∷ 0 ∷ 0 ∷ 4 ∷ 0 ∷ 0 ∷ 0
    ∷ 0 ∷ 3 ∷ 0 ∷ 0 ∷ 0 ∷ 56 ∷ 125 ∷ 118 ∷ 132 ∷ 137 ∷ 53 ∷ 203 ∷ 4 ∷ 164 ∷ 98 ∷ 72 ∷ 254 ∷ 221
    ∷ 213 ∷ 158 ∷ 169 ∷ []

-- the file in version 3
three_hits_file : List ℕ
three_hits_file = 82 ∷ 65 ∷ 80 ∷ 71 ∷ 3 ∷ 149 ∷ 195 ∷ 32 ∷ 38 ∷ 163 ∷ 167 ∷ 182 ∷ 252 ∷ 26 ∷ 165
    ∷ 61 ∷ 53 ∷ 93 ∷ 130 ∷ 186 ∷ 2 ∷ 5 ∷ 0 ∷ 0 ∷ 0 ∷ 0 ∷ 0 ∷ 0 ∷ 0 ∷ 1 ∷ 0 ∷ 0 ∷ 0 ∷ 89 ∷ 116 ∷ 155
    ∷ 213 ∷ 202 ∷ 138 ∷ 190 ∷ 118 ∷ 142 ∷ 177 ∷ 55 ∷ 6 ∷ 26 ∷ 79 ∷ 48 ∷ 198 ∷ 5 ∷ 0 ∷ 0 ∷ 0 ∷ 0 ∷ 0
    ∷ 0 ∷ 0 ∷ 1 ∷ 0 ∷ 0 ∷ 0 ∷ 121 ∷ 138 ∷ 85 ∷ 252 ∷ 89 ∷ 157 ∷ 157 ∷ 155 ∷ 64 ∷ 108 ∷ 37 ∷ 166 ∷ 66
    ∷ 250 ∷ 138 ∷ 154 ∷ 9 ∷ 0 ∷ 0 ∷ 0 ∷ 12 ∷ 0 ∷ 0 ∷ 0 ∷ 0 ∷ 3 ∷ 0 ∷ 0 ∷ 0 ∷ 15 ∷ 110 ∷ 3 ∷ 80 ∷ 187
    ∷ 234 ∷ 151 ∷ 28 ∷ 255 ∷ 160 ∷ 73 ∷ 61 ∷ 215 ∷ 56 ∷ 212 ∷ 65 ∷ []

three_hits_lengths : (length_1_of three_hits_shape ≡ 58) × (length_of three_hits_shape ≡ 106)
three_hits_lengths = (refl, refl)

three_hits_old_says : says three_hits_shape three_hits_old_file ≡ three_hits_kept
unfolding three_hits_old_file
three_hits_old_says = refl

three_hits_says : says three_hits_shape three_hits_file ≡ three_hits_kept
unfolding three_hits_file
three_hits_says = refl

three_hits_body : body_bytes three_hits_shape three_hits_kept ≡ take 90 three_hits_file
unfolding three_hits_file
three_hits_body = refl

three_hits_bytes : progress_bytes three_hits_shape three_hits_kept ≡ three_hits_file
unfolding three_hits_file md5 digest_bytes hash_after compress rounds block_words
three_hits_bytes = refl

one_byte_short : refusal three_hits_shape (take 57 three_hits_old_file) ≡ Some (WrongLength 58 57)
unfolding three_hits_old_file
one_byte_short = refl

cut_before_its_counts : refusal three_hits_shape (take 48 three_hits_file) ≡ Some (WrongLength 49 48)
unfolding three_hits_file
cut_before_its_counts = refl
