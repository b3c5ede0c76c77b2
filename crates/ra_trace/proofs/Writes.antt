-- The records that a writer wrote.
use Rattle.std.proofs.Common.{◌≡◌, ℕ, ◌≤◌, ◌^◌, ap, sym, refl, ◌∙◌, true, append-nil, List, [], ◌∷◌, ◌++◌, replicate}
use Rattle.std.proofs.lemmas.List.{flat_map_more}
use Rattle.std.proofs.lemmas.List.Elements.{All-nil, All-push, recursion_from_All}
use Rattle.ra_trace.specs.Entries.{Entry, Ended, entry_bytes, header_bytes, trace_bytes}
use Rattle.ra_trace.specs.Cutting.{trace_with}
use Rattle.ra_trace.specs.Rules.{Fits, whole_trace}
use Rattle.ra_trace.specs.Writing.{WriterSeen, Wrote, Adds, with_record}
use Rattle.ra_trace.proofs.CutBack.{trace_cut, all_take_filled}

-- a header alone has no record behind it
pub wrote_none : (size : ℕ) → size ≤ 2 ^ 27 → Wrote (record { size = size; bytes = header_bytes size }) []
wrote_none size small = record { small = small; fit = All-nil (Fits size); bytes = refl }

-- a record more behind the others
pub wrote_more : (old new : WriterSeen) (entry : Entry) → new ≡ with_record old entry
    → Fits old.size entry → Adds entry old new
wrote_more old new entry is fits entries wrote = rw is (record {
  small = wrote.small;
  fit = All-push (Fits old.size) entries entry wrote.fit fits;
  bytes = ap (λ bytes. bytes ++ entry_bytes entry) wrote.bytes
      ∙ flat_map_more entry_bytes (header_bytes old.size) entries entry;
})

-- the bytes with the end record are cut into what was written
pub wrote_all : (writer : WriterSeen) (bytes : List ℕ) → bytes ≡ writer.bytes ++ entry_bytes Ended
    → (entries : List Entry) → Wrote writer entries → trace_with (replicate 16 true) bytes
    ≡ whole_trace writer.size entries
wrote_all writer bytes is entries wrote =
    let all : bytes ≡ trace_bytes writer.size (entries ++ Ended ∷ []) ++ []
    = is ∙ ap (λ bytes. bytes ++ entry_bytes Ended) wrote.bytes
    ∙ flat_map_more entry_bytes (header_bytes writer.size) entries Ended ∙ sym (append-nil _) in
    ap (trace_with (replicate 16 true)) all
    ∙ trace_cut (replicate 16 true) writer.size entries [] wrote.small wrote.fit
    (all_take_filled writer.size entries (recursion_from_All (Fits writer.size) entries wrote.fit))
