-- A table of which kept numbers were put: it is one again, and agrees with every image.
use Rattle.std.proofs.Common.{◌≡◌, ℕ, ◌*◌, ◌≤◌, ◌^◌, true, false, List, length, replicate, slice_set, refl, ap, sym}
use Rattle.std.proofs.Common.{subst, ◌∙◌}
use Rattle.std.proofs.lemmas.List.{length-set, length-replicate}
use Rattle.ra_memref.specs.declared.table.Table.TheInside.{Inside}
use Rattle.std.proofs.lemmas.Bool.{false≢true}
use Rattle.ra_memref.specs.declared.agenda.Agenda.{Agenda}
use Rattle.ra_memref.specs.Numbers.{NumbersSeen}
use Rattle.ra_memref.specs.Pass.{IsSizedFor}
use Rattle.ra_memref.specs.Table.{IsPutBack}
use Rattle.ra_memref.specs.Putting.{IsCellPut, IsPriorPut}
use Rattle.ra_memref.specs.Seen.{table_seen, IsTable}
use Rattle.ra_memref.proofs.AgreeLemmas.{Agrees-marked}
use Rattle.ra_text.specs.Words.{words_at}
use Rattle.ra_text.proofs.Rows.{length-words_at}

-- the numbers with other kept ones, and with each cell marked
abbrev pub with_kept : NumbersSeen → (cells priors : List ℕ) → NumbersSeen
with_kept numbers cells priors = record numbers {
  cells = cells;
  priors = priors;
  watches = record numbers.watches { marked = replicate (length numbers.cells) true };
}

-- an agenda of which every node is due
abbrev pub all_due : Agenda → Agenda
all_due agenda = record { due = agenda.due; all = true; dependents = agenda.dependents; cell_nodes = agenda.cell_nodes }

-- a table with other numbers, for which no sample came
abbrev pub put : Inside → NumbersSeen → Inside
put t numbers = record {
  nodes = t.nodes;
  slots = t.slots;
  numbers = numbers;
  agenda = all_due t.agenda;
  changes = t.changes;
  sampled = false;
}

module _ (t : Inside) (is : IsTable t) (new : NumbersSeen) where
  -- as many numbers as before are a table's again
  pub put_is_table : (cells priors : List ℕ) → new ≡ with_kept t.numbers cells priors
      → length cells ≡ length t.numbers.cells → length priors ≡ length t.numbers.priors → IsTable (put t new)
  put_is_table cells priors same cells_long priors_long = record {
    pool = is.pool;
    few = is.few;
    laid = is.laid;
    small = subst (λ (n : NumbersSeen). n.watches.size ≤ 2 ^ 27) (sym same) is.small;
    sized = subst (IsSizedFor t.nodes.items) (sym same) (record {
      cells = cells_long ∙ is.sized.cells;
      earlier = is.sized.earlier;
      places = is.sized.places;
      marked = length-replicate (length t.numbers.cells) true ∙ is.sized.cells;
      widths = is.sized.widths;
      priors = priors_long ∙ is.sized.priors;
      values = is.sized.values;
    });
    agenda = record { dues = is.agenda.dues; dependents = is.agenda.dependents; cells = is.agenda.cells };
    room = is.room;
    quiet = λ some. absurd (false≢true (sym some));
  }

  module _ (bytes : List ℕ)
      (same : new ≡ with_kept t.numbers (words_at bytes 0 (length t.numbers.cells))
      (words_at bytes (4 * length t.numbers.cells) (length t.numbers.priors))) where
    pub back_is_table : IsTable (put t new)
    back_is_table =
        put_is_table _ _ same (length-words_at bytes 0 (length t.numbers.cells))
        (length-words_at bytes (4 * length t.numbers.cells) (length t.numbers.priors))

    pub put_back_by : IsPutBack (table_seen t) (table_seen (put t new)) (words_at bytes 0 (length t.numbers.cells))
        (words_at bytes (4 * length t.numbers.cells) (length t.numbers.priors))
    put_back_by = record {
      pool = (refl, ap (λ (n : NumbersSeen). n.watches.size) same);
      cells_too = ap (λ (n : NumbersSeen). n.cells) same;
      priors_too = ap (λ (n : NumbersSeen). n.priors) same;
      values = ap (λ (n : NumbersSeen). n.values) same;
      not_sampled = refl;
      marked = ap (λ (n : NumbersSeen). n.watches.marked) same
          ∙ ap (λ n. replicate n true) (sym (length-words_at bytes 0 (length t.numbers.cells)));
      places = ap (λ (n : NumbersSeen). n.watches.places) same;
      agrees = λ image long. Agrees-marked (table_seen (put t new)) image (length t.numbers.cells)
          (ap (λ (n : NumbersSeen). n.watches.marked) same);
    }

  module _ (cell number : ℕ)
      (same : new ≡ with_kept t.numbers (slice_set t.numbers.cells cell number) t.numbers.priors) where
    pub cell_is_table : IsTable (put t new)
    cell_is_table = put_is_table _ _ same (length-set t.numbers.cells cell number) refl

    pub cell_put_by : IsCellPut (table_seen t) (table_seen (put t new)) cell number
    cell_put_by = record {
      is = ap (λ n. table_seen (put t n)) same;
      agrees = λ image long. Agrees-marked (table_seen (put t new)) image (length t.numbers.cells)
          (ap (λ (n : NumbersSeen). n.watches.marked) same);
    }

  module _ (prior number : ℕ)
      (same : new ≡ with_kept t.numbers t.numbers.cells (slice_set t.numbers.priors prior number)) where
    pub prior_is_table : IsTable (put t new)
    prior_is_table = put_is_table _ _ same refl (length-set t.numbers.priors prior number)

    pub prior_put_by : IsPriorPut (table_seen t) (table_seen (put t new)) prior number
    prior_put_by = record {
      is = ap (λ n. table_seen (put t n)) same;
      agrees = λ image long. Agrees-marked (table_seen (put t new)) image (length t.numbers.cells)
          (ap (λ (n : NumbersSeen). n.watches.marked) same);
    }
