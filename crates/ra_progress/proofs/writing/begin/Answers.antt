use Rattle.std.proofs.Common.{◌≡◌, ◌++◌, ◌∙◌, ap, [], ◌∷◌, length, append_assoc}
use Rattle.std.specs.Int.{w32, w64, to_le_bytes}
use Rattle.ra_progress.specs.Contents.{shape_contents}
use Rattle.ra_progress.specs.Names.{entry_names}
use Rattle.ra_progress.specs.Spelling.{mark, named_words}
use Rattle.ra_progress.proofs.Blocks.{steps_6}
use Rattle.ra_progress.proofs.Owns.{names_count}
use Rattle.ra_progress.proofs.Written.{all_fit}
use Rattle.ra_progress.proofs.writing.begin.Goals as goal

pub returns-clause-bytes : goal.returns-clause-bytes
returns-clause-bytes c =
    let shape = c.args.shape.now in
    let front = mark ++ 3 ∷ [] in
    let cells = to_le_bytes w32 (length shape.cells.items) ++ named_words shape.cells.items c.args.cells.now in
    let priors = to_le_bytes w32 (length shape.priors.items) ++ named_words shape.priors.items c.args.priors.now in
    let one : c.put_numbered.new.bytes.items ≡ c.extend_from_slice-3.new.self.items ++ cells =
    rw c.deref.ensures.value at c.in_ok-put_numbered.ensures in
    let two : c.put_numbered-2.new.bytes.items ≡ c.put_numbered.new.bytes.items ++ priors =
    rw c.deref-2.ensures.value at c.in_ok-put_numbered-2.ensures in
    let frames = to_le_bytes w64 c.args.frames in
    let count : c.own_count.result ≡ length (entry_names (shape_contents shape)) = c.own_count.ensures
    ∙ names_count (shape_contents shape) c.requires.usable.searchable.paired in
    let many = to_le_bytes w32 (length (entry_names (shape_contents shape))) in
    c.in_ok-extend_from_slice-4.ensures.items
    ∙ ap (λ xs. c.put_numbered-2.new.bytes.items ++ xs) (c.to_le_bytes-2.ensures ∙ ap (to_le_bytes w32) count)
    ∙ ap (λ xs. xs ++ many) (two ∙ ap (λ xs. xs ++ priors) (one ∙ ap (λ xs. xs ++ cells)
    (c.in_ok-extend_from_slice-3.ensures.items
    ∙ ap (λ xs. c.extend_from_slice-2.new.self.items ++ xs) c.to_le_bytes.ensures
    ∙ ap (λ xs. xs ++ frames) (c.in_ok-extend_from_slice-2.ensures.items
    ∙ ap (λ xs. xs ++ shape.digest) (c.in_ok-extend_from_slice.ensures.items
    ∙ ap (λ xs. xs ++ front) c.in_ok-bytes.ensures.items)))))
    ∙ steps_6 [] front shape.digest frames cells priors many
    ∙ ap (λ xs. front ++ (shape.digest ++ (frames ++ xs)))
    (append_assoc (to_le_bytes w32 (length shape.cells.items)) (named_words shape.cells.items c.args.cells.now)
    (priors ++ many)
    ∙ ap (λ xs. to_le_bytes w32 (length shape.cells.items) ++ (named_words shape.cells.items c.args.cells.now ++ xs))
    (append_assoc (to_le_bytes w32 (length shape.priors.items))
    (named_words shape.priors.items c.args.priors.now) many))

pub returns-clause-cells : goal.returns-clause-cells
returns-clause-cells c = record { as_many = c.requires.cells; fit = all_fit c.args.cells.now c.type_inv.cells }

pub returns-clause-priors : goal.returns-clause-priors
returns-clause-priors c = record { as_many = c.requires.priors; fit = all_fit c.args.priors.now c.type_inv.priors }
