use Rattle.std.proofs.Common.{◌≡◌, ◌∙◌, sym, ap, ◌++◌, ◌∷◌, [], w32, get_or}
use Rattle.std.specs.Int.{to_le_bytes}
use Rattle.md5.specs.Md5.{md5}
use Rattle.ra_memref.proofs.Listings.{elements, elements_are}
use Rattle.ra_memref.proofs.names.cell_name.Goals as goal

pub returns : goal.returns
returns c =
    let pointer = c.args.pointer.now in
    let whole : pointer ≡ elements pointer 0 16 = elements_are pointer 0 16 (sym c.told-pointer) in
    c.finalize.ensures _ (c.update.ensures _ c.new-hasher.ensures)
    ∙ ap (λ place. md5 (77 ∷ (elements pointer 0 16 ++ (get_or place 0 0 ∷ get_or place 1 0
    ∷ get_or place 2 0 ∷ get_or place 3 0 ∷ c.args.width ∷ [])))) c.to_le_bytes.ensures
    ∙ ap (λ name. md5 (77 ∷ (name ++ (to_le_bytes w32 c.args.address ++ c.args.width ∷ [])))) (sym whole)
