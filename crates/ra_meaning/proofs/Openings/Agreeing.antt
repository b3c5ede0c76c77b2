-- Two starts that agree on the cells and tracked masks of a tree give it one value at every history.
use Rattle.std.proofs.Common.{◌≡◌, ℕ, [], ◌∷◌, refl, sym, ◌∙◌, ap, subst, inl}
use Rattle.ra_operand.specs.declared.kind.Kind.{Kind}
use Rattle.ra_operand.specs.declared.kind.Kind.TheVariants.{Mem, Delta, Prior, Bcd, Inverted}
use Rattle.ra_operand.specs.declared.size.Size.{Size}
use Rattle.ra_operand.specs.Views.{width_of, mask_of, view_of, transformed}
use Rattle.ra_operand.specs.Operators.{computed}
use Rattle.ra_memory.specs.Image.{History}
use Rattle.ra_indirect.specs.Trees.{Tree, constant, join, view, Cell, cell_of, Tracked, cells_in, tracked_in}
use Rattle.ra_indirect.specs.Trees.{tracked_by}
use Rattle.ra_memref.specs.Values.{Start, before, prior_of, looked_at, number_of, masked_by, value_of}
use Rattle.ra_member.proofs.Listed.{In, In_front, In_behind}

-- the starts give the cells and tracked masks of a tree one number
pub record AgreesOn (start start' : Start) (tree : Tree) : Type 0 where
  pub numbers : (c : Cell) → In c (cells_in tree) → start.number c ≡ start'.number c
  pub priors : (t : Tracked) → In t (tracked_in tree) → start.prior t ≡ start'.prior t

-- the number of a moved cell, by its pointer's values
moved_agrees : (opened opened' address width : ℕ) (p p' : History → ℕ) → opened ≡ opened' → ((h
    : History) → p h ≡ p' h) → number_of opened p address width ≡ number_of opened' p' address width
moved_agrees opened opened' address width p p' is same = λ i. number_of (is i) (λ h. same h i) address width

-- what a view looks at, by its cell's number at each history; a prior counts at a prior view alone
looked_agrees : (kind : Kind) (size : Size) (n n' : History → ℕ) (opened opened' : ℕ) → n ≡ n'
    → ((is_prior : kind ≡ Prior) → opened ≡ opened') → (h : History) → looked_at kind n (masked_by
    (mask_of size) n) opened h ≡ looked_at kind n' (masked_by (mask_of size) n') opened' h
looked_agrees Mem size n n' opened opened' same is h = λ i. same i h
looked_agrees Delta size n n' opened opened' same is h = λ i. same i (before h)
looked_agrees Prior size n n' opened opened' same is h = λ i. prior_of (masked_by (mask_of size) (same i)) (is refl i) h
looked_agrees Bcd size n n' opened opened' same is h = λ i. same i h
looked_agrees Inverted size n n' opened opened' same is h = λ i. same i h

module _ (start start' : Start) where
  prior_agrees : (kind : Kind) (size : Size) (pointer : Tree) (address : ℕ)
      → AgreesOn start start' (view kind size pointer address) → kind ≡ Prior
      → start.prior (record { cell = cell_of size pointer address; mask = mask_of size })
      ≡ start'.prior (record { cell = cell_of size pointer address; mask = mask_of size })
  prior_agrees kind size pointer address agree is =
      let t : Tracked = record { cell = cell_of size pointer address; mask = mask_of size } in
      let there : In t (tracked_by kind size (cell_of size pointer address)) =
      subst (λ k. In t (tracked_by k size (cell_of size pointer address))) (sym is) (inl refl) in
      agree.priors t (In_behind t (tracked_in pointer) (tracked_by kind size (cell_of size pointer address)) there)

  pub value_agrees : (tree : Tree) → AgreesOn start start' tree → (h : History)
      → value_of start tree h ≡ value_of start' tree h
  value_agrees (constant n) agree h = refl
  value_agrees (join op left right) agree h =
      let lefts : AgreesOn start start' left = record {
        numbers = λ c there. agree.numbers c (In_front c (cells_in left) (cells_in right) there);
        priors = λ t there. agree.priors t (In_front t (tracked_in left) (tracked_in right) there);
      } in
      let rights : AgreesOn start start' right = record {
        numbers = λ c there. agree.numbers c (In_behind c (cells_in left) (cells_in right) there);
        priors = λ t there. agree.priors t (In_behind t (tracked_in left) (tracked_in right) there);
      } in
      ap (λ n. computed op n (value_of start right h)) (value_agrees left lefts h)
      ∙ ap (λ n. computed op (value_of start' left h) n) (value_agrees right rights h)
  value_agrees (view kind size pointer address) agree h =
      let c : Cell = cell_of size pointer address in
      let pointers : AgreesOn start start' pointer = record {
        numbers = λ d there. agree.numbers d (In_front d (cells_in pointer) (c ∷ []) there);
        priors = λ t there. agree.priors t (In_front t (tracked_in pointer) (tracked_by kind size c) there);
      } in
      let moved = moved_agrees (start.number c) (start'.number c) address (width_of size)
      (value_of start pointer) (value_of start' pointer) (agree.numbers c
      (In_behind c (cells_in pointer) (c ∷ []) (inl refl))) (value_agrees pointer pointers) in
      ap (λ n. transformed kind size (view_of size n))
      (looked_agrees kind size (number_of (start.number c) (value_of start pointer) address
      (width_of size)) (number_of (start'.number c) (value_of start' pointer) address (width_of
      size)) (start.prior (record { cell = c; mask = mask_of size })) (start'.prior (record
      { cell = c; mask = mask_of size })) moved (prior_agrees kind size pointer address agree) h)
