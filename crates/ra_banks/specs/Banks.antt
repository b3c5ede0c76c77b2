-- Banks as one image: docs/DEFINITIONS.md, "A frame that looks".
use Rattle.std.specs.Prelude.{◌≡◌, ℕ, ◌-◌, ◌<◌, ◌≤◌, ◌^◌, ◌++◌, List, length}
use Rattle.std.specs.List.{flat_map}
use Rattle.ra_banks.specs.declared.bank.Bank.{Bank}

-- the bytes of the banks, in their order
abbrev pub bytes_of : List Bank → List ℕ
bytes_of banks = flat_map (λ bank. bank.bytes.now) banks

-- these bytes stand among all of them, from this address on, and those after them
pub record IsPart (all here after : List ℕ) (start : ℕ) : Type 0 where
  pub before : List ℕ
  pub all_is : all ≡ before ++ (here ++ after)
  pub start_is : length before ≡ start

-- so do these, from an address of 32 bits on, and from this many of their places on four of them stand
pub record IsHere (all here after : List ℕ) (start wide : ℕ) : Type 0 where
  pub part : IsPart all here after start
  pub low : start < 2 ^ 32
  pub four : wide ≤ length here - 3
  pub small : wide ≤ 2 ^ 32
