-- S-8 by the lookup of each block alone: exactly when the lookup of sixteen blocks accepts, and when it refuses, with which place.
use Rattle.std.specs.Prelude.{◌≡◌, ◌↔◌, List, ℕ, ◌<◌, length, Result, Ok, Err}
use Rattle.control.specs.Departs.{block_at}
use Rattle.control.specs.Lookup.{block_numbers}
use Rattle.control.specs.declared.BlockNumbers.{BlockNumbers}
use Rattle.blockset.specs.LookupFrame.{frame_numbers}
use Rattle.runs.specs.declared.Answer.{Answer}
use Rattle.runs.specs.declared.Answer.TheVariants.{WrongLength, WrongControl, MixedControl}
use Rattle.queries.specs.Lookup.{lookup_of}
use Rattle.queries.specs.LookupFrame.{lookup_frame_of}

-- what block c of the control of an L1 frame is looked up as by itself
abbrev pub alone : List ℕ → ℕ → Result BlockNumbers Answer
alone control c = lookup_of (block_at control c)

-- it is not faulty by itself: some mode, count and reserved number are found
abbrev pub Passes : List ℕ → ℕ → Type 0
Passes control c = (mode count reserved : ℕ) × (alone control c ≡ Ok (block_numbers mode count reserved))

-- all sixteen blocks name this mode and this number and count 0 to 15 in order
pub record InOrder (control : List ℕ) (mode reserved : ℕ) : Type 0 where
  pub long : length control ≡ 4096
  pub each : (c : ℕ) → c < 16 → alone control c ≡ Ok (block_numbers mode c reserved)

-- block c is faulty by itself, and none below it; of those above nothing is said
pub record FirstFaulty (control : List ℕ) (c : ℕ) : Type 0 where
  pub long : length control ≡ 4096
  pub inside : c < 16
  pub faulty : alone control c ≡ Err (WrongControl 0)
  pub below : (k : ℕ) → k < c → Passes control k

-- no block is faulty by itself, and c is the first that does not fit block 0's mode and number and its own position
pub record FirstUnfit (control : List ℕ) (c : ℕ) : Type 0 where
  pub long : length control ≡ 4096
  pub inside : c < 16
  pub each : (k : ℕ) → k < 16 → Passes control k
  pub mode : ℕ
  pub count : ℕ
  pub reserved : ℕ
  pub first : alone control 0 ≡ Ok (block_numbers mode count reserved)
  pub below : (k : ℕ) → k < c → alone control k ≡ Ok (block_numbers mode k reserved)
  pub unfit : alone control c ≡ Ok (block_numbers mode c reserved) → ⊥

-- the four outcomes, each exactly when: another length is 3, place 0
pub record OneByOne (control : List ℕ) : Type 0 where
  pub other_length : (lookup_frame_of control ≡ Err (WrongLength 0)) ↔ (length control ≡ 4096 → ⊥)
  pub accepted : (mode reserved : ℕ) → (lookup_frame_of control ≡ Ok (frame_numbers mode reserved)) ↔ InOrder control mode reserved
  pub refused-4 : (c : ℕ) → (lookup_frame_of control ≡ Err (WrongControl c)) ↔ FirstFaulty control c
  pub refused-13 : (c : ℕ) → (lookup_frame_of control ≡ Err (MixedControl c)) ↔ FirstUnfit control c
