-- What a call of the C library leaves: its word, and the buffers, beside what the definitions of document 02's requests say.
use Rattle.std.specs.Prelude.{ℕ, List, Float}
use Rattle.allocation.specs.Allocation.{Outcome}
use Rattle.mapping.specs.Vector.{Vector}
use Rattle.words.specs.Words.{answer_word}

-- by sharing places
pub record PlacesLeft : Type 0 where
  pub word : ℕ
  pub places : List ℕ

abbrev pub places_left : ℕ → List ℕ → PlacesLeft
places_left word places = record { word = word; places = places }

abbrev pub places_left_by : Outcome → PlacesLeft
places_left_by g = places_left (answer_word g.answer) g.places

-- by filling a vector
pub record VectorLeft : Type 0 where
  pub word : ℕ
  pub re : List Float
  pub im : List Float

abbrev pub vector_left : ℕ → (re im : List Float) → VectorLeft
vector_left word re im = record { word = word; re = re; im = im }

abbrev pub vector_left_by : Vector → VectorLeft
vector_left_by g = vector_left (answer_word g.answer) g.re g.im
