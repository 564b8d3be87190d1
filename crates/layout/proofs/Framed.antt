-- The transfer frames of an L1 frame cut out of an input: the ends that the code finds are those of the definition. Assumes nothing.
use mathlib.Core.Path.{◌≡◌, ap, ◌∙◌}
use mathlib.Core.List.{List}
use Prim.Native.Nat.{ℕ, ◌+◌, ◌-◌, min}
use lib.ListN.{get_or, length, take, drop}
use Rattle.runs.specs.MainChannels.{main_of, p1_len, p2_len}
use Rattle.runs.specs.Lengths.{pids_len}
use Rattle.calls.specs.Called.{frames}
use Rattle.modes.specs.Sizes.{wanted}
use Rattle.layout.specs.Inputs.{frames_in}
use Rattle.layout.proofs.Cut.{cut-is, entry-is, first-end, next_start}

module _ (mode m3 m4 : ℕ) (input want : List ℕ) (lengths : want ≡ wanted mode m3 m4) where
  is : (k : ℕ) → get_or want k 0 ≡ get_or (wanted mode m3 m4) k 0
  is = entry-is mode m3 m4 want lengths

  pub frames-are : (n3 n4 reserved z a b c d e : ℕ) → reserved ≡ get_or input 0 0 → z ≡ 0 + min 1 (length input - 0) → a ≡ z + min (get_or want 0 0) (length input - z) → b ≡ a + min (get_or want 1 0) (length input - a)
      → c ≡ b + min (get_or want 2 0) (length input - b) → d ≡ c + min n3 (length input - c) → e ≡ d + min n4 (length input - d)
      → frames reserved (take (a - z) (drop z input)) (take (b - a) (drop a input)) (take (c - b) (drop b input)) (take (d - c) (drop c input)) (take (e - d) (drop d input))
      ≡ frames_in mode n3 n4 input
  unfolding frames_in
  frames-are n3 n4 reserved z a b c d e er ez ea eb ec fd fe =
      let n0 : ℕ = p1_len (main_of mode) in
      let n2 : ℕ = p2_len (main_of mode) in
      let fa : a ≡ z + min n0 (length input - z) = ea ∙ ap (λ (k : ℕ). z + min k (length input - z)) (is 0) in
      let fb : b ≡ a + min pids_len (length input - a) = eb ∙ ap (λ (k : ℕ). a + min k (length input - a)) (is 1) in
      let fc : c ≡ b + min n2 (length input - b) = ec ∙ ap (λ (k : ℕ). b + min k (length input - b)) (is 2) in
      let sz = first-end input 1 z ez in
      let sa = next_start input 1 n0 z a sz fa in
      let sb = next_start input (1 + n0) pids_len a b sa fb in
      let sc = next_start input (1 + n0 + pids_len) n2 b c sb fc in
      let sd = next_start input (1 + n0 + pids_len + n2) n3 c d sc fd in
      λ i.
      frames (er i) (cut-is input 1 n0 z a sz fa i) (cut-is input (1 + n0) pids_len a b sa fb i)
      (cut-is input (1 + n0 + pids_len) n2 b c sb fc i) (cut-is input (1 + n0 + pids_len + n2) n3 c d sc fd i)
      (cut-is input (1 + n0 + pids_len + n2 + n3) n4 d e sd fe i)
