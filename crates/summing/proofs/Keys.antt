-- S-14: the run of the sums of an odd number of runs sends the sums of what they send. Assumes nothing.
use Prim.Native.Nat.{ℕ, zero, suc, ◌+◌, ◌%◌, ◌≤◌, ◌<◌}
use mathlib.Core.Path.{◌≡◌, refl, sym, ap, ◌∙◌}
use mathlib.Core.Bool.{true}
use mathlib.Core.List.{List, [], ◌∷◌}
use native.Mathlib.Nat.{add-suc, add-zero, suc-add, zero-add}
use native.Mathlib.Omega.{arith}
use lib.ListN.{length, get_or}
use Rattle.control.specs.Modes.{covered}
use Rattle.runs.specs.declared.Extended.TheVariants.{P3, P4}
use Rattle.runs.specs.MainChannels.{main_of, p1_len, p2_len}
use Rattle.runs.specs.Lengths.{kind_of, frame_len, pids_len}
use Rattle.runs.specs.Chain.{Buffer}
use Rattle.runs.specs.Lent.{Frames, Matrices, Memory}
use Rattle.runs.specs.Runs.{Every, Fitting, SenderRun, frames_sent, no_frames, count, frame_at, matrices_at, control_at, memory_after}
use Rattle.runs.specs.Defined.{table}
use Rattle.runs.proofs.Lists.{table_at}
use Rattle.runs.proofs.Sender.{control-at, covered_of, matrices-at, memory-at, right-at}
use Rattle.runs.proofs.Sendable.{can-send}
use Rattle.summing.specs.Sums.{sum_of, sum_number, sum_frames, sum_matrices, sum_memory}
use Rattle.summing.specs.Keys.{Together, Summed, Keys, ThreeOf, ThreeKeys, Three}
use Rattle.summing.proofs.Buffers.{bits-sum, bytes-sum, every_map, length-sum, of_three, sum_of-cong}
use Rattle.summing.proofs.Chained.{SumsFrames, before-sums, defined-control, defined-matrices}
use Rattle.runs.proofs.Cases.{each_extended}

-- ---- the sums of frames

module _ (mode : ℕ) {R : Type 0} (rs : List R) (odd : length rs % 2 ≡ 1) (f : R → Frames) (fit : Every (λ (r : R). Fitting mode (f r)) rs) where
  frames-bits : SumsFrames rs f (sum_frames rs f)
  unfolding sum_frames
  frames-bits =
      record {
        reserved-sum = refl;
        p1-sums = bits-sum rs odd _ _ (every_map (λ r x. x.p1-right) rs fit);
        pids-sums = bits-sum rs odd _ _ (every_map (λ r x. x.pids-right) rs fit);
        p2-sums = bits-sum rs odd _ _ (every_map (λ r x. x.p2-right) rs fit);
        extended-sums = each_extended _ (bits-sum rs odd _ _ (every_map (λ r x. x.extended-right P3) rs fit)) (bits-sum rs odd _ _ (every_map (λ r x. x.extended-right P4) rs fit));
      }

  number_lt : sum_number rs (λ r. (f r).reserved) < 8
  unfolding sum_number
  number_lt = omega arith

  frames-fit : Fitting mode (sum_frames rs f)
  unfolding sum_frames
  frames-fit =
      record {
        reserved-right = number_lt;
        p1-right = length-sum rs odd _ (p1_len (main_of mode)) (every_map (λ r x. x.p1-right) rs fit);
        pids-right = length-sum rs odd _ pids_len (every_map (λ r x. x.pids-right) rs fit);
        p2-right = length-sum rs odd _ (p2_len (main_of mode)) (every_map (λ r x. x.p2-right) rs fit);
        extended-right = each_extended _ (length-sum rs odd _ (frame_len (kind_of mode P3)) (every_map (λ r x. x.extended-right P3) rs fit)) (length-sum rs odd _ (frame_len (kind_of mode P4)) (every_map (λ r x. x.extended-right P4) rs fit));
        bytes = record {
          p1-bytes = bytes-sum rs odd _;
          pids-bytes = bytes-sum rs odd _;
          p2-bytes = bytes-sum rs odd _;
          extended-bytes = each_extended _ (bytes-sum rs odd _) (bytes-sum rs odd _);
        };
      }

-- ---- things that have the same are summed to the same

matrices-cong : {R : Type 0} (rs : List R) (x y : R → Matrices) → Every (λ (r : R). x r ≡ y r) rs → sum_matrices rs x ≡ sum_matrices rs y
unfolding sum_matrices
matrices-cong rs x y each = λ i. record { pm = of (λ s. s.pm) i; px1 = of (λ s. s.px1) i; px2 = of (λ s. s.px2) i }
  where
    of : (part : Matrices → Buffer) → sum_of rs (λ r. part (x r)) ≡ sum_of rs (λ r. part (y r))
    of part = sum_of-cong rs _ _ (every_map (λ r e. ap part e) rs each)

memory-cong : {R : Type 0} (rs : List R) (x y : R → Memory) → Every (λ (r : R). x r ≡ y r) rs → sum_memory rs x ≡ sum_memory rs y
unfolding sum_memory
memory-cong rs x y each = λ i. record { for3 = of (λ m. m.for3) i; for4 = of (λ m. m.for4) i; delayed = of (λ m. m.delayed) i }
  where
    of : (part : Memory → Buffer) → sum_of rs (λ r. part (x r)) ≡ sum_of rs (λ r. part (y r))
    of part = sum_of-cong rs _ _ (every_map (λ r e. ap part e) rs each)

-- ---- runs of n L1 frames

length-table : {A : Type 0} (n t : ℕ) (f : ℕ → A) → length (table t n f) ≡ n
unfolding table
length-table zero t f = refl
length-table (suc n) t f = ap suc (length-table n (suc t) f)

every-table : {A : Type 0} (P : A → Type 0) (n t : ℕ) (f : ℕ → A) → ((k : ℕ) → k < n → P (f (t + k))) → Every P (table t n f)
unfolding table
every-table P zero t f h = tt
every-table P (suc n) t f h = (rw (add-zero t) at (h 0 (omega arith)), every-table P n (suc t) f (λ k l. rw (suc-add t k, ← add-suc t k) (h (suc k) (omega arith))))

module _ (mode : ℕ) (rs : List (SenderRun mode)) (n : ℕ) (to : Together mode rs n) where
  all_fit : (t : ℕ) → t < n → Every (λ (r : SenderRun mode). Fitting mode (frame_at mode r t)) rs
  all_fit t h = every_map (λ r e. right-at mode r t (omega arith)) rs to.counts

  sums : ℕ → Frames
  sums t = sum_frames rs (λ r. frame_at mode r t)

  -- a run that sends them
  sending-sums : (s : SenderRun mode) → frames_sent mode s ≡ table 0 n sums → Summed mode rs n s
  unfolding count frame_at sums
  sending-sums s e =
      record {
        together = to;
        count-is = ap length e ∙ length-table n 0 sums;
        frames-are = λ t h. ap (λ (l : List Frames). get_or l t no_frames) e ∙ table_at n sums no_frames t h;
      }

  can-sum : covered mode ≡ true → (s : SenderRun mode) × Summed mode rs n s
  unfolding sums
  can-sum cov =
      let (s, e) = can-send mode cov (table 0 n sums) (every-table (Fitting mode) n 0 sums (λ k l. rw (zero-add k) (frames-fit mode rs to.odd _ (all_fit k l)))) in
      (s, sending-sums s e)

module _ (mode : ℕ) (rs : List (SenderRun mode)) (n : ℕ) (s : SenderRun mode) (su : Summed mode rs n s) where
  frames-sum : (t : ℕ) → t < n → SumsFrames rs (λ r. frame_at mode r t) (frame_at mode s t)
  frames-sum t h = rw (su.frames-are t h) (frames-bits mode rs su.together.odd _ (all_fit mode rs n su.together t h))

  matrices-sum : (t : ℕ) → t < n → matrices_at mode s t ≡ sum_matrices rs (λ r. matrices_at mode r t)
  matrices-sum t h =
      matrices-at mode s t (omega (arith, su.count-is))
      ∙ defined-matrices rs su.together.odd mode (λ r. frame_at mode r) (frame_at mode s) t (λ k l. frames-sum k (omega arith))
      ∙ matrices-cong rs _ _ (every_map (λ r e. sym (matrices-at mode r t (omega arith))) rs su.together.counts)

  control-sum : (t : ℕ) → t < n → control_at mode s t ≡ sum_of rs (λ r. control_at mode r t)
  control-sum t h =
      control-at mode s t (omega (arith, su.count-is))
      ∙ defined-control rs su.together.odd mode (λ r. frame_at mode r) (frame_at mode s) t (λ k l. frames-sum k (omega arith))
      ∙ sum_of-cong rs _ _ (every_map (λ r e. sym (control-at mode r t (omega arith))) rs su.together.counts)

  memory-sum : (t : ℕ) → t ≤ n → memory_after mode s t ≡ sum_memory rs (λ r. memory_after mode r t)
  memory-sum t h =
      memory-at mode s t (omega (arith, su.count-is))
      ∙ (before-sums rs su.together.odd mode (λ r. frame_at mode r) (frame_at mode s) t (λ k l. frames-sum k (omega arith))).is
      ∙ memory-cong rs _ _ (every_map (λ r e. sym (memory-at mode r t (omega arith))) rs su.together.counts)

pub keys : (mode : ℕ) → Keys mode
keys mode =
    record {
      matrices = matrices-sum mode;
      control = control-sum mode;
      memories = memory-sum mode;
      summed = λ rs n to. can-sum mode rs n to (covered-all rs to.odd);
    }
  where
    covered-all : (rs : List (SenderRun mode)) → length rs % 2 ≡ 1 → covered mode ≡ true
    covered-all [] odd = absurd (omega arith)
    covered-all (r ∷ rs) odd = covered_of mode r

-- ---- three runs, bit by bit

module _ (mode : ℕ) (a b c s : SenderRun mode) (n : ℕ) (su : Summed mode (a ∷ b ∷ c ∷ []) n s) where
  of-runs : (x : SenderRun mode → Buffer) → x s ≡ sum_of (a ∷ b ∷ c ∷ []) x → ThreeOf a b c s x
  of-runs x e = rw e (of_three a b c x)

  three-keys : ThreeKeys mode a b c s n
  unfolding sum_matrices sum_memory
  three-keys =
      record {
        pm = λ t h. of-runs _ (ap (λ (m : Matrices). m.pm) ((keys mode).matrices _ n s su t h));
        px1 = λ t h. of-runs _ (ap (λ (m : Matrices). m.px1) ((keys mode).matrices _ n s su t h));
        px2 = λ t h. of-runs _ (ap (λ (m : Matrices). m.px2) ((keys mode).matrices _ n s su t h));
        control = λ t h. of-runs _ ((keys mode).control _ n s su t h);
        for3 = λ t h. of-runs _ (ap (λ (m : Memory). m.for3) ((keys mode).memories _ n s su t h));
        for4 = λ t h. of-runs _ (ap (λ (m : Memory). m.for4) ((keys mode).memories _ n s su t h));
        delayed = λ t h. of-runs _ (ap (λ (m : Memory). m.delayed) ((keys mode).memories _ n s su t h));
      }

pub three : (mode : ℕ) → Three mode
three mode =
    record {
      sums = three-keys mode;
      summed = λ a b c n ea eb ec. (keys mode).summed (a ∷ b ∷ c ∷ []) n (record { odd = refl; counts = (ea, (eb, (ec, tt))) });
    }
