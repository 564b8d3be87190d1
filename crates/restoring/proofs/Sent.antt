-- The cells of a PIDS frame in PM of a sender's run are the coding that S-11 and S-12 are stated over, so that the frame sent fits what was copied of them.
-- Assumes nothing.
use mathlib.Core.Path.{◌≡◌, refl, sym, ap, ap₂, ◌∙◌}
use mathlib.Core.Logic.{◌⊎◌, inl, inr}
use mathlib.Core.List.{List, [], ◌∷◌}
use Prim.Native.Nat.{ℕ, zero, suc, ◌+◌, ◌*◌, ◌/◌, ◌%◌, ◌<◌, ◌≤◌}
use native.Mathlib.Decide.{dec_lt}
use native.Mathlib.Omega.{arith}
use lib.ListN.{length, take, drop, length-take, length-drop}
use lib.Seq.{get_or-drop}
use Rattle.bits.specs.Bits.{Bytes, bit_at}
use Rattle.bits.proofs.Numbers.{number-cong}
use Rattle.bits.proofs.Parts.{bit_at-part}
use Rattle.scrambling.specs.Scrambler.{scrambled}
use Rattle.scrambling.proofs.Laws.{scrambled-same}
use Rattle.coding.specs.declared.Rate.TheVariants.{TwoFifths}
use Rattle.coding.specs.Coder.{coded, rate25}
use Rattle.coding.specs.Inverse.{recipe25}
use Rattle.coding.specs.Channel.{part, channel}
use Rattle.coding.proofs.Coder.{coded-same, coded-injective}
use Rattle.coding.proofs.Inverts.{inverts}
use Rattle.runs.specs.declared.Answer.{Answer}
use Rattle.runs.specs.declared.Answer.TheVariants.{Success, SeveralFit}
use Rattle.runs.specs.Lengths.{pids_len}
use Rattle.runs.specs.Lent.{Frames}
use Rattle.runs.specs.Runs.{Fitting, frame_at, matrices_at}
use Rattle.runs.proofs.PM.{pids-long}
use Rattle.runs.proofs.Sender.{right-at}
use Rattle.runs.proofs.Shown.{pids-shown}
use Rattle.trellis.specs.Cells.{Frame, scrambled_of, coded_bits, distance}
use Rattle.trellis.specs.Paths.{start}
use Rattle.trellis.proofs.Closing.{start-lt}
use Rattle.trellis.proofs.Distances.{apart-cong}
use Rattle.decoding.specs.declared.Decoded.{Decoded}
use Rattle.decoding.specs.Outcomes.{judged, Named, Answered}
use Rattle.decoding.proofs.Answering.{judged-right}
use Rattle.decoding.proofs.Margins.{lex-distance}
use Rattle.decoding.proofs.Outcomes.{no-nearer}
use Rattle.decoding.proofs.Ranking.{frame-bits, frame_same, rank-order}
use Rattle.restoring.specs.Restored.{Fits, Settled}
use Rattle.restoring.specs.Sent.{frame_in, cell_in, Copied, AllRead, mis_copied, PidsSent, SentPids}
use Rattle.restoring.proofs.Fitting.{fits-zero, zero-fits}
use Rattle.restoring.proofs.Lengths.{lengths-right}

-- ---- one frame of sixteen

bytes_take : (n : ℕ) (l : List ℕ) → Bytes l → Bytes (take n l)
bytes_take zero l h j = omega arith
bytes_take (suc n) [] h j = omega arith
bytes_take (suc n) (x ∷ l) h zero = h 0
bytes_take (suc n) (x ∷ l) h (suc j) = bytes_take n l (λ i. h (suc i)) j

frame-of : (pids : List ℕ) (f : ℕ) → length pids ≡ 160 → Bytes pids → f < 16 → Frame (frame_in pids f)
frame-of pids f e h l =
    record {
      ten = simp (length-take, length-drop) (omega arith);
      bytes = bytes_take 10 (drop (10 * f) pids) (λ j. rw (get_or-drop (10 * f) pids j 0) (h (10 * f + j)));
    }

frame-sent : (mode : ℕ) (sent : Frames) (f : ℕ) → Fitting mode sent → f < 16 → Frame (frame_in sent.pids f)
unfolding pids_len
frame-sent mode sent f right l = frame-of sent.pids f right.pids-right right.bytes.pids-bytes l

-- the channel's coded bits, frame by frame
channel-of : (pids : List ℕ) (f n : ℕ) → n < 200 → channel TwoFifths 80 (bit_at pids) (200 * f + n) ≡ coded_bits (scrambled_of (frame_in pids f)) n
unfolding channel
channel-of pids f n l =
    let q : (200 * f + n) / 200 ≡ f = omega arith in
    let r : (200 * f + n) % 200 ≡ n = omega arith in
    ap₂ (λ (k m : ℕ). coded rate25 80 (scrambled (part 80 k (bit_at pids))) m) q r
    ∙ coded-same rate25 80 (scrambled (part 80 f (bit_at pids))) (scrambled_of (frame_in pids f)) (omega arith)
    (λ i h. scrambled-same (part 80 f (bit_at pids)) (bit_at (frame_in pids f)) i
    (sym (bit_at-part pids (10 * f) 10 i (omega arith) ∙ ap (bit_at pids) (omega arith))))
    n

-- ---- of two frames that fit cells that were all read, the one is the other

whole-alone : (cells a b : List ℕ) → AllRead cells → Fits cells a → Fits cells b → a ≡ b
whole-alone cells a b all fa fb =
    frame_same a b fa.shape fb.shape
    (number-cong 80 (scrambled_of a) (scrambled_of b)
    (coded-injective rate25 recipe25 (inverts TwoFifths) 80 pids-long (scrambled_of a) (scrambled_of b) (frame-bits a) (frame-bits b)
    (λ n l. sym (fa.each n l (all n l)) ∙ fb.each n l (all n l))))

-- ---- what follows where the cells of a frame in PM are the coding of a frame

module _ (pm : List ℕ) (f : ℕ) (sent : List ℕ) (shape : Frame sent) (coding : (n : ℕ) → n < 200 → cell_in pm f n ≡ coded_bits (scrambled_of sent) n) where
  copied-fits : (cells : List ℕ) → Copied pm f cells → Fits cells sent
  copied-fits cells c = record { shape = shape; each = λ n l r. c.each n l r ∙ coding n l }

  miscopied-is : (cells : List ℕ) → mis_copied pm f cells ≡ distance cells (scrambled_of sent)
  unfolding distance
  miscopied-is cells = apart-cong cells (cell_in pm f) (coded_bits (scrambled_of sent)) 200 coding

  settled-by : (cells before after : List ℕ) (r : Answer) → Fits cells sent → Settled cells before after r
      → ((r ≡ Success) × (after ≡ sent)) ⊎ ((r ≡ SeveralFit) × (after ≡ before))
  settled-by cells before after r c (inl o) = inl (o.answer, sym (o.alone sent c))
  settled-by cells before after r c (inr (inl o)) = absurd (o.nothing sent c)
  settled-by cells before after r c (inr (inr o)) = inr (o.answer, o.unchanged)

  settled-whole : (cells before after : List ℕ) (r : Answer) → Fits cells sent → AllRead cells → Settled cells before after r → (r ≡ Success) × (after ≡ sent)
  settled-whole cells before after r c all (inl o) = (o.answer, sym (o.alone sent c))
  settled-whole cells before after r c all (inr (inl o)) = absurd (o.nothing sent c)
  settled-whole cells before after r c all (inr (inr o)) = absurd (o.differ (whole-alone cells o.one o.other all o.one-fits o.other_fits))

  farther : (cells before after : List ℕ) (budget : ℕ) (r : Decoded) → Answered cells before after budget r → r.answer ≡ Success
      → r.distance ≤ mis_copied pm f cells + r.margin
  farther cells before after budget r a e = omega (arith, no-nearer cells before after budget r a e sent shape, miscopied-is cells)

  farther-of-all : (cells before after : List ℕ) (r : Decoded) → Answered cells before after 64 r → r.answer ≡ Success → r.distance ≤ mis_copied pm f cells
  farther-of-all cells before after r a e =
      let n = a.named (sym a.answer ∙ e) in
      omega (arith, farther cells before after 64 r a e, n.margin.all refl)

  module _ (cells before after : List ℕ) (budget : ℕ) (r : Decoded) (c : Copied pm f cells) (all : AllRead cells) (l : length before ≡ 10)
      (low : budget ≤ 64) (tried : start (scrambled_of sent) < budget) (a : Answered cells before after budget r) where
    passes : judged cells before budget ≡ Success
    passes = judged-right cells before budget c.long l (omega arith) low

    named : Named cells after budget r
    named = a.named passes

    no_distance : r.distance ≡ 0
    no_distance =
        omega (
          arith,
          named.distance,
          fits-zero cells sent (copied-fits cells c),
          lex-distance _ _ _ _ _ _
              ((rank-order cells (scrambled_of after) (scrambled_of sent) (frame-bits after) (frame-bits sent)).0 (named.nearest.first sent shape tried)),
        )

    no-margin : r.margin ≡ 0
    no-margin =
        elim (dec_lt budget 64) [
          | yes h ↦ omega (arith, no_distance, (named.margin.some h).2)
          | no h ↦ named.margin.all (omega arith)
        ]

    pub nearest-whole : (after ≡ sent) × (r ≡ record { answer = Success; distance = 0; margin = 0 })
    nearest-whole = (
      whole-alone cells after sent all (zero-fits cells after named.nearest.shape (sym named.distance ∙ no_distance)) (copied-fits cells c),
      λ i. record { answer = (a.answer ∙ passes) i; distance = no_distance i; margin = no-margin i },
    )

  pub pids-of : PidsSent pm f sent
  pids-of =
      record {
        shape = shape;
        coding = coding;
        fits = copied-fits;
        restored = λ cells before after r c l o. settled-by cells before after r (copied-fits cells c) (o.right (lengths-right cells before c.long l));
        restored-whole = λ cells before after r c all l o.
            settled-whole cells before after r (copied-fits cells c) all (o.right (lengths-right cells before c.long l));
        nearest = nearest-whole;
        nearest-of-all = λ cells before after r c all l a.
            nearest-whole cells before after 64 r c all l (omega arith) (start-lt (scrambled_of sent) (frame-bits sent)) a;
        no-farther = farther;
        no-farther-of-all = farther-of-all;
      }

pub sent-pids : SentPids
sent-pids =
    record {
      channel-is = channel-of;
      each = λ mode a t f h l.
          let pids = (frame_at mode a t).pids in
          pids-of (matrices_at mode a t).pm f (frame_in pids f) (frame-sent mode (frame_at mode a t) f (right-at mode a t h) l)
          (λ n k. pids-shown mode a t h (200 * f + n) (omega arith) ∙ channel-of pids f n k);
    }
