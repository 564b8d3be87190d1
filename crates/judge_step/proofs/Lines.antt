-- The line of a verdict, by its answer, and what is said of an L1 frame. Assumes nothing.
use mathlib.Core.Path.{◌≡◌, sym, ap, ◌∙◌}
use mathlib.Core.List.{List, []}
use Prim.Native.Nat.{ℕ, ◌≤◌}
use native.Mathlib.Omega.{arith}
use lib.ListN.{length, take}
use Rattle.io.specs.Counts.{IsPrefixLen}
use Rattle.io.proofs.Counting.{prefix_len_of_le}
use Rattle.runs.specs.declared.Answer.{Answer}
use Rattle.runs.specs.Answers.{number_of, on_success, place_of}
use Rattle.runs.proofs.Answered.{not-success, success-is}
use Rattle.text.specs.Letters.{ascii}
use Rattle.text.specs.Put.{Put}
use Rattle.messages.specs.Lines.{in_words}
use Rattle.messages.proofs.Put.{at-start}
use Rattle.dumps.specs.declared.Verdict.{Verdict}
use Rattle.dumps.specs.Next.{Next}
use Rattle.judge_step.specs.Said.{line_of, said, said_of}

on-success : {A : Type 0} (a : Answer) (done refused : A) → number_of a ≡ 0 → on_success a done refused ≡ done
unfolding on_success
on-success a done refused z = rw (success-is a z)

pub accepted-put : {a b : List ℕ} {end : ℕ} (v : Verdict) → 251 ≤ length a → number_of v.answer ≡ 0 → Put a b 0 end 9 (ascii "accepted\n")
    → IsPrefixLen end b × (take end b ≡ line_of v)
unfolding line_of
accepted-put v room z p =
    let h = at-start (omega arith) p in
    (h.0, h.1 ∙ sym (on-success v.answer (ascii "accepted\n") (in_words (number_of v.answer) (place_of v.answer) v.frame) z))

pub said-refused : (v : Verdict) (text : List ℕ) → (number_of v.answer ≡ 0 → ⊥) → text ≡ in_words (number_of v.answer) (place_of v.answer) v.frame
    → text ≡ line_of v
unfolding line_of
said-refused v text ne e =
    e ∙ sym (not-success v.answer (ascii "accepted\n") (in_words (number_of v.answer) (place_of v.answer) v.frame) (λ z. ne (ap number_of z)))

quiet : (n : Next) → number_of n.judged.verdict.answer ≡ 0 → said n.judged.state n.memory [] ≡ said_of n
unfolding said_of
quiet n z = λ i. said n.judged.state n.memory (sym (on-success n.judged.verdict.answer [] (line_of n.judged.verdict) z) i)

spoken : (n : Next) (text : List ℕ) → (number_of n.judged.verdict.answer ≡ 0 → ⊥) → text ≡ line_of n.judged.verdict
    → said n.judged.state n.memory text ≡ said_of n
unfolding said_of
spoken n text ne e =
    λ i.
    said n.judged.state n.memory
    ((e ∙ sym (not-success n.judged.verdict.answer [] (line_of n.judged.verdict) (λ z. ne (ap number_of z)))) i)

-- an L1 frame that is accepted, of which nothing is said
pub goes_on : (n h : Next) (out : List ℕ) → n ≡ h → number_of n.judged.verdict.answer ≡ 0
    → IsPrefixLen 0 out × (said n.judged.state n.memory (take 0 out) ≡ said_of h)
goes_on n h out same z = (prefix_len_of_le 0 out (omega arith), quiet n z ∙ ap said_of same)

-- one that is not
pub stops : (n h : Next) (text : List ℕ) → n ≡ h → (number_of n.judged.verdict.answer ≡ 0 → ⊥) → text ≡ line_of n.judged.verdict
    → said n.judged.state n.memory text ≡ said_of h
stops n h text same ne e = spoken n text ne e ∙ ap said_of same
