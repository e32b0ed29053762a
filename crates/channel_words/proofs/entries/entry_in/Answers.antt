-- The leaf of the window at the place, and its answer; a lookup's words are short and lie before the end.
use Prim.Native.Nat.{ℕ, ◌+◌, ◌≤◌}
use mathlib.Core.Path.{◌≡◌, sym}
use mathlib.Core.List.{List}
use Rattle.std.proofs.Common.{Result, Ok, Err}
use Rattle.std.specs.Result.{IfOk}
use Rattle.bits.specs.InnerAnswers.{answer_of}
use Rattle.bits.specs.declared.Refusal.{Refusal}
use Rattle.bits.proofs.WindowLaws.{window-lt}
use Rattle.words.specs.InnerLookup.{looked}
use Rattle.words.proofs.LookupSteps.{looked-by}
use Rattle.channel_words.specs.InnerWords.{Readable}
use Rattle.channel_words.proofs.entries.entry_in.Goals as goal

inside-of : (look : List ℕ) (k count : ℕ) → Readable look k count → (s : List ℕ) (at end : ℕ) (x : Result (ℕ × ℕ) Refusal)
    → answer_of x ≡ looked look k s at end → IfOk x (λ r. (at ≤ r.1) × (r.1 ≤ end) × (r.1 ≤ at + 20))
inside-of look k count h s at end (Ok r) e = let w = h.inside s at end r.0 r.1 (sym e) in (w.0, w.1, w.2)
inside-of look k count h s at end (Err r) e = tt

pub leaf-requires : goal.leaf-requires
leaf-requires c = let h = c.requires.2 in (h.narrow, h.enough, rw c.requires.0 (window-lt _ _ _))

pub returns-clause-word : goal.returns-clause-word
returns-clause-word c = looked-by _ _ _ _ _ c.requires.0 c.leaf.ensures.0 c.answer.ensures

pub returns-clause-inside : goal.returns-clause-inside
returns-clause-inside c =
    inside-of _ _ _ c.requires.2 _ _ _ _ (looked-by _ _ _ _ _ c.requires.0 c.leaf.ensures.0 c.answer.ensures)
