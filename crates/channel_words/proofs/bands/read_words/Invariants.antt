-- A word a turn, read into the lines after those of the words before it.
use Prim.Native.Nat.{ℕ, ◌+◌, ◌*◌, ◌-◌}
use mathlib.Core.Path.{◌≡◌}
use Rattle.bits.specs.Loop.{counted}
use Rattle.channel_words.proofs.bands.read_words.Given as goal

abbrev pub invariant-loop-t : goal.invariant-loop-t
invariant-loop-t g l =
    let f = λ (t : ℕ). g.K.Kind.word l.kind l.look l.bits (l.first + t * g.K.Kind.SIZE) in
    counted 0 l.words f l.initial.lines l.s.bytes.now l.at l.s.end ≡ counted l.t (l.words - l.t) f l.lines l.s.bytes.now l.place l.s.end
