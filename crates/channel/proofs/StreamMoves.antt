-- A stream that is accepted at one place is accepted wherever its bits stand, with the same head, books, scale factors and lines: only the
-- places of its pulses move.
-- Assumes nothing.
use Prim.Native.Nat.{ℕ, ◌+◌, ◌-◌, ◌≤◌}
use mathlib.Core.Path.{◌≡◌, refl}
use mathlib.Core.List.{List}
use native.Mathlib.Omega.{arith}
use Rattle.bits.specs.Reader.{got}
use Rattle.bits.proofs.Moves.{Alike, Moved, Moves, give-moved, give-moves, field-moves, zero_bit-moves, bind_moved, then_moved, bind_moves}
use Rattle.channel_lines.proofs.SpectrumMoves.{spectrum-moves}
use Rattle.channel_side.specs.declared.window.Window.{Window}
use Rattle.channel_side.proofs.SideMoves.{window-moves, sections-moves, factors-moves, like_itself, pulses-moved, applied_moved}
use Rattle.channel.specs.Stream.{Coded, Stream, head_of, no_tools, unpulsed, coded_of, stream_with, stream_after, stream}

ruleset laws = (bind_moves, give-moves, field-moves, zero_bit-moves)

head_of-moves : (index : ℕ) → Moves (head_of index)
unfolding head_of
head_of-moves index = search (laws, window-moves) depth 12

unpulsed-moves : (index : ℕ) (w : Window) (books : List ℕ) → Moves (unpulsed index w books)
unfolding unpulsed no_tools
unpulsed-moves index w books = search (laws, spectrum-moves) depth 12

abbrev LikeCoded : Coded → Coded → Type 0
LikeCoded x y = y.lines ≡ x.lines

coded_of-moved : (index : ℕ) (w : Window) (books : List ℕ) → Moved LikeCoded (coded_of index w books) (coded_of index w books)
unfolding coded_of
coded_of-moved index w books =
    bind_moved like_itself (pulses-moved index _) λ ps qs o.
    then_moved (unpulsed-moves index w books) λ before.
    then_moved (applied_moved ps qs o before) λ lines.
    give-moved refl

abbrev LikeStream : Stream → Stream → Type 0
LikeStream x y = (y.head ≡ x.head) × (y.books ≡ x.books) × (y.factors ≡ x.factors) × LikeCoded x.coded y.coded

stream-moved : (index : ℕ) → Moved LikeStream (stream index) (stream index)
unfolding stream stream_after stream_with
stream-moved index =
    then_moved (head_of-moves index) λ head.
    then_moved (sections-moves _) λ books.
    then_moved (factors-moves _ _ books) λ factors.
    bind_moved (λ coded. refl) (coded_of-moved index _ books) λ coded other e.
    give-moved (refl, refl, refl, e)

pub stream-moves : (index : ℕ) (s : List ℕ) (at end next : ℕ) (x : Stream) → stream index s at end ≡ got x next
    → (t : List ℕ) (at' end' : ℕ) → at' + (next - at) ≤ end' → Alike s at t at' (next - at)
    → (y : Stream) × (stream index t at' end' ≡ got y (at' + (next - at)))
    × (y.head ≡ x.head) × (y.books ≡ x.books) × (y.factors ≡ x.factors) × (y.coded.lines ≡ x.coded.lines)
stream-moves index s at end next x e t at' end' h q =
    let m = stream-moved index in
    let l = m.onward s at end next x e in
    let w = m.law s at end next x e t at' end' (at' + (next - at)) (omega arith) h q in
    (w.0, w.2, w.1.0, w.1.1, w.1.2, w.1.3)
