-- What the code of the whole stream cites: its parts one after another, by what each of them answered.
-- Assumes nothing.
use Prim.Native.Nat.{ℕ, ◌*◌}
use mathlib.Core.Path.{◌≡◌, refl}
use mathlib.Core.List.{List}
use lib.IntN.{ℤ, pos}
use Rattle.std.proofs.Common.{Result, Ok, Err}
use lib.ListN.{length, replicate}
use Rattle.bits.specs.Reader.{Answer, got}
use Rattle.bits.specs.InnerAnswers.{ended_answer}
use Rattle.bits.specs.declared.Refusal.{Refusal}
use Rattle.channel_bands.specs.Bands.{long34, short34, long67, short67}
use Rattle.channel_bands.specs.InnerBands.{all_edges}
use Rattle.channel_lines.specs.Spectrum.{group_lines, spectrum}
use Rattle.channel.specs.InnerAnswers.{HoldsLines, HoldsRest}
use Rattle.channel_side.specs.declared.window.Window.{Window}
use Rattle.channel_side.specs.Window.{is_short, max_sfb, groups}
use Rattle.channel_side.specs.Sections.{group_books, width_of, sections}
use Rattle.channel_side.specs.Factors.{first_factors, scale_factors}
use Rattle.channel_side.specs.declared.pulses.Pulses.{Pulses}
use Rattle.channel_side.specs.Pulses.{pulses, apply_pulses}
use Rattle.channel.specs.Stream.{Head, unpulsed, coded_of, stream_with, stream_after}

-- the spectrum, as the code reads it with lent bands and lines
pub spectrum-is : {x : Answer (List ℤ)} (edges bs : List ℕ) (n : ℕ) (books gs : List ℕ) (lines : List ℤ) (s : List ℕ) (at end : ℕ)
    → edges ≡ bs
    → lines ≡ replicate 1024 (pos 0) → group_lines edges n books gs 0 0 lines s at end ≡ x → spectrum bs n books gs s at end ≡ x
unfolding spectrum
spectrum-is edges bs n books gs lines s at end b l e = rw (← b, ← l) e

-- the pulses on the lines that were read
pub coded-is : (index : ℕ) (w : Window) (books s : List ℕ) (at end : ℕ) {ps : Pulses} {a₁ : ℕ} {before : List ℤ} {a₂ : ℕ}
    → pulses index (is_short w) s at end ≡ got ps a₁ → unpulsed index w books s a₁ end ≡ got before a₂
    → (r : Result ℕ Refusal) (lines : List ℤ)
    → ended_answer r lines ≡ apply_pulses ps before s a₂ end → HoldsLines r lines (coded_of index w books s at end)
unfolding coded_of
coded-is index w books s at end {ps} {before = before} e₁ e₂ (Ok next) lines e₃ =
    (record { pulses = ps; before = before; lines = lines }, refl, rw (e₁, e₂, ← e₃))
coded-is index w books s at end e₁ e₂ (Err r) lines e₃ = rw (e₁, e₂, ← e₃)

-- the sections, as the code reads them into lent books
pub sections-is : {x : Answer (List ℕ)} (w : Window) (books s : List ℕ) (at end : ℕ) → books ≡ replicate 120 0
    → group_books (width_of (is_short w)) (max_sfb w) (groups w) 0 books s at end ≡ x → sections w s at end ≡ x
unfolding sections
sections-is w books s at end b e = rw (← b) e

-- the scale factors, as the code reads them into a lent array
pub factors-is : {x : Answer (List ℕ)} (gain : ℕ) (w : Window) (n : ℕ) (books factors s : List ℕ) (at end : ℕ) → n ≡ length (groups w)
    → factors ≡ replicate 120 0
    → x ≡ first_factors (n * max_sfb w) gain books factors s at end → x ≡ scale_factors gain w books s at end
unfolding scale_factors
factors-is gain w n books factors s at end c f e = rw (← c, ← f) e

-- the lines, after books and scale factors
pub lines_on : (index : ℕ) (h : Head) (books s : List ℕ) (at end : ℕ) {factors : List ℕ} {a₂ : ℕ}
    → scale_factors h.gain h.window books s at end ≡ got factors a₂
    → (r : Result ℕ Refusal) (lines : List ℤ) → HoldsLines r lines (coded_of index h.window books s a₂ end)
    → HoldsRest r h books factors lines (stream_with index h books s at end)
unfolding stream_with
lines_on index h books s at end e (Ok next) lines o = (o.0, o.1, rw (e, o.2))
lines_on index h books s at end e (Err r) lines o = rw (e, o)

-- the books, and what follows them
pub books_on : (index : ℕ) (h : Head) (s : List ℕ) (at end : ℕ) {books : List ℕ} {m : ℕ} → sections h.window s at end ≡ got books m
    → stream_after index h s at end ≡ stream_with index h books s m end
unfolding stream_after
books_on index h s at end e = rw e

pub edges-count : length all_edges ≡ 129
unfolding all_edges long34 short34 long67 short67
edges-count = refl
