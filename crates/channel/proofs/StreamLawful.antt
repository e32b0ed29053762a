-- The reading laws of the whole stream: its parts have them, and the ways of putting readers together keep them.
-- Assumes nothing.
use Prim.Native.Nat.{ℕ}
use mathlib.Core.List.{List}
use Rattle.bits.proofs.Lawful.{Lawful, not-refused, after-placed, bind-accepting, bind_lawful, give-lawful}
use Rattle.bits.proofs.FieldLaws.{field-lawful, zero_bit-lawful}
use Rattle.channel_lines.proofs.SpectrumLawful.{spectrum-lawful}
use Rattle.channel_side.specs.declared.window.Window.{Window}
use Rattle.channel_side.proofs.SideLawful.{window-lawful, sections-lawful, factors-lawful, pulses-lawful, applied_accepting}
use Rattle.channel_side.proofs.PulsePlaces.{pulses-up-to, applied-up-to}
use Rattle.channel_side.specs.Window.{is_short}
use Rattle.channel_side.specs.Pulses.{pulses, apply_pulses}
use Rattle.channel.specs.Stream.{head_of, no_tools, unpulsed, coded_of, stream_with, stream_after, stream}

ruleset laws = (bind_lawful, give-lawful, field-lawful, zero_bit-lawful)

head_of-lawful : (index : ℕ) → Lawful (head_of index)
unfolding head_of
head_of-lawful index = search (laws, window-lawful) depth 12

unpulsed-lawful : (index : ℕ) (w : Window) (books : List ℕ) → Lawful (unpulsed index w books)
unfolding unpulsed no_tools
unpulsed-lawful index w books = search (laws, spectrum-lawful) depth 12

-- a pulse is refused at its place, which the pulses hold: it is no further than the end that they were read up to
coded_of-lawful : (index : ℕ) (w : Window) (books : List ℕ) → Lawful (coded_of index w books)
unfolding coded_of
coded_of-lawful index w books = record {
  accepts =
      bind-accepting _ _ (pulses-lawful index (is_short w)).accepts λ ps.
      bind-accepting _ _ (unpulsed-lawful index w books).accepts λ before.
      bind-accepting _ _ (applied_accepting ps before) λ lines. (give-lawful _).accepts;
  placed = λ s at end n p h.
      after-placed (pulses index (is_short w)) _ s at end n p (λ m q. (pulses-lawful index (is_short w)).placed s at end m q h) λ ps m e.
      let a = (pulses-lawful index (is_short w)).accepts.within s at end m ps h e in
      after-placed (unpulsed index w books) _ s m end n p (λ k q. (unpulsed-lawful index w books).placed s m end k q a.1) λ before o f.
      let low = pulses-up-to s end index (is_short w) at ps m h e in
      after-placed (apply_pulses ps before) _ s o end n p (applied-up-to s end ps low before o) (λ lines k g. not-refused);
}

pub stream-lawful : (index : ℕ) → Lawful (stream index)
unfolding stream stream_after stream_with
stream-lawful index = search (laws, head_of-lawful, sections-lawful, factors-lawful, coded_of-lawful) depth 12
