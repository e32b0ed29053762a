-- Every line of the table of bench examples holds: by computing, and for 11110 by what the first five bits are.
-- Assumes nothing.
use Prim.Native.Nat.{ℕ, ◌*◌, ◌≤◌}
use mathlib.Core.Path.{◌≡◌, refl}
use mathlib.Core.List.{List, [], ◌∷◌}
use mathlib.Core.Logic.{◌≢◌}
use native.Mathlib.Omega.{arith}
use borrow.Author.Tests.{le-leb}
use lib.ListN.{length}
use Rattle.bits.specs.Bits.{bits_from}
use Rattle.bits.specs.Reader.{refused}
use Rattle.bits.specs.Field.{field}
use Rattle.bits.proofs.BitLaws.{bits_from-lt, bits_from-split}
use Rattle.bits.proofs.PayloadLaws.{whole-refused}
use Rattle.stereo.specs.State.{lost}
use Rattle.stereo.specs.Header.{mode, switch, header_fields, header}
use Rattle.stereo.specs.Payload.{payload}
use Rattle.stereo.specs.declared.State.{State}
use Rattle.stereo_reader.specs.Reading.{from, refusal, read_bytes}
use Rattle.stereo_reader.proofs.All.{all as stereo_all}
use Rattle.channel.proofs.All.{all as channel_all}
use Rattle.promises.specs.Bench.{bench, AllHold}

-- a header is there, IID is enabled, and its mode is 6
mode_6 : (st : State) (s : List ℕ) (end : ℕ) → 5 ≤ end → bits_from s 0 5 ≡ 30 → payload st s 0 end ≡ refused 13 2
unfolding payload header header_fields switch mode field
mode_6 st s end h e =
    let a = bits_from-split s 0 1 4 in
    let b = bits_from-split s 1 1 3 in
    let there : bits_from s 0 1 ≡ 1 = omega (arith, a, bits_from-lt s 0 1, bits_from-lt s 1 4) in
    let on : bits_from s 1 1 ≡ 1 = omega (arith, a, b, bits_from-lt s 1 1, bits_from-lt s 2 3) in
    let six : bits_from s 2 3 ≡ 6 = omega (arith, a, b) in
    rw (le-leb 1 end (omega arith), there, le-leb 2 end (omega arith), on, le-leb 5 end (omega arith), six)

begins_11110 : (st : State) (s : List ℕ) → s ≢ [] → bits_from s 0 5 ≡ 30 → read_bytes st s ≡ refusal 13 2 (lost st)
unfolding read_bytes
begins_11110 st [] h e = absurd (h refl)
begins_11110 st (x ∷ s) h e =
    rw (whole-refused (payload (from st)) (x ∷ s) 13 2 (mode_6 (from st) (x ∷ s) (8 * length (x ∷ s)) (omega arith) e))

pub bench-holds : AllHold bench
unfolding bench stereo_all channel_all
bench-holds =
    (refl, (refl, (refl, (refl, (begins_11110, (refl, (refl, (refl, (refl, (refl, (refl, (refl, (refl, (refl, (refl, tt)))))))))))))))
