-- What the reader's functions promise is one turn of a run each, and the stereo reader is steady.
-- Assumes nothing.
use Prim.Native.Nat.{ℕ}
use mathlib.Core.Path.{◌≡◌, refl, ◌∙◌}
use mathlib.Core.List.{[], ◌∷◌}
use mathlib.Core.Bool.{Bool, true, false, ◌||◌}
use lib.Dec.{eqb}
use borrow.Author.Tests.{ne_eqb}
use Rattle.bits.specs.Reader.{Answer, got, refused, pick}
use Rattle.bits.specs.Payload.{Range, is_there, bytes_in, whole}
use Rattle.bits.specs.Calls.{◌or◌, first_refusal}
use Rattle.stereo.specs.State.{sound, lost}
use Rattle.stereo.specs.Payload.{payload}
use Rattle.stereo.specs.Restart.{restart}
use Rattle.stereo_reader.specs.Reading.{from, refusal, acceptance, taken, reading_of, read_bytes, read_from, missing}
use Rattle.stereo.specs.declared.State.{State}
use Rattle.stereo.specs.declared.Contents.{Contents}
use Rattle.stereo.proofs.StateLaws.{fresh-sound, lost-sound}
use Rattle.stereo_laws.proofs.SoundLaws.{carried-sound}
use Rattle.stereo_laws.proofs.RestartLaws.{same_read, same-carried}
use Rattle.stereo_laws.proofs.PayloadNumbers.{whole-not_0}
use Rattle.runs.specs.Machine.{payload as given, missing as reporting, reported, turn, untouched, losing, accepted, concluded}
use Rattle.runs.specs.Damage.{Steady}
use Rattle.promises.specs.Run.{stereo, turn_of, report_of}

pub steady : Steady stereo
steady = record {
  same_read = same_read;
  same-carried = same-carried;
  out-of-step = λ st. refl;
  fresh-sound = fresh-sound;
  lost-sound = λ st h. lost-sound st ∙ h;
  carried-sound = λ st s c n h e. carried-sound st s n c h e;
}

-- a payload
pub reads : (st : State) (p : Range) → turn stereo st (given p) ≡ turn_of (read_from st p)
unfolding read_from read_bytes taken
reads st p =
    go (is_there p) (sound st) (whole (payload (from st)) (bytes_in p))
    (λ n place q. ne_eqb n 0 (whole-not_0 (from st) (bytes_in p) n place q))
  where
    step : (c : Contents) (n : ℕ) (t : Bool)
        → pick t (accepted stereo st c n) (losing stereo st 35 n)
        ≡ turn_of (pick t (acceptance st c n) (refusal 35 n (lost st)))
    step c n true = refl
    step c n false = refl

    go : (a b : Bool) (x : Answer Contents) → ((n place : ℕ) → x ≡ refused n place → eqb n 0 ≡ false)
        → first_refusal (a or 1 ∷ b or 4 ∷ []) (untouched stereo st) (concluded stereo st x)
        ≡ turn_of (first_refusal (a or 1 ∷ b or 4 ∷ []) (λ n. refusal n 0 st) (reading_of st x))
    go false b x h = refl
    go true false x h = refl
    go true true (got c n) h = step c n (st.instep || restart c)
    go true true (refused n place) h = rw (h n place refl)

-- a report
pub reports : (st : State) → turn stereo st reporting ≡ report_of (missing st)
unfolding missing
reports st = go (sound st)
  where
    go : (b : Bool)
        → pick b (record { outcome = reported; state = lost st }) (untouched stereo st 4)
        ≡ report_of (pick b (record { number = 0; state = lost st }) (record { number = 4; state = st }))
    go true = refl
    go false = refl
