-- The faults a bench has shown, payloads of a published run, and a damaged run, computed.
-- Assumes nothing.
use Prim.Native.Nat.{ℕ}
use mathlib.Core.Path.{◌≡◌, refl}
use mathlib.Core.List.{List, [], ◌∷◌, map}
use mathlib.Core.Bool.{true, false}
use lib.IntN.{ℤ, pos}
use Rattle.bits.specs.Reader.{refused}
use Rattle.bits.specs.Payload.{range_in}
use Rattle.stereo_indices.specs.Record.{none, record_of}
use Rattle.bits.specs.Lists.{padded}
use Rattle.stereo_indices.specs.Indices.{index}
use Rattle.stereo_indices.specs.Rows.{no_rows, no_row}
use Rattle.stereo_indices.specs.declared.Kind.TheVariants.{Icc}
use Rattle.stereo_indices.specs.declared.Record.{Record}
use Rattle.stereo_indices.specs.declared.Row.{Row}
use Rattle.stereo.specs.State.{fresh, lost}
use Rattle.stereo.specs.Frame.{no_borders}
use Rattle.stereo.specs.Extension.{no_extension}
use Rattle.stereo.specs.Payload.{no_contents}
use Rattle.stereo_reader.specs.Reading.{refusal, read_from}
use Rattle.stereo.specs.declared.State.{State}
use Rattle.stereo.specs.declared.Contents.{Contents}
use Rattle.stereo_reader.proofs.All.{all}
use Rattle.runs.specs.Machine.{Event, payload, Outcome, answered, refusal as refusing, reported, Turn, run}
use Rattle.promises.specs.Bench.{accepted}
use Rattle.promises.specs.Run.{stereo}

-- 34 indices, a row across frequency or time, and a record
abbrev row : ℕ → List ℤ → Row
row time xs = record { time = time; indices = padded 34 (pos 0) xs }

abbrev kept : ℕ → List ℤ → Record
kept mode xs = record_of mode (padded 34 (pos 0) xs)

-- ICC enabled in a mode, with its record
abbrev with_icc : ℕ → Record → State
with_icc mode h = record {
  setup = record { iid = false; icc = true; ext = false; iidmode = 7; iccmode = mode };
  iid = none;
  icc = h;
  ipd = none;
  opd = none;
  instep = true;
}

-- IID enabled in a mode, with a record
abbrev with_iid : ℕ → Record → State
with_iid mode h = record {
  setup = record { iid = true; icc = false; ext = false; iidmode = mode; iccmode = 7 };
  iid = h;
  icc = none;
  ipd = none;
  opd = none;
  instep = true;
}

abbrev five : List ℤ
five = pos 5 ∷ pos 5 ∷ pos 5 ∷ pos 5 ∷ pos 5 ∷ pos 5 ∷ pos 5 ∷ pos 5 ∷ pos 5 ∷ pos 5 ∷ pos 5 ∷ []

-- out of step, 00 00: 12 still
lost_0000 : read_from (lost fresh) (range_in (0 ∷ 0 ∷ []) 0 2) ≡ refusal 12 4 (lost fresh)
unfolding all
lost_0000 = refl

-- coherence is not taken modulo 8
coherence_7 : index Icc 0 1 (padded 34 (pos 0) (pos 7 ∷ [])) [] (128 ∷ []) 0 8 ≡ refused 32 0
unfolding all
coherence_7 = refl

-- time coding where the new mode came in an earlier payload with no envelopes: 31
time_31 : read_from (with_iid 1 (kept 0 (pos 7 ∷ []))) (range_in (24 ∷ []) 0 1) ≡ refusal 31 4 (lost (with_iid 1 (kept 0 (pos 7 ∷ []))))
unfolding all
time_31 = refl

-- a range outside the buffer: 1, before an unsound state: 4
order_1_4 : (read_from (with_iid 7 none) (range_in (0 ∷ []) 0 2) ≡ refusal 1 0 (with_iid 7 none))
    × (read_from (with_iid 7 none) (range_in (0 ∷ []) 0 1) ≡ refusal 4 0 (with_iid 7 none))
unfolding all
order_1_4 = (refl, refl)

-- a published run: the second payload, and the fourth after it
abbrev second : List ℕ
second = 164 ∷ 95 ∷ 224 ∷ 3 ∷ 255 ∷ 128 ∷ 0 ∷ []

published : (read_from fresh (range_in second 0 7) ≡ accepted 50 (record {
  header = record { there = 1; iid = 0; iidmode = 0; icc = 1; iccmode = 1; ext = 0 };
  frame = record { class = 0; envelopes = 1; borders = no_borders };
  iid = no_rows;
  icc = row 0 five ∷ no_row ∷ no_row ∷ no_row ∷ [];
  extension = no_extension;
}) (with_icc 1 (kept 1 five)))
    × (read_from (with_icc 1 (kept 1 five)) (range_in (0 ∷ []) 0 1) ≡ accepted 4 no_contents (with_icc 1 (kept 1 five)))
unfolding all
published = (refl, refl)

-- a restart is accepted out of step, and brings the state into step: demand 3 is not said of nothing
abbrev restarting : List ℕ
restarting = 196 ∷ 8 ∷ 0 ∷ 0 ∷ 0 ∷ []

pub accepted-out_of_step : ((read_from (lost fresh) (range_in restarting 0 5)).number ≡ 0)
    × ((read_from (lost fresh) (range_in restarting 0 5)).bits ≡ 35)
    × ((read_from (lost fresh) (range_in restarting 0 5)).state.instep ≡ true)
unfolding all
accepted-out_of_step = (refl, refl, refl)

-- a damaged run: a restart, torn; "keep what you had", which out of step is 35; the restart, whole; "keep what you had"
-- each answered with 0, and refused with its number and its place
abbrev spoken : Outcome Contents → List ℕ
spoken (answered c n) = 0 ∷ []
spoken (refusing n place) = n ∷ place ∷ []
spoken reported = 0 ∷ []

abbrev damaged : List Event
damaged =
    payload (range_in (196 ∷ []) 0 1)
    ∷ payload (range_in (0 ∷ []) 0 1)
    ∷ payload (range_in restarting 0 5)
    ∷ payload (range_in (0 ∷ []) 0 1)
    ∷ []

pub damaged-run : map (λ (t : Turn State Contents). spoken t.outcome) (run stereo fresh damaged)
    ≡ (10 ∷ 6 ∷ []) ∷ (35 ∷ 4 ∷ []) ∷ (0 ∷ []) ∷ (0 ∷ []) ∷ []
unfolding all
damaged-run = refl
