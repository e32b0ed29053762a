-- The state that is carried from payload to payload.
use Rattle.std.specs.Prelude.{ℕ, ◌≡◌, Bool, true, false, not, ◌&&◌, ◌||◌}
use Rattle.stereo_indices.specs.Record.{is_none, none, sound_mode, sound_record}
use Rattle.stereo_indices.specs.declared.Kind.TheVariants.{Iid, Icc, Ipd, Opd}
use Rattle.stereo.specs.declared.Setup.{Setup}
use Rattle.stereo.specs.declared.State.{State}

-- a mode was sent: 7 stands for none
abbrev pub is_sent : ℕ → Bool
is_sent mode = not (is_none mode)

-- nothing enabled, and no modes
unfoldable pub fresh_setup : Setup
fresh_setup = record { iid = false; icc = false; ext = false; iidmode = 7; iccmode = 7 }

-- nothing enabled, no modes, no records, in step
unfoldable pub fresh : State
fresh = record { setup = fresh_setup; iid = none; icc = none; ipd = none; opd = none; instep = true }

-- modes 0..5, and a mode sent for an enabled IID or ICC
unfoldable pub sound_setup : Setup → Bool
sound_setup f =
    sound_mode f.iidmode && sound_mode f.iccmode && (not f.iid || is_sent f.iidmode) && (not f.icc || is_sent f.iccmode)

-- a sound state: a sound set-up, and in each record every index in range with zeros above the count
unfoldable pub sound : State → Bool
sound st = sound_setup st.setup && sound_record Iid st.iid && sound_record Icc st.icc && sound_record Ipd
    st.ipd && sound_record Opd st.opd

-- out of step, and nothing else touched
abbrev pub lost : State → State
lost st = record { setup = st.setup; iid = st.iid; icc = st.icc; ipd = st.ipd; opd = st.opd; instep = false }

-- what is promised of the state before any payload, and of the verdict on a state
abbrev pub FreshPromise : State → Type 0
FreshPromise r = r ≡ fresh

abbrev pub SoundPromise : State → Bool → Type 0
SoundPromise st r = r ≡ sound st
