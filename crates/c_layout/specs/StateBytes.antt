-- The stereo state as 146 bytes: the three enable flags, the last IID and ICC modes sent (7 for none), the in-step mark; then a record for
-- each of IID, ICC, IPD and OPD, its mode (7 for none) and its 34 indices.
use Rattle.std.specs.Prelude.{ℕ, ◌+◌, List, [], ◌∷◌, ◌++◌, Bool, ◌&&◌, eqb, leb, length, get_or}
use Rattle.stereo_indices.specs.declared.Record.{Record}
use Rattle.stereo.specs.State.{sound}
use Rattle.stereo.specs.declared.State.{State}
use Rattle.bits.specs.Bytes.{byte_of, flag_byte}
use Rattle.c_layout.specs.Indices.{indices_at, numbered}

-- what stands before the records
unfoldable pub state_head : State → List ℕ
state_head st =
    flag_byte st.setup.iid ∷ flag_byte st.setup.icc ∷ flag_byte st.setup.ext ∷ byte_of st.setup.iidmode ∷ byte_of
    st.setup.iccmode
    ∷ flag_byte st.instep ∷ []

unfoldable pub record_bytes : Record → List ℕ
record_bytes h = numbered h.mode h.indices

-- the bytes of a state
unfoldable pub state_bytes : State → List ℕ
state_bytes st = state_head st ++ record_bytes st.iid ++ record_bytes st.icc ++ record_bytes st.ipd ++ record_bytes st.opd

-- the record at a place
unfoldable pub record_at : List ℕ → ℕ → Record
record_at s at = record { mode = get_or s at 0; indices = indices_at s (at + 1) }

-- the state that bytes stand for
unfoldable pub state_at : List ℕ → State
state_at s = record {
  setup = record {
    iid = eqb (get_or s 0 0) 1;
    icc = eqb (get_or s 1 0) 1;
    ext = eqb (get_or s 2 0) 1;
    iidmode = get_or s 3 0;
    iccmode = get_or s 4 0;
  };
  iid = record_at s 6;
  icc = record_at s 41;
  ipd = record_at s 76;
  opd = record_at s 111;
  instep = eqb (get_or s 5 0) 1;
}

abbrev pub is_flag : ℕ → Bool
is_flag b = leb b 1

-- 146 bytes are there, each flag is 0 or 1, and the state is sound
unfoldable pub sound_bytes : List ℕ → Bool
sound_bytes s =
    leb 146 (length s) && (is_flag (get_or s 0 0) && is_flag (get_or s 1 0) && is_flag (get_or s 2 0) && is_flag (get_or s 5 0)) && sound
    (state_at s)
