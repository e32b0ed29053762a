-- The stereo writer: refusals in the order 4, 40, 35, 2.
use Rattle.std.specs.Prelude.{ℕ, ◌≡◌, List, [], ◌∷◌, ◌++◌, Bool, ◌||◌, eqb, leb, length, drop}
use Rattle.bits.specs.Reader.{pick}
use Rattle.bits.specs.Pieces.{total}
use Rattle.bits.specs.Packed.{bytes_for, packed}
use Rattle.bits.specs.Writable.{writable}
use Rattle.bits.specs.Calls.{Test, ◌or◌, first_refusal}
use Rattle.stereo.specs.State.{sound}
use Rattle.stereo.specs.Payload.{payload}
use Rattle.stereo.specs.Carried.{carried}
use Rattle.stereo.specs.Restart.{restart}
use Rattle.stereo_reader.specs.Reading.{from}
use Rattle.stereo.specs.declared.State.{State}
use Rattle.stereo.specs.declared.Contents.{Contents}
use Rattle.stereo_writer.specs.declared.Written.{Written}
use Rattle.stereo_writer.specs.Spelling.{spelling}
use Rattle.stereo_writer.specs.Same.{same_contents}

-- contents can be written from a state: reading their spelling gives them back
unfoldable pub can_write : State → Contents → Bool
can_write st = writable same_contents (payload st) (spelling st)

-- a refusal: nothing is written, and the state stays
abbrev pub unwritten : ℕ → State → Written
unwritten n st = record { number = n; bits = 0; state = st }

-- what is judged: the state, the contents, the step, and whether the payload fits so many bytes
abbrev pub write_tests : State → Contents → ℕ → List Test
write_tests st c room =
    sound st or 4
    ∷ can_write (from st) c or 40
    ∷ (st.instep || restart c) or 35
    ∷ leb (bytes_for (total (spelling (from st) c))) room or 2
    ∷ []

-- a success leaves what the reader would hold
unfoldable pub writing : State → Contents → ℕ → Written
writing st c room =
    first_refusal (write_tests st c room) (λ n. unwritten n st)
    (record { number = 0; bits = total (spelling (from st) c); state = carried (from st) c })

-- the buffer afterwards: the payload, its last byte filled up with zero bits, and the bytes past it untouched; a refusal leaves it
unfoldable pub written_over : Written → State → Contents → List ℕ → List ℕ
written_over w st c out =
    pick (eqb w.number 0) (packed (spelling (from st) c) ++ drop (bytes_for (total (spelling (from st) c))) out) out

-- what is promised of the writer: the answer, and the lent buffer afterwards
abbrev pub WritePromise : List ℕ → State → Contents → Written → List ℕ → Type 0
WritePromise out st c r after = (r ≡ writing st c (length out)) × (after ≡ written_over r st c out)
