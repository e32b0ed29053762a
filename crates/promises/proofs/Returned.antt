-- What comes back from each function for C has the number that the call gives, 0 or of the table, and its place.
-- Assumes nothing.
use mathlib.Core.Path.{◌≡◌, refl, ◌∙◌, ap}
use mathlib.Core.List.{[], ◌∷◌}
use mathlib.Core.Bool.{Bool, true, false, ◌&&◌}
use lib.Dec.{leb}
use lib.ListN.{length}
use Rattle.bits.specs.Reader.{Answer}
use Rattle.bits.specs.Calls.{◌or◌, first_refusal, first_number, returned, returned_of, number_in, place_in}
use Rattle.bits.specs.Packed.{bytes_for}
use Rattle.bits.specs.Payload.{is_there, bytes_in}
use Rattle.bits.proofs.CallLaws.{first-passed, number-kept, place_kept}
use Rattle.channel.specs.Stream.{Stream}
use Rattle.channel.specs.Promise.{have_room, reading_of}
use Rattle.adts.specs.Promise.{header_at, stream_at, fitted}
use Rattle.stereo_reader.specs.declared.Reading.{Reading}
use Rattle.c_layout.specs.StateBytes.{state_at, sound_bytes}
use Rattle.c_channel.specs.ReadChannel as channel_c
use Rattle.c_stereo.specs.ReadStereo as stereo_c
use Rattle.c_adts.specs.ReadFrame as frame_c
use Rattle.c_adts.specs.UnwrapFrame as unwrap_c
use Rattle.c_adts.specs.WrapStream as wrap_c
use Rattle.promises.specs.Refusals.{is_answered}
use Rattle.promises.proofs.Refusals.{bytes-answered, channel-answered, answered-small}
use Rattle.promises.proofs.FrameNumbers.{frame-answered, unwrap-answered, wrap-call-refusals, answered}
use Rattle.promises.proofs.Places.{answer-kept}

-- the channel reader
pub channel-returned : (c : channel_c.Call)
    → (number_in (returned_of (channel_c.channel_call c)) ≡ (reading_of (channel_c.channel_call c)).number)
    × (place_in (returned_of (channel_c.channel_call c)) ≡ (reading_of (channel_c.channel_call c)).place)
channel-returned c = answer-kept (channel_c.channel_call c) (channel-answered c)

-- the stereo reader, past what is judged before any bit
pub stereo-returned : (c : stereo_c.Call) → first_number (stereo_c.tests_of c) ≡ 0
    → (number_in (stereo_c.stereo_returned c) ≡ (stereo_c.stereo_reading c).number)
    × (place_in (stereo_c.stereo_returned c) ≡ (stereo_c.stereo_reading c).place)
unfolding stereo_c.stereo_returned
stereo-returned c e =
    let r = stereo_c.stereo_reading c in
    let came = first-passed (stereo_c.tests_of c) (λ n. n) (returned r.number r.place) tt e in
    let small = answered-small r.number (bytes-answered (state_at c.state) (bytes_in c.payload)) in
    (ap number_in came ∙ number-kept r.number r.place small, ap place_in came ∙ place_kept r.number r.place small)

-- and its number is 0 or of the table, whatever is judged
pub stereo-call-answered : (c : stereo_c.Call) → is_answered (number_in (stereo_c.stereo_returned c)) ≡ true
unfolding stereo_c.stereo_returned
stereo-call-answered c = by_tests (is_there c.payload) (leb 582 (length c.answer)) (sound_bytes c.state)
  where
    r : Reading
    r = stereo_c.stereo_reading c

    by_tests : (a b d : Bool)
        → is_answered (number_in (first_refusal (a or 1 ∷ b or 2 ∷ d or 4 ∷ []) (λ n. n) (returned r.number r.place))) ≡ true
    by_tests true true true =
        let told = bytes-answered (state_at c.state) (bytes_in c.payload) in
        rw (number-kept r.number r.place (answered-small r.number told)) told
    by_tests true true false = refl
    by_tests true false d = refl
    by_tests false b d = refl

-- reading, unwrapping and wrapping a frame
module _ (c : frame_c.Call) where
  abbrev room : Bool
  room = leb 22 (length c.answer) && have_room c.outputs

  abbrev read : Answer Stream
  read = stream_at c.file c.start (header_at c.file c.start room)

  pub frame-returned : (number_in (returned_of read) ≡ (reading_of read).number) × (place_in (returned_of read) ≡ (reading_of read).place)
  frame-returned = answer-kept read (frame-answered c.file c.start room)

module _ (c : unwrap_c.Call) where
  abbrev fit : Bool
  fit = leb 22 (length c.answer)

  abbrev cut : Answer Stream
  cut = fitted bytes_for (length c.out) (stream_at c.file c.start (header_at c.file c.start fit))

  pub unwrap-returned : (number_in (returned_of cut) ≡ (reading_of cut).number) × (place_in (returned_of cut) ≡ (reading_of cut).place)
  unwrap-returned = answer-kept cut (unwrap-answered c.file c.start fit (length c.out))

pub wrap-returned : (c : wrap_c.Call)
    → (number_in (returned_of (wrap_c.wrap_call c)) ≡ (reading_of (wrap_c.wrap_call c)).number)
    × (place_in (returned_of (wrap_c.wrap_call c)) ≡ (reading_of (wrap_c.wrap_call c)).place)
wrap-returned c = answer-kept (wrap_c.wrap_call c) (answered (wrap_c.wrap_call c) (wrap-call-refusals c))
