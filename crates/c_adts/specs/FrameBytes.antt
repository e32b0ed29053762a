-- A frame's answer is 22 bytes: the 17 of a channel answer, the frame's length as a word, the sampling index.
use Rattle.std.specs.Prelude.{ℕ, List, [], ◌∷◌, ◌++◌}
use Rattle.bits.specs.Bytes.{word_of}
use Rattle.bits.specs.Calls.{answered}
use Rattle.c_channel.specs.ReadChannel.{channel_bytes}
use Rattle.adts.specs.declared.Framed.{Framed}

unfoldable pub frame_bytes : Framed → List ℕ
frame_bytes r = channel_bytes r.reading ++ word_of r.length ++ r.index ∷ []

-- the answer afterwards
abbrev pub frame_answer_after : Framed → List ℕ → List ℕ
frame_answer_after r old = answered r.reading.number (frame_bytes r) old
