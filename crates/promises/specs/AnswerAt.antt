-- What a program in C takes out of the bytes of a channel answer and of a frame's answer.
use Rattle.std.specs.Prelude.{ℕ, List, get_or, take, drop}
use Rattle.bits.specs.Bits.{bits_from}
use Rattle.channel.specs.declared.Reading.{Reading}
use Rattle.adts.specs.declared.Framed.{Framed}

-- 17 bytes: the bits used, a word; gain, window sequence, window shape, max_sfb, the number of groups; the windows of eight groups
abbrev pub reading_at : List ℕ → Reading
reading_at s =
    record {
      number = 0;
      place = 0;
      bits = bits_from s 0 32;
      gain = get_or s 4 0;
      sequence = get_or s 5 0;
      shape = get_or s 6 0;
      max_sfb = get_or s 7 0;
      group_count = get_or s 8 0;
      groups = take 8 (drop 9 s);
    }

-- 22 bytes: a channel answer; the frame's length, a word; the sampling index
abbrev pub framed_at : List ℕ → Framed
framed_at s = record { reading = reading_at s; length = bits_from s 136 32; index = get_or s 21 0 }
