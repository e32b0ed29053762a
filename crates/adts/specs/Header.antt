-- The header of an ADTS frame: 56 bits, field by field.
use Rattle.std.specs.Prelude.{ℕ, eqb}
use Rattle.bits.specs.Reader.{Reader, give, expecting, ◌>>=◌}
use Rattle.bits.specs.Field.{field}
use Rattle.bits.specs.Sampling.{known_index}

-- what is kept of a header: the sampling index, and the frame's length in bytes, the header's 7 among them
pub record Header : Type 0 where
  pub index : ℕ
  pub length : ℕ

-- the syncword, which is twelve ones, or 50
unfoldable pub syncword : Reader ℕ
syncword = expecting 50 (λ v. eqb v 4095) (field 12)

-- a field of n bits that has to be a number, or 51
unfoldable pub only : ℕ → ℕ → Reader ℕ
only number n = expecting 51 (λ v. eqb v number) (field n)

-- the sampling index, which is one that streams have, or 51
unfoldable pub sampling_index : Reader ℕ
sampling_index = expecting 51 known_index (field 4)

-- the fixed half: the syncword; a free bit of the version; layer 0; protection_absent, as there are no check words; profile 1, low
-- complexity; the sampling index; a free private bit; one channel; free bits: original, home
unfoldable pub fixed_half : Reader ℕ
fixed_half = do
  sync ← syncword
  version ← field 1
  layer ← only 0 2
  absent ← only 1 1
  profile ← only 1 2
  index ← sampling_index
  private ← field 1
  channels ← only 1 3
  original ← field 1
  home ← field 1
  give index

-- the other half: two free bits of the copyright; the frame's length; the buffer's fullness, which is free; one raw block, less one
unfoldable pub variable_half : Reader ℕ
variable_half = do
  id ← field 1
  start ← field 1
  size ← field 13
  fullness ← field 11
  blocks ← only 0 2
  give size

unfoldable pub header : Reader Header
header = do
  index ← fixed_half
  size ← variable_half
  give (record { index = index; length = size })
