-- A part of an announced size, and the bits that are left over in it.
use Rattle.std.specs.Prelude.{ℕ, ◌+◌, ◌-◌, leb, eqb}
use Rattle.bits.specs.Bits.{bits_from}
use Rattle.bits.specs.Reader.{Answer, got, refused, Reader, pick}

-- another number stands in place of 10
abbrev pub renumbered : {A : Type 0} → ℕ → Answer A → Answer A
renumbered short (got a next) = got a next
renumbered short (refused n place) = refused (pick (eqb n 10) short n) place

-- a reader inside a part of n bits: 10 at once where the part passes the end; inside, its end is the part's end
unfoldable pub inside : {A : Type 0} → ℕ → ℕ → Reader A → Reader A
inside n short r s at end = pick (leb (at + n) end) (renumbered short (r s at (at + n))) (refused 10 at)

-- bits that are left over: how many, and their number
pub record Fill : Type 0 where
  pub count : ℕ
  pub value : ℕ

-- all bits up to the end, handed on where they are few enough; where more are left, the other reader says why not
unfoldable pub left_over : ℕ → Reader Fill → Reader Fill
left_over most other s at end =
    pick (leb (end - at) most) (got (record { count = end - at; value = bits_from s at (end - at) }) (at + (end - at))) (other s at end)
