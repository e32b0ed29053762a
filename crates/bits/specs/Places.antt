-- Places of refusals: a reader that counts as one field, the place at hand, and a refusal at another place.
use Rattle.std.specs.Prelude.{ℕ}
use Rattle.bits.specs.Reader.{Answer, got, refused, Reader}

-- a refusal is moved to the place where the reading began
abbrev pub placed : {A : Type 0} → Answer A → ℕ → Answer A
placed (got a next) at = got a next
placed (refused n place) at = refused n at

-- a reader that counts as one field
unfoldable pub one_field : {A : Type 0} → Reader A → Reader A
one_field r s at end = placed (r s at end) at

-- the place at hand
unfoldable pub here : Reader ℕ
here s at end = got at at

-- a refusal at another place
unfoldable pub refuse_at : {A : Type 0} → ℕ → ℕ → Reader A
refuse_at n place s at end = refused n place
