-- There are three bases, and each is divided by as it stands.
use Prim.Native.Nat.{ℕ}
use mathlib.Core.Path.{◌≡◌}
use mathlib.Core.Logic.{inl, inr}
use Rattle.channel_words.specs.InnerWords.{PairBase}
use Rattle.channel_words.proofs.pairs.first_number.Goals as goal

-- the third, where it is neither of the others
third : (base : ℕ) → PairBase base → (base ≡ 8 → ⊥) → (base ≡ 13 → ⊥) → base ≡ 17
third base (inl e) a b = absurd (a e)
third base (inr (inl e)) a b = absurd (b e)
third base (inr (inr e)) a b = e

pub returns-then-base-eq8 : goal.returns-then-base-eq8
returns-then-base-eq8 c = rw c.if-base-eq8.true

pub returns-then-base-eq13 : goal.returns-then-base-eq13
returns-then-base-eq13 c = rw c.if-base-eq13.true

pub returns : goal.returns
returns c = rw (third _ c.requires c.if-base-eq8.false c.if-base-eq13.false)
