-- What the code of the scale factors cites: a factor by the word at its place, and what is left of the loop.
-- Assumes nothing.
use Prim.Native.Nat.{ℕ, ◌+◌, ◌-◌, ◌<◌, ◌≤◌}
use mathlib.Core.Path.{◌≡◌, refl}
use mathlib.Core.List.{List}
use native.Mathlib.Omega.{arith}
use lib.ListN.{length}
use Rattle.bits.specs.Reader.{got, refused, Reader, give, ◌>>=◌}
use Rattle.bits.specs.Loop.{counted}
use Rattle.bits.proofs.LoopLaws.{counted_start, counted-more, counted_stop, counted-done}
use Rattle.tables.specs.GeneratedWords.{all_lens}
use Rattle.tables.specs.Tables.{word_of, lens_of}
use Rattle.tables.specs.GeneratedNames.{scale_factor}
use Rattle.tables.proofs.Rules.{spelt-at}
use Rattle.channel_side.specs.Factors.{Factors, band_factor, first_factors}

factor_words : length (lens_of scale_factor) ≡ 121
unfolding all_lens
factor_words = refl

-- an entry of the scale factor table
pub entry_below : (s : List ℕ) (at end e m : ℕ) → word_of scale_factor s at end ≡ got e m → e < 121
entry_below s at end e m q = let w = (spelt-at 0).law s at end m e q in omega (arith, w.4.1, factor_words)

abbrev state : ℕ → List ℕ → Factors
state last values = record { last = last; values = values }

-- what is left of the loop
unfoldable pub rest : ℕ → ℕ → ℕ → List ℕ → List ℕ → Reader (List ℕ)
rest i n last books values = counted i (n - i) (band_factor books) (state last values) >>= λ x. give x.values

module _ (n last : ℕ) (books values s : List ℕ) (at end : ℕ) where
  pub rest_start : first_factors n last books values s at end ≡ rest 0 n last books values s at end
  unfolding first_factors rest
  rest_start = rw (counted_start (band_factor books) n (state last values) s at end)

  pub rest_stop : (i r p : ℕ) → i < n → band_factor books i (state last values) s at end ≡ refused r p
      → rest i n last books values s at end ≡ refused r p
  unfolding rest
  rest_stop i r p h e = rw (counted_stop (band_factor books) i n (state last values) s at end r p h e)

  pub rest_more : (i v m : ℕ) (vs : List ℕ) → i < n → band_factor books i (state last values) s at end ≡ got (state v vs) m
      → rest i n last books values s at end ≡ rest (i + 1) n v books vs s m end
  unfolding rest
  rest_more i v m vs h e = rw (counted-more (band_factor books) i n (state last values) (state v vs) s at end m h e)

  pub rest_done : (i : ℕ) → n ≤ i → rest i n last books values s at end ≡ got values at
  unfolding rest
  rest_done i h = rw (counted-done (band_factor books) i n (state last values) s at end h)

-- what the code cites
pub ruleset rest_laws = (rest_start, rest_stop, rest_more, rest_done)
